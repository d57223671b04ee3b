mod Settles
