mod Branches
