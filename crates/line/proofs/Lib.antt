mod Digits
mod Putting
