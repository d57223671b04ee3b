mod Bytes
mod OpenedTexts
mod Taken
mod Sums
mod Settled
