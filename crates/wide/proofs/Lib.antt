mod Steps
mod Indices
mod UvParts
mod Masks
mod Parts
mod CorePairs
mod CoreUv
mod CoreWhole
