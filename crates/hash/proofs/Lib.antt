mod Summed
mod Fitting
