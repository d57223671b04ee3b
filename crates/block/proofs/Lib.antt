pub mod Arrays
mod Numbers
