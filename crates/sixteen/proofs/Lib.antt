mod Stores
mod Steps
