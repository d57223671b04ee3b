mod Texts
mod Reading
