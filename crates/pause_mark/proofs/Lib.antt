mod Locales
mod FourStrings
