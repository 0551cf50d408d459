mod Numerals
mod Blanks
