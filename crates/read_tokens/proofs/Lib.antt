mod Lexing
mod Digits
mod Numbers
mod Steps
mod Words
