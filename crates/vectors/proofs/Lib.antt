mod Same
mod Counting
mod Words
