mod Arrays
mod Chunks
mod Halves
mod Steps
