mod Signed16
mod Rests
mod Placing
