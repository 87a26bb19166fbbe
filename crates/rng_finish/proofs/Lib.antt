mod Together
mod Naming
mod Standing
mod Rests
mod Fits
mod Adding
