mod Changing
mod Framing
mod Lengths
