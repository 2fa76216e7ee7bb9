mod Pieces
mod Held
mod Cuts
mod Known
