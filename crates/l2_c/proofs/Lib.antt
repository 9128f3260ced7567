mod Blocks
mod Elements
