pub mod Cells
pub mod Piece
pub mod Spread
pub mod Held
pub mod Joined
pub mod Window
pub mod Missing
