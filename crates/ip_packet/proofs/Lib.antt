pub mod Headers
pub mod Sums
pub mod Views
pub mod Pieces
pub mod OuterViews
