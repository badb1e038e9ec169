pub mod Marks
pub mod Bitmap
