pub mod Pages
pub mod Words
pub mod Numbers
pub mod Theorems
