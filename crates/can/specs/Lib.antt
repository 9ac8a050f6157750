pub mod Can
