pub mod Sheet
pub mod Output
pub mod Evening
