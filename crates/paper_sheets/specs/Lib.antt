pub mod Sheet
pub mod Written
pub mod Output
pub mod Evening
pub mod Promises
