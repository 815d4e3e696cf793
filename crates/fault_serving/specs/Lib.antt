pub mod Firsts
pub mod Planes
pub mod Rows
pub mod Serving
pub mod Sifting
pub mod Words
pub mod Written
