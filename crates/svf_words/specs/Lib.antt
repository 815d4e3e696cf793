pub mod Faults
pub mod Keywords
pub mod Words
pub mod Measures
pub mod Numbers
pub mod Written
pub mod Within
