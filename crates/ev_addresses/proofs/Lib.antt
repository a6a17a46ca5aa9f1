pub mod Characters
pub mod Local
pub mod Numbers
