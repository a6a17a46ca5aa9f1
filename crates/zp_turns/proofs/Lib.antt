pub mod LastSlash
