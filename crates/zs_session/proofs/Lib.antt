pub mod Lives
pub mod Looked
pub mod SessionKeys
pub mod Sizes
pub mod Holding
pub mod Welcomes
pub mod Carrying
