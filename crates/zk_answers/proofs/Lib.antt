pub mod FireLaws
