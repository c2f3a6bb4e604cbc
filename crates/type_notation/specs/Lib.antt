pub mod TypeTexts
pub mod Shapes
