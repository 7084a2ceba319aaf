pub mod Tightening
pub mod Sides
pub mod Relations
pub mod Unequal
pub mod Demands
pub mod Rising
