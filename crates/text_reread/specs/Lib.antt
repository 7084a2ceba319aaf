pub mod Again
pub mod Chunks
pub mod Cut
pub mod GameLaws
pub mod Items
pub mod Parts
pub mod Spelled
pub mod Stands
