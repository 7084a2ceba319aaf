pub mod Hall
pub mod Items
pub mod Alone
pub mod Placed
pub mod Shapes
pub mod Options
