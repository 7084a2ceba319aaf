pub mod Cuts
pub mod Fewer
pub mod Placing
pub mod Rooms
