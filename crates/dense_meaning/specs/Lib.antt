pub mod Throughout
pub mod Plays
pub mod Kept
pub mod Leaves
pub mod BoxLaws
pub mod PlayLaws
pub mod ScopeLaws
pub mod PositionLaws
