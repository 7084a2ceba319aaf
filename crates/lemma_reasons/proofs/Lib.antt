mod Standing
mod Left
mod Adding
mod Shapes
mod Rows
mod Answering
pub mod Asking
mod Told
mod Picking
mod Showing
