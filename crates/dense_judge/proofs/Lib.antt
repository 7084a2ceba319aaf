mod Gathers
mod Added
mod Steps
mod Ends
