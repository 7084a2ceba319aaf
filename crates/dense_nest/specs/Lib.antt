pub mod Opened
pub mod Places
pub mod Tallies
pub mod Telling
pub mod Goes
pub mod Answers
pub mod Ends
