mod Counted
mod Examples
mod Valid
