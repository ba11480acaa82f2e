pub mod Braces
pub mod Ends
pub mod Sorting
pub mod Stops
pub mod Told
