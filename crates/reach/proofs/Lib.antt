-- What the walk finds, and the laws of reachability.
pub mod Turn
pub mod Once
pub mod Sound
pub mod Complete
pub mod Ends
pub mod Unique
pub mod Exact
pub mod More
pub mod Local
pub mod Finite
pub mod Example
