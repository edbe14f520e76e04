-- What reachable means, and the walk.
pub mod Reach
pub mod Walk
