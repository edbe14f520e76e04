-- How the code's walk stands to the machine, what its map holds, and the laws of the three rules.
pub mod Link
pub mod Members
pub mod Rules
pub mod Possible
pub mod Local
