-- Where a store through a pointer goes.
pub mod Pages
pub mod Surveys
