-- What three numbers hold, what a word brings to it, and what that means to a caller.
pub mod Holding
pub mod Step
pub mod Meaning
pub mod Feeds
