-- The laws of one group as read, over plain numbers and lists.
pub mod Numbers
pub mod Places
pub mod Times
pub mod Search
pub mod Frame
pub mod Dealing
pub mod Words
pub mod Moved
pub mod Answers
