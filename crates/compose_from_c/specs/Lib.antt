-- What composing from C answers, from numbers and byte runs.
pub mod Composing
