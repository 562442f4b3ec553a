-- What both operations from C answer, from numbers and byte runs.
pub mod Splitting
