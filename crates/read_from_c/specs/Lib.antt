-- What both readings from C answer, from numbers and byte runs.
pub mod Reading
