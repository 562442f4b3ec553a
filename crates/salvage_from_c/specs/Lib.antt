-- What a salvage from C answers, from numbers and byte runs.
pub mod Salvaging
