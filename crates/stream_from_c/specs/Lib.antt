-- What the calls of a capture as it arrives answer from C, from numbers and byte runs.
pub mod Streaming
