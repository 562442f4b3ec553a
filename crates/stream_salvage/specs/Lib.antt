-- What a capture as it arrives and a salvage share (document 02, K4 and K10).
pub mod Laws
