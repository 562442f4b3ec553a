-- A capture as it arrives (document 02, K4): the definitions, the laws, and the promises.
pub mod Stream
pub mod StateNumbers
pub mod Laws
