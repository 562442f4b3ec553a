-- What rests on the definitions of specs/: theorems that an edit of a definition makes false.
pub mod Laws
pub mod Promises
