-- A plan, kinds and times as C hands them over.
pub mod Numbers
pub mod Laws
