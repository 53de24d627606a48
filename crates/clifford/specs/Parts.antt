pub mod ByLetter
