pub mod Loop
pub mod Called
