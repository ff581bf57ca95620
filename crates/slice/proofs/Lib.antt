pub mod Tests
pub mod Injective
pub mod Exact
pub mod Chain
