pub mod Tests
pub mod Refuse
pub mod Results
pub mod Outcome
pub mod Injective
