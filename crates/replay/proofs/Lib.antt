pub mod Agreeing
pub mod Words
pub mod Refusals
pub mod Findings
pub mod Injective
