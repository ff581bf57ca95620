pub mod ReplayAnswer
pub mod Difference
pub mod Replay
pub mod Number
pub mod Findings
pub mod Refusals
pub mod Injective
