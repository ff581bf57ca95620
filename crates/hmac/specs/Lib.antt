pub mod Hmac
pub mod KeyBlock
pub mod Calls
pub mod Refusals
pub mod Yes
pub mod Fitting
