pub mod Pushed
pub mod Partly
pub mod Decimal
