pub mod Decimal
pub mod Label
pub mod Pushed
