pub mod Lines
pub mod Reported
pub mod Printed
