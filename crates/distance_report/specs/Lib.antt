pub mod Report
pub mod Printed
