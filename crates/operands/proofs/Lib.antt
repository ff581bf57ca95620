pub mod Tests
pub mod StepTests
pub mod RecordTests
pub mod Stored
pub mod Fitting
