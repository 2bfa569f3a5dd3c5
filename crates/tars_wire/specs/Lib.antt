pub mod Heads
pub mod Spelled
pub mod MachineSteps
pub mod Faults
pub mod ScanSteps
pub mod Left
pub mod PrefixSteps
pub mod Writable
