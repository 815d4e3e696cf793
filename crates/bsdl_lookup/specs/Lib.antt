pub mod Keyed
pub mod NamedPorts
pub mod View
pub mod Controls
pub mod Drivers
pub mod Table
pub mod PortNumbers
