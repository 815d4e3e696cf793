pub mod StopLaws
pub mod ItemLaws
pub mod ChainLaws
pub mod AskingLaws
pub mod ScalarLaws
pub mod PortsNamed
