pub mod PortLaws
pub mod SpotLaws
pub mod SizeRowsCompute
