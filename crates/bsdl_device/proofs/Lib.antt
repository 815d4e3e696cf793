mod FoundLaws
mod NameLaws
mod PortLaws
