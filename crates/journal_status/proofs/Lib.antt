pub mod StatusChannels
pub mod StatusReports
pub mod StatusRecords
pub mod StatusGroups
pub mod StatusExact
pub mod StatusAcks
