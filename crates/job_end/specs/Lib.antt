pub mod Printouts
pub mod AuditLines
