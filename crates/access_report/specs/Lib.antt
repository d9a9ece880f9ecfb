pub mod Access
pub mod Fronts
pub mod Reports
