pub mod Printed
pub mod LimitsBack
pub mod UsersBack
