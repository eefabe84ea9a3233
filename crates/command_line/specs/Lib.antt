pub mod ClapLine
pub mod CommandLine
pub mod Names
pub mod Options
pub mod Order
