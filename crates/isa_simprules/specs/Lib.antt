pub mod Numbers
pub mod Roles
pub mod Opening
pub mod RulesOf
pub mod Renamings
pub mod Rules
pub mod Congruences
pub mod Worked
