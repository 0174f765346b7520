pub mod Refusal
pub mod Place
pub mod Rule
pub mod RuleFault
pub mod RuleText
pub mod Evolution
pub mod Rows
