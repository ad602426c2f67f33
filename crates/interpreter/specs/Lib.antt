pub mod Lending
pub mod Execution
pub mod Histories
