-- The laws of disk sets, one concept a file. What stands above goes by these and never by a set's bits.
pub mod Tests
pub mod Membership
pub mod Operations
pub mod Bounds
pub mod Cardinality
pub mod LowestMember
pub mod Members
