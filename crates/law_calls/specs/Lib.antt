pub mod Named
pub mod PoolChanges
pub mod Replies
pub mod Stands
pub mod Premises
pub mod ByteChanges
pub mod Vectors
pub mod Promises
