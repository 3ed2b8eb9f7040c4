mod Kept
pub mod Allowed
pub mod Steps
mod Performed
mod Due
pub mod Judged
pub mod Followed
mod Covered
mod OwnRam
mod Compared
mod Told
mod Audited
mod StoredBytes
