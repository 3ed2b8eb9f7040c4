pub mod Held
pub mod Partners
pub mod Kept
pub mod TransferLemmas
pub mod DeliveryLemmas
pub mod ReplyLemmas
mod FreshHandle
