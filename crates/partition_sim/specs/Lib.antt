pub mod Resuming
pub mod ActorPlans
pub mod Clients
pub mod Partitions
pub mod Standing
pub mod SmallRunners
pub mod Driving
pub mod Workers
