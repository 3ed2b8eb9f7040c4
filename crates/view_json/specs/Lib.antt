pub mod ScriptsJson
pub mod StateJson
pub mod StatsJson
pub mod Values
pub mod WhyJson
