pub mod Positions
pub mod Scripts
pub mod Gathered
pub mod HexDigits
pub mod Files
pub mod ManifestSteps
