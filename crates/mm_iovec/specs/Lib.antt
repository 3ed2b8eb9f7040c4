pub mod Items
pub mod HeldView
pub mod Lines
