-- Why the answers always have room.
pub mod Progress
