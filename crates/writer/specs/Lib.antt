-- What writing a sheet gives; last, what the writer's own parts ask and answer.
pub mod Writer
pub mod Parts
