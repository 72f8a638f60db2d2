pub mod Certificate
pub mod Combinations
pub mod Playing
pub mod Regions
pub mod Walks
pub use Rattle.schedule_runs.specs.Due
pub use Rattle.schedule_runs.specs.Machine
