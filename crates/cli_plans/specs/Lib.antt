pub mod Success
