pub mod Begun
pub mod Compiled
pub mod FileTexts
pub mod Naming
pub mod Planned
pub mod ScriptFrame
pub mod ScriptOfStream
pub mod Success
