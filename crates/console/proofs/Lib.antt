pub mod Filling
mod LineLaws
mod LineReading
pub mod Taking
mod VectorsOfEndings
mod VectorsOfWorlds
pub mod Worlds
