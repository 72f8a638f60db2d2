mod Words
pub mod Pieces
pub mod Walking
pub mod Places
pub mod KnownRows
pub mod Executed
pub mod SentRows
pub mod VectorsOfLeads
pub mod VectorsOfRows
