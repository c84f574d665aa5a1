pub mod NextEntry
pub mod LineByLine
pub mod BetweenLines
pub mod OwnMatch
pub mod TrueLines
pub mod Auditable
