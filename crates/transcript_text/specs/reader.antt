-- To believe. What a full text is read as, and its first fault.
pub mod TextLines
pub mod Fields
pub mod Entries
pub mod ReadText
pub mod InLimits
pub mod Laws
