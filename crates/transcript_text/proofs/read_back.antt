-- A full text is read back: reading and writing are inverse to each other.
pub mod WordLemmas
pub mod LineLemmas
pub mod ReadLemmas
pub mod Forms
pub mod FieldLemmas
pub mod BackLemmas
pub mod HexSpellLemmas
pub mod SpellLemmas
pub mod EntrySpellLemmas
pub mod TextSpellLemmas
pub mod LimitLemmas
pub mod ExactLemmas
pub mod RecordLemmas
pub mod FaultLemmas
