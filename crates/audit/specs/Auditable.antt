-- Derived: the conditions under which a text may be audited, which hold of every text that was read. The law `read_texts_may_be_audited`
-- shows it.
use Rattle.std.specs.Prelude.{◌≡◌, ℕ, ◌<◌, ◌≤◌, ◌^◌, List, Ok}
use Rattle.transcript_text.specs.declared.text.FullText.{FullText}
use Rattle.transcript_text.specs.reader.ReadText.{read_text}
use Rattle.audit.specs.LineByLine.{AreOfProvers}

pub record MayBeAudited (text : FullText) : Type 0 where
  pub some : 0 < text.head.provers
  pub few : text.head.provers ≤ 2 ^ 16
  pub steps : 0 < text.head.bound
  pub short : text.head.bound < 2 ^ 32
  pub parted : 1 < text.head.fan
  pub few_parts : text.head.fan ≤ 16
  pub provers : AreOfProvers text.head.provers text.moves

-- of every text that was read, whatever its bytes are
abbrev pub ReadTextsMayBeAudited : Type 0
ReadTextsMayBeAudited = (bytes : List ℕ) (text : FullText) → read_text bytes ≡ Ok text → MayBeAudited text
