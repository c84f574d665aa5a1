-- Derived: what workers made, each of one piece of a list.
use Rattle.std.specs.Prelude.{◌≡◌, ◌<◌, ℕ, List, length, Option, IfSome, slice_index_or}
use Rattle.std.specs.Fork.{slice_chunk}
use Rattle.std.specs.declared.vec.Vec.{Vec}
use Rattle.std.specs.declared.alloc.Global.{Global}
use Rattle.rd_base.specs.declared.digest.Digest32.{Digest32}
use Rattle.segment_replay.specs.Roots.{digests}

-- each piece, if it was made, is that chunk of the wanted list
abbrev pub ArePieces : List (List ℕ) → ℕ → List (Option (Vec Digest32 Global)) → Type 0
ArePieces wanted size pieces = (n : ℕ) (d : Option (Vec Digest32 Global)) → n < length pieces → IfSome (slice_index_or pieces n d) (λ v. digests v.items ≡ slice_chunk wanted size n)
