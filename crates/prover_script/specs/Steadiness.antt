-- Derived: what a manner makes of a steady prover is steady.
use Rattle.std.proofs.Common.{◌≡◌, ℕ, Bool, true, false, List, Option, Some, None, option_map, nat_lt, nat_le, if◌then◌else◌, refl, ◌∙◌, ap, arith}
use Rattle.std.proofs.lemmas.Bool.Decides.{nat_tests}
use Rattle.rd_base.specs.declared.answer.Answer.{Answer}
use Rattle.rd_base.specs.declared.script.Manner.{Manner}
use Rattle.rd_base.specs.declared.script.Manner.TheVariants.{Plain, Late, Silent, Output, Forge, Noise, Tape}
use Rattle.prover_script.specs.Manners.{Behaviour, says, with_output, with_forgery, with_roots, noise, IsSteady}

-- an answer is altered as long as it is given
altered-is-steady : (f : Answer → Answer) (o w : Option Answer) → ((a : Answer) → o ≡ Some a → w ≡ Some a) → (a : Answer) → option_map f o ≡ Some a → option_map f w ≡ Some a
altered-is-steady f None w stays a said = absurd (cc)
altered-is-steady f (Some x) w stays a said = ap (option_map f) (stays x refl) ∙ said

-- a test that passes no more once it let an answer through
unless-is-steady : (b c : Bool) (o w : Option Answer) → (b ≡ false → c ≡ false) → ((a : Answer) → o ≡ Some a → w ≡ Some a) → (a : Answer) → (if b then None else o) ≡ Some a → (if c then None else w) ≡ Some a
unless-is-steady true c o w through stays a said = absurd (cc)
unless-is-steady false true o w through stays a said = let never : true ≡ false = through refl in absurd (cc)
unless-is-steady false false o w through stays a said = stays a said

pub manners_are_steady : (digest : List ℕ → List ℕ) (m : Manner) (inner : Behaviour) → IsSteady inner → IsSteady (says digest m inner)
manners_are_steady digest Plain inner steady q n k a more said = steady q n k a more said
manners_are_steady digest (Late many) inner steady q n k a more said =
    unless-is-steady (nat_lt n many) (nat_lt k many) (inner q n) (inner q k) (λ enough. grind (arith, nat_tests)) (λ b. steady q n k b more) a said
manners_are_steady digest (Silent from) inner steady q n k a more said =
    unless-is-steady (nat_le from q.qid.round) (nat_le from q.qid.round) (inner q n) (inner q k) (λ early. early) (λ b. steady q n k b more) a said
manners_are_steady digest (Output bytes) inner steady q n k a more said = altered-is-steady (with_output bytes q.kind) (inner q n) (inner q k) (λ b. steady q n k b more) a said
manners_are_steady digest (Forge step reg value) inner steady q n k a more said =
    altered-is-steady (with_forgery step reg value q.kind) (inner q n) (inner q k) (λ b. steady q n k b more) a said
manners_are_steady digest (Noise seed) inner steady q n k a more said =
    altered-is-steady (with_roots (noise digest seed q.qid) q.kind) (inner q n) (inner q k) (λ b. steady q n k b more) a said
manners_are_steady digest (Tape entries) inner steady q n k a more said = said
