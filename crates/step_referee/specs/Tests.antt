-- Derived, tied to the conditions of a proof by the law `leading_is_decided`: the answer by tests, in the order of the conditions.
use Rattle.std.specs.Prelude.{ℕ, ◌+◌, ◌==◌, List, [], ◌∷◌, Bool, true, false, Option, Some, None, bytes_eq, if◌then◌else◌}
use Rattle.rd_base.specs.declared.digest.Digest32.{Digest32}
use Rattle.rv_step.specs.Fetching.{fetch_address}
use Rattle.open_proof.specs.Conditions.{Refusal}
use Rattle.open_proof.specs.Conditions.Refusal.{shape, opening}
use Rattle.open_proof.specs.Facts.{named_called, operand_called, input_called}
use Rattle.open_proof.specs.Next.{root_before, root_next}
use Rattle.open_proof.specs.Openings.{is_counted, fetch_ways, named_ways, operand_ways, read_ways}
use Rattle.open_proof.specs.Ways.{ways_climb}
use Rattle.open_proof.specs.declared.facts.Facts.{Facts}
use Rattle.step_referee.specs.Ticks.{condition_digests, step_ticks}
use Rattle.step_referee.specs.declared.check.StepCheck.{StepCheck}
use Rattle.step_referee.specs.declared.check.StepCheck.TheVariants as check

-- the answer that a refusal is
abbrev pub refused : Refusal → StepCheck
refused shape = check.WrongShape
refused opening = check.NotOpen

-- the answer by tests, each with the refusal if it is the first that fails
abbrev pub answer : List (Refusal × Bool) → Digest32 → StepCheck
answer [] root = check.Leads root
answer (t ∷ ts) root = if t.1 then answer ts root else refused t.0

-- something is there if and only if it is called for
abbrev pub is_called : {A : Type 0} → Option A → Option ℕ → Bool
is_called (Some o) (Some place) = true
is_called None None = true
is_called o place = false

abbrev pub tests : (List ℕ → List ℕ) → ℕ → Digest32 → Facts → List (Refusal × Bool)
tests digest version a facts =
    (shape, facts.version == version)
    ∷ (shape, is_called facts.fetch (fetch_address facts.ctl))
    ∷ (opening, bytes_eq a.0 (root_before digest facts))
    ∷ (opening, ways_climb digest (fetch_ways facts))
    ∷ (shape, is_counted (named_called facts) facts.regs)
    ∷ (opening, ways_climb digest (named_ways facts))
    ∷ (shape, is_called facts.operand (operand_called facts))
    ∷ (opening, ways_climb digest (operand_ways facts))
    ∷ (shape, is_called facts.input (input_called facts))
    ∷ (opening, ways_climb digest (read_ways facts))
    ∷ []

-- the answer to a proof from the root a, for a referee of a version
unfoldable pub checked : (List ℕ → List ℕ) → ℕ → Digest32 → Facts → StepCheck
checked digest version a facts = answer (tests digest version a facts) (record { 0 = root_next digest facts })

-- a counter after tests, each with its digests, up to the first that fails; and after this many ticks more if none does
abbrev pub ticked : List (Refusal × Bool) → List ℕ → ℕ → ℕ → ℕ
ticked (t ∷ ts) (n ∷ ns) more old = if t.1 then ticked ts ns more (old + n) else old + n
ticked ts ns more old = old + more

-- the counter after the tests of a proof
unfoldable pub checked_ticks : (List ℕ → List ℕ) → ℕ → Digest32 → Facts → ℕ → ℕ
checked_ticks digest version a facts old = ticked (tests digest version a facts) (condition_digests facts) (step_ticks digest facts) old
