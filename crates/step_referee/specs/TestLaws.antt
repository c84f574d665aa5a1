-- Derived: the answer by tests is the one by the conditions that they decide, and so are the ticks, once for any list of tests. The law
-- `leading_is_decided` has the first as a clause.
use Rattle.std.proofs.Common.{◌≡◌, ◌↔◌, ◌⊎◌, inl, inr, ⊎_elim, ℕ, ◌+◌, List, [], ◌∷◌, length, Bool, true, false, true≢false, cond, is_some, Option, Some, None, refl, sym, ap, ◌∙◌}
use Rattle.std.proofs.lemmas.Bool.{and_parts, and_from}
use Rattle.std.proofs.lemmas.Bool.Decides.{Decides-eqb}
use Rattle.std.proofs.lemmas.Slice.Eq.{bytes_eq-Decides}
use Rattle.rd_base.specs.declared.digest.Digest32.{Digest32}
use Rattle.merkle_nodes.specs.Node.{digest_at}
use Rattle.merkle_nodes.specs.PathLaws.{opens-climbs, climbs-opens}
use Rattle.rv_step.specs.Fetching.{fetch_address}
use Rattle.open_proof.specs.Conditions.{Refusal, Condition, AllHold, FirstFails, conditions, LeadsFrom}
use Rattle.open_proof.specs.Conditions.Refusal.{shape, opening}
use Rattle.open_proof.specs.Facts.{named_called, operand_called, input_called}
use Rattle.open_proof.specs.Next.{root_before, root_next}
use Rattle.open_proof.specs.Openings.{AreCounted, is_counted, fetch_ways, named_ways, operand_ways, read_ways}
use Rattle.open_proof.specs.Ways.{Way, WayOpens, way_text, way_climbs, WaysOpen, ways_climb}
use Rattle.open_proof.specs.declared.facts.Facts.{Facts}
use Rattle.open_proof.specs.declared.facts.HeldRegisters.{HeldRegisters}
use Rattle.open_proof.specs.declared.facts.HeldRegisters.TheVariants.{Whole, Opened}
use Rattle.step_referee.specs.Tests.{refused, answer, is_called, tests, checked, ticked, checked_ticks}
use Rattle.step_referee.specs.Ticks.{TicksUntil, condition_digests, step_ticks}
use Rattle.step_referee.specs.declared.check.StepCheck.{StepCheck}
use Rattle.step_referee.specs.declared.check.StepCheck.TheVariants as check

-- tests that decide conditions, one by one
abbrev DecidesAll : List (Refusal × Bool) → List Condition → Type 0
DecidesAll [] [] = Unit {0}
DecidesAll (t ∷ ts) (c ∷ cs) = (t.0 ≡ c.refusal) × ((t.1 ≡ true) ↔ c.holds) × DecidesAll ts cs
DecidesAll ts cs = ⊥

refused-leads : (k : Refusal) (b : Digest32) → refused k ≡ check.Leads b → ⊥
refused-leads shape b is = cc
refused-leads opening b is = cc

refused-same : (k j : Refusal) → refused k ≡ refused j → k ≡ j
refused-same shape shape is = refl
refused-same shape opening is = absurd cc
refused-same opening shape is = absurd cc
refused-same opening opening is = refl

leads-same : (r b : Digest32) → check.Leads r ≡ check.Leads b → r ≡ b
leads-same r b is = cc

one-leads : (x : Bool) (holds : Type 0) (k : Refusal) (rest : StepCheck) (b : Digest32) (more : Type 0) → ((x ≡ true) ↔ holds) → ((rest ≡ check.Leads b) ↔ more)
    → (cond x rest (refused k) ≡ check.Leads b) ↔ (holds × more)
one-leads true holds k rest b more decides others = (λ is. (decides.0 refl, others.0 is), λ h. others.1 h.1)
one-leads false holds k rest b more decides others = (λ is. absurd (refused-leads k b is), λ h. absurd (true≢false (sym (decides.1 h.0))))

all-leads : (ts : List (Refusal × Bool)) (cs : List Condition) (root b : Digest32) → DecidesAll ts cs → (answer ts root ≡ check.Leads b) ↔ (AllHold cs × (root ≡ b))
all-leads [] [] root b decides = (λ is. (tt, leads-same root b is), λ h. ap check.Leads h.1)
all-leads [] (c ∷ cs) root b decides = absurd decides
all-leads (t ∷ ts) [] root b decides = absurd decides
all-leads (t ∷ ts) (c ∷ cs) root b decides =
    let one = one-leads t.1 c.holds t.0 (answer ts root) b (AllHold cs × (root ≡ b)) decides.1 (all-leads ts cs root b decides.2) in
    (λ is. let h = one.0 is in ((h.0, h.1.0), h.1.1), λ h. one.1 (h.0.0, (h.0.1, h.1)))

one-fails : (x : Bool) (holds : Type 0) (t c k : Refusal) (rest : StepCheck) (more : Type 0) → t ≡ c → ((x ≡ true) ↔ holds) → ((rest ≡ refused k) ↔ more)
    → (cond x rest (refused t) ≡ refused k) ↔ (((c ≡ k) × (¬ holds)) ⊎ (holds × more))
one-fails true holds t c k rest more same decides others =
    (λ is. inr (decides.0 refl, others.0 is), λ h. ⊎_elim (λ fails. absurd (fails.1 (decides.0 refl))) (λ passes. others.1 passes.1) h)
one-fails false holds t c k rest more same decides others = (
  λ is. inl (sym same ∙ refused-same t k is, λ h. true≢false (sym (decides.1 h))),
  λ h. ⊎_elim (λ fails. ap refused (same ∙ fails.0)) (λ passes. absurd (true≢false (sym (decides.1 passes.0)))) h,
)

first-fails : (ts : List (Refusal × Bool)) (cs : List Condition) (root : Digest32) (k : Refusal) → DecidesAll ts cs → (answer ts root ≡ refused k) ↔ FirstFails k cs
first-fails [] [] root k decides = (λ is. absurd (refused-leads k root (sym is)), λ h. absurd h)
first-fails [] (c ∷ cs) root k decides = absurd decides
first-fails (t ∷ ts) [] root k decides = absurd decides
first-fails (t ∷ ts) (c ∷ cs) root k decides =
    one-fails t.1 c.holds t.0 c.refusal k (answer ts root) (FirstFails k cs) decides.0 decides.1 (first-fails ts cs root k decides.2)

-- as many numbers as tests
abbrev HaveEach : List (Refusal × Bool) → List ℕ → Type 0
HaveEach [] [] = Unit {0}
HaveEach (t ∷ ts) (n ∷ ns) = HaveEach ts ns
HaveEach ts ns = ⊥

one-ticks : (x : Bool) (holds : Type 0) (more : ℕ → Type 0) (last rest : ℕ) → ((x ≡ true) ↔ holds) → more rest
    → ((¬ holds) × (cond x rest last ≡ last)) ⊎ (holds × more (cond x rest last))
one-ticks true holds more last rest decides others = inr (decides.0 refl, others)
one-ticks false holds more last rest decides others = inl (λ h. true≢false (sym (decides.1 h)), refl)

ticks-until : (ts : List (Refusal × Bool)) (cs : List Condition) (ns : List ℕ) (more old : ℕ) → DecidesAll ts cs → HaveEach ts ns → TicksUntil cs ns more old (ticked ts ns more old)
ticks-until [] [] [] more old decides each = refl
ticks-until [] [] (n ∷ ns) more old decides each = absurd each
ticks-until [] (c ∷ cs) ns more old decides each = absurd decides
ticks-until (t ∷ ts) [] ns more old decides each = absurd decides
ticks-until (t ∷ ts) (c ∷ cs) [] more old decides each = absurd each
ticks-until (t ∷ ts) (c ∷ cs) (n ∷ ns) more old decides each =
    one-ticks t.1 c.holds (TicksUntil cs ns more (old + n)) (old + n) (ticked ts ns more (old + n)) decides.1 (ticks-until ts cs ns more (old + n) decides.2 each)

-- what each test decides
called-shape : {A : Type 0} (o : Option A) (place : Option ℕ) → (is_called o place ≡ true) ↔ (is_some o ≡ is_some place)
called-shape (Some o) (Some place) = (λ test. refl, λ same. refl)
called-shape None None = (λ test. refl, λ same. refl)
called-shape (Some o) None = (λ test. absurd (true≢false (sym test)), λ same. absurd (true≢false same))
called-shape None (Some place) = (λ test. absurd (true≢false (sym test)), λ same. absurd (true≢false (sym same)))

way-decided : (digest : List ℕ → List ℕ) (w : Way) → (way_climbs digest w ≡ true) ↔ WayOpens digest w
way-decided digest w =
    let decides = bytes_eq-Decides w.root (digest (way_text digest w w.levels)) in (
      λ test. climbs-opens digest w.text (digest_at w.siblings) w.levels w.index w.root (decides.0 test),
      λ opens. decides.1 (opens-climbs digest w.text (digest_at w.siblings) w.levels w.index w.root opens),
    )

ways-decided : (digest : List ℕ → List ℕ) (ws : List Way) → (ways_climb digest ws ≡ true) ↔ WaysOpen digest ws
ways-decided digest [] = (λ test. tt, λ opens. refl)
ways-decided digest (w ∷ ws) =
    let first = way-decided digest w in
    let rest = ways-decided digest ws in (
      λ test. let both = and_parts (way_climbs digest w) (ways_climb digest ws) test in (first.0 both.0, rest.0 both.1),
      λ opens. and_from (way_climbs digest w) (ways_climb digest ws) (first.1 opens.0) (rest.1 opens.1),
    )

count-decided : (rs : List ℕ) (regs : HeldRegisters) → (is_counted rs regs ≡ true) ↔ AreCounted rs regs
count-decided rs (Whole xs) = (λ test. tt, λ counted. refl)
count-decided rs (Opened root named) = Decides-eqb (length named) (length rs)

same-digest : (x y : Digest32) → x.0 ≡ y.0 → x ≡ y
same-digest x y same = λ i. record { 0 = same i }

module _ (digest : List ℕ → List ℕ) (version : ℕ) (a : Digest32) (facts : Facts) where
  all-decided : DecidesAll (tests digest version a facts) (conditions digest version a facts)
  all-decided = (
    refl,
    Decides-eqb facts.version version,
    (
      refl,
      called-shape facts.fetch (fetch_address facts.ctl),
      (
        refl,
        bytes_eq-Decides a.0 (root_before digest facts),
        (
          refl,
          ways-decided digest (fetch_ways facts),
          (
            refl,
            count-decided (named_called facts) facts.regs,
            (
              refl,
              ways-decided digest (named_ways facts),
              (
                refl,
                called-shape facts.operand (operand_called facts),
                (
                  refl,
                  ways-decided digest (operand_ways facts),
                  (
                    refl,
                    called-shape facts.input (input_called facts),
                    (refl, ways-decided digest (read_ways facts), tt),
                  ),
                ),
              ),
            ),
          ),
        ),
      ),
    ),
  )

  pub checked-leads : (b : Digest32) → (checked digest version a facts ≡ check.Leads b) ↔ LeadsFrom digest version a facts b
  unfolding checked
  checked-leads b =
      let root : Digest32 = record { 0 = root_next digest facts } in
      let all = all-leads (tests digest version a facts) (conditions digest version a facts) root b all-decided in
      (λ is. let h = all.0 is in record { hold = h.0; root = ap (λ (d : Digest32). d.0) (sym h.1) }, λ h. all.1 (h.hold, same-digest root b (sym h.root)))

  pub checked-fails : (k : Refusal) → (checked digest version a facts ≡ refused k) ↔ FirstFails k (conditions digest version a facts)
  unfolding checked
  checked-fails k = first-fails (tests digest version a facts) (conditions digest version a facts) (record { 0 = root_next digest facts }) k all-decided

  pub checked-ticks : (old : ℕ) → TicksUntil (conditions digest version a facts) (condition_digests facts) (step_ticks digest facts) old (checked_ticks digest version a facts old)
  unfolding checked_ticks
  checked-ticks old = ticks-until (tests digest version a facts) (conditions digest version a facts) (condition_digests facts) (step_ticks digest facts) old all-decided tt
