-- A recorded run is a prover's, by its states and its bound.
use Rattle.std.proofs.Common.{◌+◌, ◌≡◌, ◌^◌, ◌≤◌, ◌<◌, ℕ, zero, suc, List, [], ◌∷◌, length, map, min, slice_index, slice_index_or, Option, Some, Iter, Bor, refl, sym, ap, ap₂, ◌∙◌, arith}
use Rattle.std.specs.declared.iter.Zip.{Zip}
use Rattle.std.specs.Iterator.{Yields}
use Rattle.std.specs.Iterator.Adapters.{zip_first, zip_second}
use Rattle.std.specs.Slice.Iter.{iter_rest}
use Rattle.std.proofs.iter.Yields.{fronts}
use Rattle.std.proofs.lemmas.Iterator.{zips}
use Rattle.std.proofs.lemmas.Slice.Zip.{zip_turn}
use Rattle.rd_base.specs.declared.digest.Digest32.{Digest32}
use Rattle.rd_base.specs.declared.answer.Answer.TheVariants as answer
use Rattle.rv_step.specs.State.{State}
use Rattle.checkpoint_run.specs.TamperedRun.{tampered, run_from}
use Rattle.checkpoint_run.specs.Recorded.{Recorded, state_of_step}
use Rattle.bisect_game.specs.declared.settled.Kind.{Kind}
use Rattle.bisect_game.specs.declared.settled.Kind.TheVariants as kind
use Rattle.segment_replay.specs.Roots.{root_of_state, root_at, digests}
use Rattle.prover_run.specs.Growing.{OutputGrowsSlowly}
use Rattle.bisect_game.specs.Bisection.{steps_asked}
use Rattle.plain_answers.specs.Plain.{plain, plain_root}
use Rattle.prover_run.specs.Prover.{Prover, IsRunOf, run_of, root_of}

-- as many roots as steps
pub same_length : (root : ℕ → List ℕ) (steps : List ℕ) (roots : List Digest32) → digests roots ≡ map root steps → length steps ≡ length roots
same_length root [] [] same = refl
same_length root [] (r ∷ rs) same = absurd (cc)
same_length root (x ∷ xs) [] same = absurd (cc)
same_length root (x ∷ xs) (r ∷ rs) same = let rest = same_length root xs rs (cc) in omega arith

-- the one at a place
pub root_of_place : (root : ℕ → List ℕ) (steps : List ℕ) (roots : List Digest32) (place : ℕ) (d : Digest32) → digests roots ≡ map root steps → place < length steps
    → (slice_index_or roots place d).0 ≡ root (slice_index steps place)
root_of_place root [] roots place d same inside = absurd (omega arith)
root_of_place root (x ∷ xs) [] place d same inside = absurd (cc)
root_of_place root (x ∷ xs) (r ∷ rs) zero d same inside = cc
root_of_place root (x ∷ xs) (r ∷ rs) (suc place) d same inside = root_of_place root xs rs place d (cc) (omega arith)

-- and the one beside a step, where a loop goes through steps and roots
pub root_beside : (root : ℕ → List ℕ) (steps : List ℕ) (roots : List Digest32) (before : List (Bor ℕ × Bor Digest32)) (all left later : Zip (Iter ℕ) (Iter Digest32)) (next : Option (Bor ℕ × Bor Digest32)) (step : Bor ℕ) (d : Bor Digest32)
    → digests roots ≡ map root steps → iter_rest (zip_first all) ≡ steps → iter_rest (zip_second all) ≡ roots → Yields (zips fronts fronts) all before left → next ≡ Some (step, d) → zips fronts fronts left next later
    → d.now.0 ≡ root step.now
root_beside root steps roots before all left later next step d same first second yields is goes =
    let at = zip_turn steps roots before all left later next first second yields (step, d) is goes in
    ap (λ (x : Digest32). x.0) (at.3 d.now) ∙ root_of_place root steps roots (length before) d.now same at.0 ∙ ap root (sym (at.2 0))

-- the states of a recorded run, by its first state and its tamper
pub states_of : (p : Prover) (r : Recorded) → r.first ≡ tampered p.tamper 0 p.start → r.tamper ≡ p.tamper → state_of_step r ≡ run_of p
states_of p r first tamper = ap (λ t. run_from t r.first) tamper ∙ ap (run_from p.tamper) first

-- the roots of the run are the prover's
pub roots_of_run : (digest : List ℕ → List ℕ) (p : Prover) (r : Recorded) → IsRunOf digest p r → root_of digest p ≡ root_at digest r
unfolding root_of
roots_of_run digest p r is =
    ap (λ (run : ℕ → State). let f : ℕ → List ℕ = λ i. root_of_state digest (run (min i p.bound)) in f) (sym is.states)
    ∙ ap (λ (bound : ℕ). let f : ℕ → List ℕ = λ i. root_of_state digest (state_of_step r (min i bound)) in f) (sym is.bound)

-- and so are the plain answers
pub answers_of_run : (digest : List ℕ → List ℕ) (p : Prover) (r : Recorded) (k : Kind) → IsRunOf digest p r → plain digest (state_of_step r) r.bound k ≡ plain digest (run_of p) p.bound k
answers_of_run digest p r k is =
    ap (λ (run : ℕ → State). plain digest run r.bound k) is.states ∙ ap (λ (bound : ℕ). plain digest (run_of p) bound k) is.bound

-- a root is the answer to the question for it
pub root_answers : (digest : List ℕ → List ℕ) (p : Prover) (k : Kind) (step : ℕ) (r : Digest32) → k ≡ kind.Root step → r.0 ≡ root_of digest p step → answer.Root r ≡ plain digest (run_of p) p.bound k
unfolding root_of
root_answers digest p k step r asked is =
    ap (λ (bytes : List ℕ). answer.Root (record { 0 = bytes })) is ∙ ap (plain digest (run_of p) p.bound) (sym asked)

-- and several roots are the answer to the question for them

roots_of_digests : (digest : List ℕ → List ℕ) (p : Prover) (steps : List ℕ) (roots : List Digest32) → digests roots ≡ map (root_of digest p) steps
    → roots ≡ map (plain_root digest (run_of p) p.bound) steps
unfolding root_of
roots_of_digests digest p [] [] same = refl
roots_of_digests digest p [] (r ∷ rs) same = absurd (cc)
roots_of_digests digest p (i ∷ steps) [] same = absurd (cc)
roots_of_digests digest p (i ∷ steps) (r ∷ rs) same =
    let first : r.0 ≡ root_of_state digest (run_of p (min i p.bound)) = cc in
    ap₂ (λ (x : Digest32) (xs : List Digest32). x ∷ xs) (λ j. record { 0 = first j }) (roots_of_digests digest p steps rs (cc))

pub roots_answer : (digest : List ℕ → List ℕ) (p : Prover) (k : Kind) (lo hi parts : ℕ) (roots : List Digest32) → k ≡ kind.Roots lo hi parts
    → digests roots ≡ map (root_of digest p) (steps_asked lo hi parts) → answer.Roots roots ≡ plain digest (run_of p) p.bound k
roots_answer digest p k lo hi parts roots asked same =
    ap answer.Roots (roots_of_digests digest p (steps_asked lo hi parts) roots same) ∙ ap (plain digest (run_of p) p.bound) (sym asked)

-- the last output of a run that begins with room for it can be claimed
pub last_output : OutputGrowsSlowly → (digest : List ℕ → List ℕ) (p : Prover) (r : Recorded) → IsRunOf digest p r → length p.start.output + p.bound < 2 ^ 32
    → length (state_of_step r r.bound).output ≤ 4294967295
last_output grows digest p r is room =
    let grown = grows p.tamper p.start p.bound in
    let same : length (state_of_step r r.bound).output ≡ length (run_of p p.bound).output =
    ap (λ (run : ℕ → State). length (run r.bound).output) is.states ∙ ap (λ (bound : ℕ). length (run_of p bound).output) is.bound in
    omega arith
