-- The parts of a match are within the limits.
use Rattle.std.proofs.Common.{◌≡◌, ℕ, zero, suc, ◌+◌, ◌-◌, ◌*◌, ◌^◌, ◌<◌, ◌≤◌, nat_lt, Bool, true, false, ◌⊎◌, inl, inr, List, [], ◌∷◌, ◌++◌, length, slice_get, Option, Some, None, Ok, if◌then◌else◌, refl, sym, ◌∙◌, ap, arith, subst}
use Rattle.std.proofs.lemmas.Bool.Decides.{nat_tests}
use Rattle.std.proofs.lemmas.Bool.{cases_Bool}
use Rattle.std.proofs.Math.Pow.{pow_mono}
use Rattle.std.proofs.Math.Nat.{pow-le-pow_left, mul-le-mul_right}
use Rattle.rd_base.specs.declared.answer.Qid.{Qid}
use Rattle.rd_base.specs.declared.answer.Answer.TheVariants as answer
use Rattle.rd_base.specs.declared.status.Status.{Status}
use Rattle.rd_base.specs.declared.status.Status.TheVariants.{Running, Exited, Trapped}
use Rattle.rd_base.specs.declared.claim.Claim.{Claim}
use Rattle.bisect_game.specs.declared.settled.Round.{Round}
use Rattle.bisect_game.specs.declared.settled.Settled.{Settled}
use Rattle.bisect_game.specs.declared.settled.Settled.TheVariants.{Given, Faulty, Spent}
use Rattle.bisect_game.specs.Rules.{Rules, ArePlayable}
use Rattle.bisect_game.specs.Closing.{is_step}
use Rattle.bisect_game.specs.Bisection.{Bisection, rounds_of}
use Rattle.proof_wire.specs.Wire.{status as status_form, wire_form}
use Rattle.tournament.specs.declared.reading.Verdict.{Verdict}
use Rattle.tournament.specs.declared.reading.Verdict.TheVariants as verdict
use Rattle.tournament.specs.Bracket.{Record, claim_in, verdict_of}
use Rattle.tournament.specs.Posting.{Post, record_after}
use Rattle.tournament.specs.Theorem.{FewDisputes, FewRounds, AllShort, IsShort}
use Rattle.transcript_text.specs.declared.text.Head.{Head}
use Rattle.transcript_text.specs.declared.text.TextMove.{TextMove}
use Rattle.transcript_text.specs.declared.text.Stated.{Stated}
use Rattle.transcript_text.specs.declared.text.Stated.TheVariants as stated
use Rattle.transcript_text.specs.MoveLists.{qid_of, move_if, moves_of_claims, moves_of_round, moves_of_past, moves_of_dispute, moves_of_disputes, moves_of}
use Rattle.tournament.specs.Numbers.{IsProver, AreNumbered, IsOfProvers, RecordsAreOfProvers}
use Rattle.transcript_text.specs.StatedVerdict.{settled_at, given_claim, stated_claim, stated_of, VerdictsAreStated}
use Rattle.transcript_text.specs.FullLines.{HasWireForm, AreWritten}
use Rattle.transcript_text.specs.Laws.{text_parts}
use Rattle.rd_base.specs.Status.{HasWordCode}
use Rattle.transcript_text.specs.reader.InLimits.{AreBytes, IsHeadInLimits, IsMoveInLimits, AreMovesInLimits, IsStatedInLimits, IsInLimits}
use Rattle.transcript_text.specs.reader.Laws.{IsHeadOf, HasStrings, IsReadBack, ReadsRecordsBack, MatchesAreReadBack}
use Rattle.transcript_text.proofs.read_back.LimitLemmas.{moves-both}

-- lists of moves

written-first : (ms ns : List TextMove) → AreWritten (ms ++ ns) → AreWritten ms
written-first [] ns w = tt
written-first (m ∷ ms) ns w = (w.0, written-first ms ns w.1)

written-last : (ms ns : List TextMove) → AreWritten (ms ++ ns) → AreWritten ns
written-last [] ns w = w
written-last (m ∷ ms) ns w = written-last ms ns w.1

-- two lists, of which the parts are within the limits
joined-moves : (m : ℕ) (ms ns : List TextMove) → (AreWritten ms → AreMovesInLimits m ms) → (AreWritten ns → AreMovesInLimits m ns) → AreWritten (ms ++ ns) → AreMovesInLimits m (ms ++ ns)
joined-moves m ms ns f g w = moves-both m ms ns (f (written-first ms ns w)) (g (written-last ms ns w))

one-move : (m : ℕ) (qid : Qid) (p : ℕ) (o : Option Settled) → qid.dispute < 4294967296 → qid.round < 4294967296 → IsProver m p → AreWritten (move_if qid p o) → AreMovesInLimits m (move_if qid p o)
one-move m qid p None d r i w = tt
one-move m qid p (Some s) d r i w = (record { dispute = d; round = r; prover = i; settled = w.0 }, tt)

claim-moves : (m p : ℕ) (ss : List (Option Settled)) → 1 ≤ p → p + length ss ≤ suc m → AreWritten (moves_of_claims p ss) → AreMovesInLimits m (moves_of_claims p ss)
claim-moves m p [] low high w = tt
claim-moves m p (s ∷ ss) low high w =
    joined-moves m (move_if (qid_of 0 0) p s) (moves_of_claims (p + 1) ss)
    (one-move m (qid_of 0 0) p s (omega arith) (omega arith) (low, omega (arith, high)))
    (claim-moves m (p + 1) ss (omega arith) (omega (arith, high))) w

round-moves : (m number first second round : ℕ) (a b : Option Settled) → number < 4294967296 → round < 4294967296 → IsProver m first → IsProver m second →
    AreWritten (moves_of_round number first second round a b) → AreMovesInLimits m (moves_of_round number first second round a b)
round-moves m number first second round a b n r i j w =
    joined-moves m (move_if (qid_of number round) first a) (move_if (qid_of number round) second b) (one-move m (qid_of number round) first a n r i) (one-move m (qid_of number round) second b n r j) w

past-moves : (m number first second round : ℕ) (rs : List Round) → number < 4294967296 → round + length rs ≤ 4294967296 → IsProver m first → IsProver m second →
    AreWritten (moves_of_past number first second round rs) → AreMovesInLimits m (moves_of_past number first second round rs)
past-moves m number first second round [] n r i j w = tt
past-moves m number first second round (x ∷ xs) n r i j w =
    joined-moves m (moves_of_round number first second round (Some x.first) (Some x.second)) (moves_of_past number first second (round + 1) xs)
    (round-moves m number first second round (Some x.first) (Some x.second) n (omega (arith, r)) i j)
    (past-moves m number first second (round + 1) xs n (omega (arith, r)) i j) w

dispute-moves : (m : ℕ) (d : Bisection) → d.number < 4294967296 → length d.past + 1 < 4294967296 → IsProver m d.first → IsProver m d.second → AreWritten (moves_of_dispute d) → AreMovesInLimits m (moves_of_dispute d)
dispute-moves m d n r i j w =
    joined-moves m (moves_of_past d.number d.first d.second 1 d.past) (moves_of_round d.number d.first d.second (length d.past + 1) d.by_first d.by_second)
    (past-moves m d.number d.first d.second 1 d.past n (omega (arith, r)) i j)
    (round-moves m d.number d.first d.second (length d.past + 1) d.by_first d.by_second n r i j) w

-- rounds are few

few-by : (fan bound k : ℕ) → 2 ≤ fan → fan ≤ 16 → bound < 4294967296 → fan ^ k < fan * bound → k < 36
few-by fan bound k low high short less =
    elim (cases_Bool (nat_lt k 36)) [
      | inl few ↦ (let f : nat_lt k 36 ≡ true = few in grind (arith, nat_tests))
      | inr many ↦
          let f : nat_lt k 36 ≡ false = many in
          let far : 36 ≤ k = grind (arith, nat_tests) in
          let a : 2 ^ 36 ≤ 2 ^ k = pow_mono far in
          let b : 2 ^ k ≤ fan ^ k = pow-le-pow_left low k in
          let c : fan * bound ≤ 16 * bound = mul-le-mul_right bound high in
          absurd (far-off (2 ^ k) (fan ^ k) (fan * bound) bound a b less c short)
    ]
  where
    far-off : (x y z n : ℕ) → 68719476736 ≤ x → x ≤ y → y < z → z ≤ 16 * n → n < 4294967296 → ⊥
    far-off x y z n a b c d e = omega (arith, a, b, c, d, e)

-- a dispute of a match that is played by such rules
few-rounds : (rules : Rules) (d : Bisection) → 2 ≤ rules.setup.fan → rules.setup.fan ≤ 16 → rules.setup.bound < 4294967296 → IsShort rules d → length d.past + 1 < 4294967296
few-rounds rules d low high short i =
    let f : length d.past + (if is_step d.place then 0 else 1) < 36 = few-by rules.setup.fan rules.setup.bound (rounds_of d) low high short i.bisections in
    omega (arith, f)

disputes-moves : (rules : Rules) (n : ℕ) (ds : List Bisection) → 2 ≤ rules.setup.fan → rules.setup.fan ≤ 16 → rules.setup.bound < 4294967296 → n + length ds ≤ 4294967296 → AreNumbered rules.setup.provers n ds → AllShort rules ds →
    AreWritten (moves_of_disputes ds) → AreMovesInLimits rules.setup.provers (moves_of_disputes ds)
disputes-moves rules n [] low high short few is are w = tt
disputes-moves rules n (d ∷ ds) low high short few is are w =
    let number : d.number ≡ n = is.0.0 in
    joined-moves rules.setup.provers (moves_of_dispute d) (moves_of_disputes ds)
    (dispute-moves rules.setup.provers d (omega (arith, number, few)) (few-rounds rules d low high short are.0) is.0.1.0 is.0.1.1)
    (disputes-moves rules (n + 1) ds low high short (omega (arith, few)) is.1 are.1) w

-- what is stated

status-limits : (s : Status) → (status_form s).fits → HasWordCode s
status-limits Running f = tt
status-limits (Exited code) f = f.1
status-limits (Trapped code) f = f.1

claim-limits : (c : Claim) → (wire_form (answer.Claim c)).fits → IsStatedInLimits (stated.Accept c.ctl.status c.output)
claim-limits c f = (status-limits c.ctl.status f.1.1.1.0.1.0, f.1.1.1.1.1.1.1)

-- a claim that was given is written
given-written : (s : Option Settled) (p : ℕ) (c : Claim) → claim_in s ≡ Some c → AreWritten (move_if (qid_of 0 0) p s) → IsStatedInLimits (stated.Accept c.ctl.status c.output)
given-written None p c e w = absurd (cc)
given-written (Some (Given (answer.Claim x))) p c e w = subst (λ (y : Claim). IsStatedInLimits (stated.Accept y.ctl.status y.output)) (same e) (claim-limits x w.0)
  where
    same : Some x ≡ Some c → x ≡ c
    same h = cc
given-written (Some (Given (answer.Root x))) p c e w = absurd (cc)
given-written (Some (Given (answer.Roots xs))) p c e w = absurd (cc)
given-written (Some (Given (answer.Step x))) p c e w = absurd (cc)
given-written (Some (Faulty a)) p c e w = absurd (cc)
given-written (Some Spent) p c e w = absurd (cc)

claim-at : (p k : ℕ) (ss : List (Option Settled)) (c : Claim) → given_claim (slice_get ss k) ≡ Some c → AreWritten (moves_of_claims p ss) → IsStatedInLimits (stated.Accept c.ctl.status c.output)
claim-at p k [] c e w = absurd (cc)
claim-at p zero (s ∷ ss) c e w = given-written s p c e (written-first (move_if (qid_of 0 0) p s) (moves_of_claims (p + 1) ss) w)
claim-at p (suc k) (s ∷ ss) c e w = claim-at (p + 1) k ss c e (written-last (move_if (qid_of 0 0) p s) (moves_of_claims (p + 1) ss) w)

accepted-limits : (claims : List (Option Settled)) (p : ℕ) (s : Stated) → AreWritten (moves_of_claims 1 claims) → stated_claim (given_claim (settled_at claims p)) ≡ Some s → IsStatedInLimits s
accepted-limits claims zero s w e = absurd (cc)
accepted-limits claims (suc k) s w e = by (given_claim (slice_get claims k)) refl e
  where
    by : (o : Option Claim) → given_claim (slice_get claims k) ≡ o → stated_claim o ≡ Some s → IsStatedInLimits s
    by None is h = absurd (cc)
    by (Some c) is h = subst IsStatedInLimits (same h) (claim-at 1 k claims c is w)
      where
        same : Some (stated.Accept c.ctl.status c.output) ≡ Some s → stated.Accept c.ctl.status c.output ≡ s
        same i = cc

stated-limits : (claims : List (Option Settled)) (v : Verdict) (s : Stated) → AreWritten (moves_of_claims 1 claims) → HasStrings v → stated_of claims v ≡ Some s → IsStatedInLimits s
stated-limits claims (verdict.Accept p) s w strings e = accepted-limits claims p s w e
stated-limits claims verdict.NoneLeft s w strings e = subst IsStatedInLimits (same e) tt
  where
    same : Some stated.NoneLeft ≡ Some s → stated.NoneLeft ≡ s
    same h = cc
stated-limits claims (verdict.Collision x y) s w strings e = subst IsStatedInLimits (same e) strings
  where
    same : Some (stated.Collision x y) ≡ Some s → stated.Collision x y ≡ s
    same h = cc

-- the whole match

parts-in-limits : RecordsAreOfProvers → FewDisputes → FewRounds → (rules : Rules) (xs : List Post) (head : Head) (s : Stated) → ArePlayable rules → IsHeadOf rules head → IsHeadInLimits head →
    AreWritten (moves_of (record_after rules xs)) → HasStrings (verdict_of rules (record_after rules xs)) → stated_of (record_after rules xs).claims (verdict_of rules (record_after rules xs)) ≡ Some s → IsInLimits (text_parts head (record_after rules xs) s)
parts-in-limits of_provers few_disputes few_rounds rules xs head s playable of limits written strings is =
    let r : Record = record_after rules xs in
    let numbers : IsOfProvers rules.setup.provers (record_after rules xs) = of_provers rules xs in
    let provers : head.provers ≡ rules.setup.provers = of.provers in
    let most : head.provers ≤ 16 = limits.provers.1 in
    let some : 1 ≤ head.provers = limits.provers.0 in
    let fan : head.fan ≡ rules.setup.fan = of.fan in
    let low : 2 ≤ head.fan = limits.fan.0 in
    let high : head.fan ≤ 16 = limits.fan.1 in
    let bound : head.bound ≡ rules.setup.bound = of.bound in
    let short : head.bound ≤ 4294967295 = limits.bound.1 in
    let count : length (record_after rules xs).claims ≡ rules.setup.provers = numbers.claims in
    let disputes : length (record_after rules xs).disputes < rules.setup.provers = few_disputes rules xs (omega (arith, some, provers)) in
    let moves : AreMovesInLimits rules.setup.provers (moves_of (record_after rules xs)) =
    joined-moves rules.setup.provers (moves_of_claims 1 (record_after rules xs).claims) (moves_of_disputes (record_after rules xs).disputes)
    (claim-moves rules.setup.provers 1 (record_after rules xs).claims (omega arith) (omega (arith, count)))
    (disputes-moves rules 1 (record_after rules xs).disputes (omega (arith, fan, low)) (omega (arith, fan, high)) (omega (arith, bound, short)) (omega (arith, disputes, provers, most)) numbers.disputes (few_rounds rules xs playable)) written in
    record {
      head = limits;
      moves = subst (λ (m : ℕ). AreMovesInLimits m (moves_of (record_after rules xs))) (sym provers) moves;
      stated = stated-limits (record_after rules xs).claims (verdict_of rules (record_after rules xs)) s
          (written-first (moves_of_claims 1 (record_after rules xs).claims) (moves_of_disputes (record_after rules xs).disputes) written) strings is;
    }

pub matches-are-read-back : ReadsRecordsBack → VerdictsAreStated → RecordsAreOfProvers → FewDisputes → FewRounds → MatchesAreReadBack
matches-are-read-back back is_stated of_provers few_disputes few_rounds rules xs head playable of limits written strings =
    let st = is_stated rules (record_after rules xs) in
    let i : IsInLimits (text_parts head (record_after rules xs) st.0) = parts-in-limits of_provers few_disputes few_rounds rules xs head st.0 playable of limits written strings st.1 in
    record { stated = st.0; of_verdict = st.1; in_limits = i; read = back head (record_after rules xs) (verdict_of rules (record_after rules xs)) st.0 st.1 i }
