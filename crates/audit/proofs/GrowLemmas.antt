-- In the order of the text each settled answer is one line more, and no two lines have one question.
use Rattle.std.proofs.Common.{◌≡◌, ◌≢◌, ℕ, zero, suc, ◌+◌, ◌-◌, ◌<◌, ◌≤◌, Bool, true, false, ◌&&◌, ◌==◌, if◌then◌else◌, List, [], ◌∷◌, ◌++◌, length, replicate, slice_get, Option, Some, None, is_none, inl, inr, refl, sym, ◌∙◌, ap, arith, append-nil, append_assoc}
use Rattle.std.proofs.lemmas.Bool.Decides.{nat_tests}
use Rattle.std.proofs.lemmas.Bool.{cases_Bool, and_parts}
use Rattle.std.proofs.Math.Bool.{and-false}
use Rattle.rd_base.specs.declared.answer.Qid.{Qid}
use Rattle.bisect_game.specs.declared.settled.Round.{Round}
use Rattle.bisect_game.specs.declared.settled.Question.{Question}
use Rattle.bisect_game.specs.declared.settled.Settled.{Settled}
use Rattle.bisect_game.specs.declared.settled.Side.TheVariants.{First, Second}
use Rattle.bisect_game.specs.Rules.{Rules}
use Rattle.bisect_game.specs.Bisection.{Bisection, question_of, asks, is_closed, settle_first, settle_second}
use Rattle.tournament.specs.Bracket.{Record, nothing_settled, claim_missing, settled_in, put, settle, stage_opened, is_stage_due, claims_collision, disputes_of, pairs, live, live_from, all_there, all_out, last_stage}
use Rattle.bisect_game.specs.Rules.{claim_question}
use Rattle.rd_base.specs.Questions.{same_qid}
use Rattle.transcript_text.specs.declared.text.TextMove.{TextMove}
use Rattle.transcript_text.specs.MoveLists.{qid_of, move_if, moves_of_claims, moves_of_round, moves_of_past, moves_of_dispute, moves_of_disputes, moves_of}
use Rattle.audit.specs.NextEntry.{next_claim, next_in, claim_or, next}
use Rattle.audit.specs.OwnMatch.{settled_by_lines}
use Rattle.audit.proofs.NextLemmas.{IsMissing, next-missing, none-missing, pair-first, pair-second}
use Rattle.audit.proofs.StatedLemmas.{eqb-same}
use Rattle.audit.proofs.OrderLemmas.{move_on, AllNone, ClaimsInOrder, order-none, set-order, set-moves, set-length, missing-not-there, none-all-there, AllBegun, DisputesInOrder, begun-moves, moves-both, out-order, HasSides, AllSided, sided-both, rising-live, pairs-in, sided-new, begun-new, SameSides, IsSettledIn, settled-first, settled-second, IsOpenSide, side-open, side-settled}

not-eqb : (a b : ℕ) → a ≢ b → (a == b) ≡ false
not-eqb a b e = grind (arith, nat_tests)

-- one dispute more is settled in

pub record IsGrown (provers n : ℕ) (ds es : List Bisection) (m : TextMove) : Type 0 where
  pub moves : moves_of_disputes es ≡ moves_of_disputes ds ++ m ∷ []
  pub order : DisputesInOrder es
  pub sides : AllSided n provers es

sides-kept : (n provers : ℕ) (d e : Bisection) → SameSides d e → HasSides n provers d → HasSides n provers e
sides-kept n provers d e k h = record {
  number = k.number ∙ h.number;
  some = rw k.first h.some;
  rise = rw (k.first, k.second) h.rise;
  few = rw k.second h.few;
}

grown-here : (n provers : ℕ) (d e : Bisection) (ds : List Bisection) (m : TextMove) → IsSettledIn d e m → AllBegun ds → DisputesInOrder ds → AllSided n provers (d ∷ ds) → IsGrown provers n (d ∷ ds) (e ∷ ds) m
grown-here n provers d e ds m i begun order sides = record {
  moves = ap (λ (ms : List TextMove). moves_of_dispute e ++ ms) (begun-moves ds begun) ∙ (append-nil (moves_of_dispute e) ∙ (i.moves
      ∙ ap (λ (ms : List TextMove). ms ++ m ∷ []) (sym (ap (λ (ms : List TextMove). moves_of_dispute d ++ ms) (begun-moves ds begun) ∙ append-nil (moves_of_dispute d)))));
  order = (λ still. (i.waits still, begun), order);
  sides = (sides-kept n provers d e i.sides sides.0, sides.1);
}

grown-later : (n provers : ℕ) (d : Bisection) (ds es : List Bisection) (m : TextMove) → is_closed d ≡ true → HasSides n provers d → IsGrown provers (n + 1) ds es m → IsGrown provers n (d ∷ ds) (d ∷ es) m
grown-later n provers d ds es m closed sides g = record {
  moves = ap (λ (ms : List TextMove). moves_of_dispute d ++ ms) g.moves ∙ sym (append_assoc (moves_of_dispute d) (moves_of_disputes ds) (m ∷ []));
  order = (λ still. absurd (let no : true ≡ false = sym closed ∙ still in cc), g.order);
  sides = (sides, g.sides);
}

closed-by : (d : Bisection) → asks First d ≡ false → asks Second d ≡ false → (is_closed d ≡ false → d.by_second ≡ None) → is_closed d ≡ true
closed-by d ex ey waits =
    elim (cases_Bool (is_closed d)) [
      | inl closed ↦ closed
      | inr still ↦ (let none : d.by_second ≡ None = waits still in let no : true ≡ false = sym (rw (none, still) refl) ∙ ey in absurd (cc))
    ]

grown-choice : (rules : Rules) (p n : ℕ) (s : Settled) (q : Question) (d : Bisection) (ds : List Bisection) (x y : Bool) → asks First d ≡ x → asks Second d ≡ y →
    DisputesInOrder (d ∷ ds) → AllSided n rules.setup.provers (d ∷ ds) →
    (if x then Some (d.first, question_of d) else if y then Some (d.second, question_of d) else next_in ds) ≡ Some (p, q) →
    (next_in ds ≡ Some (p, q) → IsGrown rules.setup.provers (n + 1) ds (settled_in rules p s ds) (move_on p q s)) →
    IsGrown rules.setup.provers n (d ∷ ds) (settled_in rules p s (d ∷ ds)) (move_on p q s)
grown-choice rules p n s q d ds true y ex ey order sides e rest =
    let at : d.first ≡ p = pair-first _ _ _ _ e in
    let is : question_of d ≡ q = pair-second _ _ _ _ e in
    let mine : (d.first == p) ≡ true = rw at (eqb-same p) in
    let o : IsOpenSide d.by_first d.close = side-open d.by_first d.close ex in
    let w : (d.by_second ≡ None) × AllBegun ds = order.0 o.still in
    let i : IsSettledIn d (settle_first rules.ruling s d) (move_on d.first (question_of d) s) = settled-first rules.ruling s d o.missing w.0 in
    rw (ex, mine, ← at, ← is) (grown-here n rules.setup.provers d (settle_first rules.ruling s d) ds _ i w.1 order.1 sides)
grown-choice rules p n s q d ds false true ex ey order sides e rest =
    let at : d.second ≡ p = pair-first _ _ _ _ e in
    let is : question_of d ≡ q = pair-second _ _ _ _ e in
    let mine : (d.second == p) ≡ true = rw at (eqb-same p) in
    let o : IsOpenSide d.by_second d.close = side-open d.by_second d.close ey in
    let w : (d.by_second ≡ None) × AllBegun ds = order.0 o.still in
    let a : (a : Settled) × (d.by_first ≡ Some a) = side-settled d.by_first d.close ex o.still in
    let i : IsSettledIn d (settle_second rules.ruling s d) (move_on d.second (question_of d) s) = settled-second rules.ruling s a.0 d a.1 w.0 in
    rw (ex, and-false (d.first == p), ey, mine, ← at, ← is) (grown-here n rules.setup.provers d (settle_second rules.ruling s d) ds _ i w.1 order.1 sides)
grown-choice rules p n s q d ds false false ex ey order sides e rest =
    let closed : is_closed d ≡ true = closed-by d ex ey (λ still. (order.0 still).0) in
    rw (ex, and-false (d.first == p), ey, and-false (d.second == p)) (grown-later n rules.setup.provers d ds (settled_in rules p s ds) (move_on p q s) closed sides.0 (rest e))

pub grown-in : (rules : Rules) (p n : ℕ) (s : Settled) (q : Question) (ds : List Bisection) → DisputesInOrder ds → AllSided n rules.setup.provers ds → next_in ds ≡ Some (p, q) →
    IsGrown rules.setup.provers n ds (settled_in rules p s ds) (move_on p q s)
grown-in rules p n s q [] order sides e = absurd (cc)
grown-in rules p n s q (d ∷ ds) order sides e =
    grown-choice rules p n s q d ds (asks First d) (asks Second d) refl refl order sides e (grown-in rules p (n + 1) s q ds order.1 sides.1)

-- RECORDS

pub record IsInOrder (rules : Rules) (t : Record) : Type 0 where
  pub counted : length t.claims ≡ rules.setup.provers
  pub claims : ClaimsInOrder t.claims
  pub early : all_there t.claims ≡ false → t.disputes ≡ []
  pub disputes : DisputesInOrder t.disputes
  pub sides : AllSided 1 rules.setup.provers t.disputes

replicate-length : (n : ℕ) (o : Option Settled) → length (replicate n o) ≡ n
replicate-length zero o = refl
replicate-length (suc n) o = ap suc (replicate-length n o)

pub order-nothing : (rules : Rules) → IsInOrder rules (nothing_settled rules)
order-nothing rules = record { counted = replicate-length rules.setup.provers None; claims = order-none rules.setup.provers; early = λ missing. refl; disputes = tt; sides = tt }

-- a record with one line more
pub record IsLonger (rules : Rules) (t u : Record) (m : TextMove) : Type 0 where
  pub moves : moves_of u ≡ moves_of t ++ m ∷ []
  pub order : IsInOrder rules u

put-by : (rules : Rules) (p : ℕ) (q : Question) (s : Settled) (t : Record) (o : Option ℕ) → IsInOrder rules t → next_claim 1 t.claims ≡ o →
    claim_or o (next_in t.disputes) ≡ Some (p, q) → IsLonger rules t (put rules p s t) (move_on p q s)
put-by rules p q s t (Some k) i e is =
    let at : k ≡ p = pair-first _ _ _ _ is in
    let what : claim_question ≡ q = pair-second _ _ _ _ is in
    let here : next_claim 1 t.claims ≡ Some p = e ∙ ap Some at in
    let missing : claim_missing (slice_get t.claims (p - 1)) ≡ true = (next-missing 1 p t.claims here).missing in
    let none : t.disputes ≡ [] = i.early (missing-not-there 1 p t.claims here) in
    rw (missing, ← what) (record {
      moves = rw none (append-nil _ ∙ (set-moves 1 p s t.claims here i.claims ∙ ap (λ (ms : List TextMove). ms ++ move_on p claim_question s ∷ []) (sym (append-nil (moves_of_claims 1 t.claims)))));
      order = record {
        counted = set-length t.claims (p - 1) (Some s) ∙ i.counted;
        claims = set-order 1 p s t.claims here i.claims;
        early = λ _. none;
        disputes = i.disputes;
        sides = i.sides;
      };
    })
put-by rules p q s t None i e is =
    let g : IsGrown rules.setup.provers 1 t.disputes (settled_in rules p s t.disputes) (move_on p q s) = grown-in rules p 1 s q t.disputes i.disputes i.sides is in
    let there : all_there t.claims ≡ true = none-all-there 1 t.claims e in
    rw (none-missing 1 (p - 1) t.claims e) (record {
      moves = ap (λ (ms : List TextMove). moves_of_claims 1 t.claims ++ ms) g.moves ∙ sym (append_assoc (moves_of_claims 1 t.claims) (moves_of_disputes t.disputes) (move_on p q s ∷ []));
      order = record {
        counted = i.counted;
        claims = i.claims;
        early = λ missing. absurd (let no : true ≡ false = sym there ∙ missing in cc);
        disputes = g.order;
        sides = g.sides;
      };
    })

-- the next stage adds no line

record IsOpened (rules : Rules) (t u : Record) : Type 0 where
  moves : moves_of u ≡ moves_of t
  order : IsInOrder rules u

opened-due : (rules : Rules) (t : Record) → IsInOrder rules t → all_there t.claims ≡ true → all_out t.disputes ≡ true →
    IsOpened rules t (record t { disputes = t.disputes ++ disputes_of rules (last_stage t.disputes + 1) (length t.disputes + 1) (pairs rules t) })
opened-due rules t i there out =
    let new : AllBegun (disputes_of rules (last_stage t.disputes + 1) (length t.disputes + 1) (pairs rules t)) = begun-new rules (last_stage t.disputes + 1) (length t.disputes + 1) (pairs rules t) in
    record {
      moves = ap (λ (ms : List TextMove). moves_of_claims 1 t.claims ++ ms)
          (moves-both t.disputes _ ∙ (ap (λ (ms : List TextMove). moves_of_disputes t.disputes ++ ms) (begun-moves _ new) ∙ append-nil (moves_of_disputes t.disputes)));
      order = record {
        counted = i.counted;
        claims = i.claims;
        early = λ missing. absurd (let no : true ≡ false = sym there ∙ missing in cc);
        disputes = out-order t.disputes _ out new;
        sides = sided-both 1 (length t.disputes + 1) rules.setup.provers t.disputes _ (omega arith) i.sides
            (sided-new rules (last_stage t.disputes + 1) (length t.disputes + 1) rules.setup.provers (pairs rules t)
            (pairs-in rules.ruling rules.setup.provers 1 rules.setup.provers (live t) (omega arith) (rising-live t.disputes 1 rules.setup.provers t.claims (omega (arith, i.counted)))));
      };
    }

opened-by : (rules : Rules) (t : Record) (b : Bool) → is_stage_due rules t ≡ b → IsInOrder rules t →
    IsOpened rules t (if b then record t { disputes = t.disputes ++ disputes_of rules (last_stage t.disputes + 1) (length t.disputes + 1) (pairs rules t) } else t)
opened-by rules t true due i =
    let parts : (all_there t.claims ≡ true) × ((all_out t.disputes && is_none (claims_collision rules.ruling (live_from [] 1 t.claims))) ≡ true) = and_parts _ _ due in
    let more : (all_out t.disputes ≡ true) × (is_none (claims_collision rules.ruling (live_from [] 1 t.claims)) ≡ true) = and_parts _ _ parts.1 in
    opened-due rules t i parts.0 more.0
opened-by rules t false due i = record { moves = refl; order = i }

opened : (rules : Rules) (t : Record) → IsInOrder rules t → IsOpened rules t (stage_opened rules t)
unfolding stage_opened
opened rules t i = opened-by rules t (is_stage_due rules t) refl i

-- each settled answer is one line more
pub grows : (rules : Rules) (p : ℕ) (q : Question) (s : Settled) (t : Record) → IsInOrder rules t → next t ≡ Some (p, q) → IsLonger rules t (settle rules p s t) (move_on p q s)
unfolding settle
grows rules p q s t i e =
    let l : IsLonger rules t (put rules p s t) (move_on p q s) = put-by rules p q s t (next_claim 1 t.claims) i refl e in
    let o : IsOpened rules (put rules p s t) (stage_opened rules (put rules p s t)) = opened rules (put rules p s t) l.order in
    record { moves = o.moves ∙ l.moves; order = o.order }

-- the next prover is one of the match
abbrev IsProver : ℕ → ℕ → Type 0
IsProver provers p = (0 < p) × (p ≤ provers)

prover-choice : (provers n : ℕ) (d : Bisection) (ds : List Bisection) (x y : Bool) (p : ℕ) (q : Question) → HasSides n provers d →
    (if x then Some (d.first, question_of d) else if y then Some (d.second, question_of d) else next_in ds) ≡ Some (p, q) → (next_in ds ≡ Some (p, q) → IsProver provers p) → IsProver provers p
prover-choice provers n d ds true y p q h e rest = let at : d.first ≡ p = pair-first _ _ _ _ e in (omega (arith, h.some, at), omega (arith, h.rise, h.few, at))
prover-choice provers n d ds false true p q h e rest = let at : d.second ≡ p = pair-first _ _ _ _ e in (omega (arith, h.some, h.rise, at), omega (arith, h.few, at))
prover-choice provers n d ds false false p q h e rest = rest e

prover-in : (provers n : ℕ) (ds : List Bisection) (p : ℕ) (q : Question) → AllSided n provers ds → next_in ds ≡ Some (p, q) → IsProver provers p
prover-in provers n [] p q sides e = absurd (cc)
prover-in provers n (d ∷ ds) p q sides e = prover-choice provers n d ds (asks First d) (asks Second d) p q sides.0 e (prover-in provers (n + 1) ds p q sides.1)

prover-by : (rules : Rules) (t : Record) (p : ℕ) (q : Question) (o : Option ℕ) → IsInOrder rules t → next_claim 1 t.claims ≡ o → claim_or o (next_in t.disputes) ≡ Some (p, q) → IsProver rules.setup.provers p
prover-by rules t p q (Some k) i e is =
    let at : k ≡ p = pair-first _ _ _ _ is in
    let m : IsMissing 1 k t.claims = next-missing 1 k t.claims e in
    (omega (arith, m.from, at), omega (arith, m.there, at, i.counted))
prover-by rules t p q None i e is = prover-in rules.setup.provers 1 t.disputes p q i.sides is

pub next-prover : (rules : Rules) (t : Record) (p : ℕ) (q : Question) → IsInOrder rules t → next t ≡ Some (p, q) → IsProver rules.setup.provers p
next-prover rules t p q i e = prover-by rules t p q (next_claim 1 t.claims) i refl e

-- NO TWO LINES HAVE ONE QUESTION

-- lines of which none is this prover's on this question
abbrev pub AreOther : ℕ → Qid → List TextMove → Type 0
AreOther p qid [] = Unit {0}
AreOther p qid (m ∷ ms) = (((m.prover == p) && same_qid m.qid qid) ≡ false) × AreOther p qid ms

other-both : (p : ℕ) (qid : Qid) (ms ns : List TextMove) → AreOther p qid ms → AreOther p qid ns → AreOther p qid (ms ++ ns)
other-both p qid [] ns a b = b
other-both p qid (m ∷ ms) ns a b = (a.0, other-both p qid ms ns a.1 b)

pub other-found : (p : ℕ) (qid : Qid) (ms ns : List TextMove) → AreOther p qid ms → settled_by_lines p qid (ms ++ ns) ≡ settled_by_lines p qid ns
other-found p qid [] ns a = refl
other-found p qid (m ∷ ms) ns a = rw a.0 (other-found p qid ms ns a.1)

other-prover : (m : TextMove) (p : ℕ) (qid : Qid) → m.prover ≢ p → ((m.prover == p) && same_qid m.qid qid) ≡ false
other-prover m p qid ne = let e : (m.prover == p) ≡ false = not-eqb m.prover p ne in rw e refl

other-dispute : (m : TextMove) (p : ℕ) (qid : Qid) → m.qid.dispute ≢ qid.dispute → ((m.prover == p) && same_qid m.qid qid) ≡ false
other-dispute m p qid ne = let e : (m.qid.dispute == qid.dispute) ≡ false = not-eqb m.qid.dispute qid.dispute ne in rw e (and-false (m.prover == p))

other-round : (m : TextMove) (p : ℕ) (qid : Qid) → m.qid.round ≢ qid.round → ((m.prover == p) && same_qid m.qid qid) ≡ false
other-round m p qid ne =
    let e : (m.qid.round == qid.round) ≡ false = not-eqb m.qid.round qid.round ne in
    rw (e, and-false (m.qid.dispute == qid.dispute)) (and-false (m.prover == p))

-- claims

claims-before : (k p : ℕ) (qid : Qid) (ss : List (Option Settled)) → next_claim k ss ≡ Some p → ClaimsInOrder ss → AreOther p qid (moves_of_claims k ss)
claims-before k p qid [] e h = tt
claims-before k p qid (None ∷ ss) e h = none-other (k + 1) ss h
  where
    none-other : (j : ℕ) (rs : List (Option Settled)) → AllNone rs → AreOther p qid (moves_of_claims j rs)
    none-other j [] a = tt
    none-other j (None ∷ rs) a = none-other (j + 1) rs a.1
    none-other j (Some s ∷ rs) a = absurd (let no : Some s ≡ None = a.0 in cc)
claims-before k p qid (Some s ∷ ss) e h =
    let m : IsMissing (k + 1) p ss = next-missing (k + 1) p ss e in
    (other-prover (move_on k claim_question s) p qid (λ same. omega (arith, m.from, same)), claims-before (k + 1) p qid ss e h)

claims-apart : (k p : ℕ) (qid : Qid) (ss : List (Option Settled)) → 0 ≢ qid.dispute → AreOther p qid (moves_of_claims k ss)
claims-apart k p qid [] ne = tt
claims-apart k p qid (None ∷ ss) ne = claims-apart (k + 1) p qid ss ne
claims-apart k p qid (Some s ∷ ss) ne = (other-dispute (move_on k claim_question s) p qid ne, claims-apart (k + 1) p qid ss ne)

-- disputes

if-apart : (n r x p : ℕ) (qid : Qid) (o : Option Settled) → n ≢ qid.dispute → AreOther p qid (move_if (qid_of n r) x o)
if-apart n r x p qid None ne = tt
if-apart n r x p qid (Some s) ne = (other-dispute (record { qid = qid_of n r; prover = x; settled = s }) p qid ne, tt)

if-round : (n r x p : ℕ) (qid : Qid) (o : Option Settled) → r ≢ qid.round → AreOther p qid (move_if (qid_of n r) x o)
if-round n r x p qid None ne = tt
if-round n r x p qid (Some s) ne = (other-round (record { qid = qid_of n r; prover = x; settled = s }) p qid ne, tt)

if-prover : (n r x p : ℕ) (qid : Qid) (o : Option Settled) → x ≢ p → AreOther p qid (move_if (qid_of n r) x o)
if-prover n r x p qid None ne = tt
if-prover n r x p qid (Some s) ne = (other-prover (record { qid = qid_of n r; prover = x; settled = s }) p qid ne, tt)

past-apart : (n x y k p : ℕ) (qid : Qid) (rs : List Round) → n ≢ qid.dispute → AreOther p qid (moves_of_past n x y k rs)
past-apart n x y k p qid [] ne = tt
past-apart n x y k p qid (r ∷ rs) ne =
    other-both p qid (moves_of_round n x y k (Some r.first) (Some r.second)) (moves_of_past n x y (k + 1) rs)
    (other-both p qid (move_if (qid_of n k) x (Some r.first)) (move_if (qid_of n k) y (Some r.second)) (if-apart n k x p qid (Some r.first) ne) (if-apart n k y p qid (Some r.second) ne)) (past-apart n x y (k + 1) p qid rs ne)

past-before : (n x y k p : ℕ) (qid : Qid) (rs : List Round) → k + length rs ≤ qid.round → AreOther p qid (moves_of_past n x y k rs)
past-before n x y k p qid [] le = tt
past-before n x y k p qid (r ∷ rs) le =
    let ne : k ≢ qid.round = λ same. omega (arith, same, le) in
    other-both p qid (moves_of_round n x y k (Some r.first) (Some r.second)) (moves_of_past n x y (k + 1) rs)
    (other-both p qid (move_if (qid_of n k) x (Some r.first)) (move_if (qid_of n k) y (Some r.second)) (if-round n k x p qid (Some r.first) ne) (if-round n k y p qid (Some r.second) ne)) (past-before n x y (k + 1) p qid rs (omega (arith, le)))

dispute-apart : (d : Bisection) (p : ℕ) (qid : Qid) → d.number ≢ qid.dispute → AreOther p qid (moves_of_dispute d)
dispute-apart d p qid ne =
    other-both p qid (moves_of_past d.number d.first d.second 1 d.past) _ (past-apart d.number d.first d.second 1 p qid d.past ne)
    (other-both p qid (move_if (qid_of d.number (length d.past + 1)) d.first d.by_first) _ (if-apart d.number (length d.past + 1) d.first p qid d.by_first ne) (if-apart d.number (length d.past + 1) d.second p qid d.by_second ne))

other-none : (p : ℕ) (qid : Qid) (ms : List TextMove) → ms ≡ [] → AreOther p qid ms
other-none p qid ms e = rw e tt

-- from this dispute on, and other
record IsUnseen (n p : ℕ) (q : Question) (ds : List Bisection) : Type 0 where
  from : n ≤ q.qid.dispute
  other : AreOther p q.qid (moves_of_disputes ds)

unseen-here : (n p provers : ℕ) (d : Bisection) (ds : List Bisection) → HasSides n provers d → AllBegun ds →
    AreOther p (question_of d).qid (move_if (qid_of d.number (length d.past + 1)) d.first d.by_first) → d.by_second ≡ None → IsUnseen n p (question_of d) (d ∷ ds)
unseen-here n p provers d ds h begun first none = record {
  from = omega (arith, h.number);
  other = other-both p (question_of d).qid (moves_of_dispute d) (moves_of_disputes ds)
      (other-both p (question_of d).qid (moves_of_past d.number d.first d.second 1 d.past) _ (past-before d.number d.first d.second 1 p (question_of d).qid d.past (omega arith))
      (other-both p (question_of d).qid (move_if (qid_of d.number (length d.past + 1)) d.first d.by_first) _ first (rw none tt)))
      (other-none p (question_of d).qid (moves_of_disputes ds) (begun-moves ds begun));
}

unseen-choice : (rules : Rules) (p n : ℕ) (q : Question) (d : Bisection) (ds : List Bisection) (x y : Bool) → asks First d ≡ x → asks Second d ≡ y →
    DisputesInOrder (d ∷ ds) → AllSided n rules.setup.provers (d ∷ ds) →
    (if x then Some (d.first, question_of d) else if y then Some (d.second, question_of d) else next_in ds) ≡ Some (p, q) →
    (next_in ds ≡ Some (p, q) → IsUnseen (n + 1) p q ds) → IsUnseen n p q (d ∷ ds)
unseen-choice rules p n q d ds true y ex ey order sides e rest =
    let is : question_of d ≡ q = pair-second _ _ _ _ e in
    let o : IsOpenSide d.by_first d.close = side-open d.by_first d.close ex in
    let w : (d.by_second ≡ None) × AllBegun ds = order.0 o.still in
    rw (← is) (unseen-here n p rules.setup.provers d ds sides.0 w.1 (rw o.missing tt) w.0)
unseen-choice rules p n q d ds false true ex ey order sides e rest =
    let at : d.second ≡ p = pair-first _ _ _ _ e in
    let is : question_of d ≡ q = pair-second _ _ _ _ e in
    let o : IsOpenSide d.by_second d.close = side-open d.by_second d.close ey in
    let w : (d.by_second ≡ None) × AllBegun ds = order.0 o.still in
    let far : d.first ≢ p = λ same. omega (arith, same, at, sides.0.rise) in
    rw (← is) (unseen-here n p rules.setup.provers d ds sides.0 w.1 (if-prover d.number (length d.past + 1) d.first p (question_of d).qid d.by_first far) w.0)
unseen-choice rules p n q d ds false false ex ey order sides e rest =
    let u : IsUnseen (n + 1) p q ds = rest e in
    record {
      from = omega (arith, u.from);
      other = other-both p q.qid (moves_of_dispute d) (moves_of_disputes ds) (dispute-apart d p q.qid (λ same. omega (arith, same, sides.0.number, u.from))) u.other;
    }

unseen-in : (rules : Rules) (p n : ℕ) (q : Question) (ds : List Bisection) → DisputesInOrder ds → AllSided n rules.setup.provers ds → next_in ds ≡ Some (p, q) → IsUnseen n p q ds
unseen-in rules p n q [] order sides e = absurd (cc)
unseen-in rules p n q (d ∷ ds) order sides e =
    unseen-choice rules p n q d ds (asks First d) (asks Second d) refl refl order sides e (unseen-in rules p (n + 1) q ds order.1 sides.1)

unseen-by : (rules : Rules) (t : Record) (p : ℕ) (q : Question) (o : Option ℕ) → IsInOrder rules t → next_claim 1 t.claims ≡ o → claim_or o (next_in t.disputes) ≡ Some (p, q) →
    AreOther p q.qid (moves_of t)
unseen-by rules t p q (Some k) i e is =
    let at : k ≡ p = pair-first _ _ _ _ is in
    let here : next_claim 1 t.claims ≡ Some p = e ∙ ap Some at in
    let none : t.disputes ≡ [] = i.early (missing-not-there 1 p t.claims here) in
    other-both p q.qid (moves_of_claims 1 t.claims) (moves_of_disputes t.disputes) (claims-before 1 p q.qid t.claims here i.claims) (rw none tt)
unseen-by rules t p q None i e is =
    let u : IsUnseen 1 p q t.disputes = unseen-in rules p 1 q t.disputes i.disputes i.sides is in
    other-both p q.qid (moves_of_claims 1 t.claims) (moves_of_disputes t.disputes) (claims-apart 1 p q.qid t.claims (λ same. omega (arith, same, u.from))) u.other

-- no line so far is on the question of the next one
pub unseen : (rules : Rules) (t : Record) (p : ℕ) (q : Question) → IsInOrder rules t → next t ≡ Some (p, q) → AreOther p q.qid (moves_of t)
unseen rules t p q i e = unseen-by rules t p q (next_claim 1 t.claims) i refl e
