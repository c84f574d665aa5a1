-- A verdict of the machine's judge over answers with wire forms is of strings that a text can state.
use Rattle.std.proofs.Common.{◌≡◌, ℕ, ◌+◌, List, [], ◌∷◌, ◌++◌, length, slice_index, ◌<◌, Option, Some, None, refl, sym, subst}
use Rattle.rd_base.specs.declared.claim.Claim as claims
use Rattle.rd_base.specs.declared.proof.Proof.{Proof}
use Rattle.rd_base.specs.declared.answer.Answer.TheVariants as answer
use Rattle.rd_base.specs.declared.answer.Qid.{Qid}
use Rattle.bisect_game.specs.declared.settled.Settled.{Settled}
use Rattle.bisect_game.specs.declared.settled.Settled.TheVariants.{Given, Faulty, Spent}
use Rattle.bisect_game.specs.declared.settled.Close.{Close}
use Rattle.bisect_game.specs.declared.settled.Close.TheVariants.{Out, Collision}
use Rattle.bisect_game.specs.Bisection.{Bisection}
use Rattle.bisect_game.specs.Rules.{Rules}
use Rattle.bisect_game.specs.Ruling.{Ruling}
use Rattle.tournament.specs.Bracket.{Record, claim_in, also, live_from, live, collision_with, claims_collision, collided, disputes_collision, lowest, or_lowest, verdict_of, bracket}
use Rattle.std.specs.Option.{option_or}
use Rattle.tournament.specs.Journals.{answers_of}
use Rattle.tournament.specs.Posting.{record_after}
use Rattle.step_referee.specs.MachineRuling.{machine_ruling}
use Rattle.step_referee.specs.MachineFair.{steps-collide, claims-collide}
use Rattle.proof_wire.specs.Wire.{claim, proof_form}
use Rattle.transcript_text.specs.declared.text.TextMove.{TextMove}
use Rattle.transcript_text.specs.MoveLists.{qid_of, move_if, moves_of_claims, moves_of_past, moves_of_round, moves_of_dispute, moves_of_disputes, moves_of}
use Rattle.transcript_text.specs.FullLines.{HasWireForm, AreWritten}
use Rattle.transcript_text.specs.reader.InLimits.{IsString}
use Rattle.transcript_text.specs.reader.Laws.{HasStrings}
use Rattle.audit.specs.LineByLine.{rules_of_head}
use Rattle.audit.specs.OwnMatch.{WrittenCasesAreConfirmed}
use Rattle.machine_audit.specs.WrittenCases.{CollisionsOfPostsHaveStrings, CollisionsOfCasesHaveStrings, MachineCasesAreConfirmed}
use Rattle.machine_audit.proofs.StringLemmas.{AreStrings, string-among}
use Rattle.machine_audit.proofs.OpenedLemmas.{proof-strings, claim-strings}
use Rattle.machine_audit.proofs.MetLemmas.{CallsCollisions, IsMet, AllMet, met-bracket, met-posts}

-- a judge that calls collisions only what is one, and before which answers with wire forms open strings that a text can state
record OpensStrings (r : Ruling) : Type 0 where
  fair : CallsCollisions r
  claims_open : (c : claims.Claim) → (claim c).fits → AreStrings (r.opened_by_claim c)
  proofs_open : (p : Proof) → (proof_form p).fits → AreStrings (r.opened_by_step p)

-- ANSWERS WITH WIRE FORMS, from the moves of a record

abbrev IsWrittenIf : Option Settled → Type 0
IsWrittenIf (Some s) = HasWireForm s
IsWrittenIf None = Unit {0}

abbrev AreClaimsWritten : List (Option Settled) → Type 0
AreClaimsWritten [] = Unit {0}
AreClaimsWritten (s ∷ ss) = IsWrittenIf s × AreClaimsWritten ss

abbrev AreDisputesWritten : List Bisection → Type 0
AreDisputesWritten [] = Unit {0}
AreDisputesWritten (d ∷ ds) = (IsWrittenIf d.by_first × IsWrittenIf d.by_second) × AreDisputesWritten ds

written-parts : (ms ns : List TextMove) → AreWritten (ms ++ ns) → AreWritten ms × AreWritten ns
written-parts [] ns all = (tt, all)
written-parts (m ∷ ms) ns all = let rest = written-parts ms ns all.1 in ((all.0, rest.0), rest.1)

written-move : (qid : Qid) (p : ℕ) (o : Option Settled) → AreWritten (move_if qid p o) → IsWrittenIf o
written-move qid p (Some s) all = all.0
written-move qid p None all = tt

claims-written : (p : ℕ) (ss : List (Option Settled)) → AreWritten (moves_of_claims p ss) → AreClaimsWritten ss
claims-written p [] all = tt
claims-written p (s ∷ ss) all =
    let both = written-parts (move_if (qid_of 0 0) p s) (moves_of_claims (p + 1) ss) all in
    (written-move (qid_of 0 0) p s both.0, claims-written (p + 1) ss both.1)

disputes-written : (ds : List Bisection) → AreWritten (moves_of_disputes ds) → AreDisputesWritten ds
disputes-written [] all = tt
disputes-written (d ∷ ds) all =
    let both = written-parts (moves_of_dispute d) (moves_of_disputes ds) all in
    let last = written-parts (moves_of_past d.number d.first d.second 1 d.past) (moves_of_round d.number d.first d.second (length d.past + 1) d.by_first d.by_second) both.0 in
    let qid = qid_of d.number (length d.past + 1) in
    let sides = written-parts (move_if qid d.first d.by_first) (move_if qid d.second d.by_second) last.1 in
    ((written-move qid d.first d.by_first sides.0, written-move qid d.second d.by_second sides.1), disputes-written ds both.1)

-- COLLISIONS

abbrev AreStringsIf : Option (List ℕ × List ℕ) → Type 0
AreStringsIf (Some pair) = IsString pair.0 × IsString pair.1
AreStringsIf None = Unit {0}

strings-first : (a b : Option (List ℕ × List ℕ)) → AreStringsIf a → AreStringsIf b → AreStringsIf (option_or a b)
strings-first (Some pair) b one other = one
strings-first None b one other = other

-- of claims

abbrev AreLiveWritten : List (ℕ × claims.Claim) → Type 0
AreLiveWritten [] = Unit {0}
AreLiveWritten (x ∷ xs) = (claim x.1).fits × AreLiveWritten xs

also-written : (p : ℕ) (s : Option Settled) (xs : List (ℕ × claims.Claim)) → IsWrittenIf s → AreLiveWritten xs → AreLiveWritten (also p (claim_in s) xs)
also-written p (Some (Given (answer.Claim c))) xs is rest = (is.1, rest)
also-written p (Some (Given (answer.Root x))) xs is rest = rest
also-written p (Some (Given (answer.Roots x))) xs is rest = rest
also-written p (Some (Given (answer.Step x))) xs is rest = rest
also-written p (Some (Faulty a)) xs is rest = rest
also-written p (Some Spent) xs is rest = rest
also-written p None xs is rest = rest

live-written : (p : ℕ) (ss : List (Option Settled)) → AreClaimsWritten ss → AreLiveWritten (live_from [] p ss)
live-written p [] all = tt
live-written p (s ∷ ss) all = also-written p s (live_from [] (p + 1) ss) all.0 (live-written (p + 1) ss all.1)

module _ (r : Ruling) (opens : OpensStrings r) where
  pair-strings : (x y : claims.Claim) (o : Option (List ℕ × List ℕ)) → (claim x).fits → (claim y).fits → r.claim_collision x y ≡ o → AreStringsIf o
  pair-strings x y (Some pair) one other e =
      let found = opens.fair.of_claims x y pair e in
      (string-among (r.opened_by_claim x) pair.0 (opens.claims_open x one) found.first_opened, string-among (r.opened_by_claim y) pair.1 (opens.claims_open y other) found.second_opened)
  pair-strings x y None one other e = tt

  with-strings : (x : claims.Claim) (xs : List (ℕ × claims.Claim)) → (claim x).fits → AreLiveWritten xs → AreStringsIf (collision_with r x xs)
  with-strings x [] one all = tt
  with-strings x (y ∷ ys) one all = strings-first (r.claim_collision x y.1) (collision_with r x ys) (pair-strings x y.1 (r.claim_collision x y.1) one all.0 refl) (with-strings x ys one all.1)

  claims-strings : (xs : List (ℕ × claims.Claim)) → AreLiveWritten xs → AreStringsIf (claims_collision r xs)
  claims-strings [] all = tt
  claims-strings (x ∷ xs) all = strings-first (collision_with r x.1 xs) (claims_collision r xs) (with-strings x.1 xs all.0 all.1) (claims-strings xs all.1)

  -- of proofs

  close-strings : (a b : Option Settled) (c : Option Close) → IsMet r a b c → IsWrittenIf a → IsWrittenIf b → AreStringsIf (collided c)
  close-strings a b (Some (Collision s u)) met one other =
      let first : (proof_form met.first).fits = subst IsWrittenIf met.by_first one in
      let second : (proof_form met.second).fits = subst IsWrittenIf met.by_second other in (
        string-among (r.opened_by_step met.first) s (opens.proofs_open met.first first) met.collision.first_opened,
        string-among (r.opened_by_step met.second) u (opens.proofs_open met.second second) met.collision.second_opened,
      )
  close-strings a b (Some (Out x y)) met one other = tt
  close-strings a b None met one other = tt

  disputes-strings : (ds : List Bisection) → AllMet r ds → AreDisputesWritten ds → AreStringsIf (disputes_collision ds)
  disputes-strings [] met all = tt
  disputes-strings (d ∷ ds) met all =
      strings-first (collided d.close) (disputes_collision ds) (close-strings d.by_first d.by_second d.close met.0 all.0.0 all.0.1) (disputes-strings ds met.1 all.1)

-- THE VERDICT

lowest-strings : (xs : List (ℕ × claims.Claim)) → HasStrings (lowest xs)
lowest-strings [] = tt
lowest-strings (x ∷ xs) = tt

or-strings : (o : Option (List ℕ × List ℕ)) (xs : List (ℕ × claims.Claim)) → AreStringsIf o → HasStrings (or_lowest o xs)
or-strings (Some pair) xs is = is
or-strings None xs is = lowest-strings xs

verdict-strings : (rules : Rules) (t : Record) → OpensStrings rules.ruling → AllMet rules.ruling t.disputes → AreWritten (moves_of t) → HasStrings (verdict_of rules t)
verdict-strings rules t opens met all =
    let both = written-parts (moves_of_claims 1 t.claims) (moves_of_disputes t.disputes) all in
    or-strings _ (live t)
    (strings-first (claims_collision rules.ruling (live_from [] 1 t.claims)) (disputes_collision t.disputes)
    (claims-strings rules.ruling opens (live_from [] 1 t.claims) (live-written 1 t.claims (claims-written 1 t.claims both.0)))
    (disputes-strings rules.ruling opens t.disputes met (disputes-written t.disputes both.1)))

-- THE MACHINE

module _ (by : List ℕ → List ℕ) (is_digest : (bytes : List ℕ) → length (by bytes) ≡ 32) (is_bytes : (bytes : List ℕ) (k : ℕ) → slice_index (by bytes) k < 256) where
  machine-opens : (rules : Rules) (version : ℕ) → rules.ruling ≡ machine_ruling by version → OpensStrings rules.ruling
  machine-opens rules version same =
      let opens : OpensStrings (machine_ruling by version) = record {
        fair = record { of_claims = claims-collide by version; of_steps = steps-collide by version };
        claims_open = λ c fits. claim-strings by is_digest is_bytes c fits;
        proofs_open = λ p fits. proof-strings by is_digest is_bytes p fits;
      } in
      subst OpensStrings (sym same) opens

  pub posts-have-strings : CollisionsOfPostsHaveStrings by
  posts-have-strings rules version xs same all =
      let opens : OpensStrings rules.ruling = machine-opens rules version same in
      verdict-strings rules (record_after rules xs) opens (met-posts rules xs opens.fair) all

  pub cases-have-strings : CollisionsOfCasesHaveStrings by
  cases-have-strings rules version says same all =
      let opens : OpensStrings rules.ruling = machine-opens rules version same in
      verdict-strings rules (bracket rules (answers_of rules says)) opens (met-bracket rules (answers_of rules says) opens.fair) all

pub cases-confirmed : (by : List ℕ → List ℕ) → CollisionsOfCasesHaveStrings by → WrittenCasesAreConfirmed → MachineCasesAreConfirmed by
cases-confirmed by strings confirmed says head limits all =
    confirmed (machine_ruling by head.version) says head limits all (strings (rules_of_head (machine_ruling by head.version) head) head.version says refl all)
