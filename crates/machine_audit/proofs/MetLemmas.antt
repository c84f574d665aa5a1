-- A dispute of a match that closes as a collision has that of the two proofs that are settled in it.
use Rattle.std.proofs.Common.{◌≡◌, ℕ, zero, suc, ◌+◌, ◌-◌, Bool, true, false, not, ◌&&◌, ◌||◌, ◌==◌, if◌then◌else◌, List, [], ◌∷◌, ◌++◌, length, map, slice_get, slice_set, Option, Some, None, is_some, is_none, refl, ◌∙◌}
use Rattle.std.specs.Fn.{iterate}
use Rattle.rd_base.specs.declared.digest.Digest32.{Digest32}
use Rattle.rd_base.specs.declared.claim.Claim.{Claim}
use Rattle.rd_base.specs.declared.proof.Proof.{Proof}
use Rattle.rd_base.specs.declared.answer.Answer.{Answer}
use Rattle.rd_base.specs.declared.answer.Answer.TheVariants as answer
use Rattle.rd_base.specs.declared.answer.Qid.{Qid}
use Rattle.bisect_game.specs.declared.settled.Question.{Question}
use Rattle.bisect_game.specs.declared.settled.Settled.{Settled}
use Rattle.bisect_game.specs.declared.settled.Settled.TheVariants.{Given}
use Rattle.bisect_game.specs.declared.settled.Close.{Close}
use Rattle.bisect_game.specs.declared.settled.Close.TheVariants.{Out, Collision}
use Rattle.bisect_game.specs.Bisection.{Bisection, is_closed, settle_first, settle_second, closed_or, went_on, decided, advanced}
use Rattle.bisect_game.specs.Closing.{both_proved, closed_by, close_of, is_out, is_step}
use Rattle.bisect_game.specs.Disputes.{Answers, filled, round_over, played}
use Rattle.bisect_game.specs.Rules.{Rules}
use Rattle.bisect_game.specs.Ruling.{Ruling, IsCollision}
use Rattle.tournament.specs.Bracket.{Record, last_stage, disputes_of, pairs, is_stage_due, stage_opened, nothing_settled, asks_first, asks_second, claim_missing, settled_in, put, settle, carried, stage_over, bracket, open_question}
use Rattle.tournament.specs.Moves.{MatchState, begun, passes_of, settled_by, moved}
use Rattle.rd_base.specs.Questions.{same_qid}
use Rattle.tournament.specs.Posting.{Post, posted_on, posted, after_posts, record_after}

-- what a judge calls a collision is one, whatever claims and proofs it is asked about
pub record CallsCollisions (r : Ruling) : Type 0 where
  pub of_claims : (x y : Claim) (pair : List ℕ × List ℕ) → r.claim_collision x y ≡ Some pair → IsCollision r (r.opened_by_claim x) (r.opened_by_claim y) pair
  pub of_steps : (from : Digest32) (x y : Proof) (pair : List ℕ × List ℕ) → r.step_collision from x y ≡ Some pair → IsCollision r (r.opened_by_step x) (r.opened_by_step y) pair

-- the two proofs that are settled, with a collision that is theirs
pub record IsOfProofs (r : Ruling) (a b : Option Settled) (pair : List ℕ × List ℕ) : Type 0 where
  pub first : Proof
  pub second : Proof
  pub by_first : a ≡ Some (Given (answer.Step first))
  pub by_second : b ≡ Some (Given (answer.Step second))
  pub collision : IsCollision r (r.opened_by_step first) (r.opened_by_step second) pair

abbrev pub IsMet : Ruling → Option Settled → Option Settled → Option Close → Type 0
IsMet r a b (Some (Collision s u)) = IsOfProofs r a b (s, u)
IsMet r a b (Some (Out x y)) = Unit {0}
IsMet r a b None = Unit {0}

abbrev pub AllMet : Ruling → List Bisection → Type 0
AllMet r [] = Unit {0}
AllMet r (d ∷ ds) = IsMet r d.by_first d.by_second d.close × AllMet r ds

abbrev MetIn : Ruling → Bisection → Type 0
MetIn r d = IsMet r d.by_first d.by_second d.close

-- how a round closes

met-found : (r : Ruling) (agreed : Digest32) (one other : Proof) (o : Option (List ℕ × List ℕ)) → CallsCollisions r → r.step_collision agreed one other ≡ o →
    IsMet r (Some (Given (answer.Step one))) (Some (Given (answer.Step other))) (Some (closed_by o))
met-found r agreed one other (Some pair) fair e = record { first = one; second = other; by_first = refl; by_second = refl; collision = fair.of_steps agreed one other pair e }
met-found r agreed one other None fair e = tt

met-proved : (r : Ruling) (agreed : Digest32) (a b : Settled) → CallsCollisions r → IsMet r (Some a) (Some b) (Some (both_proved r agreed a b))
met-proved r agreed (Given (answer.Step one)) (Given (answer.Step other)) fair = met-found r agreed one other (r.step_collision agreed one other) fair refl
met-proved r agreed _ _ fair = tt

met-close : (r : Ruling) (a b : Settled) (x y z : Bool) (m : Close) → IsMet r (Some a) (Some b) (Some m) → IsMet r (Some a) (Some b) (if x || y then Some (Out x y) else if z then Some m else None)
met-close r a b true y z m met = tt
met-close r a b false true z m met = tt
met-close r a b false false true m met = met
met-close r a b false false false m met = tt

met-open : (r : Ruling) (a b : Option Settled) (c : Option Close) → c ≡ None → IsMet r a b c
met-open r a b None e = tt
met-open r a b (Some c) e = absurd (cc)

settled-same : (r : Ruling) (a b x y : Option Settled) (c : Option Close) → x ≡ a → y ≡ b → IsMet r a b c → IsMet r x y c
settled-same r a b x y (Some (Collision s u)) first second met = record { first = met.first; second = met.second; by_first = first ∙ met.by_first; by_second = second ∙ met.by_second; collision = met.collision }
settled-same r a b x y (Some (Out p q)) first second met = tt
settled-same r a b x y None first second met = tt

met-by : (r : Ruling) (d : Bisection) (a b : Settled) (o : Option Close) → d.by_first ≡ Some a → d.by_second ≡ Some b → d.close ≡ None → IsMet r (Some a) (Some b) o → MetIn r (closed_or d (went_on d a b) o)
met-by r d a b (Some c) first second still met = settled-same r (Some a) (Some b) d.by_first d.by_second (Some c) first second met
met-by r d a b None first second still met = met-open r None None d.close still

met-decided : (r : Ruling) (d : Bisection) (a b : Settled) → CallsCollisions r → d.by_first ≡ Some a → d.by_second ≡ Some b → d.close ≡ None → MetIn r (decided r d a b)
unfolding decided close_of
met-decided r d a b fair first second still =
    met-by r d a b _ first second still (met-close r a b (is_out r d.place d.place.first a) (is_out r d.place d.place.second b) (is_step d.place) (both_proved r d.place.agreed a b) (met-proved r d.place.agreed a b fair))

met-advanced : (r : Ruling) (d : Bisection) (a b : Option Settled) → CallsCollisions r → d.by_first ≡ a → d.by_second ≡ b → d.close ≡ None → MetIn r (advanced r d a b)
met-advanced r d (Some a) (Some b) fair first second still = met-decided r d a b fair first second still
met-advanced r d (Some a) None fair first second still = met-open r d.by_first d.by_second d.close still
met-advanced r d None b fair first second still = met-open r d.by_first d.by_second d.close still

-- over answers

open-close : (c : Option Close) → is_some c ≡ false → c ≡ None
open-close (Some c) e = absurd (cc)
open-close None e = refl

met-choice : (r : Ruling) (f : Answers) (d : Bisection) (closed : Bool) → is_closed d ≡ closed → CallsCollisions r → MetIn r d → MetIn r (if closed then d else advanced r (filled f d) (filled f d).by_first (filled f d).by_second)
met-choice r f d true e fair met = met
met-choice r f d false e fair met = met-advanced r (filled f d) (filled f d).by_first (filled f d).by_second fair refl refl (open-close d.close e)

met-round : (r : Ruling) (f : Answers) (d : Bisection) → CallsCollisions r → MetIn r d → MetIn r (round_over r f d)
unfolding round_over
met-round r f d fair met = met-choice r f d (is_closed d) refl fair met

met-rounds : (r : Ruling) (f : Answers) (n : ℕ) (d : Bisection) → CallsCollisions r → MetIn r d → MetIn r (iterate (round_over r f) n d)
met-rounds r f zero d fair met = met
met-rounds r f (suc n) d fair met = met-rounds r f n (round_over r f d) fair (met-round r f d fair met)

met-played : (rules : Rules) (f : Answers) (ds : List Bisection) → CallsCollisions rules.ruling → AllMet rules.ruling ds → AllMet rules.ruling (map (played rules f) ds)
unfolding played
met-played rules f [] fair met = tt
met-played rules f (d ∷ ds) fair met = (met-rounds rules.ruling f rules.setup.bound d fair met.0, met-played rules f ds fair met.1)

-- a stage begins

met-new : (rules : Rules) (stage number : ℕ) (ps : List ((ℕ × Claim) × (ℕ × Claim))) → AllMet rules.ruling (disputes_of rules stage number ps)
met-new rules stage number [] = tt
met-new rules stage number (p ∷ ps) = (tt, met-new rules stage (number + 1) ps)

met-both : (r : Ruling) (ds es : List Bisection) → AllMet r ds → AllMet r es → AllMet r (ds ++ es)
met-both r [] es one other = other
met-both r (d ∷ ds) es one other = (one.0, met-both r ds es one.1 other)

met-stage : (rules : Rules) (t : Record) (due : Bool) → AllMet rules.ruling t.disputes →
    AllMet rules.ruling (if due then record t { disputes = t.disputes ++ disputes_of rules (last_stage t.disputes + 1) (length t.disputes + 1) (pairs rules t) } else t).disputes
met-stage rules t true met = met-both rules.ruling t.disputes _ met (met-new rules (last_stage t.disputes + 1) (length t.disputes + 1) (pairs rules t))
met-stage rules t false met = met

met-opened : (rules : Rules) (t : Record) → AllMet rules.ruling t.disputes → AllMet rules.ruling (stage_opened rules t).disputes
unfolding stage_opened
met-opened rules t met = met-stage rules t (is_stage_due rules t) met

met-carried : (rules : Rules) (f : Answers) (t : Record) → CallsCollisions rules.ruling → AllMet rules.ruling t.disputes → AllMet rules.ruling (carried rules f t).disputes
unfolding carried
met-carried rules f t fair met = met-played rules f t.disputes fair met

met-stages : (rules : Rules) (f : Answers) (n : ℕ) (t : Record) → CallsCollisions rules.ruling → AllMet rules.ruling t.disputes → AllMet rules.ruling (iterate (stage_over rules f) n t).disputes
met-stages rules f zero t fair met = met
met-stages rules f (suc n) t fair met = met-stages rules f n (stage_over rules f t) fair (met-opened rules (carried rules f t) (met-carried rules f t fair met))

pub met-bracket : (rules : Rules) (f : Answers) → CallsCollisions rules.ruling → AllMet rules.ruling (bracket rules f).disputes
unfolding bracket
met-bracket rules f fair = met-stages rules f rules.setup.provers (nothing_settled rules) fair tt

-- over posts

asked-close : (same : Bool) (o : Option Settled) (c : Option Close) → (same && (is_none o && not (is_some c))) ≡ true → c ≡ None
asked-close true None None e = refl
asked-close true None (Some c) e = absurd (cc)
asked-close true (Some s) c e = absurd (cc)
asked-close false o c e = absurd (cc)

met-first : (r : Ruling) (s : Settled) (d : Bisection) → CallsCollisions r → d.close ≡ None → MetIn r (settle_first r s d)
unfolding settle_first
met-first r s d fair still = met-advanced r (record d { by_first = Some s }) (Some s) d.by_second fair refl refl still

met-second : (r : Ruling) (s : Settled) (d : Bisection) → CallsCollisions r → d.close ≡ None → MetIn r (settle_second r s d)
unfolding settle_second
met-second r s d fair still = met-advanced r (record d { by_second = Some s }) d.by_first (Some s) fair refl refl still

met-side : (rules : Rules) (p : ℕ) (s : Settled) (d : Bisection) (ds : List Bisection) (x y : Bool) → CallsCollisions rules.ruling → asks_first p d ≡ x → asks_second p d ≡ y → AllMet rules.ruling (d ∷ ds) → AllMet rules.ruling (settled_in rules p s ds) →
    AllMet rules.ruling (if x then settle_first rules.ruling s d ∷ ds else if y then settle_second rules.ruling s d ∷ ds else d ∷ settled_in rules p s ds)
met-side rules p s d ds true y fair first second met rest = (met-first rules.ruling s d fair (asked-close (d.first == p) d.by_first d.close first), met.1)
met-side rules p s d ds false true fair first second met rest = (met-second rules.ruling s d fair (asked-close (d.second == p) d.by_second d.close second), met.1)
met-side rules p s d ds false false fair first second met rest = (met.0, rest)

met-settled : (rules : Rules) (p : ℕ) (s : Settled) (ds : List Bisection) → CallsCollisions rules.ruling → AllMet rules.ruling ds → AllMet rules.ruling (settled_in rules p s ds)
met-settled rules p s [] fair met = tt
met-settled rules p s (d ∷ ds) fair met = met-side rules p s d ds (asks_first p d) (asks_second p d) fair refl refl met (met-settled rules p s ds fair met.1)

met-put : (rules : Rules) (p : ℕ) (s : Settled) (t : Record) (missing : Bool) → CallsCollisions rules.ruling → AllMet rules.ruling t.disputes →
    AllMet rules.ruling (if missing then record t { claims = slice_set t.claims (p - 1) (Some s) } else record t { disputes = settled_in rules p s t.disputes }).disputes
met-put rules p s t true fair met = met
met-put rules p s t false fair met = met-settled rules p s t.disputes fair met

met-settle : (rules : Rules) (p : ℕ) (s : Settled) (t : Record) → CallsCollisions rules.ruling → AllMet rules.ruling t.disputes → AllMet rules.ruling (settle rules p s t).disputes
unfolding settle
met-settle rules p s t fair met = met-opened rules (put rules p s t) (met-put rules p s t (claim_missing (slice_get t.claims (p - 1))) fair met)

met-moved : (rules : Rules) (st : MatchState) (p : ℕ) (o : Option Settled) → CallsCollisions rules.ruling → AllMet rules.ruling st.record_.disputes → AllMet rules.ruling (moved rules st p o).record_.disputes
met-moved rules st p None fair met = met
met-moved rules st p (Some s) fair met = met-settle rules p s st.record_ fair met

met-if : (rules : Rules) (st : MatchState) (p : ℕ) (o : Option Settled) (same : Bool) → CallsCollisions rules.ruling → AllMet rules.ruling st.record_.disputes → AllMet rules.ruling (if same then moved rules st p o else st).record_.disputes
met-if rules st p o true fair met = met-moved rules st p o fair met
met-if rules st p o false fair met = met

met-on : (rules : Rules) (st : MatchState) (p : ℕ) (qid : Qid) (m : Option Answer) (o : Option Question) → CallsCollisions rules.ruling → AllMet rules.ruling st.record_.disputes →
    AllMet rules.ruling (posted_on rules st p qid m o).record_.disputes
met-on rules st p qid m None fair met = met
met-on rules st p qid m (Some q) fair met = met-if rules st p (settled_by rules q (passes_of st p) m) (same_qid q.qid qid) fair met

met-after : (rules : Rules) (xs : List Post) (st : MatchState) → CallsCollisions rules.ruling → AllMet rules.ruling st.record_.disputes → AllMet rules.ruling (after_posts rules xs st).record_.disputes
met-after rules [] st fair met = met
met-after rules (x ∷ xs) st fair met = met-after rules xs (posted rules st x.prover x.qid x.answer) fair (met-on rules st x.prover x.qid x.answer (open_question rules st.record_ x.prover) fair met)

pub met-posts : (rules : Rules) (xs : List Post) → CallsCollisions rules.ruling → AllMet rules.ruling (record_after rules xs).disputes
met-posts rules xs fair = met-after rules xs (begun rules) fair tt
