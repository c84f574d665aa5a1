-- A dispute keeps what is right: intervals of the match, roots that differ, and the run's roots for a side whose answers are true.
use Rattle.std.proofs.Common.{◌≡◌, ◌≢◌, ℕ, ◌+◌, ◌<◌, ◌≤◌, Bool, true, false, not, ◌&&◌, ◌||◌, if◌then◌else◌, List, [], ◌∷◌, ◌++◌, ◌⊎◌, inl, inr, Option, Some, None, is_some, is_none, refl, ap, arith}
use Rattle.rd_base.specs.declared.digest.Digest32.{Digest32}
use Rattle.bisect_game.specs.declared.settled.Interval.{Interval}
use Rattle.bisect_game.specs.declared.settled.Round.{Round}
use Rattle.rd_base.specs.declared.proof.Proof.{Proof}
use Rattle.rd_base.specs.declared.answer.Answer.{Answer}
use Rattle.rd_base.specs.declared.answer.Answer.TheVariants as answer
use Rattle.bisect_game.specs.declared.settled.Settled.{Settled}
use Rattle.bisect_game.specs.declared.settled.Settled.TheVariants.{Given, Faulty, Spent}
use Rattle.bisect_game.specs.declared.settled.Side.{Side}
use Rattle.bisect_game.specs.declared.settled.Side.TheVariants.{First, Second}
use Rattle.bisect_game.specs.declared.settled.Close.{Close}
use Rattle.bisect_game.specs.declared.settled.Close.TheVariants.{Out}
use Rattle.bisect_game.proofs.RoundLemmas.{close_of-none, kept-narrows}
use Rattle.bisect_game.proofs.TruthLemmas.{same-is, HasRoots, kept-first, kept-second, not-out, kept-apart, proved}
use Rattle.bisect_game.specs.Bisection.{Bisection, kept, kind_over, parts_of, closed_with, went_on, closed_or, decided, advanced, roots_of, settle_first, settle_second, settle_side, asks}
use Rattle.bisect_game.specs.Closing.{is_step, is_out, is_proved, is_root, both_proved, closed_by, close_of}
use Rattle.bisect_game.specs.Laws.{IsNarrower, IsPlay, KeepsRight, InvariantIsKept, TrueProofsProve}
use Rattle.bisect_game.specs.Rules.{Rules}
use Rattle.bisect_game.specs.Ruling.{Ruling, IsFair}
use Rattle.bisect_game.specs.Truth.{Truth, IsRun, IsFit, IsTrueSettled, IsTrueSoFar, own_root, own_answer, own_open, is_put_out, AllTrue, IsRight, IsProvedBy}

-- run's roots.

-- a proof round in which both sides have proved ends in a collision
record Proves (r : Ruling) (agreed own : Digest32) (a : Answer) : Type 0 where
  proof : Proof
  is : a ≡ answer.Step proof
  leads : r.leads agreed proof ≡ Some own

root-is : (own : Digest32) (o : Option Digest32) → is_root own o ≡ true → o ≡ Some own
root-is own (Some b) e = ap Some (same-is b own e)
root-is own None e = absurd (cc)

proves : (r : Ruling) (agreed own : Digest32) (a : Answer) → is_proved r agreed own a ≡ true → Proves r agreed own a
proves r agreed own (answer.Step p) e = record { proof = p; is = refl; leads = root-is own (r.leads agreed p) e }
proves r agreed own (answer.Claim c) e = absurd (cc)
proves r agreed own (answer.Root x) e = absurd (cc)
proves r agreed own (answer.Roots xs) e = absurd (cc)

record Stands (r : Ruling) (agreed own : Digest32) (s : Settled) : Type 0 where
  proof : Proof
  is : s ≡ Given (answer.Step proof)
  leads : r.leads agreed proof ≡ Some own

not-not : (b : Bool) → not b ≡ false → b ≡ true
not-not true e = refl
not-not false e = absurd (cc)

stands : (r : Ruling) (i : Interval) (own : Digest32) (s : Settled) → is_step i ≡ true → is_out r i own s ≡ false → Stands r i.agreed own s
stands r i own (Given a) step e =
    let out : not (is_proved r i.agreed own a) ≡ false = rw step at e in
    let p : Proves r i.agreed own a = proves r i.agreed own a (not-not _ out) in
    record { proof = p.proof; is = ap Given p.is; leads = p.leads }
stands r i own (Faulty a) step e = absurd (cc)
stands r i own Spent step e = absurd (cc)

no-side : (side : Side) (pair : List ℕ × List ℕ) → is_put_out side (Some (closed_by (Some pair))) ≡ false
no-side First pair = refl
no-side Second pair = refl

meeting-collides : (r : Ruling) (i : Interval) (a b : Settled) (side : Side) → IsFair r → i.first ≢ i.second → is_step i ≡ true →
    is_out r i i.first a ≡ false → is_out r i i.second b ≡ false → is_put_out side (Some (both_proved r i.agreed a b)) ≡ false
meeting-collides r i a b side fair differ step ea eb =
    let p : Stands r i.agreed i.first a = stands r i i.first a step ea in
    let q : Stands r i.agreed i.second b = stands r i i.second b step eb in
    let m : (pair : List ℕ × List ℕ) × (r.step_collision i.agreed p.proof q.proof ≡ Some pair) = fair.steps_collide i.agreed p.proof q.proof i.first i.second p.leads q.leads differ in
    rw (p.is, q.is, m.1) (no-side side m.0)

-- which side a close puts out

close-by : (side : Side) (x y z : Bool) (m c : Close) → (if x || y then Some (Out x y) else if z then Some m else None) ≡ Some c →
    (z ≡ true → x ≡ false → y ≡ false → is_put_out side (Some m) ≡ false) → is_put_out side (Some (Out x y)) ≡ false → is_put_out side (Some c) ≡ false
close-by side true y z m c e h out = let same : Out true y ≡ c = cc in rw (← same) out
close-by side false true z m c e h out = let same : Out false true ≡ c = cc in rw (← same) out
close-by side false false true m c e h out = let same : m ≡ c = cc in rw (← same) (h refl refl refl)
close-by side false false false m c e h out = absurd (cc)

stays-closed : (r : Ruling) (i : Interval) (a b : Settled) (c : Close) (side : Side) → IsFair r → i.first ≢ i.second → close_of r i a b ≡ Some c →
    is_put_out side (Some (Out (is_out r i i.first a) (is_out r i i.second b))) ≡ false → is_put_out side (Some c) ≡ false
unfolding close_of
stays-closed r i a b c side fair differ e out =
    close-by side (is_out r i i.first a) (is_out r i i.second b) (is_step i) (both_proved r i.agreed a b) c e
    (λ step ea eb. meeting-collides r i a b side fair differ step ea eb) out

pub record NoneOut (x y : Bool) : Type 0 where
  pub first : x ≡ false
  pub second : y ≡ false

none-by : (x y z : Bool) (m : Close) → (if x || y then Some (Out x y) else if z then Some m else None) ≡ None → NoneOut x y
none-by true y z m e = absurd (cc)
none-by false true z m e = absurd (cc)
none-by false false z m e = record { first = refl; second = refl }

pub none-out : (r : Ruling) (i : Interval) (a b : Settled) → close_of r i a b ≡ None → NoneOut (is_out r i i.first a) (is_out r i i.second b)
unfolding close_of
none-out r i a b e = none-by _ _ (is_step i) (both_proved r i.agreed a b) e

-- an interval of the match, whose roots differ
play-by : (rules : Rules) (d : Bisection) (a b : Settled) (o : Option Close) → close_of rules.ruling d.place a b ≡ o →
    d.by_first ≡ Some a → d.by_second ≡ Some b → IsPlay rules d → IsPlay rules (closed_or d (went_on d a b) o)
play-by rules d a b (Some c) e ea eb i = record { parted = i.parted; sound = i.sound; fit_first = i.fit_first; fit_second = i.fit_second }
play-by rules d a b None e ea eb i =
    let long : is_step d.place ≡ false = close_of-none rules.ruling d.place a b e in
    let n : NoneOut _ _ = none-out rules.ruling d.place a b e in
    let k : IsNarrower d.place (kept (parts_of d.fan d.place) d.place (roots_of a) (roots_of b)) = kept-narrows d.fan d.place (roots_of a) (roots_of b) i.parted long in
    record {
      parted = i.parted;
      sound = record {
        some = k.some;
        short = omega (arith, k.high, i.sound.short);
        differ = kept-apart rules.ruling d.fan d.place a b i.parted long i.sound.differ n.first n.second (rw ea at i.fit_first) (rw eb at i.fit_second);
      };
      fit_first = tt;
      fit_second = tt;
    }

play-advanced : (rules : Rules) (d : Bisection) (a b : Option Settled) → d.by_first ≡ a → d.by_second ≡ b → IsPlay rules d → IsPlay rules (advanced rules.ruling d a b)
unfolding decided
play-advanced rules d (Some a) (Some b) ea eb i = play-by rules d a b (close_of rules.ruling d.place a b) refl ea eb i
play-advanced rules d (Some a) None ea eb i = i
play-advanced rules d None b ea eb i = i

-- a side of a dispute that is right so long as its answers are true

pub true-last : (t : Truth) (fan : ℕ) (side : Side) (rs : List Round) (r : Round) → AllTrue t fan side (rs ++ r ∷ []) →
    AllTrue t fan side rs × IsTrueSettled t (kind_over fan r.lo r.hi) (own_answer side r)
true-last t fan side [] r all = (tt, all.0)
true-last t fan side (s ∷ rs) r all =
    let rest : AllTrue t fan side rs × IsTrueSettled t (kind_over fan r.lo r.hi) (own_answer side r) = true-last t fan side rs r all.1 in
    ((all.0, rest.0), rest.1)

abbrev own-settled : Side → Settled → Settled → Settled
own-settled First a b = a
own-settled Second a b = b

own-is : (side : Side) (d : Bisection) (a b : Settled) → d.by_first ≡ Some a → d.by_second ≡ Some b → own_open side d ≡ Some (own-settled side a b)
own-is First d a b ea eb = ea
own-is Second d a b ea eb = eb

kept-side : (t : Truth) (fan : ℕ) (i : Interval) (side : Side) (a b : Settled) → 1 < fan → is_step i ≡ false → i.lo < i.hi →
    IsTrueSettled t (kind_over fan i.lo i.hi) (own-settled side a b) → HasRoots t side i → HasRoots t side (kept (parts_of fan i) i (roots_of a) (roots_of b))
kept-side t fan i First a b more long some is h = kept-first t fan i a b more long some is h
kept-side t fan i Second a b more long some is h = kept-second t fan i a b more long some is h

out-side : (r : Ruling) (t : Truth) (fan : ℕ) (i : Interval) (side : Side) (a b : Settled) → i.lo < i.hi → HasRoots t side i →
    r.leads (t.root i.lo) (t.proof i.lo) ≡ Some (t.root (i.lo + 1)) → IsTrueSettled t (kind_over fan i.lo i.hi) (own-settled side a b) →
    is_put_out side (Some (Out (is_out r i i.first a) (is_out r i i.second b))) ≡ false
out-side r t fan i First a b some h leads is = not-out r t fan i i.first a (is_step i) refl some h.agreed h.own leads is
out-side r t fan i Second a b some h leads is = not-out r t fan i i.second b (is_step i) refl some h.agreed h.own leads is

own-round : (side : Side) (lo hi : ℕ) (a b : Settled) → own_answer side (record { lo = lo; hi = hi; first = a; second = b }) ≡ own-settled side a b
own-round First lo hi a b = refl
own-round Second lo hi a b = refl

still : (side : Side) → is_put_out side None ≡ false
still First = refl
still Second = refl

own-ended : (side : Side) (d : Bisection) (c : Close) → own_open side (closed_with d c) ≡ own_open side d
own-ended First d c = refl
own-ended Second d c = refl

right-by : (rules : Rules) (t : Truth) (d : Bisection) (side : Side) (a b : Settled) (o : Option Close) → IsFair rules.ruling → IsRun rules t →
    close_of rules.ruling d.place a b ≡ o → d.by_first ≡ Some a → d.by_second ≡ Some b → d.close ≡ None → IsPlay rules d →
    KeepsRight t side d → KeepsRight t side (closed_or d (went_on d a b) o)
right-by rules t d side a b (Some c) fair run e ea eb open_ i keeps truthful =
    let open_now : IsTrueSoFar t (kind_over d.fan d.place.lo d.place.hi) (own_open side d) = rw (own-ended side d c) at truthful.open_ in
    let was : IsRight t side d = keeps (record { past = truthful.past; open_ = open_now }) in
    let is : IsTrueSettled t (kind_over d.fan d.place.lo d.place.hi) (own-settled side a b) = rw (own-is side d a b ea eb) at open_now in
    let l : d.place.lo < rules.setup.bound = omega (arith, i.sound.some, i.sound.short) in
    record {
      agreed = was.agreed;
      own = was.own;
      stays = stays-closed rules.ruling d.place a b c side fair i.sound.differ e
          (out-side rules.ruling t d.fan d.place side a b i.sound.some (record { agreed = was.agreed; own = was.own }) (run.leads d.place.lo l) is);
    }
right-by rules t d side a b None fair run e ea eb open_ i keeps truthful =
    let long : is_step d.place ≡ false = close_of-none rules.ruling d.place a b e in
    let two : AllTrue t d.fan side d.past × _ = true-last t d.fan side d.past (record { lo = d.place.lo; hi = d.place.hi; first = a; second = b }) truthful.past in
    let is : IsTrueSettled t (kind_over d.fan d.place.lo d.place.hi) (own-settled side a b) = rw own-round at two.1 in
    let open_now : IsTrueSoFar t (kind_over d.fan d.place.lo d.place.hi) (own_open side d) = rw (own-is side d a b ea eb) is in
    let was : IsRight t side d = keeps (record { past = two.0; open_ = open_now }) in
    let k : HasRoots t side (kept (parts_of d.fan d.place) d.place (roots_of a) (roots_of b)) =
    kept-side t d.fan d.place side a b i.parted long i.sound.some is (record { agreed = was.agreed; own = was.own }) in
    record { agreed = k.agreed; own = k.own; stays = rw open_ (still side) }

right-advanced : (rules : Rules) (t : Truth) (d : Bisection) (side : Side) (a b : Option Settled) → IsFair rules.ruling → IsRun rules t →
    d.by_first ≡ a → d.by_second ≡ b → d.close ≡ None → IsPlay rules d → KeepsRight t side d → KeepsRight t side (advanced rules.ruling d a b)
unfolding decided
right-advanced rules t d side (Some a) (Some b) fair run ea eb open_ i keeps =
    right-by rules t d side a b (close_of rules.ruling d.place a b) fair run refl ea eb open_ i keeps
right-advanced rules t d side (Some a) None fair run ea eb open_ i keeps = keeps
right-advanced rules t d side None b fair run ea eb open_ i keeps = keeps

-- a settled answer keeps a dispute in play, and each side right

pub none-closed : (c : Option Close) → is_some c ≡ false → c ≡ None
none-closed None e = refl
none-closed (Some c) e = absurd (cc)

-- before an answer of the first side nothing was settled of it, so that it was true so far
was-right : (rules : Rules) (t : Truth) (d : Bisection) (s : Settled) (side mine : Side) (e : Bisection) → own_open mine d ≡ None →
    e.fan ≡ d.fan → e.past ≡ d.past → e.place ≡ d.place → e.close ≡ d.close → (side ≢ mine → own_open side e ≡ own_open side d) → (side ≡ mine) ⊎ (side ≢ mine) →
    KeepsRight t side d → KeepsRight t side e
was-right rules t d s side mine e none fan past place close other (inl same) keeps truthful =
    let was : IsRight t side d = keeps (record { past = rw (past, fan) at truthful.past; open_ = rw (same, none) tt }) in
    record { agreed = rw place was.agreed; own = rw place was.own; stays = rw close was.stays }
was-right rules t d s side mine e none fan past place close other (inr differ) keeps truthful =
    let same : own_open side e ≡ own_open side d = other differ in
    let o : IsTrueSoFar t (kind_over d.fan d.place.lo d.place.hi) (own_open side d) = rw (same, place, fan) at truthful.open_ in
    let was : IsRight t side d = keeps (record { past = rw (past, fan) at truthful.past; open_ = o }) in
    record { agreed = rw place was.agreed; own = rw place was.own; stays = rw close was.stays }

pub play-first : (rules : Rules) (s : Settled) (d : Bisection) → IsFit rules.ruling (kind_over d.fan d.place.lo d.place.hi) s →
    IsPlay rules d → IsPlay rules (settle_first rules.ruling s d)
unfolding settle_first
play-first rules s d fit g =
    play-advanced rules (record d { by_first = Some s }) (Some s) d.by_second refl refl (record { parted = g.parted; sound = g.sound; fit_first = fit; fit_second = g.fit_second })

pub play-second : (rules : Rules) (s : Settled) (d : Bisection) → IsFit rules.ruling (kind_over d.fan d.place.lo d.place.hi) s →
    IsPlay rules d → IsPlay rules (settle_second rules.ruling s d)
unfolding settle_second
play-second rules s d fit g =
    play-advanced rules (record d { by_second = Some s }) d.by_first (Some s) refl refl (record { parted = g.parted; sound = g.sound; fit_first = g.fit_first; fit_second = fit })

right-of-first : (rules : Rules) (t : Truth) (s : Settled) (d : Bisection) (side : Side) → d.by_first ≡ None → KeepsRight t side d → KeepsRight t side (record d { by_first = Some s })
right-of-first rules t s d First none keeps = was-right rules t d s First First (record d { by_first = Some s }) none refl refl refl refl (λ n. absurd (n refl)) (inl refl) keeps
right-of-first rules t s d Second none keeps = was-right rules t d s Second First (record d { by_first = Some s }) none refl refl refl refl (λ n. refl) (inr (λ (same : Second ≡ First). cc)) keeps

right-of-second : (rules : Rules) (t : Truth) (s : Settled) (d : Bisection) (side : Side) → d.by_second ≡ None → KeepsRight t side d → KeepsRight t side (record d { by_second = Some s })
right-of-second rules t s d First none keeps = was-right rules t d s First Second (record d { by_second = Some s }) none refl refl refl refl (λ n. refl) (inr (λ (same : First ≡ Second). cc)) keeps
right-of-second rules t s d Second none keeps = was-right rules t d s Second Second (record d { by_second = Some s }) none refl refl refl refl (λ n. absurd (n refl)) (inl refl) keeps

pub right-first : (rules : Rules) (t : Truth) (s : Settled) (d : Bisection) (side : Side) → IsFair rules.ruling → IsRun rules t → is_some d.close ≡ false → d.by_first ≡ None →
    IsFit rules.ruling (kind_over d.fan d.place.lo d.place.hi) s → IsPlay rules d → KeepsRight t side d → KeepsRight t side (settle_first rules.ruling s d)
unfolding settle_first
right-first rules t s d side fair run still none fit g keeps =
    right-advanced rules t (record d { by_first = Some s }) side (Some s) d.by_second fair run refl refl (none-closed d.close still)
    (record { parted = g.parted; sound = g.sound; fit_first = fit; fit_second = g.fit_second }) (right-of-first rules t s d side none keeps)

pub right-second : (rules : Rules) (t : Truth) (s : Settled) (d : Bisection) (side : Side) → IsFair rules.ruling → IsRun rules t → is_some d.close ≡ false → d.by_second ≡ None →
    IsFit rules.ruling (kind_over d.fan d.place.lo d.place.hi) s → IsPlay rules d → KeepsRight t side d → KeepsRight t side (settle_second rules.ruling s d)
unfolding settle_second
right-second rules t s d side fair run still none fit g keeps =
    right-advanced rules t (record d { by_second = Some s }) side d.by_first (Some s) fair run refl refl (none-closed d.close still)
    (record { parted = g.parted; sound = g.sound; fit_first = g.fit_first; fit_second = fit }) (right-of-second rules t s d side none keeps)

-- the two sides as one

pub asks-first : (o : Option Settled) (c : Option Close) → is_none o && not (is_some c) ≡ true → (o ≡ None) × (is_some c ≡ false)
asks-first None None e = (refl, refl)
asks-first None (Some c) e = absurd (cc)
asks-first (Some s) c e = absurd (cc)

play-side : (rules : Rules) (by : Side) (s : Settled) (d : Bisection) → IsFit rules.ruling (kind_over d.fan d.place.lo d.place.hi) s →
    IsPlay rules d → IsPlay rules (settle_side rules.ruling by s d)
play-side rules First s d fit g = play-first rules s d fit g
play-side rules Second s d fit g = play-second rules s d fit g

right-side : (rules : Rules) (t : Truth) (by : Side) (s : Settled) (d : Bisection) (side : Side) → IsFair rules.ruling → IsRun rules t → asks by d ≡ true →
    IsFit rules.ruling (kind_over d.fan d.place.lo d.place.hi) s → IsPlay rules d → KeepsRight t side d → KeepsRight t side (settle_side rules.ruling by s d)
right-side rules t First s d side fair run open_ fit g keeps =
    let a : (d.by_first ≡ None) × (is_some d.close ≡ false) = asks-first d.by_first d.close open_ in
    right-first rules t s d side fair run a.1 a.0 fit g keeps
right-side rules t Second s d side fair run open_ fit g keeps =
    let a : (d.by_second ≡ None) × (is_some d.close ≡ false) = asks-first d.by_second d.close open_ in
    right-second rules t s d side fair run a.1 a.0 fit g keeps

pub invariant_is_kept : InvariantIsKept
invariant_is_kept = record { play = play-side; right = right-side }

-- a proof of a side with true answers proves

proved-by : (rules : Rules) (t : Truth) (fan : ℕ) (i : Interval) (own : Digest32) (o : Option Settled) → IsRun rules t → i.lo < i.hi → i.hi ≤ rules.setup.bound →
    i.agreed ≡ t.root i.lo → own ≡ t.root i.hi → IsTrueSoFar t (kind_over fan i.lo i.hi) o → IsProvedBy rules.ruling i own o
proved-by rules t fan i own (Some (Given a)) run some short agreed mine is = λ (step : is_step i ≡ true).
    proved rules.ruling t i a own step some agreed mine (run.leads i.lo (omega (arith, some, short))) (rw step at is)
proved-by rules t fan i own (Some (Faulty a)) run some short agreed mine is = tt
proved-by rules t fan i own (Some Spent) run some short agreed mine is = tt
proved-by rules t fan i own None run some short agreed mine is = tt

pub true_proofs_prove : TrueProofsProve
true_proofs_prove rules t side d run play truthful right =
    proved-by rules t d.fan d.place (own_root side d.place) (own_open side d) run play.sound.some play.sound.short right.agreed right.own truthful.open_
