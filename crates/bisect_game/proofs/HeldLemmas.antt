-- What a dispute holds, and that it stays.
use Rattle.std.proofs.Common.{◌≡◌, ℕ, zero, suc, List, [], ◌∷◌, ◌++◌, length, Option, Some, None, refl, sym, ◌∙◌}
use Rattle.bisect_game.specs.declared.settled.Round.{Round}
use Rattle.bisect_game.specs.declared.settled.Close.{Close}
use Rattle.bisect_game.specs.declared.settled.Settled.{Settled}
use Rattle.bisect_game.specs.declared.settled.Side.{Side}
use Rattle.bisect_game.specs.declared.settled.Side.TheVariants.{First, Second}
use Rattle.bisect_game.specs.Bisection.{Bisection, closed_or, closed_with, went_on, decided, advanced, settle_first, settle_second, settle_side}
use Rattle.bisect_game.specs.Closing.{close_of}
use Rattle.bisect_game.specs.Held.{settled_after_rounds}
use Rattle.bisect_game.specs.OverAnswers.{HoldsOn, SettledIsHeld}
use Rattle.bisect_game.specs.Ruling.{Ruling}
use Rattle.bisect_game.specs.Truth.{own_answer, own_open}

after-more : (side : Side) (past : List Round) (o : Option Settled) (k : ℕ) (s : Settled) → settled_after_rounds side past None k ≡ Some s → settled_after_rounds side past o k ≡ Some s
after-more side [] o zero s e = absurd (cc)
after-more side [] o (suc k) s e = e
after-more side (r ∷ past) o zero s e = e
after-more side (r ∷ past) o (suc k) s e = after-more side past o k s e

after-on : (side : Side) (past : List Round) (r : Round) (last : Option Settled) (k : ℕ) (s : Settled) → last ≡ Some (own_answer side r) → settled_after_rounds side past last k ≡ Some s → settled_after_rounds side (past ++ r ∷ []) None k ≡ Some s
after-on side [] r last zero s is e = sym is ∙ e
after-on side [] r last (suc k) s is e = absurd (cc)
after-on side (x ∷ past) r last zero s is e = e
after-on side (x ∷ past) r last (suc k) s is e = after-on side past r last k s is e

pub after-last : (side : Side) (past : List Round) (last : Option Settled) → settled_after_rounds side past last (length past) ≡ last
after-last side [] last = refl
after-last side (r ∷ past) last = after-last side past last

pub hold-same : (d : Bisection) → HoldsOn d d
hold-same d = record { number = refl; first = refl; second = refl; keeps = λ side k s e. e }

pub hold-further : (c d e : Bisection) → HoldsOn c d → HoldsOn d e → HoldsOn c e
hold-further c d e g h = record {
  number = h.number ∙ g.number;
  first = h.first ∙ g.first;
  second = h.second ∙ g.second;
  keeps = λ side k s is. h.keeps side k s (g.keeps side k s is);
}

ended-keeps : (d : Bisection) (c : Close) (side : Side) (k : ℕ) (s : Settled) → settled_after_rounds side d.past (own_open side d) k ≡ Some s → settled_after_rounds side (closed_with d c).past (own_open side (closed_with d c)) k ≡ Some s
ended-keeps d c First k s e = e
ended-keeps d c Second k s e = e

went-keeps : (d : Bisection) (a b : Settled) (side : Side) (k : ℕ) (s : Settled) → d.by_first ≡ Some a → d.by_second ≡ Some b →
    settled_after_rounds side d.past (own_open side d) k ≡ Some s → settled_after_rounds side (went_on d a b).past (own_open side (went_on d a b)) k ≡ Some s
went-keeps d a b First k s ea eb e = after-on First d.past (record { lo = d.place.lo; hi = d.place.hi; first = a; second = b }) d.by_first k s ea e
went-keeps d a b Second k s ea eb e = after-on Second d.past (record { lo = d.place.lo; hi = d.place.hi; first = a; second = b }) d.by_second k s eb e

hold-by : (ruling : Ruling) (d : Bisection) (a b : Settled) (o : Option Close) → d.by_first ≡ Some a → d.by_second ≡ Some b → HoldsOn d (closed_or d (went_on d a b) o)
hold-by ruling d a b (Some c) ea eb = record { number = refl; first = refl; second = refl; keeps = ended-keeps d c }
hold-by ruling d a b None ea eb = record { number = refl; first = refl; second = refl; keeps = λ side k s e. went-keeps d a b side k s ea eb e }

hold-advanced : (ruling : Ruling) (d : Bisection) (x y : Option Settled) → d.by_first ≡ x → d.by_second ≡ y → HoldsOn d (advanced ruling d x y)
unfolding decided
hold-advanced ruling d (Some a) (Some b) ex ey = hold-by ruling d a b (close_of ruling d.place a b) ex ey
hold-advanced ruling d (Some a) None ex ey = hold-same d
hold-advanced ruling d None y ex ey = hold-same d

put-first-keeps : (d : Bisection) (x : Settled) (side : Side) (k : ℕ) (s : Settled) → d.by_first ≡ None → settled_after_rounds side d.past (own_open side d) k ≡ Some s →
    settled_after_rounds side d.past (own_open side (record d { by_first = Some x })) k ≡ Some s
put-first-keeps d x First k s none e = after-more First d.past (Some x) k s (rw none at e)
put-first-keeps d x Second k s none e = e

put-second-keeps : (d : Bisection) (x : Settled) (side : Side) (k : ℕ) (s : Settled) → d.by_second ≡ None → settled_after_rounds side d.past (own_open side d) k ≡ Some s →
    settled_after_rounds side d.past (own_open side (record d { by_second = Some x })) k ≡ Some s
put-second-keeps d x First k s none e = e
put-second-keeps d x Second k s none e = after-more Second d.past (Some x) k s (rw none at e)

pub hold-first : (ruling : Ruling) (s : Settled) (d : Bisection) → d.by_first ≡ None → HoldsOn d (settle_first ruling s d)
unfolding settle_first
hold-first ruling s d none =
    let here : HoldsOn d (record d { by_first = Some s }) = record { number = refl; first = refl; second = refl; keeps = λ side k x e. put-first-keeps d s side k x none e } in
    hold-further d (record d { by_first = Some s }) _ here (hold-advanced ruling (record d { by_first = Some s }) (Some s) d.by_second refl refl)

pub hold-second : (ruling : Ruling) (s : Settled) (d : Bisection) → d.by_second ≡ None → HoldsOn d (settle_second ruling s d)
unfolding settle_second
hold-second ruling s d none =
    let here : HoldsOn d (record d { by_second = Some s }) = record { number = refl; first = refl; second = refl; keeps = λ side k x e. put-second-keeps d s side k x none e } in
    hold-further d (record d { by_second = Some s }) _ here (hold-advanced ruling (record d { by_second = Some s }) d.by_first (Some s) refl refl)

-- what was just settled is held

pub held-first : (ruling : Ruling) (s : Settled) (d : Bisection) → settled_after_rounds First (settle_first ruling s d).past (settle_first ruling s d).by_first (length d.past) ≡ Some s
unfolding settle_first
held-first ruling s d =
    let h : HoldsOn (record d { by_first = Some s }) (advanced ruling (record d { by_first = Some s }) (Some s) d.by_second) = hold-advanced ruling (record d { by_first = Some s }) (Some s) d.by_second refl refl in
    h.keeps First (length d.past) s (after-last First d.past (Some s))

pub held-second : (ruling : Ruling) (s : Settled) (d : Bisection) → settled_after_rounds Second (settle_second ruling s d).past (settle_second ruling s d).by_second (length d.past) ≡ Some s
unfolding settle_second
held-second ruling s d =
    let h : HoldsOn (record d { by_second = Some s }) (advanced ruling (record d { by_second = Some s }) d.by_first (Some s)) = hold-advanced ruling (record d { by_second = Some s }) d.by_first (Some s) refl refl in
    h.keeps Second (length d.past) s (after-last Second d.past (Some s))

hold-side : (ruling : Ruling) (by : Side) (s : Settled) (d : Bisection) → own_open by d ≡ None → HoldsOn d (settle_side ruling by s d)
hold-side ruling First s d none = hold-first ruling s d none
hold-side ruling Second s d none = hold-second ruling s d none

held-side : (ruling : Ruling) (by : Side) (s : Settled) (d : Bisection) → settled_after_rounds by (settle_side ruling by s d).past (own_open by (settle_side ruling by s d)) (length d.past) ≡ Some s
held-side ruling First s d = held-first ruling s d
held-side ruling Second s d = held-second ruling s d

pub settled_is_held : SettledIsHeld
settled_is_held = record { same = hold-same; further = hold-further; last = after-last; stays = hold-side; holds = held-side }
