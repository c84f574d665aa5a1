-- Rounds of two parts are bisection.
use Rattle.std.proofs.Common.{◌≡◌, ℕ, ◌-◌, ◌*◌, ◌<◌, ◌≤◌, nat_le, Bool, true, false, if◌then◌else◌, [], ◌∷◌, Option, None, refl, ap, ◌∙◌, arith}
use Rattle.std.proofs.lemmas.Bool.Decides.{nat_tests}
use Rattle.rd_base.specs.declared.digest.Digest32.{Digest32}
use Rattle.rd_base.specs.declared.answer.Answer.TheVariants as answer
use Rattle.bisect_game.specs.declared.settled.Interval.{Interval}
use Rattle.bisect_game.specs.declared.settled.Kind.{Kind}
use Rattle.bisect_game.specs.declared.settled.Kind.TheVariants as kind
use Rattle.bisect_game.specs.declared.settled.Close.{Close}
use Rattle.bisect_game.specs.declared.settled.Settled.TheVariants.{Given}
use Rattle.bisect_game.specs.Bisection.{Bisection, cut, middle, kind_over, kept, parts_of, went_on, closed_or, decided}
use Rattle.bisect_game.specs.Closing.{is_step, close_of}
use Rattle.bisect_game.specs.Laws.{HalvesAreBisection, above, below}
use Rattle.bisect_game.specs.Ruling.{Ruling, same_digest}
use Rattle.bisect_game.proofs.CutLemmas.{cuts_divide}

middle-is : (lo hi : ℕ) → cut lo hi 2 1 ≡ middle lo hi
unfolding cut
middle-is lo hi = let e : 1 * (hi - lo) ≡ hi - lo = omega arith in rw e refl

asked-by : (b : Bool) (k x y : Kind) → b ≡ false → x ≡ y → (if b then k else x) ≡ y
asked-by true k x y e same = absurd (cc)
asked-by false k x y e same = same

asked-middle : (lo hi : ℕ) → 1 < hi - lo → kind_over 2 lo hi ≡ kind.Root (middle lo hi)
asked-middle lo hi long =
    let e : nat_le (hi - lo) 1 ≡ false = grind (arith, nat_tests) in
    asked-by (nat_le (hi - lo) 1) _ _ _ e (ap kind.Root (middle-is lo hi))

-- two roots that were given over more than a step close nothing
given-none : (ruling : Ruling) (i : Interval) (x y : Digest32) → is_step i ≡ false → close_of ruling i (Given (answer.Root x)) (Given (answer.Root y)) ≡ None
unfolding close_of
given-none ruling i x y long = rw long refl

kept-above : (i : Interval) (x y : Digest32) → is_step i ≡ false → same_digest x y ≡ true → kept 2 i (x ∷ []) (y ∷ []) ≡ above i x
kept-above i x y long same =
    let le : i.lo ≤ i.hi = grind (arith, nat_tests) in
    rw same (rw (middle-is i.lo i.hi, cuts_divide.end_ i.lo i.hi 2 (omega arith) le) refl)

kept-below : (i : Interval) (x y : Digest32) → same_digest x y ≡ false → kept 2 i (x ∷ []) (y ∷ []) ≡ below i x y
kept-below i x y differ = rw differ (rw (middle-is i.lo i.hi, cuts_divide.begin i.lo i.hi 2 (omega arith)) refl)

two-parts : (d : Bisection) → d.fan ≡ 2 → is_step d.place ≡ false → parts_of d.fan d.place ≡ 2
two-parts d two long =
    let wide : 1 < d.place.hi - d.place.lo = grind (arith, nat_tests) in
    omega (arith, two)

went-to : (ruling : Ruling) (d : Bisection) (x y : Digest32) → d.fan ≡ 2 → is_step d.place ≡ false →
    (decided ruling d (Given (answer.Root x)) (Given (answer.Root y))).place ≡ kept 2 d.place (x ∷ []) (y ∷ [])
unfolding decided
went-to ruling d x y two long =
    ap (λ (o : Option Close). (closed_or d (went_on d (Given (answer.Root x)) (Given (answer.Root y))) o).place) (given-none ruling d.place x y long)
    ∙ ap (λ (parts : ℕ). kept parts d.place (x ∷ []) (y ∷ [])) (two-parts d two long)

pub halves_are_bisection : HalvesAreBisection
halves_are_bisection = record {
  middle_ = middle-is;
  asked = asked-middle;
  equal = λ ruling d x y two long same. went-to ruling d x y two long ∙ kept-above d.place x y long same;
  different = λ ruling d x y two long differ. went-to ruling d x y two long ∙ kept-below d.place x y differ;
}
