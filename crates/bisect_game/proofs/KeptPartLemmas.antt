-- A round keeps the first part at whose end the roots differ.
use Rattle.std.proofs.Common.{◌≡◌, ◌≢◌, ℕ, zero, suc, ◌+◌, ◌-◌, ◌<◌, ◌≤◌, min, false, List, [], ◌∷◌, ◌++◌, length, Option, Some, None, refl, sym, ◌∙◌, arith, get_or}
use Rattle.std.proofs.lemmas.Bool.Decides.{nat_tests}
use Rattle.rd_base.specs.declared.digest.Digest32.{Digest32}
use Rattle.bisect_game.specs.declared.settled.Interval.{Interval}
use Rattle.bisect_game.specs.declared.settled.Settled.{Settled}
use Rattle.bisect_game.specs.declared.settled.Close.{Close}
use Rattle.bisect_game.specs.Bisection.{Bisection, kept, kept_part, parts_of, kind_over, roots_of, agreeing, decided, is_closed, closed_or, went_on}
use Rattle.bisect_game.specs.Closing.{is_step, is_out, close_of}
use Rattle.bisect_game.specs.KeptPart.{first_at, second_at, IsKeptPart, KeptPartIsFirstThatDiffers}
use Rattle.bisect_game.specs.Ruling.{Ruling}
use Rattle.bisect_game.specs.Truth.{IsFit}
use Rattle.bisect_game.proofs.RightLemmas.{NoneOut, none-out}
use Rattle.bisect_game.proofs.RoundLemmas.{close_of-none}
use Rattle.bisect_game.proofs.TruthLemmas.{same-front, fit-length, kept-apart}

-- before the end of a list its entries are those of the list
front : (xs : List Digest32) (own other : Digest32) (j : ℕ) → j < length xs → get_or (xs ++ own ∷ []) j own ≡ get_or xs j other
front [] own other j lt = absurd (omega arith)
front (x ∷ xs) own other zero lt = refl
front (x ∷ xs) own other (suc j) lt = front xs own other j (omega arith)

agree-at : (i : Interval) (a b : Settled) (n j : ℕ) → length (roots_of a) ≡ n → length (roots_of b) ≡ n → j ≤ min (agreeing (roots_of a) (roots_of b)) n →
    first_at i a j ≡ second_at i b j
agree-at i a b n j la lb le =
    front (i.agreed ∷ roots_of a) i.first i.agreed j (omega (arith, la, le))
    ∙ same-front i.agreed i.agreed (roots_of a) (roots_of b) j (omega (arith, le))
    ∙ sym (front (i.agreed ∷ roots_of b) i.second i.agreed j (omega (arith, lb, le)))

-- the cut behind the beginning of a part
next : (x own : Digest32) (xs : List Digest32) (j : ℕ) → get_or xs j own ≡ get_or (x ∷ xs) (j + 1) own
next x own xs j = let e : j + 1 ≡ suc j = omega arith in rw e refl

kept-is : (ruling : Ruling) (fan : ℕ) (i : Interval) (a b : Settled) → 1 < fan → is_step i ≡ false → i.first ≢ i.second →
    NoneOut (is_out ruling i i.first a) (is_out ruling i i.second b) → IsFit ruling (kind_over fan i.lo i.hi) a → IsFit ruling (kind_over fan i.lo i.hi) b →
    IsKeptPart (parts_of fan i) i a b (kept_part (parts_of fan i) (roots_of a) (roots_of b)) (kept (parts_of fan i) i (roots_of a) (roots_of b))
kept-is ruling fan i a b more long differ n fa fb =
    let wide : 1 < i.hi - i.lo = grind (arith, nat_tests) in
    let la : length (roots_of a) ≡ min fan (i.hi - i.lo) - 1 = fit-length ruling fan i i.first a more long n.first fa in
    let lb : length (roots_of b) ≡ min fan (i.hi - i.lo) - 1 = fit-length ruling fan i i.second b more long n.second fb in
    record {
      is_part = omega (arith, wide, more);
      begins = refl;
      ends = refl;
      agree = λ j le. agree-at i a b (min fan (i.hi - i.lo) - 1) j la lb le;
      agreed = sym (front (i.agreed ∷ roots_of a) i.first i.agreed (kept_part (parts_of fan i) (roots_of a) (roots_of b)) (omega (arith, la)));
      first = next i.agreed i.first (roots_of a ++ i.first ∷ []) (kept_part (parts_of fan i) (roots_of a) (roots_of b));
      second = next i.agreed i.second (roots_of b ++ i.second ∷ []) (kept_part (parts_of fan i) (roots_of a) (roots_of b));
      differ = kept-apart ruling fan i a b more long differ n.first n.second fa fb;
    }

kept-by : (ruling : Ruling) (d : Bisection) (a b : Settled) (o : Option Close) → 1 < d.fan → d.place.first ≢ d.place.second →
    IsFit ruling (kind_over d.fan d.place.lo d.place.hi) a → IsFit ruling (kind_over d.fan d.place.lo d.place.hi) b →
    close_of ruling d.place a b ≡ o → is_closed (closed_or d (went_on d a b) o) ≡ false →
    (part : ℕ) × IsKeptPart (parts_of d.fan d.place) d.place a b part (closed_or d (went_on d a b) o).place
kept-by ruling d a b (Some c) more differ fa fb e still = absurd (cc)
kept-by ruling d a b None more differ fa fb e still = (
  kept_part (parts_of d.fan d.place) (roots_of a) (roots_of b),
  kept-is ruling d.fan d.place a b more (close_of-none ruling d.place a b e) differ (none-out ruling d.place a b e) fa fb,
)

pub kept-part-is-first-that-differs : KeptPartIsFirstThatDiffers
unfolding decided
kept-part-is-first-that-differs ruling d a b more differ fa fb still = kept-by ruling d a b (close_of ruling d.place a b) more differ fa fb refl still
