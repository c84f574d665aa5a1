-- The bracket has fewer disputes than provers, and no stage changes it.
use Rattle.std.proofs.Common.{◌≡◌, ℕ, zero, suc, ◌+◌, ◌<◌, true, false, List, [], ◌∷◌, ◌++◌, length, map, ◌⊎◌, inl, inr, Option, refl, ◌∙◌, ap, arith}
use Rattle.std.specs.Fn.{iterate}
use Rattle.std.proofs.lemmas.Bool.{cases_Bool}
use Rattle.bisect_game.specs.Ruling.{Ruling}
use Rattle.bisect_game.specs.declared.settled.Settled.{Settled}
use Rattle.bisect_game.specs.Bisection.{Bisection, is_closed}
use Rattle.bisect_game.specs.Disputes.{Answers, filled, round_over, played}
use Rattle.bisect_game.specs.Rules.{Rules}
use Rattle.tournament.proofs.order.BracketLemmas.{reach-fixed}
use Rattle.tournament.proofs.length.CountLemmas.{Pair, SidesOf, AllHonest, IsHonest, IsStaged, IsOrdered, honest-advanced, ordered-opened, ordered-nothing, fewer}
use Rattle.tournament.proofs.SidesLemmas.{SameSides, sides-round, round-closed, round-open}
use Rattle.tournament.proofs.StageLemmas.{claims-full, played-all, all-out}
use Rattle.tournament.specs.Bracket.{Record, all_there, claims_over, carried, stage_over, nothing_settled, bracket}
use Rattle.bisect_game.specs.Laws.{BisectionLaws}

module _ (laws : BisectionLaws) where
  sides-rounds : (ruling : Ruling) (f : Answers) (n : ℕ) (d : Bisection) → SameSides d (iterate (round_over ruling f) n d)
  sides-rounds ruling f zero d = record { first = refl; second = refl; stage = refl; fan = refl }
  sides-rounds ruling f (suc n) d =
      let k : SameSides d (round_over ruling f d) = sides-round ruling f d in
      let l : SameSides (round_over ruling f d) (iterate (round_over ruling f) n (round_over ruling f d)) = sides-rounds ruling f n (round_over ruling f d) in
      record { first = l.first ∙ k.first; second = l.second ∙ k.second; stage = l.stage ∙ k.stage; fan = l.fan ∙ k.fan }

  pub sides-played : (rules : Rules) (f : Answers) (d : Bisection) → SameSides d (played rules f d)
  unfolding played
  sides-played rules f d = sides-rounds rules.ruling f rules.setup.bound d

  honest-round : (ruling : Ruling) (f : Answers) (d : Bisection) → IsHonest d.close → IsHonest (round_over ruling f d).close
  honest-round ruling f d h =
      elim (cases_Bool (is_closed d)) [
        | inl closed ↦ rw (round-closed ruling f d closed) h
        | inr open_ ↦ rw (round-open ruling f d open_) (honest-advanced ruling (filled f d) (filled f d).by_first (filled f d).by_second h)
      ]

  honest-rounds : (ruling : Ruling) (f : Answers) (n : ℕ) (d : Bisection) → IsHonest d.close → IsHonest (iterate (round_over ruling f) n d).close
  honest-rounds ruling f zero d h = h
  honest-rounds ruling f (suc n) d h = honest-rounds ruling f n (round_over ruling f d) (honest-round ruling f d h)

  honest-played : (rules : Rules) (f : Answers) (ds : List Bisection) → AllHonest ds → AllHonest (map (played rules f) ds)
  unfolding played
  honest-played rules f [] h = tt
  honest-played rules f (d ∷ ds) h = (honest-rounds rules.ruling f rules.setup.bound d h.0, honest-played rules f ds h.1)

  sides-all : (rules : Rules) (f : Answers) (ps : List Pair) (ds : List Bisection) → SidesOf ps ds → SidesOf ps (map (played rules f) ds)
  sides-all rules f [] [] i = tt
  sides-all rules f [] (d ∷ ds) i = absurd i
  sides-all rules f (p ∷ ps) [] i = absurd i
  sides-all rules f (p ∷ ps) (d ∷ ds) i =
      let k : SameSides d (played rules f d) = sides-played rules f d in
      (k.first ∙ i.0, k.second ∙ i.1, sides-all rules f ps ds i.2)

  map-both : (h : Bisection → Bisection) (ds es : List Bisection) → map h (ds ++ es) ≡ map h ds ++ map h es
  map-both h [] es = refl
  map-both h (d ∷ ds) es = ap (λ (zs : List Bisection). h d ∷ zs) (map-both h ds es)

  map-length : (h : Bisection → Bisection) (ds : List Bisection) → length (map h ds) ≡ length ds
  map-length h [] = refl
  map-length h (d ∷ ds) = ap suc (map-length h ds)

  claims-length : (f : Answers) (p : ℕ) (ss : List (Option Settled)) → length (claims_over f p ss) ≡ length ss
  claims-length f p [] = refl
  claims-length f p (s ∷ ss) = ap suc (claims-length f (p + 1) ss)

  staged-carried : (rules : Rules) (f : Answers) (t : Record) → all_there t.claims ≡ true → (t.disputes ≡ []) ⊎ IsStaged rules t →
      (map (played rules f) t.disputes ≡ []) ⊎ IsStaged rules (record { claims = claims_over f 1 t.claims; disputes = map (played rules f) t.disputes })
  staged-carried rules f t whole (inl none) = inl (ap (map (played rules f)) none)
  staged-carried rules f t whole (inr g) = inr (record {
    past = g.past;
    now = map (played rules f) g.now;
    parts = ap (map (played rules f)) g.parts ∙ (map-both (played rules f) g.past g.now ∙ ap (λ (zs : List Bisection). zs ++ map (played rules f) g.now) ((played-all laws) rules f g.past ((all-out laws) g.past g.over)));
    over = g.over;
    sides = rw ((claims-full laws) f 1 t.claims whole) (sides-all rules f _ g.now g.sides);
    few = rw ((claims-full laws) f 1 t.claims whole) g.few;
    some = omega (arith, map-length (played rules f) g.now, g.some);
  })

  not-there : (f : Answers) (ss : List (Option Settled)) → all_there (claims_over f 1 ss) ≡ false → all_there ss ≡ false
  not-there f ss e =
      elim (cases_Bool (all_there ss)) [
        | inl whole ↦ rw ((claims-full laws) f 1 ss whole) at e
        | inr part ↦ part
      ]

  ordered-carried : (rules : Rules) (f : Answers) (t : Record) → IsOrdered rules t → IsOrdered rules (carried rules f t)
  unfolding carried
  ordered-carried rules f t o = record {
    counted = record {
      claims = claims-length f 1 t.claims ∙ o.counted.claims;
      honest = honest-played rules f t.disputes o.counted.honest;
      staged = elim (cases_Bool (all_there t.claims)) [
        | inl whole ↦ staged-carried rules f t whole o.counted.staged
        | inr part ↦ inl (ap (map (played rules f)) (o.first part))
      ];
    };
    first = λ (missing : all_there (claims_over f 1 t.claims) ≡ false). ap (map (played rules f)) (o.first (not-there f t.claims missing));
  }

  ordered-stages : (rules : Rules) (f : Answers) (n : ℕ) (t : Record) → IsOrdered rules t → IsOrdered rules (iterate (stage_over rules f) n t)
  ordered-stages rules f zero t o = o
  ordered-stages rules f (suc n) t o = ordered-stages rules f n (stage_over rules f t) (ordered-opened rules (carried rules f t) (ordered-carried rules f t o))

  pub bracket-fixed : (rules : Rules) (f : Answers) → 0 < rules.setup.provers → 1 < rules.setup.fan → 0 < rules.setup.bound → stage_over rules f (bracket rules f) ≡ bracket rules f
  unfolding bracket
  bracket-fixed rules f some more long =
      let o : IsOrdered rules (iterate (stage_over rules f) rules.setup.provers (nothing_settled rules)) = ordered-stages rules f rules.setup.provers (nothing_settled rules) (ordered-nothing rules) in
      elim ((reach-fixed laws) rules f rules.setup.provers (nothing_settled rules) more long tt) [
        | inl fixed ↦ fixed
        | inr many ↦ absurd (omega (arith, many, fewer rules (iterate (stage_over rules f) rules.setup.provers (nothing_settled rules)) some o.counted))
      ]
