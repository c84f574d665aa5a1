-- How far a match has come, in posts, and what it means that posts bring it further: one after another, and where nothing changes.
use Rattle.std.proofs.Common.{◌≡◌, ℕ, ◌+◌, ◌-◌, ◌*◌, ◌≤◌, min, Bool, true, false, ◌&&◌, ◌||◌, if◌then◌else◌, List, [], ◌∷◌, slice_index, Option, Some, None, is_none, refl, ◌∙◌, ap, arith, subst}
use Rattle.bisect_game.specs.declared.settled.Settled.{Settled}
use Rattle.bisect_game.specs.declared.settled.Side.TheVariants.{First, Second}
use Rattle.bisect_game.specs.Bisection.{Bisection, asks}
use Rattle.tournament.specs.Moves.{MatchState}
use Rattle.tournament.specs.OpenDisputes.{one_if}
use Rattle.tournament.proofs.few.QuestionLemmas.{settled_by_first, settled_by_second}

-- HOW FAR each side of a dispute has come, in posts: what is settled of it, and its passes on what is open

abbrev pub first_of : ℕ → List ℕ → Bisection → ℕ
first_of patience passed d = (patience + 1) * settled_by_first d + (if asks First d then slice_index passed (d.first - 1) else 0)

abbrev pub second_of : ℕ → List ℕ → Bisection → ℕ
second_of patience passed d = (patience + 1) * settled_by_second d + (if asks Second d then slice_index passed (d.second - 1) else 0)

-- a dispute has come as far as its slower side
abbrev pub progress : ℕ → List ℕ → Bisection → ℕ
progress patience passed d = min (first_of patience passed d) (second_of patience passed d)

abbrev pub total : ℕ → List ℕ → List Bisection → ℕ
total patience passed [] = 0
total patience passed (d ∷ ds) = progress patience passed d + total patience passed ds

-- and the claims as far as the slowest of them, of provers the first of which has this number

abbrev pub claim_of : ℕ → List ℕ → ℕ → Option Settled → ℕ
claim_of patience passed p (Some s) = patience + 1
claim_of patience passed p None = slice_index passed (p - 1)

abbrev pub slowest : ℕ → List ℕ → ℕ → List (Option Settled) → ℕ
slowest patience passed p [] = patience + 1
slowest patience passed p (s ∷ ss) = min (claim_of patience passed p s) (slowest patience passed (p + 1) ss)

abbrev pub far : ℕ → MatchState → ℕ
far patience st = slowest patience st.passed 1 st.record_.claims + total patience st.passed st.record_.disputes

-- WHAT POSTS DO to it, if these provers have made one that isn't stale

pub record DisputeGrows (n : ℕ) (made : ℕ → Bool) (xs ys : List ℕ) (d e : Bisection) : Type 0 where
  pub first : e.first ≡ d.first
  pub second : e.second ≡ d.second
  pub first_more : first_of n xs d + one_if (asks First d && made d.first) ≤ first_of n ys e
  pub second_more : second_of n xs d + one_if (asks Second d && made d.second) ≤ second_of n ys e
  pub first_stays : asks First d ≡ true → made d.first ≡ false → asks First e ≡ true
  pub second_stays : asks Second d ≡ true → made d.second ≡ false → asks Second e ≡ true

abbrev pub AllGrow : ℕ → (ℕ → Bool) → List ℕ → List ℕ → List Bisection → List Bisection → Type 0
AllGrow n made xs ys [] es = Unit {0}
AllGrow n made xs ys (d ∷ ds) [] = ⊥
AllGrow n made xs ys (d ∷ ds) (e ∷ es) = DisputeGrows n made xs ys d e × AllGrow n made xs ys ds es

pub record ClaimGrows (n : ℕ) (made : ℕ → Bool) (xs ys : List ℕ) (p : ℕ) (s t : Option Settled) : Type 0 where
  pub more : claim_of n xs p s + one_if (is_none s && made p) ≤ claim_of n ys p t
  pub stays : is_none s ≡ true → made p ≡ false → is_none t ≡ true

abbrev pub ClaimsGrow : ℕ → (ℕ → Bool) → List ℕ → List ℕ → ℕ → List (Option Settled) → List (Option Settled) → Type 0
ClaimsGrow n made xs ys p [] [] = Unit {0}
ClaimsGrow n made xs ys p [] (t ∷ ts) = ⊥
ClaimsGrow n made xs ys p (s ∷ ss) [] = ⊥
ClaimsGrow n made xs ys p (s ∷ ss) (t ∷ ts) = ClaimGrows n made xs ys p s t × ClaimsGrow n made xs ys (p + 1) ss ts

pub record StateGrows (n : ℕ) (made : ℕ → Bool) (st next : MatchState) : Type 0 where
  pub claims : ClaimsGrow n made st.passed next.passed 1 st.record_.claims next.record_.claims
  pub disputes : AllGrow n made st.passed next.passed st.record_.disputes next.record_.disputes

-- ONE AFTER ANOTHER

one-any : (a b c d : Bool) (m k l : ℕ) → (a ≡ true → b ≡ false → d ≡ true) → m + one_if (a && b) ≤ k → k + one_if (d && c) ≤ l → m + one_if (a && (b || c)) ≤ l
one-any true true c d m k l stays h i = omega (arith, h, i)
one-any true false c true m k l stays h i = omega (arith, h, i)
one-any true false c false m k l stays h i = absurd (let e : false ≡ true = stays refl refl in cc)
one-any false b c d m k l stays h i = omega (arith, h, i)

neither : (a b : Bool) → (a || b) ≡ false → (a ≡ false) × (b ≡ false)
neither true b e = absurd (cc)
neither false b e = (refl, e)

dispute-then : (n : ℕ) (made more : ℕ → Bool) (xs ys zs : List ℕ) (d e f : Bisection) → DisputeGrows n made xs ys d e → DisputeGrows n more ys zs e f →
    DisputeGrows n (λ p. made p || more p) xs zs d f
dispute-then n made more xs ys zs d e f g h = record {
  first = h.first ∙ g.first;
  second = h.second ∙ g.second;
  first_more = one-any (asks First d) (made d.first) (more d.first) (asks First e) _ _ _ g.first_stays g.first_more (subst (λ (p : ℕ). first_of n ys e + one_if (asks First e && more p) ≤ first_of n zs f) g.first h.first_more);
  second_more = one-any (asks Second d) (made d.second) (more d.second) (asks Second e) _ _ _ g.second_stays g.second_more (subst (λ (p : ℕ). second_of n ys e + one_if (asks Second e && more p) ≤ second_of n zs f) g.second h.second_more);
  first_stays = λ a none.
      let two : (made d.first ≡ false) × (more d.first ≡ false) = neither (made d.first) (more d.first) none in
      h.first_stays (g.first_stays a two.0) (ap more g.first ∙ two.1);
  second_stays = λ a none.
      let two : (made d.second ≡ false) × (more d.second ≡ false) = neither (made d.second) (more d.second) none in
      h.second_stays (g.second_stays a two.0) (ap more g.second ∙ two.1);
}

all-then : (n : ℕ) (made more : ℕ → Bool) (xs ys zs : List ℕ) (ds es fs : List Bisection) → AllGrow n made xs ys ds es → AllGrow n more ys zs es fs → AllGrow n (λ p. made p || more p) xs zs ds fs
all-then n made more xs ys zs [] es fs g h = tt
all-then n made more xs ys zs (d ∷ ds) [] fs g h = absurd g
all-then n made more xs ys zs (d ∷ ds) (e ∷ es) [] g h = absurd h
all-then n made more xs ys zs (d ∷ ds) (e ∷ es) (f ∷ fs) g h = (dispute-then n made more xs ys zs d e f g.0 h.0, all-then n made more xs ys zs ds es fs g.1 h.1)

claim-then : (n : ℕ) (made more : ℕ → Bool) (xs ys zs : List ℕ) (p : ℕ) (s t u : Option Settled) → ClaimGrows n made xs ys p s t → ClaimGrows n more ys zs p t u → ClaimGrows n (λ q. made q || more q) xs zs p s u
claim-then n made more xs ys zs p s t u g h = record {
  more = one-any (is_none s) (made p) (more p) (is_none t) _ _ _ g.stays g.more h.more;
  stays = λ a none. let two : (made p ≡ false) × (more p ≡ false) = neither (made p) (more p) none in h.stays (g.stays a two.0) two.1;
}

claims-then : (n : ℕ) (made more : ℕ → Bool) (xs ys zs : List ℕ) (p : ℕ) (ss ts us : List (Option Settled)) → ClaimsGrow n made xs ys p ss ts → ClaimsGrow n more ys zs p ts us →
    ClaimsGrow n (λ q. made q || more q) xs zs p ss us
claims-then n made more xs ys zs p [] [] [] g h = tt
claims-then n made more xs ys zs p [] [] (u ∷ us) g h = absurd h
claims-then n made more xs ys zs p [] (t ∷ ts) us g h = absurd g
claims-then n made more xs ys zs p (s ∷ ss) [] us g h = absurd g
claims-then n made more xs ys zs p (s ∷ ss) (t ∷ ts) [] g h = absurd h
claims-then n made more xs ys zs p (s ∷ ss) (t ∷ ts) (u ∷ us) g h = (claim-then n made more xs ys zs p s t u g.0 h.0, claims-then n made more xs ys zs (p + 1) ss ts us g.1 h.1)

pub grows-then : (n : ℕ) (made more : ℕ → Bool) (st mid next : MatchState) → StateGrows n made st mid → StateGrows n more mid next → StateGrows n (λ p. made p || more p) st next
grows-then n made more st mid next g h = record {
  claims = claims-then n made more st.passed mid.passed next.passed 1 st.record_.claims mid.record_.claims next.record_.claims g.claims h.claims;
  disputes = all-then n made more st.passed mid.passed next.passed st.record_.disputes mid.record_.disputes next.record_.disputes g.disputes h.disputes;
}

-- who made one by another count

dispute-as : (n : ℕ) (made other : ℕ → Bool) (xs ys : List ℕ) (d e : Bisection) → ((p : ℕ) → made p ≡ other p) → DisputeGrows n made xs ys d e → DisputeGrows n other xs ys d e
dispute-as n made other xs ys d e same g = record {
  first = g.first;
  second = g.second;
  first_more = rw (← same d.first) g.first_more;
  second_more = rw (← same d.second) g.second_more;
  first_stays = λ a none. g.first_stays a (same d.first ∙ none);
  second_stays = λ a none. g.second_stays a (same d.second ∙ none);
}

all-as : (n : ℕ) (made other : ℕ → Bool) (xs ys : List ℕ) (ds es : List Bisection) → ((p : ℕ) → made p ≡ other p) → AllGrow n made xs ys ds es → AllGrow n other xs ys ds es
all-as n made other xs ys [] es same g = tt
all-as n made other xs ys (d ∷ ds) [] same g = absurd g
all-as n made other xs ys (d ∷ ds) (e ∷ es) same g = (dispute-as n made other xs ys d e same g.0, all-as n made other xs ys ds es same g.1)

claims-as : (n : ℕ) (made other : ℕ → Bool) (xs ys : List ℕ) (p : ℕ) (ss ts : List (Option Settled)) → ((q : ℕ) → made q ≡ other q) → ClaimsGrow n made xs ys p ss ts → ClaimsGrow n other xs ys p ss ts
claims-as n made other xs ys p [] [] same g = tt
claims-as n made other xs ys p [] (t ∷ ts) same g = absurd g
claims-as n made other xs ys p (s ∷ ss) [] same g = absurd g
claims-as n made other xs ys p (s ∷ ss) (t ∷ ts) same g = (
  record { more = rw (← same p) g.0.more; stays = λ a none. g.0.stays a (same p ∙ none) },
  claims-as n made other xs ys (p + 1) ss ts same g.1,
)

pub grows-as : (n : ℕ) (made other : ℕ → Bool) (st next : MatchState) → ((p : ℕ) → made p ≡ other p) → StateGrows n made st next → StateGrows n other st next
grows-as n made other st next same g = record {
  claims = claims-as n made other st.passed next.passed 1 st.record_.claims next.record_.claims same g.claims;
  disputes = all-as n made other st.passed next.passed st.record_.disputes next.record_.disputes same g.disputes;
}

-- NOTHING CHANGES

and-none : (b : Bool) → one_if (b && false) ≡ 0
and-none true = refl
and-none false = refl

dispute-still : (n : ℕ) (xs : List ℕ) (d : Bisection) → DisputeGrows n (λ p. false) xs xs d d
dispute-still n xs d = record {
  first = refl;
  second = refl;
  first_more = omega (arith, and-none (asks First d));
  second_more = omega (arith, and-none (asks Second d));
  first_stays = λ a none. a;
  second_stays = λ a none. a;
}

all-still : (n : ℕ) (xs : List ℕ) (ds : List Bisection) → AllGrow n (λ p. false) xs xs ds ds
all-still n xs [] = tt
all-still n xs (d ∷ ds) = (dispute-still n xs d, all-still n xs ds)

claims-still : (n : ℕ) (xs : List ℕ) (p : ℕ) (ss : List (Option Settled)) → ClaimsGrow n (λ q. false) xs xs p ss ss
claims-still n xs p [] = tt
claims-still n xs p (s ∷ ss) = (record { more = omega (arith, and-none (is_none s)); stays = λ a none. a }, claims-still n xs (p + 1) ss)

pub grows-still : (n : ℕ) (st : MatchState) → StateGrows n (λ p. false) st st
grows-still n st = record { claims = claims-still n st.passed 1 st.record_.claims; disputes = all-still n st.passed st.record_.disputes }
