-- Lists that were lent and came back with what is kept of each element.
use Rattle.std.proofs.Common.{◌≡◌, ℕ, zero, suc, ◌<◌, List, [], ◌∷◌, ◌++◌, map, length, get_or, take, drop, refl, sym, ap, ◌∙◌, subst, arith}
use Rattle.posters.proofs.Answering.{first_or, as_long}

-- a list that was lent whole
lent : {W : Type 0} (ws xs : List W) → length ws ≡ length xs → take (length xs) (ws ++ drop (length ws) xs) ≡ ws
lent [] [] e = refl
lent [] (x ∷ xs) e = absurd (omega arith)
lent (w ∷ ws) [] e = absurd (omega arith)
lent (w ∷ ws) (x ∷ xs) e = ap (λ l. w ∷ l) (lent ws xs (omega arith))

same_at : {W K : Type 0} (f : W → K) (P : K → Type 0) (ws xs : List W) → map f ws ≡ map f xs → ((k : ℕ) (d : W) → k < length xs → P (f (get_or xs k d))) → (k : ℕ) (d : W) → k < length ws → P (f (get_or ws k d))
same_at f P [] xs e a k d below = absurd (omega arith)
same_at f P (w ∷ ws) [] e a k d below = let n = ap length e in absurd (omega arith)
same_at f P (w ∷ ws) (x ∷ xs) e a zero d below = subst P (sym (ap (first_or (f w)) e)) (a zero d (omega arith))
same_at f P (w ∷ ws) (x ∷ xs) e a (suc k) d below = same_at f P ws xs (ap (drop 1) e) (λ j c b. a (suc j) c (omega arith)) k d (omega arith)

-- what holds of what is kept holds of the elements that came back
pub kept_back : {W K : Type 0} (f : W → K) (P : K → Type 0) (ws xs : List W) (n : ℕ) → n ≡ length xs → map f ws ≡ map f xs → ((k : ℕ) (d : W) → k < length xs → P (f (get_or xs k d))) →
    (k : ℕ) (d : W) → k < length (take n (ws ++ drop (length ws) xs)) → P (f (get_or (take n (ws ++ drop (length ws) xs)) k d))
kept_back {W} f P ws xs n full e a =
    let back : take n (ws ++ drop (length ws) xs) ≡ ws = ap (λ (m : ℕ). take m (ws ++ drop (length ws) xs)) full ∙ lent ws xs (as_long f ws xs e) in
    subst (λ (l : List W). (k : ℕ) (d : W) → k < length l → P (f (get_or l k d))) (sym back) (same_at f P ws xs e a)
