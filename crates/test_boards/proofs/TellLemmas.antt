-- A ledger that is told an event keeps its provers.
use Rattle.std.proofs.Common.{◌≡◌, ℕ, suc, ◌+◌, List, [], ◌∷◌, length, refl, ap, ◌∙◌}
use Rattle.deposits.specs.Events.{Event}
use Rattle.deposits.specs.Accounts.{Accounts, balances_told, told}

length-told : (stake : ℕ) (e : Event) (p : ℕ) (xs : List ℕ) → length (balances_told stake e p xs) ≡ length xs
length-told stake e p [] = refl
length-told stake e p (x ∷ xs) = ap suc (length-told stake e (p + 1) xs)

pub three_told : (s t : Accounts) (e : Event) → t ≡ told s e → length s.of ≡ 3 → length t.of ≡ 3
three_told s t e is three = ap (λ (a : Accounts). length a.of) is ∙ (length-told s.stake e 1 s.of ∙ three)
