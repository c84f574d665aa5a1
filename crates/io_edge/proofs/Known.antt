-- What a reader has left and a writer holds after several calls, where those bytes are visible.
use Rattle.std.proofs.Common.{ℕ, List, None, Some, IfSome, ◌≡◌, ◌+◌, ◌≤◌, length, take, drop, ◌++◌, append-nil, length-drop, sym, ap, ◌∙◌, subst, arith}
use Rattle.std.proofs.KnownBytes.{Appends-trans}
use Rattle.std.proofs.Math.Seq.{drop-append_seam, take-add}
use Rattle.std.specs.Prelude.{Option}
use Rattle.std.specs.Io.KnownBytes.{Appends, Consumes, Keeps}
use Rattle.io_edge.specs.Device.{IsLaterIn, AppendsPart}

pub IsLaterIn-from_Consumes : (a b : Option (List ℕ)) (bs : List ℕ) → Consumes a b bs → IfSome a (IsLaterIn b)
IsLaterIn-from_Consumes None b bs p = tt
IsLaterIn-from_Consumes (Some xs) None bs p = absurd p
IsLaterIn-from_Consumes (Some xs) (Some ys) bs p =
    (length bs, ap Some (sym (ap (drop (length bs)) p ∙ drop-append_seam bs ys)))

pub Keeps-Consumes : (a b c : Option (List ℕ)) (bs : List ℕ) → Keeps a b → Consumes b c bs → Consumes a c bs
Keeps-Consumes None b c bs p q = tt
Keeps-Consumes (Some xs) None c bs p q = absurd p
Keeps-Consumes (Some xs) (Some ys) None bs p q = absurd q
Keeps-Consumes (Some xs) (Some ys) (Some zs) bs p q = sym p ∙ q

pub Keeps-Appends : (a b c : Option (List ℕ)) (bs : List ℕ) → Keeps a b → Appends b c bs → Appends a c bs
Keeps-Appends None b c bs p q = tt
Keeps-Appends (Some xs) None c bs p q = absurd p
Keeps-Appends (Some xs) (Some ys) None bs p q = absurd q
Keeps-Appends (Some xs) (Some ys) (Some zs) bs p q = q ∙ ap (λ l. l ++ bs) p

-- growing by nothing is staying
pub Keeps-from_none : (a b : Option (List ℕ)) (n : ℕ) (bs : List ℕ) → n ≡ 0 → Appends a b (take n bs) → Keeps a b
Keeps-from_none None b n bs e p = tt
Keeps-from_none (Some xs) None n bs e p = absurd p
Keeps-from_none (Some xs) (Some ys) n bs e p = rw append-nil at (rw e at p)

-- after so many bytes, a part of the rest
pub AppendsPart-after : (a b c : Option (List ℕ)) (bs : List ℕ) (done : ℕ) → done ≤ length bs
    → Appends a b (take done bs) → AppendsPart b c (drop done bs) → AppendsPart a c bs
AppendsPart-after a b c bs done within p (more, fits, q) = (
  done + more,
  omega (arith, within, fits, length-drop done bs),
  subst (Appends a c) (sym (take-add done more bs)) (Appends-trans a b c _ _ p q),
)
