-- Values one behind another: what was done so far, and what is left to do.
use Rattle.std.proofs.Common.{◌≡◌, ℕ, zero, suc, ◌+◌, ◌-◌, ◌<◌, ◌≤◌, List, [], ◌∷◌, ◌++◌, Ok, Err, length, take, drop, get_or, set, refl, ap, ◌∙◌, sym, subst, append_assoc, arith}
use Rattle.std.proofs.lemmas.List.{append-nil, take_more, flat_map_more}
use Rattle.std.proofs.lemmas.Bool.Decides.{nat_tests}
use Rattle.std.specs.List.{AllByRecursion, flat_map}
use Rattle.rd_base.specs.Regs.{with_register}
use Rattle.rd_base.specs.Results.{◌>>=◌}
use Rattle.proof_wire.specs.declared.fault.WireFault.{WireFault}
use Rattle.proof_wire.specs.Wire.{in_four_bytes}
use Rattle.proof_wire.specs.Reading.{Read, each_ahead}

-- ---- reading

-- values that were read before others
abbrev pub with_front : {A : Type 0} → List A → Read (List A) → Read (List A)
with_front front others = others >>= (λ x. Ok (front ++ x.0, x.1))

regroup : {A : Type 0} (front : List A) (x : A) (others : Read (List A)) → with_front (front ++ x ∷ []) others ≡ with_front front (others >>= (λ o. Ok (x ∷ o.0, o.1)))
regroup front x (Ok o) = ap (λ xs. Ok (xs, o.1)) (append_assoc front (x ∷ []) o.0)
regroup front x (Err fault) = refl

-- one more is read
pub goes_on : {A : Type 0} (read : List ℕ → Read A) (front : List A) (left count : ℕ) (bytes : List ℕ) (x : A) (after : List ℕ) (total : Read (List A))
    → left ≡ suc count → read bytes ≡ Ok (x, after) → with_front front (each_ahead read left bytes) ≡ total → with_front (front ++ x ∷ []) (each_ahead read count after) ≡ total
unfolding each_ahead
goes_on read front left count bytes x after total is first so_far =
    regroup front x (each_ahead read count after) ∙ sym (ap (λ n. with_front front (each_ahead read n bytes)) is ∙ rw first refl) ∙ so_far

-- all are read
pub ends : {A : Type 0} (read : List ℕ → Read A) (front : List A) (left : ℕ) (bytes : List ℕ) (total : Read (List A))
    → left ≡ 0 → with_front front (each_ahead read left bytes) ≡ total → total ≡ Ok (front, bytes)
unfolding each_ahead
ends read front left bytes total is so_far =
    sym so_far ∙ ap (λ n. with_front front (each_ahead read n bytes)) is ∙ ap (λ xs. Ok (xs, bytes)) (append-nil front)

-- one can't be read
pub stops : {A : Type 0} (read : List ℕ → Read A) (front : List A) (left count : ℕ) (bytes : List ℕ) (fault : WireFault) (total : Read (List A))
    → left ≡ suc count → read bytes ≡ Err fault → with_front front (each_ahead read left bytes) ≡ total → total ≡ Err fault
unfolding each_ahead
stops read front left count bytes fault total is first so_far = sym so_far ∙ ap (λ n. with_front front (each_ahead read n bytes)) is ∙ rw first refl

-- a write to another register than x0
pub with_register-above_zero : (xs : List ℕ) (reg value : ℕ) → 1 ≤ reg → with_register xs reg value ≡ set xs reg value
with_register-above_zero xs reg value above = grind (arith, nat_tests)

-- ---- writing

-- bytes that were put behind others, and more behind them
pub put_then : (out first more : List ℕ) {next last : List ℕ} → next ≡ out ++ first → last ≡ next ++ more → last ≡ out ++ (first ++ more)
put_then out first more put behind = behind ∙ ap (λ bytes. bytes ++ more) put ∙ append_assoc out first more

-- one more at the end
pub AllByRecursion-push : {A : Type 0} (P : A → Type 0) (xs : List A) (y : A) → AllByRecursion P xs → P y → AllByRecursion P (xs ++ y ∷ [])
AllByRecursion-push P [] y each last = (last, tt)
AllByRecursion-push P (x ∷ xs) y each last = (each.0, AllByRecursion-push P xs y each.1 last)

-- the registers from x1 on, and one more
one_more : (xs : List ℕ) (reg value : ℕ) → 1 ≤ reg → reg < length xs → value ≡ get_or xs reg 0 → take (reg + 1 - 1) (drop 1 xs) ≡ take (reg - 1) (drop 1 xs) ++ value ∷ []
one_more [] reg value above within is = absurd (omega arith)
one_more (x ∷ xs) zero value above within is = absurd (omega arith)
one_more (x ∷ xs) (suc reg) value above within is =
    let next : suc reg + 1 - 1 ≡ reg + 1 = omega arith in
    let before : suc reg - 1 ≡ reg = omega arith in
    let inside : reg < length xs = omega arith in
    ap (λ n. take n xs) next ∙ take_more xs reg 0 inside ∙ ap (λ v. take reg xs ++ v ∷ []) (sym is) ∙ ap (λ n. take n xs ++ value ∷ []) (sym before)

pub bytes_of_one_more : (front out new xs : List ℕ) (reg value : ℕ) → 1 ≤ reg → reg < length xs → value ≡ get_or xs reg 0
    → out ≡ front ++ flat_map (λ n. (in_four_bytes n).bytes) (take (reg - 1) (drop 1 xs)) → new ≡ out ++ (in_four_bytes value).bytes
    → new ≡ front ++ flat_map (λ n. (in_four_bytes n).bytes) (take (reg + 1 - 1) (drop 1 xs))
bytes_of_one_more front out new xs reg value above within is so_far put =
    put ∙ ap (λ bytes. bytes ++ (in_four_bytes value).bytes) so_far ∙ flat_map_more (λ n. (in_four_bytes n).bytes) front (take (reg - 1) (drop 1 xs)) value
    ∙ ap (λ ns. front ++ flat_map (λ n. (in_four_bytes n).bytes) ns) (sym (one_more xs reg value above within is))

pub fits_of_one_more : (xs : List ℕ) (reg value : ℕ) → 1 ≤ reg → reg < length xs → value ≡ get_or xs reg 0
    → AllByRecursion (λ n. (in_four_bytes n).fits) (take (reg - 1) (drop 1 xs)) → (in_four_bytes value).fits → AllByRecursion (λ n. (in_four_bytes n).fits) (take (reg + 1 - 1) (drop 1 xs))
fits_of_one_more xs reg value above within is so_far last =
    let P : List ℕ → Type 0 = λ ns. AllByRecursion (λ n. (in_four_bytes n).fits) ns in
    subst P (sym (one_more xs reg value above within is)) (AllByRecursion-push (λ n. (in_four_bytes n).fits) (take (reg - 1) (drop 1 xs)) value so_far last)
