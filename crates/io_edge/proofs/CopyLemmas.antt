-- What is left of bytes of which a prefix was copied out.
use Rattle.std.proofs.Common.{◌≡◌, ℕ, ◌+◌, List, ◌++◌, length, take, drop, sym, ap, ◌∙◌, subst, take-append-drop}
use Rattle.std.proofs.Math.Seq.{take-append_seam}
use Rattle.std.proofs.lemmas.List.{drop-drop}

-- the prefix that was copied out, and what is left after it
pub split_at_copy : (copy rest bytes : List ℕ) (given n : ℕ) → length copy ≡ n → copy ≡ take n (drop given bytes)
    → drop given bytes ≡ take n (copy ++ rest) ++ drop (given + n) bytes
split_at_copy copy rest bytes given n len e =
    let copied = subst (λ k. take k (copy ++ rest) ≡ copy) len (take-append_seam copy rest) in
    sym (ap (λ l. l ++ drop (given + n) bytes) (copied ∙ e) ∙ ap (λ l. take n (drop given bytes) ++ l) (sym (drop-drop n given bytes)) ∙ take-append-drop n (drop given bytes))
