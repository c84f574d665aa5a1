-- Lines are read one after another.
use Rattle.std.proofs.Common.{◌≡◌, ℕ, ◌+◌, ◌<◌, ◌≤◌, true, false, ◌==◌, List, [], ◌∷◌, ◌++◌, length, Option, Some, None, Result, Ok, Err, ◌⊎◌, inl, inr, refl, sym, ◌∙◌, ap, arith}
use Rattle.std.proofs.lemmas.Bool.Decides.{nat_tests}
use Rattle.transcript_text.specs.declared.reader.fault.LineFault.{LineFault}
use Rattle.transcript_text.specs.declared.reader.fault.TextFault.{TextFault}
use Rattle.transcript_text.specs.declared.reader.fault.TextFault.TheVariants.{BadLine, Truncated, OutOfRange}
use Rattle.transcript_text.specs.declared.reader.entries.Entry.{Entry}
use Rattle.transcript_text.specs.declared.reader.entries.Entry.TheVariants.{Move, Verdict}
use Rattle.transcript_text.specs.declared.text.TextMove.{TextMove}
use Rattle.transcript_text.specs.declared.text.Stated.{Stated}
use Rattle.transcript_text.specs.reader.TextLines.{tail, line, lines_of, cut_at}
use Rattle.transcript_text.specs.reader.Entries.{entry_in, head_in}
use Rattle.transcript_text.specs.reader.ReadText.{is_prover, after_verdict, line_read, later, text_in_lines}
use Rattle.transcript_text.proofs.read_back.LineLemmas.{lines_by, lines_cut}

abbrev pub no_cut : Option (List ℕ × List ℕ)
no_cut = None

abbrev pub cut_to : List ℕ → List ℕ → Option (List ℕ × List ℕ)
cut_to l b = Some (l, b)

pub lines_at : (bytes l b : List ℕ) → cut_to l b ≡ cut_at 10 bytes → lines_of bytes ≡ line l (lines_of b)
lines_at bytes l b e = lines_cut bytes ∙ ap (lines_by bytes) (sym e)

pub lines_none : (bytes : List ℕ) → no_cut ≡ cut_at 10 bytes → lines_of bytes ≡ tail bytes
lines_none bytes e = lines_cut bytes ∙ ap (lines_by bytes) (sym e)

further : ℕ → ℕ → List TextMove → List ℕ → TextMove → Result (List TextMove × Stated) TextFault
further p n ms b x = later p (n + 1) (ms ++ x ∷ []) (lines_of b)

by-entry : (p n : ℕ) (ms : List TextMove) (bytes l b : List ℕ) (r : Result Entry LineFault) → cut_to l b ≡ cut_at 10 bytes → entry_in l ≡ r →
    later p n ms (lines_of bytes) ≡ line_read p n ms (lines_of b) (further p n ms b) r
unfolding further
by-entry p n ms bytes l b r e is = ap (later p n ms) (lines_at bytes l b e) ∙ ap (line_read p n ms (lines_of b) (λ x. later p (n + 1) (ms ++ x ∷ []) (lines_of b))) is

within : (p x : ℕ) → 1 ≤ x → x ≤ p → is_prover p x ≡ true
within p x low high = grind (arith, nat_tests)

outside : (p x : ℕ) → (x < 1) ⊎ (p < x) → is_prover p x ≡ false
outside p x (inl low) = grind (arith, nat_tests)
outside p x (inr high) = grind (arith, nat_tests)

pub later_moves : (p n : ℕ) (ms : List TextMove) (bytes l b : List ℕ) (x : TextMove) → cut_to l b ≡ cut_at 10 bytes → entry_in l ≡ Ok (Move x) → 1 ≤ x.prover → x.prover ≤ p →
    later p n ms (lines_of bytes) ≡ later p (n + 1) (ms ++ x ∷ []) (lines_of b)
unfolding further
later_moves p n ms bytes l b x e is low high = by-entry p n ms bytes l b (Ok (Move x)) e is ∙ (let w : is_prover p x.prover ≡ true = within p x.prover low high in rw w refl)

pub later_outside : (p n : ℕ) (ms : List TextMove) (bytes l b : List ℕ) (x : TextMove) → cut_to l b ≡ cut_at 10 bytes → entry_in l ≡ Ok (Move x) → (x.prover < 1) ⊎ (p < x.prover) →
    later p n ms (lines_of bytes) ≡ Err (OutOfRange n)
later_outside p n ms bytes l b x e is out = by-entry p n ms bytes l b (Ok (Move x)) e is ∙ (let w : is_prover p x.prover ≡ false = outside p x.prover out in rw w refl)

pub later_ends : (p n : ℕ) (ms : List TextMove) (bytes l b : List ℕ) (s : Stated) → cut_to l b ≡ cut_at 10 bytes → entry_in l ≡ Ok (Verdict s) →
    later p n ms (lines_of bytes) ≡ after_verdict n ms s (lines_of b)
later_ends p n ms bytes l b s e is = by-entry p n ms bytes l b (Ok (Verdict s)) e is

pub later_bad : (p n : ℕ) (ms : List TextMove) (bytes l b : List ℕ) (f : LineFault) → cut_to l b ≡ cut_at 10 bytes → entry_in l ≡ Err f →
    later p n ms (lines_of bytes) ≡ Err (BadLine n)
later_bad p n ms bytes l b f e is = by-entry p n ms bytes l b (Err f) e is

pub later_tail : (p n : ℕ) (ms : List TextMove) (bytes : List ℕ) → no_cut ≡ cut_at 10 bytes → later p n ms (lines_of bytes) ≡ Err Truncated
later_tail p n ms bytes e = ap (later p n ms) (lines_none bytes e)

pub ended_more : (n : ℕ) (ms : List TextMove) (s : Stated) (bytes l b : List ℕ) → cut_to l b ≡ cut_at 10 bytes → after_verdict n ms s (lines_of bytes) ≡ Err (BadLine (n + 1))
ended_more n ms s bytes l b e = ap (after_verdict n ms s) (lines_at bytes l b e)

pub ended_cut : (n : ℕ) (ms : List TextMove) (s : Stated) (bytes : List ℕ) → no_cut ≡ cut_at 10 bytes → 0 < length bytes → after_verdict n ms s (lines_of bytes) ≡ Err Truncated
ended_cut n ms s bytes e some =
    let z : (length bytes == 0) ≡ false = grind (arith, nat_tests) in
    ap (after_verdict n ms s) (lines_none bytes e) ∙ rw z refl

pub ended_whole : (n : ℕ) (ms : List TextMove) (s : Stated) (bytes : List ℕ) → length bytes ≡ 0 → after_verdict n ms s (lines_of bytes) ≡ Ok (ms, s)
ended_whole n ms s [] e = refl
ended_whole n ms s (b ∷ bytes) e = absurd (omega (arith, e))

-- the whole text

pub text_at : (bytes l b : List ℕ) → cut_to l b ≡ cut_at 10 bytes → text_in_lines (lines_of bytes) ≡ text_in_lines (line l (lines_of b))
text_at bytes l b e = ap text_in_lines (lines_at bytes l b e)

pub text_none : (bytes : List ℕ) → no_cut ≡ cut_at 10 bytes → text_in_lines (lines_of bytes) ≡ Err Truncated
text_none bytes e = ap text_in_lines (lines_none bytes e)

pub ruleset whole = (text_at, text_none)

pub ruleset reading = (later_moves, later_outside, later_ends, later_bad, later_tail)

pub ruleset ending = (ended_more, ended_cut, ended_whole)
