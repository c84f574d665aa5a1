-- Which fault comes first, by lengths and places: each step of the reading is one test, or moves on behind a field.
use Rattle.std.proofs.Common.{◌≡◌, ℕ, zero, suc, ◌+◌, ◌*◌, ◌<◌, ◌≤◌, ◌/◌, ◌%◌, Bool, true, false, cond, eqb, leb, ◌≢◌, List, [], ◌∷◌, length, take, drop, Option, Some, None, Result, Ok, Err, refl, sym, ap, subst, ◌∙◌, inl, inr, ◌⊎◌, arith}
use Rattle.std.specs.Prelude.{◌&&◌, slice_index}
use Rattle.std.specs.Int.{w32, w64, from_le_bytes}
use Rattle.std.specs.Result.{result_err}
use Rattle.std.proofs.lemmas.Bool.{cases_lt, le-ltb, lt-ltb, le-leb, lt-leb, ne_eqb, eq-eqb}
use Rattle.std.proofs.lemmas.Bool.Decides.{eqb_tells}
use Rattle.std.proofs.lemmas.List.{drop-drop, length-drop, get_or-drop}
use Rattle.rd_base.specs.declared.digest.Digest32.{Digest32}
use Rattle.rd_base.specs.declared.status.Status.{Status}
use Rattle.rd_base.specs.declared.status.Status.TheVariants.{Running, Exited, Trapped}
use Rattle.rd_base.specs.declared.status.Ctl.{Ctl}
use Rattle.rd_base.specs.declared.opened.Opening.{Opening}
use Rattle.rd_base.specs.declared.opened.RegOpening.{RegOpening}
use Rattle.rd_base.specs.declared.opened.InOpening.{InOpening}
use Rattle.rd_base.specs.declared.claim.Claim.{Claim}
use Rattle.rd_base.specs.declared.proof.StepProof.{StepProof}
use Rattle.rd_base.specs.declared.proof.StepProof2.{StepProof2}
use Rattle.rd_base.specs.declared.proof.StepProof3.{StepProof3}
use Rattle.rd_base.specs.declared.proof.Proof.TheVariants.{V1, V2, V3}
use Rattle.rd_base.specs.declared.answer.Answer.{Answer}
use Rattle.rd_base.specs.declared.answer.Answer.TheVariants as answers
use Rattle.rd_base.specs.Results.{◌>>=◌}
use Rattle.proof_wire.specs.declared.fault.WireFault.{WireFault}
use Rattle.proof_wire.specs.declared.fault.WireFault.TheVariants.{Short, BadTag, BadStatus, TrailingBytes, BadLength}
use Rattle.proof_wire.specs.Reading.{Read, at_least, at_most, has_flag, block_ahead, byte_ahead, word_ahead, double_word_ahead, digest_ahead, each_ahead, status_of, status_ahead, control_ahead, registers_ahead, opening_ahead, register_opening_ahead, input_opening_ahead, optional_ahead, output_ahead, claim_ahead, root_count, roots_ahead, step_proof_ahead, step_proof_2_ahead, step_proof_3_ahead, answer_ahead, answer_in}
use Rattle.proof_wire.specs.FirstFault.{Test, first_fault, word_from, double_word_from, is_whole, is_all, is_within, is_status, is_length, ends, claim_tests, root_tests, roots_tests, chunk_bytes, step_tests, step_2_tests, step_3_tests, tests_of}

-- ---- tests

-- a test that is passed, and the tests behind it
passed : (passes : Bool) (fault : WireFault) (ts : List Test) → passes ≡ true → first_fault (record { passes = passes; fault = fault } ∷ ts) ≡ first_fault ts
unfolding first_fault
passed passes fault ts is = ap (λ b. cond b (first_fault ts) (Some fault)) is

failed : (passes : Bool) (fault : WireFault) (ts : List Test) → passes ≡ false → first_fault (record { passes = passes; fault = fault } ∷ ts) ≡ Some fault
unfolding first_fault
failed passes fault ts is = ap (λ b. cond b (first_fault ts) (Some fault)) is

-- the steps behind a field, with the field in hand
abbrev Behind : {A B C : Type 0} → List ℕ → ℕ → ((A × List ℕ) → Result B WireFault) → (B → Result C WireFault) → Option WireFault → Type 0
Behind {A} bytes place g f want = (x : A) → result_err (g (x, drop place bytes) >>= f) ≡ want

-- ---- fields that fit

-- a reader that moves behind so many bytes where they are there
abbrev Moves : {A : Type 0} → (List ℕ → Read A) → ℕ → Type 0
Moves {A} read size = (bytes : List ℕ) → size ≤ length bytes → (x : A) × (read bytes ≡ Ok (x, drop size bytes))

block_is : (size : ℕ) (bytes : List ℕ) → size ≤ length bytes → block_ahead size bytes ≡ Ok (take size bytes, drop size bytes)
block_is size bytes long = ap (λ b. cond b (Err Short) (Ok (take size bytes, drop size bytes))) (le-ltb _ _ long)

block_moves : (size : ℕ) → Moves (block_ahead size) size
block_moves size bytes long = (take size bytes, block_is size bytes long)

digest_moves : Moves digest_ahead 32
unfolding digest_ahead
digest_moves bytes long = (record { 0 = take 32 bytes }, ap (λ r. r >>= (λ front. Ok (record { 0 = front.0 }, front.1))) (block_is 32 bytes long))

word_is : (bytes : List ℕ) → 4 ≤ length bytes → word_ahead bytes ≡ Ok (from_le_bytes w32 (take 4 bytes), drop 4 bytes)
unfolding word_ahead
word_is bytes long = ap (λ r. r >>= (λ front. Ok (from_le_bytes w32 front.0, front.1))) (block_is 4 bytes long)

double_word_is : (bytes : List ℕ) → 8 ≤ length bytes → double_word_ahead bytes ≡ Ok (from_le_bytes w64 (take 8 bytes), drop 8 bytes)
unfolding double_word_ahead
double_word_is bytes long = ap (λ r. r >>= (λ front. Ok (from_le_bytes w64 front.0, front.1))) (block_is 8 bytes long)

byte_is : (bytes : List ℕ) → 1 ≤ length bytes → byte_ahead bytes ≡ Ok (slice_index bytes 0, drop 1 bytes)
unfolding byte_ahead
byte_is [] long = absurd (omega (arith, long))
byte_is (b ∷ bytes) long = refl

double_word_moves : Moves double_word_ahead 8
double_word_moves bytes long = (from_le_bytes w64 (take 8 bytes), double_word_is bytes long)

word_moves : Moves word_ahead 4
word_moves bytes long = (from_le_bytes w32 (take 4 bytes), word_is bytes long)

each_moves : {A : Type 0} (read : List ℕ → Read A) (size : ℕ) → Moves read size → (count : ℕ) → Moves (each_ahead read count) (size * count)
unfolding each_ahead
each_moves {A} read size moves zero bytes long =
    let none : size * 0 ≡ 0 = omega arith in
    ([], ap (λ n. Ok ([], drop n bytes)) (sym none))
each_moves {A} read size moves (suc count) bytes long =
    let whole : size + size * count ≡ size * suc count = omega arith in
    let a = moves bytes (omega (arith, whole, long)) in
    let b = each_moves read size moves count (drop size bytes) (omega (arith, length-drop size bytes, whole, long)) in (
      a.0 ∷ b.0,
      ap (λ r. r >>= (λ first. each_ahead read count first.1 >>= (λ others. Ok (first.0 ∷ others.0, others.1)))) a.1
          ∙ ap (λ r. r >>= (λ others. Ok (a.0 ∷ others.0, others.1))) b.1
          ∙ ap (λ rest. Ok (a.0 ∷ b.0, rest)) (drop-drop (size * count) size bytes ∙ ap (λ n. drop n bytes) whole),
    )

registers_moves : Moves registers_ahead 124
unfolding registers_ahead
registers_moves bytes long =
    let others = each_moves word_ahead 4 word_moves 31 bytes long in
    (0 ∷ others.0, ap (λ r. r >>= (λ xs. Ok (0 ∷ xs.0, xs.1))) others.1)

-- ---- fields that may be cut off

-- a reader of so many bytes
record Sized {A : Type 0} (read : List ℕ → Read A) (size : ℕ) : Type 0 where
  short : (bytes : List ℕ) → length bytes < size → read bytes ≡ Err Short
  whole : Moves read size

block_sized : (size : ℕ) → Sized (block_ahead size) size
block_sized size = record {
  short = λ bytes cut. ap (λ b. cond b (Err Short) (Ok (take size bytes, drop size bytes))) (lt-ltb _ _ cut);
  whole = block_moves size;
}

digest_sized : Sized digest_ahead 32
unfolding digest_ahead
digest_sized = record {
  short = λ bytes cut. ap (λ r. r >>= (λ front. Ok (record { 0 = front.0 }, front.1))) ((block_sized 32).short bytes cut);
  whole = digest_moves;
}

at_least_short : {B : Type 0} (size : ℕ) (bytes : List ℕ) (f : List ℕ → Result B WireFault) → length bytes < size → (at_least size bytes >>= f) ≡ Err Short
at_least_short size bytes f cut = ap (λ b. cond b (Err Short) (Ok bytes) >>= f) (lt-ltb _ _ cut)

at_least_whole : {B : Type 0} (size : ℕ) (bytes : List ℕ) (f : List ℕ → Result B WireFault) → size ≤ length bytes → (at_least size bytes >>= f) ≡ f bytes
at_least_whole size bytes f long = ap (λ b. cond b (Err Short) (Ok bytes) >>= f) (le-ltb _ _ long)

-- a head, and a path
abbrev with_path_at : {A C : Type 0} → (List ℕ → Read A) → ℕ → (A → List Digest32 → C) → List ℕ → Read C
with_path_at read levels make bytes = do
  front ← read bytes
  path ← each_ahead digest_ahead levels front.1
  Ok (make front.0 path.0, path.1)

with_path : {A C : Type 0} (read : List ℕ → Read A) (size levels : ℕ) → Moves read size → (make : A → List Digest32 → C) → Moves (with_path_at read levels make) (size + 32 * levels)
with_path {A} {C} read size levels moves make bytes long =
    let a = moves bytes (omega (arith, long)) in
    let b = each_moves digest_ahead 32 digest_moves levels (drop size bytes) (omega (arith, length-drop size bytes, long)) in
    let pathed : (List Digest32 × List ℕ) → Read C = λ path. Ok (make a.0 path.0, path.1) in
    let fronted : (A × List ℕ) → Read C = λ front. each_ahead digest_ahead levels front.1 >>= (λ path. Ok (make front.0 path.0, path.1)) in
    (make a.0 b.0, ap (λ r. r >>= fronted) a.1 ∙ ap (λ r. r >>= pathed) b.1 ∙ ap (λ rest. Ok (make a.0 b.0, rest)) (drop-drop (32 * levels) size bytes))

abbrev opening_of : List ℕ → List Digest32 → Opening
opening_of chunk siblings = record { chunk = chunk; path = record { 0 = siblings } }

abbrev register_opening_of : ℕ → List Digest32 → RegOpening
register_opening_of value siblings = record { value = value; path = record { 0 = siblings } }

abbrev input_opening_of : List ℕ → List Digest32 → InOpening
input_opening_of chunk siblings = record { chunk = chunk; path = record { 0 = siblings } }

opening_sized : Sized opening_ahead 896
unfolding opening_ahead
opening_sized = record {
  short = λ bytes cut. at_least_short 896 bytes _ cut;
  whole = λ bytes long.
      let found = with_path (block_ahead 32) 32 27 (block_moves 32) opening_of bytes long in
      (found.0, at_least_whole 896 bytes _ long ∙ found.1);
}

register_opening_sized : Sized register_opening_ahead 164
unfolding register_opening_ahead
register_opening_sized = record {
  short = λ bytes cut. at_least_short 164 bytes _ cut;
  whole = λ bytes long.
      let found = with_path word_ahead 4 5 word_moves register_opening_of bytes long in
      (found.0, at_least_whole 164 bytes _ long ∙ found.1);
}

input_opening_sized : Sized input_opening_ahead 512
unfolding input_opening_ahead
input_opening_sized = record {
  short = λ bytes cut. at_least_short 512 bytes _ cut;
  whole = λ bytes long.
      let found = with_path (block_ahead 32) 32 15 (block_moves 32) input_opening_of bytes long in
      (found.0, at_least_whole 512 bytes _ long ∙ found.1);
}

each_short : {A : Type 0} (read : List ℕ → Read A) (size : ℕ) → Sized read size → (count : ℕ) (bytes : List ℕ) → length bytes < size * count → each_ahead read count bytes ≡ Err Short
unfolding each_ahead
each_short read size sized zero bytes cut = absurd (omega (arith, cut))
each_short {A} read size sized (suc count) bytes cut =
    let whole : size + size * count ≡ size * suc count = omega arith in
    elim (cases_lt (length bytes) size) [
      | inl first ↦ ap (λ r. r >>= (λ x. each_ahead read count x.1 >>= (λ others. Ok (x.0 ∷ others.0, others.1)))) (sized.short bytes first)
      | inr long ↦
          let a = sized.whole bytes long in
          ap (λ r. r >>= (λ x. each_ahead read count x.1 >>= (λ others. Ok (x.0 ∷ others.0, others.1)))) a.1
          ∙ ap (λ r. r >>= (λ others. Ok (a.0 ∷ others.0, others.1))) (each_short read size sized count (drop size bytes) (omega (arith, length-drop size bytes, whole, cut, long)))
    ]

each_sized : {A : Type 0} (read : List ℕ → Read A) (size : ℕ) → Sized read size → (count : ℕ) → Sized (each_ahead read count) (size * count)
each_sized read size sized count = record { short = each_short read size sized count; whole = each_moves read size sized.whole count }

optional_sized : {A : Type 0} (read : List ℕ → Read A) (size : ℕ) → Sized read size → (is_there : Bool) → Sized (optional_ahead read is_there) (cond is_there size 0)
unfolding optional_ahead
optional_sized read size sized false = record {
  short = λ bytes cut. absurd (omega (arith, cut));
  whole = λ bytes long. (None, refl);
}
optional_sized {A} read size sized true = record {
  short = λ bytes cut. ap (λ r. r >>= (λ found. Ok (Some found.0, found.1))) (sized.short bytes cut);
  whole = λ bytes long.
      let a = sized.whole bytes long in
      (Some a.0, ap (λ r. r >>= (λ found. Ok (Some found.0, found.1))) a.1);
}

-- ---- steps

bind_twice : {A B C : Type 0} (r : Result A WireFault) (g : A → Result B WireFault) (f : B → Result C WireFault) → ((r >>= g) >>= f) ≡ (r >>= (λ x. g x >>= f))
bind_twice (Ok x) g f = refl
bind_twice (Err fault) g f = refl

-- a field that is read as this value
skip_as : {A B C : Type 0} (read : List ℕ → Read A) (size : ℕ) (bytes : List ℕ) (place : ℕ) (x : A) (g : (A × List ℕ) → Result B WireFault) (f : B → Result C WireFault) (want : Option WireFault)
    → read (drop place bytes) ≡ Ok (x, drop size (drop place bytes)) → result_err (g (x, drop (place + size) bytes) >>= f) ≡ want → result_err ((read (drop place bytes) >>= g) >>= f) ≡ want
skip_as read size bytes place x g f want is behind =
    ap (λ r. result_err ((r >>= g) >>= f)) (is ∙ ap (λ rest. Ok (x, rest)) (drop-drop size place bytes)) ∙ behind

-- a field that fits
skip : {A B C : Type 0} (read : List ℕ → Read A) (size : ℕ) → Moves read size → (bytes : List ℕ) (place : ℕ) (g : (A × List ℕ) → Result B WireFault) (f : B → Result C WireFault) (want : Option WireFault)
    → place + size ≤ length bytes → Behind bytes (place + size) g f want → result_err ((read (drop place bytes) >>= g) >>= f) ≡ want
skip read size moves bytes place g f want long behind =
    let m = moves (drop place bytes) (omega (arith, length-drop place bytes, long)) in
    skip_as read size bytes place m.0 g f want m.1 (behind m.0)

-- a byte
skip_byte : {B C : Type 0} (bytes : List ℕ) (place : ℕ) (g : (ℕ × List ℕ) → Result B WireFault) (f : B → Result C WireFault) (want : Option WireFault)
    → place + 1 ≤ length bytes → result_err (g (slice_index bytes place, drop (place + 1) bytes) >>= f) ≡ want → result_err ((byte_ahead (drop place bytes) >>= g) >>= f) ≡ want
skip_byte bytes place g f want long behind =
    let is = byte_is (drop place bytes) (omega (arith, length-drop place bytes, long)) in
    skip_as byte_ahead 1 bytes place (slice_index bytes place) g f want (is ∙ ap (λ b. Ok (b, drop 1 (drop place bytes))) (get_or-drop place bytes 0 0 ∙ ap (λ n. slice_index bytes n) (omega arith))) behind

-- as many bytes as the fixed part has
then_whole : {B C : Type 0} (bytes : List ℕ) (place size : ℕ) (g : List ℕ → Result B WireFault) (f : B → Result C WireFault) (ts : List Test)
    → place ≤ length bytes → (place + size ≤ length bytes → result_err (g (drop place bytes) >>= f) ≡ first_fault ts)
    → result_err ((at_least size (drop place bytes) >>= g) >>= f) ≡ first_fault (is_whole (place + size) bytes ∷ ts)
then_whole bytes place size g f ts inside behind =
    elim (cases_lt (length (drop place bytes)) size) [
      | inl cut ↦ ap (λ r. result_err (r >>= f)) (at_least_short size (drop place bytes) g cut)
          ∙ sym (failed (leb (place + size) (length bytes)) Short ts (lt-leb _ _ (omega (arith, length-drop place bytes, inside, cut))))
      | inr long ↦
          let whole : place + size ≤ length bytes = omega (arith, length-drop place bytes, inside, long) in
          ap (λ r. result_err (r >>= f)) (at_least_whole size (drop place bytes) g long) ∙ behind whole
          ∙ sym (passed (leb (place + size) (length bytes)) Short ts (le-leb _ _ whole))
    ]

-- a number that isn't above the largest
then_within : {B C : Type 0} (bytes : List ℕ) (place most : ℕ) (g : ℕ → Result B WireFault) (f : B → Result C WireFault) (ts : List Test)
    → (slice_index bytes place ≤ most → result_err (g (slice_index bytes place) >>= f) ≡ first_fault ts)
    → result_err ((at_most most (slice_index bytes place) >>= g) >>= f) ≡ first_fault (is_within place 0 most bytes ∷ ts)
then_within bytes place most g f ts behind =
    let v = slice_index bytes place in
    let least : leb 0 v ≡ true = le-leb 0 v (omega arith) in
    let within : (b : Bool) → leb v most ≡ b → (leb 0 v && leb v most) ≡ b = λ b is. ap (λ l. l && leb v most) least ∙ is in
    elim (cases_lt most v) [
      | inl above ↦ ap (λ b. result_err ((cond b (Err BadTag) (Ok v) >>= g) >>= f)) (lt-ltb _ _ above)
          ∙ sym (failed (leb 0 v && leb v most) BadTag ts (within false (lt-leb _ _ above)))
      | inr small ↦ ap (λ b. result_err ((cond b (Err BadTag) (Ok v) >>= g) >>= f)) (le-ltb _ _ small) ∙ behind small
          ∙ sym (passed (leb 0 v && leb v most) BadTag ts (within true (le-leb _ _ small)))
    ]

-- ---- the end

-- all fields are read: the bytes end there, or not
pub ended : {A : Type 0} (bytes : List ℕ) (total : ℕ) (answer : A) → total ≤ length bytes
    → result_err (cond (eqb (length (drop total bytes)) 0) (Ok answer) (Err TrailingBytes)) ≡ first_fault (ends total bytes)
unfolding first_fault
ended {A} bytes total answer inside =
    let whole = passed (leb total (length bytes)) Short (is_all total bytes ∷ []) (le-leb _ _ inside) in
    elim (cases_lt total (length bytes)) [
      | inl more ↦ ap (λ b. result_err (cond b (Ok answer) (Err TrailingBytes))) (ne_eqb (length (drop total bytes)) 0 (λ none. absurd (omega (arith, length-drop total bytes, none, more))))
          ∙ sym (whole ∙ failed (leb (length bytes) total) TrailingBytes [] (lt-leb _ _ more))
      | inr no_more ↦ ap (λ b. result_err (cond b (Ok answer) (Err TrailingBytes))) (eq-eqb (length (drop total bytes)) 0 (omega (arith, length-drop total bytes, no_more)))
          ∙ sym (whole ∙ passed (leb (length bytes) total) TrailingBytes [] (le-leb _ _ no_more))
    ]

-- too few bytes for all of it
cut_short : (bytes : List ℕ) (total : ℕ) → length bytes < total → Some Short ≡ first_fault (ends total bytes)
cut_short bytes total cut = sym (failed (leb total (length bytes)) Short (is_all total bytes ∷ []) (lt-leb _ _ cut))

-- a field that may be cut off
then_sized : {A B C : Type 0} (read : List ℕ → Read A) (size : ℕ) → Sized read size → (bytes : List ℕ) (place total : ℕ) (g : (A × List ℕ) → Result B WireFault) (f : B → Result C WireFault)
    → place ≤ length bytes → place + size ≤ total → ((x : A) → place + size ≤ length bytes → result_err (g (x, drop (place + size) bytes) >>= f) ≡ first_fault (ends total bytes))
    → result_err ((read (drop place bytes) >>= g) >>= f) ≡ first_fault (ends total bytes)
then_sized read size sized bytes place total g f inside fits behind =
    elim (cases_lt (length (drop place bytes)) size) [
      | inl cut ↦ ap (λ r. result_err ((r >>= g) >>= f)) (sized.short (drop place bytes) cut) ∙ cut_short bytes total (omega (arith, length-drop place bytes, inside, fits, cut))
      | inr long ↦
          let whole : place + size ≤ length bytes = omega (arith, length-drop place bytes, inside, long) in
          skip read size sized.whole bytes place g f (first_fault (ends total bytes)) whole (λ x. behind x whole)
    ]

-- what the steps behind a form do: with all of it read they ask whether the bytes end there
abbrev Finishes : {A C : Type 0} → ((A × List ℕ) → Result C WireFault) → List ℕ → Type 0
Finishes {A} f bytes = (x : A) (place : ℕ) → place ≤ length bytes → result_err (f (x, drop place bytes)) ≡ first_fault (ends place bytes)

-- ---- status and control

abbrev is_status_of : ℕ → ℕ → Bool
is_status_of byte code = cond (eqb byte 0) (eqb code 0) (leb byte 2)

status_says : (byte code : ℕ) → ((s : Status) × (status_of byte code ≡ Ok s) × (is_status_of byte code ≡ true)) ⊎ ((status_of byte code ≡ Err BadStatus) × (is_status_of byte code ≡ false))
status_says byte code =
    elim (eqb_tells byte 0) [
      | inl running ↦ elim (eqb_tells code 0) [
        | inl none ↦ inl (Running, rw (running.0, none.0) refl, rw (running.0, none.0) refl)
        | inr some ↦ inr (rw (running.0, some.0) refl, rw (running.0, some.0) refl)
      ]
      | inr stopped ↦ elim (eqb_tells byte 1) [
        | inl exited ↦ inl (Exited code, rw (stopped.0, exited.0) refl, rw (stopped.0, le-leb byte 2 (omega (arith, exited.1))) refl)
        | inr other ↦ elim (eqb_tells byte 2) [
          | inl trapped ↦ inl (Trapped code, rw (stopped.0, other.0, trapped.0) refl, rw (stopped.0, le-leb byte 2 (omega (arith, trapped.1))) refl)
          | inr none ↦ inr (rw (stopped.0, other.0, none.0) refl, rw (stopped.0, lt-leb byte 2 (omega (arith, stopped.1, other.1, none.1))) refl)
        ]
      ]
    ]

then_status : {B C : Type 0} (bytes : List ℕ) (place : ℕ) (g : (Status × List ℕ) → Result B WireFault) (f : B → Result C WireFault) (ts : List Test)
    → place + 5 ≤ length bytes → Behind bytes (place + 5) g f (first_fault ts) → result_err ((status_ahead (drop place bytes) >>= g) >>= f) ≡ first_fault (is_status place bytes ∷ ts)
unfolding status_ahead
then_status {B} {C} bytes place g f ts long behind =
    let v = slice_index bytes place in
    let code = word_from (place + 1) bytes in
    let rest = drop (place + 1 + 4) bytes in
    let f' : (Status × List ℕ) → Result C WireFault = λ x. g x >>= f in
    let want : List Test = is_status place bytes ∷ ts in
    let give : Status → Read Status = λ s. Ok (s, rest) in
    let sum : place + 5 ≡ place + 1 + 4 = omega arith in
    let behind' : Behind bytes (place + 1 + 4) g f (first_fault ts) = subst (λ (n : ℕ). Behind bytes n g f (first_fault ts)) sum behind in
    let says : result_err ((status_of v code >>= give) >>= f') ≡ first_fault want =
    elim (status_says v code) [
      | inl found ↦ ap (λ r. result_err ((r >>= give) >>= f')) found.1 ∙ behind' found.0 ∙ sym (passed (is_status_of v code) BadStatus ts found.2)
      | inr bad ↦ ap (λ r. result_err ((r >>= give) >>= f')) bad.0 ∙ sym (failed (is_status_of v code) BadStatus ts bad.1)
    ] in
    ap result_err (bind_twice (status_ahead (drop place bytes)) g f)
    ∙ skip_byte bytes place _ f' (first_fault want) (omega (arith, long))
    (skip_as word_ahead 4 bytes (place + 1) code _ f' (first_fault want) (word_is (drop (place + 1) bytes) (omega (arith, length-drop (place + 1) bytes, long))) says)

then_control : {B C : Type 0} (bytes : List ℕ) (place : ℕ) (g : (Ctl × List ℕ) → Result B WireFault) (f : B → Result C WireFault) (ts : List Test)
    → place + 49 ≤ length bytes → Behind bytes (place + 49) g f (first_fault ts) → result_err ((control_ahead (drop place bytes) >>= g) >>= f) ≡ first_fault (is_status (place + 4) bytes ∷ ts)
unfolding control_ahead
then_control {B} {C} bytes place g f ts long behind =
    let f' : (Ctl × List ℕ) → Result C WireFault = λ x. g x >>= f in
    let sum : place + 49 ≡ place + 4 + 5 + 8 + 32 = omega arith in
    let behind' : Behind bytes (place + 4 + 5 + 8 + 32) g f (first_fault ts) = subst (λ (n : ℕ). Behind bytes n g f (first_fault ts)) sum behind in
    ap result_err (bind_twice (control_ahead (drop place bytes)) g f)
    ∙ skip word_ahead 4 word_moves bytes place _ f' (first_fault (is_status (place + 4) bytes ∷ ts)) (omega (arith, long)) (λ pc.
    then_status bytes (place + 4) _ f' ts (omega (arith, long)) (λ s.
    skip double_word_ahead 8 double_word_moves bytes (place + 4 + 5) _ f' (first_fault ts) (omega (arith, long)) (λ out_len.
    skip digest_ahead 32 digest_moves bytes (place + 4 + 5 + 8) _ f' (first_fault ts) (omega (arith, long)) (λ chain.
    behind' (record { pc = pc; status = s; out_len = out_len; chain = chain })))))

-- ---- forms

-- an output whose length is this number
then_output : {B C : Type 0} (bytes : List ℕ) (size : ℕ) (g : (List ℕ × List ℕ) → Result B WireFault) (f : B → Result C WireFault) → 122 ≤ length bytes
    → ((out : List ℕ) → 122 + size ≤ length bytes → result_err (g (out, drop (122 + size) bytes) >>= f) ≡ first_fault (ends (122 + size) bytes))
    → result_err ((output_ahead size (drop 122 bytes) >>= g) >>= f) ≡ first_fault (record { passes = leb size 4294967295; fault = BadLength } ∷ ends (122 + size) bytes)
then_output bytes size g f whole behind =
    elim (cases_lt 4294967295 size) [
      | inl above ↦ ap (λ b. result_err ((cond b (Err BadLength) (block_ahead size (drop 122 bytes)) >>= g) >>= f)) (lt-ltb _ _ above)
          ∙ sym (failed (leb size 4294967295) BadLength (ends (122 + size) bytes) (lt-leb _ _ above))
      | inr small ↦ ap (λ b. result_err ((cond b (Err BadLength) (block_ahead size (drop 122 bytes)) >>= g) >>= f)) (le-ltb _ _ small)
          ∙ then_sized (block_ahead size) size (block_sized size) bytes 122 (122 + size) g f whole (omega arith) behind
          ∙ sym (passed (leb size 4294967295) BadLength (ends (122 + size) bytes) (le-leb _ _ small))
    ]

claim_faults : {C : Type 0} (bytes : List ℕ) (f : (Claim × List ℕ) → Result C WireFault) → 1 ≤ length bytes → Finishes f bytes → result_err (claim_ahead (drop 1 bytes) >>= f) ≡ first_fault (claim_tests bytes)
unfolding claim_ahead
claim_faults bytes f some finishes =
    let size = double_word_from 114 bytes in
    then_whole bytes 1 121 _ f (is_status 69 bytes ∷ is_length 114 bytes ∷ ends (122 + size) bytes) some (λ whole.
    skip digest_ahead 32 digest_moves bytes 1 _ f _ (omega (arith, whole)) (λ mem.
    skip digest_ahead 32 digest_moves bytes 33 _ f _ (omega (arith, whole)) (λ regs.
    then_control bytes 65 _ f (is_length 114 bytes ∷ ends (122 + size) bytes) (omega (arith, whole)) (λ ctl.
    skip_as double_word_ahead 8 bytes 114 size _ f _ (double_word_is (drop 114 bytes) (omega (arith, length-drop 114 bytes, whole)))
    (then_output bytes size _ f whole (λ out. finishes (record { mem = mem; regs = regs; ctl = ctl; output = out }) (122 + size)))))))

bind_ends : {A : Type 0} (r : Result A WireFault) → r ≡ (r >>= (λ x. Ok x))
bind_ends (Ok x) = refl
bind_ends (Err fault) = refl

-- the last field of a form that is no more than it
then_last : {A C : Type 0} (read : List ℕ → Read A) (size : ℕ) → Sized read size → (bytes : List ℕ) (place : ℕ) (f : (A × List ℕ) → Result C WireFault)
    → place ≤ length bytes → Finishes f bytes → result_err (read (drop place bytes) >>= f) ≡ first_fault (ends (place + size) bytes)
then_last read size sized bytes place f inside finishes =
    ap (λ r. result_err (r >>= f)) (bind_ends (read (drop place bytes)))
    ∙ then_sized read size sized bytes place (place + size) (λ x. Ok x) f inside (omega arith) (λ x whole. finishes x (place + size) whole)

root_faults : {C : Type 0} (bytes : List ℕ) (f : (Digest32 × List ℕ) → Result C WireFault) → 1 ≤ length bytes → Finishes f bytes → result_err (digest_ahead (drop 1 bytes) >>= f) ≡ first_fault (root_tests bytes)
root_faults bytes f some finishes = then_last digest_ahead 32 digest_sized bytes 1 f some finishes

-- a number of roots
then_root_count : {B C : Type 0} (bytes : List ℕ) (g : ℕ → Result B WireFault) (f : B → Result C WireFault) (ts : List Test)
    → result_err (g (slice_index bytes 1) >>= f) ≡ first_fault ts → result_err ((root_count (slice_index bytes 1) >>= g) >>= f) ≡ first_fault (is_within 1 1 15 bytes ∷ ts)
then_root_count bytes g f ts behind =
    let v = slice_index bytes 1 in
    elim (eqb_tells v 0) [
      | inl none ↦ ap (λ b. result_err ((cond b (Err BadTag) (at_most 15 v) >>= g) >>= f)) none.0
          ∙ sym (failed (leb 1 v && leb v 15) BadTag ts (ap (λ b. b && leb v 15) (lt-leb 1 v (omega (arith, none.1)))))
      | inr some ↦
          let least : (leb 1 v && leb v 15) ≡ leb v 15 = ap (λ b. b && leb v 15) (le-leb 1 v (omega (arith, some.1))) in
          ap (λ b. result_err ((cond b (Err BadTag) (at_most 15 v) >>= g) >>= f)) some.0
          ∙ elim (cases_lt 15 v) [
            | inl above ↦ ap (λ b. result_err ((cond b (Err BadTag) (Ok v) >>= g) >>= f)) (lt-ltb _ _ above) ∙ sym (failed (leb 1 v && leb v 15) BadTag ts (least ∙ lt-leb _ _ above))
            | inr small ↦ ap (λ b. result_err ((cond b (Err BadTag) (Ok v) >>= g) >>= f)) (le-ltb _ _ small) ∙ behind ∙ sym (passed (leb 1 v && leb v 15) BadTag ts (least ∙ le-leb _ _ small))
          ]
    ]

byte_short : (bytes : List ℕ) → length bytes < 1 → byte_ahead bytes ≡ Err Short
unfolding byte_ahead
byte_short [] cut = refl
byte_short (b ∷ bytes) cut = absurd (omega (arith, cut))

roots_faults : {C : Type 0} (bytes : List ℕ) (f : (List Digest32 × List ℕ) → Result C WireFault) → 1 ≤ length bytes → Finishes f bytes → result_err (roots_ahead (drop 1 bytes) >>= f) ≡ first_fault (roots_tests bytes)
unfolding roots_ahead
roots_faults bytes f some finishes =
    let v = slice_index bytes 1 in
    let ts : List Test = is_within 1 1 15 bytes ∷ ends (2 + 32 * v) bytes in
    elim (cases_lt (length bytes) 2) [
      | inl cut ↦ ap (λ r. result_err ((r >>= (λ number. root_count number.0 >>= (λ count. each_ahead digest_ahead count number.1))) >>= f)) (byte_short (drop 1 bytes) (omega (arith, length-drop 1 bytes, cut)))
          ∙ sym (failed (leb 2 (length bytes)) Short ts (lt-leb _ _ cut))
      | inr long ↦ skip_byte bytes 1 _ f (first_fault ts) long
          (then_root_count bytes _ f (ends (2 + 32 * v) bytes) (then_last (each_ahead digest_ahead v) (32 * v) (each_sized digest_ahead 32 digest_sized v) bytes 2 f long finishes))
          ∙ sym (passed (leb 2 (length bytes)) Short ts (le-leb _ _ long))
    ]

-- ---- proofs of one step

-- how many bytes the chunks have that flags name
chunk_bytes_are : (n : ℕ) → n ≤ 7 → cond (has_flag 1 n) 896 0 + cond (has_flag 2 n) 896 0 ≡ chunk_bytes n
chunk_bytes_are zero few = refl
chunk_bytes_are (suc zero) few = refl
chunk_bytes_are (suc (suc zero)) few = refl
chunk_bytes_are (suc (suc (suc zero))) few = refl
chunk_bytes_are (suc (suc (suc (suc zero)))) few = refl
chunk_bytes_are (suc (suc (suc (suc (suc zero))))) few = refl
chunk_bytes_are (suc (suc (suc (suc (suc (suc zero)))))) few = refl
chunk_bytes_are (suc (suc (suc (suc (suc (suc (suc zero))))))) few = refl
chunk_bytes_are (suc (suc (suc (suc (suc (suc (suc (suc n)))))))) few = absurd (omega (arith, few))

input_bytes_are : (n : ℕ) → n ≤ 7 → cond (has_flag 4 n) 512 0 ≡ 512 * (n / 4 % 2)
input_bytes_are zero few = refl
input_bytes_are (suc zero) few = refl
input_bytes_are (suc (suc zero)) few = refl
input_bytes_are (suc (suc (suc zero))) few = refl
input_bytes_are (suc (suc (suc (suc zero)))) few = refl
input_bytes_are (suc (suc (suc (suc (suc zero))))) few = refl
input_bytes_are (suc (suc (suc (suc (suc (suc zero)))))) few = refl
input_bytes_are (suc (suc (suc (suc (suc (suc (suc zero))))))) few = refl
input_bytes_are (suc (suc (suc (suc (suc (suc (suc (suc n)))))))) few = absurd (omega (arith, few))

step_faults : {C : Type 0} (bytes : List ℕ) (f : (StepProof × List ℕ) → Result C WireFault) → 1 ≤ length bytes → Finishes f bytes → result_err (step_proof_ahead (drop 1 bytes) >>= f) ≡ first_fault (step_tests bytes)
unfolding step_proof_ahead
step_faults bytes f some finishes =
    let n = slice_index bytes 206 in
    let fetched : ℕ = cond (has_flag 1 n) 896 0 in
    let loaded : ℕ = cond (has_flag 2 n) 896 0 in
    let total : ℕ = 207 + chunk_bytes n in
    then_whole bytes 1 206 _ f (is_status 161 bytes ∷ is_within 206 0 3 bytes ∷ ends total bytes) some (λ whole.
    skip digest_ahead 32 digest_moves bytes 1 _ f _ (omega (arith, whole)) (λ mem.
    skip registers_ahead 124 registers_moves bytes 33 _ f _ (omega (arith, whole)) (λ regs.
    then_control bytes 157 _ f (is_within 206 0 3 bytes ∷ ends total bytes) (omega (arith, whole)) (λ ctl.
    skip_byte bytes 206 _ f _ whole
    (then_within bytes 206 3 _ f (ends total bytes) (λ few.
    let sum : fetched + loaded ≡ chunk_bytes n = chunk_bytes_are n (omega (arith, few)) in
    let all : 207 + fetched + loaded ≡ total = omega (arith, sum) in
    then_sized (optional_ahead opening_ahead (has_flag 1 n)) fetched (optional_sized opening_ahead 896 opening_sized (has_flag 1 n)) bytes 207 total _ f whole (omega (arith, sum)) (λ fetch inside.
    then_sized (optional_ahead opening_ahead (has_flag 2 n)) loaded (optional_sized opening_ahead 896 opening_sized (has_flag 2 n)) bytes (207 + fetched) total _ f inside (omega (arith, sum)) (λ operand inside1.
    finishes (record { mem = mem; regs = regs; ctl = ctl; fetch = fetch; operand = operand }) (207 + fetched + loaded) inside1 ∙ ap (λ k. first_fault (ends k bytes)) all))))))))

step_2_faults : {C : Type 0} (bytes : List ℕ) (f : (StepProof2 × List ℕ) → Result C WireFault) → 1 ≤ length bytes → Finishes f bytes → result_err (step_proof_2_ahead (drop 1 bytes) >>= f) ≡ first_fault (step_2_tests bytes)
unfolding step_proof_2_ahead
step_2_faults bytes f some finishes =
    let n = slice_index bytes 114 in
    let count = slice_index bytes 115 in
    let fetched : ℕ = cond (has_flag 1 n) 896 0 in
    let loaded : ℕ = cond (has_flag 2 n) 896 0 in
    let total : ℕ = 116 + chunk_bytes n + 164 * count in
    then_whole bytes 1 115 _ f (is_status 69 bytes ∷ is_within 114 0 3 bytes ∷ is_within 115 0 3 bytes ∷ ends total bytes) some (λ whole.
    skip digest_ahead 32 digest_moves bytes 1 _ f _ (omega (arith, whole)) (λ mem.
    skip digest_ahead 32 digest_moves bytes 33 _ f _ (omega (arith, whole)) (λ regs.
    then_control bytes 65 _ f (is_within 114 0 3 bytes ∷ is_within 115 0 3 bytes ∷ ends total bytes) (omega (arith, whole)) (λ ctl.
    skip_byte bytes 114 _ f _ (omega (arith, whole))
    (skip_byte bytes 115 _ f _ whole
    (then_within bytes 114 3 _ f (is_within 115 0 3 bytes ∷ ends total bytes) (λ few.
    then_within bytes 115 3 _ f (ends total bytes) (λ few_named.
    let sum : fetched + loaded ≡ chunk_bytes n = chunk_bytes_are n (omega (arith, few)) in
    let all : 116 + fetched + 164 * count + loaded ≡ total = omega (arith, sum) in
    then_sized (optional_ahead opening_ahead (has_flag 1 n)) fetched (optional_sized opening_ahead 896 opening_sized (has_flag 1 n)) bytes 116 total _ f whole (omega (arith, sum)) (λ fetch inside.
    then_sized (each_ahead register_opening_ahead count) (164 * count) (each_sized register_opening_ahead 164 register_opening_sized count) bytes (116 + fetched) total _ f inside (omega (arith, sum)) (λ named inside1.
    then_sized (optional_ahead opening_ahead (has_flag 2 n)) loaded (optional_sized opening_ahead 896 opening_sized (has_flag 2 n)) bytes (116 + fetched + 164 * count) total _ f inside1 (omega (arith, sum)) (λ operand inside2.
    finishes (record { mem = mem; regs = regs; ctl = ctl; fetch = fetch; named = named; operand = operand }) (116 + fetched + 164 * count + loaded) inside2 ∙ ap (λ k. first_fault (ends k bytes)) all)))))))))))

step_3_faults : {C : Type 0} (bytes : List ℕ) (f : (StepProof3 × List ℕ) → Result C WireFault) → 1 ≤ length bytes → Finishes f bytes → result_err (step_proof_3_ahead (drop 1 bytes) >>= f) ≡ first_fault (step_3_tests bytes)
unfolding step_proof_3_ahead
step_3_faults bytes f some finishes =
    let n = slice_index bytes 150 in
    let count = slice_index bytes 151 in
    let fetched : ℕ = cond (has_flag 1 n) 896 0 in
    let loaded : ℕ = cond (has_flag 2 n) 896 0 in
    let given : ℕ = cond (has_flag 4 n) 512 0 in
    let total : ℕ = 152 + chunk_bytes n + 164 * count + 512 * (n / 4 % 2) in
    then_whole bytes 1 151 _ f (is_status 105 bytes ∷ is_within 150 0 7 bytes ∷ is_within 151 0 3 bytes ∷ ends total bytes) some (λ whole.
    skip digest_ahead 32 digest_moves bytes 1 _ f _ (omega (arith, whole)) (λ mem.
    skip word_ahead 4 word_moves bytes 33 _ f _ (omega (arith, whole)) (λ input_len.
    skip digest_ahead 32 digest_moves bytes 37 _ f _ (omega (arith, whole)) (λ input_root.
    skip digest_ahead 32 digest_moves bytes 69 _ f _ (omega (arith, whole)) (λ regs.
    then_control bytes 101 _ f (is_within 150 0 7 bytes ∷ is_within 151 0 3 bytes ∷ ends total bytes) (omega (arith, whole)) (λ ctl.
    skip_byte bytes 150 _ f _ (omega (arith, whole))
    (skip_byte bytes 151 _ f _ whole
    (then_within bytes 150 7 _ f (is_within 151 0 3 bytes ∷ ends total bytes) (λ few.
    then_within bytes 151 3 _ f (ends total bytes) (λ few_named.
    let sum : fetched + loaded ≡ chunk_bytes n = chunk_bytes_are n few in
    let input_sum : given ≡ 512 * (n / 4 % 2) = input_bytes_are n few in
    let all : 152 + fetched + 164 * count + loaded + given ≡ total = omega (arith, sum, input_sum) in
    then_sized (optional_ahead opening_ahead (has_flag 1 n)) fetched (optional_sized opening_ahead 896 opening_sized (has_flag 1 n)) bytes 152 total _ f whole (omega (arith, sum, input_sum)) (λ fetch inside.
    then_sized (each_ahead register_opening_ahead count) (164 * count) (each_sized register_opening_ahead 164 register_opening_sized count) bytes (152 + fetched) total _ f inside (omega (arith, sum, input_sum)) (λ named inside1.
    then_sized (optional_ahead opening_ahead (has_flag 2 n)) loaded (optional_sized opening_ahead 896 opening_sized (has_flag 2 n)) bytes (152 + fetched + 164 * count) total _ f inside1 (omega (arith, sum, input_sum)) (λ operand inside2.
    then_sized (optional_ahead input_opening_ahead (has_flag 4 n)) given (optional_sized input_opening_ahead 512 input_opening_sized (has_flag 4 n)) bytes (152 + fetched + 164 * count + loaded) total _ f inside2 (omega (arith, sum, input_sum)) (λ input inside3.
    finishes (record { mem = mem; input_len = input_len; input_root = input_root; regs = regs; ctl = ctl; fetch = fetch; named = named; operand = operand; input = input })
    (152 + fetched + 164 * count + loaded + given) inside3 ∙ ap (λ k. first_fault (ends k bytes)) all))))))))))))))

-- ---- answers

-- with all of it read, nothing may follow
abbrev stop : (Answer × List ℕ) → Result Answer WireFault
stop answer = cond (eqb (length answer.1) 0) (Ok answer.0) (Err TrailingBytes)

-- the tests of a tag, and those before them
abbrev from_tag : ℕ → List ℕ → List Test → List Test
from_tag tag bytes ts = is_whole 1 (tag ∷ bytes) ∷ is_within 0 1 6 (tag ∷ bytes) ∷ ts

some_byte : (tag : ℕ) (bytes : List ℕ) → 1 ≤ length (tag ∷ bytes)
some_byte tag bytes = omega arith

-- an answer with a tag
by_form : {A : Type 0} (read : List ℕ → Read A) (make : A → Answer) (tag : ℕ) (bytes : List ℕ) (ts : List Test) → (leb 1 tag && leb tag 6) ≡ true
    → ((f : (A × List ℕ) → Result Answer WireFault) → 1 ≤ length (tag ∷ bytes) → Finishes f (tag ∷ bytes) → result_err (read bytes >>= f) ≡ first_fault ts)
    → result_err ((read bytes >>= (λ x. Ok (make x.0, x.1))) >>= stop) ≡ first_fault (from_tag tag bytes ts)
by_form {A} read make tag bytes ts known faults =
    let made : (A × List ℕ) → Read Answer = λ x. Ok (make x.0, x.1) in
    ap result_err (bind_twice (read bytes) made stop)
    ∙ faults (λ x. made x >>= stop) (some_byte tag bytes) (λ x place inside. ended (tag ∷ bytes) place (make x) inside)
    ∙ sym (passed (leb 1 (length (tag ∷ bytes))) Short (is_within 0 1 6 (tag ∷ bytes) ∷ ts) (le-leb _ _ (some_byte tag bytes)) ∙ passed (leb 1 tag && leb tag 6) BadTag ts known)

-- no tag
no_tag : (tag : ℕ) → tag ≢ 1 → tag ≢ 2 → tag ≢ 3 → tag ≢ 4 → tag ≢ 5 → tag ≢ 6 → (leb 1 tag && leb tag 6) ≡ false
no_tag tag n1 n2 n3 n4 n5 n6 =
    elim (cases_lt tag 1) [
      | inl below ↦ ap (λ b. b && leb tag 6) (lt-leb _ _ below)
      | inr least ↦ elim (cases_lt 6 tag) [
        | inl above ↦ ap (λ b. b && leb tag 6) (le-leb _ _ least) ∙ lt-leb _ _ above
        | inr most ↦ absurd (omega (arith, n1, n2, n3, n4, n5, n6, least, most))
      ]
    ]

abbrev Faults : List ℕ → Type 0
Faults bytes = result_err (answer_in bytes) ≡ first_fault (tests_of bytes)

with_tag : (tag number : ℕ) (bytes : List ℕ) → tag ≡ number → Faults (number ∷ bytes) → Faults (tag ∷ bytes)
with_tag tag number bytes is faults = subst (λ (n : ℕ). Faults (n ∷ bytes)) (sym is) faults

pub by_places : (bytes : List ℕ) → Faults bytes
unfolding answer_in answer_ahead
by_places [] = sym (failed (leb 1 0) Short _ refl)
by_places (tag ∷ bytes) =
    elim (eqb_tells tag 1) [
      | inl is ↦ with_tag tag 1 bytes is.1 (by_form claim_ahead answers.Claim 1 bytes _ refl (claim_faults (1 ∷ bytes)))
      | inr n1 ↦ elim (eqb_tells tag 2) [
        | inl is ↦ with_tag tag 2 bytes is.1 (by_form digest_ahead answers.Root 2 bytes _ refl (root_faults (2 ∷ bytes)))
        | inr n2 ↦ elim (eqb_tells tag 3) [
          | inl is ↦ with_tag tag 3 bytes is.1 (by_form step_proof_ahead (λ p. answers.Step (V1 p)) 3 bytes _ refl (step_faults (3 ∷ bytes)))
          | inr n3 ↦ elim (eqb_tells tag 4) [
            | inl is ↦ with_tag tag 4 bytes is.1 (by_form step_proof_2_ahead (λ p. answers.Step (V2 p)) 4 bytes _ refl (step_2_faults (4 ∷ bytes)))
            | inr n4 ↦ elim (eqb_tells tag 5) [
              | inl is ↦ with_tag tag 5 bytes is.1 (by_form roots_ahead answers.Roots 5 bytes _ refl (roots_faults (5 ∷ bytes)))
              | inr n5 ↦ elim (eqb_tells tag 6) [
                | inl is ↦ with_tag tag 6 bytes is.1 (by_form step_proof_3_ahead (λ p. answers.Step (V3 p)) 6 bytes _ refl (step_3_faults (6 ∷ bytes)))
                | inr n6 ↦ rw (n1.0, n2.0, n3.0, n4.0, n5.0, n6.0)
                    (sym (passed (leb 1 (length (tag ∷ bytes))) Short _ (le-leb _ _ (some_byte tag bytes)) ∙ failed (leb 1 tag && leb tag 6) BadTag _ (no_tag tag n1.1 n2.1 n3.1 n4.1 n5.1 n6.1)))
              ]
            ]
          ]
        ]
      ]
    ]
