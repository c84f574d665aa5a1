-- Fields of several parts: what is read is what was written, and what was written is read again.
use Rattle.std.proofs.Common.{◌≡◌, ℕ, zero, suc, ◌+◌, ◌*◌, ◌^◌, ◌<◌, ◌≤◌, Bool, true, false, cond, eqb, ltb, List, [], ◌∷◌, ◌++◌, length, drop, Option, Some, None, Result, Ok, Err, refl, sym, ap, subst, ◌∙◌, append_assoc, ◌⊎◌, inl, inr, arith}
use Rattle.std.specs.Prelude.{is_some}
use Rattle.std.specs.Int.{w32, to_le_bytes}
use Rattle.std.proofs.lemmas.Bool.{eqb-true, ltb-false, le-ltb}
use Rattle.std.proofs.lemmas.List.{take-append-drop, length-append}
use Rattle.rd_base.specs.declared.digest.Digest32.{Digest32}
use Rattle.rd_base.specs.declared.status.Status.{Status}
use Rattle.rd_base.specs.declared.status.Status.TheVariants.{Running, Exited, Trapped}
use Rattle.rd_base.specs.declared.status.Ctl.{Ctl}
use Rattle.rd_base.specs.declared.opened.Opening.{Opening}
use Rattle.rd_base.specs.declared.opened.RegOpening.{RegOpening}
use Rattle.rd_base.specs.declared.opened.InOpening.{InOpening}
use Rattle.rd_base.specs.Results.{◌>>=◌}
use Rattle.proof_wire.specs.declared.fault.WireFault.{WireFault}
use Rattle.proof_wire.specs.declared.fault.WireFault.TheVariants.{BadTag, BadStatus}
use Rattle.proof_wire.specs.Wire.{Form, ◌‖◌, byte, in_four_bytes, in_eight_bytes, block, each, digest, status, control, registers, opening, register_opening, input_opening, optional, flagged, count}
use Rattle.proof_wire.specs.Reading.{Read, at_least, at_most, block_ahead, byte_ahead, word_ahead, double_word_ahead, digest_ahead, each_ahead, status_of, status_ahead, control_ahead, registers_ahead, opening_ahead, register_opening_ahead, input_opening_ahead, optional_ahead, has_flag}
use Rattle.proof_wire.proofs.FieldLemmas.{AreBytes, AreBytes-behind, bind_ok, guard_ok, ok_is, Takes, Takes-then, Reads, next, next_of, length-both, behind_at_least, at_least_ok, block_takes, block_again, digest_reads, word_reads, double_word_reads, each_reads, length-each}

-- which way a test went
pub chosen : {A : Type 0} (b : Bool) (x y z : A) → cond b x y ≡ z → ((b ≡ true) × (x ≡ z)) ⊎ ((b ≡ false) × (y ≡ z))
chosen true x y z e = inl (refl, e)
chosen false x y z e = inr (refl, e)

-- ---- tests

-- what a step reads once there are so many bytes
pub at_least_next : {B : Type 0} (size : ℕ) (bytes : List ℕ) (f : List ℕ → Result B WireFault) → size ≤ length bytes → (at_least size bytes >>= f) ≡ f bytes
at_least_next size bytes f long = ap (λ r. r >>= f) (at_least_ok size bytes long)

-- a number that is not too large
-- what a reader and the steps behind it took
pub then_takes : {A B Goal : Type 0} (read : List ℕ → Read A) (form : A → Form) → Reads read form → (bytes : List ℕ) (f : (A × List ℕ) → Result B WireFault) (y : B)
    → AreBytes bytes → (read bytes >>= f) ≡ Ok y → ((x : A) (rest : List ℕ) → Takes bytes (form x) rest → f (x, rest) ≡ Ok y → Goal) → Goal
then_takes read form reads bytes f y are e behind =
    let x = bind_ok (read bytes) f y e in
    behind x.0.0 x.0.1 (reads.takes bytes x.0.0 x.0.1 are x.1) x.2

-- a number that is not too large, and the steps behind it
pub then_at_most : {B Goal : Type 0} (largest n : ℕ) (f : ℕ → Result B WireFault) (y : B) → (at_most largest n >>= f) ≡ Ok y → (n ≤ largest → f n ≡ Ok y → Goal) → Goal
then_at_most largest n f y e behind =
    let m = bind_ok (at_most largest n) f y e in
    let g = guard_ok (ltb largest n) BadTag n m.0 m.1 in
    behind (ltb-false _ _ g.0) (ap f g.1 ∙ m.2)

pub at_most_next : {B : Type 0} (largest n : ℕ) (f : ℕ → Result B WireFault) → n ≤ largest → (at_most largest n >>= f) ≡ f n
at_most_next largest n f small = ap (λ b. cond b (Err BadTag) (Ok n) >>= f) (le-ltb _ _ small)

-- ---- a byte, a status, control

byte_takes : (bytes : List ℕ) (b : ℕ) (rest : List ℕ) → AreBytes bytes → byte_ahead bytes ≡ Ok (b, rest) → Takes bytes (byte b) rest
unfolding byte_ahead
byte_takes [] b rest are e = absurd cc
byte_takes (x ∷ bytes) b rest are e =
    subst (λ (p : ℕ × List ℕ). Takes (x ∷ bytes) (byte p.0) p.1) (ok_is (x, bytes) (b, rest) e) (record { parts = refl; fits = are 0; are = AreBytes-behind x bytes are })

pub byte_reads : Reads byte_ahead byte
unfolding byte_ahead
byte_reads = record { takes = byte_takes; again = λ b rest fits. refl }

-- the status that is read has this byte and this code
status_is : (b code : ℕ) (s : Status) → code < 2 ^ 32 → status_of b code ≡ Ok s → ((status s).bytes ≡ b ∷ to_le_bytes w32 code) × (status s).fits
status_is b code s below e =
    let Is : Status → Type 0 = λ t. ((status t).bytes ≡ b ∷ to_le_bytes w32 code) × (status t).fits in
    let from_2 : Result Status WireFault = cond (eqb b 2) (Ok (Trapped code)) (Err BadStatus) in
    let from_1 : Result Status WireFault = cond (eqb b 1) (Ok (Exited code)) from_2 in
    elim (chosen (eqb b 0) (cond (eqb code 0) (Ok Running) (Err BadStatus)) from_1 (Ok s) e) [
      | inl first ↦ elim (chosen (eqb code 0) (Ok Running) (Err BadStatus) (Ok s) first.1) [
        | inl running ↦ subst Is (ok_is Running s running.1)
            (ap (λ n. n ∷ to_le_bytes w32 0) (sym (eqb-true b 0 first.0)) ∙ ap (λ n. b ∷ to_le_bytes w32 n) (sym (eqb-true code 0 running.0)), (omega arith, omega arith))
        | inr bad ↦ absurd (cc (bad.1))
      ]
      | inr others ↦ elim (chosen (eqb b 1) (Ok (Exited code)) from_2 (Ok s) others.1) [
        | inl exited ↦ subst Is (ok_is (Exited code) s exited.1) (ap (λ n. n ∷ to_le_bytes w32 code) (sym (eqb-true b 1 exited.0)), (omega arith, below))
        | inr more ↦ elim (chosen (eqb b 2) (Ok (Trapped code)) (Err BadStatus) (Ok s) more.1) [
          | inl trapped ↦ subst Is (ok_is (Trapped code) s trapped.1) (ap (λ n. n ∷ to_le_bytes w32 code) (sym (eqb-true b 2 trapped.0)), (omega arith, below))
          | inr bad ↦ absurd (cc (bad.1))
        ]
      ]
    ]

status_takes : (bytes : List ℕ) (s : Status) (rest : List ℕ) → AreBytes bytes → status_ahead bytes ≡ Ok (s, rest) → Takes bytes (status s) rest
unfolding status_ahead
status_takes bytes s rest are e =
    let b = bind_ok (byte_ahead bytes) _ (s, rest) e in
    let code = bind_ok (word_ahead b.0.1) _ (s, rest) b.2 in
    let found = bind_ok (status_of b.0.0 code.0.0) _ (s, rest) code.2 in
    let first = byte_takes bytes b.0.0 b.0.1 are b.1 in
    let second = word_reads.takes b.0.1 code.0.0 code.0.1 first.are code.1 in
    let both = Takes-then first second in
    let is = status_is b.0.0 code.0.0 found.0 second.fits found.1 in
    subst (λ (p : Status × List ℕ). Takes bytes (status p.0) p.1) (ok_is (found.0, code.0.1) (s, rest) found.2)
    (record { parts = both.parts ∙ ap (λ text. text ++ code.0.1) (sym is.0); fits = is.1; are = both.are })

status_again : (s : Status) (rest : List ℕ) → (status s).fits → status_ahead ((status s).bytes ++ rest) ≡ Ok (s, rest)
unfolding status_ahead byte_ahead
status_again Running rest fits = next word_ahead in_four_bytes word_reads 0 rest _ fits.1
status_again (Exited code) rest fits = next word_ahead in_four_bytes word_reads code rest _ fits.1
status_again (Trapped code) rest fits = next word_ahead in_four_bytes word_reads code rest _ fits.1

status_reads : Reads status_ahead status
status_reads = record { takes = status_takes; again = status_again }

length-status : (s : Status) → length (status s).bytes ≡ 5
length-status Running = refl
length-status (Exited code) = refl
length-status (Trapped code) = refl

pub length-control : (c : Ctl) → (control c).fits → length (control c).bytes ≡ 49
length-control c fits =
    length-both (in_four_bytes c.pc) (status c.status ‖ in_eight_bytes c.out_len ‖ digest c.chain) 4 45 refl
    (length-both (status c.status) (in_eight_bytes c.out_len ‖ digest c.chain) 5 40 (length-status c.status) (length-both (in_eight_bytes c.out_len) (digest c.chain) 8 32 refl fits.1.1.1.0))

control_takes : (bytes : List ℕ) (c : Ctl) (rest : List ℕ) → AreBytes bytes → control_ahead bytes ≡ Ok (c, rest) → Takes bytes (control c) rest
unfolding control_ahead
control_takes bytes c rest are e =
    then_takes word_ahead in_four_bytes word_reads bytes _ (c, rest) are e (λ pc r0 t0 e0.
    then_takes status_ahead status status_reads r0 _ (c, rest) t0.are e0 (λ s r1 t1 e1.
    then_takes double_word_ahead in_eight_bytes double_word_reads r1 _ (c, rest) t1.are e1 (λ out_len r2 t2 e2.
    then_takes digest_ahead digest digest_reads r2 _ (c, rest) t2.are e2 (λ chain r3 t3 e3.
    let made : Ctl × List ℕ = (record { pc = pc; status = s; out_len = out_len; chain = chain }, r3) in
    subst (λ (p : Ctl × List ℕ). Takes bytes (control p.0) p.1) (ok_is made (c, rest) e3) (Takes-then t0 (Takes-then t1 (Takes-then t2 t3)))))))

control_again : (c : Ctl) (rest : List ℕ) → (control c).fits → control_ahead ((control c).bytes ++ rest) ≡ Ok (c, rest)
unfolding control_ahead
control_again c rest fits =
    next_of word_ahead in_four_bytes word_reads c.pc (status c.status ‖ in_eight_bytes c.out_len ‖ digest c.chain) rest _ fits.0
    ∙ next_of status_ahead status status_reads c.status (in_eight_bytes c.out_len ‖ digest c.chain) rest _ fits.1.0
    ∙ next_of double_word_ahead in_eight_bytes double_word_reads c.out_len (digest c.chain) rest _ fits.1.1.0
    ∙ next digest_ahead digest digest_reads c.chain rest _ fits.1.1.1

pub control_reads : Reads control_ahead control
control_reads = record { takes = control_takes; again = control_again }

-- ---- registers

registers_takes : (bytes xs rest : List ℕ) → AreBytes bytes → registers_ahead bytes ≡ Ok (xs, rest) → Takes bytes (registers xs) rest
unfolding registers_ahead
registers_takes bytes xs rest are e =
    let others = bind_ok (each_ahead word_ahead 31 bytes) _ (xs, rest) e in
    let taken = (each_reads word_ahead in_four_bytes word_reads 31).takes bytes others.0.0 others.0.1 are others.1 in
    subst (λ (p : List ℕ × List ℕ). Takes bytes (registers p.0) p.1) (ok_is (0 ∷ others.0.0, others.0.1) (xs, rest) others.2)
    (record { parts = taken.parts; fits = (refl, taken.fits); are = taken.are })

registers_again : (xs rest : List ℕ) → (registers xs).fits → registers_ahead ((registers xs).bytes ++ rest) ≡ Ok (xs, rest)
unfolding registers_ahead
registers_again xs rest fits =
    let whole : 0 ∷ drop 1 xs ≡ xs = ap (λ front. front ++ drop 1 xs) (sym fits.0) ∙ take-append-drop 1 xs in
    next (each_ahead word_ahead 31) (each in_four_bytes 31) (each_reads word_ahead in_four_bytes word_reads 31) (drop 1 xs) rest _ fits.1 ∙ ap (λ ys. Ok (ys, rest)) whole

pub registers_reads : Reads registers_ahead registers
registers_reads = record { takes = registers_takes; again = registers_again }

pub length-registers : (xs : List ℕ) → (registers xs).fits → length (registers xs).bytes ≡ 124
length-registers xs fits = length-each in_four_bytes 4 (λ n below. refl) (drop 1 xs) fits.1.1 ∙ ap (λ n. 4 * n) fits.1.0

-- ---- openings

block_reads : Reads (block_ahead 32) (block 32)
block_reads = record { takes = block_takes 32; again = λ xs rest fits. block_again 32 xs rest fits.0 }

length-path : (levels : ℕ) (siblings : List Digest32) → (each digest levels siblings).fits → length (each digest levels siblings).bytes ≡ 32 * levels
length-path levels siblings fits = length-each digest 32 (λ d whole. whole.0) siblings fits.1 ∙ ap (λ n. 32 * n) fits.0

length-opening : (o : Opening) → (opening o).fits → length (opening o).bytes ≡ 896
length-opening o fits = length-both (block 32 o.chunk) (each digest 27 o.path.0) 32 864 fits.0.0 (length-path 27 o.path.0 fits.1)

opening_takes : (bytes : List ℕ) (o : Opening) (rest : List ℕ) → AreBytes bytes → opening_ahead bytes ≡ Ok (o, rest) → Takes bytes (opening o) rest
unfolding opening_ahead
opening_takes bytes o rest are e =
    let whole = behind_at_least 896 bytes _ (o, rest) e in
    let chunk = bind_ok (block_ahead 32 bytes) _ (o, rest) whole in
    let path = bind_ok (each_ahead digest_ahead 27 chunk.0.1) _ (o, rest) chunk.2 in
    let t0 = (block_reads).takes bytes chunk.0.0 chunk.0.1 are chunk.1 in
    let t1 = (each_reads digest_ahead digest digest_reads 27).takes chunk.0.1 path.0.0 path.0.1 t0.are path.1 in
    let made : Opening × List ℕ = (record { chunk = chunk.0.0; path = record { 0 = path.0.0 } }, path.0.1) in
    subst (λ (p : Opening × List ℕ). Takes bytes (opening p.0) p.1) (ok_is made (o, rest) path.2) (Takes-then t0 t1)

opening_again : (o : Opening) (rest : List ℕ) → (opening o).fits → opening_ahead ((opening o).bytes ++ rest) ≡ Ok (o, rest)
unfolding opening_ahead
opening_again o rest fits =
    let long : 896 ≤ length ((opening o).bytes ++ rest) = omega (arith, length-append (opening o).bytes rest, length-opening o fits) in
    at_least_next 896 ((opening o).bytes ++ rest) _ long
    ∙ next_of (block_ahead 32) (block 32) (block_reads) o.chunk (each digest 27 o.path.0) rest _ fits.0
    ∙ next (each_ahead digest_ahead 27) (each digest 27) (each_reads digest_ahead digest digest_reads 27) o.path.0 rest _ fits.1

pub opening_reads : Reads opening_ahead opening
opening_reads = record { takes = opening_takes; again = opening_again }

length-register_opening : (o : RegOpening) → (register_opening o).fits → length (register_opening o).bytes ≡ 164
length-register_opening o fits = length-both (in_four_bytes o.value) (each digest 5 o.path.0) 4 160 refl (length-path 5 o.path.0 fits.1)

register_opening_takes : (bytes : List ℕ) (o : RegOpening) (rest : List ℕ) → AreBytes bytes → register_opening_ahead bytes ≡ Ok (o, rest) → Takes bytes (register_opening o) rest
unfolding register_opening_ahead
register_opening_takes bytes o rest are e =
    let whole = behind_at_least 164 bytes _ (o, rest) e in
    let value = bind_ok (word_ahead bytes) _ (o, rest) whole in
    let path = bind_ok (each_ahead digest_ahead 5 value.0.1) _ (o, rest) value.2 in
    let t0 = (word_reads).takes bytes value.0.0 value.0.1 are value.1 in
    let t1 = (each_reads digest_ahead digest digest_reads 5).takes value.0.1 path.0.0 path.0.1 t0.are path.1 in
    let made : RegOpening × List ℕ = (record { value = value.0.0; path = record { 0 = path.0.0 } }, path.0.1) in
    subst (λ (p : RegOpening × List ℕ). Takes bytes (register_opening p.0) p.1) (ok_is made (o, rest) path.2) (Takes-then t0 t1)

register_opening_again : (o : RegOpening) (rest : List ℕ) → (register_opening o).fits → register_opening_ahead ((register_opening o).bytes ++ rest) ≡ Ok (o, rest)
unfolding register_opening_ahead
register_opening_again o rest fits =
    let long : 164 ≤ length ((register_opening o).bytes ++ rest) = omega (arith, length-append (register_opening o).bytes rest, length-register_opening o fits) in
    at_least_next 164 ((register_opening o).bytes ++ rest) _ long
    ∙ next_of (word_ahead) (in_four_bytes) (word_reads) o.value (each digest 5 o.path.0) rest _ fits.0
    ∙ next (each_ahead digest_ahead 5) (each digest 5) (each_reads digest_ahead digest digest_reads 5) o.path.0 rest _ fits.1

pub register_opening_reads : Reads register_opening_ahead register_opening
register_opening_reads = record { takes = register_opening_takes; again = register_opening_again }

length-input_opening : (o : InOpening) → (input_opening o).fits → length (input_opening o).bytes ≡ 512
length-input_opening o fits = length-both (block 32 o.chunk) (each digest 15 o.path.0) 32 480 fits.0.0 (length-path 15 o.path.0 fits.1)

input_opening_takes : (bytes : List ℕ) (o : InOpening) (rest : List ℕ) → AreBytes bytes → input_opening_ahead bytes ≡ Ok (o, rest) → Takes bytes (input_opening o) rest
unfolding input_opening_ahead
input_opening_takes bytes o rest are e =
    let whole = behind_at_least 512 bytes _ (o, rest) e in
    let chunk = bind_ok (block_ahead 32 bytes) _ (o, rest) whole in
    let path = bind_ok (each_ahead digest_ahead 15 chunk.0.1) _ (o, rest) chunk.2 in
    let t0 = (block_reads).takes bytes chunk.0.0 chunk.0.1 are chunk.1 in
    let t1 = (each_reads digest_ahead digest digest_reads 15).takes chunk.0.1 path.0.0 path.0.1 t0.are path.1 in
    let made : InOpening × List ℕ = (record { chunk = chunk.0.0; path = record { 0 = path.0.0 } }, path.0.1) in
    subst (λ (p : InOpening × List ℕ). Takes bytes (input_opening p.0) p.1) (ok_is made (o, rest) path.2) (Takes-then t0 t1)

input_opening_again : (o : InOpening) (rest : List ℕ) → (input_opening o).fits → input_opening_ahead ((input_opening o).bytes ++ rest) ≡ Ok (o, rest)
unfolding input_opening_ahead
input_opening_again o rest fits =
    let long : 512 ≤ length ((input_opening o).bytes ++ rest) = omega (arith, length-append (input_opening o).bytes rest, length-input_opening o fits) in
    at_least_next 512 ((input_opening o).bytes ++ rest) _ long
    ∙ next_of (block_ahead 32) (block 32) (block_reads) o.chunk (each digest 15 o.path.0) rest _ fits.0
    ∙ next (each_ahead digest_ahead 15) (each digest 15) (each_reads digest_ahead digest digest_reads 15) o.path.0 rest _ fits.1

pub input_opening_reads : Reads input_opening_ahead input_opening
input_opening_reads = record { takes = input_opening_takes; again = input_opening_again }

-- ---- values that may be there

optional_takes : {A : Type 0} (read : List ℕ → Read A) (form : A → Form) → Reads read form → (is_there : Bool) (bytes : List ℕ) (o : Option A) (rest : List ℕ)
    → AreBytes bytes → optional_ahead read is_there bytes ≡ Ok (o, rest) → Takes bytes (optional form o) rest × (is_there ≡ is_some o)
unfolding optional_ahead
optional_takes {A} read form reads false bytes o rest are e =
    subst (λ (p : Option A × List ℕ). Takes bytes (optional form p.0) p.1 × (false ≡ is_some p.0)) (ok_is (None, bytes) (o, rest) e) (record { parts = refl; fits = tt; are = are }, refl)
optional_takes {A} read form reads true bytes o rest are e =
    let found = bind_ok (read bytes) _ (o, rest) e in
    subst (λ (p : Option A × List ℕ). Takes bytes (optional form p.0) p.1 × (true ≡ is_some p.0)) (ok_is (Some found.0.0, found.0.1) (o, rest) found.2)
    (reads.takes bytes found.0.0 found.0.1 are found.1, refl)

pub then_optional : {A B Goal : Type 0} (read : List ℕ → Read A) (form : A → Form) → Reads read form → (is_there : Bool) (bytes : List ℕ) (f : (Option A × List ℕ) → Result B WireFault) (y : B)
    → AreBytes bytes → (optional_ahead read is_there bytes >>= f) ≡ Ok y → ((o : Option A) (rest : List ℕ) → Takes bytes (optional form o) rest → is_there ≡ is_some o → f (o, rest) ≡ Ok y → Goal) → Goal
then_optional read form reads is_there bytes f y are e behind =
    let o = bind_ok (optional_ahead read is_there bytes) f y e in
    let taken = optional_takes read form reads is_there bytes o.0.0 o.0.1 are o.1 in
    behind o.0.0 o.0.1 taken.0 taken.1 o.2

optional_again : {A : Type 0} (read : List ℕ → Read A) (form : A → Form) → Reads read form → (is_there : Bool) (o : Option A) (rest : List ℕ)
    → is_there ≡ is_some o → (optional form o).fits → optional_ahead read is_there ((optional form o).bytes ++ rest) ≡ Ok (o, rest)
unfolding optional_ahead
optional_again read form reads is_there None rest is fits = ap (λ b. optional_ahead read b rest) is
optional_again read form reads is_there (Some x) rest is fits = ap (λ b. optional_ahead read b ((form x).bytes ++ rest)) is ∙ next read form reads x rest _ fits

pub optional_next : {A B : Type 0} (read : List ℕ → Read A) (form : A → Form) → Reads read form → (is_there : Bool) (o : Option A) (rest : List ℕ) (f : (Option A × List ℕ) → Result B WireFault)
    → is_there ≡ is_some o → (optional form o).fits → (optional_ahead read is_there ((optional form o).bytes ++ rest) >>= f) ≡ f (o, rest)
optional_next read form reads is_there o rest f is fits = ap (λ r. r >>= f) (optional_again read form reads is_there o rest is fits)

pub optional_next_of : {A B : Type 0} (read : List ℕ → Read A) (form : A → Form) → Reads read form → (is_there : Bool) (o : Option A) (g : Form) (rest : List ℕ) (f : (Option A × List ℕ) → Result B WireFault)
    → is_there ≡ is_some o → (optional form o).fits → (optional_ahead read is_there ((optional form o ‖ g).bytes ++ rest) >>= f) ≡ f (o, g.bytes ++ rest)
optional_next_of read form reads is_there o g rest f is fits =
    ap (λ bytes. optional_ahead read is_there bytes >>= f) (append_assoc (optional form o).bytes g.bytes rest) ∙ optional_next read form reads is_there o (g.bytes ++ rest) f is fits

-- ---- flags

-- the number that says that something is there
abbrev number_if : ℕ → Bool → ℕ
number_if number is_there = cond is_there number 0

flag-number_if : {A : Type 0} (number : ℕ) (o : Option A) → number_if number (is_some o) ≡ flagged number o
flag-number_if number None = refl
flag-number_if number (Some x) = refl

two_flags : (n : ℕ) → n ≤ 3 → n ≡ number_if 1 (has_flag 1 n) + number_if 2 (has_flag 2 n)
two_flags zero few = refl
two_flags (suc zero) few = refl
two_flags (suc (suc zero)) few = refl
two_flags (suc (suc (suc zero))) few = refl
two_flags (suc (suc (suc (suc n)))) few = absurd (omega arith)

three_flags : (n : ℕ) → n ≤ 7 → n ≡ number_if 1 (has_flag 1 n) + number_if 2 (has_flag 2 n) + number_if 4 (has_flag 4 n)
three_flags zero few = refl
three_flags (suc zero) few = refl
three_flags (suc (suc zero)) few = refl
three_flags (suc (suc (suc zero))) few = refl
three_flags (suc (suc (suc (suc zero)))) few = refl
three_flags (suc (suc (suc (suc (suc zero))))) few = refl
three_flags (suc (suc (suc (suc (suc (suc zero)))))) few = refl
three_flags (suc (suc (suc (suc (suc (suc (suc zero))))))) few = refl
three_flags (suc (suc (suc (suc (suc (suc (suc (suc n)))))))) few = absurd (omega arith)

-- flags that say what is there are the flags of it
pub flags_are : {A B : Type 0} (n : ℕ) (fetch : Option A) (operand : Option B) → n ≤ 3 → has_flag 1 n ≡ is_some fetch → has_flag 2 n ≡ is_some operand → n ≡ flagged 1 fetch + flagged 2 operand
flags_are n fetch operand few first second =
    two_flags n few ∙ ap (λ b. number_if 1 b + number_if 2 (has_flag 2 n)) first ∙ ap (λ b. number_if 1 (is_some fetch) + number_if 2 b) second
    ∙ ap (λ k. k + number_if 2 (is_some operand)) (flag-number_if 1 fetch) ∙ ap (λ k. flagged 1 fetch + k) (flag-number_if 2 operand)

pub flags_3_are : {A B C : Type 0} (n : ℕ) (fetch : Option A) (operand : Option B) (input : Option C) → n ≤ 7
    → has_flag 1 n ≡ is_some fetch → has_flag 2 n ≡ is_some operand → has_flag 4 n ≡ is_some input → n ≡ flagged 1 fetch + flagged 2 operand + flagged 4 input
flags_3_are n fetch operand input few first second third =
    three_flags n few ∙ ap (λ b. number_if 1 b + number_if 2 (has_flag 2 n) + number_if 4 (has_flag 4 n)) first
    ∙ ap (λ b. number_if 1 (is_some fetch) + number_if 2 b + number_if 4 (has_flag 4 n)) second
    ∙ ap (λ b. number_if 1 (is_some fetch) + number_if 2 (is_some operand) + number_if 4 b) third
    ∙ ap (λ k. k + number_if 2 (is_some operand) + number_if 4 (is_some input)) (flag-number_if 1 fetch)
    ∙ ap (λ k. flagged 1 fetch + k + number_if 4 (is_some input)) (flag-number_if 2 operand)
    ∙ ap (λ k. flagged 1 fetch + flagged 2 operand + k) (flag-number_if 4 input)

-- what the flags of something say
pub record Say {A B : Type 0} (fetch : Option A) (operand : Option B) (n : ℕ) : Type 0 where
  pub few : n ≤ 3
  pub fetch_is : has_flag 1 n ≡ is_some fetch
  pub operand_is : has_flag 2 n ≡ is_some operand

pub flags_say : {A B : Type 0} (fetch : Option A) (operand : Option B) → Say fetch operand (flagged 1 fetch + flagged 2 operand)
flags_say None None = record { few = omega arith; fetch_is = refl; operand_is = refl }
flags_say (Some a) None = record { few = omega arith; fetch_is = refl; operand_is = refl }
flags_say None (Some b) = record { few = omega arith; fetch_is = refl; operand_is = refl }
flags_say (Some a) (Some b) = record { few = omega arith; fetch_is = refl; operand_is = refl }

pub record Say3 {A B C : Type 0} (fetch : Option A) (operand : Option B) (input : Option C) (n : ℕ) : Type 0 where
  pub few : n ≤ 7
  pub fetch_is : has_flag 1 n ≡ is_some fetch
  pub operand_is : has_flag 2 n ≡ is_some operand
  pub input_is : has_flag 4 n ≡ is_some input

pub flags_3_say : {A B C : Type 0} (fetch : Option A) (operand : Option B) (input : Option C) → Say3 fetch operand input (flagged 1 fetch + flagged 2 operand + flagged 4 input)
flags_3_say None None None = record { few = omega arith; fetch_is = refl; operand_is = refl; input_is = refl }
flags_3_say (Some a) None None = record { few = omega arith; fetch_is = refl; operand_is = refl; input_is = refl }
flags_3_say None (Some b) None = record { few = omega arith; fetch_is = refl; operand_is = refl; input_is = refl }
flags_3_say (Some a) (Some b) None = record { few = omega arith; fetch_is = refl; operand_is = refl; input_is = refl }
flags_3_say None None (Some c) = record { few = omega arith; fetch_is = refl; operand_is = refl; input_is = refl }
flags_3_say (Some a) None (Some c) = record { few = omega arith; fetch_is = refl; operand_is = refl; input_is = refl }
flags_3_say None (Some b) (Some c) = record { few = omega arith; fetch_is = refl; operand_is = refl; input_is = refl }
flags_3_say (Some a) (Some b) (Some c) = record { few = omega arith; fetch_is = refl; operand_is = refl; input_is = refl }

-- ---- counts

-- as many values as there are
pub each_counted : {A : Type 0} (form : A → Form) {bytes : List ℕ} (n : ℕ) (xs : List A) {rest : List ℕ} → Takes bytes (each form n xs) rest → Takes bytes (each form (length xs) xs) rest
each_counted form n xs taken = record { parts = taken.parts; fits = (refl, taken.fits.1); are = taken.are }

pub count_takes : {bytes rest : List ℕ} (n : ℕ) (named : List RegOpening) → n ≤ 3 → n ≡ length named → Takes bytes (byte n) rest → Takes bytes (count named) rest
count_takes {bytes} {rest} n named few is taken = record {
  parts = taken.parts ∙ ap (λ k. k ∷ rest) is;
  fits = (subst (λ (k : ℕ). k ≤ 3) is few, subst (λ (k : ℕ). k < 256) is taken.fits);
  are = taken.are;
}
