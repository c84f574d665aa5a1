-- A field that is read is the field that was written, and what was written is read again.
use Rattle.std.proofs.Common.{◌≡◌, ℕ, zero, suc, ◌+◌, ◌*◌, ◌^◌, ◌<◌, ◌≤◌, Bool, true, false, cond, ltb, List, [], ◌∷◌, ◌++◌, length, take, drop, Result, Ok, Err, refl, sym, ap, subst, ◌∙◌, append_assoc, arith, inl, inr}
use Rattle.std.specs.Prelude.{slice_index}
use Rattle.std.specs.Int.{Width, w32, w64, from_le_bytes, to_le_bytes}
use Rattle.std.specs.List.{flat_map, AllByRecursion}
use Rattle.std.proofs.lemmas.Bool.{cases_lt, ltb-false, le-ltb}
use Rattle.std.proofs.lemmas.List.{take_at, drop_at, take-append-drop, length-append, length-take, get_or-drop, get_or-take, get_or_past}
use Rattle.std.proofs.lemmas.List.Concat.{flat_map-cons}
use Rattle.std.proofs.lemmas.Nat.{le_bytes_4, le_bytes_8, from_le_bytes-to_le_bytes_4, from_le_bytes-to_le_bytes_8}
use Rattle.rd_base.specs.declared.digest.Digest32.{Digest32}
use Rattle.proof_wire.specs.declared.fault.WireFault.{WireFault}
use Rattle.proof_wire.specs.declared.fault.WireFault.TheVariants.{Short}
use Rattle.rd_base.specs.Results.{◌>>=◌}
use Rattle.proof_wire.specs.Wire.{Form, ◌‖◌, in_four_bytes, in_eight_bytes, block, each, digest}
use Rattle.proof_wire.specs.Reading.{Read, at_least, block_ahead, word_ahead, double_word_ahead, digest_ahead, each_ahead}

-- ---- bytes

-- each is a byte
abbrev pub AreBytes : List ℕ → Type 0
AreBytes bytes = (k : ℕ) → slice_index bytes k < 256

AreBytes-drop : (n : ℕ) (bytes : List ℕ) → AreBytes bytes → AreBytes (drop n bytes)
AreBytes-drop n bytes are k = rw get_or-drop (are (n + k))

AreBytes-take : (n : ℕ) (bytes : List ℕ) → AreBytes bytes → AreBytes (take n bytes)
AreBytes-take n bytes are k =
    elim (cases_lt k n) [
      | inl before ↦ rw (get_or-take n bytes k 0 before) (are k)
      | inr past ↦ rw (get_or_past (take n bytes) k 0 (omega (arith, length-take n bytes))) (omega arith)
    ]

pub AreBytes-behind : (b : ℕ) (bytes : List ℕ) → AreBytes (b ∷ bytes) → AreBytes bytes
AreBytes-behind b bytes are k = are (suc k)

-- ---- results

-- the value of a step that did not fail
pub bind_ok : {A B : Type 0} (r : Result A WireFault) (f : A → Result B WireFault) (y : B) → (r >>= f) ≡ Ok y → (x : A) × (r ≡ Ok x) × (f x ≡ Ok y)
bind_ok (Ok x) f y e = (x, refl, e)
bind_ok (Err fault) f y e = absurd cc

-- a test that did not fail
pub guard_ok : {A : Type 0} (b : Bool) (fault : WireFault) (x y : A) → cond b (Err fault) (Ok x) ≡ Ok y → (b ≡ false) × (x ≡ y)
guard_ok true fault x y e = absurd cc
guard_ok false fault x y e = (refl, cc)

abbrev done : {A : Type 0} → A → Result A WireFault
done x = Ok x

pub ok_is : {A : Type 0} (x y : A) → done x ≡ done y → x ≡ y
ok_is x y e = cc

-- ---- forms

-- what a reader took from the front
pub record Takes (bytes : List ℕ) (f : Form) (rest : List ℕ) : Type 0 where
  pub parts : bytes ≡ f.bytes ++ rest
  pub fits : f.fits
  pub are : AreBytes rest

pub Takes-then : {a : List ℕ} {f : Form} {b : List ℕ} {g : Form} {c : List ℕ} → Takes a f b → Takes b g c → Takes a (f ‖ g) c
Takes-then {a} {f} {b} {g} {c} first second = record {
  parts = first.parts ∙ ap (λ bytes. f.bytes ++ bytes) second.parts ∙ sym (append_assoc f.bytes g.bytes c);
  fits = (first.fits, second.fits);
  are = second.are;
}

-- a reader reads values of a form, and each of them
pub record Reads {A : Type 0} (read : List ℕ → Read A) (form : A → Form) : Type 0 where
  pub takes : (bytes : List ℕ) (x : A) (rest : List ℕ) → AreBytes bytes → read bytes ≡ Ok (x, rest) → Takes bytes (form x) rest
  pub again : (x : A) (rest : List ℕ) → (form x).fits → read ((form x).bytes ++ rest) ≡ Ok (x, rest)

-- a value is read, and the next step goes on behind it
pub next : {A B : Type 0} (read : List ℕ → Read A) (form : A → Form) → Reads read form → (x : A) (rest : List ℕ) (f : (A × List ℕ) → Result B WireFault) → (form x).fits → (read ((form x).bytes ++ rest) >>= f) ≡ f (x, rest)
next read form reads x rest f fits = ap (λ r. r >>= f) (reads.again x rest fits)

pub next_of : {A B : Type 0} (read : List ℕ → Read A) (form : A → Form) → Reads read form → (x : A) (g : Form) (rest : List ℕ) (f : (A × List ℕ) → Result B WireFault) → (form x).fits → (read ((form x ‖ g).bytes ++ rest) >>= f) ≡ f (x, g.bytes ++ rest)
next_of read form reads x g rest f fits = ap (λ bytes. read bytes >>= f) (append_assoc (form x).bytes g.bytes rest) ∙ next read form reads x (g.bytes ++ rest) f fits

-- how many bytes two forms have
pub length-both : (f g : Form) (m n : ℕ) → length f.bytes ≡ m → length g.bytes ≡ n → length (f ‖ g).bytes ≡ m + n
length-both f g m n first second = length-append f.bytes g.bytes ∙ ap (λ k. k + length g.bytes) first ∙ ap (λ k. m + k) second

-- a form of so many bytes, and at least so many behind it
pub long_behind : (f g : Form) (rest : List ℕ) (m n : ℕ) → length f.bytes ≡ m → n ≤ length (g.bytes ++ rest) → m + n ≤ length ((f ‖ g).bytes ++ rest)
long_behind f g rest m n first behind =
    subst (λ (bytes : List ℕ). m + n ≤ length bytes) (sym (append_assoc f.bytes g.bytes rest)) (omega (arith, length-append f.bytes (g.bytes ++ rest), first, behind))

-- what a step reads once there are so many bytes
pub behind_at_least : {B : Type 0} (size : ℕ) (bytes : List ℕ) (f : List ℕ → Result B WireFault) (y : B) → (at_least size bytes >>= f) ≡ Ok y → f bytes ≡ Ok y
behind_at_least size bytes f y e =
    let whole = bind_ok (at_least size bytes) f y e in
    subst (λ (w : List ℕ). f w ≡ Ok y) (sym (guard_ok _ _ _ _ whole.1).1) whole.2

pub at_least_ok : (size : ℕ) (bytes : List ℕ) → size ≤ length bytes → at_least size bytes ≡ Ok bytes
at_least_ok size bytes long = ap (λ b. cond b (Err Short) (Ok bytes)) (le-ltb _ _ long)

-- ---- bytes as they are

pub block_takes : (size : ℕ) (bytes xs rest : List ℕ) → AreBytes bytes → block_ahead size bytes ≡ Ok (xs, rest) → Takes bytes (block size xs) rest
block_takes size bytes xs rest are e =
    let g = guard_ok (ltb (length bytes) size) Short (take size bytes, drop size bytes) (xs, rest) e in
    let long : size ≤ length bytes = ltb-false _ _ g.0 in
    let whole : length (take size bytes) ≡ size = omega (arith, length-take size bytes) in
    subst (λ (p : List ℕ × List ℕ). Takes bytes (block size p.0) p.1) g.1 (record {
      parts = sym (take-append-drop size bytes);
      fits = (whole, AreBytes-take size bytes are);
      are = AreBytes-drop size bytes are;
    })

pub block_again : (size : ℕ) (xs rest : List ℕ) → length xs ≡ size → block_ahead size (xs ++ rest) ≡ Ok (xs, rest)
block_again size xs rest len =
    let long : ltb (length (xs ++ rest)) size ≡ false = le-ltb _ _ (omega (arith, length-append xs rest)) in
    rw (long, take_at xs rest size len, drop_at xs rest size len) refl

pub digest_reads : Reads digest_ahead digest
unfolding digest_ahead
digest_reads = record {
  takes = λ bytes d rest are e.
      let front = bind_ok (block_ahead 32 bytes) _ (d, rest) e in
      subst (λ (p : Digest32 × List ℕ). Takes bytes (digest p.0) p.1) (ok_is (record { 0 = front.0.0 }, front.0.1) (d, rest) front.2) (block_takes 32 bytes front.0.0 front.0.1 are front.1);
  again = λ d rest fits. ap (λ r. r >>= (λ front. Ok (record { 0 = front.0 }, front.1))) (block_again 32 d.0 rest fits.0);
}

-- ---- numbers

-- what is known of numbers of so many bytes
record IsWide (w : Width) (size limit : ℕ) : Type 0 where
  back : (bytes : List ℕ) → length bytes ≡ size → AreBytes bytes → to_le_bytes w (from_le_bytes w bytes) ≡ bytes
  below : (bytes : List ℕ) → AreBytes bytes → from_le_bytes w bytes < limit

abbrev number_at : Width → ℕ → List ℕ → Read ℕ
number_at w size bytes = block_ahead size bytes >>= (λ front. Ok (from_le_bytes w front.0, front.1))

number_takes : (w : Width) (size limit : ℕ) → IsWide w size limit → (bytes : List ℕ) (n : ℕ) (rest : List ℕ) → AreBytes bytes
    → number_at w size bytes ≡ Ok (n, rest) → Takes bytes (record { bytes = to_le_bytes w n; fits = n < limit }) rest
number_takes w size limit wide bytes n rest are e =
    let front = bind_ok (block_ahead size bytes) _ (n, rest) e in
    let taken = block_takes size bytes front.0.0 front.0.1 are front.1 in
    subst (λ (p : ℕ × List ℕ). Takes bytes (record { bytes = to_le_bytes w p.0; fits = p.0 < limit }) p.1) (ok_is (from_le_bytes w front.0.0, front.0.1) (n, rest) front.2) (record {
      parts = taken.parts ∙ ap (λ xs. xs ++ front.0.1) (sym (wide.back front.0.0 taken.fits.0 taken.fits.1));
      fits = wide.below front.0.0 taken.fits.1;
      are = taken.are;
    })

pub word_reads : Reads word_ahead in_four_bytes
unfolding word_ahead
word_reads = record {
  takes = number_takes w32 4 (2 ^ 32) (record {
    back = λ bytes len are. le_bytes_4 bytes _ len are refl;
    below = λ bytes are. omega (arith, are 0, are 1, are 2, are 3);
  });
  again = λ n rest fits. ap (λ r. r >>= (λ front. Ok (from_le_bytes w32 front.0, front.1))) (block_again 4 (to_le_bytes w32 n) rest refl) ∙ ap (λ k. Ok (k, rest)) (from_le_bytes-to_le_bytes_4 n fits);
}

pub double_word_reads : Reads double_word_ahead in_eight_bytes
unfolding double_word_ahead
double_word_reads = record {
  takes = number_takes w64 8 (2 ^ 64) (record {
    back = λ bytes len are. le_bytes_8 bytes _ len are refl;
    below = λ bytes are. omega (arith, are 0, are 1, are 2, are 3, are 4, are 5, are 6, are 7);
  });
  again = λ n rest fits. ap (λ r. r >>= (λ front. Ok (from_le_bytes w64 front.0, front.1))) (block_again 8 (to_le_bytes w64 n) rest refl) ∙ ap (λ k. Ok (k, rest)) (from_le_bytes-to_le_bytes_8 n fits);
}

-- ---- values one behind another

each_takes : {A : Type 0} (read : List ℕ → Read A) (form : A → Form) → Reads read form → (count : ℕ) (bytes : List ℕ) (xs : List A) (rest : List ℕ) → AreBytes bytes → each_ahead read count bytes ≡ Ok (xs, rest) → Takes bytes (each form count xs) rest
unfolding each_ahead
each_takes {A} read form reads zero bytes xs rest are e =
    subst (λ (p : List A × List ℕ). Takes bytes (each form 0 p.0) p.1) (ok_is ([], bytes) (xs, rest) e) (record { parts = refl; fits = (refl, tt); are = are })
each_takes {A} read form reads (suc count) bytes xs rest are e =
    let a = bind_ok (read bytes) _ (xs, rest) e in
    let b = bind_ok (each_ahead read count a.0.1) _ (xs, rest) a.2 in
    let first = reads.takes bytes a.0.0 a.0.1 are a.1 in
    let others = each_takes read form reads count a.0.1 b.0.0 b.0.1 first.are b.1 in
    let both = Takes-then first others in
    subst (λ (p : List A × List ℕ). Takes bytes (each form (suc count) p.0) p.1) (ok_is (a.0.0 ∷ b.0.0, b.0.1) (xs, rest) b.2) (record {
      parts = both.parts ∙ ap (λ text. text ++ b.0.1) (sym (flat_map-cons (λ x. (form x).bytes) a.0.0 b.0.0));
      fits = (ap suc others.fits.0, (first.fits, others.fits.1));
      are = both.are;
    })

each_again : {A : Type 0} (read : List ℕ → Read A) (form : A → Form) → Reads read form → (xs : List A) (rest : List ℕ) → AllByRecursion (λ x. (form x).fits) xs → each_ahead read (length xs) (flat_map (λ x. (form x).bytes) xs ++ rest) ≡ Ok (xs, rest)
unfolding each_ahead
each_again read form reads [] rest fits = refl
each_again {A} read form reads (x ∷ xs) rest fits =
    let text = λ (y : A). (form y).bytes in
    let regrouped : flat_map text (x ∷ xs) ++ rest ≡ text x ++ (flat_map text xs ++ rest) = ap (λ bytes. bytes ++ rest) (flat_map-cons text x xs) ∙ append_assoc (text x) (flat_map text xs) rest in
    ap (each_ahead read (suc (length xs))) regrouped
    ∙ next read form reads x (flat_map text xs ++ rest) _ fits.0
    ∙ ap (λ r. r >>= (λ others. Ok (x ∷ others.0, others.1))) (each_again read form reads xs rest fits.1)

pub each_reads : {A : Type 0} (read : List ℕ → Read A) (form : A → Form) → Reads read form → (count : ℕ) → Reads (each_ahead read count) (each form count)
each_reads read form reads count = record {
  takes = each_takes read form reads count;
  again = λ xs rest fits. ap (λ n. each_ahead read n (flat_map (λ x. (form x).bytes) xs ++ rest)) (sym fits.0) ∙ each_again read form reads xs rest fits.1;
}

-- how many bytes they have, where each has so many
pub length-each : {A : Type 0} (form : A → Form) (size : ℕ) → ((x : A) → (form x).fits → length (form x).bytes ≡ size) → (xs : List A) → AllByRecursion (λ x. (form x).fits) xs → length (flat_map (λ x. (form x).bytes) xs) ≡ size * length xs
length-each form size sized [] fits = omega arith
length-each form size sized (x ∷ xs) fits =
    ap length (flat_map-cons (λ y. (form y).bytes) x xs) ∙ grind (arith, length-append (form x).bytes (flat_map (λ y. (form y).bytes) xs), sized x fits.0, length-each form size sized xs fits.1)
