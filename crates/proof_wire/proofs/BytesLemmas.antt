-- The bytes of a form are bytes.
use Rattle.std.proofs.Common.{◌≡◌, ℕ, zero, suc, ◌<◌, ◌≤◌, ◌+◌, ◌/◌, ◌%◌, ◌^◌, List, [], ◌∷◌, ◌++◌, length, take, drop, Option, Some, None, sym, subst, arith}
use Rattle.std.specs.List.{flat_map, AllByRecursion}
use Rattle.std.proofs.lemmas.List.Concat.{flat_map-cons}
use Rattle.rd_base.specs.declared.digest.Digest32.{Digest32}
use Rattle.rd_base.specs.declared.status.Status.{Status}
use Rattle.rd_base.specs.declared.status.Status.TheVariants.{Running, Exited, Trapped}
use Rattle.rd_base.specs.declared.status.Ctl.{Ctl}
use Rattle.rd_base.specs.declared.opened.Opening.{Opening}
use Rattle.rd_base.specs.declared.opened.RegOpening.{RegOpening}
use Rattle.rd_base.specs.declared.opened.InOpening.{InOpening}
use Rattle.rd_base.specs.declared.proof.Proof.TheVariants.{V1, V2, V3}
use Rattle.rd_base.specs.declared.answer.Answer.{Answer}
use Rattle.rd_base.specs.declared.answer.Answer.TheVariants as answers
use Rattle.proof_wire.specs.Wire.{Form, ◌‖◌, byte, in_four_bytes, in_eight_bytes, block, given, each, digest, status, control, registers, opening, register_opening, input_opening, optional, flagged, count, output, wire_form, Spells}
use Rattle.proof_wire.proofs.FieldLemmas.{AreBytes}

no_bytes : AreBytes []
no_bytes k = omega arith

one_byte : (b : ℕ) (bytes : List ℕ) → b < 256 → AreBytes bytes → AreBytes (b ∷ bytes)
one_byte b bytes below are zero = below
one_byte b bytes below are (suc k) = are k

both_bytes : (first others : List ℕ) → AreBytes first → AreBytes others → AreBytes (first ++ others)
both_bytes [] others one other = other
both_bytes (b ∷ first) others one other = one_byte b (first ++ others) (one 0) (both_bytes first others (λ k. one (suc k)) other)

-- the bytes of a value that fits are bytes
record Fine (f : Form) : Type 0 where
  are : f.fits → AreBytes f.bytes

-- a form behind another
then_fine : {f g : Form} → Fine f → Fine g → Fine (f ‖ g)
then_fine {f} {g} one other = record { are = λ fits. both_bytes f.bytes g.bytes (one.are fits.0) (other.are fits.1) }

byte_fine : (b : ℕ) → Fine (byte b)
byte_fine b = record { are = λ fits. one_byte b [] fits no_bytes }

four_bytes : (a b c d : ℕ) (bytes : List ℕ) → a < 256 → b < 256 → c < 256 → d < 256 → AreBytes bytes → AreBytes (a ∷ b ∷ c ∷ d ∷ bytes)
four_bytes a b c d bytes first second third fourth are =
    one_byte a (b ∷ c ∷ d ∷ bytes) first (one_byte b (c ∷ d ∷ bytes) second (one_byte c (d ∷ bytes) third (one_byte d bytes fourth are)))

word_fine : (n : ℕ) → Fine (in_four_bytes n)
word_fine n = record {
  are = λ fits. four_bytes (n % 256) (n / 256 % 256) (n / 65536 % 256) (n / 16777216 % 256) [] (omega arith) (omega arith) (omega arith) (omega arith) no_bytes;
}

double_word_fine : (n : ℕ) → Fine (in_eight_bytes n)
double_word_fine n = record {
  are = λ fits. four_bytes (n % 256) (n / 256 % 256) (n / 65536 % 256) (n / 16777216 % 256)
      (n / 4294967296 % 256 ∷ n / 1099511627776 % 256 ∷ n / 281474976710656 % 256 ∷ n / 72057594037927936 % 256 ∷ [])
      (omega arith) (omega arith) (omega arith) (omega arith)
      (four_bytes (n / 4294967296 % 256) (n / 1099511627776 % 256) (n / 281474976710656 % 256) (n / 72057594037927936 % 256) [] (omega arith) (omega arith) (omega arith) (omega arith) no_bytes);
}

block_fine : (size : ℕ) (bytes : List ℕ) → Fine (block size bytes)
block_fine size bytes = record { are = λ fits. fits.1 }

digest_fine : (d : Digest32) → Fine (digest d)
digest_fine d = record { are = λ fits. fits.1 }

all_fine : {A : Type 0} (form : A → Form) → ((x : A) → Fine (form x)) → (xs : List A) → AllByRecursion (λ x. (form x).fits) xs → AreBytes (flat_map (λ x. (form x).bytes) xs)
all_fine form fine [] fits = no_bytes
all_fine form fine (x ∷ xs) fits =
    subst AreBytes (sym (flat_map-cons (λ y. (form y).bytes) x xs)) (both_bytes (form x).bytes (flat_map (λ y. (form y).bytes) xs) ((fine x).are fits.0) (all_fine form fine xs fits.1))

each_fine : {A : Type 0} (form : A → Form) → ((x : A) → Fine (form x)) → (count : ℕ) (xs : List A) → Fine (each form count xs)
each_fine form fine count xs = record { are = λ fits. all_fine form fine xs fits.1 }

status_fine : (s : Status) → Fine (status s)
status_fine Running = then_fine (byte_fine 0) (word_fine 0)
status_fine (Exited code) = then_fine (byte_fine 1) (word_fine code)
status_fine (Trapped code) = then_fine (byte_fine 2) (word_fine code)

control_fine : (c : Ctl) → Fine (control c)
control_fine c = then_fine (word_fine c.pc) (then_fine (status_fine c.status) (then_fine (double_word_fine c.out_len) (digest_fine c.chain)))

given_fine : (fact : Type 0) → Fine (given fact)
given_fine fact = record { are = λ fits. no_bytes }

registers_fine : (xs : List ℕ) → Fine (registers xs)
registers_fine xs = then_fine (given_fine (take 1 xs ≡ 0 ∷ [])) (each_fine in_four_bytes word_fine 31 (drop 1 xs))

opening_fine : (o : Opening) → Fine (opening o)
opening_fine o = then_fine (block_fine 32 o.chunk) (each_fine digest digest_fine 27 o.path.0)

register_opening_fine : (o : RegOpening) → Fine (register_opening o)
register_opening_fine o = then_fine (word_fine o.value) (each_fine digest digest_fine 5 o.path.0)

input_opening_fine : (o : InOpening) → Fine (input_opening o)
input_opening_fine o = then_fine (block_fine 32 o.chunk) (each_fine digest digest_fine 15 o.path.0)

optional_fine : {A : Type 0} (form : A → Form) → ((x : A) → Fine (form x)) → (o : Option A) → Fine (optional form o)
optional_fine form fine None = record { are = λ fits. no_bytes }
optional_fine form fine (Some x) = fine x

count_fine : (named : List RegOpening) → Fine (count named)
count_fine named = then_fine (given_fine (length named ≤ 3)) (byte_fine (length named))

output_fine : (bytes : List ℕ) → Fine (output bytes)
output_fine bytes = then_fine (given_fine (length bytes < 2 ^ 32)) (block_fine (length bytes) bytes)

named_fine : (named : List RegOpening) → Fine (each register_opening (length named) named)
named_fine named = each_fine register_opening register_opening_fine (length named) named

form_fine : (a : Answer) → Fine (wire_form a)
form_fine (answers.Claim c) =
    then_fine (byte_fine 1) (then_fine (digest_fine c.mem) (then_fine (digest_fine c.regs) (then_fine (control_fine c.ctl) (then_fine (double_word_fine (length c.output)) (output_fine c.output)))))
form_fine (answers.Root r) = then_fine (byte_fine 2) (digest_fine r)
form_fine (answers.Roots rs) =
    then_fine (byte_fine 5) (then_fine (given_fine ((1 ≤ length rs) × (length rs ≤ 15))) (then_fine (byte_fine (length rs)) (each_fine digest digest_fine (length rs) rs)))
form_fine (answers.Step (V1 p)) =
    then_fine (byte_fine 3) (then_fine (digest_fine p.mem) (then_fine (registers_fine p.regs) (then_fine (control_fine p.ctl)
    (then_fine (byte_fine (flagged 1 p.fetch + flagged 2 p.operand)) (then_fine (optional_fine opening opening_fine p.fetch) (optional_fine opening opening_fine p.operand))))))
form_fine (answers.Step (V2 p)) =
    then_fine (byte_fine 4) (then_fine (digest_fine p.mem) (then_fine (digest_fine p.regs) (then_fine (control_fine p.ctl)
    (then_fine (byte_fine (flagged 1 p.fetch + flagged 2 p.operand)) (then_fine (count_fine p.named)
    (then_fine (optional_fine opening opening_fine p.fetch) (then_fine (named_fine p.named) (optional_fine opening opening_fine p.operand))))))))
form_fine (answers.Step (V3 p)) =
    then_fine (byte_fine 6) (then_fine (digest_fine p.mem) (then_fine (word_fine p.input_len) (then_fine (digest_fine p.input_root) (then_fine (digest_fine p.regs) (then_fine (control_fine p.ctl)
    (then_fine (byte_fine (flagged 1 p.fetch + flagged 2 p.operand + flagged 4 p.input)) (then_fine (count_fine p.named)
    (then_fine (optional_fine opening opening_fine p.fetch) (then_fine (named_fine p.named) (then_fine (optional_fine opening opening_fine p.operand) (optional_fine input_opening input_opening_fine p.input)))))))))))

pub spelled_bytes : (a : Answer) (bytes : List ℕ) → Spells a bytes → AreBytes bytes
spelled_bytes a bytes spells = subst AreBytes (sym spells.1) ((form_fine a).are spells.0)
