-- A tampered run keeps valid states.
use Rattle.std.proofs.Common.{◌≡◌, ℕ, zero, suc, ◌+◌, ◌%◌, ◌^◌, ◌<◌, ◌≤◌, eqb, ltb, cond, List, length, set, slice_index, Bool, true, false, sym, ap, ◌∙◌, subst, ⊎_elim, arith, get_or-set_same, get_or-set_other}
use Rattle.std.specs.Prelude.{bit_xor}
use Rattle.std.proofs.Math.ListN.{length-set}
use Rattle.std.proofs.lemmas.Bool.{cases_eq, cases_lt, eq-eqb, ne_eqb}
use Rattle.std.proofs.lemmas.List.{set_past}
use Rattle.std.proofs.lemmas.Nat.{xor_of_8}
use Rattle.rd_base.specs.Regs.{with_register}
use Rattle.rd_base.specs.declared.tamper.Tamper.{Tamper}
use Rattle.rd_base.specs.declared.tamper.Tamper.TheVariants.{Untouched, Flip, Register, Early}
use Rattle.mem_plain.specs.Contents.{Contents, byte_at, with_byte, with_number}
use Rattle.mem_plain.specs.Memory.{IsMemory}
use Rattle.rv_step.specs.State.{State}
use Rattle.rv_step.specs.Step.{step}
use Rattle.rv_step.specs.Valid.{IsRegisterFile, IsValid}
use Rattle.checkpoint_run.specs.TamperedRun.{flipped, with_value, tampered, followed, run_from}
use Rattle.checkpoint_run.specs.ValidRuns.{IsTamperInRange, TamperedRunsKeepValidStates}

-- a register file stays one if a word is written

written-word : (xs : List ℕ) (r value k : ℕ) → ((k : ℕ) → slice_index xs k < 2 ^ 32) → value < 2 ^ 32 → slice_index (set xs r value) k < 2 ^ 32
written-word xs r value k words small = ⊎_elim
    (λ inside. ⊎_elim
    (λ same. omega (arith, ap (slice_index (set xs r value)) same ∙ get_or-set_same xs r value 0 inside))
    (λ apart. omega (arith, get_or-set_other xs r k value 0 apart, words k))
    (cases_eq k r))
    (λ outside. omega (arith, ap (λ ys. slice_index ys k) (set_past xs r value outside), words k))
    (cases_lt r (length xs))

written-file : (xs : List ℕ) (r value : ℕ) → IsRegisterFile xs → value < 2 ^ 32 → IsRegisterFile (with_register xs r value)
written-file xs r value file small = ⊎_elim
    (λ first. rw (eq-eqb r 0 first) file)
    (λ other. rw (ne_eqb r 0 other) (record {
      thirty_two = length-set xs r value ∙ file.thirty_two;
      words = λ k. written-word xs r value k file.words small;
      zero_first = get_or-set_other xs r 0 value 0 (λ same. other (sym same)) ∙ file.zero_first;
    }))
    (cases_eq r 0)

-- a memory stays one if a byte is changed
abbrev pub StaysMemory : Type 0
StaysMemory = (m : Contents) (a width value : ℕ) → IsMemory m → a + width ≤ 2 ^ 32 → IsMemory (with_number m a width value)

changed-memory : StaysMemory → (m : Contents) (a b : ℕ) → IsMemory m → a < 2 ^ 32 → b < 256 → IsMemory (with_byte m a b)
changed-memory stays m a b memory inside small =
    let same : b % 256 ≡ b = omega (arith, small) in
    subst (λ v. IsMemory (with_byte m a v)) same (stays m a 1 b memory (omega (arith, inside)))

module _ (stays : StaysMemory) (steps : (s : State) → IsValid s → IsValid (step s)) where
  flipped-valid : (s : State) (addr mask : ℕ) → IsValid s → addr < 2 ^ 32 → mask < 256 → IsValid (flipped s addr mask)
  flipped-valid s addr mask valid inside small = record {
    regs = valid.regs;
    pc = valid.pc;
    memory = changed-memory stays s.memory addr (bit_xor (byte_at s.memory addr) mask) valid.memory inside (xor_of_8 (byte_at s.memory addr) mask (valid.memory.bytes addr) small);
    status = valid.status;
    output = valid.output;
    version = valid.version;
    input = valid.input;
    short = valid.short;
  }

  with_value-valid : (s : State) (reg value : ℕ) → IsValid s → value < 2 ^ 32 → IsValid (with_value s reg value)
  with_value-valid s reg value valid small = record {
    regs = written-file s.regs reg value valid.regs small;
    pc = valid.pc;
    memory = valid.memory;
    status = valid.status;
    output = valid.output;
    version = valid.version;
    input = valid.input;
    short = valid.short;
  }

  either-valid : (b : Bool) (s r : State) → IsValid s → IsValid r → IsValid (cond b s r)
  either-valid true s r one other = one
  either-valid false s r one other = other

  tampered-valid : (t : Tamper) (i : ℕ) (s : State) → IsTamperInRange t → IsValid s → IsValid (tampered t i s)
  tampered-valid Untouched i s range valid = valid
  tampered-valid (Flip at addr mask) i s range valid = either-valid (eqb i at) (flipped s addr mask) s (flipped-valid s addr mask valid range.0 range.1) valid
  tampered-valid (Register at reg value) i s range valid = either-valid (eqb i at) (with_value s reg value) s (with_value-valid s reg value valid range) valid
  tampered-valid (Early n) i s range valid = valid

  followed-valid : (t : Tamper) (i : ℕ) (s : State) → IsValid s → IsValid (followed t i s)
  followed-valid Untouched i s valid = steps s valid
  followed-valid (Flip at addr mask) i s valid = steps s valid
  followed-valid (Register at reg value) i s valid = steps s valid
  followed-valid (Early n) i s valid = either-valid (ltb i n) (step s) s (steps s valid) valid

  from-valid : (t : Tamper) (first : State) (i : ℕ) → IsTamperInRange t → IsValid first → IsValid (run_from t first i)
  from-valid t first zero range valid = valid
  from-valid t first (suc i) range valid =
      tampered-valid t (i + 1) (followed t i (run_from t first i)) range (followed-valid t i (run_from t first i) (from-valid t first i range valid))

  pub runs-valid : TamperedRunsKeepValidStates
  runs-valid t s i range valid = from-valid t (tampered t 0 s) i range (tampered-valid t 0 s range valid)
