-- An answer that is read is spelled by the bytes, and each answer that they spell is read.
use Rattle.std.proofs.Common.{◌≡◌, ◌≢◌, ℕ, ◌+◌, ◌^◌, ◌<◌, ◌≤◌, Bool, true, false, ◌||◌, cond, eqb, ltb, List, [], ◌∷◌, ◌++◌, length, Result, Ok, Err, refl, sym, ap, subst, ◌∙◌, inl, inr, arith}
use Rattle.std.specs.Prelude.{IfOk}
use Rattle.std.proofs.lemmas.Bool.{eqb-true, eqb-false, ne_eqb, ltb-false, le-ltb}
use Rattle.std.proofs.lemmas.List.{append-nil, nil_from_length}
use Rattle.rd_base.specs.declared.digest.Digest32.{Digest32}
use Rattle.rd_base.specs.declared.claim.Claim.{Claim}
use Rattle.rd_base.specs.declared.proof.StepProof.{StepProof}
use Rattle.rd_base.specs.declared.proof.StepProof2.{StepProof2}
use Rattle.rd_base.specs.declared.proof.StepProof3.{StepProof3}
use Rattle.rd_base.specs.declared.proof.Proof.{Proof}
use Rattle.rd_base.specs.declared.proof.Proof.TheVariants.{V1, V2, V3}
use Rattle.rd_base.specs.declared.answer.Answer.{Answer}
use Rattle.rd_base.specs.declared.answer.Answer.TheVariants as answers
use Rattle.rd_base.specs.Results.{◌>>=◌, Gives}
use Rattle.proof_wire.specs.declared.fault.WireFault.{WireFault}
use Rattle.proof_wire.specs.declared.fault.WireFault.TheVariants.{BadTag, TrailingBytes, BadLength, Memory}
use Rattle.proof_wire.specs.Wire.{Form, ◌‖◌, byte, in_four_bytes, in_eight_bytes, each, digest, control, registers, opening, register_opening, input_opening, optional, flagged, output, claim, roots, step_proof, count, step_proof_2, step_proof_3, wire_form, Spells}
use Rattle.proof_wire.specs.Reading.{Read, only_step, step_in, at_most, has_flag, block_ahead, byte_ahead, word_ahead, double_word_ahead, digest_ahead, each_ahead, control_ahead, registers_ahead, opening_ahead, register_opening_ahead, input_opening_ahead, output_ahead, claim_ahead, root_count, roots_ahead, step_proof_ahead, step_proof_2_ahead, step_proof_3_ahead, answer_ahead, answer_in}
use Rattle.proof_wire.proofs.FieldLemmas.{AreBytes, AreBytes-behind, bind_ok, guard_ok, ok_is, Takes, Takes-then, Reads, next, next_of, long_behind, behind_at_least, block_takes, block_again, digest_reads, word_reads, double_word_reads, each_reads}
use Rattle.proof_wire.proofs.FormLemmas.{chosen, byte_reads, control_reads, length-control, registers_reads, length-registers, at_least_next, then_takes, then_at_most, at_most_next, opening_reads, register_opening_reads, input_opening_reads, then_optional, optional_next, optional_next_of, flags_are, flags_3_are, flags_say, flags_3_say, each_counted, count_takes}

-- ---- what stands behind the tag

output_takes : (size : ℕ) (bytes xs rest : List ℕ) → AreBytes bytes → output_ahead size bytes ≡ Ok (xs, rest) → Takes bytes (output xs) rest × (size ≡ length xs)
output_takes size bytes xs rest are e =
    elim (chosen (ltb 4294967295 size) (Err BadLength) (block_ahead size bytes) (Ok (xs, rest)) e) [
      | inl bad ↦ absurd (cc (bad.1))
      | inr small ↦
          let taken = block_takes size bytes xs rest are small.1 in
          let at_most : size ≤ 4294967295 = ltb-false _ _ small.0 in
          (record { parts = taken.parts; fits = (omega (arith, taken.fits.0), (refl, taken.fits.1)); are = taken.are }, sym taken.fits.0)
    ]

output_again : (xs rest : List ℕ) → (output xs).fits → output_ahead (length xs) (xs ++ rest) ≡ Ok (xs, rest)
output_again xs rest fits =
    let below : length xs < 2 ^ 32 = fits.0 in
    let at_most : length xs ≤ 4294967295 = omega arith in
    let small : ltb 4294967295 (length xs) ≡ false = le-ltb _ _ at_most in
    ap (λ (b : Bool). cond b (Err BadLength) (block_ahead (length xs) (xs ++ rest))) small ∙ block_again (length xs) xs rest refl

claim_takes : (bytes : List ℕ) (c : Claim) (rest : List ℕ) → AreBytes bytes → claim_ahead bytes ≡ Ok (c, rest) → Takes bytes (claim c) rest
unfolding claim_ahead
claim_takes bytes c rest are e =
    then_takes digest_ahead digest digest_reads bytes _ (c, rest) are (behind_at_least 121 bytes _ (c, rest) e) (λ mem r0 t0 e0.
    then_takes digest_ahead digest digest_reads r0 _ (c, rest) t0.are e0 (λ regs r1 t1 e1.
    then_takes control_ahead control control_reads r1 _ (c, rest) t1.are e1 (λ ctl r2 t2 e2.
    then_takes double_word_ahead in_eight_bytes double_word_reads r2 _ (c, rest) t2.are e2 (λ size r3 t3 e3.
    let out = bind_ok (output_ahead size r3) _ (c, rest) e3 in
    let t4 = output_takes size r3 out.0.0 out.0.1 t3.are out.1 in
    let t3' = subst (λ (n : ℕ). Takes r2 (in_eight_bytes n) r3) t4.1 t3 in
    let made : Claim × List ℕ = (record { mem = mem; regs = regs; ctl = ctl; output = out.0.0 }, out.0.1) in
    subst (λ (p : Claim × List ℕ). Takes bytes (claim p.0) p.1) (ok_is made (c, rest) out.2) (Takes-then t0 (Takes-then t1 (Takes-then t2 (Takes-then t3' t4.0))))))))

claim_again : (c : Claim) (rest : List ℕ) → (claim c).fits → claim_ahead ((claim c).bytes ++ rest) ≡ Ok (c, rest)
unfolding claim_ahead
claim_again c rest fits =
    let from_size : Form = in_eight_bytes (length c.output) ‖ output c.output in
    let from_control : Form = control c.ctl ‖ from_size in
    let from_regs : Form = digest c.regs ‖ from_control in
    let long : 121 ≤ length ((claim c).bytes ++ rest) =
    long_behind (digest c.mem) from_regs rest 32 89 fits.0.0 (long_behind (digest c.regs) from_control rest 32 57 fits.1.0.0
    (long_behind (control c.ctl) from_size rest 49 8 (length-control c.ctl fits.1.1.0) (long_behind (in_eight_bytes (length c.output)) (output c.output) rest 8 0 refl (omega arith)))) in
    at_least_next 121 ((claim c).bytes ++ rest) _ long
    ∙ next_of digest_ahead digest digest_reads c.mem from_regs rest _ fits.0
    ∙ next_of digest_ahead digest digest_reads c.regs from_control rest _ fits.1.0
    ∙ next_of control_ahead control control_reads c.ctl from_size rest _ fits.1.1.0
    ∙ next_of double_word_ahead in_eight_bytes double_word_reads (length c.output) (output c.output) rest _ fits.1.1.1.0
    ∙ ap (λ (r : Read (List ℕ)). r >>= (λ out. Ok (record { mem = c.mem; regs = c.regs; ctl = c.ctl; output = out.0 }, out.1))) (output_again c.output rest fits.1.1.1.1)

claim_reads : Reads claim_ahead claim
claim_reads = record { takes = claim_takes; again = claim_again }

-- ---- roots

-- a number of roots that is one, and the steps behind it
then_root_count : {B Goal : Type 0} (n : ℕ) (f : ℕ → Result B WireFault) (y : B) → (root_count n >>= f) ≡ Ok y → (1 ≤ n → n ≤ 15 → f n ≡ Ok y → Goal) → Goal
then_root_count n f y e behind =
    let m = bind_ok (root_count n) f y e in
    elim (chosen (eqb n 0) (Err BadTag) (at_most 15 n) (Ok m.0) m.1) [
      | inl bad ↦ absurd (cc (bad.1))
      | inr some ↦
          let g = guard_ok (ltb 15 n) BadTag n m.0 some.1 in
          let few : n ≤ 15 = ltb-false _ _ g.0 in
          let not_0 : n ≢ 0 = eqb-false n 0 some.0 in
          behind (omega (arith, not_0)) few (ap f g.1 ∙ m.2)
    ]

root_count_next : {B : Type 0} (n : ℕ) (f : ℕ → Result B WireFault) → 1 ≤ n → n ≤ 15 → (root_count n >>= f) ≡ f n
root_count_next n f some few =
    ap (λ b. cond b (Err BadTag) (at_most 15 n) >>= f) (ne_eqb n 0 (λ none. absurd (omega (arith, none, some)))) ∙ at_most_next 15 n f few

roots_takes : (bytes : List ℕ) (rs : List Digest32) (rest : List ℕ) → AreBytes bytes → roots_ahead bytes ≡ Ok (rs, rest) → Takes bytes (roots rs) rest
unfolding roots_ahead
roots_takes bytes rs rest are e =
    then_takes byte_ahead byte byte_reads bytes _ (rs, rest) are e (λ n r0 t0 e0.
    then_root_count n _ (rs, rest) e0 (λ some few e1.
    let t1 = (each_reads digest_ahead digest digest_reads n).takes r0 rs rest t0.are e1 in
    let t0' = subst (λ (k : ℕ). Takes bytes (byte k) r0) (sym t1.fits.0) t0 in
    let both = Takes-then t0' (each_counted digest n rs t1) in
    record {
      parts = both.parts;
      fits = ((omega (arith, some, t1.fits.0), omega (arith, few, t1.fits.0)), both.fits);
      are = both.are;
    }))

roots_again : (rs : List Digest32) (rest : List ℕ) → (roots rs).fits → roots_ahead ((roots rs).bytes ++ rest) ≡ Ok (rs, rest)
unfolding roots_ahead
roots_again rs rest fits =
    next_of byte_ahead byte byte_reads (length rs) (each digest (length rs) rs) rest _ fits.1.0
    ∙ root_count_next (length rs) _ fits.0.0 fits.0.1
    ∙ (each_reads digest_ahead digest digest_reads (length rs)).again rs rest fits.1.1

roots_reads : Reads roots_ahead roots
roots_reads = record { takes = roots_takes; again = roots_again }

-- ---- proofs of one step

step_proof_takes : (bytes : List ℕ) (p : StepProof) (rest : List ℕ) → AreBytes bytes → step_proof_ahead bytes ≡ Ok (p, rest) → Takes bytes (step_proof p) rest
unfolding step_proof_ahead
step_proof_takes bytes p rest are e =
    then_takes digest_ahead digest digest_reads bytes _ (p, rest) are (behind_at_least 206 bytes _ (p, rest) e) (λ mem r0 t0 e0.
    then_takes registers_ahead registers registers_reads r0 _ (p, rest) t0.are e0 (λ regs r1 t1 e1.
    then_takes control_ahead control control_reads r1 _ (p, rest) t1.are e1 (λ ctl r2 t2 e2.
    then_takes byte_ahead byte byte_reads r2 _ (p, rest) t2.are e2 (λ n r3 t3 e3.
    then_at_most 3 n _ (p, rest) e3 (λ few e4.
    then_optional opening_ahead opening opening_reads (has_flag 1 n) r3 _ (p, rest) t3.are e4 (λ fetch r4 t4 is_fetch e5.
    then_optional opening_ahead opening opening_reads (has_flag 2 n) r4 _ (p, rest) t4.are e5 (λ operand r5 t5 is_operand e6.
    let t3' = subst (λ (k : ℕ). Takes r2 (byte k) r3) (flags_are n fetch operand few is_fetch is_operand) t3 in
    let made : StepProof × List ℕ = (record { mem = mem; regs = regs; ctl = ctl; fetch = fetch; operand = operand }, r5) in
    subst (λ (q : StepProof × List ℕ). Takes bytes (step_proof q.0) q.1) (ok_is made (p, rest) e6) (Takes-then t0 (Takes-then t1 (Takes-then t2 (Takes-then t3' (Takes-then t4 t5))))))))))))

step_proof_again : (p : StepProof) (rest : List ℕ) → (step_proof p).fits → step_proof_ahead ((step_proof p).bytes ++ rest) ≡ Ok (p, rest)
unfolding step_proof_ahead
step_proof_again p rest fits =
    let n : ℕ = flagged 1 p.fetch + flagged 2 p.operand in
    let say = flags_say p.fetch p.operand in
    let opened : Form = optional opening p.fetch ‖ optional opening p.operand in
    let from_flags : Form = byte n ‖ opened in
    let from_control : Form = control p.ctl ‖ from_flags in
    let from_regs : Form = registers p.regs ‖ from_control in
    let long : 206 ≤ length ((step_proof p).bytes ++ rest) =
    long_behind (digest p.mem) from_regs rest 32 174 fits.0.0 (long_behind (registers p.regs) from_control rest 124 50 (length-registers p.regs fits.1.0)
    (long_behind (control p.ctl) from_flags rest 49 1 (length-control p.ctl fits.1.1.0) (long_behind (byte n) opened rest 1 0 refl (omega arith)))) in
    at_least_next 206 ((step_proof p).bytes ++ rest) _ long
    ∙ next_of digest_ahead digest digest_reads p.mem from_regs rest _ fits.0
    ∙ next_of registers_ahead registers registers_reads p.regs from_control rest _ fits.1.0
    ∙ next_of control_ahead control control_reads p.ctl from_flags rest _ fits.1.1.0
    ∙ next_of byte_ahead byte byte_reads n opened rest _ fits.1.1.1.0
    ∙ at_most_next 3 n _ say.few
    ∙ optional_next_of opening_ahead opening opening_reads (has_flag 1 n) p.fetch (optional opening p.operand) rest _ say.fetch_is fits.1.1.1.1.0
    ∙ optional_next opening_ahead opening opening_reads (has_flag 2 n) p.operand rest _ say.operand_is fits.1.1.1.1.1

step_proof_reads : Reads step_proof_ahead step_proof
step_proof_reads = record { takes = step_proof_takes; again = step_proof_again }

step_proof_2_takes : (bytes : List ℕ) (p : StepProof2) (rest : List ℕ) → AreBytes bytes → step_proof_2_ahead bytes ≡ Ok (p, rest) → Takes bytes (step_proof_2 p) rest
unfolding step_proof_2_ahead
step_proof_2_takes bytes p rest are e =
    then_takes digest_ahead digest digest_reads bytes _ (p, rest) are (behind_at_least 115 bytes _ (p, rest) e) (λ mem r0 t0 e0.
    then_takes digest_ahead digest digest_reads r0 _ (p, rest) t0.are e0 (λ regs r1 t1 e1.
    then_takes control_ahead control control_reads r1 _ (p, rest) t1.are e1 (λ ctl r2 t2 e2.
    then_takes byte_ahead byte byte_reads r2 _ (p, rest) t2.are e2 (λ n r3 t3 e3.
    then_takes byte_ahead byte byte_reads r3 _ (p, rest) t3.are e3 (λ k r4 t4 e4.
    then_at_most 3 n _ (p, rest) e4 (λ few e5.
    then_at_most 3 k _ (p, rest) e5 (λ few_named e6.
    then_optional opening_ahead opening opening_reads (has_flag 1 n) r4 _ (p, rest) t4.are e6 (λ fetch r5 t5 is_fetch e7.
    then_takes (each_ahead register_opening_ahead k) (each register_opening k) (each_reads register_opening_ahead register_opening register_opening_reads k) r5 _ (p, rest) t5.are e7 (λ named r6 t6 e8.
    then_optional opening_ahead opening opening_reads (has_flag 2 n) r6 _ (p, rest) t6.are e8 (λ operand r7 t7 is_operand e9.
    let t3' = subst (λ (m : ℕ). Takes r2 (byte m) r3) (flags_are n fetch operand few is_fetch is_operand) t3 in
    let t4' = count_takes k named few_named (sym t6.fits.0) t4 in
    let made : StepProof2 × List ℕ = (record { mem = mem; regs = regs; ctl = ctl; fetch = fetch; named = named; operand = operand }, r7) in
    subst (λ (q : StepProof2 × List ℕ). Takes bytes (step_proof_2 q.0) q.1) (ok_is made (p, rest) e9)
    (Takes-then t0 (Takes-then t1 (Takes-then t2 (Takes-then t3' (Takes-then t4' (Takes-then t5 (Takes-then (each_counted register_opening k named t6) t7)))))))))))))))))

step_proof_2_again : (p : StepProof2) (rest : List ℕ) → (step_proof_2 p).fits → step_proof_2_ahead ((step_proof_2 p).bytes ++ rest) ≡ Ok (p, rest)
unfolding step_proof_2_ahead
step_proof_2_again p rest fits =
    let n : ℕ = flagged 1 p.fetch + flagged 2 p.operand in
    let say = flags_say p.fetch p.operand in
    let from_named : Form = each register_opening (length p.named) p.named ‖ optional opening p.operand in
    let opened : Form = optional opening p.fetch ‖ from_named in
    let from_count : Form = count p.named ‖ opened in
    let from_flags : Form = byte n ‖ from_count in
    let from_control : Form = control p.ctl ‖ from_flags in
    let from_regs : Form = digest p.regs ‖ from_control in
    let long : 115 ≤ length ((step_proof_2 p).bytes ++ rest) =
    long_behind (digest p.mem) from_regs rest 32 83 fits.0.0 (long_behind (digest p.regs) from_control rest 32 51 fits.1.0.0
    (long_behind (control p.ctl) from_flags rest 49 2 (length-control p.ctl fits.1.1.0) (long_behind (byte n) from_count rest 1 1 refl (long_behind (count p.named) opened rest 1 0 refl (omega arith))))) in
    at_least_next 115 ((step_proof_2 p).bytes ++ rest) _ long
    ∙ next_of digest_ahead digest digest_reads p.mem from_regs rest _ fits.0
    ∙ next_of digest_ahead digest digest_reads p.regs from_control rest _ fits.1.0
    ∙ next_of control_ahead control control_reads p.ctl from_flags rest _ fits.1.1.0
    ∙ next_of byte_ahead byte byte_reads n from_count rest _ fits.1.1.1.0
    ∙ next_of byte_ahead byte byte_reads (length p.named) opened rest _ fits.1.1.1.1.0.1
    ∙ at_most_next 3 n _ say.few
    ∙ at_most_next 3 (length p.named) _ fits.1.1.1.1.0.0
    ∙ optional_next_of opening_ahead opening opening_reads (has_flag 1 n) p.fetch from_named rest _ say.fetch_is fits.1.1.1.1.1.0
    ∙ next_of (each_ahead register_opening_ahead (length p.named)) (each register_opening (length p.named)) (each_reads register_opening_ahead register_opening register_opening_reads (length p.named)) p.named (optional opening p.operand) rest _ fits.1.1.1.1.1.1.0
    ∙ optional_next opening_ahead opening opening_reads (has_flag 2 n) p.operand rest _ say.operand_is fits.1.1.1.1.1.1.1

step_proof_2_reads : Reads step_proof_2_ahead step_proof_2
step_proof_2_reads = record { takes = step_proof_2_takes; again = step_proof_2_again }

step_proof_3_takes : (bytes : List ℕ) (p : StepProof3) (rest : List ℕ) → AreBytes bytes → step_proof_3_ahead bytes ≡ Ok (p, rest) → Takes bytes (step_proof_3 p) rest
unfolding step_proof_3_ahead
step_proof_3_takes bytes p rest are e =
    then_takes digest_ahead digest digest_reads bytes _ (p, rest) are (behind_at_least 151 bytes _ (p, rest) e) (λ mem r0 t0 e0.
    then_takes word_ahead in_four_bytes word_reads r0 _ (p, rest) t0.are e0 (λ input_len s0 u0 d0.
    then_takes digest_ahead digest digest_reads s0 _ (p, rest) u0.are d0 (λ input_root s1 u1 d1.
    then_takes digest_ahead digest digest_reads s1 _ (p, rest) u1.are d1 (λ regs r1 t1 e1.
    then_takes control_ahead control control_reads r1 _ (p, rest) t1.are e1 (λ ctl r2 t2 e2.
    then_takes byte_ahead byte byte_reads r2 _ (p, rest) t2.are e2 (λ n r3 t3 e3.
    then_takes byte_ahead byte byte_reads r3 _ (p, rest) t3.are e3 (λ k r4 t4 e4.
    then_at_most 7 n _ (p, rest) e4 (λ few e5.
    then_at_most 3 k _ (p, rest) e5 (λ few_named e6.
    then_optional opening_ahead opening opening_reads (has_flag 1 n) r4 _ (p, rest) t4.are e6 (λ fetch r5 t5 is_fetch e7.
    then_takes (each_ahead register_opening_ahead k) (each register_opening k) (each_reads register_opening_ahead register_opening register_opening_reads k) r5 _ (p, rest) t5.are e7 (λ named r6 t6 e8.
    then_optional opening_ahead opening opening_reads (has_flag 2 n) r6 _ (p, rest) t6.are e8 (λ operand r7 t7 is_operand e9.
    then_optional input_opening_ahead input_opening input_opening_reads (has_flag 4 n) r7 _ (p, rest) t7.are e9 (λ input r8 t8 is_input e10.
    let t3' = subst (λ (m : ℕ). Takes r2 (byte m) r3) (flags_3_are n fetch operand input few is_fetch is_operand is_input) t3 in
    let t4' = count_takes k named few_named (sym t6.fits.0) t4 in
    let made : StepProof3 × List ℕ =
    (record { mem = mem; input_len = input_len; input_root = input_root; regs = regs; ctl = ctl; fetch = fetch; named = named; operand = operand; input = input }, r8) in
    subst (λ (q : StepProof3 × List ℕ). Takes bytes (step_proof_3 q.0) q.1) (ok_is made (p, rest) e10)
    (Takes-then t0 (Takes-then u0 (Takes-then u1 (Takes-then t1 (Takes-then t2 (Takes-then t3' (Takes-then t4' (Takes-then t5 (Takes-then (each_counted register_opening k named t6) (Takes-then t7 t8)))))))))))))))))))))))

step_proof_3_again : (p : StepProof3) (rest : List ℕ) → (step_proof_3 p).fits → step_proof_3_ahead ((step_proof_3 p).bytes ++ rest) ≡ Ok (p, rest)
unfolding step_proof_3_ahead
step_proof_3_again p rest fits =
    let n : ℕ = flagged 1 p.fetch + flagged 2 p.operand + flagged 4 p.input in
    let say = flags_3_say p.fetch p.operand p.input in
    let from_operand : Form = optional opening p.operand ‖ optional input_opening p.input in
    let from_named : Form = each register_opening (length p.named) p.named ‖ from_operand in
    let opened : Form = optional opening p.fetch ‖ from_named in
    let from_count : Form = count p.named ‖ opened in
    let from_flags : Form = byte n ‖ from_count in
    let from_control : Form = control p.ctl ‖ from_flags in
    let from_regs : Form = digest p.regs ‖ from_control in
    let from_root : Form = digest p.input_root ‖ from_regs in
    let from_size : Form = in_four_bytes p.input_len ‖ from_root in
    let long : 151 ≤ length ((step_proof_3 p).bytes ++ rest) =
    long_behind (digest p.mem) from_size rest 32 119 fits.0.0 (long_behind (in_four_bytes p.input_len) from_root rest 4 115 refl (long_behind (digest p.input_root) from_regs rest 32 83 fits.1.1.0.0
    (long_behind (digest p.regs) from_control rest 32 51 fits.1.1.1.0.0
    (long_behind (control p.ctl) from_flags rest 49 2 (length-control p.ctl fits.1.1.1.1.0) (long_behind (byte n) from_count rest 1 1 refl (long_behind (count p.named) opened rest 1 0 refl (omega arith))))))) in
    at_least_next 151 ((step_proof_3 p).bytes ++ rest) _ long
    ∙ next_of digest_ahead digest digest_reads p.mem from_size rest _ fits.0
    ∙ next_of word_ahead in_four_bytes word_reads p.input_len from_root rest _ fits.1.0
    ∙ next_of digest_ahead digest digest_reads p.input_root from_regs rest _ fits.1.1.0
    ∙ next_of digest_ahead digest digest_reads p.regs from_control rest _ fits.1.1.1.0
    ∙ next_of control_ahead control control_reads p.ctl from_flags rest _ fits.1.1.1.1.0
    ∙ next_of byte_ahead byte byte_reads n from_count rest _ fits.1.1.1.1.1.0
    ∙ next_of byte_ahead byte byte_reads (length p.named) opened rest _ fits.1.1.1.1.1.1.0.1
    ∙ at_most_next 7 n _ say.few
    ∙ at_most_next 3 (length p.named) _ fits.1.1.1.1.1.1.0.0
    ∙ optional_next_of opening_ahead opening opening_reads (has_flag 1 n) p.fetch from_named rest _ say.fetch_is fits.1.1.1.1.1.1.1.0
    ∙ next_of (each_ahead register_opening_ahead (length p.named)) (each register_opening (length p.named)) (each_reads register_opening_ahead register_opening register_opening_reads (length p.named)) p.named from_operand rest _ fits.1.1.1.1.1.1.1.1.0
    ∙ optional_next_of opening_ahead opening opening_reads (has_flag 2 n) p.operand (optional input_opening p.input) rest _ say.operand_is fits.1.1.1.1.1.1.1.1.1.0
    ∙ optional_next input_opening_ahead input_opening input_opening_reads (has_flag 4 n) p.input rest _ say.input_is fits.1.1.1.1.1.1.1.1.1.1

step_proof_3_reads : Reads step_proof_3_ahead step_proof_3
step_proof_3_reads = record { takes = step_proof_3_takes; again = step_proof_3_again }

-- ---- answers

tagged : (tag number : ℕ) (bytes : List ℕ) (f : Form) (rest : List ℕ) → tag ≡ number → number < 256 → Takes bytes f rest → Takes (tag ∷ bytes) (byte number ‖ f) rest
tagged tag number bytes f rest is below taken =
    record { parts = ap (λ b. b ∷ bytes) is ∙ ap (λ text. number ∷ text) taken.parts; fits = (below, taken.fits); are = taken.are }

-- an answer with this tag, or what stands for other tags
case_takes : {A : Type 0} (read : List ℕ → Read A) (form : A → Form) → Reads read form → (number : ℕ) → number < 256 → (make : A → Answer) → ((x : A) → wire_form (make x) ≡ byte number ‖ form x)
    → (tag : ℕ) (bytes : List ℕ) (others : Read Answer) (a : Answer) (rest : List ℕ) → AreBytes bytes
    → (others ≡ Ok (a, rest) → Takes (tag ∷ bytes) (wire_form a) rest)
    → cond (eqb tag number) (read bytes >>= (λ x. Ok (make x.0, x.1))) others ≡ Ok (a, rest) → Takes (tag ∷ bytes) (wire_form a) rest
case_takes {A} read form reads number below make made tag bytes others a rest are by_others e =
    elim (chosen (eqb tag number) (read bytes >>= (λ x. Ok (make x.0, x.1))) others (Ok (a, rest)) e) [
      | inl this ↦
          let x = bind_ok (read bytes) _ (a, rest) this.1 in
          let taken = tagged tag number bytes (form x.0.0) x.0.1 (eqb-true tag number this.0) below (reads.takes bytes x.0.0 x.0.1 are x.1) in
          subst (λ (p : Answer × List ℕ). Takes (tag ∷ bytes) (wire_form p.0) p.1) (ok_is (make x.0.0, x.0.1) (a, rest) x.2)
          (subst (λ (f : Form). Takes (tag ∷ bytes) f x.0.1) (sym (made x.0.0)) taken)
      | inr other ↦ by_others other.1
    ]

answer_takes : (bytes : List ℕ) (a : Answer) (rest : List ℕ) → AreBytes bytes → answer_ahead bytes ≡ Ok (a, rest) → Takes bytes (wire_form a) rest
unfolding answer_ahead
answer_takes [] a rest are e = absurd cc
answer_takes (tag ∷ bytes) a rest are e =
    let behind : AreBytes bytes = AreBytes-behind tag bytes are in
    case_takes claim_ahead claim claim_reads 1 (omega arith) answers.Claim (λ x. refl) tag bytes _ a rest behind
    (case_takes digest_ahead digest digest_reads 2 (omega arith) answers.Root (λ x. refl) tag bytes _ a rest behind
    (case_takes step_proof_ahead step_proof step_proof_reads 3 (omega arith) (λ p. answers.Step (V1 p)) (λ x. refl) tag bytes _ a rest behind
    (case_takes step_proof_2_ahead step_proof_2 step_proof_2_reads 4 (omega arith) (λ p. answers.Step (V2 p)) (λ x. refl) tag bytes _ a rest behind
    (case_takes roots_ahead roots roots_reads 5 (omega arith) answers.Roots (λ x. refl) tag bytes _ a rest behind
    (case_takes step_proof_3_ahead step_proof_3 step_proof_3_reads 6 (omega arith) (λ p. answers.Step (V3 p)) (λ x. refl) tag bytes _ a rest behind
    (λ bad. absurd (cc (bad)))))))) e

answer_again : (a : Answer) (rest : List ℕ) → (wire_form a).fits → answer_ahead ((wire_form a).bytes ++ rest) ≡ Ok (a, rest)
unfolding answer_ahead
answer_again (answers.Claim c) rest fits = next claim_ahead claim claim_reads c rest _ fits.1
answer_again (answers.Root r) rest fits = next digest_ahead digest digest_reads r rest _ fits.1
answer_again (answers.Roots rs) rest fits = next roots_ahead roots roots_reads rs rest _ fits.1
answer_again (answers.Step (V1 p)) rest fits = next step_proof_ahead step_proof step_proof_reads p rest _ fits.1
answer_again (answers.Step (V2 p)) rest fits = next step_proof_2_ahead step_proof_2 step_proof_2_reads p rest _ fits.1
answer_again (answers.Step (V3 p)) rest fits = next step_proof_3_ahead step_proof_3 step_proof_3_reads p rest _ fits.1

-- ---- all of the bytes

guard_ended : {A : Type 0} (b : Bool) (fault : WireFault) (x y : A) → cond b (Ok x) (Err fault) ≡ Ok y → (b ≡ true) × (x ≡ y)
guard_ended true fault x y e = (refl, cc)
guard_ended false fault x y e = absurd cc

-- what is read is spelled by the bytes
pub spelled : (bytes : List ℕ) (a : Answer) → AreBytes bytes → answer_in bytes ≡ Ok a → Spells a bytes
unfolding answer_in
spelled bytes a are e =
    let found = bind_ok (answer_ahead bytes) _ a e in
    let g = guard_ended (eqb (length found.0.1) 0) TrailingBytes found.0.0 a found.2 in
    let taken = answer_takes bytes found.0.0 found.0.1 are found.1 in
    let nothing : found.0.1 ≡ [] = nil_from_length found.0.1 (eqb-true _ _ g.0) in
    subst (λ (b : Answer). Spells b bytes) g.1 (taken.fits, taken.parts ∙ ap (λ rest. (wire_form found.0.0).bytes ++ rest) nothing ∙ append-nil (wire_form found.0.0).bytes)

-- what the bytes spell is read
pub read_again : (a : Answer) (bytes : List ℕ) → Spells a bytes → answer_in bytes ≡ Ok a
unfolding answer_in
read_again a bytes spells =
    ap (λ (r : Read Answer). r >>= (λ x. cond (eqb (length x.1) 0) (Ok x.0) (Err TrailingBytes)))
    (ap answer_ahead (spells.1 ∙ sym (append-nil (wire_form a).bytes)) ∙ answer_again a [] spells.0)

-- bytes spell one answer
pub one_answer : (a b : Answer) (bytes : List ℕ) → Spells a bytes → Spells b bytes → a ≡ b
one_answer a b bytes first second = ok_is a b (sym (read_again a bytes first) ∙ read_again b bytes second)

-- the bytes of an answer don't begin those of another
pub whole_alone : (a b : Answer) (bytes rest : List ℕ) → Spells a bytes → Spells b (bytes ++ rest) → rest ≡ []
whole_alone a b bytes rest first second =
    let shorter : answer_ahead (bytes ++ rest) ≡ Ok (a, rest) = ap (λ text. answer_ahead (text ++ rest)) first.1 ∙ answer_again a rest first.0 in
    let longer : answer_ahead (bytes ++ rest) ≡ Ok (b, []) = ap answer_ahead (second.1 ∙ sym (append-nil (wire_form b).bytes)) ∙ answer_again b [] second.0 in
    ap (λ (p : Answer × List ℕ). p.1) (ok_is (a, rest) (b, []) (sym shorter ∙ longer))

-- ---- what a function answers that reads

pub is_found : (bytes : List ℕ) (result : Result Answer WireFault) → AreBytes bytes → Gives Memory (λ a. a) result (answer_in bytes) → IfOk result (λ a. Spells a bytes)
is_found bytes (Ok a) are gives = spelled bytes a are gives
is_found bytes (Err fault) are gives = tt

pub is_only : (bytes : List ℕ) (result : Result Answer WireFault) (a : Answer) → Spells a bytes → Gives Memory (λ a. a) result (answer_in bytes) → Gives Memory (λ a. a) result (Ok a)
is_only bytes result a spells gives = subst (λ (reading : Result Answer WireFault). Gives Memory (λ a. a) result reading) (read_again a bytes spells) gives

-- ---- the step alone

-- a step is read of bytes if and only if they have its tag and it is the answer
step-answer : (bytes : List ℕ) (p : Proof) → step_in bytes ≡ Ok p → answer_in bytes ≡ Ok (answers.Step p)
step-answer [] p e = absurd cc
step-answer (tag ∷ bytes) p e = go (answer_in (tag ∷ bytes)) (behind (eqb tag 3 || eqb tag 4 || eqb tag 6) e)
  where
    behind : (b : Bool) → cond b (only_step (answer_in (tag ∷ bytes))) (Err BadTag) ≡ Ok p → only_step (answer_in (tag ∷ bytes)) ≡ Ok p
    behind true is = is
    behind false is = absurd cc

    go : (r : Result Answer WireFault) → only_step r ≡ Ok p → r ≡ Ok (answers.Step p)
    go (Ok (answers.Step q)) is = ap (λ x. Ok (answers.Step x)) (ok_is q p is)
    go (Ok (answers.Claim x)) is = absurd cc
    go (Ok (answers.Root x)) is = absurd cc
    go (Ok (answers.Roots x)) is = absurd cc
    go (Err fault) is = absurd cc

-- the step that the bytes spell is read
pub step_again : (p : Proof) (bytes : List ℕ) → Spells (answers.Step p) bytes → step_in bytes ≡ Ok p
step_again p bytes spells = ap step_in spells.1 ∙ at_tag p (ap only_step (ap answer_in (sym spells.1) ∙ read_again (answers.Step p) bytes spells))
  where
    at_tag : (q : Proof) → only_step (answer_in (wire_form (answers.Step q)).bytes) ≡ Ok p → step_in (wire_form (answers.Step q)).bytes ≡ Ok p
    at_tag (V1 q) is = is
    at_tag (V2 q) is = is
    at_tag (V3 q) is = is

-- the step that is read is spelled by the bytes
pub is_step_found : (bytes : List ℕ) (result : Result Proof WireFault) → AreBytes bytes → result ≡ step_in bytes → IfOk result (λ p. Spells (answers.Step p) bytes)
is_step_found bytes (Ok p) are is = spelled bytes (answers.Step p) are (step-answer bytes p (sym is))
is_step_found bytes (Err fault) are is = tt
