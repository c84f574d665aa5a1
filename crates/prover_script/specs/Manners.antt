-- To believe: what a manner makes of a prover's answers.
use Rattle.std.specs.Prelude.{◌≡◌, ℕ, ◌≤◌, ◌==◌, Bool, true, false, List, [], ◌∷◌, map, Option, Some, None, option_map, is_none, nat_lt, nat_le, if◌then◌else◌}
use Rattle.rd_base.specs.Questions.{same_qid}
use Rattle.rd_base.specs.Regs.{with_register}
use Rattle.rd_base.specs.declared.digest.Digest32.{Digest32}
use Rattle.rd_base.specs.declared.opened.RegOpening.{RegOpening}
use Rattle.rd_base.specs.declared.proof.Proof.{Proof}
use Rattle.rd_base.specs.declared.proof.Proof.TheVariants.{V1, V2, V3}
use Rattle.rd_base.specs.declared.answer.Qid.{Qid}
use Rattle.rd_base.specs.declared.answer.Answer.{Answer}
use Rattle.rd_base.specs.declared.answer.Answer.TheVariants as answer
use Rattle.rd_base.specs.declared.script.Manner.{Manner}
use Rattle.rd_base.specs.declared.script.Manner.TheVariants.{Plain, Late, Silent, Output, Forge, Noise, Tape}
use Rattle.rd_base.specs.declared.tape.TapeAnswer.{TapeAnswer}
use Rattle.digest_core.specs.Text.{noise_text}
use Rattle.bisect_game.specs.declared.settled.Kind.{Kind}
use Rattle.bisect_game.specs.declared.settled.Kind.TheVariants as kind
use Rattle.bisect_game.specs.declared.settled.Question.{Question}
use Rattle.open_proof.specs.Facts.{facts_of, named_called}

-- what one prover answers to a question after this many passes on it; None is a pass
abbrev pub Behaviour : Type 0
Behaviour = Question → ℕ → Option Answer

-- a claim that answers the claim's question, with another output; any other answer stays
abbrev pub with_output : List ℕ → Kind → Answer → Answer
with_output bytes kind.Claim (answer.Claim claim) = answer.Claim (record claim { output = bytes })
with_output bytes k a = a

-- opened registers with another value in one, if it is among them: each opening is that of the register that is named at its
-- place, and one at whose place none is named stays
abbrev pub with_opened : ℕ → ℕ → List RegOpening → List ℕ → List RegOpening
with_opened reg value (o ∷ os) (r ∷ rs) = (if r == reg then record o { value = value } else o) ∷ with_opened reg value os rs
with_opened reg value os rs = os

-- a proof with another value in a register, if it shows that register: one row for each commitment version. From version 2 on it
-- shows the registers that its fetched instruction names
abbrev pub with_shown : ℕ → ℕ → Proof → Proof
with_shown reg value (V1 proof) = V1 (record proof { regs = with_register proof.regs reg value })
with_shown reg value (V2 proof) = V2 (record proof { named = with_opened reg value proof.named (named_called (facts_of (V2 proof))) })
with_shown reg value (V3 proof) = V3 (record proof { named = with_opened reg value proof.named (named_called (facts_of (V3 proof))) })

-- a proof that answers the question for this step, with another value in a register; any other answer stays
abbrev pub with_forgery : ℕ → ℕ → ℕ → Kind → Answer → Answer
with_forgery step reg value (kind.Proof i) (answer.Step proof) = answer.Step (if i == step then with_shown reg value proof else proof)
with_forgery step reg value k a = a

-- the digest of a string that no state has, from a seed and the question's number
abbrev pub noise : (List ℕ → List ℕ) → ℕ → Qid → Digest32
noise digest seed qid = record { 0 = digest (noise_text seed qid.dispute qid.round) }

-- a question for one root, or for several
abbrev pub asks_roots : Kind → Bool
asks_roots (kind.Root i) = true
asks_roots (kind.Roots lo hi parts) = true
asks_roots k = false

-- one digest in place of the root, or of each of the roots, that answers a question for roots; any other answer stays
abbrev pub with_roots : Digest32 → Kind → Answer → Answer
with_roots root (kind.Root i) (answer.Root _) = answer.Root root
with_roots root (kind.Roots lo hi parts) (answer.Roots roots) = answer.Roots (map (λ _. root) roots)
with_roots root k a = a

-- the first answer that is written down for the question of this number
abbrev pub written : List TapeAnswer → Qid → Option Answer
written [] qid = None
written (entry ∷ rest) qid = if same_qid entry.qid qid then Some entry.answer else written rest qid

-- what a prover with a manner answers, by what it answers without one: a late one passes its number of times on each question, and a
-- silent one from a round on; the next three alter an answer, and never pass; one with a tape answers what is written down,
-- instead of what it answers without it
abbrev pub says : (List ℕ → List ℕ) → Manner → Behaviour → Behaviour
says digest Plain inner q n = inner q n
says digest (Late many) inner q n = if nat_lt n many then None else inner q n
says digest (Silent from) inner q n = if nat_le from q.qid.round then None else inner q n
says digest (Output bytes) inner q n = option_map (with_output bytes q.kind) (inner q n)
says digest (Forge step reg value) inner q n = option_map (with_forgery step reg value q.kind) (inner q n)
says digest (Noise seed) inner q n = option_map (with_roots (noise digest seed q.qid) q.kind) (inner q n)
says digest (Tape entries) inner q n = written entries q.qid

-- whether a manner passes on a question, of a prover that answers it without the manner
abbrev pub passes_by : Manner → Question → ℕ → Bool
passes_by (Late many) q n = nat_lt n many
passes_by (Silent from) q n = nat_le from q.qid.round
passes_by (Tape entries) q n = is_none (written entries q.qid)
passes_by _ q n = false

-- once it has answered a question, it gives that answer after more passes too
abbrev pub IsSteady : Behaviour → Type 0
IsSteady says = (q : Question) (n k : ℕ) (a : Answer) → n ≤ k → says q n ≡ Some a → says q k ≡ Some a
