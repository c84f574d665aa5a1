-- To believe for the tests alone: a judge and provers over numbers. The root of a state is its number, the true run counts to
-- 6 and stays there, and all strings have one digest.
use Rattle.std.specs.Prelude.{ℕ, ◌+◌, ◌-◌, ◌%◌, min, nat_le, nat_lt, Bool, not, ◌&&◌, ◌||◌, ◌==◌, List, [], ◌∷◌, map, length, replicate, slice_index, slice_index_or, Option, Some, None, if◌then◌else◌}
use Rattle.rd_base.specs.declared.answer.Answer.{Answer}
use Rattle.rd_base.specs.declared.answer.Answer.TheVariants as answer
use Rattle.rd_base.specs.declared.claim.Claim.{Claim}
use Rattle.rd_base.specs.declared.digest.Digest32.{Digest32}
use Rattle.rd_base.specs.declared.proof.Proof.{Proof}
use Rattle.rd_base.specs.declared.proof.Proof.TheVariants as proof
use Rattle.rd_base.specs.declared.status.Status.TheVariants.{Running}
use Rattle.rd_base.specs.Regs.{no_registers_set}
use Rattle.rd_base.specs.Status.{is_running}
use Rattle.bisect_game.specs.declared.settled.Kind.{Kind}
use Rattle.bisect_game.specs.declared.settled.Kind.TheVariants as kind
use Rattle.bisect_game.specs.declared.settled.Question.{Question}
use Rattle.bisect_game.specs.Ruling.{Ruling, same_digest}
use Rattle.bisect_game.specs.Says.{Says}
use Rattle.bisect_game.specs.Bisection.{steps_asked}
use Rattle.toy_game.specs.declared.player.Player.{Player}

abbrev pub root : ℕ → Digest32
root n = record { 0 = n ∷ replicate 31 0 }

abbrev pub number : Digest32 → ℕ
number d = slice_index d.0 0

abbrev pub next : ℕ → ℕ
next n = if n == 6 then 6 else (n + 1) % 256

-- a claim has a root and a mark, and nothing else
abbrev pub claim_of : Digest32 → ℕ → Claim
claim_of mem mark = record { mem = mem; regs = root 0; ctl = record { pc = mark; status = Running; out_len = 0; chain = root 0 }; output = [] }

abbrev pub is_plain : Claim → Bool
is_plain c =
    same_digest c.regs (root 0) && (is_running c.ctl.status && ((c.ctl.out_len == 0) && (same_digest c.ctl.chain (root 0) && (length c.output == 0))))

-- a proof opens a root; without a mark it leads to the next number, with one to the number of its mark
abbrev pub opened_root : Proof → Digest32
opened_root (proof.V1 p) = p.mem
opened_root (proof.V2 p) = p.mem
opened_root (proof.V3 p) = p.mem

abbrev pub mark_of : Proof → ℕ
mark_of (proof.V1 p) = p.ctl.pc
mark_of (proof.V2 p) = p.ctl.pc
mark_of (proof.V3 p) = p.ctl.pc

abbrev pub leads_to : Digest32 → Proof → Option Digest32
leads_to from p =
    if same_digest (opened_root p) from then Some (if mark_of p == 0 then root (next (number from)) else root (mark_of p % 256)) else None

abbrev pub strings : List (List ℕ)
strings = (1 ∷ []) ∷ (2 ∷ []) ∷ []

abbrev pub collision : List ℕ × List ℕ
collision = (1 ∷ [], 2 ∷ [])

-- two claims of one root with different marks collide, and so do two proofs with different marks
abbrev pub toy_ruling : ℕ → Ruling
toy_ruling n = record {
  is_sound = is_plain;
  root_of = λ c. c.mem;
  leads = leads_to;
  claim_collision = λ x y. if same_digest x.mem y.mem && not (x.ctl.pc == y.ctl.pc) then Some collision else None;
  step_collision = λ from x y. if mark_of x == mark_of y then None else Some collision;
  opened_by_claim = λ c. strings;
  opened_by_step = λ p. strings;
  digest = λ s. [];
}

-- a player's run: the true one up to a step, and then shifted
abbrev pub number_at : Player → ℕ → ℕ
number_at p i = if nat_lt i p.from then min i 6 else (i % 256 + p.shift) % 256

abbrev pub root_at : Player → ℕ → Digest32
root_at p i = root (number_at p i)

abbrev pub given : Player → Kind → Answer
given p kind.Claim = answer.Claim (claim_of (root (number_at p 8)) p.claim_mark)
given p (kind.Root i) = answer.Root (root_at p i)
given p (kind.Roots lo hi parts) = answer.Roots (map (root_at p) (steps_asked lo hi parts))
given p (kind.Proof i) =
    answer.Step (proof.V1 (record { mem = root (number_at p i); regs = no_registers_set; ctl = record { pc = p.proof_mark; status = Running; out_len = 0; chain = root 0 }; fetch = None; operand = None }))

-- it passes so often on each question, and for ever from a round on
abbrev pub answers : Player → Question → ℕ → Option Answer
answers p q n = if nat_le p.silent_from q.qid.round || nat_lt n p.late then None else Some (given p q.kind)

abbrev pub nobody : Player
nobody = record { from = 0; shift = 0; claim_mark = 0; proof_mark = 0; late = 0; silent_from = 0 }

-- what the players say, by number; who isn't there passes for ever
abbrev pub says_of : List Player → Says
says_of players p = answers (slice_index_or players (p - 1) nobody)
