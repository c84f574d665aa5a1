-- To believe: what the judge of the machine decides, in each version of the commitment.
use Rattle.std.specs.Prelude.{ℕ, List, Option, Some, None, if◌then◌else◌}
use Rattle.rd_base.specs.declared.digest.Digest32.{Digest32}
use Rattle.rd_base.specs.declared.proof.Proof.{Proof}
use Rattle.bisect_game.specs.Ruling.{Ruling}
use Rattle.out_chain.specs.Root.{root_of_claim}
use Rattle.out_chain.specs.Soundness.{is_sound}
use Rattle.out_chain.specs.Collision.{claim_collision, opened_by_claim}
use Rattle.open_proof.specs.Facts.{facts_of}
use Rattle.open_proof.specs.InRange.{is_in_range}
use Rattle.open_proof.specs.Strings.{opened_by_facts}
use Rattle.step_referee.specs.Tests.{checked}
use Rattle.step_referee.specs.declared.check.StepCheck.{StepCheck}
use Rattle.step_referee.specs.declared.check.StepCheck.TheVariants as check
use Rattle.open_proof.specs.Collision.{step_collision}

-- the root to which a proof leads by its check
abbrev pub root_led : StepCheck → Option Digest32
root_led (check.Leads root) = Some root
root_led check.NotOpen = None
root_led check.WrongShape = None

-- the root to which a proof, in the ranges of its types, leads for a referee of a version: the law `judged_leading_is_exact` says when
unfoldable pub leads_in : (List ℕ → List ℕ) → ℕ → Digest32 → Proof → Option Digest32
leads_in digest version from proof = if is_in_range proof then root_led (checked digest version from (facts_of proof)) else None

-- claims are sound if they agree with themselves; a proof leads if its conditions for the version hold; and collisions are of strings
-- that claims or proofs open, all by one digest function
abbrev pub machine_ruling : (List ℕ → List ℕ) → ℕ → Ruling
machine_ruling digest version = record {
  is_sound = is_sound digest;
  root_of = λ claim. record { 0 = root_of_claim digest claim };
  leads = leads_in digest version;
  claim_collision = claim_collision digest;
  step_collision = λ from x y. step_collision digest version from (facts_of x) (facts_of y);
  opened_by_claim = opened_by_claim digest;
  opened_by_step = λ proof. opened_by_facts digest (facts_of proof);
  digest = digest;
}
