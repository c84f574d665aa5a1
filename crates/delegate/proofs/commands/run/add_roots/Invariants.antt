use Rattle.std.proofs.Common.{◌≡◌, string_bytes}
use Rattle.rv_step.specs.Step.{state_at}
use Rattle.segment_replay.specs.Roots.{root_of_state}
use Rattle.transcript_text.specs.Roots.{root_lines}
use Rattle.delegate.proofs.commands.run.add_roots.Given as goal

-- the lines of the roots of the states so far, and the state that the next step starts from
abbrev pub invariant-states : goal.invariant-states
invariant-states g l =
    (string_bytes l.text ≡ root_lines (λ i. root_of_state g.D.Digester.digest_of (state_at l.fn.start i)) l.i)
    × (l.committed ≡ state_at l.fn.start l.i)
