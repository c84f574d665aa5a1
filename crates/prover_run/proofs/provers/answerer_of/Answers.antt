use Rattle.std.proofs.Common.{◌∙◌, ℕ, Option, ap, ap₂}
use Rattle.rd_base.specs.declared.answer.Answer.{Answer}
use Rattle.rd_base.specs.declared.script.Manner.{Manner}
use Rattle.rv_step.specs.State.{State}
use Rattle.bisect_game.specs.declared.settled.Question.{Question}
use Rattle.prover_script.specs.Manners.{says}
use Rattle.prover_run.specs.Prover.{Prover, prover_says}
use Rattle.prover_run.proofs.provers.answerer_of.Goals as goal

pub returns : goal.returns
returns g c =
    c.new.ensures
    ∙ ap₂ (λ (m : Manner) (p : Prover). let said : Question → ℕ → Option Answer = says g.D.Digester.digest_of m (prover_says g.D.Digester.digest_of p) in said) c.in_ok-manner.ensures
    (c.in_ok-inner.ensures ∙ ap (λ (s : State). let made : Prover = record { start = s; tamper = c.args.script.now.tamper; bound = c.args.plan.bound } in made) c.machine.ensures.state)
