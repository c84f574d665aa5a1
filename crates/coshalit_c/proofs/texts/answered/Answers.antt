use Rattle.std.proofs.Common.{sym, ◌∙◌}
use Rattle.coshalit_c.proofs.TextLemmas.{never-nine}
use Rattle.coshalit_c.proofs.texts.answered.Goals as goal

pub returns-in-Ok-clause-outcome : goal.returns-in-Ok-clause-outcome
returns-in-Ok-clause-outcome c = λ other. record { response = c.in-Ok.response; outcome = c.in-Ok.ensures.outcome; written = c.written.ensures }

pub returns-in-Ok-clause-memory : goal.returns-in-Ok-clause-memory
returns-in-Ok-clause-memory c = λ nine. absurd (never-nine c.args.command c.in-Ok.response.answered c.in-Ok.ensures.own (sym c.written.ensures.status ∙ nine))
