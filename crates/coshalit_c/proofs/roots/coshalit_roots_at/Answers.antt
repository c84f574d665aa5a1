use Rattle.std.proofs.Common.{sym, subst, ◌∙◌}
use Rattle.delegate.specs.declared.response.Response.{Response}
use Rattle.coshalit_c.specs.Texts.{IsWrittenTo}
use Rattle.coshalit_c.proofs.TextLemmas.{nine-is-memory}
use Rattle.coshalit_c.proofs.roots.coshalit_roots_at.Goals as goal

pub returns-in-Ok-clause-response : goal.returns-in-Ok-clause-response
returns-in-Ok-clause-response c = λ other. subst (λ (r : Response). IsWrittenTo r c.written.result c.args.room.now c.written.new.room) c.in-Ok.ensures.response c.written.ensures

pub returns-in-Ok-clause-memory : goal.returns-in-Ok-clause-memory
returns-in-Ok-clause-memory c = λ nine. absurd (c.in-Ok.ensures.own (nine-is-memory c.in-Ok.response.answered (sym c.written.ensures.status ∙ nine)))
