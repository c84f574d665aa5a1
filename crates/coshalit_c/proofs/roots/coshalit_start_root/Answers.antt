use Rattle.std.proofs.Common.{sym, subst, ◌∙◌}
use Rattle.delegate.specs.declared.response.Response.{Response}
use Rattle.coshalit_c.specs.Texts.{IsWrittenTo}
use Rattle.coshalit_c.proofs.TextLemmas.{of-case-nine}
use Rattle.coshalit_c.proofs.roots.coshalit_start_root.Goals as goal

pub returns-in-Ok-clause-response : goal.returns-in-Ok-clause-response
returns-in-Ok-clause-response c = λ other. subst (λ (r : Response). IsWrittenTo r c.written.result c.args.room.now c.written.new.room) c.in-Ok.ensures.response c.written.ensures

pub returns-in-Ok-clause-memory : goal.returns-in-Ok-clause-memory
returns-in-Ok-clause-memory c = λ nine. absurd (of-case-nine c.in-Ok.response.answered c.in-Ok.ensures.own (sym c.written.ensures.status ∙ nine))

pub returns-in-Ok-clause-valid : goal.returns-in-Ok-clause-valid
returns-in-Ok-clause-valid c = λ other. c.in-Ok.ensures.valid
