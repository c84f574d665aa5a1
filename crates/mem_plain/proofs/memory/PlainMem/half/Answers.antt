use Rattle.std.proofs.Common.{◌%◌, sym, ap, ◌∙◌, arith}
use Rattle.mem_plain.specs.Contents.{number_at}
use Rattle.mem_plain.specs.Pages.{byte_of, page_in}
use Rattle.mem_plain.proofs.PagesLemmas.{number_by, number_of_address}
use Rattle.mem_plain.proofs.memory.PlainMem.half.Goals as goal

pub returns-in-Some : goal.returns-in-Some
returns-in-Some c =
    c.half.ensures ∙ (ap (λ o. number_by (byte_of o) (c.args.addr % 4096) 2) c.in-Some.ensures
    ∙ (sym (number_of_address (page_in c.self.inside.pages.tables.items) c.args.addr 2 (omega arith) (omega arith)) ∙ ap (λ m. number_at m c.args.addr 2) c.self.view_is))

pub returns-in-None : goal.returns-in-None
returns-in-None c =
    ap (λ o. number_by (byte_of o) (c.args.addr % 4096) 2) c.in-None.ensures
    ∙ (sym (number_of_address (page_in c.self.inside.pages.tables.items) c.args.addr 2 (omega arith) (omega arith)) ∙ ap (λ m. number_at m c.args.addr 2) c.self.view_is)
