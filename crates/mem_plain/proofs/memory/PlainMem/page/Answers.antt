use Rattle.std.proofs.Common.{◌≡◌, ℕ, ◌+◌, ◌*◌, ◌<◌, replicate, slice_index, sym, ap, ◌∙◌}
use Rattle.std.proofs.lemmas.List.{get_or-replicate}
use Rattle.std.proofs.lemmas.Result.{IfOk-weaker}
use Rattle.mem_plain.specs.Contents.{byte_at}
use Rattle.mem_plain.specs.Pages.{byte_of, page_in}
use Rattle.mem_plain.proofs.PagesLemmas.{byte_there}
use Rattle.mem_plain.proofs.memory.PlainMem.page.Goals as goal

pub returns-in_ok-clone-in-Some : goal.returns-in_ok-clone-in-Some
returns-in_ok-clone-in-Some c at small =
    ap (λ bytes. slice_index bytes at) c.in_ok-clone-in-Some.ensures.cases
    ∙ (ap (λ o. byte_of o at) c.in-Some.ensures
    ∙ (sym (byte_there (page_in c.self.inside.pages.tables.items) c.args.number at c.requires small)
    ∙ ap (λ m. byte_at m (c.args.number * 4096 + at)) c.self.view_is))

pub returns-in-None : goal.returns-in-None
returns-in-None c =
    IfOk-weaker c.zeros.result (λ page. page.bytes.items ≡ replicate 4096 0) (λ page. (at : ℕ) → at < 4096 → slice_index page.bytes.items at ≡ byte_at c.args.self.now (c.args.number * 4096 + at)) (λ page zeros at small.
    ap (λ bytes. slice_index bytes at) zeros
    ∙ (get_or-replicate 4096 at 0 0 small
    ∙ (ap (λ o. byte_of o at) c.in-None.ensures
    ∙ (sym (byte_there (page_in c.self.inside.pages.tables.items) c.args.number at c.requires small)
    ∙ ap (λ m. byte_at m (c.args.number * 4096 + at)) c.self.view_is)))) c.zeros.ensures
