use Rattle.std.proofs.Common.{◌↔◌, IsTrue, true≢false, sym, ap, subst, ◌∙◌, ⊎_elim}
use Rattle.std.proofs.lemmas.Bool.{cases_Bool}
use Rattle.mem_plain.specs.Contents.{IsUsed}
use Rattle.mem_plain.specs.Pages.{page_in, byte_of}
use Rattle.mem_plain.proofs.UsedLemmas.{used_by_byte, byte_by_used, unused}
use Rattle.mem_plain.proofs.memory.PlainMem.is_used.Goals as goal

pub returns-in-Some : goal.returns-in-Some
returns-in-Some c =
    let kept = page_in c.self.inside.pages.tables.items in
    subst (λ m. IsTrue c.is_used.result ↔ IsUsed m c.args.number) c.self.view_is (
      λ is. used_by_byte kept c.args.number c.in-Some.page.now c.requires c.in-Some.ensures (c.is_used.ensures.0 is),
      λ used. ⊎_elim
          (λ is. is)
          (λ unused. absurd (byte_by_used kept c.args.number c.in-Some.page.now c.in-Some.ensures (λ any. true≢false (sym (c.is_used.ensures.1 any) ∙ unused)) used))
          (cases_Bool c.is_used.result),
    )

pub returns-in-None : goal.returns-in-None
returns-in-None c = (
  λ is. absurd (true≢false (sym is)),
  λ used. absurd (subst (λ m. ¬ IsUsed m c.args.number) c.self.view_is (unused (page_in c.self.inside.pages.tables.items) c.args.number (λ _ at. ap (λ o. byte_of o at) (sym c.in-None.ensures))) used),
)
