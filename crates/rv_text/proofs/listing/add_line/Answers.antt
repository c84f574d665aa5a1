use Rattle.std.proofs.Common.{sym, ap, ◌∙◌, Some}
use Rattle.std.proofs.lemmas.Bool.{ne_eqb}
use Rattle.rv_text.proofs.read_back.FenceLemmas.{fence_line}
use Rattle.rv_text.proofs.listing.add_line.Goals as goal

pub returns-in-None : goal.returns-in-None
returns-in-None c = rw (sym c.in-None.ensures.value) c.add_raw-in-None.ensures

pub returns-else-f-eq-FENCE_ALL : goal.returns-else-f-eq-FENCE_ALL
returns-else-f-eq-FENCE_ALL c =
    let f = c.in-Some-Fence.f in
    let is = c.in-Some-Fence.is ∙ ap (λ i. Some i) c.in-Some-Fence.field-0-is in
    rw (fence_line c.args.word f (sym c.decode.ensures.value ∙ is) ((c.decode.ensures.reads _).0 is) (ne_eqb _ _ c.if-f-eq-FENCE_ALL.false)) c.add_raw.ensures
