use Rattle.std.proofs.Common.{Some, map, sym, ap, ◌∙◌}
use Rattle.serde_json.specs.Find.{as_array}
use Rattle.serde_json.specs.View.{view}
use Rattle.case_reader.proofs.ReadingLemmas.{items_listed}
use Rattle.case_reader.proofs.tape.elements_in.Goals as goal

pub returns-in-Some : goal.returns-in-Some
returns-in-Some c =
    ap (λ items. Some (map view items)) c.as_slice.ensures.value
    ∙ sym (items_listed (as_array (view c.args.value.now)) c.in-Some.elements.now.items c.in-Some.ensures)
