use Rattle.std.proofs.Common.{Ok, map, sym, ap, ◌∙◌}
use Rattle.std.specs.Option.{ok_or, option_map}
use Rattle.serde_json.specs.Find.{as_array}
use Rattle.serde_json.specs.View.{view}
use Rattle.case_reader.specs.declared.fault.CaseFault.TheVariants.{WrongType}
use Rattle.rd_base.specs.Results.{◌>>=◌}
use Rattle.case_reader.specs.Fields.{array_field, listed}
use Rattle.case_reader.proofs.ReadingLemmas.{items_listed}
use Rattle.case_reader.proofs.field.array_of.Goals as goal

pub returns-in-Some : goal.returns-in-Some
unfolding array_field
returns-in-Some c =
    let missing = WrongType c.args.key in
    ap (λ r. r >>= λ value. ok_or (option_map listed (as_array value)) missing) c.in_ok-value.ensures
    ∙ (ap (λ o. ok_or o missing) (items_listed (as_array (view c.in_ok-value.value.now)) c.in-Some.items.now.items c.in-Some.ensures)
    ∙ ap (λ items. Ok (map view items)) (sym c.as_slice.ensures.value))
