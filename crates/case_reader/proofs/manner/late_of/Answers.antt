use Rattle.std.proofs.Common.{Some, codes, refl, sym, ap, ◌∙◌, arith}
use Rattle.std.specs.Option.{option_map}
use Rattle.serde_json.specs.View.{view}
use Rattle.rd_base.specs.declared.script.Manner.TheVariants.{Late}
use Rattle.case_reader.proofs.RangeLemmas.{inside-narrowed}
use Rattle.case_reader.proofs.manner.late_of.Goals as goal

pub returns : goal.returns
returns c =
    ap (λ n. Some (Late n)) c.in_ok-new.ensures.value
    ∙ sym (ap (option_map Late) (inside-narrowed (codes "passes") 0 1000 4294967295 c.in_ok-passes.passes (view c.args.manner.now) (omega arith) (omega arith) (c.in_ok-new.ensures.there.0 refl) (sym c.in_ok-passes.ensures)))
