use Rattle.std.proofs.Common.{codes, refl, sym, arith}
use Rattle.serde_json.specs.View.{view}
use Rattle.rd_base.specs.declared.tamper.Tamper.TheVariants.{Register}
use Rattle.rd_base.specs.declared.script.Manner.TheVariants.{Forge}
use Rattle.case_reader.specs.Scripts.{register_in, forge_in}
use Rattle.case_reader.proofs.RangeLemmas.{inside-narrowed, change_is_read}
use Rattle.case_reader.proofs.field.register_change_of.Goals as goal

pub returns-clause-tamper : goal.returns-clause-tamper
unfolding register_in
returns-clause-tamper c =
    let range = c.in_ok-reg.ensures.there.0 refl in
    let reg = inside-narrowed (codes "reg") 1 31 255 c.in_ok-number.number (view c.args.tree.now) (omega arith) range.0 range.1 (sym c.in_ok-number.ensures) in
    change_is_read Register _ _ _ _ _ _ _ c.in_ok-step.ensures reg c.in_ok-reg.ensures.value c.in_ok-value.ensures

pub returns-clause-manner : goal.returns-clause-manner
unfolding forge_in
returns-clause-manner c =
    let range = c.in_ok-reg.ensures.there.0 refl in
    let reg = inside-narrowed (codes "reg") 1 31 255 c.in_ok-number.number (view c.args.tree.now) (omega arith) range.0 range.1 (sym c.in_ok-number.ensures) in
    change_is_read Forge _ _ _ _ _ _ _ c.in_ok-step.ensures reg c.in_ok-reg.ensures.value c.in_ok-value.ensures
