use Rattle.std.proofs.Common.{◌+◌, Ok, ap, sym, ◌∙◌, drop, map, arith}
use Rattle.std.proofs.lemmas.List.{drop_all}
use Rattle.std.proofs.lemmas.Grind.{common_steps}
use Rattle.serde_json.specs.View.{view}
use Rattle.case_reader.specs.Provers.{scripts_in}
use Rattle.case_reader.proofs.ReadingLemmas.{with_prefix, map-drop, scripts_in-all, scripts_in-known, scripts_in-unknown}
use Rattle.case_reader.proofs.prover.scripts_of.Goals as goal

pub returns-in_default-clause-value : goal.returns-in_default-clause-value
returns-in_default-clause-value c = λ _.
    let here = map-drop view c.args.provers.now c.provers.i c.index-provers-i.result c.provers-test.true c.index-provers-i.is in
    sym c.provers.invariant.whole
    ∙ (ap (λ left. with_prefix c.provers.scripts.items (scripts_in (c.provers.i + 1) left)) here
    ∙ scripts_in-unknown c.provers.scripts.items (c.provers.i + 1) _ _ (cc (c.in_ok-script.ensures, c.in_default.is)))

pub provers-preserved : goal.provers-preserved
provers-preserved c =
    let here = map-drop view c.args.provers.now c.provers.i c.index-provers-i.result c.provers-test.true c.index-provers-i.is in
    record {
      whole =
          ap (λ prefix. with_prefix prefix (scripts_in (c.provers.i + 1 + 1) (map view (drop (c.provers.i + 1) c.args.provers.now)))) c.in_ok-push.ensures.items
          ∙ (sym (scripts_in-known c.provers.scripts.items (c.provers.i + 1) _ _ c.in-Some.script (cc (c.in_ok-script.ensures, c.in-Some.is)))
          ∙ (ap (λ left. with_prefix c.provers.scripts.items (scripts_in (c.provers.i + 1) left)) (sym here)
          ∙ c.provers.invariant.whole));
      count = grind (arith, common_steps);
    }

pub returns-clause-value : goal.returns-clause-value
returns-clause-value c =
    sym c.provers.invariant.whole
    ∙ (scripts_in-all c.provers.scripts.items (c.provers.i + 1) _ (ap (map view) (drop_all c.provers.i c.args.provers.now c.provers-test.false)) ∙ ap Ok (sym c.new.ensures))
