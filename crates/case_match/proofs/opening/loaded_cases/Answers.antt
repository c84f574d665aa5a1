use Rattle.std.proofs.Common.{rules, ◌≡◌, map, length-append, [], ◌∷◌, ◌++◌, ◌∙◌, sym, ap, arith, append_assoc}
use Rattle.std.proofs.lemmas.Grind.{common_steps}
use Rattle.std.proofs.lemmas.List.{map-append}
use Rattle.case_match.specs.declared.opening.LoadedCase.{LoadedCase}
use Rattle.case_match.proofs.TaskLemmas.{one-more-loaded, all-fresh}
use Rattle.case_match.proofs.opening.loaded_cases.Goals as goal

pub starts-preserved : goal.starts-preserved
starts-preserved c =
    let v = c.starts.invariant in
    let x = c.in-Some.start in
    record {
      all = append_assoc c.starts.yielded (x ∷ []) c.next.new.self.rest.items ∙ (ap (λ l. c.starts.yielded ++ l) (sym c.in-Some.ensures.steps.0) ∙ v.all);
      place = omega (arith, v.place, length-append c.starts.yielded (x ∷ []));
      room = omega (arith, v.room, c.in-Some.ensures.steps.1);
      cases = one-more-loaded c.args.cases.now c.starts.at c.starts.loads.items c.push.new.self.items _ c.in_ok-push.ensures.items (omega (arith, v.room, c.in-Some.ensures.steps.1)) (search rules) v.cases;
      starts = ap (map (λ (k : LoadedCase). k.start)) c.in_ok-push.ensures.items ∙ (map-append (λ (k : LoadedCase). k.start) c.starts.loads.items (_ ∷ []) ∙ ap (λ l. l ++ x ∷ []) v.starts);
    }

pub returns-clause-fresh : goal.returns-clause-fresh
returns-clause-fresh c = λ digest chained.
    let are : map (λ (l : LoadedCase). l.start) c.starts.loads.items ≡ c.args.starts.items = grind (arith, common_steps) in
    all-fresh digest c.starts.loads.items c.args.starts.items are chained c.requires.silent
