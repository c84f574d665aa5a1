use Rattle.std.proofs.Common.{rules, length-append, [], ◌∷◌, ◌++◌, ◌∙◌, sym, ap, arith, append_assoc}
use Rattle.case_match.specs.declared.opening.EndedCase.{EndedCase}
use Rattle.case_match.proofs.TaskLemmas.{one-more-mapped, one-more-taken}
use Rattle.case_match.proofs.opening.with_ends.Goals as goal

pub ends-preserved : goal.ends-preserved
ends-preserved c =
    let v = c.ends.invariant in
    let x = c.in-Some.end in
    record {
      all = append_assoc c.ends.yielded (x ∷ []) c.next.new.self.rest.items ∙ (ap (λ l. c.ends.yielded ++ l) (sym c.in-Some.ensures.steps.0) ∙ v.all);
      place = omega (arith, v.place, length-append c.ends.yielded (x ∷ []));
      room = omega (arith, v.room, c.in-Some.ensures.steps.1);
      cases = one-more-mapped (λ (e : EndedCase). e.case) c.ends.ended.items c.push.new.self.items _ _ c.in_ok-push.ensures.items v.cases
          ∙ one-more-taken c.args.cases.items c.ends.at _ (omega (arith, v.room, c.in-Some.ensures.steps.1)) (search rules);
      ends = one-more-mapped (λ (e : EndedCase). e.end) c.ends.ended.items c.push.new.self.items _ _ c.in_ok-push.ensures.items v.ends;
    }
