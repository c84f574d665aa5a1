use Rattle.std.proofs.Common.{◌≡◌, ◌++◌, map}
use Rattle.case_match.specs.declared.opening.EndedCase.{EndedCase}
use Rattle.case_match.proofs.verdict.endings.Given as goal

abbrev pub invariant-ends : goal.invariant-ends
invariant-ends l = record {
  all : l.yielded ++ l.ended-iterator.rest.items ≡ l.fn.ends.items;
  are : l.endings.items ≡ map (λ (e : EndedCase). (e.end.match_record, e.end.verdict)) l.yielded;
}
