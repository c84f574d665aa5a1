use Rattle.std.proofs.Common.{◌≡◌, ◌+◌, ◌++◌, map, length, take}
use Rattle.case_match.specs.declared.opening.EndedCase.{EndedCase}
use Rattle.case_match.proofs.opening.with_ends.Given as goal

abbrev pub invariant-ends : goal.invariant-ends
invariant-ends l = record {
  all : l.yielded ++ l.end-iterator.rest.items ≡ l.fn.ends.items;
  place : l.at ≡ length l.yielded;
  room : l.at + l.end-iterator.rest.len ≡ length l.fn.cases.items;
  cases : map (λ (e : EndedCase). e.case) l.ended.items ≡ take l.at l.fn.cases.items;
  ends : map (λ (e : EndedCase). e.end) l.ended.items ≡ l.yielded;
}
