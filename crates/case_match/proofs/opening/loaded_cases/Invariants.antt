use Rattle.std.proofs.Common.{◌≡◌, ◌+◌, ◌++◌, map, length, take}
use Rattle.case_reader.specs.Case.{data_of}
use Rattle.case_match.specs.declared.opening.LoadedCase.{LoadedCase}
use Rattle.case_match.proofs.opening.loaded_cases.Given as goal

abbrev pub invariant-starts : goal.invariant-starts
invariant-starts l = record {
  all : l.yielded ++ l.start-iterator.rest.items ≡ l.fn.starts.items;
  place : l.at ≡ length l.yielded;
  room : l.at + l.start-iterator.rest.len ≡ length l.fn.cases;
  cases : map (λ (k : LoadedCase). data_of k.case.now) l.loads.items ≡ map data_of (take l.at l.fn.cases);
  starts : map (λ (k : LoadedCase). k.start) l.loads.items ≡ l.yielded;
}
