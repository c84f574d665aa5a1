use Rattle.std.proofs.Common.{◌≡◌, ◌+◌, length, drop, map}
use Rattle.serde_json.specs.View.{view}
use Rattle.case_reader.specs.Provers.{scripts_in}
use Rattle.case_reader.proofs.ReadingLemmas.{with_prefix}
use Rattle.case_reader.proofs.prover.scripts_of.Given as goal

-- the scripts so far, before those of the provers that are left, are all
abbrev pub invariant-provers : goal.invariant-provers
invariant-provers l = record {
  whole : with_prefix l.scripts.items (scripts_in (l.i + 1) (map view (drop l.i l.provers))) ≡ scripts_in 1 (map view l.provers);
  count : length l.scripts.items ≡ l.i;
}
