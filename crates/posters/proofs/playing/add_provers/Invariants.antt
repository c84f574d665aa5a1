use Rattle.std.proofs.Common.{◌≡◌, ◌++◌}
use Rattle.posters.specs.Serving.{provers_from}
use Rattle.posters.proofs.playing.add_provers.Given as goal

abbrev pub invariant-loop-p : goal.invariant-loop-p
invariant-loop-p l = l.places.items ≡ l.initial.places.items ++ provers_from l.t 1 l.p
