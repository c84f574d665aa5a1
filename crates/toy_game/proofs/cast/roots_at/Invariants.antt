use Rattle.std.proofs.Common.{◌≡◌, map, take}
use Rattle.toy_game.specs.Toy.{root_at}
use Rattle.toy_game.proofs.cast.roots_at.Given as goal

abbrev pub invariant-steps : goal.invariant-steps
invariant-steps l = l.roots.items ≡ map (root_at l.player) (take l.step-index l.steps)
