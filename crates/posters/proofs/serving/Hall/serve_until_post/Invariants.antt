use Rattle.std.proofs.Common.{◌≡◌, map}
use Rattle.posters.specs.Serving.{staying_part_of}
use Rattle.posters.proofs.serving.Hall.serve_until_post.Given as goal

abbrev pub invariant-loop : goal.invariant-loop
invariant-loop g l = (staying_part_of l.seat ≡ staying_part_of l.initial.seat) × (map g.A.Answerer.answers l.answerers ≡ map g.A.Answerer.answers l.initial.answerers)
