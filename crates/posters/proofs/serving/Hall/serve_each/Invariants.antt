use Rattle.std.proofs.Common.{◌≡◌, ℕ, ◌<◌, ◌≤◌, ◌-◌, get_or, map, length}
use Rattle.posters.specs.Serving.{staying_part_of, SeesOverOf}
use Rattle.posters.proofs.serving.Hall.serve_each.Given as goal

abbrev pub invariant-loop-i : goal.invariant-loop-i
invariant-loop-i g l = (staying_part_of l.seat ≡ staying_part_of l.initial.seat) × (map g.A.Answerer.answers l.answerers ≡ map g.A.Answerer.answers l.initial.answerers) × (l.i ≤ length l.fn.numbers) × (l.over ≤ l.i)
    × (l.over ≡ l.i → (j d : ℕ) → j < l.i → SeesOverOf g.J.Judge.ruling g.P.Provers.says l.fn.self.places.items l.seat (get_or l.fn.numbers j d))

abbrev pub decreases-loop-i : goal.decreases-loop-i
decreases-loop-i g l = length l.fn.numbers - l.i
