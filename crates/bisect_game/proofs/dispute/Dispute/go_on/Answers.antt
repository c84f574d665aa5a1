use Rattle.std.proofs.Common.{◌≡◌, false, refl, arith}
use Rattle.bisect_game.specs.Closing.{is_step}
use Rattle.bisect_game.specs.Bisection.{roots_of}
use Rattle.bisect_game.proofs.DisputeLemmas.{few-rounds, narrowing-seen}
use Rattle.bisect_game.proofs.dispute.Dispute.go_on.Goals as goal

pub push_reserved-requires : goal.push_reserved-requires
push_reserved-requires c =
    let long : is_step c.self.inside.place ≡ false = rw (← c.self.view_is) at c.requires.long in
    omega (arith, few-rounds c.self.inside.fan c.self.inside.place _ _ long c.self.invariant.narrowing, c.self.invariant.narrowing.roomy)

pub invariant_of-self : goal.invariant_of-self
invariant_of-self c =
    let long : is_step c.self.inside.place ≡ false = rw (← c.self.view_is) at c.requires.long in
    record {
      narrowing = narrowing-seen c.self.inside.fan c.self.inside.place _ _ (roots_of c.args.first) (roots_of c.args.second) _ _ _ _ c.kept-self-inside.ensures c.parts_of.ensures c.push_reserved.ensures.len c.push_reserved.ensures.capacity long c.self.invariant.narrowing;
      waits = refl;
    }
