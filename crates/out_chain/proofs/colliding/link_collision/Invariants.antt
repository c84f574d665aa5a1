use Rattle.std.proofs.Common.{◌≡◌, drop}
use Rattle.out_chain.specs.Collision.{links_after, links_of, first_collision}
use Rattle.out_chain.proofs.colliding.link_collision.Given as goal

-- what the links from here on give is what all of them give
abbrev pub invariant-links : goal.invariant-links
invariant-links g l =
    let digest = g.D.Digester.digest_of in
    first_collision digest (links_after digest l.left.0 (drop l.i l.first)) (links_after digest l.right.0 (drop l.i l.second))
    ≡ first_collision digest (links_of digest l.first) (links_of digest l.second)
