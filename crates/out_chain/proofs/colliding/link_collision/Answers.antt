use Rattle.std.proofs.Common.{sym, ◌∙◌, refl, arith, rules}
use Rattle.out_chain.specs.Collision.{links_of}
use Rattle.out_chain.proofs.CollisionLemmas.{link-goes_on, link-collides, link-end, links-same}
use Rattle.out_chain.proofs.colliding.link_collision.Goals as goal

pub links-init : goal.links-init
unfolding links_of
links-init g c = refl

pub returns-then-eq : goal.returns-then-eq
returns-then-eq g c = links-same g.D.Digester.digest_of c.args.first.now c.args.second.now (search rules)

pub returns-then-collides : goal.returns-then-collides
returns-then-collides g c =
    link-collides g.D.Digester.digest_of c.links.left.0 c.links.right.0 c.args.first.now c.args.second.now c.link_text-x.result c.link_text-y.result c.digest-left.result.0 c.digest-right.result.0 c.links.i _ _ (omega arith) (omega arith) c.link_text-x.ensures c.link_text-y.ensures (search rules) (search rules) c.collides.ensures c.if-collides.true c.links.invariant

pub links-preserved : goal.links-preserved
links-preserved g c =
    link-goes_on g.D.Digester.digest_of c.links.left.0 c.links.right.0 c.args.first.now c.args.second.now c.link_text-x.result c.link_text-y.result c.digest-left.result.0 c.digest-right.result.0 c.links.i _ _ (omega arith) (omega arith) c.link_text-x.ensures c.link_text-y.ensures (search rules) (search rules) c.collides.ensures c.if-collides.false c.links.invariant

pub returns : goal.returns
returns g c = sym (link-end g.D.Digester.digest_of c.links.left.0 c.links.right.0 c.args.first.now c.args.second.now c.links.i (omega arith)) ∙ c.links.invariant
