use Rattle.std.proofs.Common.{ap, ◌∙◌, sym, subst}
use Rattle.mem_plain.specs.Contents.{has_page}
use Rattle.mem_tree.specs.Tree.{kept_of, IsOver}
use Rattle.mem_tree.proofs.AmongLemmas.{more-others, more-fresh, more-below}
use Rattle.mem_tree.proofs.JoinedLemmas.{joined-fewer, over-fewer}
use Rattle.mem_tree.proofs.tree.MemTree.touch.Goals as goal

pub invariant_of-self-2 : goal.invariant_of-self-2
invariant_of-self-2 g c =
    let inside = c.self.inside in
    let more = c.in_ok-insert.ensures.updates.0 in
    record {
      empty = c.self.invariant.empty;
      pages = more-below inside.touched.keys c.insert.new.self.keys c.args.page more c.requires c.self.invariant.pages;
      made = c.self.invariant.made;
      joined = joined-fewer g.D.Digester.digest_of (kept_of inside.nodes) inside.touched.keys c.insert.new.self.keys (more-fresh inside.touched.keys c.insert.new.self.keys c.args.page more) c.self.invariant.joined;
      whole = c.self.invariant.whole;
    }

pub returns-clause-tree : goal.returns-clause-tree
returns-clause-tree g c = λ m tree.
    let inside = c.self.inside in
    let digest = g.D.Digester.digest_of in
    over-fewer digest (kept_of inside.nodes) inside.touched.keys c.insert.new.self.keys m (more-fresh inside.touched.keys c.insert.new.self.keys c.args.page c.in_ok-insert.ensures.updates.0)
    (subst (λ t. IsOver digest t.nodes t.touched m) (sym c.self.view_is) tree)

pub returns-clause-others : goal.returns-clause-others
returns-clause-others g c = λ p apart.
    let inside = c.self.inside in
    more-others inside.touched.keys c.insert.new.self.keys c.args.page c.in_ok-insert.ensures.updates.0 p apart ∙ ap (λ t. has_page t.touched p) c.self.view_is
