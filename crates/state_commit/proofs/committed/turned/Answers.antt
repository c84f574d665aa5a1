use Rattle.state_commit.proofs.committed.turned.Goals as goal

pub returns-clause-tree : goal.returns-clause-tree
returns-clause-tree g c = λ m is touched.
    c.in_ok-refresh.ensures.tree m (c.in_ok-turned.ensures.tree m is)
    (c.unused_pages_are_alike.ensures c.in_ok-turned.turned.touched m c.args.mem.now (λ p used. c.in_ok-turned.ensures.others p (touched p used)) c.in_ok-turned.ensures.used)
