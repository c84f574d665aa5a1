use Rattle.std.proofs.Common.{◌≡◌, ◌∙◌, ◌∷◌, [], ℕ, List, IfSome, map, ap, subst, arith}
use Rattle.rd_base.specs.declared.digest.Digest32.{Digest32}
use Rattle.segment_replay.specs.Roots.{digests}
use Rattle.prover_run.specs.Prover.{root_of}
use Rattle.prover_run.proofs.RunLemmas.{roots_of_run, root_of_place, root_answers, roots_answer}
use Rattle.prover_run.proofs.answering.plain_answer.Goals as goal

pub returns-in_err-found-in-Root-clause-kept : goal.returns-in_err-found-in-Root-clause-kept
returns-in_err-found-in-Root-clause-kept g c p is kept =
    c.roots_of_steps.ensures.kept (root_of g.D.Digester.digest_of p) (roots_of_run g.D.Digester.digest_of p c.args.run.now is) kept

pub returns-in_ok-found-in-Root-clause-kept : goal.returns-in_ok-found-in-Root-clause-kept
returns-in_ok-found-in-Root-clause-kept g c p is kept =
    c.roots_of_steps.ensures.kept (root_of g.D.Digester.digest_of p) (roots_of_run g.D.Digester.digest_of p c.args.run.now is) kept

pub returns-in_ok-found-in-Root-clause-answer : goal.returns-in_ok-found-in-Root-clause-answer
returns-in_ok-found-in-Root-clause-answer g c p is kept =
    root_answers g.D.Digester.digest_of p c.args.kind c.in-Root.step c.index.result.now c.in-Root.is
    (ap (λ (r : Digest32). r.0) c.index.ensures
    ∙ root_of_place (root_of g.D.Digester.digest_of p) (c.in-Root.step ∷ []) c.in_ok-found-in-Root.found.items 0 c.index.result.now
    (c.in_ok-found-in-Root.ensures.roots (root_of g.D.Digester.digest_of p) (roots_of_run g.D.Digester.digest_of p c.args.run.now is) kept) (omega arith))

pub returns-in_err-found-in-Roots-clause-kept : goal.returns-in_err-found-in-Roots-clause-kept
returns-in_err-found-in-Roots-clause-kept g c p is kept =
    c.roots_of_steps-in-Roots.ensures.kept (root_of g.D.Digester.digest_of p) (roots_of_run g.D.Digester.digest_of p c.args.run.now is) kept

pub returns-in_ok-found-in-Roots-clause-kept : goal.returns-in_ok-found-in-Roots-clause-kept
returns-in_ok-found-in-Roots-clause-kept g c p is kept =
    c.roots_of_steps-in-Roots.ensures.kept (root_of g.D.Digester.digest_of p) (roots_of_run g.D.Digester.digest_of p c.args.run.now is) kept

pub returns-in_ok-found-in-Roots-clause-answer : goal.returns-in_ok-found-in-Roots-clause-answer
returns-in_ok-found-in-Roots-clause-answer g c p is kept =
    let same : c.unwrap.result ≡ c.in_ok-found-in-Roots.found.items =
    subst (λ list. IfSome list (λ l. l ≡ c.in_ok-found-in-Roots.found.items)) c.unwrap.ensures c.new.ensures.value in
    roots_answer g.D.Digester.digest_of p c.args.kind c.in-Roots.lo c.in-Roots.hi c.in-Roots.parts c.unwrap.result c.in-Roots.is
    (ap digests same
    ∙ (c.in_ok-found-in-Roots.ensures.roots (root_of g.D.Digester.digest_of p) (roots_of_run g.D.Digester.digest_of p c.args.run.now is) kept
    ∙ ap (λ (steps : List ℕ). map (root_of g.D.Digester.digest_of p) steps) (c.deref.ensures.value ∙ c.in_ok-steps-in-Roots.ensures.value)))
