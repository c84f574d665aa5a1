use Rattle.std.proofs.Common.{ℕ, ◌<◌, ◌≤◌, ◌∙◌, ap, refl, subst, arith}
use Rattle.bisect_game.specs.Setup.{Setup}
use Rattle.tournament.specs.Match.{rules_in}
use Rattle.audit.proofs.PassLemmas.{begin_passing, spend_more, spend_last}
use Rattle.audit.proofs.playing.spend.Goals as goal

pub passes-init : goal.passes-init
passes-init g c = record {
  names = refl;
  setup = refl;
  state = c.requires.fresh ∙ begin_passing (rules_in g.J.Judge.ruling c.args.played.now) c.args.played.now.game.record_ c.args.p;
}

pub passes-preserved : goal.passes-preserved
passes-preserved g c =
    let patience = c.patience-patience.ensures ∙ ap (λ (s : Setup). s.patience) c.setup.ensures.is in
    let more = subst (λ (n : ℕ). c.passes._i < n) patience c.passes-test.true in
    record {
      names = c.post.ensures.names ∙ c.passes.invariant.names;
      setup = c.post.ensures.setup ∙ c.passes.invariant.setup;
      state = spend_more (rules_in g.J.Judge.ruling c.args.played.now) _ _ _ c.args.played.now.game.record_ c.args.p c.passes._i c.args.question
          (cc (c.passes.invariant.names, c.passes.invariant.setup)) c.passes.invariant.state c.post.ensures.state c.requires.some c.requires.few c.requires.asked more;
    }

pub returns-clause-state : goal.returns-clause-state
returns-clause-state g c =
    let patience = c.patience-patience.ensures ∙ ap (λ (s : Setup). s.patience) c.setup.ensures.is in
    let all = subst (λ (n : ℕ). n ≤ c.passes._i) patience c.passes-test.false in
    let most = subst (λ (n : ℕ). c.passes._i ≤ n) patience c.passes.auto._i-end in
    spend_last (rules_in g.J.Judge.ruling c.args.played.now) (rules_in g.J.Judge.ruling c.passes.played) c.passes.played.game _ c.args.played.now.game.record_ c.args.p c.passes._i c.args.question
    (cc (c.passes.invariant.names, c.passes.invariant.setup)) c.passes.invariant.state c.post-2.ensures.state c.requires.some c.requires.few c.requires.asked (omega (arith, all, most))
