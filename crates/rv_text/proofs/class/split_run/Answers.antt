use Rattle.std.proofs.Common.{◌≡◌, ◌∙◌, sym, arith, false, take, drop, length, ◌-◌, length-drop, List, ℕ}
use Rattle.std.proofs.lemmas.List.{take_all}
use Rattle.rv_text.specs.Characters.{begins}
use Rattle.rv_text.specs.Classes.{is_of}
use Rattle.rv_text.proofs.Runs.{splits, begins-end, begins-at}
use Rattle.rv_text.proofs.class.split_run.Goals as goal
use Rattle.rv_text.proofs.class.split_run.Goals.{then-loop-n-test+else-is_of, else-loop-n-test}

rest-all : (n : ℕ) (xs : List ℕ) → take (length xs - n) (drop n xs) ≡ drop n xs
rest-all n xs = take_all (length xs - n) (drop n xs) (omega (arith, length-drop n xs))

pub returns-clause-run : goal.returns-clause-run
returns-clause-run c =
    let ends : begins (is_of c.args.class) (drop c.loop-n.n c.args.text.now) ≡ false = elim c.loop-n-test.branch [
      | then-loop-n-test+else-is_of w ↦ begins-at _ c.args.text.now c.loop-n.n w.loop-n-test.true (sym w.is_of.ensures ∙ w.if-is_of.false)
      | else-loop-n-test w ↦ begins-end _ c.args.text.now c.loop-n.n w.loop-n-test.false
    ] in
    (splits (is_of c.args.class) c.args.text.now c.loop-n.n c.loop-n.invariant.run ends).taken

pub returns-clause-behind : goal.returns-clause-behind
returns-clause-behind c =
    let ends : begins (is_of c.args.class) (drop c.loop-n.n c.args.text.now) ≡ false = elim c.loop-n-test.branch [
      | then-loop-n-test+else-is_of w ↦ begins-at _ c.args.text.now c.loop-n.n w.loop-n-test.true (sym w.is_of.ensures ∙ w.if-is_of.false)
      | else-loop-n-test w ↦ begins-end _ c.args.text.now c.loop-n.n w.loop-n-test.false
    ] in
    rest-all c.loop-n.n c.args.text.now ∙ (splits (is_of c.args.class) c.args.text.now c.loop-n.n c.loop-n.invariant.run ends).left
