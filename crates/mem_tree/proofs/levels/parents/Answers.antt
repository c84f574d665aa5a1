use Rattle.std.proofs.Common.{◌≡◌, ◌/◌, ◌≤◌, length, true, get_or, ap, ◌∙◌, sym, subst, arith}
use Rattle.std.proofs.lemmas.List.{take_all}
use Rattle.mem_plain.specs.Contents.{has_page}
use Rattle.mem_tree.specs.Costs.{parents}
use Rattle.mem_tree.specs.Levels.{others_before}
use Rattle.mem_tree.proofs.ParentLemmas.{parents-more, parents-above, parents-below, parents-few}
use Rattle.mem_tree.proofs.levels.parents.Goals as goal

pub places-preserved : goal.places-preserved
places-preserved c =
    let xs = c.args.places.now in
    c.in_ok-add_once.ensures ∙ (ap (λ ys. others_before ys (get_or xs c.places.i 0 / 2)) c.places.invariant ∙ sym (parents-more xs c.places.i 0 c.places-test.true))

all : goal.returns-clause-exactly
all c = c.places.invariant ∙ ap parents (take_all c.places.i c.args.places.now (omega (arith, c.places-test.false)))

pub returns-clause-exactly : goal.returns-clause-exactly
returns-clause-exactly c = all c

pub returns-clause-above : goal.returns-clause-above
returns-clause-above c = λ q is. subst (λ ps. has_page ps (q / 2) ≡ true) (sym (all c)) (parents-above c.args.places.now q is)

pub returns-clause-below : goal.returns-clause-below
returns-clause-below c = λ h is. parents-below c.args.places.now h (subst (λ ps. has_page ps h ≡ true) (all c) is)

pub returns-clause-few : goal.returns-clause-few
returns-clause-few c = subst (λ ps. length ps ≤ length c.args.places.now) (sym (all c)) (parents-few c.args.places.now)
