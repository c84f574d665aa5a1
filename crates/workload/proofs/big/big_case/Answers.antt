use Rattle.std.proofs.Common.{◌≡◌, ◌≤◌, false, Some, sym, ap, ◌∙◌, subst}
use Rattle.serde_json.specs.Data.{Data, depth}
use Rattle.serde_json.specs.Written.{has_float, compact_text}
use Rattle.workload.specs.Workload.{big_tree, big_data}
use Rattle.workload.proofs.TreeLemmas.{has_float-big_tree, depth-big_tree, case_of-big_tree, case_at-read}
use Rattle.workload.proofs.big.big_case.Goals as goal

pub returns-clause-text : goal.returns-clause-text
returns-clause-text c =
    let P : Data → Type 0 = λ d. has_float d ≡ false in
    c.new.ensures ∙ (c.in_ok-to_vec.ensures.text (subst P (sym c.in_ok-tree.ensures) (has_float-big_tree c.args.seed)) ∙ ap compact_text c.in_ok-tree.ensures)

pub returns-clause-reads : goal.returns-clause-reads
returns-clause-reads c =
    let P : Data → Type 0 = λ d. depth d ≤ 127 in
    rw c.new.ensures
    (case_at-read _ (big_tree c.args.seed) (big_data c.args.seed) c.in_ok-to_vec.ensures.utf8
    (c.in_ok-to_vec.ensures.reads_back (subst P (sym c.in_ok-tree.ensures) (depth-big_tree c.args.seed)) ∙ ap Some c.in_ok-tree.ensures) (case_of-big_tree c.args.seed))
