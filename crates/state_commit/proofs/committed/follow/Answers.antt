use Rattle.std.proofs.Common.{◌≡◌, ◌≢◌, ℕ, ◌/◌, Result, Ok, Err, Some, true≢false, sym, ap, ◌∙◌, subst}
use Rattle.std.specs.Result.{OnOk}
use Rattle.rd_base.specs.declared.memory.Memory.{Memory}
use Rattle.mem_plain.specs.Contents.{Contents, byte_at, has_page}
use Rattle.mem_tree.specs.Tree.{Tree, IsTreeOf, SameBut}
use Rattle.state_commit.proofs.StateLemmas.{same-named}
use Rattle.state_commit.proofs.committed.follow.Goals as goal
use Rattle.state_commit.proofs.committed.follow.Goals.{in-Some+in_ok-touch, in_default}

map-ok : (r : Result (Unit {0}) Memory) (P Q : Type 0) → (P → Q) → OnOk r P → OnOk r Q
map-ok (Ok x) P Q follows p = follows p
map-ok (Err e) P Q follows p = tt

pub returns-clause-tree : goal.returns-clause-tree
returns-clause-tree g c =
    let digest = g.D.Digester.digest_of in
    let t = c.match-page.tree in
    let n = c.args.mem.now in
    let before : (m : Contents) → IsTreeOf digest c.args.tree.now m → ((a : ℕ) → c.args.page ≢ Some (a / 4096) → byte_at m a ≡ byte_at n a) → IsTreeOf digest t m × SameBut t.touched m n =
    λ m tree same. elim c.match-page.branch [
      | in-Some+in_ok-touch w ↦ (
        subst (λ (x : Tree). IsTreeOf digest x m) (sym w.tree-is) (w.touch.ensures.tree m tree),
        λ p fresh a at. same a (λ is. true≢false (sym w.in_ok-touch.ensures.touched
            ∙ (ap (λ (x : Tree). has_page x.touched w.in-Some.page) (sym w.tree-is) ∙ (ap (has_page t.touched) (same-named c.args.page w.in-Some.page (a / 4096) w.in-Some.is is ∙ at) ∙ fresh)))),
      )
      | in_default w ↦ (
        subst (λ (x : Tree). IsTreeOf digest x m) (sym w.tree-is) tree,
        λ p fresh a at. same a (w.in_default.not-Some (a / 4096)),
      )
    ] in
    map-ok c.refresh.result _ _ (λ ok m tree same. let b = before m tree same in ok m b.0 b.1) c.refresh.ensures.tree
