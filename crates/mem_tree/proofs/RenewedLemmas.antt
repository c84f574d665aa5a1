-- A page is made that of a memory.
use Rattle.std.proofs.Common.{◌≡◌, ℕ, ◌<◌, List, Option, Some, None, true, false, true≢false, is_some, cond, refl, sym, ap, ◌∙◌, subst}
use Rattle.rd_base.specs.declared.digest.Digest32.{Digest32}
use Rattle.mem_plain.specs.Contents.{Contents, IsUsed}
use Rattle.merkle_nodes.specs.Node.{digest_at}
use Rattle.merkle_nodes.specs.Heap.{IsHeap}
use Rattle.merkle_nodes.specs.Renewals.{renewals}
use Rattle.mem_tree.specs.Page.{IsMadeTree, IsPageTree, chunk_in, heap_node, leaf_of, page_chunk}
use Rattle.mem_tree.specs.Tree.{IsRoot}
use Rattle.mem_tree.specs.Costs.{differs, has_changed, page_renewals}
use Rattle.mem_tree.specs.Renewed.{IsRenewed}
use Rattle.mem_tree.specs.declared.kept.PageTree.{PageTree}
use Rattle.mem_tree.specs.declared.kept.Renewed.{Renewed}
use Rattle.mem_tree.proofs.CostLemmas.{RootLaw, SomeLaw}
use Rattle.mem_tree.proofs.PageLemmas.{unused-page, unused-filled, used-filled, used-page, used-some, was-kept}

not-some : (o : Option PageTree) → is_some o ≡ false → o ≡ None
not-some None is = refl
not-some (Some tree) is = absurd (true≢false is)

module _ (root : RootLaw) (some : SomeLaw) (digest : List ℕ → List ℕ) (m : Contents) (page : ℕ) where
  -- one that isn't used
  pub renewed-unused : (before after : Option PageTree) (renewed : Renewed) → IsMadeTree digest before → ¬ IsUsed m page → after ≡ None → renewed.root ≡ None → renewed.changed ≡ is_some before
      → IsRenewed digest before after renewed m page
  renewed-unused before after renewed made unused gone none changed = record {
    tree = subst (λ o. IsPageTree digest o m page) (sym gone) (record { made = tt; page_of = unused-page m page unused });
    root_is = subst (λ o. IsRoot renewed.root o) (sym gone) (subst (λ d. IsRoot d None) (sym none) (record { digest_is = λ e. refl; kept = refl }));
    changed_is = changed ∙ was-kept root some m page digest before made unused;
    same = λ not empty. ap (λ o. heap_node o 1 empty) (gone ∙ sym (not-some before (sym changed ∙ not)));
    there = λ not. ap is_some gone ∙ (sym not ∙ changed);
  }

  pub renewals-unused : (before : Option PageTree) → ¬ IsUsed m page → page_renewals before m page ≡ 0
  renewals-unused before unused = ap (λ b. cond b (renewals (differs before m page) 7) 0) (unused-filled root some m page unused)

  pub renewals-used : (before : Option PageTree) → IsUsed m page → page_renewals before m page ≡ renewals (differs before m page) 7
  renewals-used before used = ap (λ b. cond b (renewals (differs before m page) 7) 0) (used-filled root some m page used)

  -- one that is, and was kept
  pub made-tree : (t : PageTree) → IsUsed m page → IsHeap digest t.nodes.items 7 (leaf_of t.chunks.items) → ((j : ℕ) → j < 128 → chunk_in t.chunks.items j ≡ page_chunk m page j) → IsPageTree digest (Some t) m page
  made-tree t used heap chunks = record { made = record { heap = heap; some = used-some t m page used chunks }; page_of = used-page digest t m page used chunks }

  pub renewed-kept : (before after : Option PageTree) (b t : PageTree) (d : Digest32) (renewed : Renewed) → before ≡ Some b → after ≡ Some t → IsUsed m page
      → IsHeap digest t.nodes.items 7 (leaf_of t.chunks.items) → ((j : ℕ) → j < 128 → chunk_in t.chunks.items j ≡ page_chunk m page j) → renewed.root ≡ Some d → d.0 ≡ digest_at t.nodes.items 1
      → renewed.changed ≡ has_changed (Some b) m page → (renewed.changed ≡ false → digest_at t.nodes.items 1 ≡ digest_at b.nodes.items 1) → IsRenewed digest before after renewed m page
  renewed-kept before after b t d renewed was is used heap chunks root_is digest_is changed same = record {
    tree = subst (λ o. IsPageTree digest o m page) (sym is) (made-tree t used heap chunks);
    root_is = subst (λ o. IsRoot renewed.root o) (sym is) (subst (λ r. IsRoot r (Some t)) (sym root_is) (record { digest_is = λ e. digest_is; kept = refl }));
    changed_is = changed ∙ ap (λ (o : Option PageTree). has_changed o m page) (sym was);
    same = λ not empty. ap (λ o. heap_node o 1 empty) is ∙ (same not ∙ ap (λ o. heap_node o 1 empty) (sym was));
    there = λ not. ap is_some is ∙ ap is_some (sym was);
  }

  -- and one that wasn't
  pub renewed-new : (before after : Option PageTree) (t : PageTree) (d : Digest32) (renewed : Renewed) → before ≡ None → after ≡ Some t → IsUsed m page → IsPageTree digest (Some t) m page
      → renewed.root ≡ Some d → d.0 ≡ digest_at t.nodes.items 1 → renewed.changed ≡ true → IsRenewed digest before after renewed m page
  renewed-new before after t d renewed was is used tree root_is digest_is changed = record {
    tree = subst (λ o. IsPageTree digest o m page) (sym is) tree;
    root_is = subst (λ o. IsRoot renewed.root o) (sym is) (subst (λ r. IsRoot r (Some t)) (sym root_is) (record { digest_is = λ e. digest_is; kept = refl }));
    changed_is = changed ∙ (sym (used-filled root some m page used) ∙ ap (λ (o : Option PageTree). has_changed o m page) (sym was));
    same = λ not. absurd (true≢false (sym changed ∙ not));
    there = λ not. absurd (true≢false (sym changed ∙ not));
  }
