use Rattle.std.proofs.Common.{◌≡◌, ℕ, suc, ◌∷◌, [], ◌++◌, List, All, Some, length, take, sym, ap, subst, ◌∙◌, arith}
use Rattle.std.specs.Ordering.{nat_cmp}
use Rattle.std.specs.BTreeMap.{get}
use Rattle.std.specs.declared.vec.Vec.{Vec}
use Rattle.std.specs.declared.alloc.Global.{Global}
use Rattle.std.proofs.lemmas.List.{append_assoc, append-nil}
use Rattle.mem_plain.specs.Contents.{byte_at}
use Rattle.checkpoint_run.specs.Versions.{pages_of}
use Rattle.checkpoint_run.specs.Places.{ArePlaces, IsPut, items_of}
use Rattle.checkpoint_run.proofs.VersionLemmas.{pictured_memory}
use Rattle.checkpoint_run.proofs.IndexLemmas.{put_nothing, all_put, keys_of, keys_more}
use Rattle.checkpoint_run.proofs.checkpoint.restored.Goals as goal

pub pages-init : goal.pages-init
pages-init c =
    let start = c.into_iter-page-iterator.ensures.into_iter_gives ∙ c.iter-page-items.ensures.rest in
    let P : ℕ × Vec ℕ Global → Type 0 = λ e. get nat_cmp c.args.index.now e.0 ≡ Some e.1 in
    record {
      done = [];
      whole = start;
      found = subst (λ (es : List (ℕ × Vec ℕ Global)). All P es) (sym start) c.iter-page-items.ensures.found;
      put = put_nothing (take c.args.count c.args.versions.now) c.new-mem.result (λ a. ap (λ m. byte_at m a) c.new-mem.ensures ∙ c.laying_bytes.ensures.nothing a);
    }

pub put_last-requires-clause-places : goal.put_last-requires-clause-places
put_last-requires-clause-places c =
    let vs = c.args.versions.now in
    let page = c.in-Some.page.now in
    let P : ℕ × Vec ℕ Global → Type 0 = λ e. get nat_cmp c.args.index.now e.0 ≡ Some e.1 in
    let here : get nat_cmp c.args.index.now page ≡ Some c.in-Some.places.now
    = subst (λ (es : List (ℕ × Vec ℕ Global)). All P es) c.in-Some.ensures.steps c.pages.invariant.found 0 (page, c.in-Some.places.now) (omega arith) in
    subst (ArePlaces (pages_of vs) (length vs) page) (ap items_of here ∙ sym c.deref.ensures.value) (c.requires.index page)

pub pages-preserved : goal.pages-preserved
pages-preserved c =
    let inv = c.pages.invariant in
    let e : ℕ × Vec ℕ Global = (c.in-Some.page.now, c.in-Some.places.now) in
    let P : ℕ × Vec ℕ Global → Type 0 = λ e. get nat_cmp c.args.index.now e.0 ≡ Some e.1 in
    record {
      done = inv.done ++ e ∷ [];
      whole = append_assoc inv.done (e ∷ []) c.next.new.self ∙ (ap (λ rest. inv.done ++ rest) (sym c.in-Some.ensures.steps) ∙ inv.whole);
      found = λ k d low. subst (λ (es : List (ℕ × Vec ℕ Global)). All P es) c.in-Some.ensures.steps inv.found (suc k) d (omega arith);
      put = subst (λ put. IsPut (take c.args.count c.args.versions.now) put c.put_last.new.mem) (sym (keys_more inv.done e)) (c.in_ok-put_last.ensures (keys_of inv.done) inv.put);
    }

pub returns : goal.returns
returns c =
    let vs = c.args.versions.now in
    let inv = c.pages.invariant in
    let whole = sym (append-nil inv.done) ∙ (ap (λ rest. inv.done ++ rest) (sym c.in-None.ensures.steps.0) ∙ inv.whole) in
    sym (pictured_memory (take c.args.count vs) c.pages.mem c.contents_of_a_function.ensures.alike c.is_memory.ensures
    (all_put vs c.args.count c.args.index.now.entries c.pages.mem c.requires.count c.requires.index (subst (λ done. IsPut (take c.args.count vs) (keys_of done) c.pages.mem) whole inv.put)))
