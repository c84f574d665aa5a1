use Rattle.std.proofs.Common.{◌≡◌, ℕ, ◌∷◌, [], ◌++◌, List, Option, unwrap_or, ap, ◌∙◌, rules}
use Rattle.std.specs.Ordering.{nat_cmp}
use Rattle.std.specs.Map.{lookup}
use Rattle.std.specs.BTreeMap.{is_at}
use Rattle.std.specs.declared.vec.Vec.{Vec}
use Rattle.std.specs.declared.alloc.Global.{Global}
use Rattle.checkpoint_run.specs.Places.{places_at}
use Rattle.checkpoint_run.proofs.IndexLemmas.{index_more, items_or}
use Rattle.checkpoint_run.proofs.checkpoint.add_place.Goals as goal

pub returns : goal.returns
returns c pages is index =
    let entries = c.args.index.now.entries in
    let page = c.args.page in
    let before : c.or_insert.result.now.items ≡ places_at entries page
    = ap (λ (v : Vec ℕ Global). v.items) (c.or_insert.ensures.value ∙ ap (λ (o : Option (Vec ℕ Global)). unwrap_or o c.new.result) c.in_ok-index.ensures.value)
    ∙ items_or (lookup (is_at (nat_cmp page)) entries) c.new.result c.new.ensures.items in
    let items : c.push.new.self.items ≡ places_at entries page ++ c.args.place ∷ [] = c.in_ok-push.ensures.items ∙ ap (λ (places : List ℕ). places ++ c.args.place ∷ []) before in
    index_more entries _ pages page c.args.place c.push.new.self (λ q. search rules) is index items
