use Rattle.std.proofs.Common.{rules, ◌≡◌, ◌∙◌, length, ap, refl, arith}
use Rattle.std.specs.List.{range_with_len}
use Rattle.posters.specs.Swaps.{swapped}
use Rattle.posters.proofs.Swaps.{length-swapped}
use Rattle.posters.proofs.Blocks.{said_swapped, meant_again, range-push}
use Rattle.posters.proofs.ByClass.{suits-all}
use Rattle.posters.proofs.round_robin.serve_all.Goals as goal

pub loop-number-preserved : goal.loop-number-preserved
loop-number-preserved g c = let v = c.loop-number.invariant in (c.push_reserved.ensures.items ∙ range-push c.loop-number.number c.loop-number.numbers.items v.0, search rules, search rules)

pub serve_classes-requires-clause-ready : goal.serve_classes-requires-clause-ready
serve_classes-requires-clause-ready g c κs within =
    let ready = c.requires.ready in let arranged = c.arrange.ensures in let v = c.loop-number.invariant in let js = c.arrange.new.swaps.items in
    let end : c.loop-number.number ≡ length c.args.items.now = search rules in
    (ready.0, ready.1, said_swapped g.Server.ClassServer.meaning ready.0 js c.args.items.now c.arrange.new.items (range_with_len 0 (length c.args.items.now)) c.arrange.new.numbers.items ready.2 arranged.items (arranged.numbers ∙ ap (swapped 0 js) (v.0 ∙ ap (range_with_len 0) end)))

pub serve_classes-requires-clause-few : goal.serve_classes-requires-clause-few
serve_classes-requires-clause-few g c κs within =
    let arranged = c.arrange.ensures in let v = c.loop-number.invariant in let js = c.arrange.new.swaps.items in
    let end : c.loop-number.number ≡ length c.args.items.now = search rules in
    let numbers : length c.arrange.new.numbers.items ≡ length c.loop-number.numbers.items = ap length arranged.numbers ∙ length-swapped 0 js c.loop-number.numbers.items in
    let items : length c.arrange.new.items ≡ length c.args.items.now = ap length arranged.items ∙ length-swapped 0 js c.args.items.now in
    let long = v.1 in (search rules, omega arith)

pub serve_classes-requires-clause-classes : goal.serve_classes-requires-clause-classes
serve_classes-requires-clause-classes g c κs within =
    suits-all (λ w. g.Server.ClassServer.class_of (g.Server.ClassServer.stays w)) (length c.args.servers.now) c.arrange.new.numbers.items (length c.arrange.new.items) c.args.servers.now (search rules) refl c.arrange.ensures.by_class c.requires.classes

pub returns-clause-items : goal.returns-clause-items
returns-clause-items g c = let arranged = c.arrange.ensures in
    meant_again g.Server.ClassServer.meaning c.arrange.new.swaps.items c.args.items.now c.arrange.new.items c.serve_classes.new.items c.restore.new.items arranged.few arranged.places arranged.items c.serve_classes.ensures.items c.restore.ensures
