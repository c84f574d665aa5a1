use Rattle.std.proofs.Common.{◌∙◌}
use Rattle.open_proof.specs.Openings.{fetch_ways, named_ways, operand_ways, read_ways}
use Rattle.open_proof.proofs.CodeLemmas.{there-is, there-next}
use Rattle.open_proof.proofs.SlotLemmas.{slot_met, slots_met}
use Rattle.open_proof.proofs.collision.ways_collision.Goals as goal

pub returns-then-is_some : goal.returns-then-is_some
returns-then-is_some g c = there-is c.slot_collision-fetch.result _ _ (c.slot_collision-fetch.ensures ∙ slot_met g.D.Digester.digest_of c.fetch_way.result c.fetch_way-2.result (fetch_ways c.args.x.now) (fetch_ways c.args.y.now) c.fetch_way.ensures c.fetch_way-2.ensures) c.if-is_some.ensures

pub returns-then-is_some-2 : goal.returns-then-is_some-2
returns-then-is_some-2 g c =
    there-next c.slot_collision-fetch.result _ _ c.slots_collision-named.result (c.slot_collision-fetch.ensures ∙ slot_met g.D.Digester.digest_of c.fetch_way.result c.fetch_way-2.result (fetch_ways c.args.x.now) (fetch_ways c.args.y.now) c.fetch_way.ensures c.fetch_way-2.ensures) c.if-is_some.ensures
    (there-is c.slots_collision-named.result _ _ (c.slots_collision-named.ensures ∙ slots_met g.D.Digester.digest_of c.named_ways.result c.named_ways-2.result (named_ways c.args.x.now) (named_ways c.args.y.now) c.named_ways.ensures.places c.named_ways-2.ensures.places c.named_ways.ensures.few c.named_ways-2.ensures.few) c.if-is_some-2.ensures)

pub returns-then-is_some-3 : goal.returns-then-is_some-3
returns-then-is_some-3 g c =
    there-next c.slot_collision-fetch.result _ _ c.slot_collision-operand.result (c.slot_collision-fetch.ensures ∙ slot_met g.D.Digester.digest_of c.fetch_way.result c.fetch_way-2.result (fetch_ways c.args.x.now) (fetch_ways c.args.y.now) c.fetch_way.ensures c.fetch_way-2.ensures) c.if-is_some.ensures
    (there-next c.slots_collision-named.result _ _ c.slot_collision-operand.result (c.slots_collision-named.ensures ∙ slots_met g.D.Digester.digest_of c.named_ways.result c.named_ways-2.result (named_ways c.args.x.now) (named_ways c.args.y.now) c.named_ways.ensures.places c.named_ways-2.ensures.places c.named_ways.ensures.few c.named_ways-2.ensures.few) c.if-is_some-2.ensures
    (there-is c.slot_collision-operand.result _ _ (c.slot_collision-operand.ensures ∙ slot_met g.D.Digester.digest_of c.operand_way.result c.operand_way-2.result (operand_ways c.args.x.now) (operand_ways c.args.y.now) c.operand_way.ensures c.operand_way-2.ensures) c.if-is_some-3.ensures))

pub returns : goal.returns
returns g c =
    there-next c.slot_collision-fetch.result _ _ c.slot_collision.result (c.slot_collision-fetch.ensures ∙ slot_met g.D.Digester.digest_of c.fetch_way.result c.fetch_way-2.result (fetch_ways c.args.x.now) (fetch_ways c.args.y.now) c.fetch_way.ensures c.fetch_way-2.ensures) c.if-is_some.ensures
    (there-next c.slots_collision-named.result _ _ c.slot_collision.result (c.slots_collision-named.ensures ∙ slots_met g.D.Digester.digest_of c.named_ways.result c.named_ways-2.result (named_ways c.args.x.now) (named_ways c.args.y.now) c.named_ways.ensures.places c.named_ways-2.ensures.places c.named_ways.ensures.few c.named_ways-2.ensures.few) c.if-is_some-2.ensures
    (there-next c.slot_collision-operand.result _ _ c.slot_collision.result (c.slot_collision-operand.ensures ∙ slot_met g.D.Digester.digest_of c.operand_way.result c.operand_way-2.result (operand_ways c.args.x.now) (operand_ways c.args.y.now) c.operand_way.ensures c.operand_way-2.ensures) c.if-is_some-3.ensures
    (c.slot_collision.ensures ∙ slot_met g.D.Digester.digest_of c.read_way.result c.read_way-2.result (read_ways c.args.x.now) (read_ways c.args.y.now) c.read_way.ensures c.read_way-2.ensures)))
