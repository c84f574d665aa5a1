use Rattle.std.proofs.Common.{◌≡◌, ◌∙◌, refl, ap, arith, suc, length, ◌+◌, ◌-◌, ◌∷◌, [], Some, None, length-append}
use Rattle.tournament.specs.Bracket.{Record}
use Rattle.bisect_game.specs.Disputes.{dispute_of}
use Rattle.tournament.specs.Keeping.{other_from, side_pairs}
use Rattle.tournament.proofs.keeping.KeepingLemmas.{pairs-none, pairs-some, pairs-opened}
use Rattle.tournament.proofs.sheet.Sheet.+open_pairs.Goals as goal

pub open_pairs-requires : goal.open_pairs-requires
open_pairs-requires t c =
    let e : None ≡ other_from 0 c.remove-first.result.root c.remove-first.new.self.items = rw c.as_slice.ensures.value at c.in-None.ensures.is in
    let p : side_pairs c.args.left c.args.live.now.items ≡ side_pairs (c.args.left - 1) c.remove-first.new.self.items =
    pairs-none c.args.left c.args.live.now.items c.remove-first.new.self.items c.remove-first.result (omega (arith, c.if-left-eq0.false)) (omega (arith, c.remove-first.ensures.len, c.args.live.now.ok.0)) c.remove-first.ensures.value c.remove-first.ensures.items e in
    let n : length (side_pairs c.args.left c.args.live.now.items) ≡ length (side_pairs (c.args.left - 1) c.remove-first.new.self.items) = ap (λ ps. length ps) p in
    (omega (arith, c.decreases, c.if-left-eq0.false), (omega (arith, n, c.requires.few), c.requires.stage))

pub open_one-requires : goal.open_one-requires
open_one-requires t c =
    let e : Some c.in-Some.i ≡ other_from 0 c.remove-first.result.root c.remove-first.new.self.items = rw c.as_slice.ensures.value at c.in-Some.ensures.is in
    let p : side_pairs c.args.left c.args.live.now.items ≡ (c.remove-first.result, c.remove-second.result) ∷ side_pairs (c.args.left - 1) c.remove-second.new.self.items =
    pairs-some c.args.left c.in-Some.i c.args.live.now.items c.remove-first.new.self.items c.remove-second.new.self.items c.remove-first.result c.remove-second.result (omega (arith, c.if-left-eq0.false)) (omega (arith, c.remove-first.ensures.len, c.args.live.now.ok.0))
    c.remove-first.ensures.value c.remove-first.ensures.items e c.remove-second.ensures.value c.remove-second.ensures.items in
    let n : length (side_pairs c.args.left c.args.live.now.items) ≡ suc (length (side_pairs (c.args.left - 1) c.remove-second.new.self.items)) = ap (λ ps. length ps) p in
    record { few = omega (arith, n, c.requires.few); stage = c.requires.stage }

pub open_pairs-requires-in-Some : goal.open_pairs-requires-in-Some
open_pairs-requires-in-Some t c =
    let e : Some c.in-Some.i ≡ other_from 0 c.remove-first.result.root c.remove-first.new.self.items = rw c.as_slice.ensures.value at c.in-Some.ensures.is in
    let p : side_pairs c.args.left c.args.live.now.items ≡ (c.remove-first.result, c.remove-second.result) ∷ side_pairs (c.args.left - 1) c.remove-second.new.self.items =
    pairs-some c.args.left c.in-Some.i c.args.live.now.items c.remove-first.new.self.items c.remove-second.new.self.items c.remove-first.result c.remove-second.result (omega (arith, c.if-left-eq0.false)) (omega (arith, c.remove-first.ensures.len, c.args.live.now.ok.0))
    c.remove-first.ensures.value c.remove-first.ensures.items e c.remove-second.ensures.value c.remove-second.ensures.items in
    let n : length (side_pairs c.args.left c.args.live.now.items) ≡ suc (length (side_pairs (c.args.left - 1) c.remove-second.new.self.items)) = ap (λ ps. length ps) p in
    let m : length c.open_one.new.self.record_.disputes ≡ length c.args.self.now.record_.disputes + 1 =
    ap (λ (r : Record). length r.disputes) c.open_one.ensures.record_ ∙ length-append c.args.self.now.record_.disputes (dispute_of c.args.self.now.setup c.args.stage (length c.args.self.now.record_.disputes + 1) c.remove-first.result c.remove-second.result ∷ []) in
    let q : c.open_one.new.self.setup.provers ≡ c.args.self.now.setup.provers = rw c.open_one.ensures.setup refl in
    (omega (arith, c.decreases, c.if-left-eq0.false), (omega (arith, n, m, q, c.requires.few), omega (arith, m, c.requires.stage)))

pub returns-in-None-clause-record_ : goal.returns-in-None-clause-record_
returns-in-None-clause-record_ t c =
    let e : None ≡ other_from 0 c.remove-first.result.root c.remove-first.new.self.items = rw c.as_slice.ensures.value at c.in-None.ensures.is in
    let p : side_pairs c.args.left c.args.live.now.items ≡ side_pairs (c.args.left - 1) c.remove-first.new.self.items =
    pairs-none c.args.left c.args.live.now.items c.remove-first.new.self.items c.remove-first.result (omega (arith, c.if-left-eq0.false)) (omega (arith, c.remove-first.ensures.len, c.args.live.now.ok.0)) c.remove-first.ensures.value c.remove-first.ensures.items e in
    rw p c.open_pairs.ensures.record_

pub returns-in-Some-clause-record_ : goal.returns-in-Some-clause-record_
returns-in-Some-clause-record_ t c =
    let e : Some c.in-Some.i ≡ other_from 0 c.remove-first.result.root c.remove-first.new.self.items = rw c.as_slice.ensures.value at c.in-Some.ensures.is in
    let p : side_pairs c.args.left c.args.live.now.items ≡ (c.remove-first.result, c.remove-second.result) ∷ side_pairs (c.args.left - 1) c.remove-second.new.self.items =
    pairs-some c.args.left c.in-Some.i c.args.live.now.items c.remove-first.new.self.items c.remove-second.new.self.items c.remove-first.result c.remove-second.result (omega (arith, c.if-left-eq0.false)) (omega (arith, c.remove-first.ensures.len, c.args.live.now.ok.0))
    c.remove-first.ensures.value c.remove-first.ensures.items e c.remove-second.ensures.value c.remove-second.ensures.items in
    pairs-opened c.args.self.now.setup c.args.stage c.args.self.now.record_ c.open_one.new.self.record_ c.open_pairs-in-Some.new.self.record_ c.remove-first.result c.remove-second.result (side_pairs (c.args.left - 1) c.remove-second.new.self.items) _
    c.open_one.ensures.record_ (rw c.open_one.ensures.setup at c.open_pairs-in-Some.ensures.record_) p
