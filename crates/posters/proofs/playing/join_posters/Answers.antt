use Rattle.std.proofs.Common.{◌≡◌, ◌+◌, ◌-◌, [], ◌∷◌, ◌++◌, length, All, sym, ap, ◌∙◌, subst, arith, length-append}
use Rattle.seat_lock.specs.History.{log_of}
use Rattle.posters.specs.declared.serving.Poster.{Poster}
use Rattle.posters.specs.Serving.{KnowsStart}
use Rattle.posters.proofs.Seats.{All-first, knows_after_join}
use Rattle.posters.proofs.playing.join_posters.Goals as goal

pub loop-poster-preserved : goal.loop-poster-preserved
loop-poster-preserved g c =
    let v = c.loop-poster.invariant in let joined = c.join.ensures in let left = c.pop.new.self.items in let poster = c.in-Some.poster in
    let last : c.loop-poster.posters.items ≡ left ++ poster ∷ [] = c.in-Some.ensures.items in
    let long : length c.loop-poster.posters.items ≡ length left + 1 = ap length last ∙ length-append left (poster ∷ []) in
    let one_less : c.join.new.seat.out ≡ c.loop-poster.seat.out - 1 = ap (λ k. k.out) joined in
    let out = v.3 in
    let IsHere : Poster g.row.J.Denot g.row.P.Denot g.row.J-Names.Denot g.row.P-Names.Denot → Type 0 = λ w. w.seat.lock ≡ c.args.board.now in (
      ap (λ k. k.lock) joined ∙ v.0,
      ap (λ k. k.number) joined ∙ v.1,
      ap (λ k. k.head) joined ∙ v.2,
      omega arith,
      All-first IsHere left (poster ∷ []) (subst (All IsHere) last v.4),
      subst (KnowsStart (log_of c.args.seat.now.seen)) (sym joined) (knows_after_join (log_of c.args.seat.now.seen) c.loop-poster.seat poster.seat v.5),
    )
