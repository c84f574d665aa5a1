use Rattle.std.proofs.Common.{rules, ℕ, ◌+◌, ◌<◌, List, get_or, slice_index_or, map, sym, ap, ◌∙◌, subst, arith}
use Rattle.std.specs.Prelude.{slice_get}
use Rattle.posters.specs.declared.playing.Place.{Place}
use Rattle.seat_lock.specs.Seats.{Known}
use Rattle.board_book.specs.declared.book.Opening.{Opening}
use Rattle.posters.specs.Serving.{staying_part_of, saying_of, SeesOverOf}
use Rattle.posters.proofs.Answering.{said_at, said_again}
use Rattle.posters.proofs.Ended.{one_more_over}
use Rattle.posters.proofs.Numbering.{prover_at}
use Rattle.posters.proofs.Seats.{seat_again}
use Rattle.posters.proofs.serving.Hall.serve_each.Goals as goal
use Rattle.posters.proofs.serving.Hall.serve_each.Goals.{in-Some+in-Over, in-Some+in-Posted, in-Some+in-Idle, in_default}

pub serve_prover-requires-clause-seat : goal.serve_prover-requires-clause-seat
serve_prover-requires-clause-seat g c κs within =
    let r = c.requires.seat in let v = c.loop-i.invariant in let number : ℕ = slice_index_or c.args.numbers.now c.loop-i.i 0 in (
      r.heads,
      seat_again c.args.self.now.board r.heads c.args.seat.now c.loop-i.seat v.0 r.seat,
      prover_at g.P.Provers.says r.heads number c.in-Some.place (g.A.Answerer.answers (slice_index_or c.loop-i.answerers c.loop-i.i c.index-answerers-i.result))
          (ap (λ (ps : List Place). slice_get ps number) (sym r.placed) ∙ (sym c.place_at.ensures ∙ c.in-Some.is))
          (said_at g.A.Answerer.answers (saying_of g.P.Provers.says r.heads) c.loop-i.answerers c.args.numbers.now c.loop-i.i c.index-answerers-i.result 0 (v.1 ∙ r.said_all) c.loop-i-test.true),
    )

pub returns-in-EndsEarly-clause-answerers : goal.returns-in-EndsEarly-clause-answerers
returns-in-EndsEarly-clause-answerers g c =
    said_again g.A.Answerer.answers c.loop-i.answerers c.loop-i.i c.serve_prover.new.answerer c.index-answerers-i.result c.serve_prover.ensures.answerer ∙ c.loop-i.invariant.1

pub loop-i-preserved : goal.loop-i-preserved
loop-i-preserved g c = let v = c.loop-i.invariant in let answers = g.A.Answerer.answers in
    elim c.match-place_at.branch [
      | in-Some+in-Over w ↦ (
        ap staying_part_of w.seat-is ∙ w.serve_prover.ensures.seat ∙ v.0,
        ap (map answers) w.answerers-is ∙ said_again answers c.loop-i.answerers c.loop-i.i w.serve_prover.new.answerer w.index-answerers-i.result w.serve_prover.ensures.answerer ∙ v.1,
        search rules,
        search rules,
        λ all.
            let now = w.serve_prover.ensures in
            subst (λ (k : Known (List (Opening g.row.J-Names.Denot g.row.P-Names.Denot))). (j d : ℕ) → j < c.loop-i.i + 1 → SeesOverOf g.J.Judge.ruling g.P.Provers.says c.args.self.now.places.items k (get_or c.args.numbers.now j d)) (sym w.seat-is)
            (one_more_over g.J.Judge.ruling g.P.Provers.says c.tasks_are_alone.ensures.alone c.entries_are_told_apart.ensures c.logs_tell_journals.ensures.start c.args.self.now.places.items c.loop-i.seat w.serve_prover.new.seat c.args.numbers.now c.loop-i.i w.in-Some.place c.loop-i-test.true
            (ap (λ (k : Known (List (Opening g.row.J-Names.Denot g.row.P-Names.Denot))). k.head) now.seat) now.seen (sym c.place_at.ensures ∙ w.in-Some.is) (now.over w.in-Over.is) (v.4 (omega (arith, all, w.over-is)))),
      )
      | in-Some+in-Posted w ↦ (
        ap staying_part_of w.seat-is ∙ w.serve_prover.ensures.seat ∙ v.0,
        ap (map answers) w.answerers-is ∙ said_again answers c.loop-i.answerers c.loop-i.i w.serve_prover.new.answerer w.index-answerers-i.result w.serve_prover.ensures.answerer ∙ v.1,
        search rules,
        search rules,
        λ all. absurd (let few = v.3 in omega (arith, all, w.over-is, few)),
      )
      | in-Some+in-Idle w ↦ (
        ap staying_part_of w.seat-is ∙ w.serve_prover.ensures.seat ∙ v.0,
        ap (map answers) w.answerers-is ∙ said_again answers c.loop-i.answerers c.loop-i.i w.serve_prover.new.answerer w.index-answerers-i.result w.serve_prover.ensures.answerer ∙ v.1,
        search rules,
        search rules,
        λ all. absurd (let few = v.3 in omega (arith, all, w.over-is, few)),
      )
      | in_default w ↦ (ap staying_part_of w.seat-is ∙ v.0, ap (map answers) w.answerers-is ∙ v.1, search rules, search rules, λ all. absurd (let few = v.3 in omega (arith, all, w.over-is, few)))
    ]
