use Rattle.std.proofs.Common.{ℕ, Option, map, ap, ◌∙◌}
use Rattle.rd_base.specs.declared.answer.Answer.{Answer}
use Rattle.bisect_game.specs.declared.settled.Question.{Question}
use Rattle.posters.proofs.serving.PosterClassServerHall.serve.Goals as goal

pub serve_until_over-requires-clause-seat : goal.serve_until_over-requires-clause-seat
serve_until_over-requires-clause-seat g c κs within = let r = c.requires.ready in let kept = r.1.1 in
    record {
      heads = r.1.0;
      seat = record { lock = kept.lock; head_is = kept.head_is };
      placed = r.1.2;
      said_all = r.2 ∙ ap (λ (f : ℕ → Question → ℕ → Option Answer). map f c.args.numbers.now) r.1.3;
    }
