use Rattle.std.proofs.Common.{Some, sym, ap}
use Rattle.tournament.proofs.playing.Match.take.Goals as goal

pub settle-requires-clause-moves : goal.settle-requires-clause-moves
settle-requires-clause-moves g c = record {
  question = c.args.question;
  answer = Some c.in-Give.answer;
  asked = c.requires.asked;
  settles = rw (← c.self.view_is) (ap Some (sym c.judged-settled.ensures));
}
