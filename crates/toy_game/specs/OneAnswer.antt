-- Derived: a player gives one answer to one question, however often it passed.
use Rattle.std.proofs.Common.{◌≡◌, Bool, true, false, Some, None, if◌then◌else◌, sym, ◌∙◌}
use Rattle.rd_base.specs.declared.answer.Answer.{Answer}
use Rattle.bisect_game.specs.Says.{GiveOneAnswer}
use Rattle.toy_game.specs.declared.cast.Cast.{Cast}
use Rattle.toy_game.specs.Toy.{says_of}

given-if : (passes : Bool) (g a : Answer) → (if passes then None else Some g) ≡ Some a → g ≡ a
given-if true g a e = absurd (cc)
given-if false g a e = cc

pub players_give_one_answer : (cast : Cast) → GiveOneAnswer (says_of cast.players)
players_give_one_answer cast p q n k a b ea eb = sym (given-if _ _ a ea) ∙ given-if _ _ b eb
