use Rattle.std.proofs.Common.{◌≡◌, take}
use Rattle.rd_base.proofs.tape.Tape.copy.Given as goal

-- the copies so far are the first answers
abbrev pub invariant-answers : goal.invariant-answers
invariant-answers l = l.copies.items ≡ take l.answer-index l.answer-items
