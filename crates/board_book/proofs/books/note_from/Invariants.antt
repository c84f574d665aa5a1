use Rattle.std.proofs.Common.{◌≡◌, ◌+◌, ◌-◌, ◌≤◌, ◌++◌, length, drop}
use Rattle.board_book.specs.Tasks.{of_task}
use Rattle.board_book.proofs.books.note_from.Given as goal

abbrev pub invariant-loop-i : goal.invariant-loop-i
invariant-loop-i l = record {
  noted : l.journal.items ++ of_task l.t (drop l.i l.entries) ≡ l.initial.journal.items ++ of_task l.t (drop l.from l.entries);
  within : l.i ≤ length l.entries;
  from : l.from ≤ l.i;
  long : length l.journal.items + (length l.entries - l.i) ≡ length l.initial.journal.items + (length l.entries - l.from);
  cap : l.journal.cap ≡ l.initial.journal.cap;
}
