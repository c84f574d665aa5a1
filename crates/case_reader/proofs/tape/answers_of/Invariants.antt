use Rattle.std.proofs.Common.{◌≡◌, drop, map}
use Rattle.serde_json.specs.View.{view}
use Rattle.case_reader.specs.Scripts.{tape_answers_in}
use Rattle.case_reader.proofs.TapeLemmas.{behind}
use Rattle.case_reader.proofs.tape.answers_of.Given as goal

-- the answers so far, before those of the elements that are left, are all
abbrev pub invariant-elements : goal.invariant-elements
invariant-elements l = behind l.answers.items (tape_answers_in (map view (drop l.element-index l.elements))) ≡ tape_answers_in (map view l.elements)
