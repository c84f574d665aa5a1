use Rattle.std.proofs.Common.{◌≡◌, ◌+◌, ◌*◌, ◌≤◌, length}
use Rattle.rv_text.specs.Characters.{source_lines}
use Rattle.rv_text.specs.Assembly.{second_pass}
use Rattle.rv_text.specs.Places.{places_of}
use Rattle.rv_text.proofs.PassLemmas.{before}
use Rattle.rv_text.proofs.assembling.second_pass.Given as goal

abbrev pub invariant-lines : goal.invariant-lines
invariant-lines l = record {
  same : before l.words.items (second_pass l.number (places_of l.names) l.here (source_lines l.rest)) ≡ second_pass 1 (places_of l.names) 0 (source_lines l.text);
  within : l.number + length l.rest ≤ 16777217;
  near : l.here + 4 ≤ 4 * l.number;
}

abbrev pub decreases-lines : goal.decreases-lines
decreases-lines l = length l.rest
