use Rattle.std.proofs.Common.{◌≡◌, ◌+◌, ◌*◌, ◌≤◌, length}
use Rattle.rv_text.specs.Characters.{source_lines}
use Rattle.rv_text.specs.Assembly.{pass, no_names, first_pass}
use Rattle.rv_text.specs.Places.{places_of}
use Rattle.rv_text.proofs.assembling.first_pass.Given as goal

abbrev pub invariant-lines : goal.invariant-lines
invariant-lines l = record {
  same : first_pass l.number (pass (places_of l.names) l.place) (source_lines l.rest) ≡ first_pass 1 (pass no_names 0) (source_lines l.text);
  within : l.number + length l.rest ≤ 16777217;
  near : l.place + 4 ≤ 4 * l.number;
}

abbrev pub decreases-lines : goal.decreases-lines
decreases-lines l = length l.rest
