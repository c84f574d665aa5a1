use Rattle.open_proof.proofs.facts.laws.laws_below.Goals as goal

pub returns : goal.returns
returns c = record {
  steps = record {
    any_offer = c.two_parts_are_the_step.ensures.any_offer;
    aligned = c.two_parts_are_the_step.ensures.aligned;
    read = c.numbers_lie_in_chunks.ensures.read;
    stored = c.numbers_lie_in_chunks.ensures.stored;
    elsewhere = c.numbers_lie_in_chunks.ensures.elsewhere;
    changed = c.memory_nodes.ensures.changed;
    more = c.chain_grows.ensures.more;
    input_byte = c.input_bytes_lie_in_chunks.ensures.byte;
  };
  registers = record {
    alike = c.steps_read_named_registers.ensures.alike;
    changes = c.steps_read_named_registers.ensures.changes;
    needed = c.effects_read_named_registers.ensures.needed;
    registers = c.names_are_registers.ensures;
    version = λ s. c.runs_keep_the_input.ensures.version s 1;
    input = λ s. c.runs_keep_the_input.ensures.input s 1;
  };
  trees = record {
    same = c.nodes_depend_on_leaves_below.ensures.same;
    climbs = c.paths_climb_to_nodes.ensures.climbs;
    changed = c.changed_leaves_climb_with_old_siblings.ensures.climbs;
    strings = c.paths_open_strings_of_the_tree.ensures.strings;
  };
}
