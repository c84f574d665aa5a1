use Rattle.std.proofs.Common.{◌∙◌, arith}
use Rattle.image_reader.specs.declared.header.ProgramHeader.{ProgramHeader}
use Rattle.image_reader.proofs.OverlapLemmas.{next_alone}
use Rattle.image_reader.proofs.overlap.any_neighbours_share.Goals as goal
use Rattle.image_reader.proofs.overlap.any_neighbours_share.Goals.{then-k-loads+else-from-end, else-k-loads}

-- what indexing gives beyond the end
abbrev nowhere : ProgramHeader
nowhere = record { p_type = 0; p_offset = 0; p_vaddr = 0; p_filesz = 0; p_memsz = 0 }

pub loads-preserved : goal.loads-preserved
loads-preserved c =
    elim c.if-k-loads.branch [
      | then-k-loads+else-from-end w ↦ next_alone c.args.loads.now c.loads.k nowhere c.requires.rising c.loads-test.true (λ _. omega arith) ∙ c.loads.invariant
      | else-k-loads w ↦ next_alone c.args.loads.now c.loads.k nowhere c.requires.rising c.loads-test.true (λ within. absurd (omega arith)) ∙ c.loads.invariant
    ]
