-- To believe: the strings that a proof opens, in their order: its state string, its storage string if the input is a tree, its
-- registers string if it holds all registers, and its control string; then those of the fetched chunk, of the opened registers in
-- their order, of the chunk of data and of the chunk of the input, each from the leaf string up.
use Rattle.std.specs.Prelude.{ℕ, List, [], ◌∷◌, ◌++◌}
use Rattle.digest_core.specs.Text.{registers_text}
use Rattle.out_chain.specs.Root.{control_text_of}
use Rattle.open_proof.specs.Next.{storage_texts, text_before}
use Rattle.open_proof.specs.Openings.{fetch_ways, named_ways, operand_ways, read_ways}
use Rattle.open_proof.specs.Ways.{ways_texts}
use Rattle.open_proof.specs.declared.facts.Facts.{Facts}
use Rattle.open_proof.specs.declared.facts.HeldRegisters.{HeldRegisters}
use Rattle.open_proof.specs.declared.facts.HeldRegisters.TheVariants.{Whole, Opened}

-- the registers string, if all are held
abbrev pub registers_texts : HeldRegisters → List (List ℕ)
registers_texts (Whole xs) = registers_text xs ∷ []
registers_texts (Opened root named) = []

-- those of the parts
abbrev pub part_texts : (List ℕ → List ℕ) → Facts → List (List ℕ)
part_texts digest facts =
    text_before digest facts ∷ storage_texts facts.input_tree facts.mem.0 ++ (registers_texts facts.regs ++ control_text_of facts.ctl ∷ [])

-- all of them
unfoldable pub opened_by_facts : (List ℕ → List ℕ) → Facts → List (List ℕ)
opened_by_facts digest facts =
    part_texts digest facts
    ++ (ways_texts digest (fetch_ways facts)
    ++ (ways_texts digest (named_ways facts)
    ++ (ways_texts digest (operand_ways facts)
    ++ ways_texts digest (read_ways facts))))
