-- To believe. The large workload of a seed: the tree that its text writes, and the case that it is.
use Rattle.std.specs.Prelude.{ℕ, ◌+◌, ◌*◌, ◌/◌, ◌%◌, ◌^◌, ◌==◌, List, None, codes, if◌then◌else◌}
use Rattle.hex.specs.Hex.{encode_lower}
use Rattle.serde_json.specs.Data.{Data, unsigned, number, string, array, object, Items, Members, no_members, member}
use Rattle.serde_json.specs.View.{items_of}
use Rattle.rd_base.specs.declared.script.Script.{Script}
use Rattle.rd_base.specs.declared.script.Manner.TheVariants.{Plain}
use Rattle.rd_base.specs.declared.tamper.Tamper.TheVariants.{Untouched, Register}
use Rattle.case_reader.specs.Case.{CaseData}
use Rattle.case_reader.specs.declared.case.Format.TheVariants.{Flat}
use Rattle.workload.specs.Draws.{draw, first_values}
use Rattle.workload.specs.Program.{program}

-- byte k of the input: the upper byte of a draw
abbrev pub input_byte : ℕ → ℕ → ℕ
input_byte seed k = draw seed (k + 1) / 2 ^ 24

unfoldable pub input_of : ℕ → List ℕ
input_of seed = first_values 4096 (input_byte seed)

-- where a prover tampers, by its place from 0 and a draw: from step 8 of its own 4096 on
abbrev pub step_of : ℕ → ℕ → ℕ
step_of place a = 4096 * place + 8 + a % 4088

-- what a prover puts into x10, by a draw: 0x8000_0000 and the draw's upper half
abbrev pub value_of : ℕ → ℕ
value_of b = 2147483648 + b / 2 ^ 16

-- after the input each prover takes two draws, and p1 is at place 0
abbrev pub tampered_step : ℕ → ℕ → ℕ
tampered_step seed place = step_of place (draw seed (4096 + 2 * place + 1))

abbrev pub tampered_value : ℕ → ℕ → ℕ
tampered_value seed place = value_of (draw seed (4096 + 2 * place + 2))

-- the tree of a prover whose x10 is tampered with
abbrev pub tampering : ℕ → ℕ → Data
tampering step value =
    object (member (codes "tamper") (object
    (member (codes "kind") (string (codes "reg"))
    (member (codes "reg") (number (unsigned 10))
    (member (codes "step") (number (unsigned step))
    (member (codes "value") (number (unsigned value)) no_members))))) no_members)

-- one prover is truthful
abbrev pub prover_tree : ℕ → ℕ → Data
prover_tree seed place = if place == seed % 8 then object no_members else tampering (tampered_step seed place) (tampered_value seed place)

-- the members of a case for an image, an input and provers, the keys in ascending order
abbrev pub case_members : List ℕ → List ℕ → Items → Members
case_members image input provers =
    member (codes "bound") (number (unsigned 65536))
    (member (codes "format") (string (codes "flat"))
    (member (codes "image") (string image)
    (member (codes "input") (string input)
    (member (codes "patience") (number (unsigned 0))
    (member (codes "provers") (array provers) no_members)))))

-- the tree
unfoldable pub big_tree : ℕ → Data
big_tree seed = object (case_members (encode_lower program) (encode_lower (input_of seed)) (items_of (first_values 8 (prover_tree seed))))

abbrev pub untampered : Script
untampered = record { tamper = Untouched; manner = Plain }

abbrev pub tampered_at : ℕ → ℕ → Script
tampered_at step value = record { tamper = Register step 10 value; manner = Plain }

-- a prover's script
abbrev pub prover_script : ℕ → ℕ → Script
prover_script seed place = if place == seed % 8 then untampered else tampered_at (tampered_step seed place) (tampered_value seed place)

-- the case
unfoldable pub big_data : ℕ → CaseData
big_data seed = record {
  image = program;
  format = Flat;
  input = input_of seed;
  bound = 65536;
  patience = 0;
  version = 1;
  fan = 2;
  stake = None;
  provers = first_values 8 (prover_script seed);
}
