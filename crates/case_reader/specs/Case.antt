-- To believe. Reading a case: from the bytes to a JSON tree, and from the tree to a case or its first fault. Keys are
-- tested in the order tasks, which a case hasn't, format, image, input, bound, patience, version, fan, stake, provers, and last the provers, one after another.
use Rattle.std.specs.Prelude.{ℕ, List, Option, None, Result, Ok, if◌then◌else◌}
use Rattle.std.specs.Option.{ok_or}
use Rattle.std.specs.Str.{is_utf8}
use Rattle.serde_json.specs.Data.{Data}
use Rattle.serde_json.specs.Read.{read}
use Rattle.serde_json.specs.Find.{as_object}
use Rattle.rd_base.specs.Results.{◌>>=◌}
use Rattle.rd_base.specs.declared.script.Script.{Script}
use Rattle.case_reader.specs.Fields.{single_in, format_in, image_in, input_in, number_field, version_in, fan_in, stake_in, provers_in}
use Rattle.case_reader.specs.Provers.{scripts_in}
use Rattle.case_reader.specs.declared.case.Case.{Case}
use Rattle.case_reader.specs.declared.case.Format.{Format}
use Rattle.case_reader.specs.declared.fault.Key.TheVariants.{Bound, Patience}
use Rattle.case_reader.specs.declared.fault.CaseFault.{CaseFault}
use Rattle.case_reader.specs.declared.fault.CaseFault.TheVariants.{NotJson, NotObject}

-- what a case holds
pub record CaseData : Type 0 where
  pub image : List ℕ
  pub format : Format
  pub input : List ℕ
  pub bound : ℕ
  pub patience : ℕ
  pub version : ℕ
  pub fan : ℕ
  pub stake : Option ℕ
  pub provers : List Script

abbrev pub data_of : Case → CaseData
data_of c = record {
  image = c.image;
  format = c.format;
  input = c.input;
  bound = c.bound;
  patience = c.patience;
  version = c.version;
  fan = c.fan;
  stake = c.stake;
  provers = c.provers;
}

-- the case of a JSON tree, or the first fault
unfoldable pub case_of : Data → Result CaseData CaseFault
case_of tree = do
  members ← ok_or (as_object tree) NotObject
  single ← single_in tree
  format ← format_in tree
  image ← image_in format tree
  input ← input_in tree
  bound ← number_field Bound 1 4294967295 tree
  patience ← number_field Patience 0 100 tree
  version ← version_in tree
  fan ← fan_in tree
  stake ← stake_in tree
  provers ← provers_in tree
  scripts ← scripts_in 1 provers
  Ok (record { image = image; format = format; input = input; bound = bound; patience = patience; version = version; fan = fan; stake = stake; provers = scripts })

-- the JSON tree of bytes that are UTF-8 (RFC 8259, as `serde_json` reads it)
abbrev pub tree_of : List ℕ → Option Data
tree_of bytes = if is_utf8 bytes then read bytes else None

-- the case of bytes, or the first fault
unfoldable pub case_at : List ℕ → Result CaseData CaseFault
case_at bytes = do
  tree ← ok_or (tree_of bytes) NotJson
  case_of tree
