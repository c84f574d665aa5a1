-- To believe. The keys of a case.
use Rattle.std.specs.Prelude.{ℕ, List, codes}
use Rattle.case_reader.specs.declared.fault.Key.{Key}
use Rattle.case_reader.specs.declared.fault.Key.TheVariants.{Tasks, Format, Image, Input, Bound, Patience, Version, Fan, Stake, Provers}

-- a key as a case writes it
abbrev pub key_text : Key → List ℕ
key_text Tasks = codes "tasks"
key_text Format = codes "format"
key_text Image = codes "image"
key_text Input = codes "input"
key_text Bound = codes "bound"
key_text Patience = codes "patience"
key_text Version = codes "version"
key_text Fan = codes "fan"
key_text Stake = codes "stake"
key_text Provers = codes "provers"
