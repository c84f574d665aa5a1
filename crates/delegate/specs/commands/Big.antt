-- To believe. `big`: the match of the large workload of a seed, decided, and its summary. It reads nothing.
use Rattle.std.specs.Prelude.{ℕ, Result}
use Rattle.digest_core.specs.declared.name.DigestName.TheVariants.{Sha256}
use Rattle.case_reader.specs.Tasks.{One}
use Rattle.workload.specs.Workload.{big_data}
use Rattle.delegate.specs.Decided.{Deciding, summary}
use Rattle.delegate.specs.commands.Judge.{response_to_tasks}
use Rattle.delegate.specs.declared.response.Response.{Response}

-- what it is asked for
abbrev pub summing_up : ℕ → Deciding
summing_up seed = record { digest = Sha256; written = summary seed }

abbrev pub big_response : ℕ → Result Response Response
big_response seed = response_to_tasks (summing_up seed) (One (big_data seed))
