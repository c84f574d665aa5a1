use Rattle.std.proofs.Common.{unwrap_or, ap}
use Rattle.std.specs.Ordering.{nat_cmp}
use Rattle.std.specs.FinMap.{get-empty}
use Rattle.mem_plain.proofs.ContentsLemmas.{byte_at-laid, byte_at-with_number}
use Rattle.mem_plain.proofs.laws.laying_bytes.Goals as goal

pub returns-clause-laid : goal.returns-clause-laid
returns-clause-laid c = byte_at-laid

pub returns-clause-stored : goal.returns-clause-stored
returns-clause-stored c = byte_at-with_number

pub returns-clause-nothing : goal.returns-clause-nothing
returns-clause-nothing c = λ q. ap (λ o. unwrap_or o 0) (get-empty nat_cmp q)
