use Rattle.std.proofs.Common.{◌^◌}
use Rattle.mem_plain.proofs.ContentsLemmas.{byte_at-tabulated, byte_at-tabulated_beyond, tabulated_alike}
use Rattle.mem_plain.proofs.MemoryLemmas.{laid_over, nothing_made}
use Rattle.mem_plain.proofs.laws.contents_of_a_function.Goals as goal

pub returns-clause-inside : goal.returns-clause-inside
returns-clause-inside c = λ f q below. byte_at-tabulated f (2 ^ 32) q below

pub returns-clause-beyond : goal.returns-clause-beyond
returns-clause-beyond c = λ f q beyond. byte_at-tabulated_beyond f (2 ^ 32) q beyond

pub returns-clause-alike : goal.returns-clause-alike
returns-clause-alike c = λ f g alike. tabulated_alike f g (2 ^ 32) alike

pub returns-clause-nothing : goal.returns-clause-nothing
returns-clause-nothing c = nothing_made

pub returns-clause-laid : goal.returns-clause-laid
returns-clause-laid c = λ f a bytes fits. laid_over f (2 ^ 32) a bytes fits
