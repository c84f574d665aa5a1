use Rattle.std.proofs.Common.{◌≡◌, replicate, subst, sym, rules}
use Rattle.mem_plain.proofs.MemoryLemmas.{Fit, zeros_fit}
use Rattle.mem_plain.proofs.page.Page.zeros.Goals as goal

pub invariant_of-result-clause-fit : goal.invariant_of-result-clause-fit
invariant_of-result-clause-fit c = let zeros : c.in_ok-bytes.bytes.items ≡ replicate 4096 0 = search rules in subst Fit (sym zeros) (zeros_fit 4096)
