use Rattle.std.proofs.Common.{◌≡◌, ◌+◌, true≢false, sym, subst, ◌∙◌, ⊎_elim, arith}
use Rattle.std.proofs.lemmas.Bool.{cases_lt}
use Rattle.mem_plain.specs.Contents.{IsUsed}
use Rattle.mem_plain.proofs.UsedLemmas.{none_beyond, unused_further}
use Rattle.mem_plain.proofs.memory.PlainMem.next_page_below.Goals as goal

pub pages-preserved-then-next-number : goal.pages-preserved-then-next-number
pages-preserved-then-next-number c = record {
  further = omega (arith, c.pages.invariant.further, c.past_empty_table-next.ensures.further);
  unused = unused_further c.args.self.now c.args.from c.pages.number c.past_empty_table-next.result c.pages.invariant.unused c.past_empty_table-next.ensures.unused;
}

pub pages-preserved : goal.pages-preserved
pages-preserved c =
    let m = c.args.self.now in
    let n = c.pages.number in
    record {
      further = omega (arith, c.pages.invariant.further);
      unused = unused_further m c.args.from n (n + 1) c.pages.invariant.unused (λ q after before.
          let here : n ≡ q = omega arith in
          subst (λ k. ¬ IsUsed m k) here (λ used. true≢false (sym (c.is_used.ensures.1 used) ∙ c.if-is_used.false)));
    }

pub returns-clause-next : goal.returns-clause-next
returns-clause-next c q after below = ⊎_elim
    (λ before. c.pages.invariant.unused q after before)
    (λ beyond. none_beyond c.args.self.now c.is_memory.ensures q (omega (arith, c.pages-test.false, beyond, below)))
    (cases_lt q c.pages.number)
