use Rattle.std.proofs.Common.{sym, ap, subst, ◌∙◌}
use Rattle.rv_step.specs.Parts.{finished, needed_in}
use Rattle.rv_step.specs.Stores.{StoresAligned}
use Rattle.rv_step.proofs.PartsLemmas.{seen_finishes, read_effect, seen_aligned}
use Rattle.rv_step.proofs.stepping.effect_by.Goals as goal

pub returns-in-Trap-clause-value : goal.returns-in-Trap-clause-value
returns-in-Trap-clause-value g c =
    let s = g.A.StateAccess.seen c.args.state.now in
    let i = c.args.instr.now in
    sym (seen_finishes s i _ (c.in-Trap.ensures.value ∙ (ap (λ v. needed_in v c.registers.result.now i) c.input_scheme.ensures ∙ ap (λ xs. needed_in s.input_scheme xs i) c.registers.ensures)))

pub returns-in_default : goal.returns-in_default
returns-in_default g c =
    let s = g.A.StateAccess.seen c.args.state.now in
    let i = c.args.instr.now in
    let n = c.need_by-asked.result in
    let loaded = c.number_for-loaded.result in
    let met = seen_finishes s i n (c.need_by-asked.ensures.value ∙ (ap (λ v. needed_in v c.registers.result.now i) c.input_scheme.ensures ∙ ap (λ xs. needed_in s.input_scheme xs i) c.registers.ensures)) in
    let is = c.effect_of.ensures.value
    ∙ (ap (λ xs. finished xs c.pc.result loaded i) c.registers-in_default.ensures
    ∙ (ap (λ pc. finished s.regs pc loaded i) c.pc.ensures
    ∙ (ap (λ l. finished s.regs s.pc l i) c.number_for-loaded.ensures ∙ read_effect s i n c.in_default.not-Trap met))) in
    record { value = is; register = c.effect_of.ensures.register; aligned = subst StoresAligned (sym is) (seen_aligned s i) }
