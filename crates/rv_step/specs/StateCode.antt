-- Derived: states are data, as the tuple of their parts.
use Rattle.std.specs.Prelude.{ℕ, List, refl}
use Rattle.std.specs.Coded.{Coded, code_by, coded×, coded_ℕ, coded_list}
use Rattle.rd_base.specs.declared.status.Status.{Status}
use Rattle.rd_base.specs.contracts.status.Status as status
use Rattle.mem_plain.specs.Contents.{Contents, contents_code}
use Rattle.rv_step.specs.State.{State}

abbrev pub state_code : Coded State
state_code =
    code_by (List ℕ × (ℕ × (Contents × (Status × (List ℕ × (ℕ × List ℕ))))))
    (coded× (coded_list coded_ℕ) (coded× coded_ℕ (coded× contents_code (coded× status.the_row.coded (coded× (coded_list coded_ℕ) (coded× coded_ℕ (coded_list coded_ℕ)))))))
    (λ s. (s.regs, (s.pc, (s.memory, (s.status, (s.output, (s.version, s.input)))))))
    (λ p. record { regs = p.0; pc = p.1.0; memory = p.1.1.0; status = p.1.1.1.0; output = p.1.1.1.1.0; version = p.1.1.1.1.1.0; input = p.1.1.1.1.1.1 })
    (λ _. refl)
