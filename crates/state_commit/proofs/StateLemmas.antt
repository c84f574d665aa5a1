-- What a step leaves of a state's memory.
use Rattle.std.proofs.Common.{◌≡◌, ◌≢◌, ℕ, ◌/◌, Option, Some, None, sym, ap}
use Rattle.mem_plain.specs.Contents.{byte_at}
use Rattle.rv_step.specs.State.{State}
use Rattle.rv_step.specs.Step.{step}
use Rattle.rv_step.specs.Touched.{touched}

-- a step changes memory on the page alone that it touches
pub step-outside : (s : State) (page : Option ℕ) → page ≡ touched s
    → ((s : State) → touched s ≡ None → (step s).memory ≡ s.memory)
    → ((s : State) (page q : ℕ) → touched s ≡ Some page → q / 4096 ≢ page → byte_at (step s).memory q ≡ byte_at s.memory q)
    → (q : ℕ) → page ≢ Some (q / 4096) → byte_at s.memory q ≡ byte_at (step s).memory q
step-outside s None is kept elsewhere q apart = ap (λ m. byte_at m q) (sym (kept s (sym is)))
step-outside s (Some page) is kept elsewhere q apart = sym (elsewhere s page q (sym is) (λ e. apart (ap Some (sym e))))

pub same-named : (page : Option ℕ) (x y : ℕ) → page ≡ Some x → page ≡ Some y → x ≡ y
same-named page x y first second = cc
