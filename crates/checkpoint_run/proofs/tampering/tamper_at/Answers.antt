use Rattle.std.proofs.Common.{◌≡◌, ℕ, ◌/◌, false, inl, refl, ap, ◌∙◌, arith}
use Rattle.std.proofs.lemmas.Bool.Decides.{nat_tests}
use Rattle.mem_plain.specs.Contents.{byte_at, is_among}
use Rattle.checkpoint_run.proofs.tampering.tamper_at.Goals as goal

-- a byte in another page isn't the one at an address
outside : (a q : ℕ) → (a / 4096 ≡ q / 4096 → ⊥) → is_among a 1 q ≡ false
outside a q other =
    let apart : a ≡ q → ⊥ = λ same. other (ap (λ n. n / 4096) same) in
    grind (arith, nat_tests)

pub returns-in_ok-store-in-Flip-clause-elsewhere : goal.returns-in_ok-store-in-Flip-clause-elsewhere
returns-in_ok-store-in-Flip-clause-elsewhere c q other =
    ap (λ m. byte_at m q) c.in_ok-store-in-Flip.ensures.stored
    ∙ (c.laying_bytes.ensures.stored c.args.machine.now.mem c.in-Flip.addr 1 c.from-in-Flip.result q
    ∙ rw (outside c.in-Flip.addr q (λ same. other (inl same))) refl)
