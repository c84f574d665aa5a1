use Rattle.std.proofs.Common.{◌≡◌, ℕ, List, cond, eqb, Option, Some, IfSome, sym, ap, subst, ◌∙◌, ⊎_elim, arith}
use Rattle.std.specs.Ordering.{nat_cmp}
use Rattle.std.specs.Map.{lookup}
use Rattle.std.specs.BTreeMap.{is_at}
use Rattle.std.proofs.lemmas.Bool.{cases_eq, eq-eqb, ne_eqb}
use Rattle.std.proofs.lemmas.Bool.Decides.{nat_tests}
use Rattle.rd_base.specs.declared.digest.Digest32.{Digest32}
use Rattle.prover_run.specs.Prover.{AreKept}
use Rattle.prover_run.proofs.answering.keep_root.Goals as goal

is_at-eqb : (key x : ℕ) → is_at (nat_cmp key) x ≡ eqb x key
is_at-eqb key x = grind (arith, nat_tests)

put : (root : ℕ → List ℕ) (key : ℕ) (value : Digest32) (old new : List (ℕ × Digest32)) → ((i : ℕ) → lookup (is_at (nat_cmp i)) new ≡ cond (is_at (nat_cmp key) i) (Some value) (lookup (is_at (nat_cmp i)) old))
    → value.0 ≡ root key → AreKept root old → AreKept root new
put root key value old new updates is were i =
    let P : Option Digest32 → Type 0 = λ o. IfSome o (λ r. r.0 ≡ root i) in
    subst P (sym (updates i ∙ ap (λ b. cond b (Some value) (lookup (is_at (nat_cmp i)) old)) (is_at-eqb key i)))
    (⊎_elim
    (λ same. subst P (sym (ap (λ b. cond b (Some value) (lookup (is_at (nat_cmp i)) old)) (eq-eqb i key same))) (is ∙ ap root (sym same)))
    (λ other. subst P (sym (ap (λ b. cond b (Some value) (lookup (is_at (nat_cmp i)) old)) (ne_eqb i key other))) (were i))
    (cases_eq i key))

pub returns : goal.returns
returns c root same were =
    put root c.args.step c.args.digest c.args.roots.now.entries c.insert.new.self.entries c.in_ok-insert.ensures.updates.0 same were
