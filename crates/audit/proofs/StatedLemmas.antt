-- A verdict is stated by one line.
use Rattle.std.proofs.Common.{◌≡◌, ℕ, true, ◌==◌, List, Option, Some, None, refl, ◌∙◌, ap, arith}
use Rattle.std.proofs.lemmas.Bool.Decides.{nat_tests}
use Rattle.std.proofs.lemmas.Slice.Eq.{bytes_eq-Decides}
use Rattle.std.specs.Prelude.{bytes_eq}
use Rattle.std.proofs.lemmas.Bool.{and_parts}
use Rattle.rd_base.specs.declared.status.Status.{Status}
use Rattle.rd_base.specs.declared.status.Status.TheVariants.{Running, Exited, Trapped}
use Rattle.transcript_text.specs.declared.text.Stated.{Stated}
use Rattle.transcript_text.specs.declared.text.Stated.TheVariants.{Accept, NoneLeft, Collision}
use Rattle.audit.specs.LineByLine.{same_status, same_stated, is_this}

pub is-eqb : (a b : ℕ) → (a == b) ≡ true → a ≡ b
is-eqb a b e = grind (arith, nat_tests)

pub eqb-same : (n : ℕ) → (n == n) ≡ true
eqb-same n = grind (arith, nat_tests)

pub bytes-same : (xs : List ℕ) → bytes_eq xs xs ≡ true
bytes-same xs = (bytes_eq-Decides xs xs).1 refl

status-is : (x y : Status) → same_status x y ≡ true → x ≡ y
status-is Running Running e = refl
status-is Running (Exited b) e = absurd (cc)
status-is Running (Trapped b) e = absurd (cc)
status-is (Exited a) Running e = absurd (cc)
status-is (Exited a) (Exited b) e = ap Exited (is-eqb a b e)
status-is (Exited a) (Trapped b) e = absurd (cc)
status-is (Trapped a) Running e = absurd (cc)
status-is (Trapped a) (Exited b) e = absurd (cc)
status-is (Trapped a) (Trapped b) e = ap Trapped (is-eqb a b e)

status-same : (x : Status) → same_status x x ≡ true
status-same Running = refl
status-same (Exited a) = eqb-same a
status-same (Trapped a) = eqb-same a

stated-is : (s said : Stated) → same_stated s said ≡ true → s ≡ said
stated-is (Accept status output) (Accept other bytes) e =
    let parts : (same_status status other ≡ true) × (bytes_eq output bytes ≡ true) = and_parts _ _ e in
    ap (λ (x : Status). Accept x output) (status-is status other parts.0) ∙ ap (Accept other) ((bytes_eq-Decides output bytes).0 parts.1)
stated-is (Accept status output) NoneLeft e = absurd (cc)
stated-is (Accept status output) (Collision a b) e = absurd (cc)
stated-is NoneLeft (Accept other bytes) e = absurd (cc)
stated-is NoneLeft NoneLeft e = refl
stated-is NoneLeft (Collision a b) e = absurd (cc)
stated-is (Collision x y) (Accept other bytes) e = absurd (cc)
stated-is (Collision x y) NoneLeft e = absurd (cc)
stated-is (Collision x y) (Collision a b) e =
    let parts : (bytes_eq x a ≡ true) × (bytes_eq y b ≡ true) = and_parts _ _ e in
    ap (λ (s : List ℕ). Collision s y) ((bytes_eq-Decides x a).0 parts.0) ∙ ap (Collision a) ((bytes_eq-Decides y b).0 parts.1)

stated-same : (s : Stated) → same_stated s s ≡ true
stated-same (Accept status output) = rw (status-same status, bytes-same output) refl
stated-same NoneLeft = refl
stated-same (Collision x y) = rw (bytes-same x, bytes-same y) refl

pub this-is : (o : Option Stated) (said : Stated) → is_this o said ≡ true → o ≡ Some said
this-is (Some s) said e = ap Some (stated-is s said e)
this-is None said e = absurd (cc)

pub is-this : (o : Option Stated) (said : Stated) → o ≡ Some said → is_this o said ≡ true
is-this o said e = ap (λ (x : Option Stated). is_this x said) e ∙ stated-same said
