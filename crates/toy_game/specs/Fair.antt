-- Derived: the toy judge keeps the laws of a judge.
use Rattle.std.proofs.Common.{◌≡◌, ◌≢◌, ℕ, ◌%◌, Bool, true, false, not, ◌&&◌, ◌==◌, List, [], ◌∷◌, length, Some, None, if◌then◌else◌, refl, sym, ◌∙◌, ap, arith}
use Rattle.std.proofs.lemmas.Bool.Decides.{nat_tests}
use Rattle.std.proofs.lemmas.Slice.Eq.{bytes_eq-Decides}
use Rattle.std.proofs.lemmas.Bool.{and_parts}
use Rattle.rd_base.specs.declared.claim.Claim.{Claim}
use Rattle.rd_base.specs.declared.digest.Digest32.{Digest32}
use Rattle.rd_base.specs.declared.proof.Proof.{Proof}
use Rattle.rd_base.specs.declared.status.Status.{Status}
use Rattle.rd_base.specs.declared.status.Status.TheVariants.{Running, Exited, Trapped}
use Rattle.rd_base.specs.Status.{is_running}
use Rattle.bisect_game.specs.Ruling.{Ruling, IsFair, IsCollision, same_digest}
use Rattle.toy_game.specs.Toy.{root, number, next, claim_of, is_plain, opened_root, mark_of, leads_to, strings, collision, toy_ruling}

same-is : (x y : Digest32) → same_digest x y ≡ true → x ≡ y
same-is x y e = ap (λ (bytes : List ℕ). let d : Digest32 = record { 0 = bytes } in d) ((bytes_eq-Decides x.0 y.0).0 e)

same-digests : (x y : Digest32) → x ≡ y → same_digest x y ≡ true
same-digests x y e = (bytes_eq-Decides x.0 y.0).1 (ap (λ (d : Digest32). d.0) e)

running-is : (s : Status) → is_running s ≡ true → s ≡ Running
running-is Running e = refl
running-is (Exited code) e = absurd (cc)
running-is (Trapped code) e = absurd (cc)

empty-is : (xs : List ℕ) → (length xs == 0) ≡ true → xs ≡ []
empty-is [] e = refl
empty-is (x ∷ xs) e = absurd (grind (arith, nat_tests))

-- a sound claim is its root and its mark
plain-is : (c : Claim) → is_plain c ≡ true → c ≡ claim_of c.mem c.ctl.pc
plain-is c e =
    let a : (same_digest c.regs (root 0) ≡ true) × (_ ≡ true) = and_parts _ _ e in
    let b : (is_running c.ctl.status ≡ true) × (_ ≡ true) = and_parts _ _ a.1 in
    let d : ((c.ctl.out_len == 0) ≡ true) × (_ ≡ true) = and_parts _ _ b.1 in
    let f : (same_digest c.ctl.chain (root 0) ≡ true) × ((length c.output == 0) ≡ true) = and_parts _ _ d.1 in
    let none : c.ctl.out_len ≡ 0 = let t : (c.ctl.out_len == 0) ≡ true = d.0 in grind (arith, nat_tests) in
    let make : Digest32 → Status → ℕ → Digest32 → List ℕ → Claim = λ regs status out_len chain output. record { mem = c.mem; regs = regs; ctl = record { pc = c.ctl.pc; status = status; out_len = out_len; chain = chain }; output = output } in
    ap (λ (x : Digest32). make x c.ctl.status c.ctl.out_len c.ctl.chain c.output) (same-is c.regs (root 0) a.0)
    ∙ (ap (λ (x : Status). make (root 0) x c.ctl.out_len c.ctl.chain c.output) (running-is c.ctl.status b.0)
    ∙ (ap (λ (x : ℕ). make (root 0) Running x c.ctl.chain c.output) none
    ∙ (ap (λ (x : Digest32). make (root 0) Running 0 x c.output) (same-is c.ctl.chain (root 0) f.0)
    ∙ ap (λ (x : List ℕ). make (root 0) Running 0 (root 0) x) (empty-is c.output f.1))))

marks-same : (same : Bool) (m n : ℕ) → same ≡ true → (if same && not (m == n) then Some collision else None) ≡ None → m ≡ n
marks-same true m n e none = by-test (m == n) refl none
  where
    by-test : (t : Bool) → (m == n) ≡ t → (if not t then Some collision else None) ≡ None → m ≡ n
    by-test true t none = grind (arith, nat_tests)
    by-test false t none = absurd (cc)
marks-same false m n e none = absurd (cc)

no-marks : (same : Bool) (m n : ℕ) → (same ≡ true → ⊥) → (if same && not (m == n) then Some collision else None) ≡ None
no-marks true m n apart = absurd (apart refl)
no-marks false m n apart = refl

same-marks : (same : Bool) (n : ℕ) → (if same && not (n == n) then Some collision else None) ≡ None
same-marks true n = by-test (n == n) refl
  where
    by-test : (t : Bool) → (n == n) ≡ t → (if not t then Some collision else None) ≡ None
    by-test true e = refl
    by-test false e = absurd (grind (arith, nat_tests))
same-marks false n = refl

one-pair : (r : Ruling) (b : Bool) (p : List ℕ × List ℕ) → (if b then Some collision else None) ≡ Some p → p ≡ collision
one-pair r true p e = let same : Some collision ≡ Some p = e in cc
one-pair r false p e = absurd (cc)

other-pair : (b : Bool) (p : List ℕ × List ℕ) → (if b then None else Some collision) ≡ Some p → p ≡ collision
other-pair true p e = absurd (cc)
other-pair false p e = cc

collides : (n : ℕ) → IsCollision (toy_ruling n) strings strings collision
collides n = record { differ = λ (e : 1 ∷ [] ≡ 2 ∷ []). cc; one_digest = refl; first_opened = (0, omega arith, refl); second_opened = (1, omega arith, refl) }

leads-mark : (from : Digest32) (x y : Proof) (b c : Digest32) → leads_to from x ≡ Some b → leads_to from y ≡ Some c → mark_of x ≡ mark_of y → b ≡ c
leads-mark from x y b c ex ey same = by-tests (same_digest (opened_root x) from) (same_digest (opened_root y) from) ex ey
  where
    by-tests : (u v : Bool) → (if u then Some (if mark_of x == 0 then root (next (number from)) else root (mark_of x % 256)) else None) ≡ Some b →
        (if v then Some (if mark_of y == 0 then root (next (number from)) else root (mark_of y % 256)) else None) ≡ Some c → b ≡ c
    by-tests true true p q =
        let pb : (if mark_of x == 0 then root (next (number from)) else root (mark_of x % 256)) ≡ b = cc in
        let qc : (if mark_of y == 0 then root (next (number from)) else root (mark_of y % 256)) ≡ c = cc in
        sym pb ∙ (ap (λ (n : ℕ). if n == 0 then root (next (number from)) else root (n % 256)) same ∙ qc)
    by-tests false v p q = absurd (cc)
    by-tests true false p q = absurd (cc)

steps-by : (n : ℕ) (from : Digest32) (x y : Proof) (b c : Digest32) (t : Bool) → (mark_of x == mark_of y) ≡ t → leads_to from x ≡ Some b → leads_to from y ≡ Some c → b ≢ c →
    (p : List ℕ × List ℕ) × ((if t then None else Some collision) ≡ Some p)
steps-by n from x y b c true e ex ey differ = absurd (differ (leads-mark from x y b c ex ey (let t : (mark_of x == mark_of y) ≡ true = e in grind (arith, nat_tests))))
steps-by n from x y b c false e ex ey differ = (collision, refl)

pub toy_is_fair : (n : ℕ) → IsFair (toy_ruling n)
toy_is_fair n = record {
  claims_collide = λ x y sx sy same none.
      let marks : x.ctl.pc ≡ y.ctl.pc = marks-same (same_digest x.mem y.mem) x.ctl.pc y.ctl.pc (same-digests x.mem y.mem same) none in
      plain-is x sx ∙ (ap (λ (m : Digest32). claim_of m x.ctl.pc) same ∙ (ap (claim_of y.mem) marks ∙ sym (plain-is y sy)));
  claims_apart = λ x y sx sy apart. no-marks (same_digest x.mem y.mem) x.ctl.pc y.ctl.pc (λ same. apart (same-is x.mem y.mem same));
  claims_equal = λ x sx. same-marks (same_digest x.mem x.mem) x.ctl.pc;
  claim_collisions = λ x y p sx sy e. rw (one-pair (toy_ruling n) (same_digest x.mem y.mem && not (x.ctl.pc == y.ctl.pc)) p e) (collides n);
  steps_collide = λ from x y b c ex ey differ. steps-by n from x y b c (mark_of x == mark_of y) refl ex ey differ;
  step_collisions = λ from x y b c p ex ey e. rw (other-pair (mark_of x == mark_of y) p e) (collides n);
}
