-- A match that is stalled for nothing, played.
use Rattle.std.proofs.Common.{◌≡◌, ℕ, zero, suc, ◌+◌, Bool, true, false, ◌&&◌, ◌==◌, List, [], ◌∷◌, ◌++◌, inr, Option, Some, None, refl, sym, ◌∙◌, ap, arith}
use Rattle.std.proofs.lemmas.Bool.{and_parts, or_left, or_right}
use Rattle.std.proofs.lemmas.Bool.Decides.{nat_tests}
use Rattle.std.proofs.lemmas.Slice.Eq.{bytes_eq-Decides}
use Rattle.rd_base.specs.declared.digest.Digest32.{Digest32}
use Rattle.rd_base.specs.declared.claim.Claim.{Claim}
use Rattle.rd_base.specs.declared.answer.Answer.{Answer}
use Rattle.rd_base.specs.declared.answer.Answer.TheVariants as answer
use Rattle.rd_base.specs.declared.proof.Proof.{Proof}
use Rattle.rd_base.specs.declared.proof.Proof.TheVariants.{V1}
use Rattle.rd_base.specs.declared.status.Status.{Status}
use Rattle.rd_base.specs.declared.status.Status.TheVariants.{Running, Exited, Trapped}
use Rattle.rd_base.specs.Status.{is_running}
use Rattle.bisect_game.specs.Bisection.{Bisection, settle_first, settle_second, decided, cut}
use Rattle.bisect_game.specs.Closing.{close_of}
use Rattle.bisect_game.specs.Ruling.{Ruling, IsFair, same_digest}
use Rattle.bisect_game.specs.Rules.{Rules}
use Rattle.bisect_game.specs.Truth.{Truth}
use Rattle.tournament.specs.Bracket.{settle, stage_opened}
use Rattle.tournament.specs.FewPosts.{disputes_among}
use Rattle.tournament.specs.OpenDisputes.{one_if, is_side}
use Rattle.tournament.specs.Theorem.{AllTrueIn}
use Rattle.tournament.specs.Posting.{Post, record_after}
use Rattle.deposits.specs.Stalled.{StallsAreFree}

abbrev digest-of : ℕ → Digest32
digest-of n = record { 0 = n ∷ [] }

abbrev claim-of : ℕ → Claim
claim-of n = record { mem = digest-of n; regs = digest-of 0; ctl = record { pc = 0; status = Running; out_len = 0; chain = digest-of 0 }; output = [] }

-- the judge takes claims of that form, whose root is the digest of memory, and each proof leads to one root

abbrev is-empty : List ℕ → Bool
is-empty [] = true
is-empty (x ∷ xs) = false

abbrev is-plain : Claim → Bool
is-plain c = same_digest c.regs (digest-of 0) && ((c.ctl.pc == 0) && (is_running c.ctl.status && ((c.ctl.out_len == 0) && (same_digest c.ctl.chain (digest-of 0) && is-empty c.output))))

abbrev ruling : Ruling
ruling = record {
  is_sound = is-plain;
  root_of = λ c. c.mem;
  leads = λ from proof. Some (digest-of 2);
  claim_collision = λ x y. None;
  step_collision = λ from x y. None;
  opened_by_claim = λ c. [];
  opened_by_step = λ p. [];
  digest = λ xs. xs;
}

-- it is fair

record IsPlain (c : Claim) : Type 0 where
  regs : c.regs ≡ digest-of 0
  pc : c.ctl.pc ≡ 0
  status : c.ctl.status ≡ Running
  out_len : c.ctl.out_len ≡ 0
  chain : c.ctl.chain ≡ digest-of 0
  output : c.output ≡ []

digest-is : (x y : Digest32) → same_digest x y ≡ true → x ≡ y
digest-is x y e = ap (λ (bytes : List ℕ). let d : Digest32 = record { 0 = bytes } in d) ((bytes_eq-Decides x.0 y.0).0 e)

zero-is : (n : ℕ) → (n == 0) ≡ true → n ≡ 0
zero-is n e = grind (arith, nat_tests)

runs-is : (s : Status) → is_running s ≡ true → s ≡ Running
runs-is Running e = refl
runs-is (Exited code) e = absurd (cc)
runs-is (Trapped code) e = absurd (cc)

empty-is : (xs : List ℕ) → is-empty xs ≡ true → xs ≡ []
empty-is [] e = refl
empty-is (x ∷ xs) e = absurd (cc)

plain-is : (c : Claim) → is-plain c ≡ true → IsPlain c
plain-is c e =
    let a = and_parts _ _ e in
    let b = and_parts _ _ a.1 in
    let d = and_parts _ _ b.1 in
    let f = and_parts _ _ d.1 in
    let g = and_parts _ _ f.1 in
    record {
      regs = digest-is c.regs (digest-of 0) a.0;
      pc = zero-is c.ctl.pc b.0;
      status = runs-is c.ctl.status d.0;
      out_len = zero-is c.ctl.out_len f.0;
      chain = digest-is c.ctl.chain (digest-of 0) g.0;
      output = empty-is c.output g.1;
    }

one-claim : (x y : Claim) → IsPlain x → IsPlain y → x.mem ≡ y.mem → x ≡ y
one-claim x y p q m =
    let a : x.regs ≡ y.regs = p.regs ∙ sym q.regs in
    let b : x.ctl.pc ≡ y.ctl.pc = p.pc ∙ sym q.pc in
    let c : x.ctl.status ≡ y.ctl.status = p.status ∙ sym q.status in
    let d : x.ctl.out_len ≡ y.ctl.out_len = p.out_len ∙ sym q.out_len in
    let e : x.ctl.chain ≡ y.ctl.chain = p.chain ∙ sym q.chain in
    let f : x.output ≡ y.output = p.output ∙ sym q.output in
    λ i. record { mem = m i; regs = a i; ctl = record { pc = b i; status = c i; out_len = d i; chain = e i }; output = f i }

fair : IsFair ruling
fair = record {
  claims_collide = λ x y sx sy roots none. one-claim x y (plain-is x sx) (plain-is y sy) roots;
  claims_apart = λ x y sx sy roots. refl;
  claims_equal = λ x sx. refl;
  claim_collisions = λ x y pair sx sy some. absurd (cc);
  steps_collide = λ from x y b c lx ly ne. absurd (ne (let one : digest-of 2 ≡ b = cc in let two : digest-of 2 ≡ c = cc in sym one ∙ two));
  step_collisions = λ from x y b c pair lx ly some. absurd (cc);
}

-- the run: one root after another, and any proof
abbrev proof : Proof
proof = V1 (record { mem = digest-of 0; regs = []; ctl = record { pc = 0; status = Running; out_len = 0; chain = digest-of 0 }; fetch = None; operand = None })

abbrev root : ℕ → Digest32
root zero = digest-of 0
root (suc i) = digest-of 2

abbrev truth : Truth
truth = record { root = root; proof = λ i. proof; claim = claim-of 2 }

one-more : (i : ℕ) → digest-of 2 ≡ root (i + 1)
one-more i = let e : i + 1 ≡ suc i = omega arith in rw e refl

abbrev rules : Rules
rules = record { ruling = ruling; setup = record { provers = 16; bound = 2; fan = 2; patience = 0; start = digest-of 0 } }

abbrev says : (p : ℕ) → (dispute round : ℕ) → Option Answer → Post
says p dispute round a = record { prover = suc p; numbered = omega arith; qid = record { dispute = dispute; round = round }; answer = a }

-- so many true claims, the first of them by the prover after this one
abbrev claims : ℕ → ℕ → List Post
claims p zero = []
claims p (suc n) = says p 0 0 (Some (answer.Claim (claim-of 2))) ∷ claims (suc p) n

-- disputes in which prover 1 answers and the other side passes, as many as there are numbers, and behind them other posts
abbrev fights : ℕ → ℕ → List Post → List Post
fights p zero rest = rest
fights p (suc n) rest = says 0 p 1 (Some (answer.Root (digest-of 1))) ∷ says p p 1 None ∷ fights (suc p) n rest

-- the last dispute is lost by prover 1
abbrev last-fight : List Post
last-fight = says 0 14 1 None ∷ says 14 14 1 (Some (answer.Root (digest-of 2))) ∷ []

abbrev posts : List Post
posts = (says 0 0 0 (Some (answer.Claim (claim-of 1))) ∷ claims 1 15) ++ fights 1 13 last-fight

-- who is a side of no dispute has only true answers in them
idle-true : (rs : Rules) (t : Truth) (p : ℕ) (ds : List Bisection) → disputes_among p ds ≡ 0 → AllTrueIn rs t p ds
idle-true rs t p [] e = tt
idle-true rs t p (d ∷ ds) e = (
  record {
    first = λ same. absurd (let side : is_side p d ≡ true = or_left (d.first == p) (d.second == p) (equal d.first same) in let one : one_if (is_side p d) ≡ 1 = ap one_if side in omega (arith, e, one));
    second = λ same. absurd (let side : is_side p d ≡ true = or_right (d.first == p) (d.second == p) (equal d.second same) in let one : one_if (is_side p d) ≡ 1 = ap one_if side in omega (arith, e, one));
  },
  idle-true rs t p ds (omega (arith, e)),
)
  where
    equal : (n : ℕ) → n ≡ p → (n == p) ≡ true
    equal n same = grind (arith, nat_tests)

pub stalls-are-free : StallsAreFree
unfolding settle stage_opened settle_first settle_second decided close_of cut
stalls-are-free stake = (
  rules,
  (
    truth,
    (
      posts,
      record {
        playable = record { some = omega arith; parted = omega arith; few_parts = omega arith; steps = omega arith };
        fair = fair;
        run = record { begins = refl; leads = λ i lt. ap Some (one-more i); sound = refl; ends = refl };
        numbered = omega arith;
        known = omega arith;
        truthful = record {
          claim = inr refl;
          disputes = idle-true rules truth 16 (record_after rules posts).disputes refl;
        };
        over = refl;
        clean = refl;
        idle = refl;
        stages = refl;
        unpooled = omega arith;
        free = omega arith;
        burns = omega arith;
      },
    ),
  ),
)
