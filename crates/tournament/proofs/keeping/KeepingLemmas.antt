-- A sheet as it is kept.
use Rattle.std.proofs.Common.{◌≡◌, ℕ, zero, suc, ◌+◌, ◌-◌, ◌<◌, ◌≤◌, max, Bool, true, false, if◌then◌else◌, List, [], ◌∷◌, ◌++◌, length, slice_index_or, slice_get, slice_set, Option, Some, None, is_some, refl, sym, ◌∙◌, ap, arith, length-append, append_assoc}
use Rattle.std.specs.List.{remove}
use Rattle.std.proofs.lemmas.Bool.{and_parts}
use Rattle.rd_base.specs.declared.digest.Digest32.{Digest32}
use Rattle.bisect_game.specs.Setup.{Setup}
use Rattle.rd_base.specs.declared.claim.Claim.{Claim}
use Rattle.bisect_game.specs.declared.settled.Claimed.{Claimed}
use Rattle.bisect_game.specs.declared.settled.Settled.{Settled}
use Rattle.bisect_game.specs.declared.settled.Side.{Side}
use Rattle.bisect_game.specs.declared.settled.Side.TheVariants.{First, Second}
use Rattle.bisect_game.specs.Bisection.{Bisection, asks, settle_side, settle_first, settle_second}
use Rattle.bisect_game.specs.Rules.{Rules}
use Rattle.bisect_game.specs.Ruling.{Ruling, same_digest}
use Rattle.tournament.proofs.OpenedLemmas.{opened-due}
use Rattle.tournament.proofs.SidesLemmas.{SameSides, sides-first, sides-second}
use Rattle.tournament.specs.Bracket.{Record, last_stage, Taken, passed_over, take_other, pairs_of, side_of, disputes_of, asks_first, asks_second, settled_in, live, live_from, is_stage_due, stage_opened, put, claim_missing}
use Rattle.tournament.specs.Keeping.{asks_of, asked_from, sides, Taking, going_by, take_side, side_pairs, other_from, disputes_over, and_also, AllRooms, IsSheet}
use Rattle.bisect_game.specs.Disputes.{RoomOf, room_of, dispute_from, dispute_of}
use Rattle.bisect_game.specs.Rules.{rules_of}

-- stages and rooms

pub stages-append : (ds es : List Bisection) → last_stage (ds ++ es) ≡ max (last_stage ds) (last_stage es)
stages-append [] es = omega arith
stages-append (d ∷ ds) es = rw (stages-append ds es) (omega arith)

pub set-length : (ds : List Bisection) (j : ℕ) (y : Bisection) → length (slice_set ds j y) ≡ length ds
set-length [] j y = refl
set-length (d ∷ ds) zero y = refl
set-length (d ∷ ds) (suc j) y = ap suc (set-length ds j y)

pub stage-kept : (ruling : Ruling) (by : Side) (s : Settled) (d : Bisection) → (settle_side ruling by s d).stage ≡ d.stage
stage-kept ruling First s d = let k : SameSides d (settle_first ruling s d) = sides-first ruling s d in k.stage
stage-kept ruling Second s d = let k : SameSides d (settle_second ruling s d) = sides-second ruling s d in k.stage

rooms-last : (t : Setup) (rs : List RoomOf) (r : RoomOf) → AllRooms t (rs ++ r ∷ []) → AllRooms t rs × (r ≡ room_of t)
rooms-last t [] r a = (tt, a.0)
rooms-last t (q ∷ rs) r a = let rest : AllRooms t rs × (r ≡ room_of t) = rooms-last t rs r a.1 in ((a.0, rest.0), rest.1)

pub sheet-room : (t : Setup) (r : Record) (free : ℕ) (rooms rest : List RoomOf) (room : RoomOf) → IsSheet t r rooms free → rooms ≡ rest ++ room ∷ [] → room ≡ room_of t
sheet-room t r free rooms rest room i e = let a : AllRooms t rest × (room ≡ room_of t) = rooms-last t rest room (rw e at i.rooms_) in a.1

pub sheet-opened : (t : Setup) (r w : Record) (free less stage number : ℕ) (rooms rest : List RoomOf) (room : RoomOf) (x y : Claimed) (d : Bisection) → IsSheet t r rooms free →
    rooms ≡ rest ++ room ∷ [] → w ≡ and_also r (d ∷ []) → d.stage ≡ stage → stage ≤ length r.disputes + 1 → less + 1 ≡ free → IsSheet t w rest less
sheet-opened t r w free less stage number rooms rest room x y d i er ew es few el =
    let a : AllRooms t rest × (room ≡ room_of t) = rooms-last t rest room (rw er at i.rooms_) in
    let n : length w.disputes ≡ length r.disputes + 1 = ap (λ (z : Record). length z.disputes) ew ∙ length-append r.disputes (d ∷ []) in
    let g : last_stage w.disputes ≡ max (last_stage r.disputes) (max d.stage 0) = ap (λ (z : Record). last_stage z.disputes) ew ∙ stages-append r.disputes (d ∷ []) in
    record {
      claims_ = ap (λ (z : Record). length z.claims) ew ∙ i.claims_;
      stages = omega (arith, g, n, es, few, i.stages);
      rooms_ = a.0;
      room = omega (arith, i.room, n, el);
    }

-- one dispute more

pub one-opened : (t : Setup) (r w : Record) (stage number : ℕ) (room : RoomOf) (start : Digest32) (x y : Claimed) (d : Bisection) → w ≡ and_also r (d ∷ []) → number ≡ length r.disputes + 1 → room ≡ room_of t →
    start ≡ t.start → d ≡ dispute_from room stage number start x y →
    w ≡ and_also r (dispute_of t stage (length r.disputes + 1) x y ∷ [])
one-opened t r w stage number room start x y d ew en er es ed =
    let same : d ≡ dispute_of t stage (length r.disputes + 1) x y = ed ∙ rw (er, en, es) refl in
    rw (ew, same) refl

-- where a prover is asked, it is settled

at-index : (k i : ℕ) (a b : Side) (p : ◌≡◌ {A = Option (ℕ × Side)} (Some (k, a)) (Some (i, b))) → (k ≡ i) × (a ≡ b)
at-index k i a b e = let p : ◌≡◌ {A = ℕ × Side} (k, a) (i, b) = cc in (ap (λ (x : ℕ × Side). x.0) p, ap (λ (x : ℕ × Side). x.1) p)

from-choice : (k p i : ℕ) (side : Side) (ds : List Bisection) (a b : Bool) → (if a then Some (k, First) else if b then Some (k, Second) else asked_from (k + 1) p ds) ≡ Some (i, side) →
    (asked_from (k + 1) p ds ≡ Some (i, side) → k + 1 ≤ i) → k ≤ i
from-choice k p i side ds true b e r = let same : (k ≡ i) × _ = at-index k i First side e in omega (arith, same.0)
from-choice k p i side ds false true e r = let same : (k ≡ i) × _ = at-index k i Second side e in omega (arith, same.0)
from-choice k p i side ds false false e r = omega (arith, r e)

from-more : (k p i : ℕ) (side : Side) (hs : List Bisection) → asked_from k p hs ≡ Some (i, side) → k ≤ i
from-more k p i side [] e = absurd (cc)
from-more k p i side (h ∷ hs) e = from-choice k p i side hs (asks_first p h) (asks_second p h) e (from-more (k + 1) p i side hs)

within-choice : (k p i n : ℕ) (side : Side) (ds : List Bisection) (a b : Bool) → (if a then Some (k, First) else if b then Some (k, Second) else asked_from (k + 1) p ds) ≡ Some (i, side) →
    (asked_from (k + 1) p ds ≡ Some (i, side) → i < k + 1 + n) → i < k + suc n
within-choice k p i n side ds true b e r = let same : (k ≡ i) × _ = at-index k i First side e in omega (arith, same.0)
within-choice k p i n side ds false true e r = let same : (k ≡ i) × _ = at-index k i Second side e in omega (arith, same.0)
within-choice k p i n side ds false false e r = omega (arith, r e)

within-from : (k p i : ℕ) (side : Side) (hs : List Bisection) → asked_from k p hs ≡ Some (i, side) → i < k + length hs
within-from k p i side [] e = absurd (cc)
within-from k p i side (h ∷ hs) e = within-choice k p i (length hs) side hs (asks_first p h) (asks_second p h) e (within-from (k + 1) p i side hs)

pub asked-within : (p i : ℕ) (side : Side) (ds : List Bisection) (hs : List Bisection) → ds ≡ hs → asked_from 0 p ds ≡ Some (i, side) → i < length hs
asked-within p i side ds hs same e = let w : i < 0 + length hs = within-from 0 p i side hs (rw same at e) in omega (arith, w)

record AskedAt (rules : Rules) (p j : ℕ) (s : Settled) (side : Side) (hs : List Bisection) (x : Bisection) : Type 0 where
  pub within : j < length hs
  pub asks_ : asks_of side p (slice_index_or hs j x) ≡ true
  pub settles : (y : Bisection) → y ≡ settle_side rules.ruling side s (slice_index_or hs j x) → settled_in rules p s hs ≡ slice_set hs j y

at-choice : (rules : Rules) (k p i j : ℕ) (s : Settled) (side : Side) (h : Bisection) (hs : List Bisection) (x : Bisection) (a b : Bool) → asks_first p h ≡ a → asks_second p h ≡ b → i ≡ k + j →
    (if a then Some (k, First) else if b then Some (k, Second) else asked_from (k + 1) p hs) ≡ Some (i, side) → ((m : ℕ) → asked_from (k + 1) p hs ≡ Some (i, side) → i ≡ k + 1 + m → AskedAt rules p m s side hs x) →
    AskedAt rules p j s side (h ∷ hs) x
at-choice rules k p i zero s First h hs x true b ea eb ij e r = record { within = omega arith; asks_ = ea; settles = λ y is. rw (ea, is) refl }
at-choice rules k p i zero s Second h hs x true b ea eb ij e r = let same : (k ≡ i) × (First ≡ Second) = at-index k i First Second e in absurd (let no_ : First ≡ Second = same.1 in cc)
at-choice rules k p i (suc j) s side h hs x true b ea eb ij e r = let same : (k ≡ i) × _ = at-index k i First side e in absurd (omega (arith, same.0, ij))
at-choice rules k p i zero s First h hs x false true ea eb ij e r = let same : (k ≡ i) × (Second ≡ First) = at-index k i Second First e in absurd (let no_ : Second ≡ First = same.1 in cc)
at-choice rules k p i zero s Second h hs x false true ea eb ij e r = record { within = omega arith; asks_ = eb; settles = λ y is. rw (ea, eb, is) refl }
at-choice rules k p i (suc j) s side h hs x false true ea eb ij e r = let same : (k ≡ i) × _ = at-index k i Second side e in absurd (omega (arith, same.0, ij))
at-choice rules k p i zero s side h hs x false false ea eb ij e r = absurd (omega (arith, from-more (k + 1) p i side hs e, ij))
at-choice rules k p i (suc j) s side h hs x false false ea eb ij e r =
    let rest : AskedAt rules p j s side hs x = r j e (omega arith) in
    record {
      within = omega (arith, rest.within);
      asks_ = rest.asks_;
      settles = λ y is. rw (ea, eb) (ap (λ (ds : List Bisection). h ∷ ds) (rest.settles y is));
    }

asked-at : (rules : Rules) (k p i j : ℕ) (s : Settled) (side : Side) (hs : List Bisection) (x : Bisection) → asked_from k p hs ≡ Some (i, side) → i ≡ k + j → AskedAt rules p j s side hs x
asked-at rules k p i j s side [] x e ij = absurd (cc)
asked-at rules k p i j s side (h ∷ hs) x e ij =
    at-choice rules k p i j s side h hs x (asks_first p h) (asks_second p h) refl refl ij e (λ m f g. asked-at rules (k + 1) p i m s side hs x f g)

asked-here : (rules : Rules) (p i : ℕ) (s : Settled) (side : Side) (ds : List Bisection) (hs : List Bisection) (x : Bisection) → ds ≡ hs → asked_from 0 p ds ≡ Some (i, side) → AskedAt rules p i s side hs x
asked-here rules p i s side ds hs x same e = asked-at rules 0 p i i s side hs x (rw same at e) (omega arith)

pub asks-of : (side : Side) (p : ℕ) (d : Bisection) → asks_of side p d ≡ true → asks side d ≡ true
asks-of First p d e = let two : (_ ≡ true) × (asks First d ≡ true) = and_parts _ _ e in two.1
asks-of Second p d e = let two : (_ ≡ true) × (asks Second d ≡ true) = and_parts _ _ e in two.1

pub asked-asks : (rules : Rules) (p i : ℕ) (s : Settled) (side : Side) (ds hs : List Bisection) (x : Bisection) → ds ≡ hs → asked_from 0 p ds ≡ Some (i, side) → x ≡ slice_index_or hs i x → asks side x ≡ true
asked-asks rules p i s side ds hs x same e at =
    let a : AskedAt rules p i s side hs x = asked-here rules p i s side ds hs x same e in
    asks-of side p x (ap (λ (h : Bisection). asks_of side p h) at ∙ a.asks_)

-- a settled answer keeps the sheet

stage-choice : (rules : Rules) (p : ℕ) (s : Settled) (d : Bisection) (ds : List Bisection) (x y : Bool) → last_stage (settled_in rules p s ds) ≡ last_stage ds →
    last_stage (if x then settle_first rules.ruling s d ∷ ds else if y then settle_second rules.ruling s d ∷ ds else d ∷ settled_in rules p s ds) ≡ max d.stage (last_stage ds)
stage-choice rules p s d ds true y e = ap (λ (n : ℕ). max n (last_stage ds)) (stage-kept rules.ruling First s d)
stage-choice rules p s d ds false true e = ap (λ (n : ℕ). max n (last_stage ds)) (stage-kept rules.ruling Second s d)
stage-choice rules p s d ds false false e = ap (λ (n : ℕ). max d.stage n) e

pub stage-settled : (rules : Rules) (p : ℕ) (s : Settled) (ds : List Bisection) → last_stage (settled_in rules p s ds) ≡ last_stage ds
stage-settled rules p s [] = refl
stage-settled rules p s (d ∷ ds) = stage-choice rules p s d ds (asks_first p d) (asks_second p d) (stage-settled rules p s ds)

many-choice : (rules : Rules) (p : ℕ) (s : Settled) (d : Bisection) (ds : List Bisection) (x y : Bool) → length (settled_in rules p s ds) ≡ length ds →
    length (if x then settle_first rules.ruling s d ∷ ds else if y then settle_second rules.ruling s d ∷ ds else d ∷ settled_in rules p s ds) ≡ suc (length ds)
many-choice rules p s d ds true y e = refl
many-choice rules p s d ds false true e = refl
many-choice rules p s d ds false false e = ap suc e

pub many-settled : (rules : Rules) (p : ℕ) (s : Settled) (ds : List Bisection) → length (settled_in rules p s ds) ≡ length ds
many-settled rules p s [] = refl
many-settled rules p s (d ∷ ds) = many-choice rules p s d ds (asks_first p d) (asks_second p d) (many-settled rules p s ds)

claims-length : (ss : List (Option Settled)) (k : ℕ) (o : Option Settled) → length (slice_set ss k o) ≡ length ss
claims-length [] k o = refl
claims-length (s ∷ ss) zero o = refl
claims-length (s ∷ ss) (suc k) o = ap suc (claims-length ss k o)

sheet-by : (rules : Rules) (t : Setup) (r : Record) (rooms : List RoomOf) (free p : ℕ) (s : Settled) (b : Bool) → IsSheet t r rooms free →
    IsSheet t (if b then record r { claims = slice_set r.claims (p - 1) (Some s) } else record r { disputes = settled_in rules p s r.disputes }) rooms free
sheet-by rules t r rooms free p s true i = record { claims_ = claims-length r.claims (p - 1) (Some s) ∙ i.claims_; stages = i.stages; rooms_ = i.rooms_; room = i.room }
sheet-by rules t r rooms free p s false i = record {
  claims_ = i.claims_;
  stages = rw (stage-settled rules p s r.disputes, many-settled rules p s r.disputes) i.stages;
  rooms_ = i.rooms_;
  room = rw (many-settled rules p s r.disputes) i.room;
}

pub sheet-put : (rules : Rules) (t : Setup) (r w : Record) (rooms : List RoomOf) (free p : ℕ) (s : Settled) → IsSheet t r rooms free → w ≡ put rules p s r → IsSheet t w rooms free
sheet-put rules t r w rooms free p s i e = rw e (sheet-by rules t r rooms free p s (claim_missing (slice_get r.claims (p - 1))) i)

-- pairs of sides

other-by : (i j : ℕ) (root : Digest32) (xs : List Claimed) (b : Bool) → (if b then other_from (i + 1) root xs else Some i) ≡ Some j → (other_from (i + 1) root xs ≡ Some j → i + 1 ≤ j) → i ≤ j
other-by i j root xs true e r = omega (arith, r e)
other-by i j root xs false e r = let same : i ≡ j = cc in omega arith

other-more : (i j : ℕ) (root : Digest32) (xs : List Claimed) → other_from i root xs ≡ Some j → i ≤ j
other-more i j root [] e = absurd (cc)
other-more i j root (x ∷ xs) e = other-by i j root xs (same_digest x.root root) e (other-more (i + 1) j root xs)

none-choice : (i : ℕ) (root : Digest32) (x : Claimed) (xs : List Claimed) (b : Bool) → (if b then other_from (i + 1) root xs else Some i) ≡ None → (other_from (i + 1) root xs ≡ None → take_side root xs ≡ None) →
    (if b then going_by x (take_side root xs) else Some (x, xs)) ≡ None
none-choice i root x xs true e r = ap (going_by x) (r e)
none-choice i root x xs false e r = absurd (cc)

other-none : (i : ℕ) (root : Digest32) (xs : List Claimed) → other_from i root xs ≡ None → take_side root xs ≡ None
other-none i root [] e = refl
other-none i root (x ∷ xs) e = none-choice i root x xs (same_digest x.root root) e (other-none (i + 1) root xs)

some-choice : (i : ℕ) (root : Digest32) (k j : ℕ) (y : Claimed) (x : Claimed) (xs : List Claimed) (b : Bool) → k ≡ i + j → (if b then other_from (i + 1) root xs else Some i) ≡ Some k →
    ((m : ℕ) → other_from (i + 1) root xs ≡ Some k → k ≡ i + 1 + m → take_side root xs ≡ Some (slice_index_or xs m y, remove xs m)) →
    (if b then going_by x (take_side root xs) else Some (x, xs)) ≡ Some (slice_index_or (x ∷ xs) j y, remove (x ∷ xs) j)
some-choice i root k zero y x xs true kj e r = absurd (omega (arith, other-more (i + 1) k root xs e, kj))
some-choice i root k (suc j) y x xs true kj e r = ap (going_by x) (r j e (omega arith))
some-choice i root k zero y x xs false kj e r = refl
some-choice i root k (suc j) y x xs false kj e r = let same : i ≡ k = cc in absurd (omega arith)

other-some : (i : ℕ) (root : Digest32) (k j : ℕ) (y : Claimed) (xs : List Claimed) → other_from i root xs ≡ Some k → k ≡ i + j → take_side root xs ≡ Some (slice_index_or xs j y, remove xs j)
other-some i root k j y [] e kj = absurd (cc)
other-some i root k j y (x ∷ xs) e kj = some-choice i root k j y x xs (same_digest x.root root) kj e (λ m f g. other-some (i + 1) root k m y xs f g)

pub pairs-none : (left : ℕ) (old new : List Claimed) (x : Claimed) → 0 < left → 0 < length old → x ≡ slice_index_or old 0 x → new ≡ remove old 0 → None ≡ other_from 0 x.root new → side_pairs left old ≡ side_pairs (left - 1) new
pairs-none zero old new x some many ex en e = absurd (omega arith)
pairs-none (suc n) [] new x some many ex en e = absurd (omega arith)
pairs-none (suc n) (z ∷ zs) new x some many ex en e =
    let l : suc n - 1 ≡ n = omega arith in
    let nz : new ≡ zs = en in
    let t : take_side z.root zs ≡ None = other-none 0 z.root zs (sym (rw (nz, ex) at e)) in
    rw (l, nz) (ap (λ (o : Taking). elim o [ None ↦ side_pairs n zs | Some u ↦ (z, u.0) ∷ side_pairs n u.1 ]) t)

pub pairs-some : (left i : ℕ) (old new rest : List Claimed) (x y : Claimed) → 0 < left → 0 < length old → x ≡ slice_index_or old 0 x → new ≡ remove old 0 → Some i ≡ other_from 0 x.root new → y ≡ slice_index_or new i y → rest ≡ remove new i →
    side_pairs left old ≡ (x, y) ∷ side_pairs (left - 1) rest
pairs-some zero i old new rest x y some many ex en e ey er = absurd (omega arith)
pairs-some (suc n) i [] new rest x y some many ex en e ey er = absurd (omega arith)
pairs-some (suc n) i (z ∷ zs) new rest x y some many ex en e ey er =
    let l : suc n - 1 ≡ n = omega arith in
    let xz : x ≡ z = ex in
    let nz : new ≡ zs = en in
    let o : other_from 0 x.root new ≡ Some i = sym e in
    let t : take_side x.root new ≡ Some (slice_index_or new i y, remove new i) = other-some 0 x.root i i y new o (omega arith) in
    let tz : take_side z.root zs ≡ Some (y, rest) = ap (λ (w : Claimed). take_side w.root zs) (sym xz) ∙ (ap (take_side x.root) (sym nz) ∙ (t ∙ rw (← ey, er) refl)) in
    rw (l, xz) (ap (λ (o : Taking). elim o [ None ↦ side_pairs n zs | Some u ↦ (z, u.0) ∷ side_pairs n u.1 ]) tz)

pub pairs-opened : (t : Setup) (g : ℕ) (r s u : Record) (x y : Claimed) (ps qs : List (Claimed × Claimed)) → s ≡ and_also r (dispute_of t g (length r.disputes + 1) x y ∷ []) →
    u ≡ and_also s (disputes_over t g (length s.disputes + 1) ps) → qs ≡ (x, y) ∷ ps → u ≡ and_also r (disputes_over t g (length r.disputes + 1) qs)
pairs-opened t g r s u x y ps qs es eu eq =
    let n : length s.disputes ≡ length r.disputes + 1 = ap (λ (z : Record). length z.disputes) es ∙ length-append r.disputes (dispute_of t g (length r.disputes + 1) x y ∷ []) in
    rw (eu, n, es, eq, append_assoc) refl

-- the pairs of live provers are those of their sides

abbrev over_taken : Ruling → Taken → Taking
over_taken r None = None
over_taken r (Some t) = Some (side_of r t.0, sides r t.1)

over-passed : (r : Ruling) (x : ℕ × Claim) (t : Taken) → going_by (side_of r x) (over_taken r t) ≡ over_taken r (passed_over x t)
over-passed r x None = refl
over-passed r x (Some t) = refl

taken-choice : (r : Ruling) (x : ℕ × Claim) (xs : List (ℕ × Claim)) (t : Taken) (u : Taking) (b : Bool) → u ≡ over_taken r t →
    (if b then going_by (side_of r x) u else Some (side_of r x, sides r xs)) ≡ over_taken r (if b then passed_over x t else Some (x, xs))
taken-choice r x xs t u true e = ap (going_by (side_of r x)) e ∙ over-passed r x t
taken-choice r x xs t u false e = refl

taken-sides : (r : Ruling) (root : Digest32) (xs : List (ℕ × Claim)) → take_side root (sides r xs) ≡ over_taken r (take_other r root xs)
taken-sides r root [] = refl
taken-sides r root (x ∷ xs) = taken-choice r x xs (take_other r root xs) (take_side root (sides r xs)) (same_digest (r.root_of x.1) root) (taken-sides r root xs)

over-by : (r : Ruling) (t : Setup) (g n k : ℕ) (x : ℕ × Claim) (xs : List (ℕ × Claim)) (u : Taken) (v : Taking) → v ≡ over_taken r u →
    ((m : ℕ) (ys : List (ℕ × Claim)) → disputes_of (rules_of r t) g m (pairs_of r n ys) ≡ disputes_over t g m (side_pairs n (sides r ys))) →
    disputes_of (rules_of r t) g k (elim u [ None ↦ pairs_of r n xs | Some w ↦ (x, w.0) ∷ pairs_of r n w.1 ]) ≡
    disputes_over t g k (elim v [ None ↦ side_pairs n (sides r xs) | Some w ↦ (side_of r x, w.0) ∷ side_pairs n w.1 ])
over-by r t g n k x xs None v e rest = rest k xs ∙ ap (λ (o : Taking). disputes_over t g k (elim o [ None ↦ side_pairs n (sides r xs) | Some w ↦ (side_of r x, w.0) ∷ side_pairs n w.1 ])) (sym e)
over-by r t g n k x xs (Some u) v e rest =
    ap (λ (ds : List Bisection). dispute_of t g k (side_of r x) (side_of r u.0) ∷ ds) (rest (k + 1) u.1)
    ∙ ap (λ (o : Taking). disputes_over t g k (elim o [ None ↦ side_pairs n (sides r xs) | Some w ↦ (side_of r x, w.0) ∷ side_pairs n w.1 ])) (sym e)

pub over-sides : (r : Ruling) (t : Setup) (g n k : ℕ) (xs : List (ℕ × Claim)) → disputes_of (rules_of r t) g k (pairs_of r n xs) ≡ disputes_over t g k (side_pairs n (sides r xs))
over-sides r t g zero k xs = refl
over-sides r t g (suc n) k [] = refl
over-sides r t g (suc n) k (x ∷ xs) = over-by r t g n k x xs (take_other r (r.root_of x.1) xs) (take_side (r.root_of x.1) (sides r xs)) (taken-sides r (r.root_of x.1) xs) (λ m ys. over-sides r t g n m ys)

over-length : (t : Setup) (g k : ℕ) (ps : List (Claimed × Claimed)) → length (disputes_over t g k ps) ≡ length ps
over-length t g k [] = refl
over-length t g k (p ∷ ps) = ap suc (over-length t g (k + 1) ps)

pub stage-is : (r : Ruling) (t : Setup) (rec : Record) (xs : List Claimed) → is_stage_due (rules_of r t) rec ≡ true → xs ≡ sides r (live rec) →
    stage_opened (rules_of r t) rec ≡ and_also rec (disputes_over t (last_stage rec.disputes + 1) (length rec.disputes + 1) (side_pairs t.provers xs))
stage-is r t rec xs due e =
    opened-due (rules_of r t) rec due ∙ ap (and_also rec) (over-sides r t (last_stage rec.disputes + 1) t.provers (length rec.disputes + 1) (live rec) ∙ ap (λ (ys : List Claimed). disputes_over t (last_stage rec.disputes + 1) (length rec.disputes + 1) (side_pairs t.provers ys)) (sym e))

pub stage-few : (r : Ruling) (t : Setup) (rec : Record) (xs : List Claimed) → is_stage_due (rules_of r t) rec ≡ true → xs ≡ sides r (live rec) → length (stage_opened (rules_of r t) rec).disputes < t.provers →
    length rec.disputes + length (side_pairs t.provers xs) < t.provers
stage-few r t rec xs due e few =
    let n : length (stage_opened (rules_of r t) rec).disputes ≡ length rec.disputes + length (disputes_over t (last_stage rec.disputes + 1) (length rec.disputes + 1) (side_pairs t.provers xs)) =
    ap (λ (z : Record). length z.disputes) (stage-is r t rec xs due e) ∙ length-append rec.disputes _ in
    omega (arith, few, n, over-length t (last_stage rec.disputes + 1) (length rec.disputes + 1) (side_pairs t.provers xs))

-- who is asked nowhere is settled nowhere

nowhere-choice : (rules : Rules) (k p : ℕ) (s : Settled) (d : Bisection) (ds : List Bisection) (a b : Bool) → (if a then Some (k, First) else if b then Some (k, Second) else asked_from (k + 1) p ds) ≡ None →
    (asked_from (k + 1) p ds ≡ None → settled_in rules p s ds ≡ ds) →
    (if a then settle_first rules.ruling s d ∷ ds else if b then settle_second rules.ruling s d ∷ ds else d ∷ settled_in rules p s ds) ≡ d ∷ ds
nowhere-choice rules k p s d ds true b e r = absurd (cc)
nowhere-choice rules k p s d ds false true e r = absurd (cc)
nowhere-choice rules k p s d ds false false e r = ap (λ (zs : List Bisection). d ∷ zs) (r e)

pub nowhere : (rules : Rules) (k p : ℕ) (s : Settled) (ds : List Bisection) → asked_from k p ds ≡ None → settled_in rules p s ds ≡ ds
nowhere rules k p s [] e = refl
nowhere rules k p s (d ∷ ds) e = nowhere-choice rules k p s d ds (asks_first p d) (asks_second p d) e (nowhere rules (k + 1) p s ds)

claim-there : (ss : List (Option Settled)) (k : ℕ) (x : Option Settled) → x ≡ slice_index_or ss k x → is_some x ≡ true → claim_missing (slice_get ss k) ≡ false
claim-there [] k x e s = refl
claim-there (None ∷ ss) zero x e s = let n : x ≡ None = e in absurd (cc)
claim-there (Some y ∷ ss) zero x e s = refl
claim-there (y ∷ ss) (suc k) x e s = claim-there ss k x e s

pub put-nowhere : (rules : Rules) (p : ℕ) (s : Settled) (t : Record) (hs gs : List Bisection) (cs : List (Option Settled)) (x : Option Settled) → t.disputes ≡ hs → t.claims ≡ cs → gs ≡ hs → x ≡ slice_index_or cs (p - 1) x → is_some x ≡ true →
    None ≡ asked_from 0 p gs → t ≡ put rules p s t
put-nowhere rules p s t hs gs cs x ed ec ea ex there e =
    let m : claim_missing (slice_get t.claims (p - 1)) ≡ false = rw ec (claim-there cs (p - 1) x ex there) in
    let a : asked_from 0 p t.disputes ≡ None = rw (ed, ← ea) (sym e) in
    let n : settled_in rules p s t.disputes ≡ t.disputes = nowhere rules 0 p s t.disputes a in
    rw (m, n) refl

-- who is asked is settled where it is asked

pub put-there : (rules : Rules) (p i : ℕ) (s : Settled) (side : Side) (t : Record) (hs gs : List Bisection) (cs : List (Option Settled)) (x : Option Settled) (d e : Bisection) → t.disputes ≡ hs → t.claims ≡ cs → gs ≡ hs →
    x ≡ slice_index_or cs (p - 1) x → is_some x ≡ true → asked_from 0 p gs ≡ Some (i, side) → d ≡ slice_index_or hs i d → e ≡ settle_side rules.ruling side s d → record { claims = cs; disputes = slice_set hs i e } ≡ put rules p s t
put-there rules p i s side t hs gs cs x d e ed ec ea ex there asked at is =
    let m : claim_missing (slice_get t.claims (p - 1)) ≡ false = rw ec (claim-there cs (p - 1) x ex there) in
    let a : AskedAt rules p i s side hs d = asked-here rules p i s side gs hs d ea asked in
    let n : settled_in rules p s t.disputes ≡ slice_set hs i e = rw ed (a.settles e (is ∙ ap (λ (y : Bisection). settle_side rules.ruling side s y) at)) in
    rw (m, n, ec) refl

pub filled-live : (r : Ruling) (rec : Record) (hs gs : List Bisection) (cs bs : List (Option Settled)) (xs zs : List Claimed) → rec.disputes ≡ hs → rec.claims ≡ cs → gs ≡ hs → bs ≡ cs → zs ≡ [] →
    xs ≡ zs ++ sides r (live_from gs 1 bs) → xs ≡ sides r (live rec)
filled-live r rec hs gs cs bs xs zs ed ec ea eb ez e = rw (ed, ec) (rw (ez, ea, eb) at e)

pub rooms_more : (t : Setup) (rs : List RoomOf) (r : RoomOf) → AllRooms t rs → r ≡ room_of t → AllRooms t (rs ++ r ∷ [])
rooms_more t [] r a e = (e, tt)
rooms_more t (q ∷ rs) r a e = (a.0, rooms_more t rs r a.1 e)
