-- Tasks: their gravest answer, their texts, and how their cases are loaded.
use Rattle.std.proofs.Common.{◌≡◌, ℕ, zero, suc, ◌-◌, List, [], ◌∷◌, ◌++◌, All, map, length, slice_get, Bool, Some, Result, Ok, Err, refl, sym, ap, ap₂, subst, ◌∙◌}
use Rattle.std.proofs.lemmas.List.{append-nil, length-map}
use Rattle.std.proofs.lemmas.List.Elements.{All-nil, All-cons, All-head, All-tail, All-weaker}
use Rattle.std.proofs.lemmas.Option.{same_Some, none-some}
use Rattle.rd_base.specs.Results.{◌>>=◌}
use Rattle.rv_step.specs.State.{State}
use Rattle.tournament.specs.declared.reading.Verdict.{Verdict}
use Rattle.tournament.specs.declared.reading.Verdict.TheVariants as verdict
use Rattle.case_reader.specs.Case.{CaseData}
use Rattle.case_match.specs.declared.opening.LoadedCase.{LoadedCase}
use Rattle.case_match.specs.declared.opening.EndedCase.{EndedCase}
use Rattle.case_match.specs.Match.{ended_case}
use Rattle.case_match.specs.Openings.{IsFresh, ended_of_loaded}
use Rattle.digest_core.specs.Name.{digest_of}
use Rattle.delegate.specs.Answered.{graver}
use Rattle.delegate.specs.Decided.{WhichText, report, full, summary, Deciding, answered_for, response_to_case, texts_under, gravest, together, responses_to_cases, StandsUnder}
use Rattle.delegate.specs.Standing.{IsReadyToPlay, loaded_data, responses, EndIsShown, IsPlayed}
use Rattle.delegate.specs.Loading.{LoadedData, next_subject, start_or_refusal, loads_or_refusal}
use Rattle.delegate.specs.declared.response.Subject.{Subject}
use Rattle.delegate.specs.declared.response.Subject.TheVariants.{Whole, Task}
use Rattle.delegate.specs.declared.response.Response.{Response}
use Rattle.delegate.specs.declared.response.Answered.{Answered}
use Rattle.delegate.specs.declared.response.Answered.TheVariants.{Done, Usage, Case, Image, ReadFault, WriteFault, AuditRefused, Memory, NoneLeft, Collision, TooLong}
use Rattle.delegate.proofs.OutcomeLemmas.{goes_on}

-- a test by which a collision, that nobody is left and that all is done come out alike comes out so for the gravest answer

graver-is : (is : Answered → Bool) (x : Bool) → is NoneLeft ≡ x → is Collision ≡ x → (a b : Answered) → is b ≡ x → is (graver a b) ≡ x
graver-is is x none collision Collision b at = collision
graver-is is x none collision NoneLeft Collision at = collision
graver-is is x none collision NoneLeft Done at = none
graver-is is x none collision NoneLeft Usage at = none
graver-is is x none collision NoneLeft Case at = none
graver-is is x none collision NoneLeft Image at = none
graver-is is x none collision NoneLeft ReadFault at = none
graver-is is x none collision NoneLeft WriteFault at = none
graver-is is x none collision NoneLeft AuditRefused at = none
graver-is is x none collision NoneLeft Memory at = none
graver-is is x none collision NoneLeft NoneLeft at = none
graver-is is x none collision NoneLeft TooLong at = none
graver-is is x none collision Done b at = at
graver-is is x none collision Usage b at = at
graver-is is x none collision Case b at = at
graver-is is x none collision Image b at = at
graver-is is x none collision ReadFault b at = at
graver-is is x none collision WriteFault b at = at
graver-is is x none collision AuditRefused b at = at
graver-is is x none collision Memory b at = at
graver-is is x none collision TooLong b at = at

pub gravest-is : (is : Answered → Bool) (x : Bool) → is Done ≡ x → is NoneLeft ≡ x → is Collision ≡ x → (rs : List Response) → is (gravest rs) ≡ x
gravest-is is x done none collision [] = done
gravest-is is x done none collision (r ∷ rs) = graver-is is x none collision r.answered (gravest rs) (gravest-is is x done none collision rs)

-- the response to one case is that to it alone

graver-done : (written : WhichText) (v : Verdict) → graver (answered_for written v) Done ≡ answered_for written v
graver-done (summary seed) v = refl
graver-done report (verdict.Accept n) = refl
graver-done report verdict.NoneLeft = refl
graver-done report (verdict.Collision x y) = refl
graver-done full (verdict.Accept n) = refl
graver-done full verdict.NoneLeft = refl
graver-done full (verdict.Collision x y) = refl

pub one-together : (m : Deciding) (c : CaseData) (start : State) → together Whole (response_to_case m c start ∷ []) ≡ response_to_case m c start
one-together m c start =
    ap₂ (λ (a : Answered) (t : List ℕ). record { answered = a; text = t }) (graver-done m.written (ended_case (digest_of m.digest) c start).verdict) (append-nil (response_to_case m c start).text)

-- the responses to cases that have ended so are those to each task, and what is shown of their ends is shown of them

same-responses : (m : Deciding) (ls : List LoadedCase) → responses m (map (ended_of_loaded (digest_of m.digest)) ls) ≡ responses_to_cases m (map loaded_data ls)
same-responses m [] = refl
same-responses m (l ∷ ls) = ap (λ (rs : List Response). response_to_case m (loaded_data l).case (loaded_data l).start ∷ rs) (same-responses m ls)

pub told-together : (m : Deciding) (subject : Subject) (ls : List LoadedCase) (own_ends ends : List EndedCase) (answered : Answered) (before out text : List ℕ)
    → own_ends ≡ map (ended_of_loaded (digest_of m.digest)) ls → ends ≡ own_ends → before ≡ []
    → out ≡ before ++ texts_under subject (map (λ (r : Response). r.text) (responses m ends)) → answered ≡ gravest (responses m ends) → text ≡ out
    → record { answered = answered; text = text } ≡ together subject (responses_to_cases m (map loaded_data ls))
told-together m subject ls own_ends ends answered before out text own_are ends_are none written gravest_is text_is =
    let all : responses m ends ≡ responses_to_cases m (map loaded_data ls) = ap (responses m) (ends_are ∙ own_are) ∙ same-responses m ls in
    ap₂ (λ (a : Answered) (t : List ℕ). record { answered = a; text = t }) (gravest_is ∙ ap gravest all)
    (text_is
    ∙ (written
    ∙ (ap (λ (l : List ℕ). l ++ texts_under subject (map (λ (r : Response). r.text) (responses m ends))) none
    ∙ ap (λ (rs : List Response). texts_under subject (map (λ (r : Response). r.text) rs)) all)))

pub all-fresh : (digest : List ℕ → List ℕ) (ls : List LoadedCase) → All IsReadyToPlay ls → All (λ (l : LoadedCase). IsFresh digest l.start) ls
all-fresh digest ls ready = All-weaker IsReadyToPlay (λ (l : LoadedCase). IsFresh digest l.start) (λ l is. is.fresh digest) ls ready

pub all-played : (m : Deciding) (ls : List LoadedCase) (own_ends ends : List EndedCase) → own_ends ≡ map (ended_of_loaded (digest_of m.digest)) ls → ends ≡ own_ends → All IsReadyToPlay ls
    → All (λ (e : EndedCase). EndIsShown m e.end) ends → All (IsPlayed m) (map loaded_data ls)
all-played m ls own_ends ends own_are ends_are ready shown = by ls ready (subst (All (λ (e : EndedCase). EndIsShown m e.end)) (ends_are ∙ own_are) shown)
  where
    by : (ks : List LoadedCase) → All IsReadyToPlay ks → All (λ (e : EndedCase). EndIsShown m e.end) (map (ended_of_loaded (digest_of m.digest)) ks) → All (IsPlayed m) (map loaded_data ks)
    by [] are ends = All-nil (IsPlayed m)
    by (k ∷ ks) are ends =
        let own : IsReadyToPlay k = All-head IsReadyToPlay k ks are in
        let end : EndIsShown m (ended_case (digest_of m.digest) (loaded_data k).case (loaded_data k).start) =
        All-head (λ (e : EndedCase). EndIsShown m e.end) (ended_of_loaded (digest_of m.digest) k) (map (ended_of_loaded (digest_of m.digest)) ks) ends in
        All-cons (IsPlayed m) (loaded_data k) (map loaded_data ks) (record { range = own.range; shown = end })
        (by ks (All-tail IsReadyToPlay k ks are)
        (All-tail (λ (e : EndedCase). EndIsShown m e.end) (ended_of_loaded (digest_of m.digest) k) (map (ended_of_loaded (digest_of m.digest)) ks) ends))

-- how cases are loaded

pub one-loaded : (c : CaseData) (start : State) → start_or_refusal Whole c ≡ Ok start → loads_or_refusal Whole (c ∷ []) ≡ Ok (record { case = c; start = start } ∷ [])
unfolding loads_or_refusal
one-loaded c start loads = goes_on _ _ _ loads

pub record FirstLoads (subject : Subject) (c : CaseData) (cs : List CaseData) (ls : List LoadedData) : Type 0 where
  pub first : State
  pub later : List LoadedData
  pub loads : start_or_refusal subject c ≡ Ok first
  pub loads_later : loads_or_refusal (next_subject subject) cs ≡ Ok later
  pub are : ls ≡ record { case = c; start = first } ∷ later

pub first-loads : (subject : Subject) (c : CaseData) (cs : List CaseData) (ls : List LoadedData) → loads_or_refusal subject (c ∷ cs) ≡ Ok ls → FirstLoads subject c cs ls
unfolding loads_or_refusal
first-loads subject c cs ls is = by (start_or_refusal subject c) (loads_or_refusal (next_subject subject) cs) refl refl is
  where
    by : (r : Result State Response) (q : Result (List LoadedData) Response) → start_or_refusal subject c ≡ r → loads_or_refusal (next_subject subject) cs ≡ q
        → (r >>= (λ (s : State). q >>= (λ (later : List LoadedData). Ok (record { case = c; start = s } ∷ later)))) ≡ Ok ls → FirstLoads subject c cs ls
    by (Ok s) (Ok later) one more both = record { first = s; later = later; loads = one; loads_later = more; are = sym (cc both) }
    by (Ok s) (Err e) one more both = absurd (cc both)
    by (Err e) q one more both = absurd (cc both)

-- there is one for each
pub loads-count : (subject : Subject) (cs : List CaseData) (ls : List LoadedData) → loads_or_refusal subject cs ≡ Ok ls → length ls ≡ length cs
unfolding loads_or_refusal
loads-count subject [] ls is = (let none : [] ≡ ls = cc is in ap length (sym none))
loads-count subject (c ∷ cs) ls is =
    let all = first-loads subject c cs ls is in
    ap length all.are ∙ ap suc (loads-count (next_subject subject) cs all.later all.loads_later)

-- each case, by itself

pub record IsLoad (l : LoadedData) : Type 0 where
  pub subject : Subject
  pub loads : start_or_refusal subject l.case ≡ Ok l.start

pub each-loads : (subject : Subject) (cs : List CaseData) (ls : List LoadedData) → loads_or_refusal subject cs ≡ Ok ls → All IsLoad ls
unfolding loads_or_refusal
each-loads subject [] ls is = (let none : [] ≡ ls = cc is in subst (All IsLoad) none (All-nil IsLoad))
each-loads subject (c ∷ cs) ls is =
    let all = first-loads subject c cs ls is in
    subst (All IsLoad) (sym all.are)
    (All-cons IsLoad (record { case = c; start = all.first }) all.later (record { subject = subject; loads = all.loads }) (each-loads (next_subject subject) cs all.later all.loads_later))

pub all-at : {X : Type 0} (P : X → Type 0) (xs : List X) (i : ℕ) (x : X) → All P xs → slice_get xs i ≡ Some x → P x
all-at P [] i x all at = absurd (none-some x at)
all-at P (y ∷ xs) zero x all at = subst P (same_Some y x at) (All-head P y xs all)
all-at P (y ∷ xs) (suc i) x all at = all-at P xs i x (All-tail P y xs all) at

-- the texts of tasks: there is one for each, and that of a task stands under its line

abbrev pub texts_in : List Response → List (List ℕ)
texts_in rs = map (λ (r : Response). r.text) rs

pub texts-count : (m : Deciding) (ls : List LoadedData) → length (texts_in (responses_to_cases m ls)) ≡ length ls
texts-count m ls = length-map (responses_to_cases m ls) (λ (r : Response). r.text) ∙ length-map ls (λ (l : LoadedData). response_to_case m l.case l.start)

mapped-at : {A B : Type 0} (f : A → B) (xs : List A) (i : ℕ) (x : A) → slice_get xs i ≡ Some x → slice_get (map f xs) i ≡ Some (f x)
mapped-at f [] i x at = absurd (none-some x at)
mapped-at f (y ∷ xs) zero x at = ap (λ z. Some (f z)) (same_Some y x at)
mapped-at f (y ∷ xs) (suc i) x at = mapped-at f xs i x at

pub decided-stands : (m : Deciding) (ls : List LoadedData) (t : ℕ) (l : LoadedData) → slice_get ls (t - 1) ≡ Some l
    → StandsUnder (length ls) t (response_to_case m l.case l.start).text (together (Task 1) (responses_to_cases m ls)).text
decided-stands m ls t l at = record {
  parts = texts_in (responses_to_cases m ls);
  all = texts-count m ls;
  whole = refl;
  here = mapped-at (λ (r : Response). r.text) (responses_to_cases m ls) (t - 1) (response_to_case m l.case l.start)
      (mapped-at (λ (k : LoadedData). response_to_case m k.case k.start) ls (t - 1) l at);
}
