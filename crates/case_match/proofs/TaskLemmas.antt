-- Many cases: opened one after another, and how they end.
use Rattle.std.proofs.Common.{Result, Ok, Err, IfOk, ◌≡◌, ℕ, ◌+◌, ◌<◌, List, [], ◌∷◌, ◌++◌, All, map, zip, length, take, get_or, length-append, Option, Some, refl, sym, ap, ap₂, subst, ◌∙◌, arith, append_assoc}
use Rattle.std.proofs.lemmas.List.{take_more, map-append, length-map, append-nil}
use Rattle.std.specs.Option.{option_to_list}
use Rattle.std.proofs.lemmas.List.Elements.{All-nil, All-cons, All-head, All-tail}
use Rattle.rd_base.specs.declared.answer.Answer.{Answer}
use Rattle.rd_base.specs.declared.digest.Digest32.{Digest32}
use Rattle.rd_base.specs.declared.script.Script.{Script}
use Rattle.bisect_game.specs.declared.settled.Question.{Question}
use Rattle.bisect_game.specs.Says.{Says, AnswerAs}
use Rattle.bisect_game.specs.Rules.{ArePlayable}
use Rattle.rv_step.specs.declared.machine.Machine.{Machine}
use Rattle.rv_step.specs.State.{State, state_of, IsChained}
use Rattle.tournament.specs.declared.reading.Verdict.{Verdict}
use Rattle.tournament.specs.Bracket.{Record}
use Rattle.step_referee.specs.declared.judge.MachineNames.{MachineNames}
use Rattle.step_referee.specs.MachineRuling.{machine_ruling}
use Rattle.board_book.specs.declared.book.Opening.{Opening}
use Rattle.board_book.specs.Tasks.{BookOf, openings, sayings_from, sayings}
use Rattle.board_book.specs.Keeping.{SayInOrder}
use Rattle.deposits.specs.Balances.{IsSettledUp}
use Rattle.prover_run.specs.CaseScripts.{CaseScripts, case_says}
use Rattle.case_reader.specs.declared.case.Case.{Case}
use Rattle.case_reader.specs.Case.{CaseData, data_of}
use Rattle.case_match.specs.declared.opening.LoadedCase.{LoadedCase}
use Rattle.case_match.specs.declared.opening.EndedCase.{EndedCase}
use Rattle.case_match.specs.declared.referee.Ended.{Ended}
use Rattle.case_match.specs.Match.{start_root, rules_of_case, says_of_case, ending_of_case, endings_of_cases, AreSettledUp, RecordsOfCasesAreSettledUp}
use Rattle.case_match.specs.Openings.{IsFresh, ended_alone, ended_of_loaded, opening_of_case, opening_of_loaded}

-- lists

pub map_twice : {A B C : Type 0} (f : B → C) (g : A → B) (xs : List A) → map (λ (x : A). f (g x)) xs ≡ map f (map g xs)
map_twice f g [] = refl
map_twice f g (x ∷ xs) = ap (λ l. f (g x) ∷ l) (map_twice f g xs)

pub all_first : {X : Type 0} (P : X → Type 0) (xs ys : List X) → All P (xs ++ ys) → All P xs
all_first P [] ys h = All-nil P
all_first P (x ∷ xs) ys h = All-cons P x xs (All-head P x (xs ++ ys) h) (all_first P xs ys (All-tail P x (xs ++ ys) h))

-- what a match is opened with

pub opened-as : (digest : List ℕ → List ℕ) (version : ℕ) (c : CaseData) (start : State) (scripts : List Script) (x : CaseScripts) (root : Digest32)
    → version ≡ start.version → scripts ≡ c.provers → x ≡ record { start = start; bound = c.bound; scripts = scripts } → root ≡ start_root digest start
    → ◌≡◌ {A = Opening MachineNames CaseScripts}
    (record { judge = record { version = version }; provers = x; setup = record { provers = length x.scripts; bound = c.bound; fan = c.fan; patience = c.patience; start = root } }) (opening_of_case digest c start)
opened-as digest version c start scripts x root version_is scripts_are x_is root_is =
    let opened : ℕ → CaseScripts → Digest32 → Opening MachineNames CaseScripts =
    λ v y r. record { judge = record { version = v }; provers = y; setup = record { provers = length y.scripts; bound = c.bound; fan = c.fan; patience = c.patience; start = r } } in
    ap (λ (v : ℕ). opened v x root) version_is
    ∙ (ap (λ (y : CaseScripts). opened start.version y root) (x_is ∙ ap (λ (xs : List Script). record { start = start; bound = c.bound; scripts = xs }) scripts_are)
    ∙ ap (opened start.version (record { start = start; bound = c.bound; scripts = c.provers })) root_is)

-- one more opening behind others, and its answerers

push-all : {A : Type 0} (P : A → Type 0) (xs : List A) (x : A) → All P xs → P x → All P (xs ++ x ∷ [])
push-all P [] x all last = All-cons P x [] last (All-nil P)
push-all P (y ∷ xs) x all last = All-cons P y (xs ++ x ∷ []) (All-head P y xs all) (push-all P xs x (All-tail P y xs all) last)

pub one-more-empty : {N M : Type 0} (old now : List (BookOf N M)) (b : BookOf N M) → now ≡ old ++ b ∷ [] → b.journal ≡ [] → All (λ (x : BookOf N M). x.journal ≡ []) old
    → All (λ (x : BookOf N M). x.journal ≡ []) now
one-more-empty {N} {M} old now b pushed is all = subst (All (λ (x : BookOf N M). x.journal ≡ [])) (sym pushed) (push-all (λ (x : BookOf N M). x.journal ≡ []) old b all is)

pub one-more-opened : {A N M : Type 0} (f : A → Opening N M) (old now : List (BookOf N M)) (b : BookOf N M) (xs : List A) (x : A) → now ≡ old ++ b ∷ [] → b.opening ≡ f x
    → openings old ≡ map f xs → openings now ≡ map f (xs ++ x ∷ [])
one-more-opened {A} {N} {M} f old now b xs x pushed is so_far =
    ap openings pushed
    ∙ (map-append (λ (y : BookOf N M). y.opening) old (b ∷ [])
    ∙ (ap₂ (λ (l : List (Opening N M)) (h : Opening N M). l ++ h ∷ []) so_far is ∙ sym (map-append f xs (x ∷ []))))

sayings-last : {N M : Type 0} (says : M → Says) (hs : List (Opening N M)) (h : Opening N M) → sayings says (hs ++ h ∷ []) ≡ sayings says hs ++ sayings_from (says h.provers) 1 h.setup.provers
sayings-last says [] h = append-nil (sayings_from (says h.provers) 1 h.setup.provers)
sayings-last says (g ∷ gs) h =
    ap (λ (l : List (Question → ℕ → Option Answer)). sayings_from (says g.provers) 1 g.setup.provers ++ l) (sayings-last says gs h)
    ∙ sym (append_assoc (sayings_from (says g.provers) 1 g.setup.provers) (sayings says gs) (sayings_from (says h.provers) 1 h.setup.provers))

pub one-more-said : {A N M : Type 0} (answers : A → Question → ℕ → Option Answer) (says : M → Says) (old own now : List A) (books later : List (BookOf N M)) (b : BookOf N M)
    → now ≡ old ++ own → later ≡ books ++ b ∷ [] → map answers own ≡ sayings_from (says b.opening.provers) 1 b.opening.setup.provers → map answers old ≡ sayings says (openings books)
    → map answers now ≡ sayings says (openings later)
one-more-said {A} {N} {M} answers says old own now books later b joined pushed say so_far =
    ap (map answers) joined
    ∙ (map-append answers old own
    ∙ (ap₂ (λ (l m : List (Question → ℕ → Option Answer)). l ++ m) so_far say
    ∙ (sym (sayings-last says (openings books) b.opening)
    ∙ ap (sayings says) (sym (ap openings pushed ∙ map-append (λ (y : BookOf N M). y.opening) books (b ∷ []))))))

-- what a case's answerers say, from the same start by the same scripts
pub scripts-said : {A : Type 0} (answers : A → Question → ℕ → Option Answer) (digest : List ℕ → List ℕ) (first start : State) (own bound : ℕ) (scripts others : List Script) (xs : List A)
    → first ≡ start → own ≡ bound → scripts ≡ others → AnswerAs answers (case_says digest first own scripts) 1 xs → AnswerAs answers (case_says digest start bound others) 1 xs
scripts-said answers digest first start own bound scripts others xs from until same say =
    subst (λ (s : State). AnswerAs answers (case_says digest s bound others) 1 xs) from
    (subst (λ (n : ℕ). AnswerAs answers (case_says digest first n others) 1 xs) until
    (subst (λ (ss : List Script). AnswerAs answers (case_says digest first own ss) 1 xs) same say))

pub said-in-order : {A : Type 0} (answers : A → Question → ℕ → Option Answer) → SayInOrder answers → (digest : List ℕ → List ℕ) (start : State) (bound : ℕ) (scripts : List Script) (xs : List A)
    → length xs ≡ length scripts → AnswerAs answers (case_says digest start bound scripts) 1 xs → map answers xs ≡ sayings_from (case_says digest start bound scripts) 1 (length scripts)
said-in-order answers law digest start bound scripts xs count say =
    law (case_says digest start bound scripts) 1 xs say ∙ ap (sayings_from (case_says digest start bound scripts) 1) count

-- the answerers of a book that is opened for a case
pub said-by-book : {A : Type 0} (answers : A → Question → ℕ → Option Answer) → SayInOrder answers → (digest : List ℕ → List ℕ) (c : CaseData) (start : State) (h : Opening MachineNames CaseScripts) (xs : List A)
    → h ≡ opening_of_case digest c start → length xs ≡ length c.provers → AnswerAs answers (case_says digest start c.bound c.provers) 1 xs
    → map answers xs ≡ sayings_from (case_says digest h.provers.start h.provers.bound h.provers.scripts) 1 h.setup.provers
said-by-book answers law digest c start h xs is count say =
    said-in-order answers law digest start c.bound c.provers xs count say
    ∙ ap (λ (g : Opening MachineNames CaseScripts). sayings_from (case_says digest g.provers.start g.provers.bound g.provers.scripts) 1 g.setup.provers) (sym is)

-- the last one

pub last-all : {X : Type 0} (P : X → Type 0) (xs : List X) (x : X) → All P (xs ++ x ∷ []) → P x
last-all P [] x h = All-head P x [] h
last-all P (y ∷ xs) x h = last-all P xs x (All-tail P y (xs ++ x ∷ []) h)

-- the list of one

pub one-loaded : {A : Type 0} (old now : List A) (x : A) → old ≡ [] → now ≡ old ++ x ∷ [] → now ≡ x ∷ []
one-loaded old now x none pushed = pushed ∙ ap (λ l. l ++ x ∷ []) none

pub only-last : {A : Type 0} (xs rest : List A) (o : Option A) (x y : A) → xs ≡ x ∷ [] → xs ≡ rest ++ option_to_list o → o ≡ Some y → y ≡ x
only-last {A} xs rest o x y one parts is = by rest (sym one ∙ (parts ∙ ap (λ (p : Option A). rest ++ option_to_list p) is))
  where
    by : (zs : List A) → x ∷ [] ≡ zs ++ y ∷ [] → y ≡ x
    by [] e = sym (ap (λ (l : List A). get_or l 0 x) e)
    by (z ∷ zs) e = absurd (omega (arith, ap length e, length-append zs (y ∷ [])))

-- each case with its end, one after another

pub one-more-mapped : {A B : Type 0} (f : A → B) (old now : List A) (x : A) (ys : List B) → now ≡ old ++ x ∷ [] → map f old ≡ ys → map f now ≡ ys ++ f x ∷ []
one-more-mapped f old now x ys pushed so_far = ap (map f) pushed ∙ (map-append f old (x ∷ []) ∙ ap (λ l. l ++ f x ∷ []) so_far)

pub one-more-taken : {A : Type 0} (xs : List A) (i : ℕ) (x : A) → i < length xs → x ≡ get_or xs i x → take i xs ++ x ∷ [] ≡ take (i + 1) xs
one-more-taken xs i x within read = ap (λ y. take i xs ++ y ∷ []) read ∙ sym (take_more xs i x within)

pub as-many-ends : {A B C D : Type 0} (f : B → C) (g : A → B) (h : A → D) (xs : List A) (ys : List B) (zs : List C) (ws : List D)
    → ys ≡ map g xs → zs ≡ map f ys → ws ≡ map h xs → length zs ≡ length ws
as-many-ends f g h xs ys zs ws ys_are zs_are ws_are =
    ap length zs_are ∙ (length-map ys f ∙ (ap length ys_are ∙ (length-map xs g ∙ sym (ap length ws_are ∙ length-map xs h))))

pub both-ok : {A E : Type 0} (r : Result A E) (P Q R : A → Type 0) → ((a : A) → P a → Q a → R a) → IfOk r P → IfOk r Q → IfOk r R
both-ok (Ok a) P Q R give p q = give a p q
both-ok (Err e) P Q R give p q = p

-- how the cases of openings end

abbrev ends-of : (List ℕ → List ℕ) → Opening MachineNames CaseScripts → Ended
ends-of digest = ended_alone (λ (n : MachineNames). machine_ruling digest n.version) (λ (n : CaseScripts). case_says digest n.start n.bound n.scripts)

pub ended-as-loaded : (digest : List ℕ → List ℕ) (ls : List LoadedCase) (es : List EndedCase) (ends : List Ended) (hs : List (Opening MachineNames CaseScripts)) → hs ≡ map (opening_of_loaded digest) ls
    → ends ≡ map (ends-of digest) hs → map (λ (e : EndedCase). e.end) es ≡ ends → map (λ (e : EndedCase). e.case) es ≡ map (λ (l : LoadedCase). l.case) ls → es ≡ map (ended_of_loaded digest) ls
ended-as-loaded digest ls es ends hs opened are ends_are cases_are =
    by ls es (ends_are ∙ (are ∙ (ap (map (ends-of digest)) opened ∙ sym (map_twice (ends-of digest) (opening_of_loaded digest) ls)))) cases_are
  where
    by : (ks : List LoadedCase) (es : List EndedCase) → map (λ (e : EndedCase). e.end) es ≡ map (λ (k : LoadedCase). ends-of digest (opening_of_loaded digest k)) ks
        → map (λ (e : EndedCase). e.case) es ≡ map (λ (k : LoadedCase). k.case) ks → es ≡ map (ended_of_loaded digest) ks
    by [] [] ends cases = refl
    by [] (e ∷ es) ends cases = absurd (cc ends)
    by (k ∷ ks) [] ends cases = absurd (cc ends)
    by (k ∷ ks) (e ∷ es) ends cases =
        let end : e.end ≡ ends-of digest (opening_of_loaded digest k) = cc ends in
        let case_ : e.case ≡ k.case = cc cases in
        ap₂ (λ (x : EndedCase) (l : List EndedCase). x ∷ l) (ap₂ (λ c d. record { case = c; end = d }) case_ end) (by ks es (cc ends) (cc cases))

pub as-many-books : (digest : List ℕ → List ℕ) (ls : List LoadedCase) (books : List (BookOf MachineNames CaseScripts)) → openings books ≡ map (opening_of_loaded digest) ls → length books ≡ length ls
as-many-books digest ls books opened = sym (length-map books (λ (b : BookOf MachineNames CaseScripts). b.opening)) ∙ (ap length opened ∙ length-map ls (opening_of_loaded digest))

-- a case that was read can be played

playable : (digest : List ℕ → List ℕ) (c : Case) (start : State) → ArePlayable (rules_of_case digest (data_of c) start)
playable digest c start =
    record { some = omega (arith, c.somebody_plays); parted = omega (arith, c.parted); few_parts = c.few_parts; steps = omega (arith, c.bound_is_positive) }

pub record-settled : RecordsOfCasesAreSettledUp → (digest : List ℕ → List ℕ) (c : Case) (start : State) (r : Record) → r ≡ (ending_of_case digest (data_of c) start).0 → IsSettledUp (length c.provers) r
record-settled law digest c start r is =
    subst (IsSettledUp (length c.provers)) (sym is) (law (rules_of_case digest (data_of c) start) (says_of_case digest (data_of c) start) (playable digest c start))

pub ended-settled : RecordsOfCasesAreSettledUp → (digest : List ℕ → List ℕ) (ls : List LoadedCase)
    → All (λ (e : EndedCase). IsSettledUp (length e.case.now.provers) e.end.match_record) (map (ended_of_loaded digest) ls)
ended-settled law digest [] = All-nil (λ (e : EndedCase). IsSettledUp (length e.case.now.provers) e.end.match_record)
ended-settled law digest (l ∷ ls) =
    All-cons (λ (e : EndedCase). IsSettledUp (length e.case.now.provers) e.end.match_record) (ended_of_loaded digest l) (map (ended_of_loaded digest) ls)
    (record-settled law digest l.case.now (state_of l.start) _ refl) (ended-settled law digest ls)

-- cases and machines, and how they end

abbrev pub endings-of-loaded : (List ℕ → List ℕ) → List LoadedCase → List (Record × Verdict)
endings-of-loaded digest ls = map (λ (e : EndedCase). (e.end.match_record, e.end.verdict)) (map (ended_of_loaded digest) ls)

pub all-fresh : (digest : List ℕ → List ℕ) (ls : List LoadedCase) (starts : List Machine) → map (λ (l : LoadedCase). l.start) ls ≡ starts → All (IsChained digest) starts
    → All (λ (m : Machine). m.output.items ≡ []) starts → All (λ (l : LoadedCase). IsFresh digest l.start) ls
all-fresh digest ls starts are chained silent =
    by ls (subst (All (IsChained digest)) (sym are) chained) (subst (All (λ (m : Machine). m.output.items ≡ [])) (sym are) silent)
  where
    by : (ks : List LoadedCase) → All (IsChained digest) (map (λ (l : LoadedCase). l.start) ks) → All (λ (m : Machine). m.output.items ≡ []) (map (λ (l : LoadedCase). l.start) ks)
        → All (λ (l : LoadedCase). IsFresh digest l.start) ks
    by [] c s = All-nil (λ (l : LoadedCase). IsFresh digest l.start)
    by (k ∷ ks) c s =
        All-cons (λ (l : LoadedCase). IsFresh digest l.start) k ks
        (record { chained = All-head (IsChained digest) k.start (map (λ (l : LoadedCase). l.start) ks) c; silent = All-head (λ (m : Machine). m.output.items ≡ []) k.start (map (λ (l : LoadedCase). l.start) ks) s })
        (by ks (All-tail (IsChained digest) k.start (map (λ (l : LoadedCase). l.start) ks) c) (All-tail (λ (m : Machine). m.output.items ≡ []) k.start (map (λ (l : LoadedCase). l.start) ks) s))

-- one more case with its machine
pub one-more-loaded : (cs : List Case) (i : ℕ) (old now : List LoadedCase) (l : LoadedCase) → now ≡ old ++ l ∷ [] → i < length cs → l.case.now ≡ get_or cs i l.case.now
    → map (λ (k : LoadedCase). data_of k.case.now) old ≡ map data_of (take i cs) → map (λ (k : LoadedCase). data_of k.case.now) now ≡ map data_of (take (i + 1) cs)
one-more-loaded cs i old now l pushed within read so_far =
    ap (map (λ (k : LoadedCase). data_of k.case.now)) pushed
    ∙ (map-append (λ (k : LoadedCase). data_of k.case.now) old (l ∷ [])
    ∙ (ap (λ (ds : List CaseData). ds ++ data_of l.case.now ∷ []) so_far
    ∙ (sym (map-append data_of (take i cs) (l.case.now ∷ []))
    ∙ ap (map data_of) (sym (take_more cs i l.case.now within ∙ ap (λ (y : Case). take i cs ++ y ∷ []) (sym read))))))

zipped : (digest : List ℕ → List ℕ) (ls : List LoadedCase)
    → endings-of-loaded digest ls ≡ endings_of_cases digest (map (λ (l : LoadedCase). data_of l.case.now) ls) (map state_of (map (λ (l : LoadedCase). l.start) ls))
zipped digest [] = refl
zipped digest (l ∷ ls) = ap (λ (es : List (Record × Verdict)). ending_of_case digest (data_of l.case.now) (state_of l.start) ∷ es) (zipped digest ls)

pub as-alone : (digest : List ℕ → List ℕ) (ls : List LoadedCase) (cs : List CaseData) (starts : List Machine) (es : List (Record × Verdict)) → map (λ (l : LoadedCase). data_of l.case.now) ls ≡ cs
    → map (λ (l : LoadedCase). l.start) ls ≡ starts → es ≡ endings-of-loaded digest ls → es ≡ endings_of_cases digest cs (map state_of starts)
as-alone digest ls cs starts es cases_are starts_are is =
    is ∙ (zipped digest ls ∙ ap₂ (λ (ds : List CaseData) (ms : List Machine). endings_of_cases digest ds (map state_of ms)) cases_are starts_are)

settled : RecordsOfCasesAreSettledUp → (digest : List ℕ → List ℕ) (ls : List LoadedCase) → AreSettledUp (map (λ (l : LoadedCase). data_of l.case.now) ls) (endings-of-loaded digest ls)
settled law digest [] = All-nil (λ (x : CaseData × (Record × Verdict)). IsSettledUp (length x.0.provers) x.1.0)
settled law digest (l ∷ ls) =
    All-cons (λ (x : CaseData × (Record × Verdict)). IsSettledUp (length x.0.provers) x.1.0) (data_of l.case.now, ending_of_case digest (data_of l.case.now) (state_of l.start))
    (zip (map (λ (k : LoadedCase). data_of k.case.now) ls) (endings-of-loaded digest ls)) (record-settled law digest l.case.now (state_of l.start) _ refl) (settled law digest ls)

pub all-settled-up : RecordsOfCasesAreSettledUp → (digest : List ℕ → List ℕ) (ls : List LoadedCase) (cs : List CaseData) (es : List (Record × Verdict)) → map (λ (l : LoadedCase). data_of l.case.now) ls ≡ cs
    → es ≡ endings-of-loaded digest ls → AreSettledUp cs es
all-settled-up law digest ls cs es cases_are is = subst (λ (ds : List CaseData). AreSettledUp ds es) cases_are (subst (AreSettledUp (map (λ (l : LoadedCase). data_of l.case.now) ls)) (sym is) (settled law digest ls))
