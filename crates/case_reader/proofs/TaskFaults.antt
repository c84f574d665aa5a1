-- No rule of tasks is that memory ran out, and a case is read as one task.
use Rattle.std.proofs.Common.{◌≡◌, ◌≢◌, ℕ, ◌+◌, List, [], ◌∷◌, Bool, true, false, Option, Some, None, Result, Ok, Err, refl, sym, ap, ◌∙◌, subst, inl, inr}
use Rattle.std.specs.Prelude.{◌↔◌, if◌then◌else◌}
use Rattle.std.specs.Option.{ok_or}
use Rattle.std.proofs.lemmas.Bool.{cases_Bool}
use Rattle.rd_base.specs.Results.{◌>>=◌, map_fault}
use Rattle.serde_json.specs.Data.{Data, null, boolean, number, string, array, object}
use Rattle.serde_json.specs.Find.{as_object}
use Rattle.case_reader.specs.declared.fault.Key.TheVariants.{Tasks}
use Rattle.case_reader.specs.declared.fault.CaseFault.{CaseFault}
use Rattle.case_reader.specs.declared.fault.CaseFault.TheVariants.{NotJson, NotObject, Missing, WrongType, BadHex, OutOfRange, BadProver, Memory}
use Rattle.case_reader.specs.declared.fault.TaskFault.{TaskFault}
use Rattle.case_reader.specs.declared.fault.TaskFault.TheVariants as tasks
use Rattle.case_reader.specs.Fields.{has_tasks}
use Rattle.case_reader.specs.Case.{CaseData, case_of, case_at, tree_of}
use Rattle.case_reader.specs.Tasks.{One, Many, tasks_in, cases_in, many_of, one_of, tasks_of, tasks_at, CasesAreTasks}
use Rattle.case_reader.proofs.FaultLemmas.{IsFree, then-free, some-free, if-free, array-free, case-free}

-- a fault that is, or holds, out of memory

abbrev is_memory : CaseFault → Bool
is_memory Memory = true
is_memory _ = false

abbrev holds_memory : TaskFault → Bool
holds_memory (tasks.Whole f) = is_memory f
holds_memory (tasks.Task n f) = is_memory f
holds_memory tasks.Memory = true

abbrev IsGood : {A : Type 0} → Result A TaskFault → Type 0
IsGood r = (e : TaskFault) → r ≡ Err e → holds_memory e ≡ false

not-memory : {A : Type 0} (f : CaseFault) → IsFree {A = A} (Err f) → is_memory f ≡ false
not-memory NotJson free = refl
not-memory NotObject free = refl
not-memory (Missing key) free = refl
not-memory (WrongType key) free = refl
not-memory (BadHex key) free = refl
not-memory (OutOfRange key) free = refl
not-memory (BadProver n) free = refl
not-memory Memory free = absurd (free refl)

good-fault : {A : Type 0} (wrap : CaseFault → TaskFault) → ((f : CaseFault) → holds_memory (wrap f) ≡ is_memory f) → (r : Result A CaseFault) → IsFree r → IsGood (map_fault wrap r)
good-fault wrap holds (Ok x) free = λ e is. absurd (cc is)
good-fault wrap holds (Err f) free = λ e is. let same : wrap f ≡ e = cc is in subst (λ (g : TaskFault). holds_memory g ≡ false) same (holds f ∙ not-memory f free)

good-then : {A B : Type 0} (r : Result A TaskFault) (f : A → Result B TaskFault) → IsGood r → ((x : A) → IsGood (f x)) → IsGood (r >>= f)
good-then (Ok x) f good further = further x
good-then (Err e) f good further = λ g is. good g (ap Err (cc is))

good-ok : {A : Type 0} (x : A) → IsGood (Ok x)
good-ok x = λ e is. absurd (cc is)

elements-free : (tree : Data) → IsFree (tasks_in tree)
unfolding tasks_in
elements-free tree = then-free _ _ (array-free Tasks tree) (λ elements. if-free _ elements (OutOfRange Tasks) (λ is. cc is))

cases-good : (n : ℕ) (elements : List Data) → IsGood (cases_in n elements)
unfolding cases_in
cases-good n [] = good-ok []
cases-good n (element ∷ elements) =
    good-then _ _ (good-fault (tasks.Task n) (λ f. refl) (case_of element) (case-free element)) (λ c. good-then _ _ (cases-good (n + 1) elements) (λ cs. good-ok (c ∷ cs)))

many-good : (tree : Data) → IsGood (many_of tree)
unfolding many_of
many-good tree = good-then _ _ (good-fault tasks.Whole (λ f. refl) (tasks_in tree) (elements-free tree)) (λ elements. good-then _ _ (cases-good 1 elements) (λ cs. good-ok (Many cs)))

one-good : (tree : Data) → IsGood (one_of tree)
unfolding one_of
one-good tree = good-then _ _ (good-fault tasks.Whole (λ f. refl) (case_of tree) (case-free tree)) (λ c. good-ok (One c))

either-good : {A : Type 0} (b : Bool) (x y : Result A TaskFault) → IsGood x → IsGood y → IsGood (if b then x else y)
either-good true x y good other = good
either-good false x y good other = other

all-good : (bytes : List ℕ) → IsGood (tasks_at bytes)
unfolding tasks_at
all-good bytes =
    good-then _ _ (good-fault tasks.Whole (λ f. refl) (ok_or (tree_of bytes) NotJson) (some-free (tree_of bytes) NotJson (λ is. cc is)))
    (λ tree. either-good (has_tasks tree) (many_of tree) (one_of tree) (many-good tree) (one-good tree))

pub no_task_fault_is_memory : (bytes : List ℕ) → ¬ (tasks_at bytes ≡ Err tasks.Memory)
no_task_fault_is_memory bytes is = let never : true ≡ false = all-good bytes tasks.Memory is in absurd (cc never)

pub no_whole_fault_is_memory : (bytes : List ℕ) → ¬ (tasks_at bytes ≡ Err (tasks.Whole Memory))
no_whole_fault_is_memory bytes is = let never : true ≡ false = all-good bytes (tasks.Whole Memory) is in absurd (cc never)

pub no_fault_of_a_task_is_memory : (bytes : List ℕ) (n : ℕ) → ¬ (tasks_at bytes ≡ Err (tasks.Task n Memory))
no_fault_of_a_task_is_memory bytes n is = let never : true ≡ false = all-good bytes (tasks.Task n Memory) is in absurd (cc never)

-- a case is read as one task

-- with tasks there is no case, whose fault is then that of the key
refused-key : {A B : Type 0} (o : Option A) (b : Bool) (tree : Data) (f : A → Data → Result B CaseFault) → (o ≡ None → b ≡ false) → b ≡ true →
    (ok_or o NotObject >>= λ m. (if b then Err (OutOfRange Tasks) else Ok tree) >>= f m) ≡ Err (OutOfRange Tasks)
refused-key (Some m) true tree f nothing there = refl
refused-key (Some m) false tree f nothing there = absurd (cc there)
refused-key None b tree f nothing there = let never : true ≡ false = sym there ∙ nothing refl in absurd (cc never)

is-object : (tree : Data) → as_object tree ≡ None → has_tasks tree ≡ false
is-object null none = refl
is-object (boolean b) none = refl
is-object (number n) none = refl
is-object (string s) none = refl
is-object (array ds) none = refl
is-object (object ms) none = absurd (cc none)

with-tasks : (tree : Data) → has_tasks tree ≡ true → case_of tree ≡ Err (OutOfRange Tasks)
unfolding case_of
with-tasks tree there = refused-key (as_object tree) (has_tasks tree) tree _ (is-object tree) there

never-one : (tree : Data) (c : CaseData) → ¬ (many_of tree ≡ Ok (One c))
unfolding many_of
never-one tree c = by (tasks_in tree)
  where
    by-cases : (r : Result (List CaseData) TaskFault) → ¬ ((r >>= λ cs. Ok (Many cs)) ≡ Ok (One c))
    by-cases (Ok cs) is = let never : Many cs ≡ One c = cc is in absurd (cc never)
    by-cases (Err e) is = absurd (cc is)

    by : (r : Result (List Data) CaseFault) → ¬ ((map_fault tasks.Whole r >>= λ elements. cases_in 1 elements >>= λ cs. Ok (Many cs)) ≡ Ok (One c))
    by (Ok elements) is = by-cases (cases_in 1 elements) is
    by (Err e) is = absurd (cc is)

one-same : (tree : Data) (c : CaseData) → one_of tree ≡ Ok (One c) ↔ case_of tree ≡ Ok c
unfolding one_of
one-same tree c = by (case_of tree)
  where
    by : (r : Result CaseData CaseFault) → (map_fault tasks.Whole r >>= λ d. Ok (One d)) ≡ Ok (One c) ↔ r ≡ Ok c
    by (Ok d) = (λ is. let same : One d ≡ One c = cc is in let one : d ≡ c = cc same in ap Ok one, λ is. let same : d ≡ c = cc is in ap (λ (x : CaseData). Ok (One x)) same)
    by (Err e) = (λ is. absurd (cc is), λ is. absurd (cc is))

one-refused : (tree : Data) (f : CaseFault) → case_of tree ≡ Err f → one_of tree ≡ Err (tasks.Whole f)
unfolding one_of
one-refused tree f is = ap (λ (r : Result CaseData CaseFault). map_fault tasks.Whole r >>= λ d. Ok (One d)) is

is-many : (tree : Data) → has_tasks tree ≡ true → tasks_of tree ≡ many_of tree
is-many tree there = ap (λ (b : Bool). if b then many_of tree else one_of tree) there

is-one : (tree : Data) → has_tasks tree ≡ false → tasks_of tree ≡ one_of tree
is-one tree absent = ap (λ (b : Bool). if b then many_of tree else one_of tree) absent

tree-same : (tree : Data) (c : CaseData) → tasks_of tree ≡ Ok (One c) ↔ case_of tree ≡ Ok c
tree-same tree c =
    elim (cases_Bool (has_tasks tree)) [
      | inl there ↦ (λ is. absurd (never-one tree c (sym (is-many tree there) ∙ is)), λ is. let never : Err (OutOfRange Tasks) ≡ Ok c = sym (with-tasks tree there) ∙ is in absurd (cc never))
      | inr absent ↦ (λ is. (one-same tree c).0 (sym (is-one tree absent) ∙ is), λ is. is-one tree absent ∙ (one-same tree c).1 is)
    ]

tree-refused : (tree : Data) (f : CaseFault) → case_of tree ≡ Err f → f ≢ OutOfRange Tasks → tasks_of tree ≡ Err (tasks.Whole f)
tree-refused tree f is other =
    elim (cases_Bool (has_tasks tree)) [
      | inl there ↦ let same : Err (OutOfRange Tasks) ≡ Err f = sym (with-tasks tree there) ∙ is in let one : f ≡ OutOfRange Tasks = cc same in absurd (other one)
      | inr absent ↦ is-one tree absent ∙ one-refused tree f is
    ]

bytes-same : (bytes : List ℕ) (c : CaseData) → tasks_at bytes ≡ Ok (One c) ↔ case_at bytes ≡ Ok c
unfolding tasks_at case_at
bytes-same bytes c = by (tree_of bytes)
  where
    by : (o : Option Data) → (map_fault tasks.Whole (ok_or o NotJson) >>= tasks_of) ≡ Ok (One c) ↔ (ok_or o NotJson >>= case_of) ≡ Ok c
    by (Some tree) = tree-same tree c
    by None = (λ is. absurd (cc is), λ is. absurd (cc is))

bytes-refused : (bytes : List ℕ) (f : CaseFault) → case_at bytes ≡ Err f → f ≢ OutOfRange Tasks → tasks_at bytes ≡ Err (tasks.Whole f)
unfolding tasks_at case_at
bytes-refused bytes f = by (tree_of bytes)
  where
    by : (o : Option Data) → (ok_or o NotJson >>= case_of) ≡ Err f → f ≢ OutOfRange Tasks → (map_fault tasks.Whole (ok_or o NotJson) >>= tasks_of) ≡ Err (tasks.Whole f)
    by (Some tree) is other = tree-refused tree f is other
    by None is other = let same : NotJson ≡ f = cc is in ap (λ (g : CaseFault). Err (tasks.Whole g)) same

pub cases_are_tasks : CasesAreTasks
cases_are_tasks = record { same = bytes-same; refused = bytes-refused }
