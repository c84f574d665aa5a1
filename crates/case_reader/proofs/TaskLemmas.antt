-- Reading on, one task after another.
use Rattle.std.proofs.Common.{◌≡◌, ◌≢◌, ℕ, ◌+◌, List, [], ◌∷◌, ◌++◌, Result, Ok, Err, refl, sym, ap, ◌∙◌, append_assoc}
use Rattle.std.proofs.lemmas.List.{append-nil}
use Rattle.serde_json.specs.Data.{Data}
use Rattle.rd_base.specs.Results.{◌>>=◌, map_fault}
use Rattle.case_reader.specs.Case.{CaseData, case_of}
use Rattle.case_reader.specs.Fault.{whole_fault}
use Rattle.case_reader.specs.Tasks.{cases_in}
use Rattle.case_reader.specs.declared.fault.CaseFault.{CaseFault}
use Rattle.case_reader.specs.declared.fault.CaseFault.TheVariants.{NotJson, NotObject, Missing, WrongType, BadHex, OutOfRange, BadProver, Memory}
use Rattle.case_reader.specs.declared.fault.TaskFault.{TaskFault}
use Rattle.case_reader.specs.declared.fault.TaskFault.TheVariants.{Task, Whole}
use Rattle.case_reader.specs.declared.fault.TaskFault.TheVariants as tasks

-- what was read so far, before the rest
abbrev pub after : List CaseData → Result (List CaseData) TaskFault → Result (List CaseData) TaskFault
after prefix reading = reading >>= λ rest. Ok (prefix ++ rest)

pub read_more : (prefix : List CaseData) (number : ℕ) (task : Data) (tasks : List Data) (c : CaseData) → map_fault (Task number) (case_of task) ≡ Ok c
    → after prefix (cases_in number (task ∷ tasks)) ≡ after (prefix ++ c ∷ []) (cases_in (number + 1) tasks)
unfolding cases_in
read_more prefix number task tasks c known = rw known (regrouped (cases_in (number + 1) tasks))
  where
    regrouped : (rest : Result (List CaseData) TaskFault) → after prefix (rest >>= λ cs. Ok (c ∷ cs)) ≡ after (prefix ++ c ∷ []) rest
    regrouped (Ok cs) = ap Ok (sym (append_assoc prefix (c ∷ []) cs))
    regrouped (Err e) = refl

pub read_all_tasks : (prefix : List CaseData) (number : ℕ) (tasks : List Data) → tasks ≡ [] → after prefix (cases_in number tasks) ≡ Ok prefix
unfolding cases_in
read_all_tasks prefix number tasks none = rw none (ap Ok (append-nil prefix))

pub read_fault : (prefix : List CaseData) (number : ℕ) (task : Data) (tasks : List Data) (e : TaskFault) → map_fault (Task number) (case_of task) ≡ Err e
    → after prefix (cases_in number (task ∷ tasks)) ≡ Err e
unfolding cases_in
read_fault prefix number task tasks e unknown = rw unknown refl

-- a fault of a whole text, as it is passed on
pub whole-other : (e : CaseFault) → e ≢ Memory → Whole e ≡ whole_fault e
whole-other NotJson other = refl
whole-other NotObject other = refl
whole-other (Missing key) other = refl
whole-other (WrongType key) other = refl
whole-other (BadHex key) other = refl
whole-other (OutOfRange key) other = refl
whole-other (BadProver n) other = refl
whole-other Memory other = absurd (other refl)

pub whole-fails : {A : Type 0} (reading : Result A CaseFault) (e : CaseFault) (g : TaskFault) → (e ≢ Memory → reading ≡ Err e) → g ≡ whole_fault e → g ≢ tasks.Memory
    → map_fault Whole reading ≡ Err g
whole-fails reading e g fails is other =
    let known : e ≢ Memory = λ same. other (is ∙ ap whole_fault same) in
    ap (map_fault Whole) (fails known) ∙ ap Err (whole-other e known ∙ sym is)

pub ruleset whole_rules = (whole-other, whole-fails)
