-- The sentence in short of plain words, from that of all arguments.
use Rattle.std.proofs.Common.{◌≡◌, ℕ, List, [], ◌∷◌, codes, Option, Some, sym, ap, ◌∙◌}
use Rattle.std.specs.Prelude.{zip}
use Rattle.std.proofs.lemmas.List.Elements.{All-weaker}
use Rattle.rv_step.specs.State.{State}
use Rattle.case_reader.specs.Case.{CaseData}
use Rattle.case_reader.specs.declared.case.Format.{Format}
use Rattle.case_reader.specs.declared.case.Format.TheVariants.{Flat, Elf, Asm}
use Rattle.image_reader.specs.Image.{Image}
use Rattle.digest_core.specs.declared.name.DigestName.{DigestName}
use Rattle.command_line.specs.Words.{chosen}
use Rattle.command_line.specs.Options.{Given, ArePlain, words_of, text_asked, judge_of}
use Rattle.command_line.specs.declared.request.Command.TheVariants.{Judge, Run}
use Rattle.delegate.specs.InShort.{IsBinaryImageOf, IsImageOf, IsStartOf, AreTasksOf, TaskEnds, TasksEnd, AskForTheMatch, AskForTheRun, SaysInShort, IsWrittenOf}
use Rattle.delegate.specs.Plainly.{AreWordsOfJudge, AreWordsOfRun, SaysPlainly}
use Rattle.delegate.specs.InShortLaw.{InShortSaysPlainly}
use Rattle.delegate.specs.Writing.{ForItsBytes}
use Rattle.delegate.proofs.OutcomeLemmas.{for_its_bytes}

-- a file of bytes is read by its format

image : (f : Format) (file : List ℕ) (i : Image) → IsBinaryImageOf f file i → IsImageOf f file i
image Flat file i is = is
image Elf file i is = is
image Asm file i is = absurd is

start-as : (c : CaseData) (start : State) → IsStartOf IsBinaryImageOf c start → IsStartOf IsImageOf c start
start-as c start is = record { image = is.image; loads = image c.format c.image is.image is.loads; is = is.is }

tasks-as : (bytes : List ℕ) (cs : List CaseData) → AreTasksOf IsBinaryImageOf bytes cs → AreTasksOf IsImageOf bytes cs
tasks-as bytes cs are = record {
  short = are.short;
  reads = are.reads;
  load = All-weaker (λ (c : CaseData). (start : State) × IsStartOf IsBinaryImageOf c start) (λ (c : CaseData). (start : State) × IsStartOf IsImageOf c start)
      (λ c loads. (loads.0, start-as c loads.0 loads.1)) cs are.load;
}

end-as : (name : DigestName) (cs : List CaseData) (text : List ℕ) → TasksEnd (TaskEnds IsImageOf name) cs text → TasksEnd (TaskEnds IsBinaryImageOf name) cs text
end-as name cs text end = record {
  parts = end.parts;
  count = end.count;
  apart = end.apart;
  whole = end.whole;
  each = All-weaker (TaskEnds IsImageOf name) (TaskEnds IsBinaryImageOf name) (λ task ends start starts contains. ends start (start-as task.0 start starts) contains) (zip cs end.parts) end.each;
}

-- plain words ask for the match, and for the run

abbrev pub PlainWordsJudge : Type 0
PlainWordsJudge = (program : List ℕ) (given : List Given) → ArePlain given → chosen (program ∷ codes "judge" ∷ words_of given) ≡ Some (judge_of given)

abbrev pub PlainWordsRun : Type 0
PlainWordsRun = (program : List ℕ) → chosen (program ∷ codes "run" ∷ []) ≡ Some Run

judges : PlainWordsJudge → (words : List (List ℕ)) (name : DigestName) → AreWordsOfJudge words name → AskForTheMatch words name
judges law words name are = record {
  text = text_asked are.given;
  chosen_is = ap chosen are.are ∙ (law are.program are.given are.plain ∙ ap (λ (n : DigestName). Some (Judge (text_asked are.given) n)) (sym are.asked));
}

runs : PlainWordsRun → (words : List (List ℕ)) → AreWordsOfRun words → AskForTheRun words
runs law words are = ap chosen are.are ∙ law are.program

pub plainly : PlainWordsJudge → PlainWordsRun → InShortSaysPlainly
plainly of_judge of_run words bytes status text short = record {
  judge = λ name c start are reads starts contains. short.judge name c start (judges of_judge words name are) reads (start-as c start starts) contains;
  judge_tasks = λ name cs are tasks. end-as name cs text (short.judge_tasks name cs (judges of_judge words name are) (tasks-as bytes cs tasks));
  run = λ c start are reads starts. short.run c start (runs of_run words are) reads (start-as c start starts);
}

-- of what was written

pub written-plainly : InShortSaysPlainly → (left : Option (List ℕ)) (words : List (List ℕ)) (status : ℕ) (before now : Option (List ℕ))
    → ForItsBytes left (λ bytes. IsWrittenOf (SaysInShort words bytes status) before now) → ForItsBytes left (λ bytes. IsWrittenOf (SaysPlainly words bytes status) before now)
written-plainly law left words status before now read =
    for_its_bytes left _ _ (λ bytes is. record { text = is.text; written = is.written; says = law words bytes status is.text is.says }) read
