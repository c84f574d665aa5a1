-- `big`: one of its eight provers is `{}`, its image is loaded, and so the sentence in short holds of it without a premise.
use Rattle.std.proofs.Common.{◌≡◌, ℕ, ◌%◌, ◌<◌, ◌⊎◌, inl, inr, ◌++◌, ◌==◌, List, length, codes, map, Bool, true, false, Option, Some, Ok, refl, sym, ap, subst, ◌∙◌, arith, append_assoc}
use Rattle.std.specs.Prelude.{Contains, if◌then◌else◌}
use Rattle.std.specs.List.{range_with_len}
use Rattle.std.specs.Option.{option_and_then}
use Rattle.std.proofs.lemmas.List.Elements.{Contains-get_or}
use Rattle.std.proofs.lemmas.List.FromFn.{length-map-range_with_len, get_or-map-range_with_len}
use Rattle.rv_step.specs.Step.{state_at}
use Rattle.image_reader.specs.Image.{flat_at}
use Rattle.case_reader.specs.Tasks.{One, CasesAreTasks}
use Rattle.transcript_text.specs.declared.text.Head.{Head}
use Rattle.digest_core.specs.declared.name.DigestName.TheVariants.{Sha256}
use Rattle.tournament.specs.Bracket.{Record}
use Rattle.deposits.specs.declared.amounts.Balances.{Balances}
use Rattle.transcript_text.specs.Summary.{workload_text, counts_text, rounds_in}
use Rattle.workload.specs.Draws.{first_values}
use Rattle.workload.specs.Program.{program}
use Rattle.workload.specs.Workload.{prover_script, untampered, tampered_at, tampered_step, tampered_value, big_data}
use Rattle.command_line.specs.Words.{chosen}
use Rattle.command_line.specs.declared.request.Command.TheVariants.{Big}
use Rattle.case_match.specs.Match.{start_root, record_of_case}
use Rattle.case_match.specs.HonestScripts.{UntouchedProversAreTruthful}
use Rattle.delegate.specs.Answered.{status_number}
use Rattle.digest_core.specs.Name.{digest_of}
use Rattle.delegate.specs.Decided.{summary, before_verdict, match_head, balances_in, response_to_case, case_for}
use Rattle.delegate.specs.Loading.{start_or_refusal}
use Rattle.delegate.specs.commands.Big.{summing_up}
use Rattle.delegate.specs.Headline.{HeadlineOfCases, AcceptsTheRun, ShowsCollision, IsCase}
use Rattle.delegate.specs.InShort.{honest, accepting, colliding, EndsWith, ShowsTwoStrings, big_start, big_bound, SaysOfBig, IsWrittenOf}
use Rattle.delegate.specs.InShortLaw.{BigInShort}
use Rattle.delegate.specs.Outcome.{decides, outcome}
use Rattle.delegate.specs.Writing.{ForItsBytes}
use Rattle.std.specs.Io.KnownBytes.{Appends}
use Rattle.delegate.specs.Standing.{DecidesInRange}
use Rattle.delegate.specs.declared.response.Subject.TheVariants.{Whole}
use Rattle.delegate.specs.declared.response.Response.{Response}
use Rattle.delegate.proofs.CaseLemmas.{outcome-case, one-case, one-played}
use Rattle.delegate.proofs.InShortLemmas.{honest-truthful, colliding-line, written-of}

-- ONE OF ITS PROVERS IS `{}`

contains-value : {X : Type 0} (n k : ℕ) (f : ℕ → X) → k < n → Contains (first_values n f) (f k)
unfolding first_values
contains-value n k f below =
    let xs = map f (range_with_len 0 n) in
    let short : k < length xs = omega (arith, length-map-range_with_len f 0 n, below) in
    subst (Contains xs) (get_or-map-range_with_len f 0 n k k (f k) below (omega arith)) (Contains-get_or xs k (f k) short)

honest-place : (seed : ℕ) → prover_script seed (seed % 8) ≡ honest
honest-place seed = by (seed % 8 == seed % 8) same
  where
    same : (seed % 8 == seed % 8) ≡ true
    same = search arith

    by : (b : Bool) → b ≡ true → (if b then untampered else tampered_at (tampered_step seed (seed % 8)) (tampered_value seed (seed % 8))) ≡ honest
    by true is = refl
    by false is = absurd (cc is)

honest-plays : (seed : ℕ) → Contains (big_data seed).provers honest
unfolding big_data
honest-plays seed =
    let below : seed % 8 < 8 = omega arith in
    subst (Contains (first_values 8 (prover_script seed))) (honest-place seed) (contains-value 8 (seed % 8) (prover_script seed) below)

-- ITS IMAGE IS LOADED

big-loads : (seed : ℕ) → start_or_refusal Whole (big_data seed) ≡ Ok (big_start seed)
unfolding start_or_refusal big_data flat_at program
big-loads seed = refl

bound-is : (seed : ℕ) → (big_data seed).bound ≡ big_bound
unfolding big_data big_bound
bound-is seed = refl

big-asked : (words : List (List ℕ)) (bytes : List ℕ) (seed : ℕ) → chosen words ≡ Some (Big seed) → IsCase words bytes (summing_up seed) (big_data seed) (big_start seed)
unfolding case_for
big-asked words bytes seed chosen_is = record { asked = ap (option_and_then decides) chosen_is; reads = refl; loads = big-loads seed }

-- THE LAW

ends-summary : (seed : ℕ) (head : Head) (settled : Record) (balances : Option Balances) (line text : List ℕ)
    → text ≡ before_verdict (summary seed) head settled balances (line ++ codes "\n") → EndsWith line text
ends-summary seed head settled balances line text is =
    let first = workload_text seed (length settled.claims) in
    let counts = counts_text (length settled.disputes) (rounds_in settled.disputes) in
    record { before = first ++ counts; whole = is ∙ sym (append_assoc first counts (codes " " ++ (line ++ codes "\n"))) }

pub big_in_short : HeadlineOfCases → ((digest : List ℕ → List ℕ) → UntouchedProversAreTruthful digest) → BigInShort
big_in_short headline untouched seed range bytes =
    let c = big_data seed in
    let start = big_start seed in
    let p = honest-truthful (digest_of Sha256) (untouched (digest_of Sha256)) c start range (honest-plays seed) in
    (refl, by (headline (summing_up seed) c start p.0 range bytes p.1).ends)
  where
    by : AcceptsTheRun (summing_up seed) (response_to_case (summing_up seed) (big_data seed) (big_start seed)) (big_data seed) (big_start seed)
        ⊎ ShowsCollision (summing_up seed) (response_to_case (summing_up seed) (big_data seed) (big_start seed)) (big_data seed) (big_start seed)
        → EndsWith (accepting (state_at (big_start seed) big_bound)) (response_to_case (summing_up seed) (big_data seed) (big_start seed)).text
        ⊎ ShowsTwoStrings EndsWith Sha256 (response_to_case (summing_up seed) (big_data seed) (big_start seed)).text
    by (inl accepts) = inl (
        let settled = record_of_case (digest_of Sha256) (big_data seed) (big_start seed) in
        let head = match_head Sha256 (big_data seed) (start_root (digest_of Sha256) (big_start seed)) in
        subst (λ bound. EndsWith (accepting (state_at (big_start seed) bound)) (response_to_case (summing_up seed) (big_data seed) (big_start seed)).text) (bound-is seed)
        (ends-summary seed head settled (balances_in (big_data seed) settled) (accepting (state_at (big_start seed) (big_data seed).bound)) (response_to_case (summing_up seed) (big_data seed) (big_start seed)).text accepts.text))
    by (inr shows) = inr (
        let settled = record_of_case (digest_of Sha256) (big_data seed) (big_start seed) in
        let head = match_head Sha256 (big_data seed) (start_root (digest_of Sha256) (big_start seed)) in record {
          x = shows.pair.0;
          y = shows.pair.1;
          strings = record { first = shows.of_bytes.0; second = shows.of_bytes.1; differ = shows.collision.collision.differ; one_digest = shows.collision.collision.one_digest };
          last = ends-summary seed head settled (balances_in (big_data seed) settled) (colliding shows.pair.0 shows.pair.1) (response_to_case (summing_up seed) (big_data seed) (big_start seed)).text
              (shows.text ∙ ap (before_verdict (summary seed) head settled (balances_in (big_data seed) settled)) (colliding-line shows.pair.0 shows.pair.1));
        })

pub outcome-of-big : CasesAreTasks → BigInShort → (words : List (List ℕ)) (bytes : List ℕ) → DecidesInRange (chosen words) bytes
    → SaysOfBig words (status_number (outcome words bytes).answered) (outcome words bytes).text
outcome-of-big law short words bytes in_range seed chosen_is =
    let is = big-asked words bytes seed chosen_is in
    let played = one-played (summing_up seed) (big_data seed) (big_start seed) is.loads
    (in_range (summing_up seed) is.asked (One (big_data seed)) (one-case law (summary seed) bytes (big_data seed) is.reads)) in
    subst
    (λ (r : Response). (status_number r.answered ≡ 0) × (EndsWith (accepting (state_at (big_start seed) big_bound)) r.text ⊎ ShowsTwoStrings EndsWith Sha256 r.text))
    (sym (outcome-case law words bytes (summing_up seed) (big_data seed) (big_start seed) is)) (short seed played.range played.shown.strings)

pub big_written : CasesAreTasks → BigInShort → (left : Option (List ℕ)) (words : List (List ℕ)) (response : Response) (before now : Option (List ℕ))
    → Appends before now response.text → ForItsBytes left (λ bytes. (response ≡ outcome words bytes) × DecidesInRange (chosen words) bytes)
    → IsWrittenOf (SaysOfBig words (status_number response.answered)) before now
big_written law short left words response before now appended read =
    (written-of left words response before now (λ bytes. SaysOfBig words) appended (outcome-of-big law short words) read).2

pub big-by : (words other : List (List ℕ)) (number status : ℕ) (before now : Option (List ℕ)) → words ≡ other → status ≡ number
    → IsWrittenOf (SaysOfBig words number) before now → IsWrittenOf (SaysOfBig other status) before now
big-by words other number status before now same is said =
    subst (λ (n : ℕ). IsWrittenOf (SaysOfBig other n) before now) (sym is) (subst (λ (ws : List (List ℕ)). IsWrittenOf (SaysOfBig ws number) before now) same said)
