-- To believe. The bytes of a log of posts: one entry behind another. An entry is four numbers of four bytes each, the least byte first, which are
-- the prover, the dispute, the round and a length, and then so many bytes: none for a pass, and else the wire form of an answer.
use Rattle.std.specs.Prelude.{◌≡◌, ℕ, ◌+◌, ◌<◌, nat_lt, ◌==◌, ◌||◌, List, [], ◌∷◌, length, take, drop, Option, Some, None, Result, Ok, Err, if◌then◌else◌}
use Rattle.std.specs.Int.{w32, from_le_bytes}
use Rattle.rd_base.specs.declared.answer.Answer.{Answer}
use Rattle.rd_base.specs.Results.{◌>>=◌, map_fault}
use Rattle.proof_wire.specs.Reading.{answer_in}
use Rattle.tournament.specs.Posting.{Post}
use Rattle.open_match.specs.declared.entry.Entry.{Entry}
use Rattle.open_match.specs.declared.entry.EntryFault.{EntryFault}
use Rattle.open_match.specs.declared.entry.EntryFault.TheVariants.{Cut, NoProver, NoAnswer}

abbrev pub front_number : ℕ → List ℕ → ℕ
front_number place bytes = from_le_bytes w32 (take 4 (drop place bytes))

-- no bytes are a pass, and others the answer that they spell
abbrev pub answer_given : List ℕ → Result (Option Answer) EntryFault
answer_given wire = if length wire == 0 then Ok None else (map_fault NoAnswer (answer_in wire) >>= λ a. Ok (Some a))

-- the entry at the front of some bytes, and the bytes behind it: it is whole, its prover is one of `provers`, and it is a pass or an answer
unfoldable pub entry_at : ℕ → List ℕ → Result (Entry × List ℕ) EntryFault
entry_at provers bytes =
    if nat_lt (length bytes) 16 then Err Cut
    else if nat_lt (length (drop 16 bytes)) (front_number 12 bytes) then Err Cut
    else if (front_number 0 bytes == 0) || nat_lt provers (front_number 0 bytes) then Err NoProver
    else answer_given (take (front_number 12 bytes) (drop 16 bytes)) >>= (λ answer.
    Ok (record { prover = front_number 0 bytes; qid = record { dispute = front_number 4 bytes; round = front_number 8 bytes }; answer = answer }, drop (front_number 12 bytes) (drop 16 bytes)))

-- a post as an entry
abbrev pub entry_of : Post → Entry
entry_of x = record { prover = x.prover; qid = x.qid; answer = x.answer }

-- bytes begin with the entries of these posts, one behind another, and go on with the others
abbrev pub BeginWith : ℕ → List Post → List ℕ → List ℕ → Type 0
BeginWith provers [] bytes rest = bytes ≡ rest
BeginWith provers (x ∷ xs) bytes rest = (behind : List ℕ) × (entry_at provers bytes ≡ Ok (entry_of x, behind)) × BeginWith provers xs behind rest

-- THE LOG of these posts
abbrev pub IsLogOf : ℕ → List Post → List ℕ → Type 0
IsLogOf provers xs log = BeginWith provers xs log []

-- the first place at which bytes are no log: whole entries end there, bytes follow, and they begin with none
pub record IsNoLogAt (provers : ℕ) (log : List ℕ) (at : ℕ) (cause : EntryFault) : Type 0 where
  pub posts : List Post
  pub rest : List ℕ
  pub before : BeginWith provers posts log rest
  pub place : at + length rest ≡ length log
  pub more : 0 < length rest
  pub none : entry_at provers rest ≡ Err cause
