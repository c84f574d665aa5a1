-- A path with the siblings of a tree is the tree's, and so is what is opened with it.
use Rattle.std.proofs.Common.{◌≡◌, ℕ, ◌/◌, ◌^◌, ◌<◌, List, [], length, map, slice_index, arith, sym, ◌∙◌}
use Rattle.std.specs.List.{range_with_len}
use Rattle.std.proofs.lemmas.List.{ext_get_or}
use Rattle.std.proofs.lemmas.List.FromFn.{get_or-map-range_with_len, length-map-range_with_len}
use Rattle.rd_base.specs.declared.digest.Digest32.{Digest32}
use Rattle.rd_base.specs.declared.opened.InOpening.{InOpening}
use Rattle.rd_base.specs.declared.opened.Opening.{Opening}
use Rattle.rd_base.specs.declared.opened.RegOpening.{RegOpening}
use Rattle.mem_plain.specs.Contents.{Contents, chunk_at}
use Rattle.merkle_nodes.specs.Node.{node, beside}
use Rattle.merkle_nodes.specs.Opening.{IsPath}
use Rattle.mem_tree.specs.Memory.{memory_leaf}
use Rattle.mem_tree.specs.RegisterTree.{register_leaf}
use Rattle.mem_tree.specs.InputTree.{input_chunk, input_leaf}
use Rattle.open_proof.specs.OpenedChunk.{siblings_of, opening_of}
use Rattle.open_proof.specs.PlainProof.{register_siblings, opened_register, input_siblings, input_opening_of}

same-digest : (x y : Digest32) → x.0 ≡ y.0 → x ≡ y
same-digest x y same = λ i. record { 0 = same i }

-- the nodes beside a leaf's way up, in a tree of so many levels
abbrev siblings-in : (List ℕ → List ℕ) → (ℕ → List ℕ) → ℕ → ℕ → List Digest32
siblings-in digest leaf n k = map (λ l. record { 0 = node digest leaf l (beside (k / 2 ^ l)) }) (range_with_len 0 n)

path-is : (digest : List ℕ → List ℕ) (leaf : ℕ → List ℕ) (n k : ℕ) (path : List Digest32) → length path ≡ n → IsPath digest leaf n k path → path ≡ siblings-in digest leaf n k
path-is digest leaf n k path levels is =
    let along : ℕ → Digest32 = λ l. record { 0 = node digest leaf l (beside (k / 2 ^ l)) } in
    let none : Digest32 = record { 0 = [] } in
    ext_get_or none path (map along (range_with_len 0 n)) (levels ∙ sym (length-map-range_with_len along 0 n)) (λ l below.
    let low : l < n = omega (arith, levels) in
    same-digest _ _ (is l low) ∙ sym (get_or-map-range_with_len along 0 n l l none low (omega arith)))

-- a chunk of memory, a register and a chunk of the input, each with its path
pub opening-is : (digest : List ℕ → List ℕ) (m : Contents) (addr : ℕ) (o : Opening) → o.chunk ≡ chunk_at m (addr / 32) → length o.path.0 ≡ 27
    → IsPath digest (memory_leaf m) 27 (addr / 32) o.path.0 → o ≡ opening_of digest m addr
unfolding siblings_of
opening-is digest m addr o same levels is =
    let path = path-is digest (memory_leaf m) 27 (addr / 32) o.path.0 levels is in
    λ i. record { chunk = same i; path = record { 0 = path i } }

pub register-is : (digest : List ℕ → List ℕ) (xs : List ℕ) (r : ℕ) (o : RegOpening) → o.value ≡ slice_index xs r → length o.path.0 ≡ 5
    → IsPath digest (register_leaf xs) 5 r o.path.0 → o ≡ opened_register digest xs r
unfolding register_siblings
register-is digest xs r o same levels is =
    let path = path-is digest (register_leaf xs) 5 r o.path.0 levels is in
    λ i. record { value = same i; path = record { 0 = path i } }

pub input-is : (digest : List ℕ → List ℕ) (input : List ℕ) (k : ℕ) (o : InOpening) → o.chunk ≡ input_chunk input (k / 32) → length o.path.0 ≡ 15
    → IsPath digest (input_leaf input) 15 (k / 32) o.path.0 → o ≡ input_opening_of digest input k
unfolding input_siblings
input-is digest input k o same levels is =
    let path = path-is digest (input_leaf input) 15 (k / 32) o.path.0 levels is in
    λ i. record { chunk = same i; path = record { 0 = path i } }
