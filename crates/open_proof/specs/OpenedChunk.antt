-- To believe: the opened chunks of a memory, each with its path.
use Rattle.std.specs.Prelude.{◌≡◌, ℕ, ◌/◌, ◌^◌, List, map, Option, Some, None}
use Rattle.std.specs.List.{range_with_len}
use Rattle.rd_base.specs.declared.digest.Digest32.{Digest32}
use Rattle.rd_base.specs.declared.opened.Opening.{Opening}
use Rattle.mem_plain.specs.Contents.{Contents, chunk_at}
use Rattle.merkle_nodes.specs.Node.{beside}
use Rattle.merkle_nodes.specs.Opening.{IsPath}
use Rattle.mem_tree.specs.Memory.{memory_leaf, memory_node}
use Rattle.rv_step.specs.State.{State}
use Rattle.rv_step.specs.NextEffect.{address_fetched}

-- the path of a chunk, by its index: the node beside it at each of the levels 0 to 26
unfoldable pub siblings_of : (List ℕ → List ℕ) → Contents → ℕ → List Digest32
siblings_of digest m k = map (λ l. record { 0 = memory_node digest m l (beside (k / 2 ^ l)) }) (range_with_len 0 27)

-- the opened chunk that holds an address
abbrev pub opening_of : (List ℕ → List ℕ) → Contents → ℕ → Opening
opening_of digest m addr = record { chunk = chunk_at m (addr / 32); path = record { 0 = siblings_of digest m (addr / 32) } }

abbrev pub opening_at : (List ℕ → List ℕ) → Contents → Option ℕ → Option Opening
opening_at digest m (Some addr) = Some (opening_of digest m addr)
opening_at digest m None = None

-- the address for which a state calls for a chunk first: that of the word at pc
abbrev pub fetch_of_state : State → Option ℕ
fetch_of_state s = address_fetched s.status s.pc

-- an opened chunk is that of a memory which holds an address, and its path is the memory's
pub record IsShown (digest : List ℕ → List ℕ) (m : Contents) (o : Opening) (addr : ℕ) : Type 0 where
  pub chunk : o.chunk ≡ chunk_at m (addr / 32)
  pub path : IsPath digest (memory_leaf m) 27 (addr / 32) o.path.0

-- an opening is there and is that one, if an address is called for
abbrev pub IsShownAt : (List ℕ → List ℕ) → Contents → Option Opening → Option ℕ → Type 0
IsShownAt digest m (Some o) (Some addr) = IsShown digest m o addr
IsShownAt digest m None (Some addr) = ⊥
IsShownAt digest m chunk None = Unit {0}
