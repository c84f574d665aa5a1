-- To believe: an opened leaf of any tree, with its path, and when it opens the tree's root.
use Rattle.std.specs.Prelude.{ℕ, ◌+◌, ◌&&◌, List, [], ◌∷◌, ◌++◌, Bool, true, bytes_eq}
use Rattle.rd_base.specs.declared.digest.Digest32.{Digest32}
use Rattle.merkle_nodes.specs.Node.{digest_at}
use Rattle.merkle_nodes.specs.Opening.{Opens, opened}
use Rattle.open_proof.specs.Opened.{texts_from}

-- the string of a leaf, its index, the siblings of its path, how many levels the tree has, and the root that it is to open
pub record Way : Type 0 where
  pub text : List ℕ
  pub index : ℕ
  pub siblings : List Digest32
  pub levels : ℕ
  pub root : List ℕ

-- it opens: from the root down
abbrev pub WayOpens : (List ℕ → List ℕ) → Way → Type 0
WayOpens digest w = Opens digest w.text (digest_at w.siblings) w.levels w.index w.root

-- the string at a level of it: the leaf's string at level 0, a node string above
abbrev pub way_text : (List ℕ → List ℕ) → Way → ℕ → List ℕ
way_text digest w l = opened digest w.text (digest_at w.siblings) l w.index

-- it climbs to the root: from the leaf up
abbrev pub way_climbs : (List ℕ → List ℕ) → Way → Bool
way_climbs digest w = bytes_eq w.root (digest (way_text digest w w.levels))

-- each of some opens, or climbs
abbrev pub WaysOpen : (List ℕ → List ℕ) → List Way → Type 0
WaysOpen digest [] = Unit {0}
WaysOpen digest (w ∷ ws) = WayOpens digest w × WaysOpen digest ws

abbrev pub ways_climb : (List ℕ → List ℕ) → List Way → Bool
ways_climb digest [] = true
ways_climb digest (w ∷ ws) = way_climbs digest w && ways_climb digest ws

-- the strings of a way: its leaf string, and the node strings above it up to the root's
abbrev pub way_texts : (List ℕ → List ℕ) → Way → List (List ℕ)
way_texts digest w = texts_from (way_text digest w) 0 (w.levels + 1)

abbrev pub ways_texts : (List ℕ → List ℕ) → List Way → List (List ℕ)
ways_texts digest [] = []
ways_texts digest (w ∷ ws) = way_texts digest w ++ ways_texts digest ws

-- how many digests it takes to climb them: one for each string
abbrev pub ways_digests : List Way → ℕ
ways_digests [] = 0
ways_digests (w ∷ ws) = w.levels + 1 + ways_digests ws
