-- Squares as a store has them in memory, and by which hashes it finds them.
use Rattle.std.specs.Prelude.{◌≡◌, ℕ, ◌+◌, ◌*◌, ◌^◌, ◌<◌, ◌≤◌, List, length, slice_get, Option, None, Some}
use Rattle.keyed_hash.specs.Keyed.{hash_of_two}
use Rattle.keyed_hash.specs.declared.key.HashKey.{HashKey}
use Rattle.square_store.specs.declared.first_result.FirstResult.{FirstResult}
use Rattle.square_store.specs.declared.node.Node.{Node}
use Rattle.square_store.specs.declared.node.Node.TheVariants as node
use Rattle.square_store.specs.declared.stored.StoredSquare.{StoredSquare}
use Rattle.square_store.specs.declared.stored.StoredSquare.TheVariants as stored
use Rattle.square_store.specs.declared.group.Group.{Group}
use Rattle.square_store.specs.Groups.{AreLinked, IsMet, head_of, tag_of}

-- the square without its result
abbrev pub node_of : StoredSquare → Node
node_of (stored.Blank t) = node.Blank t
node_of (stored.Leaf q) = node.Leaf q
node_of (stored.Four k e a b c d l) = node.Four k a b c d
node_of (stored.High k a b c d) = node.Four k a b c d

-- the result of a square of level k that becomes l, where an exponent stands
abbrev pub first_with : ℕ → Option ℕ → ℕ → Option FirstResult
first_with k None l = None
first_with k (Some e) l = Some (record { level = k; exponent = e; later = l })

-- the result that was first kept of a square
abbrev pub first_of : StoredSquare → Option FirstResult
first_of (stored.Blank t) = None
first_of (stored.Leaf q) = None
first_of (stored.Four k e a b c d l) = first_with k e l
first_of (stored.High k a b c d) = None

-- the hash of a node
abbrev pub node_hash : HashKey → Node → ℕ
node_hash key (node.Blank t) = hash_of_two key 0 t 0
node_hash key (node.Leaf q) = hash_of_two key 0 q 1
node_hash key (node.Four k a b c d) = hash_of_two key k (a + b * 2 ^ 32) (c + d * 2 ^ 32)

-- what contracts see of a table of squares: the squares, their summaries and results, and how many more may come before memory is asked for
pub record TableValue (S : Type 0) : Type 0 where
  pub nodes : List Node
  pub summaries : List S
  pub firsts : List (Option FirstResult)
  pub spare : ℕ

-- a search for the hash of a square comes by its place
pub record AreMet (key : HashKey) (groups : List Group) (heads : ℕ) (nodes : List Node) : Type 0 where
  pub linked : AreLinked groups
  pub heads_within : heads ≤ length groups
  pub some : 0 < length nodes → 0 < heads
  pub met : (p : ℕ) (x : Node) → slice_get nodes p ≡ Some x → IsMet groups (tag_of (node_hash key x)) p (head_of heads (node_hash key x))
