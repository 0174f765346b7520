-- The board's rule: it stands for one list, of one history, with which all that anybody has seen begins.
use Rattle.std.specs.Prelude.{◌≡◌, ℕ, Bool, true, false, List, []}
use mathlib.Core.Option.{some}
use mathlib.Core.List.{IsPrefix}
use lib.ListN.{get_elem?}
use Rattle.board.specs.declared.entry.Entry.{Entry}
use Rattle.board.specs.declared.rule.Label.{Label}
use Rattle.board.specs.declared.rule.Sight.{Sight}
use Rattle.board.specs.Showing.{Origin, Showing}

-- the numbers that name an origin
abbrev pub label_of : Origin → Label
label_of h = record { number = h.book.number; log_name = h.book.log_name; cells_name = h.book.cells_name; states = h.states }

-- the origin that a label names
abbrev pub origin_in : Label → Origin
origin_in l = record { book = record { number = l.number; log_name = l.log_name; cells_name = l.cells_name }; states = l.states }

-- that a list of such an origin was seen, and whether the origin is known
abbrev pub sight : Bool → List Entry → Origin → Sight
sight knows seen origin = record { knows = knows; seen = seen; label = label_of origin }

-- an origin that stands for none
abbrev pub no_origin : Origin
no_origin = record { book = record { number = 0; log_name = 0; cells_name = 0 }; states = 0 }

-- it has seen nothing
abbrev pub stranger : Sight
stranger = sight false [] no_origin

-- who knows an origin knows the board's, and what was seen begins the board's list
abbrev pub Fits : Showing → Sight → Type 0
Fits x v = (v.knows ≡ true → origin_in v.label ≡ x.origin) × IsPrefix v.seen x.list

-- the board's front is its list
pub record IsWhole (x : Showing) : Type 0 where
  pub front : x.log ≡ x.list

-- at each moment the board's front is its list, and each view fits
pub record Keeps (x : Showing) (views : List Sight) : Type 0 where
  pub whole : IsWhole x
  pub each : (seat : ℕ) (v : Sight) → get_elem? views seat ≡ some v → Fits x v

-- from v to w by a step that takes the board from x to y: all of y's list is seen then, and what was seen fitted x
pub record Tells (v : Sight) (x y : Showing) (w : Sight) : Type 0 where
  pub now : w ≡ sight true y.list y.origin
  pub before : Fits x v
  pub whole : IsWhole y
