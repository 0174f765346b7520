-- The line `#CXRLE Pos=x,y Gen=n`.
use Rattle.std.specs.Prelude.{ℕ, List, [], ◌∷◌, if◌then◌else◌, Option, Some, None, ℤ, pos, codes, option_map, unwrap_or, drop}
use Rattle.std.specs.Str.{bytes_eq}
use Rattle.std.specs.List.{before_first, position_or_len}
use Rattle.text_scan.specs.Bytes.{◌>=>◌, text_behind, behind_all, decimal_number, is_comma}
use Rattle.text_scan.specs.Words.{signed_number, words}

-- where a pattern was in its plane, and at which generation
pub record OriginValue : Type 0 where
  pub pos : ℤ × ℤ
  pub generation : ℕ

-- the position and the generation that items name, where they do
pub record ItemsValue : Type 0 where
  pub pos : Option (ℤ × ℤ)
  pub generation : Option ℕ

-- `Pos=x,y`
abbrev pub position_in : List ℕ → Option (ℤ × ℤ)
position_in word =
    behind_all (codes "Pos=") word >=> λ sides.
    signed_number (before_first is_comma sides) >=> λ x.
    text_behind 44 (drop (position_or_len is_comma sides) sides) >=> λ rest.
    signed_number rest >=> λ y. Some (x, y)

-- `Gen=n`
abbrev pub generation_in : List ℕ → Option ℕ
generation_in word = behind_all (codes "Gen=") word >=> λ digits. decimal_number 18446744073709551615 digits

-- a position, if there was none before
abbrev pub with_position : ℤ × ℤ → ItemsValue → Option ItemsValue
with_position p items = elim items.pos [ None ↦ Some (record items { pos = Some p }) | Some q ↦ None ]

-- a generation, if there was none before
abbrev pub with_generation : ℕ → ItemsValue → Option ItemsValue
with_generation n items = elim items.generation [ None ↦ Some (record items { generation = Some n }) | Some m ↦ None ]

-- an item that was read as a position or a generation
abbrev pub item_by : Option (ℤ × ℤ) → Option ℕ → ItemsValue → Option ItemsValue
item_by (Some p) generation items = with_position p items
item_by None generation items = generation >=> λ n. with_generation n items

-- one item more, of a kind that was not read before
abbrev pub one_item_more : List ℕ → ItemsValue → Option ItemsValue
one_item_more word items = item_by (position_in word) (generation_in word) items

abbrev pub items_in : ItemsValue → List (List ℕ) → Option ItemsValue
items_in items [] = Some items
items_in items (word ∷ words) = one_item_more word items >=> λ more. items_in more words

-- what is missing is 0
abbrev pub origin_from : ItemsValue → OriginValue
origin_from items = record { pos = unwrap_or items.pos (pos 0, pos 0); generation = unwrap_or items.generation 0 }

abbrev pub no_items : ItemsValue
no_items = record { pos = None; generation = None }

abbrev pub origin_in_words : List (List ℕ) → Option OriginValue
origin_in_words [] = None
origin_in_words (first ∷ items) =
    if bytes_eq first (codes "#CXRLE") then option_map origin_from (items_in no_items items) else None

-- the origin that a line names, if it is well formed
abbrev pub origin_in : List ℕ → Option OriginValue
origin_in line = origin_in_words (words line)
