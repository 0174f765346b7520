-- The words that ask for a window: `X,Y`, and `W,H` or `WxH`.
use Rattle.std.specs.Prelude.{ℕ, ℤ, Bool, ◌||◌, ◌==◌, List, [], ◌∷◌, take, drop, codes, Option, Some, None, Result, Ok, Err}
use Rattle.std.specs.List.{position_or_len}
use Rattle.text_scan.specs.Bytes.{◌>=>◌, decimal_number, is_comma}
use Rattle.text_scan.specs.Words.{signed_number}
use Rattle.cell_pictures.specs.Window.{WindowValue, window_given}
use Rattle.genedit_view.specs.declared.words.WindowFault.{WindowFault}
use Rattle.genedit_view.specs.declared.words.WindowFault.TheVariants.{Corner, Outside, Sides}

-- the front of a word, and what stands behind its next byte, if there is one
abbrev pub parted_from : List ℕ → List ℕ → Option (List ℕ × List ℕ)
parted_from front [] = None
parted_from front (byte ∷ rest) = Some (front, rest)

-- what stands in front of a place, and what behind it
abbrev pub parted : ℕ → List ℕ → Option (List ℕ × List ℕ)
parted place word = parted_from (take place word) (drop place word)

-- two numbers with their signs, a comma between them
abbrev pub corner_spelled : List ℕ → Option (ℤ × ℤ)
corner_spelled word =
    parted (position_or_len is_comma word) word >=> λ parts. signed_number parts.0 >=> λ x. signed_number parts.1 >=> λ y. Some (x, y)

-- a comma or an x
abbrev pub is_between_sides : ℕ → Bool
is_between_sides c = is_comma c || (c == 120 || c == 88)

-- a side, which is 2^32 at most
abbrev pub side_spelled : List ℕ → Option ℕ
side_spelled word = decimal_number 4294967296 word

-- two sides, a comma or an x between them
abbrev pub sides_spelled : List ℕ → Option (ℕ × ℕ)
sides_spelled word =
    parted (position_or_len is_between_sides word) word >=> λ parts. side_spelled parts.0 >=> λ width. side_spelled parts.1 >=> λ height. Some (width, height)

abbrev pub or_outside : Option WindowValue → Result WindowValue WindowFault
or_outside None = Err Outside
or_outside (Some window) = Ok window

-- the window of a corner and of sides, if it has a place and is one
abbrev pub window_by : Option (ℤ × ℤ) → Option (ℕ × ℕ) → Result WindowValue WindowFault
window_by None sides = Err Corner
window_by (Some corner) None = Err Sides
window_by (Some corner) (Some sides) = or_outside (window_given (record { x = corner.0; y = corner.1; width = sides.0; height = sides.1 }))

-- the window that two words ask for, or why they ask for none
abbrev pub window_asked : List ℕ → List ℕ → Result WindowValue WindowFault
window_asked at size = window_by (corner_spelled at) (sides_spelled size)

-- what is said of it
abbrev pub window_fault_text : WindowFault → List ℕ
window_fault_text Corner = codes "a corner is X,Y, as -3,4"
window_fault_text Sides = codes "a width and a height are W,H, as 40,20 or 40x20"
window_fault_text Outside = codes "a side is 0, or the window leaves x and y from -2147483648 to 2147483647"
