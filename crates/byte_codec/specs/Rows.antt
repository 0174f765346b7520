-- Worked values of the definitions, over readings whose faults are numbers: 1 short, 2 refused, 3 trailing.
use Rattle.std.specs.Prelude.{◌≡◌, ℕ, ◌+◌, nat_lt, List, [], ◌∷◌, map, Some, None, Ok, Err, refl, if◌then◌else◌}
use Rattle.std.specs.Int.{Width, w8, w16, w32, w64}
use Rattle.byte_codec.specs.Reading.{Reading, number_at, bytes_at, mapped_at, checked_at, pair_at, chosen_at, many_at, nested_at, whole_of}

abbrev number : Width → Reading ℕ ℕ
number width = number_at 1 width

pub one_byte : number w8 (255 ∷ 7 ∷ []) ≡ Ok (255, 7 ∷ [])
one_byte = refl

pub two_bytes : number w16 (1 ∷ 2 ∷ 7 ∷ []) ≡ Ok (258, 7 ∷ [])
two_bytes = refl

pub four_bytes : number w32 (1 ∷ 0 ∷ 0 ∷ 2 ∷ []) ≡ Ok (16777218, [])
four_bytes = refl

pub eight_bytes : number w64 (0 ∷ 0 ∷ 0 ∷ 0 ∷ 0 ∷ 1 ∷ 0 ∷ 1 ∷ 7 ∷ []) ≡ Ok (65537, 7 ∷ [])
eight_bytes = refl

pub one_byte_short : map (number w32) ([] ∷ (1 ∷ 2 ∷ 3 ∷ []) ∷ []) ≡ Err 1 ∷ Err 1 ∷ []
one_byte_short = refl

abbrev two_bytes_as_they_are : Reading ℕ (List ℕ)
two_bytes_as_they_are = bytes_at 1 2

pub as_they_are : map two_bytes_as_they_are ((5 ∷ 6 ∷ 7 ∷ []) ∷ (5 ∷ []) ∷ []) ≡ Ok (5 ∷ 6 ∷ [], 7 ∷ []) ∷ Err 1 ∷ []
as_they_are = refl

-- a byte below ten
abbrev digit : Reading ℕ ℕ
digit = checked_at (λ n. if nat_lt n 10 then None else Some 2) (number w8)

pub digits : map digit ((9 ∷ 7 ∷ []) ∷ (10 ∷ []) ∷ [] ∷ []) ≡ Ok (9, 7 ∷ []) ∷ Err 2 ∷ Err 1 ∷ []
digits = refl

-- a size, and so many bytes
abbrev sized : Reading ℕ (ℕ × List ℕ)
sized = pair_at (number w8) (λ size. bytes_at 1 size)

pub sizes : map sized ((2 ∷ 5 ∷ 6 ∷ 7 ∷ []) ∷ (3 ∷ 5 ∷ 6 ∷ []) ∷ []) ≡ Ok ((2, 5 ∷ 6 ∷ []), 7 ∷ []) ∷ Err 1 ∷ []
sizes = refl

-- digits that ascend
abbrev ascending : ℕ → Reading ℕ (List ℕ)
ascending count = many_at (λ last n. n + 1) (λ least. checked_at (λ n. if nat_lt n least then Some 2 else None) digit) count 0

pub ascents : map (ascending 2) ((4 ∷ 5 ∷ 7 ∷ []) ∷ (5 ∷ 5 ∷ []) ∷ (5 ∷ 10 ∷ []) ∷ (5 ∷ []) ∷ []) ≡ Ok (4 ∷ 5 ∷ [], 7 ∷ []) ∷ Err 2 ∷ Err 2 ∷ Err 1 ∷ []
ascents = refl

-- tag 0 and a digit, or tag 1 and two bytes
abbrev tagged : Reading ℕ ℕ
tagged = chosen_at digit (λ tag. if nat_lt tag 1 then digit else number w16)

pub tags : map tagged ((0 ∷ 9 ∷ []) ∷ (1 ∷ 1 ∷ 2 ∷ []) ∷ (0 ∷ 10 ∷ []) ∷ (1 ∷ 1 ∷ []) ∷ []) ≡ Ok (9, []) ∷ Ok (258, []) ∷ Err 2 ∷ Err 1 ∷ []
tags = refl

-- 1 opens a level, to a depth, and 0 ends
abbrev opened : Reading ℕ ℕ → Reading ℕ ℕ
opened within = chosen_at digit (λ tag. if nat_lt tag 1 then (λ rest. Ok (0, rest)) else mapped_at (λ depth. depth + 1) within)

abbrev levels : ℕ → Reading ℕ ℕ
levels = nested_at (checked_at (λ n. if nat_lt n 1 then None else Some 2) digit) opened

pub depths : map (levels 2) ((0 ∷ []) ∷ (1 ∷ 0 ∷ []) ∷ (1 ∷ 1 ∷ 0 ∷ 7 ∷ []) ∷ (1 ∷ 1 ∷ 1 ∷ []) ∷ (1 ∷ 1 ∷ []) ∷ [])
    ≡ Ok (0, []) ∷ Ok (1, []) ∷ Ok (2, 7 ∷ []) ∷ Err 2 ∷ Err 1 ∷ []
depths = refl

pub wholes : map (whole_of 3 digit) ((9 ∷ []) ∷ (9 ∷ 7 ∷ []) ∷ (10 ∷ 7 ∷ []) ∷ [] ∷ []) ≡ Ok 9 ∷ Err 3 ∷ Err 2 ∷ Err 1 ∷ []
wholes = refl
