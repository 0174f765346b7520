-- Numbers below 0 that stand behind their options.
use Rattle.std.specs.Prelude.{Bool, false, ◌&&◌, ◌||◌, ◌==◌, List, [], ◌∷◌, ◌++◌, codes, if◌then◌else◌}
use Rattle.std.specs.Str.{bytes_eq}
use Rattle.text_scan.specs.Bytes.{is_decimal_digit}
use Rattle.clap.specs.Words.{Text}

-- the options whose numbers may be below 0
abbrev pub takes_numbers : Text → Bool
takes_numbers word = bytes_eq word (codes "--at") || bytes_eq word (codes "--gen")

-- a minus sign and a digit
abbrev pub is_below_zero : Text → Bool
is_below_zero [] = false
is_below_zero (sign ∷ []) = false
is_below_zero (sign ∷ digit ∷ rest) = sign == 45 && is_decimal_digit digit

-- a number below 0 stands behind its option
abbrev pub is_bound : Text → Text → Bool
is_bound option value = takes_numbers option && is_below_zero value

-- an option and its value as one word
abbrev pub with_value : Text → Text → Text
with_value option value = option ++ (codes "=" ++ value)

-- each number below 0 is put together with its option, up to a word `--`
abbrev pub bound_values : List Text → List Text
bound_values [] = []
bound_values (word ∷ []) = word ∷ []
bound_values (word ∷ value ∷ rest) = if bytes_eq word (codes "--") then word ∷ value ∷ rest
    else if is_bound word value then with_value word value ∷ bound_values rest
    else word ∷ bound_values (value ∷ rest)

-- the first word behind the program's name is `view`
abbrev pub is_view : List Text → Bool
is_view [] = false
is_view (program ∷ []) = false
is_view (program ∷ name ∷ rest) = bytes_eq name (codes "view")

-- the words as clap reads them
abbrev pub bound_words : List Text → List Text
bound_words words = if is_view words then bound_values words else words
