-- Faulty tokens, and what is told of them.
use Rattle.std.specs.Prelude.{◌≡◌, ◌⊎◌, ℕ, Bool, true, false, not, ◌||◌, ◌==◌, List, [], ◌∷◌, ◌++◌, Some}
use Rattle.std.specs.List.{list_all}
use Rattle.multistate_rle.specs.declared.fault.RleFault.{RleFault}
use Rattle.multistate_rle.specs.declared.fault.RleFault.TheVariants.{Tag}
use Rattle.text_scan.specs.Bytes.{is_decimal_digit}
use Rattle.multistate_rle.specs.Tokens.{Token, count_of}
use Rattle.multistate_rle.specs.Reading.{Mark, Pen, bytes_of, is_prefix_byte, is_letter, pen_after, fault_of}
use Rattle.multistate_rle.specs.Spelling.{IsCount, IsTag}

-- where a pen stands behind tokens
abbrev pub pen_behind : Pen → List Token → Pen
pen_behind pen [] = pen
pen_behind pen (token ∷ tokens) = pen_behind (pen_after token pen) tokens

-- the place of the first of some bytes, or the text's end where there are none
abbrev pub first_place : ℕ → List Mark → ℕ
first_place end [] = end
first_place end (m ∷ marks) = m.0

-- a byte of tokens: a digit, a letter, a prefix, or one of `.`, `b`, `o`, `$` and `!`
abbrev pub may_stand : ℕ → Bool
may_stand c = is_decimal_digit c || is_letter c || is_prefix_byte c || c == 46 || c == 98 || c == 111 || c == 36 || c == 33

-- digits, or none, and then a byte that can stand nowhere: the fault names it
pub record MeetsStray (marks : List Mark) (fault : RleFault) : Type 0 where
  pub digits : List Mark
  pub stray : Mark
  pub rest : List Mark
  pub marks_are : marks ≡ digits ++ stray ∷ rest
  pub all_digits : list_all is_decimal_digit (bytes_of digits) ≡ true
  pub stands_nowhere : may_stand stray.1 ≡ false
  pub fault_is : fault ≡ Tag stray.0

-- whether no letter stands in front
abbrev pub lacks_letter : List Mark → Bool
lacks_letter [] = true
lacks_letter (m ∷ marks) = not (is_letter m.1)

-- digits, or none, and then a prefix with no letter behind it: the fault names the byte in the letter's place, or the end
pub record LacksLetter (end : ℕ) (marks : List Mark) (fault : RleFault) : Type 0 where
  pub digits : List Mark
  pub prefix : Mark
  pub rest : List Mark
  pub marks_are : marks ≡ digits ++ prefix ∷ rest
  pub all_digits : list_all is_decimal_digit (bytes_of digits) ≡ true
  pub prefixes : is_prefix_byte prefix.1 ≡ true
  pub no_letter : lacks_letter rest ≡ true
  pub fault_is : fault ≡ Tag (first_place end rest)

-- A token that is spelt well, and faulty where a pen stands: with no such state, a count of 0 or one that leads too far,
-- or too many cells. The fault names the token's first byte, where it names a place.
pub record DrawsIll (pen : Pen) (marks : List Mark) (fault : RleFault) : Type 0 where
  pub token : Token
  pub digits : List Mark
  pub tag : List Mark
  pub rest : List Mark
  pub marks_are : marks ≡ digits ++ (tag ++ rest)
  pub count_is : IsCount (count_of token) (bytes_of digits)
  pub tag_is : IsTag token (bytes_of tag)
  pub fault_is : fault_of (first_place 0 marks) pen token ≡ Some fault

-- Bytes begin with a faulty token where a pen stands; the end is the text's.
abbrev pub BeginsFaulty : ℕ → Pen → List Mark → RleFault → Type 0
BeginsFaulty end pen marks fault = MeetsStray marks fault ⊎ (LacksLetter end marks fault ⊎ DrawsIll pen marks fault)
