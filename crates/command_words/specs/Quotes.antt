-- The words of lines. A client's line may end in a word in double quotes, which is one word with the blanks in it.
use Rattle.std.specs.Prelude.{ℕ, ◌+◌, ◌-◌, zero, suc, Bool, false, not, ◌==◌, if◌then◌else◌, List, [], ◌∷◌, length, take, drop, Option, Some, None}
use Rattle.std.specs.List.{list_all, position_or_len}
use Rattle.std.specs.Option.{option_map_or}
use Rattle.text_scan.specs.Bytes.{◌>=>◌, is_space_or_tab, text_behind}
use Rattle.text_scan.specs.Words.{words}
use Rattle.command_words.specs.declared.dialect.Dialect.{Dialect}
use Rattle.command_words.specs.declared.dialect.Dialect.TheVariants.{Script, Client}

abbrev pub is_quote : ℕ → Bool
is_quote byte = byte == 34

abbrev pub opens_quote : List ℕ → Bool
opens_quote [] = false
opens_quote (byte ∷ bytes) = is_quote byte

-- a quote, and behind it blanks alone
abbrev pub closes_quote : List ℕ → Bool
closes_quote text = option_map_or (list_all is_space_or_tab) (text_behind 34 text) false

-- the name, where it has a byte and the quote behind it is the last byte but for blanks
abbrev pub name_closed : List ℕ → List ℕ → Option (List ℕ)
name_closed [] behind = None
name_closed (byte ∷ bytes) behind = if closes_quote behind then Some (byte ∷ bytes) else None

-- what stands between the quotes of a text, where it is a name in quotes, blanks behind it aside: no quote is in a name
abbrev pub name_in_quotes : List ℕ → Option (List ℕ)
name_in_quotes text = text_behind 34 text >=> λ rest. name_closed (take (position_or_len is_quote rest) rest) (drop (position_or_len is_quote rest) rest)

-- how long the word is with which a text begins: both quotes and the name where the text is a name in quotes, else up to a blank
abbrev pub client_word_len : List ℕ → ℕ
client_word_len text = option_map_or (λ name. length name + 2) (name_in_quotes text) (position_or_len is_space_or_tab text)

-- the words that begin in a text, behind so many bytes of it that belong to a word before
abbrev pub client_words_behind : ℕ → List ℕ → List (List ℕ)
client_words_behind n [] = []
client_words_behind (suc n) (byte ∷ bytes) = client_words_behind n bytes
client_words_behind zero (byte ∷ bytes) =
    if is_space_or_tab byte then client_words_behind zero bytes
    else take (client_word_len (byte ∷ bytes)) (byte ∷ bytes) ∷ client_words_behind (client_word_len (byte ∷ bytes) - 1) bytes

-- the words of a client's line, a word in quotes with them
abbrev pub client_words : List ℕ → List (List ℕ)
client_words line = client_words_behind zero line

-- the words of a line; those of a script's are parted by blanks alone
abbrev pub line_words : Dialect → List ℕ → List (List ℕ)
line_words Script line = words line
line_words Client line = client_words line

-- no word begins with a quote
abbrev pub are_unquoted : List (List ℕ) → Bool
are_unquoted words = list_all (λ word. not (opens_quote word)) words
