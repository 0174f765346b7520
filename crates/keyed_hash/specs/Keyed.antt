-- Hashes with a key: NH (UMAC, Black et al. 1999) of each row of eight numbers, and of what the rows come to.
use Rattle.std.specs.Prelude.{ℕ, ◌+◌, ◌-◌, ◌*◌, ◌/◌, ◌%◌, ◌^◌, ◌==◌, nat_lt, List, [], ◌∷◌, take, drop, slice_index, if◌then◌else◌, bit_xor}
use Rattle.std.specs.List.{fold}
use Rattle.std.specs.Hash.{u128}
use Rattle.std.specs.Hash.FoldHasher as folding
use Rattle.keyed_hash.specs.declared.key.HashKey.{HashKey}
use Rattle.keyed_hash.specs.declared.hasher.KeyedHasher.{KeyedHasher}

-- two numbers, to each of which its part of the key is added modulo 2^64, multiplied
unfoldable pub product : ℕ → ℕ → ℕ → ℕ → ℕ
product first_key first second_key second = (first + first_key) % 2 ^ 64 * ((second + second_key) % 2 ^ 64)

-- the product of two numbers, its halves put together by exclusive or
unfoldable pub folded : ℕ → ℕ → ℕ
folded a b = bit_xor (a * b % 2 ^ 64) (a * b / 2 ^ 64)

-- the higher half of what the product of two numbers, in one of sixteen rows, is spread to
unfoldable pub hash_of_two : HashKey → ℕ → ℕ → ℕ → ℕ
hash_of_two key row first second =
    let at = 2 * (row % 16) in
    let sum = product (slice_index key.rows at) first (slice_index key.rows (at + 1)) second in
    folded (bit_xor (sum % 2 ^ 64) 16294208416658607535) (bit_xor (sum / 2 ^ 64) 7960286522194355700) / 2 ^ 32

-- nothing was taken
abbrev pub started : HashKey → KeyedHasher
started key = record { key = key; row = 0; column = 0; first = 0; sum = 0; total = 0 }

-- what the numbers of the row come to with one more, in a column that is odd
unfoldable pub with_second : KeyedHasher → ℕ → ℕ → ℕ
with_second h column number = (h.sum + product (slice_index h.key.columns (column - 1)) h.first (slice_index h.key.columns column) number) % 2 ^ 128

-- what the rows come to with one more, by what that comes to
unfoldable pub with_row : KeyedHasher → ℕ → ℕ
with_row h sum =
    let at = 2 * (h.row % 16) in
    (h.total + product (slice_index h.key.rows at) (sum % 2 ^ 64) (slice_index h.key.rows (at + 1)) (sum / 2 ^ 64)) % 2 ^ 128

-- one number more, in a row's column; the second of two with the first, and with the last the row
unfoldable pub taken : KeyedHasher → ℕ → KeyedHasher
taken h number =
    let column = h.column % 8 in
    if column % 2 == 0 then record { key = h.key; row = h.row; column = column + 1; first = number; sum = h.sum; total = h.total }
    else (if nat_lt column 7 then record { key = h.key; row = h.row; column = column + 1; first = h.first; sum = with_second h column number; total = h.total }
    else record { key = h.key; row = (h.row + 1) % 2 ^ 64; column = 0; first = h.first; sum = 0; total = with_row h (with_second h column number) })

-- the number of some bytes, the lowest first, modulo 2^64
abbrev pub word_of : List ℕ → ℕ
word_of [] = 0
word_of (byte ∷ bytes) = (word_of bytes * 256 % 2 ^ 64 + byte) % 2 ^ 64

-- the number of the eight bytes from eight times a place on
abbrev pub word_at : List ℕ → ℕ → ℕ
word_at bytes place = word_of (take 8 (drop (8 * place) bytes))

-- one write more, which is one number
abbrev pub written : KeyedHasher → List ℕ → KeyedHasher
written h bytes = taken h (word_of bytes)

-- what the row that is not full comes to, where its last number has no second
abbrev pub last_sum : KeyedHasher → ℕ
last_sum h = if h.column % 8 % 2 == 1 then with_second h (h.column % 8) 0 else h.sum

-- what all rows come to, spread
abbrev pub finished : KeyedHasher → ℕ
finished h = folding.finish (fold folding.write folding.initial (u128 (with_row h (last_sum h))))
