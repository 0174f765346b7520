-- A count of any number of digits, kept in 64 bits.
use Rattle.std.specs.Prelude.{ℕ, option_map, min}
use Rattle.multistate_rle.specs.Reading.{BegunValue}

-- from this count on each leads past the last column and row, wherever it stands
abbrev pub count_limit : ℕ
count_limit = 4294967297

-- The count, or 2^32 + 1 if it is more: both lead too far, wherever they stand.
abbrev pub capped : BegunValue → BegunValue
capped b = record b { count = option_map (λ n. min n count_limit) b.count }
