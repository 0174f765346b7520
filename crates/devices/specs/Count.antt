-- Counts of what was done to a device. A count never goes down.
use Rattle.std.specs.Prelude.{ℕ, ◌+◌, ◌-◌, ◌^◌, max, min, Result, Ok, Err}

-- so many more, up to the greatest number that a count can hold
abbrev pub so_many_more : ℕ → ℕ → ℕ
so_many_more times n = max n (min (n + times) (2 ^ 64 - 1))

-- one more
abbrev pub one_more : ℕ → ℕ
one_more n = so_many_more 1 n

-- how often a device has failed, after a call
abbrev pub failures_after : {A E : Type 0} → Result A E → ℕ → ℕ
failures_after (Ok done) n = n
failures_after (Err failed) n = one_more n
