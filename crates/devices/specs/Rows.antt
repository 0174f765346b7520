-- Worked values of the definitions.
use Rattle.std.specs.Prelude.{◌≡◌, ◌^◌, ◌-◌, ℕ, refl, Result, Ok, Err}
use Rattle.devices.specs.Count.{one_more, so_many_more, failures_after}
use Rattle.devices.specs.Source.{ends_met_after}

-- ---- counts

pub second_of_a_count : one_more 1 ≡ 2
second_of_a_count = refl

pub full_count : one_more (2 ^ 64 - 1) ≡ 2 ^ 64 - 1
full_count = refl

pub several_more : so_many_more 3 4 ≡ 7
several_more = refl

pub up_to_a_full_count : so_many_more 3 (2 ^ 64 - 2) ≡ 2 ^ 64 - 1
up_to_a_full_count = refl

-- ---- pulls

abbrev pub pulled : ℕ → Result ℕ ℕ
pulled count = Ok count

abbrev pub failed : Result ℕ ℕ
failed = Err 0

pub end_met : ends_met_after 8 (pulled 0) 2 ≡ 3
end_met = refl

pub no_end_with_a_byte : ends_met_after 8 (pulled 1) 2 ≡ 2
no_end_with_a_byte = refl

pub no_end_without_room : ends_met_after 0 (pulled 0) 2 ≡ 2
no_end_without_room = refl

pub no_end_at_a_failure : ends_met_after 8 failed 2 ≡ 2
no_end_at_a_failure = refl

pub failure_counted : failures_after failed 2 ≡ 3
failure_counted = refl

pub no_failure_counted : failures_after (pulled 0) 2 ≡ 2
no_failure_counted = refl
