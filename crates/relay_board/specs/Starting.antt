-- Which relays start.
use Rattle.std.specs.Prelude.{◌≡◌, ℕ, Bool, true, false, ◌+◌, ◌&&◌, nat_le}
use Rattle.relay_board.specs.declared.fault.StartFault.{StartFault}
use Rattle.relay_board.specs.declared.fault.StartFault.TheVariants.{Size, NoPlace, Memory}

-- 1 to 64 sessions, whose numbers from the first on are 1 to 65,535, and room for 1 to 1,024 submissions
abbrev pub fits : ℕ → ℕ → ℕ → Bool
fits first sessions inbox = nat_le 1 first && nat_le (first + sessions) 65536 && nat_le 1 sessions && nat_le sessions 64 && nat_le 1 inbox && nat_le inbox 1024

-- how many seats it has, one more where it is kept in a file, which puts what it has by the last of them
abbrev pub seats_of : ℕ → Bool → ℕ
seats_of sessions true = sessions + 1
seats_of sessions false = sessions

-- the size is refused exactly where it does not fit
abbrev pub Starts : StartFault → Bool → Type 0
Starts Size fit = fit ≡ false
Starts NoPlace fit = fit ≡ true
Starts Memory fit = fit ≡ true
