-- The same request again and again.
use Rattle.std.specs.Prelude.{◌≡◌, ⊤, ℕ, ◌≤◌, List, [], ◌∷◌, map, replicate, length, Result, IfOk}
use Rattle.board_client.specs.declared.fault.ClientFault.{ClientFault}
use Rattle.board_client.specs.Client.{LineState, IsTalk}

-- each of these numbers is as P says
abbrev pub AreAll : (ℕ → Type 0) → List ℕ → Type 0
AreAll P [] = ⊤
AreAll P (number ∷ numbers) = P number × AreAll P numbers

-- a request was said again and again, and refused each time by a number that is as P says
pub record AreRefused (P : ℕ → Type 0) (request : List ℕ) (numbers : List ℕ) (a b : LineState) : Type 0 where
  pub each : AreAll P numbers
  pub talk : IsTalk a b (replicate (length numbers) request) (map (λ (number : ℕ). number ∷ []) numbers)

-- so many times
pub record IsRefused (P : ℕ → Type 0) (request : List ℕ) (times : ℕ) (a b : LineState) : Type 0 where
  pub numbers : List ℕ
  pub often : length numbers ≡ times
  pub refused : AreRefused P request numbers a b

-- a request was refused so often at most, each time by a number that is as P says, and this is what came of it behind that:
-- once more such a refusal only behind all of them
pub record IsTried {R : Type 0} (most : ℕ) (P : ℕ → Type 0) (IsRefusedForAMoment : R → Type 0) (request : List ℕ) (SaysOnce : LineState → LineState → Result R ClientFault → Type 0) (a b : LineState) (result : Result R ClientFault) : Type 0 where
  pub times : ℕ
  pub mid : LineState
  pub refusals : IsRefused P request times a mid
  pub few : times ≤ most
  pub last : SaysOnce mid b result
  pub patient : IfOk result (λ heard. IsRefusedForAMoment heard → times ≡ most)
