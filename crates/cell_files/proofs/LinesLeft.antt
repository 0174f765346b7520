-- The lines of a text that are left, behind those that were taken from it one by one.
use Rattle.std.proofs.Common.{◌≡◌, ℕ, List, [], ◌∷◌, Bor}
use Rattle.std.specs.Prelude.{Option, Some, None, MatchOption}
use Rattle.multistate_rle.specs.HeaderLine.{text_lines}

-- the lines that are left, if any are
abbrev pub lines_left : Option (Bor (List ℕ)) → List (List ℕ)
lines_left None = []
lines_left (Some rest) = text_lines rest.now

-- a line and those that are left behind it
pub lines_follow : (text line : List ℕ) (behind : Option (Bor (List ℕ))) →
    MatchOption behind (text_lines text ≡ line ∷ []) (λ rest. text_lines text ≡ line ∷ text_lines rest.now) → text_lines text ≡ line ∷ lines_left behind
lines_follow text line None is = is
lines_follow text line (Some rest) is = is
