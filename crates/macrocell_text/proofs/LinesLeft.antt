-- The lines of a text that are left, behind those that were taken from it one by one.
use Rattle.std.proofs.Common.{◌≡◌, ℕ, List, [], ◌∷◌, Bor}
use Rattle.std.specs.Prelude.{Option, Some, None, MatchOption, option_map}
use Rattle.multistate_rle.specs.HeaderLine.{text_lines}
use Rattle.macrocell_text.specs.Texts.{lines_left}

-- a line and those that are left behind it
pub lines_follow : (text line : List ℕ) (behind : Option (Bor (List ℕ))) →
    MatchOption behind (text_lines text ≡ line ∷ []) (λ rest. text_lines text ≡ line ∷ text_lines rest.now) → text_lines text ≡ line ∷ lines_left (option_map (λ rest. rest.now) behind)
lines_follow text line None is = is
lines_follow text line (Some rest) is = is
