-- A script has one output.
use Rattle.std.specs.Prelude.{◌≡◌, ℕ, List}
use Rattle.genedit_lib.specs.Run.{PrintsAs}

-- a text prints one output, if any
abbrev pub HasOneOutput : Type 0
HasOneOutput = (text a b : List ℕ) → PrintsAs text a → PrintsAs text b → a ≡ b
