-- States of either version: version 2 is written, and both are read.
use Rattle.std.specs.Prelude.{◌≡◌, ◌⊎◌, ℕ, List, ◌++◌}
use Rattle.generations_rule.specs.Rule.{GenerationsRule, IsRule}
use Rattle.stamped_writes.specs.Write.{Writes, AreSame}
use Rattle.delta_exchange.specs.FirstStateText.{IsFirstStateText}
use Rattle.delta_exchange.specs.State.{IsTellableMap}
use Rattle.delta_exchange.specs.StateText.{IsStateText}

-- the text of a rule and a map, of either version
abbrev pub IsReadableStateText : GenerationsRule → Writes → List ℕ → Type 0
IsReadableStateText r p text = IsFirstStateText r p text ⊎ IsStateText r p text

-- a map has one text of version 1
abbrev pub HasOneFirstText : Type 0
HasOneFirstText = (r : GenerationsRule) (p q : Writes) (a b : List ℕ) → IsFirstStateText r p a → IsFirstStateText r q b → AreSame p q → a ≡ b

-- of version 1 different rules or maps have different texts, and none begins another
abbrev pub HasOwnFirstTexts : Type 0
HasOwnFirstTexts =
    (q r : GenerationsRule) (m n : Writes) (a b x y : List ℕ) → IsRule q → IsRule r → IsTellableMap q.states m → IsTellableMap r.states n
    → IsFirstStateText q m a → IsFirstStateText r n b → a ++ x ≡ b ++ y → (q ≡ r) × (AreSame m n × (x ≡ y))

-- no text of version 1 begins one of version 2, and none of version 2 one of version 1, whatever they tell
abbrev pub HasVersionsApart : Type 0
HasVersionsApart = (q r : GenerationsRule) (m n : Writes) (a b x y : List ℕ) → IsFirstStateText q m a → IsStateText r n b → a ++ x ≡ b ++ y → ⊥
