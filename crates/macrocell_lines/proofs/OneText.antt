-- A map has one macrocell.
use Rattle.std.proofs.Common.{◌≡◌, ℕ, ◌<◌, ◌≤◌, List, sym, ap, ◌∙◌, arith, inl, inr}
use Rattle.std.specs.Prelude.{◌==◌}
use Rattle.std.proofs.lemmas.Bool.{cases_lt}
use Rattle.generations_rule.specs.Place.{Place}
use Rattle.generations_rule.specs.Rule.{GenerationsRule}
use Rattle.macrocell_lines.specs.Macrocell.{HasOneMacrocell, IsMacrocell, macrocell_text}
use Rattle.macrocell_lines.specs.Roots.{IsRootLevel, root_of}

one_level : (least : ℕ) (f : Place → ℕ) (j k : ℕ) → IsRootLevel least f j → IsRootLevel least f k → j ≡ k
one_level least f j k hj hk = elim (cases_lt j k) [
  | inl below ↦ absurd (hk.no_less j hj.least_is below hj.all)
  | inr above ↦ elim (cases_lt k j) [
    | inl below ↦ absurd (hj.no_less k hk.least_is below hk.all)
    | inr other ↦ omega (arith, above, other)
  ]
]

pub one_text : HasOneMacrocell
one_text r g f a b ha hb = ha.is ∙ ap (λ k. macrocell_text r g (root_of f k)) (one_level _ f ha.level hb.level ha.root hb.root) ∙ sym hb.is
