-- The first of some families.
use Rattle.std.proofs.Common.{◌≡◌, Bool, true, false, [], ◌∷◌, refl}
use Rattle.std.specs.Prelude.{Option, Some, None}
use Rattle.std.specs.Option.{option_or}
use Rattle.generations_rule.specs.Refusal.{when, first_of}

-- past a test that fails
pub first_later : {F : Type 0} (test : Bool) (f : F) (a b c : Option F) → test ≡ false →
    option_or (option_or a b) c ≡ first_of (when test f ∷ a ∷ b ∷ c ∷ [])
first_later true f a b c h = absurd (cc)
first_later false f (Some x) b c h = refl
first_later false f None (Some x) c h = refl
first_later false f None None (Some x) h = refl
first_later false f None None None h = refl
