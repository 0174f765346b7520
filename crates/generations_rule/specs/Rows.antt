-- Worked values of the definitions.
use Rattle.std.specs.Prelude.{◌≡◌, ℕ, [], ◌∷◌, Ok, Err, codes, refl, pos, negsuc, if◌then◌else◌, map}
use Rattle.std.specs.Fmt.{digits}
use Rattle.generations_rule.specs.Rule.{GenerationsRule}
use Rattle.generations_rule.specs.RuleText.{parsed, text_of, text_of_set, rule_of_text}
use Rattle.generations_rule.specs.Place.{Place, at_place, is_place}
use Rattle.generations_rule.specs.Evolution.{at}
use Rattle.generations_rule.specs.declared.fault.RuleFault.TheVariants.{Slashes, Digit, States}

pub star_wars_is_printed : text_of (rule_of_text (codes "5433/2/004")) ≡ codes "345/2/4"
unfolding digits text_of_set
star_wars_is_printed = refl

pub star_wars_is_read : parsed (codes "5433/2/004") ≡ parsed (codes "345/2/4")
star_wars_is_read = refl

pub brians_brain_is_printed : text_of (rule_of_text (codes "/2/3")) ≡ codes "/2/3"
unfolding digits text_of_set
brians_brain_is_printed = refl

pub brians_brain_is_read : parsed (codes "/2/3") ≡ Ok (rule_of_text (codes "/2/3"))
brians_brain_is_read = refl

pub no_birth_on_0 : parsed (codes "23/03/2") ≡ Err (Digit 3)
no_birth_on_0 = refl

pub one_slash : parsed (codes "23/3") ≡ Err Slashes
one_slash = refl

pub no_bytes : parsed [] ≡ Err Slashes
no_bytes = refl

pub too_many_states : parsed (codes "23/3/257") ≡ Err States
too_many_states = refl

abbrev brians_brain : GenerationsRule
brians_brain = rule_of_text (codes "/2/3")

-- two live cells side by side
abbrev pair : Place → ℕ
pair c = if is_place c (at_place (pos 0) (pos 0)) then 1 else (if is_place c (at_place (pos 1) (pos 0)) then 1 else 0)

-- both are dying, and the two above them and the two below are born
pub one_generation :
    map (at brians_brain pair 1)
    (at_place (pos 0) (negsuc 0) ∷ at_place (pos 1) (negsuc 0) ∷ at_place (negsuc 0) (negsuc 0) ∷ at_place (pos 0) (pos 0) ∷ at_place (pos 1) (pos 1) ∷ [])
    ≡ 1 ∷ 1 ∷ 0 ∷ 2 ∷ 1 ∷ []
one_generation = refl

pub two_generations :
    map (at brians_brain pair 2)
    (at_place (pos 0) (negsuc 1) ∷ at_place (negsuc 0) (pos 0) ∷ at_place (pos 0) (negsuc 0) ∷ at_place (pos 0) (pos 0) ∷ [])
    ≡ 1 ∷ 1 ∷ 2 ∷ 0 ∷ []
two_generations = refl
