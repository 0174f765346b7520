-- The eight ways are a group.
use Rattle.std.proofs.Common.{◌≡◌, ℤ, pos, negsuc, zero, suc, refl, sym, ◌∙◌, ap}
use Rattle.std.specs.Prelude.{neg_ℤ, if◌then◌else◌}
use Rattle.generations_rule.specs.Place.{Place, at_place, is_place}
use Rattle.pattern_turns.specs.declared.turn.Turn.{Turn}
use Rattle.pattern_turns.specs.declared.turn.Turn.TheVariants.{Left, Right, Half, Mirror, Flip}
use Rattle.pattern_turns.specs.Way.{Way, Unturned, TurnedLeft, TurnedRight, TurnedHalf, Mirrored, Flipped, Transposed, Antitransposed, after, inverse, put, way_of}
use Rattle.pattern_turns.specs.Laws.{AreAGroup}

neg-neg : (n : ℤ) → neg_ℤ (neg_ℤ n) ≡ n
neg-neg (pos zero) = refl
neg-neg (pos (suc n)) = refl
neg-neg (negsuc n) = refl

pub both : {a b x y : ℤ} → a ≡ b → x ≡ y → at_place a x ≡ at_place b y
both e f = λ i. at_place (e i) (f i)

pub composes : (v w : Way) (c : Place) → put (after v w) c ≡ put v (put w c)
composes TurnedLeft TurnedRight c = both refl (sym (neg-neg c.y))
composes TurnedLeft TurnedHalf c = both refl (sym (neg-neg c.x))
composes TurnedLeft Mirrored c = both refl (sym (neg-neg c.x))
composes TurnedLeft Antitransposed c = both refl (sym (neg-neg c.y))
composes TurnedRight TurnedLeft c = both (sym (neg-neg c.x)) refl
composes TurnedRight TurnedHalf c = both (sym (neg-neg c.y)) refl
composes TurnedRight Flipped c = both (sym (neg-neg c.y)) refl
composes TurnedRight Antitransposed c = both (sym (neg-neg c.x)) refl
composes TurnedHalf TurnedLeft c = both refl (sym (neg-neg c.x))
composes TurnedHalf TurnedRight c = both (sym (neg-neg c.y)) refl
composes TurnedHalf TurnedHalf c = both (sym (neg-neg c.x)) (sym (neg-neg c.y))
composes TurnedHalf Mirrored c = both (sym (neg-neg c.x)) refl
composes TurnedHalf Flipped c = both refl (sym (neg-neg c.y))
composes TurnedHalf Antitransposed c = both (sym (neg-neg c.y)) (sym (neg-neg c.x))
composes Mirrored TurnedRight c = both (sym (neg-neg c.y)) refl
composes Mirrored TurnedHalf c = both (sym (neg-neg c.x)) refl
composes Mirrored Mirrored c = both (sym (neg-neg c.x)) refl
composes Mirrored Antitransposed c = both (sym (neg-neg c.y)) refl
composes Flipped TurnedLeft c = both refl (sym (neg-neg c.x))
composes Flipped TurnedHalf c = both refl (sym (neg-neg c.y))
composes Flipped Flipped c = both refl (sym (neg-neg c.y))
composes Flipped Antitransposed c = both refl (sym (neg-neg c.x))
composes Antitransposed TurnedLeft c = both (sym (neg-neg c.x)) refl
composes Antitransposed TurnedRight c = both refl (sym (neg-neg c.y))
composes Antitransposed TurnedHalf c = both (sym (neg-neg c.y)) (sym (neg-neg c.x))
composes Antitransposed Mirrored c = both refl (sym (neg-neg c.x))
composes Antitransposed Flipped c = both (sym (neg-neg c.y)) refl
composes Antitransposed Antitransposed c = both (sym (neg-neg c.x)) (sym (neg-neg c.y))
composes Unturned Unturned c = refl
composes Unturned TurnedLeft c = refl
composes Unturned TurnedRight c = refl
composes Unturned TurnedHalf c = refl
composes Unturned Mirrored c = refl
composes Unturned Flipped c = refl
composes Unturned Transposed c = refl
composes Unturned Antitransposed c = refl
composes Transposed Unturned c = refl
composes Transposed TurnedLeft c = refl
composes Transposed TurnedRight c = refl
composes Transposed TurnedHalf c = refl
composes Transposed Mirrored c = refl
composes Transposed Flipped c = refl
composes Transposed Transposed c = refl
composes Transposed Antitransposed c = refl
composes v w c = refl

-- ---- a way is told by where it puts one place

told : Place
told = at_place (pos 1) (pos 2)

-- the way that puts that place there
way_to : Place → Way
way_to c =
    if is_place c (at_place (pos 1) (pos 2)) then Unturned
    else (if is_place c (at_place (pos 2) (negsuc 0)) then TurnedLeft
    else (if is_place c (at_place (negsuc 1) (pos 1)) then TurnedRight
    else (if is_place c (at_place (negsuc 0) (negsuc 1)) then TurnedHalf
    else (if is_place c (at_place (negsuc 0) (pos 2)) then Mirrored
    else (if is_place c (at_place (pos 1) (negsuc 1)) then Flipped
    else (if is_place c (at_place (pos 2) (pos 1)) then Transposed
    else Antitransposed))))))

way_back : (w : Way) → way_to (put w told) ≡ w
unfolding way_to told
way_back Unturned = refl
way_back TurnedLeft = refl
way_back TurnedRight = refl
way_back TurnedHalf = refl
way_back Mirrored = refl
way_back Flipped = refl
way_back Transposed = refl
way_back Antitransposed = refl

distinct : (v w : Way) → ((c : Place) → put v c ≡ put w c) → v ≡ w
distinct v w same = sym (way_back v) ∙ ap way_to (same told) ∙ way_back w

associates : (u v w : Way) → after (after u v) w ≡ after u (after v w)
associates u v w = distinct (after (after u v) w) (after u (after v w)) (λ c.
    composes (after u v) w c ∙ composes u v (put w c) ∙ ap (put u) (sym (composes v w c)) ∙ sym (composes u (after v w) c))

unit_left : (w : Way) → after Unturned w ≡ w
unit_left Unturned = refl
unit_left TurnedLeft = refl
unit_left TurnedRight = refl
unit_left TurnedHalf = refl
unit_left Mirrored = refl
unit_left Flipped = refl
unit_left Transposed = refl
unit_left Antitransposed = refl

unit_right : (w : Way) → after w Unturned ≡ w
unit_right w = distinct (after w Unturned) w (composes w Unturned)

pub inverse_left : (w : Way) → after (inverse w) w ≡ Unturned
inverse_left Unturned = refl
inverse_left TurnedLeft = refl
inverse_left TurnedRight = refl
inverse_left TurnedHalf = refl
inverse_left Mirrored = refl
inverse_left Flipped = refl
inverse_left Transposed = refl
inverse_left Antitransposed = refl

inverse_right : (w : Way) → after w (inverse w) ≡ Unturned
inverse_right Unturned = refl
inverse_right TurnedLeft = refl
inverse_right TurnedRight = refl
inverse_right TurnedHalf = refl
inverse_right Mirrored = refl
inverse_right Flipped = refl
inverse_right Transposed = refl
inverse_right Antitransposed = refl

two_turns : (w : Way) → (second first : Turn) × (w ≡ after (way_of second) (way_of first))
two_turns Unturned = (Right, Left, refl)
two_turns TurnedLeft = (Half, Right, refl)
two_turns TurnedRight = (Half, Left, refl)
two_turns TurnedHalf = (Left, Left, refl)
two_turns Mirrored = (Half, Flip, refl)
two_turns Flipped = (Half, Mirror, refl)
two_turns Transposed = (Left, Mirror, refl)
two_turns Antitransposed = (Left, Flip, refl)

pub are_a_group : AreAGroup
are_a_group = record {
  composes = composes;
  distinct = distinct;
  associates = associates;
  unit_left = unit_left;
  unit_right = unit_right;
  inverse_left = inverse_left;
  inverse_right = inverse_right;
  two_turns = two_turns;
}
