-- What turns and moves do to the plane and to what evolves on it.
use Rattle.std.proofs.Common.{◌≡◌, ℕ, zero, suc, ◌-◌, ◌<◌, List, [], ◌∷◌, refl, ◌∙◌, ap, arith, ℤ, pos, negsuc}
use Rattle.std.specs.Prelude.{count_by, map, ◌==◌, neg_ℤ, ◌+ℤ◌}
use Rattle.std.proofs.lemmas.Int.{ints}
use Rattle.generations_rule.specs.Place.{Place, at_place, moved}
use Rattle.generations_rule.specs.Rule.{next_state}
use Rattle.generations_rule.specs.Evolution.{at, live_around}
use Rattle.pattern_turns.specs.declared.turn.Turn.TheVariants.{Left, Right, Half, Mirror, Flip}
use Rattle.pattern_turns.specs.Way.{Way, Unturned, TurnedLeft, TurnedRight, TurnedHalf, Mirrored, Flipped, Transposed, Antitransposed, inverse, put}
use Rattle.pattern_turns.specs.Laws.{AreTurnsOfThePlane, MovesCommute, TurnsCommute}
use Rattle.pattern_turns.proofs.WayLaws.{both}

-- ---- a box

still : (n : ℕ) → pos n ≡ pos n +ℤ pos 0
still n = omega (arith, ints)

-- how far a column is from the last one
from_end : (side n : ℕ) → n < side → pos (side - 1 - n) ≡ neg_ℤ (pos n) +ℤ pos (side - 1)
from_end side n h = omega (arith, ints)

pub are_turns_of_the_plane : AreTurnsOfThePlane
are_turns_of_the_plane Left width height = (pos 0, pos (width - 1), λ cell column row. both (still cell.row) (from_end width cell.column column))
are_turns_of_the_plane Right width height = (pos (height - 1), pos 0, λ cell column row. both (from_end height cell.row row) (still cell.column))
are_turns_of_the_plane Half width height = (pos (width - 1), pos (height - 1), λ cell column row. both (from_end width cell.column column) (from_end height cell.row row))
are_turns_of_the_plane Mirror width height = (pos (width - 1), pos 0, λ cell column row. both (from_end width cell.column column) (still cell.row))
are_turns_of_the_plane Flip width height = (pos 0, pos (height - 1), λ cell column row. both (still cell.column) (from_end height cell.row row))

-- ---- neighbours

-- how many of some states are live
tally : List ℕ → ℕ
tally states = count_by (λ s. s == 1) states

neg-add : (a b : ℤ) → neg_ℤ (a +ℤ b) ≡ neg_ℤ a +ℤ neg_ℤ b
neg-add a b = omega (arith, ints)

-- a way puts a neighbour where it puts the step to it
put-moved : (w : Way) (c : Place) (dx dy : ℤ) → put w (moved c dx dy) ≡ moved (put w c) (put w (at_place dx dy)).x (put w (at_place dx dy)).y
put-moved Unturned c dx dy = refl
put-moved TurnedLeft c dx dy = both refl (neg-add c.x dx)
put-moved TurnedRight c dx dy = both (neg-add c.y dy) refl
put-moved TurnedHalf c dx dy = both (neg-add c.x dx) (neg-add c.y dy)
put-moved Mirrored c dx dy = both (neg-add c.x dx) refl
put-moved Flipped c dx dy = both refl (neg-add c.y dy)
put-moved Transposed c dx dy = refl
put-moved Antitransposed c dx dy = both (neg-add c.y dy) (neg-add c.x dx)

-- the states of the eight neighbours, each being where a way puts it
neighbours_put : Way → (Place → ℕ) → Place → List ℕ
neighbours_put w f c =
    let one : ℤ → ℤ → ℕ = λ dx dy. f (moved c (put w (at_place dx dy)).x (put w (at_place dx dy)).y) in
    one (negsuc 0) (negsuc 0) ∷ one (pos 0) (negsuc 0) ∷ one (pos 1) (negsuc 0)
    ∷ one (negsuc 0) (pos 0) ∷ one (pos 1) (pos 0)
    ∷ one (negsuc 0) (pos 1) ∷ one (pos 0) (pos 1) ∷ one (pos 1) (pos 1) ∷ []

-- they are the eight neighbours in another order
neighbours_counted : (w : Way) (f : Place → ℕ) (c : Place) → tally (neighbours_put w f c) ≡ live_around f c
unfolding tally neighbours_put
neighbours_counted Unturned f c = refl
neighbours_counted TurnedLeft f c = omega arith
neighbours_counted TurnedRight f c = omega arith
neighbours_counted TurnedHalf f c = omega arith
neighbours_counted Mirrored f c = omega arith
neighbours_counted Flipped f c = omega arith
neighbours_counted Transposed f c = omega arith
neighbours_counted Antitransposed f c = omega arith

live_put : (w : Way) (f : Place → ℕ) (c : Place) → live_around (λ d. f (put w d)) c ≡ live_around f (put w c)
unfolding tally neighbours_put
live_put w f c =
    let one : (dx dy : ℤ) → put w (moved c dx dy) ≡ moved (put w c) (put w (at_place dx dy)).x (put w (at_place dx dy)).y = put-moved w c in
    (λ i. tally (
    f (one (negsuc 0) (negsuc 0) i) ∷ f (one (pos 0) (negsuc 0) i) ∷ f (one (pos 1) (negsuc 0) i)
    ∷ f (one (negsuc 0) (pos 0) i) ∷ f (one (pos 1) (pos 0) i)
    ∷ f (one (negsuc 0) (pos 1) i) ∷ f (one (pos 0) (pos 1) i) ∷ f (one (pos 1) (pos 1) i) ∷ []))
    ∙ neighbours_counted w f (put w c)

-- ---- generations

pub turns_commute : TurnsCommute
turns_commute r f w zero c = refl
turns_commute r f w (suc g) c =
    (λ i. next_state r (turns_commute r f w g c i) (live_around (λ d. turns_commute r f w g d i) c))
    ∙ ap (next_state r (at r f g (put (inverse w) c))) (live_put (inverse w) (at r f g) c)

-- two moves may change places
moved-moved : (c : Place) (dx dy right down : ℤ) → moved (moved c dx dy) right down ≡ moved (moved c right down) dx dy
moved-moved c dx dy right down = both (omega (arith, ints)) (omega (arith, ints))

-- how many of some places are live
tally_of : (Place → ℕ) → List Place → ℕ
tally_of f places = count_by (λ s. s == 1) (map f places)

pub moves_commute : MovesCommute
unfolding tally_of
moves_commute r f right down zero c = refl
moves_commute r f right down (suc g) c =
    let one : (dx dy : ℤ) → moved (moved c dx dy) right down ≡ moved (moved c right down) dx dy = λ dx dy. moved-moved c dx dy right down in
    (λ i. next_state r (moves_commute r f right down g c i) (live_around (λ d. moves_commute r f right down g d i) c))
    ∙ (λ i. next_state r (at r f g (moved c right down)) (tally_of (at r f g) (
    one (negsuc 0) (negsuc 0) i ∷ one (pos 0) (negsuc 0) i ∷ one (pos 1) (negsuc 0) i
    ∷ one (negsuc 0) (pos 0) i ∷ one (pos 1) (pos 0) i
    ∷ one (negsuc 0) (pos 1) i ∷ one (pos 0) (pos 1) i ∷ one (pos 1) (pos 1) i ∷ [])))
