-- What becomes of turned patterns.
use Rattle.std.proofs.Common.{◌≡◌, ℕ, zero, suc, ◌<◌, refl, sym, ◌∙◌, ap, arith, ℤ}
use Rattle.std.specs.Prelude.{◌≢◌, ◌+ℤ◌, Contains}
use Rattle.std.proofs.lemmas.Int.{ints}
use Rattle.generations_rule.specs.Place.{Place, moved}
use Rattle.generations_rule.specs.Rule.{GenerationsRule}
use Rattle.generations_rule.specs.Evolution.{at}
use Rattle.pattern_cells.specs.declared.pattern.PatternCell.{PatternCell}
use Rattle.pattern_cells.specs.Pattern.{RlePattern, IsPattern}
use Rattle.pattern_turns.specs.declared.turn.Turn.{Turn}
use Rattle.pattern_turns.specs.Turning.{IsTurned, turned_cell}
use Rattle.pattern_turns.specs.Way.{Way, Unturned, TurnedLeft, TurnedRight, TurnedHalf, Mirrored, Flipped, Transposed, Antitransposed, inverse, put, way_of}
use Rattle.pattern_turns.specs.Laws.{IsMapOf, PatternsTurn, place_in_box}
use Rattle.pattern_turns.proofs.WayLaws.{composes, inverse_left}
use Rattle.pattern_turns.proofs.PlaneLaws.{are_turns_of_the_plane, moves_commute, turns_commute}
use Rattle.pattern_turns.proofs.TurningLaws.{cell_is_alive, cell_is_in, turned_state}

-- ---- a way can be gone back

inverse-inverse : (w : Way) → inverse (inverse w) ≡ w
inverse-inverse Unturned = refl
inverse-inverse TurnedLeft = refl
inverse-inverse TurnedRight = refl
inverse-inverse TurnedHalf = refl
inverse-inverse Mirrored = refl
inverse-inverse Flipped = refl
inverse-inverse Transposed = refl
inverse-inverse Antitransposed = refl

put_back : (w : Way) (c : Place) → put (inverse w) (put w c) ≡ c
put_back w c = sym (composes (inverse w) w c) ∙ ap (λ v. put v c) (inverse_left w)

one_put : (w : Way) (a b : Place) → put w a ≡ put w b → a ≡ b
one_put w a b e = sym (put_back w a) ∙ ap (put (inverse w)) e ∙ put_back w b

one_number : (m n by : ℤ) → m +ℤ by ≡ n +ℤ by → m ≡ n
one_number m n by e = omega (arith, ints, e)

one_moved : (a b : Place) (right down : ℤ) → moved a right down ≡ moved b right down → a ≡ b
one_moved a b right down e =
    let x : a.x ≡ b.x = one_number a.x b.x right (ap (λ (c : Place). c.x) e) in
    let y : a.y ≡ b.y = one_number a.y b.y down (ap (λ (c : Place). c.y) e) in
    λ i. record { x = x i; y = y i }

-- ---- the maps

zero_unless : (n : ℕ) → ((n ≡ 0 → ⊥) → ⊥) → n ≡ 0
zero_unless zero never = refl
zero_unless (suc n) never = absurd (never (λ e. omega (arith, e)))

-- where a turn puts the places of a box
Places : Turn → RlePattern → ℤ → ℤ → Type 0
Places turn old right down = (cell : PatternCell) → cell.column < old.width → cell.row < old.height
    → place_in_box (turned_cell turn old.width old.height cell) ≡ moved (put (way_of turn) (place_in_box cell)) right down

put_there : (turn : Turn) (old : RlePattern) (right down : ℤ) → IsPattern old → Places turn old right down → (cell : PatternCell) → Contains old.cells cell
    → place_in_box (turned_cell turn old.width old.height cell) ≡ moved (put (way_of turn) (place_in_box cell)) right down
unfolding Places
put_there turn old right down is places cell h = (let inside = cell_is_in old cell is h in places cell inside.column inside.row)

-- where the one map has a cell the other has it too
alive_there : (turn : Turn) (old new : RlePattern) (f h : Place → ℕ) (right down : ℤ) → IsPattern old → IsTurned turn old new → IsMapOf old f → IsMapOf new h → Places turn old right down
    → (c : Place) → f c ≢ 0 → h (moved (put (way_of turn) c) right down) ≡ f c
alive_there turn old new f h right down is turned is_f is_h places c alive =
    let found = is_f.only c alive in
    let cell : PatternCell = found.0 in
    let in_old : Contains old.cells cell = found.1 in
    let here : c ≡ place_in_box cell = found.2 in
    let there : moved (put (way_of turn) c) right down ≡ place_in_box (turned_cell turn old.width old.height cell) =
    ap (λ d. moved (put (way_of turn) d) right down) here ∙ sym (put_there turn old right down is places cell in_old) in
    ap h there ∙ is_h.alive (turned_cell turn old.width old.height cell) (turned.goes cell in_old) ∙ turned_state turn old.width old.height cell ∙ sym (is_f.alive cell in_old) ∙ ap f (sym here)

-- and where it has none the other has none
dead_there : (turn : Turn) (old new : RlePattern) (f h : Place → ℕ) (right down : ℤ) → IsPattern old → IsTurned turn old new → IsMapOf old f → IsMapOf new h → Places turn old right down
    → (c : Place) → f c ≡ 0 → (h (moved (put (way_of turn) c) right down) ≡ 0 → ⊥) → ⊥
dead_there turn old new f h right down is turned is_f is_h places c dead alive =
    let found = is_h.only (moved (put (way_of turn) c) right down) alive in
    let came = turned.comes found.0 found.1 in
    let from : PatternCell = came.0 in
    let in_old : Contains old.cells from = came.1 in
    let there : moved (put (way_of turn) c) right down ≡ moved (put (way_of turn) (place_in_box from)) right down =
    found.2 ∙ ap place_in_box came.2 ∙ put_there turn old right down is places from in_old in
    let here : c ≡ place_in_box from = one_put (way_of turn) c (place_in_box from) (one_moved (put (way_of turn) c) (put (way_of turn) (place_in_box from)) right down there) in
    cell_is_alive old from is in_old (sym (is_f.alive from in_old) ∙ ap f (sym here) ∙ dead)

same_map : (turn : Turn) (old new : RlePattern) (f h : Place → ℕ) (right down : ℤ) → IsPattern old → IsTurned turn old new → IsMapOf old f → IsMapOf new h → Places turn old right down
    → (c : Place) → h (moved (put (way_of turn) c) right down) ≡ f c
same_map turn old new f h right down is turned is_f is_h places c = by_state (f c) refl
  where
    by_state : (n : ℕ) → f c ≡ n → h (moved (put (way_of turn) c) right down) ≡ f c
    by_state zero dead = zero_unless (h (moved (put (way_of turn) c) right down)) (dead_there turn old new f h right down is turned is_f is_h places c dead) ∙ sym dead
    by_state (suc n) some = alive_there turn old new f h right down is turned is_f is_h places c (λ none. omega (arith, none, some))

-- ---- generations

evolved : (w : Way) (f h : Place → ℕ) (right down : ℤ) → ((c : Place) → h (moved (put w c) right down) ≡ f c) → (r : GenerationsRule) (g : ℕ) (c : Place) → at r h g (moved (put w c) right down) ≡ at r f g c
evolved w f h right down same r g c =
    let k : Place → ℕ = λ d. h (moved d right down) in
    sym (moves_commute r h right down g (put w c))
    ∙ ap (λ v. at r k g (put v c)) (sym (inverse-inverse w))
    ∙ sym (turns_commute r k (inverse w) g c)
    ∙ ap (λ (m : Place → ℕ). at r m g c) (λ i d. (ap (λ v. k (put v d)) (inverse-inverse w) ∙ same d) i)

pub patterns_turn : PatternsTurn
unfolding Places
patterns_turn turn old new is turned =
    let plane = are_turns_of_the_plane turn old.width old.height in
    (plane.0, plane.1, λ f h is_f is_h. evolved (way_of turn) f h plane.0 plane.1 (same_map turn old new f h plane.0 plane.1 is turned is_f is_h plane.2))
