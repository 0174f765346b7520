-- From a generation of a window to a generation of whatever map it lies in.
use Rattle.std.proofs.Common.{◌≡◌, ℕ, suc, ◌+◌, ◌-◌, ◌<◌, ◌≤◌, List, [], ◌∷◌, arith, sym, ◌∙◌, ap, subst, add-one, ℤ, pos, negsuc}
use Rattle.std.specs.Prelude.{◌+ℤ◌, count_by, ◌==◌}
use Rattle.std.proofs.lemmas.Int.{ints}
use Rattle.generations_rule.specs.Place.{Place, moved, at_place}
use Rattle.generations_rule.specs.Rule.{GenerationsRule, IsRule, next_state}
use Rattle.generations_rule.specs.Evolution.{at, live_around}
use Rattle.generations_rule.proofs.EvolutionLaws.{stays_in_range}
use Rattle.bitplane_kernel.specs.Step.{one_if_live}
use Rattle.tile_steps.specs.declared.window.WindowPlane.{WindowPlane}
use Rattle.tile_steps.specs.Steps.{StepsWindow, live_in, window_state}
use Rattle.tile_steps.specs.Windows.{AgreesOnWindow, Advances}

back : (a : ℤ) (n : ℕ) → ((a +ℤ pos (n + 1)) +ℤ negsuc 0) ≡ a +ℤ pos n
back a n = omega (arith, ints)

still : (a : ℤ) (n : ℕ) → ((a +ℤ pos (n + 1)) +ℤ pos 0) ≡ a +ℤ pos (n + 1)
still a n = omega (arith, ints)

ahead : (a : ℤ) (n : ℕ) → ((a +ℤ pos (n + 1)) +ℤ pos 1) ≡ a +ℤ pos (n + 2)
ahead a n = omega (arith, ints)

same_place : (a b c d : ℤ) → a ≡ c → b ≡ d → at_place a b ≡ at_place c d
same_place a b c d e h = λ i. at_place (e i) (h i)

tally : (a b c d e f g h : ℕ) → count_by (λ s. s == 1) (a ∷ b ∷ c ∷ d ∷ e ∷ f ∷ g ∷ h ∷ [])
    ≡ one_if_live a + one_if_live b + one_if_live c + one_if_live d + one_if_live e + one_if_live f + one_if_live g + one_if_live h
tally a b c d e f g h = omega arith

-- how many neighbours of a cell are live in the map
around_cell : (n : ℕ) (old : List WindowPlane) (f : Place → ℕ) (corner : Place) (x y : ℕ)
    → ((u v : ℕ) → x ≤ u → u ≤ x + 2 → y ≤ v → v ≤ y + 2 → window_state n old u v ≡ f (moved corner (pos u) (pos v)))
    → live_around f (moved corner (pos (x + 1)) (pos (y + 1))) ≡ live_in n old x y
around_cell n old f corner x y agrees =
    let cell : Place = moved corner (pos (x + 1)) (pos (y + 1)) in
    let near : (u v : ℕ) (dx dy : ℤ) → x ≤ u → u ≤ x + 2 → y ≤ v → v ≤ y + 2 → ((corner.x +ℤ pos (x + 1)) +ℤ dx) ≡ corner.x +ℤ pos u → ((corner.y +ℤ pos (y + 1)) +ℤ dy) ≡ corner.y +ℤ pos v
    → f (moved cell dx dy) ≡ window_state n old u v =
    λ u v dx dy a b c d e h. ap f (same_place _ _ _ _ e h) ∙ sym (agrees u v a b c d) in
    let nw = near x y (negsuc 0) (negsuc 0) (omega arith) (omega arith) (omega arith) (omega arith) (back corner.x x) (back corner.y y) in
    let north = near (x + 1) y (pos 0) (negsuc 0) (omega arith) (omega arith) (omega arith) (omega arith) (still corner.x x) (back corner.y y) in
    let ne = near (x + 2) y (pos 1) (negsuc 0) (omega arith) (omega arith) (omega arith) (omega arith) (ahead corner.x x) (back corner.y y) in
    let west = near x (y + 1) (negsuc 0) (pos 0) (omega arith) (omega arith) (omega arith) (omega arith) (back corner.x x) (still corner.y y) in
    let east = near (x + 2) (y + 1) (pos 1) (pos 0) (omega arith) (omega arith) (omega arith) (omega arith) (ahead corner.x x) (still corner.y y) in
    let sw = near x (y + 2) (negsuc 0) (pos 1) (omega arith) (omega arith) (omega arith) (omega arith) (back corner.x x) (ahead corner.y y) in
    let south = near (x + 1) (y + 2) (pos 0) (pos 1) (omega arith) (omega arith) (omega arith) (omega arith) (still corner.x x) (ahead corner.y y) in
    let se = near (x + 2) (y + 2) (pos 1) (pos 1) (omega arith) (omega arith) (omega arith) (omega arith) (ahead corner.x x) (ahead corner.y y) in
    tally _ _ _ _ _ _ _ _
    ∙ (λ i. one_if_live (nw i) + one_if_live (north i) + one_if_live (ne i) + one_if_live (west i) + one_if_live (east i) + one_if_live (sw i) + one_if_live (south i) + one_if_live (se i))

-- one generation, of a window of which only the cells behind a margin are known: the margin grows by one
pub window_step : (n : ℕ) (r : GenerationsRule) (margin : ℕ) (old new : List WindowPlane) (f : Place → ℕ) (corner : Place) → StepsWindow n r margin old new
    → ((c : Place) → f c < r.states) → AgreesOnWindow n margin f corner old → AgreesOnWindow n (suc margin) (at r f 1) corner new
window_step n r margin old new f corner steps below agrees = λ x y left right top bottom.
    let u : ℕ = x - 1 in
    let v : ℕ = y - 1 in
    let column : u + 1 ≡ x = omega arith in
    let row : v + 1 ≡ y = omega arith in
    let known : (a b : ℕ) → u ≤ a → a ≤ u + 2 → v ≤ b → b ≤ v + 2 → window_state n old a b ≡ f (moved corner (pos a) (pos b)) =
    λ a b h k l m. agrees a b (omega arith) (omega arith) (omega arith) (omega arith) in
    let own : window_state n old (u + 1) (v + 1) ≡ f (moved corner (pos (u + 1)) (pos (v + 1))) = known (u + 1) (v + 1) (omega arith) (omega arith) (omega arith) (omega arith) in
    let states : window_state n old (u + 1) (v + 1) < r.states = subst (λ s. s < r.states) (sym own) (below (moved corner (pos (u + 1)) (pos (v + 1)))) in
    let count = around_cell n old f corner u v known in
    let inner : window_state n new (u + 1) (v + 1) ≡ at r f 1 (moved corner (pos (u + 1)) (pos (v + 1))) =
    (steps.rows v (omega arith) (omega arith)).inner u (omega arith) states ∙ (λ i. next_state r (own i) (sym count i)) in
    subst (λ a. window_state n new a y ≡ at r f 1 (moved corner (pos a) (pos y))) column
    (subst (λ b. window_state n new (u + 1) b ≡ at r f 1 (moved corner (pos (u + 1)) (pos b))) row inner)

pub advances_none : (n : ℕ) (r : GenerationsRule) (planes : List WindowPlane) → Advances n r 0 planes planes
advances_none n r planes f corner below agrees = agrees

-- one generation more
pub advances_more : (n : ℕ) (r : GenerationsRule) (g margin : ℕ) (old mid new : List WindowPlane) → IsRule r → margin ≡ g → Advances n r g old mid → StepsWindow n r margin mid new → Advances n r (g + 1) old new
advances_more n r g margin old mid new ok is so_far step f corner below agrees =
    subst (λ k. AgreesOnWindow n k (at r f k) corner new) (sym (add-one g))
    (window_step n r g mid new (at r f g) corner (subst (λ m. StepsWindow n r m mid new) is step) (λ c. stays_in_range r f g c ok below) (so_far f corner below agrees))

pub advances_as : (n : ℕ) (r : GenerationsRule) (g g' : ℕ) (old new : List WindowPlane) → g ≡ g' → Advances n r g old new → Advances n r g' old new
advances_as n r g g' old new is h = subst (λ k. Advances n r k old new) is h
