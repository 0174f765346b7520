-- From a generation of the planes to a generation of whatever map the block lies in.
use Rattle.std.proofs.Common.{◌≡◌, ℕ, suc, ◌+◌, ◌-◌, ◌<◌, ◌≤◌, List, [], ◌∷◌, arith, sym, ◌∙◌, ap, subst, add-one, ℤ, pos, negsuc}
use Rattle.std.specs.Prelude.{◌+ℤ◌, count_by, ◌==◌}
use Rattle.std.proofs.lemmas.Int.{ints}
use Rattle.generations_rule.specs.Place.{Place, moved, at_place}
use Rattle.generations_rule.specs.Rule.{GenerationsRule, IsRule, next_state}
use Rattle.generations_rule.specs.Evolution.{at, live_around}
use Rattle.generations_rule.proofs.EvolutionLaws.{stays_in_range}
use Rattle.bitplane_kernel.specs.declared.planes.BitPlane.{BitPlane}
use Rattle.bitplane_kernel.specs.Planes.{state_in, block_states}
use Rattle.bitplane_kernel.specs.Step.{AreBelow, StepsPlanes, live_in, one_if_live}
use Rattle.bitplane_kernel.specs.Advance.{AgreesOnBlock, Advances}
use Rattle.bitplane_kernel.proofs.SquareLemmas.{block_read}

back : (a : ℤ) (n : ℕ) → ((a +ℤ pos (n + 1)) +ℤ negsuc 0) ≡ a +ℤ pos n
back a n = omega (arith, ints)

still : (a : ℤ) (n : ℕ) → ((a +ℤ pos (n + 1)) +ℤ pos 0) ≡ a +ℤ pos (n + 1)
still a n = omega (arith, ints)

ahead : (a : ℤ) (n : ℕ) → ((a +ℤ pos (n + 1)) +ℤ pos 1) ≡ a +ℤ pos (n + 2)
ahead a n = omega (arith, ints)

same_place : (a b c d : ℤ) → a ≡ c → b ≡ d → at_place a b ≡ at_place c d
same_place a b c d e h = λ i. at_place (e i) (h i)

tally : (a b c d e f g h : ℕ) → count_by (λ s. s == 1) (a ∷ b ∷ c ∷ d ∷ e ∷ f ∷ g ∷ h ∷ [])
    ≡ one_if_live a + one_if_live b + one_if_live c + one_if_live d + one_if_live e + one_if_live f + one_if_live g + one_if_live h
tally a b c d e f g h = omega arith

-- the cell in column x + 1 of row y + 1, where the cells round it are known
step_cell : (r : GenerationsRule) (old new : List BitPlane) (f : Place → ℕ) (corner : Place) (x y : ℕ) → x < 14 → y < 14 → StepsPlanes r old new
    → ((c : Place) → f c < r.states)
    → ((u v : ℕ) → x ≤ u → u ≤ x + 2 → y ≤ v → v ≤ y + 2 → state_in 8 old u v ≡ f (moved corner (pos u) (pos v)))
    → state_in 8 new (x + 1) (y + 1) ≡ at r f 1 (moved corner (pos (x + 1)) (pos (y + 1)))
step_cell r old new f corner x y hx hy steps below agrees =
    let cell : Place = moved corner (pos (x + 1)) (pos (y + 1)) in
    let near : (u v : ℕ) (dx dy : ℤ) → x ≤ u → u ≤ x + 2 → y ≤ v → v ≤ y + 2 → ((corner.x +ℤ pos (x + 1)) +ℤ dx) ≡ corner.x +ℤ pos u → ((corner.y +ℤ pos (y + 1)) +ℤ dy) ≡ corner.y +ℤ pos v
    → f (moved cell dx dy) ≡ state_in 8 old u v =
    λ u v dx dy a b c d e h. ap f (same_place _ _ _ _ e h) ∙ sym (agrees u v a b c d) in
    let nw = near x y (negsuc 0) (negsuc 0) (omega arith) (omega arith) (omega arith) (omega arith) (back corner.x x) (back corner.y y) in
    let north = near (x + 1) y (pos 0) (negsuc 0) (omega arith) (omega arith) (omega arith) (omega arith) (still corner.x x) (back corner.y y) in
    let ne = near (x + 2) y (pos 1) (negsuc 0) (omega arith) (omega arith) (omega arith) (omega arith) (ahead corner.x x) (back corner.y y) in
    let west = near x (y + 1) (negsuc 0) (pos 0) (omega arith) (omega arith) (omega arith) (omega arith) (back corner.x x) (still corner.y y) in
    let east = near (x + 2) (y + 1) (pos 1) (pos 0) (omega arith) (omega arith) (omega arith) (omega arith) (ahead corner.x x) (still corner.y y) in
    let sw = near x (y + 2) (negsuc 0) (pos 1) (omega arith) (omega arith) (omega arith) (omega arith) (back corner.x x) (ahead corner.y y) in
    let south = near (x + 1) (y + 2) (pos 0) (pos 1) (omega arith) (omega arith) (omega arith) (omega arith) (still corner.x x) (ahead corner.y y) in
    let se = near (x + 2) (y + 2) (pos 1) (pos 1) (omega arith) (omega arith) (omega arith) (omega arith) (ahead corner.x x) (ahead corner.y y) in
    let own : state_in 8 old (x + 1) (y + 1) ≡ f cell = agrees (x + 1) (y + 1) (omega arith) (omega arith) (omega arith) (omega arith) in
    let count : live_around f cell ≡ live_in old x y =
    tally _ _ _ _ _ _ _ _
    ∙ (λ i. one_if_live (nw i) + one_if_live (north i) + one_if_live (ne i) + one_if_live (west i) + one_if_live (east i) + one_if_live (sw i) + one_if_live (south i) + one_if_live (se i)) in
    let all : AreBelow r.states old x y = record {
      below = λ u v a b c d. subst (λ s. s < r.states) (sym (agrees u v a b c d)) (below (moved corner (pos u) (pos v)));
    } in
    steps.inner x y hx hy all ∙ ap (λ s. next_state r s (live_in old x y)) own ∙ ap (next_state r (f cell)) (sym count)

-- one generation, of a block of which only the cells behind a margin are known: the margin grows by one
abbrev pub Steps : GenerationsRule → List ℕ → List ℕ → Type 0
Steps r old new =
    (margin : ℕ) (f : Place → ℕ) (corner : Place) → ((c : Place) → f c < r.states) → AgreesOnBlock margin f corner old → AgreesOnBlock (suc margin) (at r f 1) corner new

pub steps_in_maps : (r : GenerationsRule) (old new : List BitPlane) → StepsPlanes r old new → Steps r (block_states old) (block_states new)
steps_in_maps r old new steps margin f corner below agrees = λ x y left right top bottom.
    let column : x - 1 + 1 ≡ x = omega arith in
    let row : y - 1 + 1 ≡ y = omega arith in
    let known : (u v : ℕ) → x - 1 ≤ u → u ≤ x - 1 + 2 → y - 1 ≤ v → v ≤ y - 1 + 2 → state_in 8 old u v ≡ f (moved corner (pos u) (pos v)) =
    λ u v a b c d. sym (block_read old u v (omega arith) (omega arith)) ∙ agrees u v (omega arith) (omega arith) (omega arith) (omega arith) in
    block_read new x y (omega arith) (omega arith)
    ∙ subst (λ u. state_in 8 new u y ≡ at r f 1 (moved corner (pos u) (pos y))) column
    (subst (λ v. state_in 8 new (x - 1 + 1) v ≡ at r f 1 (moved corner (pos (x - 1 + 1)) (pos v))) row
    (step_cell r old new f corner (x - 1) (y - 1) (omega arith) (omega arith) steps below known))

pub advances_none : (r : GenerationsRule) (states : List ℕ) → Advances r 0 states states
advances_none r states f corner below agrees = agrees

-- one generation more
pub advances_more : (r : GenerationsRule) (g : ℕ) (old mid new : List ℕ) → IsRule r → Advances r g old mid → Steps r mid new → Advances r (g + 1) old new
advances_more r g old mid new ok so_far step f corner below agrees =
    subst (λ k. AgreesOnBlock k (at r f k) corner new) (sym (add-one g))
    (step g (at r f g) corner (λ c. stays_in_range r f g c ok below) (so_far f corner below agrees))
