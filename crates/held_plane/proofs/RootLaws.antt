-- A plane whose root becomes another part of its store.
use Rattle.std.proofs.Common.{◌≡◌, ◌↔◌, ℕ, Bool, false, refl, sym, ◌∙◌, ap, arith}
use Rattle.std.specs.Prelude.{◌==◌, not}
use Rattle.std.proofs.lemmas.Bool.Decides.{nat_tests}
use Rattle.stamped_writes.specs.declared.write.Write.{Write}
use Rattle.stamped_writes.specs.Write.{AreSame}
use Rattle.square_store.specs.Store.{IsOnePartEach}
use Rattle.stamped_tree.specs.LeafKind.{plane_grid}
use Rattle.stamped_tree.specs.Plane.{StampedPlane, IsPart, map_of, rooted}
use Rattle.tree_join.proofs.Reading.{reads_related}

-- the root is the one square of the map
root_of_map : (p : StampedPlane) (part : ℕ) → IsOnePartEach plane_grid 8 p.store → IsPart p.store 31 p.root → IsPart p.store 31 part
    → AreSame (map_of (rooted p part)) (map_of p) → p.root ≡ part
root_of_map p part once root stands same =
    sym (once 28 part p.root stands root ((reads_related (λ (v w : Write). v ≡ w) refl (rooted p part) p).1 same))

-- the map stays where the root stays, and nowhere else
pub kept_root : (p new : StampedPlane) (part : ℕ) (is_another : Bool) → is_another ≡ not (p.root == part) → IsOnePartEach plane_grid 8 p.store
    → IsPart p.store 31 p.root → IsPart p.store 31 part → AreSame (map_of new) (map_of (rooted p part))
    → (is_another ≡ false) ↔ AreSame (map_of new) (map_of p)
kept_root p new part is_another told once root stands set = (
  λ stays at. set at ∙ ap (λ r. map_of (rooted p r) at) (sym (grind (arith, nat_tests, told, stays))),
  λ same. (let is : p.root ≡ part = root_of_map p part once root stands (λ at. sym (set at) ∙ same at) in grind (arith, nat_tests, told, is)),
)
