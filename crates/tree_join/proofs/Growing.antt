-- Growth in steps.
use Rattle.std.proofs.Common.{◌∙◌, ◌≡◌, ℕ, ◌+◌, ◌-◌, ◌*◌, ◌<◌, ◌≤◌, List, sym, subst, arith}
use Rattle.std.specs.Prelude.{slice_index_or}
use Rattle.square_store.specs.Seen.{IsFourAt}
use Rattle.square_store.specs.Squares.{Held, IsAt}
use Rattle.stamped_tree.specs.declared.leaf_kind.PlaneLeaf.{PlaneLeaf}
use Rattle.stamped_tree.specs.LeafKind.{plane_grid}
use Rattle.stamped_tree.specs.Plane.{HasGrown, StampedPlane}
use Rattle.square_store.proofs.Drawn.{grown_more}
use Rattle.stamped_tree.proofs.Parts.{part_stands, same_default}
use Rattle.tree_join.specs.Squares.{AreQuarters}

pub grown_on : (p q r : StampedPlane) → HasGrown p q → HasGrown q r → HasGrown p r
grown_on p q r g h = record {
  store = grown_more plane_grid 8 p.store q.store r.store g.store h.store;
  root = h.root ∙ g.root;
  map = λ c. h.map c ∙ g.map c;
}

-- levels
pub some_above : (k : ℕ) → 0 < k → 1 ≤ k
some_above k some = omega (arith, some)

pub level_below : (k : ℕ) → k ≤ 28 → k - 1 ≤ 28
level_below k most = omega (arith, most)

pub part_falls : (k t : ℕ) → 0 < k → 2 * k ≡ t → 2 * (k - 1) + 1 < t
part_falls k t some is = omega (arith, some, is)

-- the parts of a square of four stand
module _ (s : Held PlaneLeaf) (k p : ℕ) (parts : List ℕ) (four : IsFourAt plane_grid 8 s k parts p) where
  pub nw_stands : (d : ℕ) → IsAt s (k - 1) (slice_index_or parts 0 d)
  nw_stands d = part_stands s k p parts four 0 d (omega arith)

  pub ne_stands : (d : ℕ) → IsAt s (k - 1) (slice_index_or parts 1 d)
  ne_stands d = part_stands s k p parts four 1 d (omega arith)

  pub sw_stands : (d : ℕ) → IsAt s (k - 1) (slice_index_or parts 2 d)
  sw_stands d = part_stands s k p parts four 2 d (omega arith)

  pub se_stands : (d : ℕ) → IsAt s (k - 1) (slice_index_or parts 3 d)
  se_stands d = part_stands s k p parts four 3 d (omega arith)

-- so do the quarters of a square
module _ (s : Held PlaneLeaf) (k p : ℕ) (parts : List ℕ) (cut : AreQuarters s k p parts) where
  quarter_stands : (i d : ℕ) → i < 4 → IsAt s (k - 1) (slice_index_or parts i d)
  quarter_stands i d h = subst (λ q. IsAt s (k - 1) q) (sym (same_default parts i d 0 (let l = cut.four in omega (arith, h, l)))) (cut.stand i h)

  pub nw_quarter : (d : ℕ) → IsAt s (k - 1) (slice_index_or parts 0 d)
  nw_quarter d = quarter_stands 0 d (omega arith)

  pub ne_quarter : (d : ℕ) → IsAt s (k - 1) (slice_index_or parts 1 d)
  ne_quarter d = quarter_stands 1 d (omega arith)

  pub sw_quarter : (d : ℕ) → IsAt s (k - 1) (slice_index_or parts 2 d)
  sw_quarter d = quarter_stands 2 d (omega arith)

  pub se_quarter : (d : ℕ) → IsAt s (k - 1) (slice_index_or parts 3 d)
  se_quarter d = quarter_stands 3 d (omega arith)
