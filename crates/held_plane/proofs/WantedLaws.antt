-- Pieces of the maps that are wanted.
use Rattle.std.proofs.Common.{inl, inr, sym, ap, ◌∙◌, arith, pos}
use Rattle.std.specs.Prelude.{take}
use Rattle.generations_rule.specs.Place.{moved}
use Rattle.edit_stamps.specs.Edit.{greatest}
use Rattle.stamped_writes.specs.Write.{Writes, AreSame, greater}
use Rattle.square_store.specs.Grid.{AreSameWithin}
use Rattle.square_store.specs.Squares.{side_at, grid_at}
use Rattle.square_store.specs.Store.{IsGrown}
use Rattle.square_store.proofs.Made.{full_as}
use Rattle.square_store.proofs.PieceLaws.{adds_as, piece_as, piece_later}
use Rattle.stamped_tree.specs.LeafKind.{plane_grid}
use Rattle.stamped_tree.specs.MapPieces.{AddsPiecesOfMap, IsFullForMap, square_of}
use Rattle.stamped_tree.specs.Plane.{StampedPlane, StoresRootAlone, map_of}
use Rattle.stamped_tree.specs.Tree.{plane_corner}
use Rattle.stamped_tree.proofs.Maps.{root_read}
use Rattle.held_plane.specs.declared.added.Added.{Added}
use Rattle.held_plane.specs.declared.added.Added.TheVariants.{Edits, Map}
use Rattle.held_plane.specs.Wanted.{AddsPiecesOfSome, IsFullForSome, IsFullOfNeeds, IsWantedOf}

square_as : (m n : Writes) → AreSame m n → AreSameWithin (side_at 8 28) (square_of m) (square_of n)
square_as m n same u v hu hv = same (moved plane_corner (pos u) (pos v))

-- ---- maps that are the same

pub adds_same_map : (old new : StampedPlane) (m n : Writes) → AreSame m n → AddsPiecesOfMap old new m → AddsPiecesOfMap old new n
adds_same_map old new m n same = adds_as plane_grid 8 old.store new.store 28 (square_of m) (square_of n) (square_as m n same)

pub full_same_map : (p : StampedPlane) (m n : Writes) → AreSame m n → IsFullForMap p m → IsFullForMap p n
full_same_map p m n same = full_as plane_grid 8 28 (square_of n) (square_of m) (λ u v hu hv. sym (square_as m n same u v hu hv)) p.store

-- ---- maps of a kind

module _ (IsOne : Writes → Type 0) where
  pub some_none : (p : StampedPlane) → AddsPiecesOfSome p p IsOne
  some_none p q held = inl held

  -- pieces of one map of the kind
  pub some_one : (old new : StampedPlane) (m : Writes) → IsOne m → AddsPiecesOfMap old new m → AddsPiecesOfSome old new IsOne
  some_one old new m is adds q held = elim (adds q held) [
    | inl there ↦ inl there
    | inr piece ↦ inr (m, (is, piece))
  ]

  -- pieces that were added in two steps
  pub some_more : (p q r : StampedPlane) → IsGrown plane_grid 8 q.store r.store → AddsPiecesOfSome p q IsOne → AddsPiecesOfSome q r IsOne → AddsPiecesOfSome p r IsOne
  some_more p q r grown first second x held = elim (second x held) [
    | inr piece ↦ inr piece
    | inl there ↦ elim (first x there) [
      | inl before ↦ inl before
      | inr piece ↦ inr (piece.0, (piece.1.0, piece_later plane_grid 8 q.store r.store grown 28 (square_of piece.0) x piece.1.1))
    ]
  ]

-- ---- a copy

-- what is wanted of a map is wanted of any that is the same
wanted_as : (old now map : Writes) (added : Added) → AreSame now old → IsWantedOf now added map → IsWantedOf old added map
wanted_as old now map (Edits edits) same is = (is.0, (is.1.0, λ c. is.1.1 c ∙ ap (λ v. greater v (greatest (take is.0 edits.now) c)) (same c)))
wanted_as old now map (Map plane) same is = λ c. is c ∙ ap (λ v. greater v (map_of plane.now c)) (same c)

-- a copy that became full is full of what it needs
pub full_of_needs : (old copy new : StampedPlane) (added : Added) → AreSame (map_of copy) (map_of old) → StoresRootAlone copy → IsGrown plane_grid 8 copy.store new.store
    → AddsPiecesOfSome copy new (IsWantedOf (map_of copy) added) → IsFullForSome new (IsWantedOf (map_of copy) added) → IsFullOfNeeds old new added
full_of_needs old copy new added same alone grown adds full = record {
  full = full.1.1.full;
  needed = λ q held. elim (adds q held) [
    | inr piece ↦ inr (piece.0, (wanted_as (map_of old) (map_of copy) piece.0 added same piece.1.0, piece.1.1))
    | inl there ↦ inl (piece_as plane_grid 8 new.store 28 (grid_at plane_grid 8 copy.store 28 copy.root) (square_of (map_of old)) q
        (λ u v hu hv. sym (root_read copy u v (omega (arith, hu)) (omega (arith, hv))) ∙ square_as (map_of copy) (map_of old) same u v hu hv)
        (piece_later plane_grid 8 copy.store new.store grown 28 (grid_at plane_grid 8 copy.store 28 copy.root) q (alone q there)))
  ];
  lacking = (full.0, (wanted_as (map_of old) (map_of copy) full.0 added same full.1.0, full.1.1));
}
