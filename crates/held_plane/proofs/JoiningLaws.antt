-- A plane to which edits are joined one after another.
use Rattle.std.proofs.Common.{◌≡◌, ℕ, ◌+◌, ◌<◌, ◌≤◌, ◌++◌, add-one, length, get_or, List, [], ◌∷◌, refl, sym, ◌∙◌, ap}
use Rattle.std.specs.Prelude.{take}
use Rattle.std.proofs.Math.Seq.{take-suc}
use Rattle.std.proofs.lemmas.List.{take_all}
use Rattle.edit_stamps.specs.Edit.{PlaneEdit, greatest, writes_of}
use Rattle.stamped_writes.specs.Write.{greater, Writes, AreSame, joined}
use Rattle.edit_stamps.proofs.WriteLaws.{is_lattice, greater-unwritten, joins_one_more}
use Rattle.stamped_tree.specs.LeafKind.{plane_grid}
use Rattle.stamped_tree.specs.Plane.{StampedPlane, HasGrown}
use Rattle.square_store.proofs.Drawn.{grown_more}

-- nothing is joined at first
pub joined_none : (old : Writes) (edits : List PlaneEdit) → AreSame old (joined old (greatest (take 0 edits)))
joined_none old edits c = sym (greater-unwritten (old c))

-- one edit more is joined
pub joined_next : (old now later : Writes) (edits : List PlaneEdit) (i : ℕ) (e : PlaneEdit) → i < length edits → e ≡ get_or edits i e →
    AreSame now (joined old (greatest (take i edits))) → AreSame later (joined now (writes_of e)) → AreSame later (joined old (greatest (take (i + 1) edits)))
joined_next old now later edits i e within is far step c =
    let more : take (i + 1) edits ≡ take i edits ++ e ∷ [] = ap (λ n. take n edits) (add-one i) ∙ take-suc edits i e within ∙ ap (λ x. take i edits ++ x ∷ []) (sym is) in
    step c ∙ ap (λ v. greater v (writes_of e c)) (far c) ∙ is_lattice.associative (old c) (greatest (take i edits) c) (writes_of e c)
    ∙ ap (greater (old c)) (sym (joins_one_more (take i edits) e c) ∙ ap (λ l. greatest l c) (sym more))

-- all of them are joined at last
pub joined_all : (old now : Writes) (edits : List PlaneEdit) (i : ℕ) → length edits ≤ i → AreSame now (joined old (greatest (take i edits))) → AreSame now (joined old (greatest edits))
joined_all old now edits i most far c = far c ∙ ap (λ l. greater (old c) (greatest l c)) (take_all i edits most)

-- a plane to which nothing was added
pub grows_anyway : (p : StampedPlane) → HasGrown p p
grows_anyway p = record {
  store = record { room = refl; held = λ q there. there; stands = λ k q at. at; same = λ k q at. refl };
  root = refl;
  map = λ c. refl;
}

-- a plane that has grown twice has grown
pub grows_on : (p q r : StampedPlane) → HasGrown p q → HasGrown q r → HasGrown p r
grows_on p q r one two = record {
  store = grown_more plane_grid 8 p.store q.store r.store one.store two.store;
  root = two.root ∙ one.root;
  map = λ c. two.map c ∙ one.map c;
}
