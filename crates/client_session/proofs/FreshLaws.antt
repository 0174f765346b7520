-- Edits that were noted already add nothing to a map that is above them.
use Rattle.std.proofs.Common.{◌≡◌, Bool, true, false, zero, suc, List, [], ◌∷◌, ◌++◌, length, drop, refl, sym, ap, subst, ◌∙◌, arith, inl, inr, append-nil, append_assoc}
use Rattle.std.proofs.Math.Seq.{drop-append_seam}
use Rattle.std.proofs.lemmas.List.Elements.{Contains-append_cases}
use Rattle.std.specs.Prelude.{IsTrue, ◌↔◌, if◌then◌else◌}
use Rattle.std.specs.List.{Contains, list_any}
use Rattle.generations_rule.specs.Place.{Place}
use Rattle.stamped_writes.specs.Write.{Writes, AreSame, IsBelow, at_most, greater, joined}
use Rattle.edit_stamps.specs.Edit.{PlaneEdit, greatest, is_edit, writes_of}
use Rattle.edit_stamps.proofs.WriteLaws.{greater-unwritten, depends_on_members, is_lattice, is_least_upper_bound, is_total, joins_lists}
use Rattle.edit_journal.specs.Journal.{noted}
use Rattle.edit_journal.proofs.NotedLaws.{noted_members}

one_behind : (b : Bool) (H : List PlaneEdit) (x : PlaneEdit) (N : List PlaneEdit) → (fresh : List PlaneEdit) × (N ≡ (if b then H else H ++ x ∷ []) ++ fresh) → (fresh : List PlaneEdit) × (N ≡ H ++ fresh)
one_behind true H x N h = h
one_behind false H x N h = (x ∷ h.0, h.1 ∙ append_assoc H (x ∷ []) h.0)

-- the journal stays in front
noted_behind : (H E : List PlaneEdit) → (fresh : List PlaneEdit) × (noted H E ≡ H ++ fresh)
noted_behind H [] = ([], sym (append-nil H))
noted_behind H (x ∷ E) =
    one_behind (list_any (is_edit x) H) H x (noted H (x ∷ E)) (noted_behind (if list_any (is_edit x) H then H else H ++ x ∷ []) E)

all_below : (H : List PlaneEdit) (p : Writes) → ((e : PlaneEdit) → Contains H e → IsBelow (writes_of e) p) → IsBelow (greatest H) p
all_below [] p held = λ c. is_total.least (p c)
all_below (x ∷ H) p held = is_least_upper_bound.least (writes_of x) (greatest H) p (held x (0, omega arith, refl)) (all_below H p (λ e m. held e (suc m.0, omega (arith, m.1), m.2)))

-- a map above a list takes the same from others as from both together
above : (H E : List PlaneEdit) (p : Writes) → IsBelow (greatest H) p → AreSame (joined p (greatest E)) (joined p (greatest (H ++ E)))
above H E p below c =
    ap (λ w. greater w (greatest E c)) (sym ((is_least_upper_bound.absorbs (greatest H) p).0 below c) ∙ is_lattice.commutative (greatest H c) (p c))
    ∙ is_lattice.associative (p c) (greatest H c) (greatest E c)
    ∙ ap (greater (p c)) (sym (joins_lists H E c))

-- the edits of which a journal is told that it has by then
pub only_fresh : (H E fresh : List PlaneEdit) (p : Writes) → ((e : PlaneEdit) → Contains H e → IsBelow (writes_of e) p) → noted H E ≡ H ++ fresh
    → AreSame (joined p (greatest E)) (joined p (greatest fresh))
only_fresh H E fresh p held is c =
    let below : IsBelow (greatest H) p = all_below H p held in
    let same : AreSame (greatest (H ++ E)) (greatest (H ++ fresh)) = depends_on_members (H ++ E) (H ++ fresh) (λ e. members e) in
    above H E p below c ∙ ap (greater (p c)) (same c) ∙ sym (above H fresh p below c) where
      members : (e : PlaneEdit) → Contains (H ++ E) e ↔ Contains (H ++ fresh) e
      members e = rw (← is) ((noted_members H E e).1, (noted_members H E e).0)

-- ---- a map and a journal that grow

abbrev pub HoldsAll : List PlaneEdit → Writes → Type 0
HoldsAll J p = (e : PlaneEdit) → Contains J e → IsBelow (writes_of e) p

-- a journal has more edits than before, which are joined into the map
pub record Grows (J K : List PlaneEdit) (p q : Writes) : Type 0 where
  pub fresh : List PlaneEdit
  pub behind : K ≡ J ++ fresh
  pub joins : AreSame q (joined p (greatest fresh))
  pub held : HoldsAll K q

lifted : (p q added : Writes) (e : PlaneEdit) → AreSame q (joined p added) → IsBelow (writes_of e) p → IsBelow (writes_of e) q
lifted p q added e whole below c = is_total.transitive (writes_of e c) (p c) (q c) (below c) (subst (λ w. IsTrue (at_most (p c) w)) (sym (whole c)) (is_least_upper_bound.left p added c))

above_each : (E : List PlaneEdit) (e : PlaneEdit) (c : Place) → Contains E e → IsTrue (at_most (writes_of e c) (greatest E c))
above_each [] e c (k, inside, is) = absurd (omega (arith, inside))
above_each (x ∷ E) e c (zero, inside, is) = subst (λ y. IsTrue (at_most (writes_of y c) (greater (writes_of x c) (greatest E c)))) is (is_least_upper_bound.left (writes_of x) (greatest E) c)
above_each (x ∷ E) e c (suc k, inside, is) =
    is_total.transitive (writes_of e c) (greatest E c) (greater (writes_of x c) (greatest E c)) (above_each E e c (k, omega (arith, inside), is)) (is_least_upper_bound.right (writes_of x) (greatest E) c)

held_by : (E : List PlaneEdit) (q p : Writes) (e : PlaneEdit) → AreSame q (joined p (greatest E)) → Contains E e → IsBelow (writes_of e) q
held_by E q p e whole has c = subst (λ w. IsTrue (at_most (writes_of e c) w)) (sym (whole c))
    (is_total.transitive (writes_of e c) (greatest E c) (joined p (greatest E) c) (above_each E e c has) (is_least_upper_bound.right p (greatest E) c))

pub grows_by : (J K E : List PlaneEdit) (p q : Writes) → HoldsAll J p → K ≡ noted J E → AreSame q (joined p (greatest E)) → Grows J K p q
grows_by J K E p q held is whole = let more = noted_behind J E in record {
  fresh = more.0;
  behind = is ∙ more.1;
  joins = λ c. whole c ∙ only_fresh J E more.0 p held more.1 c;
  held = λ e has. elim (Contains-append_cases J E e ((noted_members J E e).0 (subst (λ L. Contains L e) is has))) [
    | inl old ↦ lifted p q (greatest E) e whole (held e old)
    | inr new ↦ held_by E q p e whole new
  ];
}

pub grows_not : (J K : List PlaneEdit) (p q : Writes) → HoldsAll J p → K ≡ J → AreSame q p → Grows J K p q
grows_not J K p q held is same = record {
  fresh = [];
  behind = is ∙ sym (append-nil J);
  joins = λ c. same c ∙ sym (greater-unwritten (p c));
  held = λ e has c. subst (λ w. IsTrue (at_most (writes_of e c) w)) (sym (same c)) (held e (subst (λ L. Contains L e) is has) c);
}

pub grows_on : (J K L : List PlaneEdit) (p q r : Writes) → Grows J K p q → Grows K L q r → Grows J L p r
grows_on J K L p q r a b = record {
  fresh = a.fresh ++ b.fresh;
  behind = b.behind ∙ ap (λ xs. xs ++ b.fresh) a.behind ∙ append_assoc J a.fresh b.fresh;
  joins = λ c. b.joins c ∙ ap (λ w. greater w (greatest b.fresh c)) (a.joins c) ∙ is_lattice.associative (p c) (greatest a.fresh c) (greatest b.fresh c)
      ∙ ap (greater (p c)) (sym (joins_lists a.fresh b.fresh c));
  held = b.held;
}

-- what stands behind the journal's old end is what was joined
pub joins_behind : (J K : List PlaneEdit) (p q : Writes) → Grows J K p q → AreSame q (joined p (greatest (drop (length J) K)))
joins_behind J K p q g = subst (λ F. AreSame q (joined p (greatest F))) (sym (ap (drop (length J)) g.behind ∙ drop-append_seam J g.fresh)) g.joins
