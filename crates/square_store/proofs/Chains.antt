-- Searches that go from group to group, and what a group more leaves of them.
use Rattle.std.proofs.Common.{◌≡◌, ◌≢◌, ◌⊎◌, inl, inr, ℕ, zero, suc, ◌+◌, ◌<◌, List, [], ◌∷◌, ◌++◌, length, length-append, get_or, refl, sym, ap, ◌∙◌, subst, arith}
use Rattle.std.specs.Prelude.{Option, None, Some, slice_get, slice_set, slice_index}
use Rattle.std.proofs.lemmas.Bool.{cases_eq}
use Rattle.std.proofs.lemmas.Option.{slice_get_within, slice_get_read, slice_get-get_or}
use Rattle.square_store.specs.declared.group.Group.{Group}
use Rattle.square_store.specs.declared.groups.FreeSlot.{FreeSlot}
use Rattle.square_store.specs.Groups.{HasSlot, IsWritten, IsMet, here, behind, AreLinked, Reaches, there, onward, IsFree, IsFreeIn, IsBehind, IsPut, empty_group, tag_of}
use Rattle.square_store.proofs.Lists.{got_append, got_last, some_inj, got_more}

-- ---- a list in which one thing is another

pub got_set : {A : Type 0} (xs : List A) (i : ℕ) (v : A) → i < length xs → slice_get (slice_set xs i v) i ≡ Some v
got_set [] i v h = absurd (omega (arith, h))
got_set (x ∷ xs) zero v h = refl
got_set (x ∷ xs) (suc i) v h = got_set xs i v (omega (arith, h))

pub got_beside : {A : Type 0} (xs : List A) (i j : ℕ) (v : A) → j ≢ i → slice_get (slice_set xs i v) j ≡ slice_get xs j
got_beside [] i j v h = refl
got_beside (x ∷ xs) zero zero v h = absurd (h refl)
got_beside (x ∷ xs) zero (suc j) v h = refl
got_beside (x ∷ xs) (suc i) zero v h = refl
got_beside (x ∷ xs) (suc i) (suc j) v h = got_beside xs i j v (λ e. h (ap suc e))

pub as_long : {A : Type 0} (xs : List A) (i : ℕ) (v : A) → length (slice_set xs i v) ≡ length xs
as_long [] i v = refl
as_long (x ∷ xs) zero v = refl
as_long (x ∷ xs) (suc i) v = ap suc (as_long xs i v)

-- ---- searches

module _ (gs : List Group) where
  pub reach_met : (t p a b : ℕ) → Reaches gs a b → IsMet gs t p b → IsMet gs t p a
  reach_met t p a b (there at) m = m
  reach_met t p a b (onward at to g e n r) m = behind at g e n (reach_met t p g.next to r m)

  pub reach_next : (a b : ℕ) (g : Group) → Reaches gs a b → slice_get gs b ≡ Some g → 0 < g.next → Reaches gs a g.next
  reach_next a b g (there at) e n = onward at g.next g e n (there g.next)
  reach_next a b g (onward at to h e' n' r) e n = onward at g.next h e' n' (reach_next h.next to g r e n)

  -- a place that a search comes by, and that does not stand in its first group, it comes by in the next
  pub met_on : (t p a : ℕ) (g : Group) → slice_get gs a ≡ Some g → ((slot : ℕ) → HasSlot g slot t p → ⊥) → IsMet gs t p a → (0 < g.next) × IsMet gs t p g.next
  met_on t p a g e none (here at slot h eh has) = absurd (none slot (subst (λ (z : Group). HasSlot z slot t p) (some_inj (sym eh ∙ e)) has))
  met_on t p a g e none (behind at h eh n m) = subst (λ (z : Group). (0 < z.next) × IsMet gs t p z.next) (some_inj (sym eh ∙ e)) (n, m)

-- a search that goes on goes on to a later group
pub step_on : (gs : List Group) → AreLinked gs → (at n : ℕ) (g : Group) → slice_get gs at ≡ Some g → g.next ≡ n → 0 < n → (at < n) × (n < length gs)
step_on gs linked at n g e is some = elim (linked at g e) [
  | inl none ↦ absurd (omega (arith, none, is, some))
  | inr next ↦ (let h = next.0 in omega (arith, h, is), let h = next.1 in omega (arith, h, is))
]

pub reach_on : (gs : List Group) (head at n : ℕ) (g : Group) → Reaches gs head at → slice_get gs at ≡ Some g → g.next ≡ n → 0 < n → Reaches gs head n
reach_on gs head at n g r e is some = subst (λ z. Reaches gs head z) is (reach_next gs head at g r e (omega (arith, is, some)))

-- ---- what a change of the groups leaves

-- each group goes on to where it went on to, and has what it had under a tag
pub record Keeps (old new : List Group) : Type 0 where
  pub goes_on : (at : ℕ) (g : Group) → slice_get old at ≡ Some g → 0 < g.next → (h : Group) × (slice_get new at ≡ Some h) × (h.next ≡ g.next)
  pub has : (at slot t p : ℕ) (g : Group) → slice_get old at ≡ Some g → 0 < t → HasSlot g slot t p → (h : Group) × (slice_get new at ≡ Some h) × HasSlot h slot t p

module _ (old new : List Group) (keeps : Keeps old new) where
  pub met_stays : (t p a : ℕ) → 0 < t → IsMet old t p a → IsMet new t p a
  met_stays t p a some (here at slot g e has) = let h = keeps.has at slot t p g e some has in here at slot h.0 h.1 h.2
  met_stays t p a some (behind at g e n m) =
      let h = keeps.goes_on at g e n in
      behind at h.0 h.1 (omega (arith, n, h.2)) (subst (λ z. IsMet new t p z) (sym h.2) (met_stays t p g.next some m))

  pub reach_stays : (a b : ℕ) → Reaches old a b → Reaches new a b
  reach_stays a b (there at) = there at
  reach_stays a b (onward at to g e n r) =
      let h = keeps.goes_on at g e n in
      onward at to h.0 h.1 (omega (arith, n, h.2)) (subst (λ z. Reaches new z to) (sym h.2) (reach_stays g.next to r))

-- ---- a place in a slot that was free

module _ (gs : List Group) (linked : AreLinked gs) (head at slot tag place : ℕ) (g h : Group) (is : slice_get gs at ≡ Some g) (reached : Reaches gs head at)
    (free : slice_index g.tags slot ≡ 0) (written : IsWritten g h slot tag place) where
  abbrev now : List Group
  now = slice_set gs at h

  at_it : slice_get now at ≡ Some h
  at_it = got_set gs at h (slice_get_within gs at g is)

  beside : (a : ℕ) → a ≢ at → slice_get now a ≡ slice_get gs a
  beside a other = got_beside gs at a h other

  free_tag : (k t p : ℕ) → 0 < t → HasSlot g k t p → k ≢ slot
  free_tag k t p some has e = let z : slice_index g.tags k ≡ 0 = subst (λ s. slice_index g.tags s ≡ 0) (sym e) free in let y = has.tagged in omega (arith, some, z, y)

  goes : (a : ℕ) (x : Group) → slice_get gs a ≡ Some x → (y : Group) × (slice_get now a ≡ Some y) × (y.next ≡ x.next)
  goes a x e = elim (cases_eq a at) [
    | inl same ↦ (h, subst (λ z. slice_get now z ≡ Some h) (sym same) at_it, written.next ∙ ap (λ (z : Group). z.next) (some_inj (sym is ∙ subst (λ z. slice_get gs z ≡ Some x) same e)))
    | inr other ↦ (x, beside a other ∙ e, refl)
  ]

  back : (a : ℕ) (y : Group) → slice_get now a ≡ Some y → (x : Group) × (slice_get gs a ≡ Some x) × (y.next ≡ x.next)
  back a y e = elim (cases_eq a at) [
    | inl same ↦ (g, subst (λ z. slice_get gs z ≡ Some g) (sym same) is, ap (λ (z : Group). z.next) (sym (some_inj (sym at_it ∙ subst (λ z. slice_get now z ≡ Some y) same e))) ∙ written.next)
    | inr other ↦ (y, sym (beside a other) ∙ e, refl)
  ]

  keeps : Keeps gs now
  keeps = record {
    goes_on = λ a x e some. goes a x e;
    has = λ a k t p x e some has. elim (cases_eq a at) [
      | inl same ↦ (let has' : HasSlot g k t p = subst (λ (z : Group). HasSlot z k t p) (some_inj (sym (subst (λ z. slice_get gs z ≡ Some x) same e) ∙ is)) has in
          (h, subst (λ z. slice_get now z ≡ Some h) (sym same) at_it, written.others k t p (free_tag k t p some has') has'))
      | inr other ↦ (x, beside a other ∙ e, has)
    ];
  }

  pub put_in_slot : IsPut gs now head tag place
  put_in_slot = record {
    longer = omega (arith, as_long gs at h);
    linked = λ a y e. (let x = back a y e in subst (λ n. (n ≡ 0) ⊎ ((a < n) × (n < length now))) (sym x.2) (subst (λ n. (x.0.next ≡ 0) ⊎ ((a < x.0.next) × (x.0.next < n))) (sym (as_long gs at h)) (linked a x.0 x.1)));
    met = reach_met now tag place head at (reach_stays gs now keeps head at reached) (here at slot h at_it written.written);
    stay = λ t p a some m. met_stays gs now keeps t p a some m;
  }

-- ---- a place in a new group, behind one that was the last

module _ (gs : List Group) (linked : AreLinked gs) (head last tag place : ℕ) (g made : Group) (is : slice_get gs last ≡ Some g) (reached : Reaches gs head last)
    (ended : g.next ≡ 0) (holds : HasSlot made 0 tag place) (ends : made.next ≡ 0) where
  abbrev onto : Group
  onto = record { tags = g.tags; places = g.places; next = length gs }

  abbrev more : List Group
  more = slice_set gs last onto ++ made ∷ []

  last_within : last < length gs
  last_within = slice_get_within gs last g is

  last_is : slice_get more last ≡ Some onto
  last_is = got_append (slice_set gs last onto) (made ∷ []) last onto (got_set gs last onto last_within)

  stands : (a : ℕ) (x : Group) → a ≢ last → slice_get gs a ≡ Some x → slice_get more a ≡ Some x
  stands a x other e = got_append (slice_set gs last onto) (made ∷ []) a x (got_beside gs last a onto other ∙ e)

  made_is : slice_get more (length gs) ≡ Some made
  made_is = subst (λ n. slice_get more n ≡ Some made) (as_long gs last onto) (got_last (slice_set gs last onto) made)

  moved : (k t p : ℕ) → HasSlot g k t p → HasSlot onto k t p
  moved k t p has = record { within = has.within; tagged = has.tagged; placed = has.placed }

  keeps_more : Keeps gs more
  keeps_more = record {
    goes_on = λ a x e some. elim (cases_eq a last) [
      | inl same ↦ absurd (let z = ap (λ (y : Group). y.next) (some_inj (sym is ∙ subst (λ z. slice_get gs z ≡ Some x) same e)) in omega (arith, some, z, ended))
      | inr other ↦ (x, stands a x other e, refl)
    ];
    has = λ a k t p x e some has. elim (cases_eq a last) [
      | inl same ↦ (let has' : HasSlot g k t p = subst (λ (z : Group). HasSlot z k t p) (some_inj (sym (subst (λ z. slice_get gs z ≡ Some x) same e) ∙ is)) has in
          (onto, subst (λ z. slice_get more z ≡ Some onto) (sym same) last_is, moved k t p has'))
      | inr other ↦ (x, stands a x other e, has)
    ];
  }

  longer_by_one : length more ≡ length gs + 1
  longer_by_one = let l = length-append {A = Group} in let s = as_long gs last onto in omega (arith, l, s)

  linked_old : (a : ℕ) (y : Group) → slice_get (slice_set gs last onto) a ≡ Some y → (y.next ≡ 0) ⊎ ((a < y.next) × (y.next < length more))
  linked_old a y e = elim (cases_eq a last) [
    | inl same ↦ (let z = ap (λ (x : Group). x.next) (some_inj (sym (got_set gs last onto last_within) ∙ subst (λ n. slice_get (slice_set gs last onto) n ≡ Some y) same e)) in
        inr (omega (arith, z, same, last_within), omega (arith, z, longer_by_one)))
    | inr other ↦ elim (linked a y (sym (got_beside gs last a onto other) ∙ e)) [
      | inl none ↦ inl none
      | inr next ↦ inr (next.0, (let h = next.1 in omega (arith, h, longer_by_one)))
    ]
  ]

  pub put_behind_last : IsPut gs more head tag place
  put_behind_last = record {
    longer = omega (arith, longer_by_one);
    linked = λ a y e. elim (got_more (slice_set gs last onto) made a y e) [
      | inl old ↦ linked_old a y old
      | inr new ↦ inl (ap (λ (x : Group). x.next) new.1 ∙ ends)
    ];
    met = reach_met more tag place head last (reach_stays gs more keeps_more head last reached) (behind last onto last_is (omega (arith, last_within)) (here (length gs) 0 made made_is holds));
    stay = λ t p a some m. met_stays gs more keeps_more t p a some m;
  }

-- ---- a place where a search ended

free_at : (o : Option Group) (slot : ℕ) → IsFreeIn o (Some slot) → (g : Group) × (o ≡ Some g) × (slot < 11) × (slice_index g.tags slot ≡ 0)
free_at None slot h = absurd h
free_at (Some g) slot h = (g, refl, h.0, h.1)

module _ (gs : List Group) (linked : AreLinked gs) (head tag place : ℕ) (free : FreeSlot) (is : IsFree gs head free) where
  pub put_free : (slot : ℕ) (g h : Group) → free.slot ≡ Some slot → g ≡ get_or gs free.group g → IsWritten g h slot tag place → IsPut gs (slice_set gs free.group h) head tag place
  put_free slot g h e read written =
      let f = free_at (slice_get gs free.group) slot (subst (λ z. IsFreeIn (slice_get gs free.group) z) e is.free_in) in
      let there : slice_get gs free.group ≡ Some g = slice_get_read gs (length gs) free.group g refl (slice_get_within gs free.group f.0 f.1) read in
      let same : f.0 ≡ g = some_inj (sym f.1 ∙ there) in
      put_in_slot gs linked head free.group slot tag place g h there is.reached (subst (λ (z : Group). slice_index z.tags slot ≡ 0) same f.3) written

  pub put_last : (new : List Group) → free.slot ≡ None → IsBehind gs new free.group tag place → IsPut gs new head tag place
  put_last new e b =
      let ended : b.group.next ≡ 0 = subst (λ o. IsFreeIn o None) b.was (subst (λ z. IsFreeIn (slice_get gs free.group) z) e is.free_in) in
      subst (λ z. IsPut gs z head tag place) (sym b.whole) (put_behind_last gs linked head free.group tag place b.group b.made b.was is.reached ended b.holds b.ends)

pub free_slot_at : (gs : List Group) (at slot : ℕ) (d : Group) → at < length gs → (slot < 11) × (slice_index (get_or gs at d).tags slot ≡ 0) → IsFreeIn (slice_get gs at) (Some slot)
free_slot_at gs at slot d h free = subst (λ o. IsFreeIn o (Some slot)) (sym (slice_get-get_or gs at d h)) free

pub no_slot_at : (gs : List Group) (at : ℕ) (d : Group) → at < length gs → (get_or gs at d).next ≡ 0 → IsFreeIn (slice_get gs at) None
no_slot_at gs at d h ends = subst (λ o. IsFreeIn o None) (sym (slice_get-get_or gs at d h)) ends

pub empty_next : empty_group.next ≡ 0
unfolding empty_group
empty_next = refl

pub some_tag : (hash : ℕ) → 0 < tag_of hash
unfolding tag_of
some_tag hash = omega arith
