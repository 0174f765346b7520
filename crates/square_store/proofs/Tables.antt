-- What a search in a table has still to look at, and squares whose results change.
use Rattle.std.proofs.Common.{◌≡◌, inl, inr, ℕ, zero, suc, ◌+◌, ◌-◌, ◌<◌, ◌≤◌, replicate, List, [], ◌∷◌, ◌++◌, map, length, take, refl, sym, ap, ◌∙◌, subst, arith}
use Rattle.std.specs.Prelude.{Some, slice_get, slice_set}
use Rattle.indexmap.specs.IndexTable.Group.{IsBitSet}
use Rattle.square_store.specs.declared.group.Group.{Group}
use Rattle.square_store.specs.declared.node.Node.{Node}
use Rattle.keyed_hash.specs.declared.key.HashKey.{HashKey}
use Rattle.square_store.specs.Groups.{HasSlot, IsMet, AreLinked, IsPut, empty_group, head_of, tag_of}
use Rattle.square_store.specs.Squares.{HasLevel}
use Rattle.square_store.specs.Stored.{AreMet, node_hash}
use Rattle.square_store.proofs.Lists.{some_inj, got_more}
use Rattle.square_store.proofs.Chains.{empty_next, some_tag}
use Rattle.std.proofs.lemmas.Bool.{cases_eq}
use Rattle.std.proofs.lemmas.Option.{slice_get_within, slice_get_cases}
use lib.ListN.{length-replicate}

-- the slots of a group that were not looked at are among these bits, if a square that is sought stands there
pub record SlotsLeft (nodes : List Node) (g : Group) (tag : ℕ) (x : Node) (bits : ℕ) : Type 0 where
  pub within : (k : ℕ) → IsBitSet bits k → k < 11
  pub left : (k p : ℕ) → HasSlot g k tag p → slice_get nodes p ≡ Some x → IsBitSet bits k

-- a search that begins at a group comes by the square that is sought, wherever it stands
pub record IsAhead (groups : List Group) (nodes : List Node) (tag : ℕ) (x : Node) (at : ℕ) : Type 0 where
  pub within : at < length groups
  pub ahead : (p : ℕ) → slice_get nodes p ≡ Some x → IsMet groups tag p at

-- ---- one thing of a list is another

pub map_set : {A B : Type 0} (f : A → B) (xs : List A) (i : ℕ) (y : A) → map f (slice_set xs i y) ≡ slice_set (map f xs) i (f y)
map_set f [] i y = refl
map_set f (x ∷ xs) zero y = refl
map_set f (x ∷ xs) (suc i) y = ap (λ l. f x ∷ l) (map_set f xs i y)

pub map_same : {A B : Type 0} (f : A → B) (xs : List A) (i : ℕ) (x y : A) → slice_get xs i ≡ Some x → f y ≡ f x → map f (slice_set xs i y) ≡ map f xs
map_same f [] i x y e same = refl
map_same f (z ∷ xs) zero x y e same = ap (λ b. b ∷ map f xs) (same ∙ ap f (sym (some_inj e)))
map_same f (z ∷ xs) (suc i) x y e same = ap (λ l. f z ∷ l) (map_same f xs i x y e same)

pub map_more : {A B : Type 0} (f : A → B) (xs : List A) (y : A) → map f (xs ++ y ∷ []) ≡ map f xs ++ f y ∷ []
map_more f [] y = refl
map_more f (x ∷ xs) y = ap (λ l. f x ∷ l) (map_more f xs y)

-- ---- squares that are met, and one more

-- the first squares are met
pub record AreMetUpTo (key : HashKey) (groups : List Group) (heads : ℕ) (nodes : List Node) (count : ℕ) : Type 0 where
  pub linked : AreLinked groups
  pub heads_within : heads ≤ length groups
  pub met : (p : ℕ) (x : Node) → p < count → slice_get nodes p ≡ Some x → IsMet groups (tag_of (node_hash key x)) p (head_of heads (node_hash key x))

empty_at : (n at : ℕ) (g : Group) → slice_get (replicate n empty_group) at ≡ Some g → g.next ≡ 0
empty_at zero at g e = cc
empty_at (suc n) zero g e = ap (λ (z : Group). z.next) (sym (some_inj e)) ∙ empty_next
empty_at (suc n) (suc at) g e = empty_at n at g e

pub none_met : (key : HashKey) (heads : ℕ) (nodes : List Node) → AreMetUpTo key (replicate heads empty_group) heads nodes 0
none_met key heads nodes = record {
  linked = λ at g e. inl (empty_at heads at g e);
  heads_within = omega (arith, length-replicate heads empty_group);
  met = λ p x h e. absurd (omega (arith, h));
}

pub one_more_met : (key : HashKey) (gs new : List Group) (heads : ℕ) (nodes : List Node) (count : ℕ) (x : Node) → AreMetUpTo key gs heads nodes count → slice_get nodes count ≡ Some x
    → IsPut gs new (head_of heads (node_hash key x)) (tag_of (node_hash key x)) count → AreMetUpTo key new heads nodes (count + 1)
one_more_met key gs new heads nodes count x are e put = record {
  linked = put.linked;
  heads_within = (let h = are.heads_within in let l = put.longer in omega (arith, h, l));
  met = λ p y h at. elim (cases_eq p count) [
    | inl same ↦ (let z : x ≡ y = some_inj (sym e ∙ subst (λ n. slice_get nodes n ≡ Some y) same at) in
        subst (λ n. IsMet new (tag_of (node_hash key y)) n (head_of heads (node_hash key y))) (sym same) (subst (λ (v : Node). IsMet new (tag_of (node_hash key v)) count (head_of heads (node_hash key v))) z put.met))
    | inr other ↦ put.stay (tag_of (node_hash key y)) p (head_of heads (node_hash key y)) (some_tag (node_hash key y)) (are.met p y (omega (arith, h, other)) at)
  ];
}

pub all_met : (key : HashKey) (gs : List Group) (heads : ℕ) (nodes : List Node) (count : ℕ) → 0 < heads → length nodes ≤ count → AreMetUpTo key gs heads nodes count → AreMet key gs heads nodes
all_met key gs heads nodes count some long are = record {
  linked = are.linked;
  heads_within = are.heads_within;
  some = λ h. some;
  met = λ p x e. (let w = slice_get_within nodes p x e in are.met p x (omega (arith, w, long)) e);
}

pub last_met : (key : HashKey) (gs new : List Group) (heads : ℕ) (nodes : List Node) (x : Node) → 0 < heads → AreMet key gs heads nodes
    → IsPut gs new (head_of heads (node_hash key x)) (tag_of (node_hash key x)) (length nodes) → AreMet key new heads (nodes ++ x ∷ [])
last_met key gs new heads nodes x some are put = record {
  linked = put.linked;
  heads_within = (let h = are.heads_within in let l = put.longer in omega (arith, h, l));
  some = λ h. some;
  met = λ p y at. elim (got_more nodes x p y at) [
    | inl there ↦ put.stay (tag_of (node_hash key y)) p (head_of heads (node_hash key y)) (some_tag (node_hash key y)) (are.met p y there)
    | inr last ↦ subst (λ n. IsMet new (tag_of (node_hash key y)) n (head_of heads (node_hash key y))) (sym last.0) (subst (λ (v : Node). IsMet new (tag_of (node_hash key v)) (length nodes) (head_of heads (node_hash key v))) (sym last.1) put.met)
  ];
}

pub put_as : (gs new : List Group) (h h' t t' p p' : ℕ) → h ≡ h' → t ≡ t' → p ≡ p' → IsPut gs new h t p → IsPut gs new h' t' p'
put_as gs new h h' t t' p p' eh et ep put = subst (λ z. IsPut gs new z t' p') eh (subst (λ z. IsPut gs new h z p') et (subst (λ z. IsPut gs new h t z) ep put))

-- groups that were made for the first time
pub made_empty : (heads : ℕ) (old : List Group) (len : ℕ) (g : Group) → old ≡ [] → len ≡ 0 → g ≡ empty_group → take heads old ++ replicate (heads - len) g ≡ replicate heads empty_group
made_empty heads old len g none zero_long is = rw (none, is) (nothing heads (replicate (heads - len) empty_group) ∙ ap (λ n. replicate n empty_group) (omega (arith, zero_long)))
  where
    nothing : (n : ℕ) (ys : List Group) → take n [] ++ ys ≡ ys
    nothing zero ys = refl
    nothing (suc n) ys = refl

pub got_map : {A B : Type 0} (f : A → B) (xs : List A) (i : ℕ) (x : A) → slice_get xs i ≡ Some x → slice_get (map f xs) i ≡ Some (f x)
got_map f [] i x e = cc
got_map f (y ∷ xs) zero x e = ap (λ z. Some (f z)) (some_inj e)
got_map f (y ∷ xs) (suc i) x e = got_map f xs i x e

-- where a square of a level stands, one stands
pub level_within : (k : ℕ) (nodes : List Node) (p : ℕ) → HasLevel k (slice_get nodes p) → p < length nodes
level_within k nodes p h = elim ((slice_get_cases nodes p).1) [
  | inl is ↦ is.1
  | inr past ↦ absurd (subst (HasLevel k) past.1 h)
]
