-- Results that are kept, in a store that grows.
use Rattle.std.proofs.Common.{◌≡◌, ℕ, zero, suc, ◌⊎◌, inl, inr, List, [], ◌∷◌, ◌++◌, ◌+◌, ◌-◌, ◌*◌, ◌<◌, ◌≤◌, ◌^◌, pos, Bool, true, false, cond, rules, refl, sym, ◌∙◌, ap, subst, arith}
use Rattle.std.specs.Prelude.{Option, None, Some, IfSome, slice_get, slice_set}
use Rattle.std.specs.HashMap.{HashMap, get}
use Rattle.generations_rule.specs.Place.{Place, moved}
use Rattle.generations_rule.specs.Rule.{GenerationsRule, IsRule}
use Rattle.square_store.specs.Grid.{Grid}
use Rattle.square_store.specs.Squares.{Held, side_at, IsAt, grid_at}
use Rattle.square_store.specs.Store.{IsGrown, IsNoneKept, nothing_held, with_first}
use Rattle.stamped_writes.specs.declared.write.Write.{Write}
use Rattle.generation_engine.specs.declared.leaf_kind.EngineLeaf.{EngineLeaf}
use Rattle.square_store.specs.declared.first_result.FirstResult.{FirstResult}
use Rattle.generation_engine.specs.declared.results.ResultKey.{ResultKey}
use Rattle.generation_engine.specs.EngineLeaf.{leaf_grid}
use Rattle.generation_engine.specs.Results.{IsResult}
use Rattle.generation_engine.specs.Kept.{AreKept, HasNoneKept, IsDeadAt, IsKept, IsLater, is_result_key}
use Rattle.std.proofs.lemmas.Nat.{pow-add}
use Rattle.std.proofs.Math.Nat.{pow-le-pow_right}
use Rattle.generations_rule.proofs.EvolutionLaws.{stays_empty}
use Rattle.square_store.specs.Seen.{IsBlankAt}
use Rattle.generation_engine.proofs.ResultLaws.{has_one_result}
use Rattle.square_store.proofs.Drawn.{twice_below}

-- the result of a square in a store that has grown before, and since
pub later_before : (r : GenerationsRule) (s t u : Held EngineLeaf) (k n p q : ℕ) → IsGrown leaf_grid 8 s t → IsAt s k p → IsLater r t u k n p q → IsLater r s u k n p q
later_before r s t u k n p q grown at later = record {
  stands = later.stands;
  result = subst (λ (g : Grid). IsResult r (side_at 4 (k - 1)) n g (grid_at leaf_grid 8 u (k - 1) q)) (grown.same k p at) later.result;
}

pub later_after : (r : GenerationsRule) (s t u : Held EngineLeaf) (k n p q : ℕ) → IsGrown leaf_grid 8 t u → IsLater r s t k n p q → IsLater r s u k n p q
later_after r s t u k n p q grown later = record {
  stands = grown.stands (k - 1) q later.stands;
  result = subst (λ (g : Grid). IsResult r (side_at 4 (k - 1)) n (grid_at leaf_grid 8 s k p) g) (sym (grown.same (k - 1) q later.stands)) later.result;
}

-- the result stands in a later store than the square did
pub later_since : (r : GenerationsRule) (s t u : Held EngineLeaf) (k n p q : ℕ) → IsGrown leaf_grid 8 s t → IsAt s k p → IsLater r s u k n p q → IsLater r t u k n p q
later_since r s t u k n p q grown at later = record {
  stands = later.stands;
  result = subst (λ (g : Grid). IsResult r (side_at 4 (k - 1)) n g (grid_at leaf_grid 8 u (k - 1) q)) (sym (grown.same k p at)) later.result;
}

key_kept_grown : (r : GenerationsRule) (s t : Held EngineLeaf) (key : ResultKey) (q : ℕ) → IsGrown leaf_grid 8 s t → IsKept r s key q → IsKept r t key q
key_kept_grown r s t key q grown old = record {
  stands = grown.stands key.level key.part old.stands;
  later = later_since r s t t key.level _ key.part q grown old.stands (later_after r s s t key.level _ key.part q grown old.later);
}

-- a store that grew, and of whose new squares no result is kept
pub kept_with_more : {S : Type 0} (r : GenerationsRule) (s t : Held EngineLeaf) (others : HashMap ResultKey ℕ S) → IsGrown leaf_grid 8 s t → IsNoneKept s t → AreKept r s s.firsts others → AreKept r t t.firsts others
kept_with_more r s t others grown none are = record {
  rule = are.rule;
  first = λ p x e. key_kept_grown r s t _ _ grown (are.first p x (none p x e));
  other = λ key q e. key_kept_grown r s t key q grown (are.other key q e);
}

-- nothing is kept where nothing was, and no result is new
pub nothing_kept : (s t : Held EngineLeaf) (room : ℕ) → s ≡ nothing_held room → IsNoneKept s t → HasNoneKept t
nothing_kept s t room e none p x at = nowhere p x (subst (λ (h : Held EngineLeaf). slice_get h.firsts p ≡ Some (Some x)) e (none p x at))
  where
    nowhere : (p : ℕ) (x : FirstResult) → slice_get [] p ≡ Some (Some x) → ⊥
    nowhere p x h = cc

-- ---- what is found

pub some_right : (o : Option ℕ) (P : ℕ → Type 0) → ((p : ℕ) → o ≡ Some p → P p) → IfSome o P
some_right None P h = tt
some_right (Some p) P h = h p refl

key_is : (k q : ResultKey) → is_result_key k q ≡ true → k ≡ q
key_is k q h = search (rules, h)

some_is : (w v : ℕ) → Some w ≡ Some v → w ≡ v
some_is w v e = cc

set_one : (firsts : List (Option FirstResult)) (i p : ℕ) (x y : FirstResult) → slice_get (slice_set firsts i (Some y)) p ≡ Some (Some x) → (slice_get firsts p ≡ Some (Some x)) ⊎ ((p ≡ i) × (y ≡ x))
set_one [] i p x y e = inl e
set_one (z ∷ zs) zero zero x y e = inr (refl, one e)
  where
    one : Some (Some y) ≡ Some (Some x) → y ≡ x
    one e = cc
set_one (z ∷ zs) zero (suc p) x y e = inl e
set_one (z ∷ zs) (suc i) zero x y e = inl e
set_one (z ∷ zs) (suc i) (suc p) x y e = elim (set_one zs i p x y e) [
  | inl there ↦ inl there
  | inr new ↦ inr (ap suc new.0, new.1)
]

-- one result more, at the place of its square
pub kept_first : {S : Type 0} (r : GenerationsRule) (s : Held EngineLeaf) (firsts : List (Option FirstResult)) (others : HashMap ResultKey ℕ S) (i : ℕ) (y : FirstResult) → AreKept r s firsts others
    → IsKept r s (record { level = y.level; part = i; exponent = y.exponent }) y.later → AreKept r s (slice_set firsts i (Some y)) others
kept_first r s firsts others i y are is = record { rule = are.rule; first = go; other = are.other }
  where
    go : (p : ℕ) (x : FirstResult) → slice_get (slice_set firsts i (Some y)) p ≡ Some (Some x) → IsKept r s (record { level = x.level; part = p; exponent = x.exponent }) x.later
    go p x e = elim (set_one firsts i p x y e) [
      | inl there ↦ are.first p x there
      | inr new ↦ rw (new.0, ← new.1) is
    ]

-- the same, in the store that has it
pub kept_with_first : {S : Type 0} (r : GenerationsRule) (s : Held EngineLeaf) (others : HashMap ResultKey ℕ S) (p : ℕ) (x : FirstResult) → IsGrown leaf_grid 8 s (with_first s p x) → AreKept r s s.firsts others
    → IsKept r s (record { level = x.level; part = p; exponent = x.exponent }) x.later → AreKept r (with_first s p x) (with_first s p x).firsts others
kept_with_first r s others p x grown are is =
    let kept = kept_first r s s.firsts others p x are is in
    record {
      rule = kept.rule;
      first = λ q y e. key_kept_grown r s (with_first s p x) _ _ grown (kept.first q y e);
      other = λ key q e. key_kept_grown r s (with_first s p x) key q grown (kept.other key q e);
    }

-- what stands at the place of a square, if it is that of the level and the exponent
pub first_is : {S : Type 0} (r : GenerationsRule) (s : Held EngineLeaf) (firsts : List (Option FirstResult)) (others : HashMap ResultKey ℕ S) → AreKept r s firsts others → (p k j : ℕ) (x : FirstResult)
    → slice_get firsts p ≡ Some (Some x) → x.level ≡ k → x.exponent ≡ j → IsLater r s s k (2 ^ j) p x.later
first_is r s firsts others are p k j x e level exponent = rw (← level, ← exponent) (are.first p x e).later

-- one result more, under its key
pub kept_more : {S : Type 0} (r : GenerationsRule) (s : Held EngineLeaf) (firsts : List (Option FirstResult)) (old new : HashMap ResultKey ℕ S) (key : ResultKey) (later : ℕ) → AreKept r s firsts old → IsKept r s key later
    → ((q : ResultKey) → get is_result_key new q ≡ cond (is_result_key key q) (Some later) (get is_result_key old q)) → AreKept r s firsts new
kept_more r s firsts old new key later are is updates = record { rule = are.rule; first = are.first; other = λ q v got. go q v (is_result_key key q) refl (sym (updates q) ∙ got) }
  where
    go : (q : ResultKey) (v : ℕ) (t : Bool) → is_result_key key q ≡ t → cond t (Some later) (get is_result_key old q) ≡ Some v → IsKept r s q v
    go q v true h g = subst (λ n. IsKept r s q n) (some_is later v g) (subst (λ z. IsKept r s z later) (key_is key q h) is)
    go q v false h g = are.other q v g

-- ---- dead squares

pub blank_dead : (s : Held EngineLeaf) (t p : ℕ) → IsBlankAt leaf_grid 8 s t p → IsDeadAt s p
blank_dead s t p blank = record {
  stands = λ k. (blank k).stands;
  dead = λ k u v hu hv. ap (λ (w : Write). w.state) ((blank k).same u v hu hv);
}

twice_quarter : (k : ℕ) → 0 < k → (4 * side_at 4 (k - 1) ≡ side_at 8 k) × (2 * side_at 4 (k - 1) ≡ side_at 8 (k - 1))
twice_quarter k some =
    let x = 2 ^ (k - 1) in let y = 2 ^ k in
    let w : 8 * y ≡ 8 * x + 8 * x = twice_below 8 k some in
    let e : 4 * (4 * x) ≡ 8 * y = omega (arith, w) in let e' : 2 * (4 * x) ≡ 8 * x = omega arith in (e, e')

-- nothing comes of a dead square in as many generations as a result can have
pub dead_later : (r : GenerationsRule) (s : Held EngineLeaf) (k j p : ℕ) → IsRule r → 0 < k → j ≤ k + 1 → IsDeadAt s p → IsLater r s s k (2 ^ j) p p
dead_later r s k j p rule some few dead = record {
  stands = dead.stands (k - 1);
  result = record {
    later = λ f corner below lies u v hu hv.
        (let sides = twice_quarter k some in
        let n = side_at 4 (k - 1) in
        let whole = sides.0 in let half = sides.1 in
        let zero_map : Place → ℕ = λ _. 0 in
        has_one_result r n (2 ^ j) (grid_at leaf_grid 8 s k p) f zero_map corner corner (in_time k j some few) lies (λ x y hx hy. sym (dead.dead k x y (omega (arith, hx, whole)) (omega (arith, hy, whole)))) u v hu hv
        ∙ stays_empty r zero_map (2 ^ j) (moved (moved corner (pos n) (pos n)) (pos u) (pos v)) rule (λ d near. refl)
        ∙ sym (dead.dead (k - 1) u v (omega (arith, hu, half)) (omega (arith, hv, half))));
  };
}
  where
    in_time : (k j : ℕ) → 0 < k → j ≤ k + 1 → 2 ^ j ≤ side_at 4 (k - 1)
    in_time k j some few =
        let e : 2 + (k - 1) ≡ k + 1 = omega (arith, some) in
        let split : 2 ^ (2 + (k - 1)) ≡ 2 ^ 2 * 2 ^ (k - 1) = pow-add 2 2 (k - 1) in
        let most : 2 ^ j ≤ 2 ^ (k + 1) = pow-le-pow_right {n = 2} (omega arith) few in
        let same : 2 ^ (2 + (k - 1)) ≡ 2 ^ (k + 1) = ap (λ z. 2 ^ z) e in
        omega (arith, split, most, same)
