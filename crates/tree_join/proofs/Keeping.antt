-- What is kept, and one more.
use Rattle.std.proofs.Common.{◌≡◌, ℕ, Bool, true, false, cond, rules, refl, sym, ◌∙◌, subst}
use Rattle.std.specs.Prelude.{Option, None, Some, IfSome}
use Rattle.tree_join.specs.Remembered.{is_part_pair}
use Rattle.tree_join.specs.declared.remember.PartPair.{PartPair}

pub pair_is : (k q : PartPair) → is_part_pair k q ≡ true → k ≡ q
pair_is k q h = search (rules, h)

some_is : (w v : ℕ) → Some w ≡ Some v → w ≡ v
some_is w v e = cc

-- what holds of the new key and of those before holds of all
pub kept_more : {K : Type 0} (eq : K → K → Bool) → ((k q : K) → eq k q ≡ true → k ≡ q) → (P : K → ℕ → Type 0) (k q : K) (w v : ℕ) (old new : Option ℕ)
    → new ≡ cond (eq k q) (Some w) old → new ≡ Some v → P k w → (old ≡ Some v → P q v) → P q v
kept_more eq exact P k q w v old new e got right before = go (eq k q) refl (sym e ∙ got)
  where
    go : (t : Bool) → eq k q ≡ t → cond t (Some w) old ≡ Some v → P q v
    go true h g = subst (λ n. P q n) (some_is w v g) (subst (λ z. P z w) (exact k q h) right)
    go false h g = before g

-- the same of a set
pub in_more : {K : Type 0} (eq : K → K → Bool) → ((k q : K) → eq k q ≡ true → k ≡ q) → (P : K → Type 0) (k q : K) (old new : Bool)
    → new ≡ cond (eq k q) true old → new ≡ true → P k → (old ≡ true → P q) → P q
in_more eq exact P k q old new e got right before = go (eq k q) refl (sym e ∙ got)
  where
    go : (t : Bool) → eq k q ≡ t → cond t true old ≡ true → P q
    go true h g = subst P (exact k q h) right
    go false h g = before g

pub some_right : (o : Option ℕ) (P : ℕ → Type 0) → ((p : ℕ) → o ≡ Some p → P p) → IfSome o P
some_right None P h = tt
some_right (Some p) P h = h p refl
