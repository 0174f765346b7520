-- Kept squares, and one more.
use Rattle.std.proofs.Common.{◌≡◌, ℕ, Bool, true, false, cond, rules, sym, ◌∙◌, subst, refl}
use Rattle.std.specs.Prelude.{Option, Some}
use Rattle.stamped_tree.specs.Filled.{is_area_key}
use Rattle.stamped_tree.specs.declared.filled.AreaKey.{AreaKey}

key_is : (k q : AreaKey) → is_area_key k q ≡ true → k ≡ q
key_is k q h = search (rules, h)

some_is : (w v : ℕ) → Some w ≡ Some v → w ≡ v
some_is w v e = cc

-- what holds of the new key and of those before holds of all
pub kept_more : (P : AreaKey → ℕ → Type 0) (k q : AreaKey) (w v : ℕ) (old new : Option ℕ) → new ≡ cond (is_area_key k q) (Some w) old → new ≡ Some v → P k w → (old ≡ Some v → P q v) → P q v
kept_more P k q w v old new e got right before = go (is_area_key k q) refl (sym e ∙ got)
  where
    go : (t : Bool) → is_area_key k q ≡ t → cond t (Some w) old ≡ Some v → P q v
    go true h g = subst (λ n. P q n) (some_is w v g) (subst (λ z. P z w) (key_is k q h) right)
    go false h g = before g
