-- Nodes are told apart exactly; what a search in the store finds; entries and one more.
use Rattle.std.proofs.Common.{inl, inr, arith, ◌≤◌, false, rules, ◌≡◌, ℕ, ◌<◌, Bool, true, List, [], ◌∷◌, ◌++◌, length, sym, ◌∙◌, subst, refl}
use Rattle.std.proofs.lemmas.Bool.{cases_lt}
use Rattle.std.specs.Prelude.{Option, None, Some, Result, Ok, Err, OnErr, IfOk, Decides, IfSome, IfNone, IsTrue, ◌↔◌, nat_eq, not}
use Rattle.std.specs.Option.{ok_or}
use Rattle.square_store.specs.declared.node.Node.{Node}
use Rattle.square_store.specs.contracts.node.NodePartialEq.TheImpl.{eq-value}
use Rattle.square_store.specs.declared.fault.StoreFault.{StoreFault}
use Rattle.square_store.specs.declared.fault.StoreFault.TheVariants.{StoreFull, Memory}
use Rattle.square_store.specs.Grid.{Grid, IsSpeltWithin}
use Rattle.square_store.specs.Squares.{Held}
use Rattle.square_store.specs.Store.{IsStore, AreSummaries}
use Rattle.square_store.specs.Steps.{IsAbsentNode, IsAbsentLeaf, IsPlaceOfLeaf, IsWanted, IsSummed, IsLeafEntered, LeafStood}
use Rattle.square_store.proofs.Growth.{with_node, with_leaf, store_node, store_leaf, summaries_node, summaries_leaf}

-- the test of nodes
abbrev pub is_node : Node → Node → Bool
is_node = eq-value.it

node_exact : (a b : Node) → is_node a b ≡ true → a ≡ b
node_exact a b h = search (rules, h)

node_refl : (a : Node) → is_node a a ≡ true
node_refl a = search rules

pub node_same : (a b : Node) → Decides (is_node a b) (a ≡ b)
node_same a b = (node_exact a b, λ e. subst (λ (z : Node). is_node a z ≡ true) e (node_refl a))

pub nat_same : (a b : ℕ) → IsTrue (nat_eq a b) → a ≡ b
nat_same a b h = search (rules, h)

pub same_nat : (a b : ℕ) → a ≡ b → IsTrue (nat_eq a b)
same_nat a b h = search (rules, h)

pub some_map : {A : Type 0} {P Q : A → Type 0} (r : Option A) → ((x : A) → P x → Q x) → IfSome r P → IfSome r Q
some_map None f h = tt
some_map (Some x) f h = f x h

pub none_map : {A P Q : Type 0} (r : Option A) → (P → Q) → IfNone r P → IfNone r Q
none_map None f h = f h
none_map (Some x) f h = tt

-- a store that is not full has room
pub not_full : (count room : ℕ) (b : Bool) → (IsTrue b ↔ (count ≡ room)) → b ≡ false → count ≤ room → count < room
not_full count room b full e few = elim (cases_lt count room) [
  | inl below ↦ below
  | inr above ↦ absurd (never (sym e ∙ full.1 (omega (arith, above, few))))
]
  where
    never : false ≡ true → ⊥
    never z = cc

-- a store of one square more
module _ {L S : Type 0} (writes : L → Grid) (side : ℕ) (IsLeaf : L → Type 0) (IsSummary : ℕ → Grid → S → Type 0) (old : Held L) (summaries : List S) where
  abbrev pub IsGood : Held L → List S → Type 0
  IsGood s summaries = IsStore writes side IsLeaf s × AreSummaries writes side IsSummary s summaries

  pub good_node : IsGood old summaries → (x : Node) (summary : S) → IsAbsentNode old x → IsWanted old x → IsSummed writes side IsSummary old x summary → length old.squares < old.room → IsGood (with_node old x) (summaries ++ summary ∷ [])
  good_node good x summary absent wanted summed below = (
    store_node writes side IsLeaf old good.0 x absent wanted below,
    summaries_node writes side IsLeaf old good.0 IsSummary summaries good.1 x summary absent wanted summed,
  )

  pub good_leaf : IsGood old summaries → (l : L) (summary : S) → IsAbsentLeaf old l → IsLeaf l → IsSpeltWithin side (writes l) → IsSummary side (writes l) summary → length old.squares < old.room → IsGood (with_leaf old l) (summaries ++ summary ∷ [])
  good_leaf good l summary absent leaf spelt summed below = (
    store_leaf writes side IsLeaf old good.0 l absent leaf spelt below,
    summaries_leaf writes side IsLeaf old good.0 IsSummary summaries good.1 l summary summed,
  )

-- an insertion tells whether a key was there
pub was_absent : (new any : Bool) → new ≡ not any → new ≡ true → any ≡ false
was_absent new true e h = cc
was_absent new false e h = refl

pub was_there : (new any : Bool) → new ≡ not any → new ≡ false → any ≡ true
was_there new true e h = refl
was_there new false e h = cc

-- what a look-up of a leaf tells, where its want is a fault
module _ {L : Type 0} (s : Held L) (l : L) where
  pub entered_found : (r : Option ℕ) (fault : StoreFault) → IfSome r (IsPlaceOfLeaf s l) → IfOk (ok_or r fault) (λ p. IsLeafEntered s s l p)
  entered_found None fault h = tt
  entered_found (Some p) fault h = LeafStood refl h

  pub absent_unfound : (r : Option ℕ) (fault : StoreFault) → IfNone r (IsAbsentLeaf s l) → OnErr (ok_or r fault) (IsAbsentLeaf s l)
  absent_unfound None fault h = h
  absent_unfound (Some p) fault h = tt

pub not_memory : (r : Option ℕ) → ok_or r StoreFull ≡ Err Memory → ⊥
not_memory None h = cc
not_memory (Some p) h = cc

pub not_store_full : (r : Option ℕ) → ok_or r Memory ≡ Err StoreFull → ⊥
not_store_full None h = cc
not_store_full (Some p) h = cc

pub on_each : {A E P : Type 0} (r : Result A E) → P → OnErr r P
on_each (Ok x) h = tt
on_each (Err e) h = h
