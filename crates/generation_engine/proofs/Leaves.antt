-- Leaves that are not dead.
use Rattle.std.proofs.Common.{◌≡◌, ℕ, ◌+◌, ◌*◌, ◌/◌, ◌%◌, ◌<◌, Bool, false, true, sym, ◌∙◌, ap, arith}
use Rattle.std.specs.Prelude.{◌↔◌, IsTrue, slice_index}
use Rattle.stamped_writes.specs.declared.write.Write.{Write}
use Rattle.bitplane_kernel.specs.Population.{AreDead}
use Rattle.square_store.specs.Grid.{IsBlankWithin}
use Rattle.generation_engine.specs.declared.leaf_kind.EngineLeaf.{EngineLeaf}
use Rattle.generation_engine.specs.EngineLeaf.{leaf_grid}

pub not_blank : (l : EngineLeaf) (r : Bool) → (IsTrue r ↔ AreDead l.leaf) → r ≡ false → (t : ℕ) → IsBlankWithin 8 (leaf_grid l) t → ⊥
not_blank l r tells alive t blank = never (sym alive ∙ tells.1 dead)
  where
    never : false ≡ true → ⊥
    never e = cc

    dead : AreDead l.leaf
    dead i h =
        let e : 8 * (i / 8) + i % 8 ≡ i = omega arith in
        let u : i % 8 < 8 = omega arith in
        let v : i / 8 < 8 = omega (arith, h) in
        ap (slice_index l.leaf) (sym e) ∙ ap (λ (w : Write). w.state) (blank (i % 8) (i / 8) u v)
