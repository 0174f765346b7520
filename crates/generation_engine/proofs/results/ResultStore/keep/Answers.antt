use Rattle.std.proofs.Common.{◌≡◌, subst}
use Rattle.square_store.specs.declared.first_result.FirstResult.{FirstResult}
use Rattle.square_store.specs.Squares.{Held}
use Rattle.square_store.specs.Store.{IsGrown, with_first}
use Rattle.generation_engine.specs.declared.leaf_kind.EngineLeaf.{EngineLeaf}
use Rattle.generation_engine.specs.EngineLeaf.{leaf_grid}
use Rattle.generation_engine.specs.Kept.{IsKept}
use Rattle.generation_engine.proofs.KeptLaws.{kept_with_first}
use Rattle.generation_engine.proofs.results.ResultStore.keep.Goals as goal

pub invariant_of-self : goal.invariant_of-self
invariant_of-self c =
    let s = c.self.inside in
    let first : FirstResult = record { level = c.args.level; exponent = c.args.exponent; later = c.args.later } in
    let asked : IsKept c.args.self.now.rule c.args.self.now.store (record { level = c.args.level; part = c.args.part; exponent = c.args.exponent }) c.args.later =
    record { stands = c.requires.stands; later = c.requires.later } in
    let is : IsKept s.rule s.store (record { level = c.args.level; part = c.args.part; exponent = c.args.exponent }) c.args.later = rw (← c.self.view_is) at asked in
    let new : c.keep_first.new.self ≡ with_first s.store c.args.part first = c.if-keep_first.ensures.kept in
    rw new (kept_with_first s.rule s.store s.others c.args.part first (subst (λ (t : Held EngineLeaf). IsGrown leaf_grid 8 s.store t) new c.keep_first.ensures.grows) c.self.invariant is)
