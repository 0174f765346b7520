use Rattle.std.proofs.Common.{◌≡◌, ◌∙◌, ◌<◌, length, arith}
use Rattle.std.specs.Prelude.{slice_index_or}
use Rattle.stamped_tree.proofs.Parts.{same_default}
use Rattle.generation_engine.proofs.Passes.{replaced_more}
use Rattle.generation_engine.proofs.results.ResultStore.centres.Goals as goal

pub loop-place-preserved : goal.loop-place-preserved
loop-place-preserved c =
    let count = c.loop-place.invariant.count in let test = c.loop-place-test.true in
    let within : c.loop-place.place < length c.args.parts.now = omega (arith, count, test) in
    let is : c.index-parts-place.result ≡ slice_index_or c.loop-place.parts c.loop-place.place 0 = c.index-parts-place.is ∙ same_default c.loop-place.parts c.loop-place.place _ 0 (omega (arith, count, test)) in
    replaced_more _ _ _ _ _ _ _ _ _ _ c.requires.parts within c.loop-place.invariant c.in_ok-parts.ensures.grows is c.in_ok-parts.ensures.later
