use Rattle.std.proofs.Common.{◌≡◌, refl}
use Rattle.stamped_writes.specs.declared.write.Write.{Write}
use Rattle.tree_join.proofs.Reading.{reads_related}
use Rattle.tree_join.proofs.sameness.same.Goals as goal

pub returns : goal.returns
returns c =
    let told = rw (c.part-root.ensures, c.part-others_root.ensures, c.root.ensures.square, c.root-2.ensures.square) at c.are_same.ensures in
    let reads = reads_related (λ (v w : Write). v ≡ w) refl c.args.plane.now c.args.other.now in
    (λ h. reads.0 (told.0 h), λ h. told.1 (reads.1 h))
