use Rattle.std.proofs.Common.{inl, inr, length, ◌≡◌, ◌⊎◌, ◌++◌}
use Rattle.genedit_serve.specs.Closing.{session_lines}
use Rattle.genedit_serve.proofs.ServingLaws.{no_line}
use Rattle.genedit_serve.proofs.closing.push_sessions.Goals as goal

pub returns : goal.returns
returns c =
    let accepted = c.loop-edits.edits-iterator.a.rest.now in
    let ends = c.loop-edits.edits-iterator.b.rest.now in
    let none : (length accepted ≡ 0) ⊎ (length ends ≡ 0) = elim c.in-None.ensures.steps [
      | inl empty ↦ inl empty.1.0
      | inr empty ↦ inr empty.1.0
    ] in
    no_line c.loop-edits.out.items (c.args.out.now.items ++ session_lines c.args.first c.args.accepted.now c.args.ends.now) c.loop-edits.number accepted ends none c.loop-edits.invariant.0
