use Rattle.std.proofs.Common.{◌≡◌, ◌∙◌, ◌<◌, ℕ, ap, arith, subst, sym}
use Rattle.std.specs.Prelude.{unwrap_or}
use Rattle.stamped_writes.specs.declared.write.Write.{Write}
use Rattle.edit_stamps.specs.Edit.{listed}
use Rattle.stamped_tree.specs.Plane.{map_of}
use Rattle.genedit_view.proofs.DrawnLaws.{state_below}
use Rattle.genedit_view.proofs.drawn.plane_of.Goals as goal

pub returns-clause-below : goal.returns-clause-below
returns-clause-below c = λ at.
    let some : 0 < c.args.rule.now.states = (let least = c.requires.rule.least in omega (arith, least)) in
    let blank : (map_of c.in_ok-plane.plane at).state ≡ 0 = ap (λ (w : Write). w.state) (c.in_ok-plane.ensures.map at) in
    let is : (map_of c.draw_all.new.plane at).state ≡ unwrap_or (listed c.args.cells.now at) 0 = c.in_ok-draw_all.ensures at ∙ ap (unwrap_or (listed c.args.cells.now at)) blank in
    subst (λ (n : ℕ). n < c.args.rule.now.states) (sym is) (state_below c.args.rule.now.states c.args.cells.now at some c.requires.below)
