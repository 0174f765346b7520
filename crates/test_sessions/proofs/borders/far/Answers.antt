use Rattle.std.proofs.Common.{◌<◌, subst, sym}
use Rattle.stamped_tree.specs.Plane.{map_of}
use Rattle.stamped_writes.specs.declared.write.Write.{Write}
use Rattle.test_sessions.proofs.borders.far.Goals as goal

pub returns : goal.returns
returns c p =
    let below = c.join_laws.ensures.states (map_of c.in_ok-plane.plane) (map_of c.in_ok-other.other) c.args.rule.now.states c.in_ok-plane.ensures c.in_ok-other.ensures p in
    subst (λ (w : Write). w.state < c.args.rule.now.states) (sym (c.in_ok-join.ensures.ok p)) below
