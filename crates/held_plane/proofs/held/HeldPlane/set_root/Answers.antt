use Rattle.std.proofs.Common.{◌≡◌, ◌↔◌, ◌∙◌, ap, subst, sym, false}
use Rattle.std.specs.Prelude.{◌==◌, not}
use Rattle.stamped_writes.specs.Write.{AreSame}
use Rattle.stamped_tree.specs.Plane.{IsPart, StampedPlane, map_of}
use Rattle.held_plane.proofs.RootLaws.{kept_root}
use Rattle.held_plane.proofs.held.HeldPlane.set_root.Goals as goal

pub returns-then-nodes-max-clause-kept : goal.returns-then-nodes-max-clause-kept
returns-then-nodes-max-clause-kept c =
    let plane : StampedPlane = c.self.inside.plane in
    let is = c.part.ensures ∙ ap (λ square. square.part) c.root.ensures.square in
    subst (λ p. (c.ne-is_another.result ≡ false) ↔ AreSame (map_of c.put_copy.new.self) (map_of p)) c.self.view_is
    (kept_root plane c.put_copy.new.self c.args.part c.ne-is_another.result (c.ne-is_another.ensures ∙ ap (λ p. not (p == c.args.part)) is) c.plane_laws.ensures.parts
    c.root.ensures.level (subst (λ p. IsPart p.store 31 c.args.part) (sym c.self.view_is) c.requires)
    (λ at. c.put_copy.ensures.before.map at ∙ ap (λ p. map_of p at) c.set_root.ensures))

pub returns-else-nodes-max-clause-kept : goal.returns-else-nodes-max-clause-kept
returns-else-nodes-max-clause-kept c =
    let plane : StampedPlane = c.self.inside.plane in
    let is = c.part.ensures ∙ ap (λ square. square.part) c.root.ensures.square in
    subst (λ p. (c.ne-is_another.result ≡ false) ↔ AreSame (map_of c.set_root.new.self) (map_of p)) c.self.view_is
    (kept_root plane c.set_root.new.self c.args.part c.ne-is_another.result (c.ne-is_another.ensures ∙ ap (λ p. not (p == c.args.part)) is) c.plane_laws.ensures.parts
    c.root.ensures.level (subst (λ p. IsPart p.store 31 c.args.part) (sym c.self.view_is) c.requires)
    (λ at. ap (λ p. map_of p at) c.set_root.ensures))
