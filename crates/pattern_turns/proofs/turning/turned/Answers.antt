use Rattle.std.proofs.Common.{◌∙◌, sym, subst}
use Rattle.pattern_turns.specs.Turning.{IsTurned}
use Rattle.pattern_turns.proofs.OrderLaws.{told_pattern}
use Rattle.pattern_turns.proofs.TurningLaws.{are_parts_turned, is_pattern, is_turned}
use Rattle.pattern_turns.proofs.turning.turned.Goals as goal

pub new-requires : goal.new-requires
new-requires c =
    is_pattern c.args.turn c.args.pattern.now _ c.cells.ensures.pattern
    (are_parts_turned c.args.turn c.args.pattern.now _ _ _ _ c.sides_of-before.ensures.width c.sides_of-before.ensures.height c.cells.ensures.value c.pos.ensures c.generation.ensures
    (record { width = c.turned-after.ensures.width; height = c.turned-after.ensures.height; moved = c.in_ok-cells.ensures.moved; sorted = c.in_ok-cells.ensures.sorted }))

pub returns-clause-turned : goal.returns-clause-turned
returns-clause-turned c = subst (IsTurned c.args.turn c.args.pattern.now) (sym c.new.ensures) (is_turned c.args.turn c.args.pattern.now _
    (are_parts_turned c.args.turn c.args.pattern.now _ _ _ _ c.sides_of-before.ensures.width c.sides_of-before.ensures.height c.cells.ensures.value c.pos.ensures c.generation.ensures
    (record { width = c.turned-after.ensures.width; height = c.turned-after.ensures.height; moved = c.in_ok-cells.ensures.moved; sorted = c.in_ok-cells.ensures.sorted })))

pub returns-clause-one : goal.returns-clause-one
returns-clause-one c = c.new.ensures ∙ told_pattern c.args.turn c.args.pattern.now _ c.cells.ensures.pattern
    (are_parts_turned c.args.turn c.args.pattern.now _ _ _ _ c.sides_of-before.ensures.width c.sides_of-before.ensures.height c.cells.ensures.value c.pos.ensures c.generation.ensures
    (record { width = c.turned-after.ensures.width; height = c.turned-after.ensures.height; moved = c.in_ok-cells.ensures.moved; sorted = c.in_ok-cells.ensures.sorted }))
