use Rattle.std.proofs.Common.{◌≡◌, ◌∙◌, ◌≤◌, ◌<◌, sym, arith}
use Rattle.macrocell_lines.proofs.States.{level_is}
use Rattle.macrocell_universes.specs.Numbered.{square_of}
use Rattle.macrocell_universes.proofs.PlaneLaws.{below, in_plane, not_below, outside, root_reached}
use Rattle.macrocell_universes.proofs.universe.in_universe.Goals as goal

pub returns-then-not-is_within_plane-clause-refused : goal.returns-then-not-is_within_plane-clause-refused
returns-then-not-is_within_plane-clause-refused c =
    let es = c.args.entries.now in let q = c.args.root in let r = c.reach_numbered-reach.result in
    let reach = root_reached es c.in_ok-reaches.reaches.items c.deref.result.now q r c.deref.ensures.value c.in_ok-reaches.ensures.reaches c.in_ok-reaches.ensures.count c.requires.is c.requires.number c.reach_numbered-reach.ensures in
    outside (square_of es q) q.level c.requires.some (level_is q.level (square_of es q) c.requires.is.square) r reach (sym c.is_within_plane.ensures ∙ c.if-not-is_within_plane.true)

pub returns-clause-plane : goal.returns-clause-plane
returns-clause-plane c =
    let es = c.args.entries.now in let q = c.args.root in let r = c.reach_numbered-reach.result in
    let reach = root_reached es c.in_ok-reaches.reaches.items c.deref.result.now q r c.deref.ensures.value c.in_ok-reaches.ensures.reaches c.in_ok-reaches.ensures.count c.requires.is c.requires.number c.reach_numbered-reach.ensures in
    in_plane (square_of es q) q.level c.requires.some (level_is q.level (square_of es q) c.requires.is.square) r reach (sym c.is_within_plane.ensures ∙ c.if-not-is_within_plane.false)

pub returns-then-from-states-clause-refused : goal.returns-then-from-states-clause-refused
returns-then-from-states-clause-refused c =
    let es = c.args.entries.now in let q = c.args.root in let r = c.reach_numbered-reach.result in
    let reach = root_reached es c.in_ok-reaches.reaches.items c.deref.result.now q r c.deref.ensures.value c.in_ok-reaches.ensures.reaches c.in_ok-reaches.ensures.count c.requires.is c.requires.number c.reach_numbered-reach.ensures in
    let level = level_is q.level (square_of es q) c.requires.is.square in
    let two = c.states.ensures.rule.least in (
      in_plane (square_of es q) q.level c.requires.some level r reach (sym c.is_within_plane.ensures ∙ c.if-not-is_within_plane.false),
      not_below (square_of es q) q.level c.requires.some level r reach c.args.rule.now.states (omega (arith, two)) (omega (arith, c.if-from-states.true, c.from.ensures, c.states.ensures.value)),
    )

pub returns-clause-below : goal.returns-clause-below
returns-clause-below c =
    let es = c.args.entries.now in let q = c.args.root in let r = c.reach_numbered-reach.result in
    let reach = root_reached es c.in_ok-reaches.reaches.items c.deref.result.now q r c.deref.ensures.value c.in_ok-reaches.ensures.reaches c.in_ok-reaches.ensures.count c.requires.is c.requires.number c.reach_numbered-reach.ensures in
    let two = c.states.ensures.rule.least in
    below (square_of es q) q.level c.requires.some (level_is q.level (square_of es q) c.requires.is.square) r reach c.args.rule.now.states (omega (arith, two)) (omega (arith, c.if-from-states.false, c.from.ensures, c.states.ensures.value))
