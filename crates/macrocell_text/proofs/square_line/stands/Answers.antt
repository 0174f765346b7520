use Rattle.std.proofs.Common.{◌≡◌, sym, eqb-true}
use Rattle.macrocell_text.proofs.Levels.{dead_standing, nothing_numbered, standing_numbered, stands_numbered}
use Rattle.macrocell_text.specs.Macrocells.{squares_of}
use Rattle.macrocell_text.proofs.square_line.stands.Goals as goal

pub returns-then-number-eq0-clause-level : goal.returns-then-number-eq0-clause-level
returns-then-number-eq0-clause-level c = λ _. dead_standing c.args.level c.args.number (squares_of c.args.entries.now) c.if-level-eq0.false c.if-number-eq0.true

pub returns-in-Some-clause-stands : goal.returns-in-Some-clause-stands
returns-in-Some-clause-stands c = stands_numbered c.args.entries.now c.args.level c.args.number c.in-Some.told c.requires c.if-level-eq0.false c.if-number-eq0.false c.in-Some.ensures

pub returns-in-Some-clause-level : goal.returns-in-Some-clause-level
returns-in-Some-clause-level c = λ same. standing_numbered c.args.entries.now c.args.level c.args.number c.in-Some.told c.requires c.if-level-eq0.false c.if-number-eq0.false c.in-Some.ensures (eqb-true _ _ same)

pub returns-in-None-clause-stands : goal.returns-in-None-clause-stands
returns-in-None-clause-stands c = nothing_numbered c.args.entries.now c.args.level c.args.number c.requires c.if-level-eq0.false c.if-number-eq0.false c.in-None.ensures
