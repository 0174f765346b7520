use Rattle.std.proofs.Common.{◌-◌, ap, subst, sym, ◌∙◌, arith}
use Rattle.std.specs.Prelude.{Some}
use Rattle.macrocell_text.specs.Macrocells.{square_of_bits}
use Rattle.macrocell_universes.specs.Numbered.{square_at}
use Rattle.macrocell_universes.proofs.Numbers.{dead_quarters, entry_level_is, entry_quarters, stands_for, stands_for_none, zero_stands}
use Rattle.macrocell_universes.proofs.quarters.one_step.Goals as goal

pub returns-then-square-eq0 : goal.returns-then-square-eq0
returns-then-square-eq0 c =
    dead_quarters c.args.entries.now c.args.square c.requires.above (ap (square_at c.args.entries.now c.args.square.level) c.if-square-eq0.true ∙ zero_stands c.args.entries.now c.args.square.level)

pub returns-in-Some-Rows : goal.returns-in-Some-Rows
returns-in-Some-Rows c =
    let at = sym c.entry_at.ensures ∙ c.in-Some-Rows.is ∙ ap Some c.in-Some-Rows.field-0-is in (
      sym (entry_level_is c.args.entries.now c.args.square _ c.requires.levels c.requires.above c.if-square-eq0.false c.requires.is at),
      stands_for c.args.entries.now c.args.square.level c.args.square.number _ (λ z. (omega (arith, z, c.requires.above))) c.if-square-eq0.false at,
    )

pub returns-in-Some-Four : goal.returns-in-Some-Four
returns-in-Some-Four c =
    rw (c.number_behind.ensures, c.number_behind-in-Some-Four.ensures, c.number_behind-in-Some-Four-2.ensures, c.number_behind-in-Some-Four-3.ensures)
    (entry_quarters c.args.entries.now c.args.square c.in-Some-Four.level c.in-Some-Four.nw c.in-Some-Four.ne c.in-Some-Four.sw c.in-Some-Four.se c.requires.levels c.requires.entries c.requires.above c.if-square-eq0.false c.requires.is
    (sym c.entry_at.ensures ∙ c.in-Some-Four.is ∙ ap Some c.in-Some-Four.field-0-is))

pub returns-in-None : goal.returns-in-None
returns-in-None c =
    dead_quarters c.args.entries.now c.args.square c.requires.above
    (stands_for_none c.args.entries.now c.args.square.level c.args.square.number (λ z. (omega (arith, z, c.requires.above))) c.if-square-eq0.false (sym c.entry_at.ensures ∙ c.in-None.is))
