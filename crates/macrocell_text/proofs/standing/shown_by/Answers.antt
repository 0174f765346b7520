use Rattle.std.proofs.Common.{◌≡◌, ◌∙◌, ap, arith, subst, sym}
use Rattle.macrocell_text.specs.declared.entry.Entry.{Entry}
use Rattle.macrocell_text.specs.declared.entry.Entry.TheVariants as entries
use Rattle.macrocell_text.specs.LiveCells.{population}
use Rattle.macrocell_text.specs.Standings.{IsShown}
use Rattle.macrocell_text.proofs.Prefixes.{beyond_stands, entry_stands, nothing_stands}
use Rattle.macrocell_text.proofs.standing.shown_by.Goals as goal

abbrev any : Entry
any = entries.Rows 0

pub returns-then-standing-eq0 : goal.returns-then-standing-eq0
returns-then-standing-eq0 c = nothing_stands c.args.standing.level c.args.standing.number _ c.if-standing-eq0.true

pub returns-then-standing : goal.returns-then-standing
returns-then-standing c = beyond_stands c.args.standing.level c.args.standing.number c.args.standing.before c.args.entries.now c.if-standing-eq0-2.false c.if-standing-eq0.false c.if-standing.true c.requires.before

pub returns-then-count_is_0 : goal.returns-then-count_is_0
returns-then-count_is_0 c =
    ap population (entry_stands c.args.standing.level c.args.standing.number c.args.standing.before c.args.entries.now any c.if-standing-eq0-2.false c.if-standing-eq0.false c.if-standing.false c.requires.before)
    ∙ c.count_is_0.ensures c.if-count_is_0.true any

pub returns : goal.returns
returns c =
    subst (λ q. IsShown c.args.entries.now c.args.standing.before q c.shown_entry.result)
    (sym (entry_stands c.args.standing.level c.args.standing.number c.args.standing.before c.args.entries.now any c.if-standing-eq0-2.false c.if-standing-eq0.false c.if-standing.false c.requires.before))
    (c.shown_entry.ensures any c.args.standing.before (omega (arith, c.if-standing-eq0.false, c.if-standing.false)))
