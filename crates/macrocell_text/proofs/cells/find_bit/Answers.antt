use Rattle.std.proofs.Common.{◌≡◌, ◌∙◌, ◌∷◌, [], ap, sym, subst}
use Rattle.macrocell_text.specs.Finding.{HasFound, IsRefusedAt}
use Rattle.macrocell_text.proofs.FoundLists.{found_none, if_err, none_live, on_ok, one_live}
use Rattle.macrocell_text.proofs.cells.find_bit.Goals as goal

pub returns-then-state-eq0-clause-found : goal.returns-then-state-eq0-clause-found
returns-then-state-eq0-clause-found c = subst (λ xs. HasFound c.args.found.now c.args.found.now xs) (none_live c.args.rows c.args.block c.args.area c.requires.level (sym c.state_of_bit-state.ensures ∙ c.if-state-eq0.true)) (found_none c.args.found.now)

pub returns-clause-found : goal.returns-clause-found
returns-clause-found c = on_ok c.put.result _ _
    (subst (λ xs. HasFound c.args.found.now c.put.new.self xs) (ap (λ s. record { column = c.args.area.column; row = c.args.area.row; state = s } ∷ []) c.state_of_bit-state.ensures ∙ one_live c.args.rows c.args.block c.args.area c.requires.level (λ e. c.if-state-eq0.false (c.state_of_bit-state.ensures ∙ e))))
    c.put.ensures.found

pub returns-clause-refused : goal.returns-clause-refused
returns-clause-refused c = if_err c.put.result _ _
    (λ f. subst (λ xs. IsRefusedAt c.args.found.now.half xs f) (ap (λ s. record { column = c.args.area.column; row = c.args.area.row; state = s } ∷ []) c.state_of_bit-state.ensures ∙ one_live c.args.rows c.args.block c.args.area c.requires.level (λ e. c.if-state-eq0.false (c.state_of_bit-state.ensures ∙ e))))
    c.put.ensures.refused
