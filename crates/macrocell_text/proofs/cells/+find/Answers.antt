use Rattle.std.proofs.Common.{sym, subst}
use Rattle.macrocell_text.specs.Finding.{HasFound, IsRefusedAt}
use Rattle.macrocell_text.specs.Standings.{standing_square}
use Rattle.macrocell_text.proofs.FoundLists.{area_found, area_refused, found_four, found_none, four_lists, if_err, no_cells, on_ok, refused_ne, refused_nw, refused_se, refused_sw, told}
use Rattle.macrocell_text.proofs.cells.+find.Goals as goal

pub returns-in-Nothing-clause-found : goal.returns-in-Nothing-clause-found
returns-in-Nothing-clause-found t c = subst (λ xs. HasFound c.args.found.now c.args.found.now xs)
    (sym (no_cells (standing_square c.args.told.entries.now c.args.standing) c.args.area.side c.args.area.column c.args.area.row c.in-Nothing.ensures)) (found_none c.args.found.now)

pub returns-in_err-find-in-Four-clause-refused : goal.returns-in_err-find-in-Four-clause-refused
returns-in_err-find-in-Four-clause-refused t c = told _ _ _ c.from_residual.ensures.1
    (subst (λ xs. IsRefusedAt c.args.found.now.half xs c.in_err-find-in-Four.field-0.0) (four_lists c.args.area.side (standing_square c.args.told.entries.now c.in-Four.nw) (standing_square c.args.told.entries.now c.in-Four.ne) (standing_square c.args.told.entries.now c.in-Four.sw) (standing_square c.args.told.entries.now c.in-Four.se) (standing_square c.args.told.entries.now c.args.standing) c.args.area.column c.args.area.row c.in-Four.ensures.0) (refused_nw c.args.found.now _ _ _ c.in_err-find-in-Four.field-0.0 (area_refused c.args.found.now.half (standing_square c.args.told.entries.now c.in-Four.nw) _ _ c.in_err-find-in-Four.field-0.0 c.quarter.ensures c.in_err-find-in-Four.ensures.refused)))

pub returns-in_err-find-in-Four-2-clause-refused : goal.returns-in_err-find-in-Four-2-clause-refused
returns-in_err-find-in-Four-2-clause-refused t c = told _ _ _ c.from_residual-in_err-find-in-Four-2.ensures.1
    (subst (λ xs. IsRefusedAt c.args.found.now.half xs c.in_err-find-in-Four-2.field-0.0) (four_lists c.args.area.side (standing_square c.args.told.entries.now c.in-Four.nw) (standing_square c.args.told.entries.now c.in-Four.ne) (standing_square c.args.told.entries.now c.in-Four.sw) (standing_square c.args.told.entries.now c.in-Four.se) (standing_square c.args.told.entries.now c.args.standing) c.args.area.column c.args.area.row c.in-Four.ensures.0) (refused_ne c.args.found.now c.find.new.found _ _ _ c.in_err-find-in-Four-2.field-0.0 (area_found c.args.found.now c.find.new.found (standing_square c.args.told.entries.now c.in-Four.nw) _ _ c.quarter.ensures c.in_ok-find-in-Four.ensures.found) (area_refused c.find.new.found.half (standing_square c.args.told.entries.now c.in-Four.ne) _ _ c.in_err-find-in-Four-2.field-0.0 c.quarter-in-Four.ensures c.in_err-find-in-Four-2.ensures.refused)))

pub returns-in_err-find-in-Four-3-clause-refused : goal.returns-in_err-find-in-Four-3-clause-refused
returns-in_err-find-in-Four-3-clause-refused t c = told _ _ _ c.from_residual-in_err-find-in-Four-3.ensures.1
    (subst (λ xs. IsRefusedAt c.args.found.now.half xs c.in_err-find-in-Four-3.field-0.0) (four_lists c.args.area.side (standing_square c.args.told.entries.now c.in-Four.nw) (standing_square c.args.told.entries.now c.in-Four.ne) (standing_square c.args.told.entries.now c.in-Four.sw) (standing_square c.args.told.entries.now c.in-Four.se) (standing_square c.args.told.entries.now c.args.standing) c.args.area.column c.args.area.row c.in-Four.ensures.0) (refused_sw c.args.found.now c.find.new.found c.find-in-Four.new.found _ _ _ _ c.in_err-find-in-Four-3.field-0.0 (area_found c.args.found.now c.find.new.found (standing_square c.args.told.entries.now c.in-Four.nw) _ _ c.quarter.ensures c.in_ok-find-in-Four.ensures.found) (area_found c.find.new.found c.find-in-Four.new.found (standing_square c.args.told.entries.now c.in-Four.ne) _ _ c.quarter-in-Four.ensures c.in_ok-find-in-Four-2.ensures.found) (area_refused c.find-in-Four.new.found.half (standing_square c.args.told.entries.now c.in-Four.sw) _ _ c.in_err-find-in-Four-3.field-0.0 c.quarter-in-Four-2.ensures c.in_err-find-in-Four-3.ensures.refused)))

pub returns-in_ok-find-in-Four-3-clause-found : goal.returns-in_ok-find-in-Four-3-clause-found
returns-in_ok-find-in-Four-3-clause-found t c = on_ok c.find-in-Four-3.result _ _
    (λ h. subst (λ xs. HasFound c.args.found.now c.find-in-Four-3.new.found xs) (four_lists c.args.area.side (standing_square c.args.told.entries.now c.in-Four.nw) (standing_square c.args.told.entries.now c.in-Four.ne) (standing_square c.args.told.entries.now c.in-Four.sw) (standing_square c.args.told.entries.now c.in-Four.se) (standing_square c.args.told.entries.now c.args.standing) c.args.area.column c.args.area.row c.in-Four.ensures.0)
    (found_four c.args.found.now c.find.new.found c.find-in-Four.new.found c.find-in-Four-2.new.found c.find-in-Four-3.new.found _ _ _ _ (area_found c.args.found.now c.find.new.found (standing_square c.args.told.entries.now c.in-Four.nw) _ _ c.quarter.ensures c.in_ok-find-in-Four.ensures.found) (area_found c.find.new.found c.find-in-Four.new.found (standing_square c.args.told.entries.now c.in-Four.ne) _ _ c.quarter-in-Four.ensures c.in_ok-find-in-Four-2.ensures.found) (area_found c.find-in-Four.new.found c.find-in-Four-2.new.found (standing_square c.args.told.entries.now c.in-Four.sw) _ _ c.quarter-in-Four-2.ensures c.in_ok-find-in-Four-3.ensures.found)
    (area_found c.find-in-Four-2.new.found c.find-in-Four-3.new.found (standing_square c.args.told.entries.now c.in-Four.se) _ _ c.quarter-in-Four-3.ensures h)))
    c.find-in-Four-3.ensures.found

pub returns-in_ok-find-in-Four-3-clause-refused : goal.returns-in_ok-find-in-Four-3-clause-refused
returns-in_ok-find-in-Four-3-clause-refused t c = if_err c.find-in-Four-3.result _ _
    (λ f h. (subst (λ xs. IsRefusedAt c.args.found.now.half xs f) (four_lists c.args.area.side (standing_square c.args.told.entries.now c.in-Four.nw) (standing_square c.args.told.entries.now c.in-Four.ne) (standing_square c.args.told.entries.now c.in-Four.sw) (standing_square c.args.told.entries.now c.in-Four.se) (standing_square c.args.told.entries.now c.args.standing) c.args.area.column c.args.area.row c.in-Four.ensures.0) (refused_se c.args.found.now c.find.new.found c.find-in-Four.new.found c.find-in-Four-2.new.found _ _ _ _ f (area_found c.args.found.now c.find.new.found (standing_square c.args.told.entries.now c.in-Four.nw) _ _ c.quarter.ensures c.in_ok-find-in-Four.ensures.found) (area_found c.find.new.found c.find-in-Four.new.found (standing_square c.args.told.entries.now c.in-Four.ne) _ _ c.quarter-in-Four.ensures c.in_ok-find-in-Four-2.ensures.found) (area_found c.find-in-Four.new.found c.find-in-Four-2.new.found (standing_square c.args.told.entries.now c.in-Four.sw) _ _ c.quarter-in-Four-2.ensures c.in_ok-find-in-Four-3.ensures.found) (area_refused c.find-in-Four-2.new.found.half (standing_square c.args.told.entries.now c.in-Four.se) _ _ f c.quarter-in-Four-3.ensures h))))
    c.find-in-Four-3.ensures.refused
