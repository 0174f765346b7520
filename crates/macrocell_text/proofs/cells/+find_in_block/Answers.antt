use Rattle.std.proofs.Common.{subst, arith}
use Rattle.macrocell_text.specs.Finding.{HasFound, IsRefusedAt}
use Rattle.macrocell_text.proofs.FoundLists.{block_lists, found_four, if_err, moved_found, moved_refused, on_ok, refused_ne, refused_nw, refused_se, refused_sw, told}
use Rattle.macrocell_text.proofs.cells.+find_in_block.Goals as goal

pub returns-in_err-find_in_block-clause-refused : goal.returns-in_err-find_in_block-clause-refused
returns-in_err-find_in_block-clause-refused t c = told _ _ _ c.from_residual.ensures.1
    (subst (λ xs. IsRefusedAt c.args.found.now.half xs c.in_err-find_in_block.field-0.0) (block_lists c.args.rows c.args.block c.args.area c.half-half.result (omega (arith, c.if-block-eq0.false)) c.half-half.ensures.half) (refused_nw c.args.found.now _ _ _ c.in_err-find_in_block.field-0.0 (moved_refused c.args.found.now.half c.args.rows _ _ _ _ c.in_err-find_in_block.field-0.0 c.quarter.ensures c.quarter-2.ensures c.in_err-find_in_block.ensures.refused)))

pub returns-in_err-find_in_block-2-clause-refused : goal.returns-in_err-find_in_block-2-clause-refused
returns-in_err-find_in_block-2-clause-refused t c = told _ _ _ c.from_residual-in_err-find_in_block-2.ensures.1
    (subst (λ xs. IsRefusedAt c.args.found.now.half xs c.in_err-find_in_block-2.field-0.0) (block_lists c.args.rows c.args.block c.args.area c.half-half.result (omega (arith, c.if-block-eq0.false)) c.half-half.ensures.half) (refused_ne c.args.found.now c.find_in_block.new.found _ _ _ c.in_err-find_in_block-2.field-0.0 (moved_found c.args.found.now c.find_in_block.new.found c.args.rows _ _ _ _ c.quarter.ensures c.quarter-2.ensures c.in_ok-find_in_block.ensures.found) (moved_refused c.find_in_block.new.found.half c.args.rows _ _ _ _ c.in_err-find_in_block-2.field-0.0 c.quarter-3.ensures c.quarter-4.ensures c.in_err-find_in_block-2.ensures.refused)))

pub returns-in_err-find_in_block-3-clause-refused : goal.returns-in_err-find_in_block-3-clause-refused
returns-in_err-find_in_block-3-clause-refused t c = told _ _ _ c.from_residual-in_err-find_in_block-3.ensures.1
    (subst (λ xs. IsRefusedAt c.args.found.now.half xs c.in_err-find_in_block-3.field-0.0) (block_lists c.args.rows c.args.block c.args.area c.half-half.result (omega (arith, c.if-block-eq0.false)) c.half-half.ensures.half) (refused_sw c.args.found.now c.find_in_block.new.found c.find_in_block-2.new.found _ _ _ _ c.in_err-find_in_block-3.field-0.0 (moved_found c.args.found.now c.find_in_block.new.found c.args.rows _ _ _ _ c.quarter.ensures c.quarter-2.ensures c.in_ok-find_in_block.ensures.found) (moved_found c.find_in_block.new.found c.find_in_block-2.new.found c.args.rows _ _ _ _ c.quarter-3.ensures c.quarter-4.ensures c.in_ok-find_in_block-2.ensures.found) (moved_refused c.find_in_block-2.new.found.half c.args.rows _ _ _ _ c.in_err-find_in_block-3.field-0.0 c.quarter-5.ensures c.quarter-6.ensures c.in_err-find_in_block-3.ensures.refused)))

pub returns-clause-found : goal.returns-clause-found
returns-clause-found t c = on_ok c.find_in_block-4.result _ _
    (λ h. subst (λ xs. HasFound c.args.found.now c.find_in_block-4.new.found xs) (block_lists c.args.rows c.args.block c.args.area c.half-half.result (omega (arith, c.if-block-eq0.false)) c.half-half.ensures.half)
    (found_four c.args.found.now c.find_in_block.new.found c.find_in_block-2.new.found c.find_in_block-3.new.found c.find_in_block-4.new.found _ _ _ _ (moved_found c.args.found.now c.find_in_block.new.found c.args.rows _ _ _ _ c.quarter.ensures c.quarter-2.ensures c.in_ok-find_in_block.ensures.found) (moved_found c.find_in_block.new.found c.find_in_block-2.new.found c.args.rows _ _ _ _ c.quarter-3.ensures c.quarter-4.ensures c.in_ok-find_in_block-2.ensures.found) (moved_found c.find_in_block-2.new.found c.find_in_block-3.new.found c.args.rows _ _ _ _ c.quarter-5.ensures c.quarter-6.ensures c.in_ok-find_in_block-3.ensures.found) (moved_found c.find_in_block-3.new.found c.find_in_block-4.new.found c.args.rows _ _ _ _ c.quarter-7.ensures c.quarter-8.ensures h)))
    c.find_in_block-4.ensures.found

pub returns-clause-refused : goal.returns-clause-refused
returns-clause-refused t c = if_err c.find_in_block-4.result _ _
    (λ f h. (subst (λ xs. IsRefusedAt c.args.found.now.half xs f) (block_lists c.args.rows c.args.block c.args.area c.half-half.result (omega (arith, c.if-block-eq0.false)) c.half-half.ensures.half) (refused_se c.args.found.now c.find_in_block.new.found c.find_in_block-2.new.found c.find_in_block-3.new.found _ _ _ _ f (moved_found c.args.found.now c.find_in_block.new.found c.args.rows _ _ _ _ c.quarter.ensures c.quarter-2.ensures c.in_ok-find_in_block.ensures.found) (moved_found c.find_in_block.new.found c.find_in_block-2.new.found c.args.rows _ _ _ _ c.quarter-3.ensures c.quarter-4.ensures c.in_ok-find_in_block-2.ensures.found) (moved_found c.find_in_block-2.new.found c.find_in_block-3.new.found c.args.rows _ _ _ _ c.quarter-5.ensures c.quarter-6.ensures c.in_ok-find_in_block-3.ensures.found) (moved_refused c.find_in_block-3.new.found.half c.args.rows _ _ _ _ f c.quarter-7.ensures c.quarter-8.ensures h))))
    c.find_in_block-4.ensures.refused
