use Rattle.std.proofs.Common.{◌<◌, ◌+◌, length, rules, subst}
use Rattle.std.specs.List.Sorted.{IsPermutation}
use Rattle.macrocell_text.specs.Finding.{IsRefusedAt}
use Rattle.macrocell_text.specs.LiveCells.{live_cells}
use Rattle.macrocell_text.specs.Standings.{standing_square}
use Rattle.macrocell_text.proofs.FoundLists.{told}
use Rattle.macrocell_text.proofs.ListedRoots.{allowed_listing, listed_cells, refused_listing, root_at}
use Rattle.macrocell_text.proofs.cells.cells_found.Goals as goal

pub returns-in_err-find-clause-refused : goal.returns-in_err-find-clause-refused
returns-in_err-find-clause-refused c =
    let some : 0 < length c.args.entries.now = search rules in
    let root = root_at c.args.entries.now c.root_level-level.result some c.root_level-level.ensures.least c.requires.levels c.root_level-level.ensures.level in
    told _ _ _ c.from_residual.ensures.1
    (refused_listing c.args.entries.now c.root_level-level.result c.half_side-half.result _ c.in_err-find.field-0.0 root c.root_level-level.ensures.least c.half_side-half.ensures.half c.requires.few
    (subst (λ h. IsRefusedAt h (live_cells (c.half_side-half.result + c.half_side-half.result) (standing_square c.args.entries.now (record { before = length c.args.entries.now; level = c.root_level-level.result; number = length c.args.entries.now })) 0 0) c.in_err-find.field-0.0) c.new-found.ensures.half c.in_err-find.ensures.refused))

pub returns-clause-cells : goal.returns-clause-cells
returns-clause-cells c =
    let some : 0 < length c.args.entries.now = search rules in
    let root = root_at c.args.entries.now c.root_level-level.result some c.root_level-level.ensures.least c.requires.levels c.root_level-level.ensures.level in
    record {
      all = subst (λ cells. IsPermutation cells c.into_sorted.result.items)
          (listed_cells c.args.entries.now c.root_level-level.result c.half_side-half.result _ c.new-found.result c.find.new.found root c.root_level-level.ensures.least c.half_side-half.ensures.half
          c.new-found.ensures.half c.new-found.ensures.cells c.in_ok-find.ensures.found) c.into_sorted.ensures.cells;
      ordered = c.into_sorted.ensures.order;
      allowed = allowed_listing c.args.entries.now c.root_level-level.result c.half_side-half.result _ c.new-found.result c.find.new.found root c.root_level-level.ensures.least c.half_side-half.ensures.half
          c.requires.few c.new-found.ensures.half c.in_ok-find.ensures.found;
    }
