use Rattle.std.proofs.Common.{◌≡◌, ◌∙◌, SFits, arith, length, of_z, rules, to_z, w32}
use Rattle.std.proofs.lemmas.Int.{to_z-of_z}
use Rattle.session_hub.specs.Request.{cut_of, numbers}
use Rattle.replica_sessions.proofs.KindLaws.{cut_read, sized_so}
use Rattle.replica_sessions.proofs.kind.cut_by.Goals as goal

pub returns-clause-request : goal.returns-clause-request
returns-clause-request c =
    let rest = c.args.rest.now in
    let size : length rest ≡ 20 = omega arith in
    let fits_x : SFits w32 c.coordinate_of.result = search rules in
    let fits_y : SFits w32 c.coordinate_of-2.result = search rules in
    sized_so 20 rest (cut_of (numbers 5 rest)) size
    ∙ cut_read rest _ _ _ _ _ _ _ _ _ _ _ _ _ _ c.split_at.ensures.front c.split_at.ensures.back c.split_at-2.ensures.front c.split_at-2.ensures.back c.split_at-3.ensures.front c.split_at-3.ensures.back
    c.split_at-4.ensures.front c.split_at-4.ensures.back c.split_at-5.ensures.front (to_z-of_z w32 c.coordinate_of.result fits_x ∙ c.coordinate_of.ensures) (to_z-of_z w32 c.coordinate_of-2.result fits_y ∙ c.coordinate_of-2.ensures)
    c.number_of.ensures c.number_of-2.ensures c.number_of-3.ensures
