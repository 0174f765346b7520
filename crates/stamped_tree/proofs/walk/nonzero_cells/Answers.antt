use Rattle.stamped_tree.specs.Sought.{seeks}
use Rattle.stamped_tree.proofs.BandLaws.{put_stands}
use Rattle.stamped_tree.proofs.WalkLaws.{all_walked}
use Rattle.stamped_tree.proofs.walk.nonzero_cells.Goals as goal

pub list_band-requires-clause-squares : goal.list_band-requires-clause-squares
list_band-requires-clause-squares c =
    put_stands c.args.store.now (seeks c.args.sought.now) 28 0 (record { part = c.args.root; left = 0 }) c.new-band.result.items c.push_square.new.band.items c.new-band.ensures.items c.in_ok-push_square.ensures

pub returns : goal.returns
returns c =
    all_walked c.args.store.now (seeks c.args.sought.now) c.args.root c.list_band.new.found.items c.new-found.result.items c.push_square.new.band.items c.new-band.result.items c.new-found.ensures.items c.new-band.ensures.items c.in_ok-push_square.ensures c.in_ok-list_band.ensures.cells
