use Rattle.stamped_tree.specs.Sought.{seeks}
use Rattle.stamped_tree.proofs.BandLaws.{none_is, put_unsought}
use Rattle.stamped_tree.proofs.walk.Search.push_square.Goals as goal

pub returns-in_default : goal.returns-in_default
returns-in_default c =
    let a = c.args in
    put_unsought a.self.now.store.now (seeks a.self.now.sought.now) a.rows.level a.rows.top a.square a.sought a.band.now.items (none_is a.sought c.in_default.not-Some) c.requires.agrees
