use Rattle.std.proofs.Common.{◌<◌, true, false, subst}
use Rattle.square_store.proofs.Places.{at_within}
use Rattle.stamped_tree.specs.Sought.{seeks}
use Rattle.stamped_tree.proofs.BandLaws.{halved_blank, halved_north, halved_read, halved_south, read_in_band}
use Rattle.stamped_tree.proofs.Parts.{of_level}
use Rattle.stamped_tree.proofs.walk.Search.push_half.Goals as goal

pub square-requires : goal.square-requires
square-requires c =
    let a = c.args in let s = a.self.now.store.now in let q = c.index.result.now in
    at_within s a.rows.level q.at.part (read_in_band s (seeks a.self.now.sought.now) a.rows.level a.rows.top a.band.now.items a.index q c.index.ensures c.requires.square).stands

pub returns-in-Blank : goal.returns-in-Blank
returns-in-Blank c = λ d. (let a = c.args in let s = a.self.now.store.now in let f = seeks a.self.now.sought.now in let q = c.index.result.now in
    halved_read s f a.rows.level a.rows.top a.is_south a.band.now.items a.index q d a.band.now.items a.band.now.items c.index.ensures (subst (λ n. a.index < n) a.band.now.ok.0 c.requires.index)
    (halved_blank s f a.rows.level a.rows.top a.is_south q c.in-Blank.field-0 a.band.now.items c.requires.some c.in-Blank.ensures))

pub returns-then-is_south : goal.returns-then-is_south
returns-then-is_south c = λ d. (let a = c.args in let s = a.self.now.store.now in let f = seeks a.self.now.sought.now in let q = c.index.result.now in
    let here = read_in_band s f a.rows.level a.rows.top a.band.now.items a.index q c.index.ensures c.requires.square in
    rw c.if-is_south.true (halved_read s f a.rows.level a.rows.top true a.band.now.items a.index q d a.band.now.items c.push_quarter-then-is_south.new.band.items c.index.ensures (subst (λ n. a.index < n) a.band.now.ok.0 c.requires.index)
    (halved_south s f a.rows.level q c.in-Four.parts (of_level s a.rows.level c.in-Four.level q.at.part c.in-Four.parts c.in-Four.ensures here.stands)
    c.side_of-side.result c.side_of-side.ensures a.rows.top c.index-parts-2.result c.index-parts-3.result a.band.now.items c.push_quarter.new.band.items c.push_quarter-then-is_south.new.band.items
    c.in_ok-push_quarter-in-Four.ensures c.in_ok-push_quarter-in-Four-2.ensures)))

pub returns-in_ok-push_quarter-in-Four-4 : goal.returns-in_ok-push_quarter-in-Four-4
returns-in_ok-push_quarter-in-Four-4 c = λ d. (let a = c.args in let s = a.self.now.store.now in let f = seeks a.self.now.sought.now in let q = c.index.result.now in
    let here = read_in_band s f a.rows.level a.rows.top a.band.now.items a.index q c.index.ensures c.requires.square in
    rw c.if-is_south.false (halved_read s f a.rows.level a.rows.top false a.band.now.items a.index q d a.band.now.items c.push_quarter-in-Four-2.new.band.items c.index.ensures (subst (λ n. a.index < n) a.band.now.ok.0 c.requires.index)
    (halved_north s f a.rows.level q c.in-Four.parts (of_level s a.rows.level c.in-Four.level q.at.part c.in-Four.parts c.in-Four.ensures here.stands)
    c.side_of-side.result c.side_of-side.ensures a.rows.top c.index-parts-0.result c.index-parts-1.result a.band.now.items c.push_quarter-in-Four.new.band.items c.push_quarter-in-Four-2.new.band.items c.in_ok-push_quarter-in-Four-3.ensures c.in_ok-push_quarter-in-Four-4.ensures)))
