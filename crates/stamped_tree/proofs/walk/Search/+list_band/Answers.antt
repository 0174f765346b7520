use Rattle.std.proofs.Common.{◌≡◌, true, false, ◌+◌, length, drop, take, sym, ap, ◌∙◌, arith}
use Rattle.std.proofs.lemmas.List.{drop_all}
use Rattle.stamped_tree.specs.Sought.{seeks}
use Rattle.stamped_tree.proofs.BandLaws.{band_listed, halves_stand, halves_taken, halves_within, none_listed}
use Rattle.stamped_tree.proofs.Parts.{far_half, far_start, level_below, near_half, part_falls, some_level}
use Rattle.stamped_tree.proofs.walk.Search.+list_band.Goals as goal

pub returns-then-first-past-clause-cells : goal.returns-then-first-past-clause-cells
returns-then-first-past-clause-cells t c =
    let a = c.args in
    none_listed a.self.now.store.now (seeks a.self.now.sought.now) a.rows.level a.rows.top (drop a.first a.band.now.items) a.found.now.items (drop_all a.first a.band.now.items (omega (arith, c.if-first-past.true, c.len-past.ensures)))

pub list_band-requires : goal.list_band-requires
list_band-requires t c =
    let a = c.args in let old = a.band.now.items in let s = a.self.now.store.now in let f = seeks a.self.now.sought.now in
    let some = some_level a.rows.level c.if-level-eq0.false in
    let end : c.len-past.result ≡ length old = omega (arith, c.len-past.ensures) in (
      part_falls a.rows.level t some c.decreases,
      (
        level_below a.rows.level c.requires.level,
        (
          near_half a.rows.level a.rows.top some c.requires.top,
          (
            (let within = halves_within s f a.rows.level a.rows.top false (drop a.first old) old c.push_halves.new.band.items c.len-past.result c.in_ok-push_halves.ensures end in omega (arith, within)),
            halves_stand s f a.rows.level a.rows.top a.rows.top false (drop a.first old) old c.push_halves.new.band.items c.len-past.result c.in_ok-push_halves.ensures end (omega arith),
          ),
        ),
      ),
    )

pub overflow_add-south : goal.overflow_add-south
overflow_add-south t c = far_start c.args.rows.level c.args.rows.top c.side_of.result (some_level c.args.rows.level c.if-level-eq0.false) c.side_of.ensures c.requires.top

pub list_band-requires-2 : goal.list_band-requires-2
list_band-requires-2 t c =
    let a = c.args in let old = a.band.now.items in let s = a.self.now.store.now in let f = seeks a.self.now.sought.now in let past = c.len-past.result in
    let some = some_level a.rows.level c.if-level-eq0.false in
    let end : past ≡ length old = omega (arith, c.len-past.ensures) in
    let back = c.truncate.new.self.items in
    let kept : back ≡ old = c.truncate.ensures.items ∙ ap (take past) c.in_ok-list_band.ensures.band ∙ halves_taken s f a.rows.level a.rows.top false (drop a.first old) old c.push_halves.new.band.items past c.in_ok-push_halves.ensures end in
    let here : past ≡ length back = end ∙ sym (ap length kept) in (
      part_falls a.rows.level t some c.decreases,
      (
        level_below a.rows.level c.requires.level,
        (
          far_half a.rows.level a.rows.top c.side_of.result some c.side_of.ensures c.requires.top,
          (
            (let within = halves_within s f a.rows.level a.rows.top true (drop a.first back) back c.push_halves-2.new.band.items past c.in_ok-push_halves-2.ensures here in omega (arith, within)),
            halves_stand s f a.rows.level a.rows.top (a.rows.top + c.side_of.result) true (drop a.first back) back c.push_halves-2.new.band.items past c.in_ok-push_halves-2.ensures here (ap (λ m. a.rows.top + m) c.side_of.ensures),
          ),
        ),
      ),
    )

pub returns-clause-cells : goal.returns-clause-cells
returns-clause-cells t c =
    let a = c.args in let old = a.band.now.items in let s = a.self.now.store.now in let f = seeks a.self.now.sought.now in let past = c.len-past.result in
    let end : past ≡ length old = omega (arith, c.len-past.ensures) in
    let back = c.truncate.new.self.items in
    let kept : back ≡ old = c.truncate.ensures.items ∙ ap (take past) c.in_ok-list_band.ensures.band ∙ halves_taken s f a.rows.level a.rows.top false (drop a.first old) old c.push_halves.new.band.items past c.in_ok-push_halves.ensures end in
    band_listed s f a.rows.level a.rows.top c.side_of.result past (drop a.first old) (drop a.first back) old c.push_halves.new.band.items back c.push_halves-2.new.band.items a.found.now.items c.list_band.new.found.items c.list_band-2.new.found.items
    (some_level a.rows.level c.if-level-eq0.false) c.side_of.ensures end (end ∙ sym (ap length kept)) (ap (drop a.first) kept)
    c.in_ok-push_halves.ensures c.in_ok-push_halves-2.ensures c.in_ok-list_band.ensures.cells c.in_ok-list_band-2.ensures.cells
