use Rattle.std.proofs.Common.{◌≡◌, ◌-◌, ◌<◌, ◌≤◌, length, drop, List, length-drop, subst, sym, arith}
use Rattle.std.proofs.lemmas.List.{take_all}
use Rattle.stamped_tree.specs.declared.walk.BandSquare.{BandSquare}
use Rattle.stamped_tree.specs.RowOrder.{IsHalved, IsInBand}
use Rattle.stamped_tree.specs.Sought.{seeks}
use Rattle.stamped_tree.proofs.BandLaws.{halved_none, next_halved, still_read}
use Rattle.stamped_tree.proofs.walk.Search.push_halves.Goals as goal

pub loop-index-init : goal.loop-index-init
loop-index-init c = let e : c.args.first - c.args.first ≡ 0 = omega arith in rw e (halved_none c.args.self.now.store.now (seeks c.args.self.now.sought.now) c.args.rows.level c.args.rows.top c.args.is_south c.args.band.now.items)

pub push_half-requires-clause-square : goal.push_half-requires-clause-square
push_half-requires-clause-square c = λ d. (let a = c.args in let old = a.band.now.items in let i = c.loop-index.index in
    let h : i < length old = omega (arith, c.loop-index-test.true, c.len-index-end.ensures) in
    let from = c.loop-index.auto.index in
    let l : i - a.first < length (drop a.first old) = (let e = length-drop a.first old in omega (arith, h, e, from)) in
    subst (λ (y : BandSquare). IsInBand a.self.now.store.now (seeks a.self.now.sought.now) a.rows.level a.rows.top y)
    (sym (still_read old c.loop-index.band.items c.loop-index.invariant.halves a.first i d c.loop-index.invariant.pushed h from)) (c.requires.squares (i - a.first) d l))

pub loop-index-preserved : goal.loop-index-preserved
loop-index-preserved c =
    let a = c.args in let old = a.band.now.items in let i = c.loop-index.index in
    let s = a.self.now.store.now in let f = seeks a.self.now.sought.now in
    let h : i < length old = omega (arith, c.loop-index-test.true, c.len-index-end.ensures) in
    let from = c.loop-index.auto.index in
    let l : i - a.first < length (drop a.first old) = (let e = length-drop a.first old in omega (arith, h, e, from)) in
    next_halved s f a.rows.level a.rows.top a.is_south old c.loop-index.band.items c.push_half.new.band.items a.first i from h l c.loop-index.invariant c.in_ok-push_half.ensures

pub returns : goal.returns
returns c =
    let a = c.args in let old = a.band.now.items in
    let l : length (drop a.first old) ≤ c.loop-index.index - a.first = (let e = length-drop a.first old in omega (arith, e, c.loop-index-test.false, c.len-index-end.ensures)) in
    subst (λ (xs : List BandSquare). IsHalved a.self.now.store.now (seeks a.self.now.sought.now) a.rows.level a.rows.top a.is_south xs old c.loop-index.band.items) (take_all (c.loop-index.index - a.first) (drop a.first old) l) c.loop-index.invariant
