use Rattle.std.proofs.Common.{◌≡◌, length, rules, take}
use mathlib.Core.List.{IsPrefix}
use Rattle.std.specs.Option.{option_copied}
use Rattle.document_pen.specs.Drawing.{HoldsEdit}
use Rattle.document_pen.proofs.PenLaws.{cut_back, notes, unkept}
use Rattle.document_pen.proofs.pen.Pen.draw_edit.Goals as goal

pub returns-in-Ok : goal.returns-in-Ok
returns-in-Ok g c =
    let m = c.args.self.now in
    let n = c.keep_edit.new.self in
    let first : c.plane.result.now ≡ m.replica.plane = search rules in
    let last : c.plane-2.result.now ≡ n.replica.plane = search rules in
    let by : c.stamp.result ≡ c.args.edit.now.stamp = search rules in
    let was : c.self-2.inside.making ≡ m.making = search rules in
    let is : c.stroke.new.self ≡ n.making = search rules in
    let held : HoldsEdit c.args.edit.now m.replica n.replica = search rules in
    let noted = notes c.args.edit.now m n c.plane.result.now c.plane-2.result.now c.watch-watched.result (option_copied c.as_ref.result) c.stamp.result _ _ first last c.as_ref.ensures.value by was is c.watch-watched.ensures held c.stroke.ensures in
    record { held = held; kept = search rules; noted = noted; told = search rules; rest = search rules }

pub returns : goal.returns
returns g c =
    let m = c.args.self.now in
    let k = c.keep_edit.new.self in
    let first : c.plane.result.now ≡ m.replica.plane = search rules in
    let last : c.plane-2.result.now ≡ k.replica.plane = search rules in
    let by : c.stamp.result ≡ c.args.edit.now.stamp = search rules in
    let was : c.self-2.inside.making ≡ m.making = search rules in
    let is : c.stroke.new.self ≡ k.making = search rules in
    let held : HoldsEdit c.args.edit.now m.replica k.replica = search rules in
    let noted = notes c.args.edit.now m k c.plane.result.now c.plane-2.result.now c.watch-watched.result (option_copied c.as_ref.result) c.stamp.result _ _ first last c.as_ref.ensures.value by was is c.watch-watched.ensures held c.stroke.ensures in
    let printed : IsPrefix m.out k.out = search rules in
    let size : c.len-before.result ≡ length m.out = search rules in
    let cut : c.truncate.new.self.items ≡ take c.len-before.result k.out = search rules in
    let out : c.truncate.new.self.items ≡ m.out = cut_back m.out k.out c.truncate.new.self.items c.len-before.result printed size cut in
    unkept c.args.edit.now m _ k _ c.in-Err.fault c.in-Err.ensures.kept (search rules) held noted (search rules) (search rules)
