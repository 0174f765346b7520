use Rattle.std.proofs.Common.{◌≡◌, ◌++◌, ◌∷◌, [], List, IfSome, sym, ap, subst, ◌∙◌}
use Rattle.crossbeam_channel.specs.Claims.{view as claim}
use Rattle.crossbeam_queue.specs.Passes.{view}
use Rattle.edit_stamps.specs.Edit.{PlaneEdit}
use Rattle.edit_stamps.specs.Stamp.{counter_in}
use Rattle.board.specs.declared.entry.Entry.{Entry}
use Rattle.receipts.specs.Topics.{Topic}
use Rattle.relay_board.specs.Rising.{GoesOn, IsRising, last_counter}
use Rattle.relay_board.specs.Seating.{Seating}
use Rattle.relay_board.proofs.Rising.{rising_more, newest_more}
use Rattle.relay_board.proofs.seat.Seat.put.Goals as goal

pub invariant_of-self : goal.invariant_of-self
invariant_of-self g c =
    let s = c.self.inside in
    let i = c.self.invariant in
    let edit : PlaneEdit = c.args.edit in
    let mine : List Entry = (view s.post.pass).put in
    let e : Entry = (claim c.in-Ok.pending.pass).entry in
    let own : e.edit ≡ edit = ap (λ (t : Topic). t.entry.edit) c.in-Ok.ensures.pending in
    let more : (view c.put.new.self.pass).put ≡ mine ++ e ∷ [] = c.in-Ok.ensures.put in
    let on : GoesOn s.floor s.number mine edit = subst (λ (r : Seating). GoesOn r.floor r.number r.mine edit) (sym c.self.view_is) c.requires.goes_on in
    let goes : GoesOn s.floor s.number mine e.edit = subst (λ (x : PlaneEdit). GoesOn s.floor s.number mine x) (sym own) on in
    let counter : c.counter-last.result ≡ counter_in e.edit.stamp = c.counter-last.ensures ∙ (ap counter_in c.stamp.ensures ∙ ap (λ (x : PlaneEdit). counter_in x.stamp) (sym own)) in record {
      ruled = i.ruled;
      table = cc (c.in-Ok.ensures.same.0, i.table);
      sees = i.sees;
      puts = c.in-Ok.ensures.same.2 ∙ i.puts;
      rises = subst (λ (l : List Entry). IsRising s.floor s.number l) (sym more) (rising_more s.floor s.number mine e i.rises goes);
      newest = subst (λ (l : List Entry). IfSome s.floor (λ n. c.counter-last.result ≡ last_counter n l)) (sym more) (newest_more s.floor mine e c.counter-last.result counter);
    }
