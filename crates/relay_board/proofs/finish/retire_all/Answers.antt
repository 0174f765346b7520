use Rattle.std.proofs.Common.{◌≡◌, ◌++◌, List, [], sym, ap, ◌∙◌, subst}
use Rattle.std.proofs.lemmas.List.{append-nil, length-map}
use Rattle.crossbeam_queue.specs.Passes.{view}
use Rattle.board.specs.declared.entry.Entry.{Entry}
use Rattle.inbox.specs.Hands.{entries_of}
use Rattle.inbox.specs.Settled.{IsOf, HasAsMany}
use Rattle.inbox.proofs.Ending.{whole}
use Rattle.relay_board.specs.Seating.{Seating, mines_of}
use Rattle.relay_board.proofs.Ending.{goes_on, drop_self}
use Rattle.relay_board.proofs.finish.retire_all.Goals as goal

pub returns : goal.returns
returns g c =
    let i = c.loop-seat.invariant in
    let puts : List (List Entry) = mines_of c.args.seats.items in
    let empty : c.loop-seat.left.items ≡ [] = drop_self c.loop-seat.left.items (c.in_default.ensures.items ∙ c.in_default.ensures.rest) in
    let known : (view c.loop-seat.drain.pass).known ≡ puts = sym (append-nil (view c.loop-seat.drain.pass).known) ∙ (ap (λ (l : List Seating). (view c.loop-seat.drain.pass).known ++ mines_of l) (sym empty) ∙ i.known) in
    let same = c.settle.ensures.same.1 in
    let many : HasAsMany (view c.settle.new.self.pass).out puts = subst (λ (l : List Entry). HasAsMany l puts) (sym (ap (λ h. h.out) same ∙ i.out)) c.requires.many in
    subst (λ (l : List Entry). IsOf l puts) (ap (λ h. h.out) same ∙ i.out)
    (whole (view c.settle.new.self.pass) puts (entries_of c.settle.ensures.all.0) (ap (λ h. h.known) same ∙ known) (ap (λ h. h.made) same ∙ (i.made ∙ (c.requires.all ∙ sym (length-map c.args.seats.items (λ (s : Seating). s.mine))))) many c.settle.ensures.all.1)

pub loop-seat-preserved : goal.loop-seat-preserved
loop-seat-preserved g c = goes_on g.J.Naming.inbox c.args.drain.now c.loop-seat.drain c.retire.new.self c.args.seats.items c.loop-seat.left.items c.pop_front.new.self.items c.in-Some.seat (view c.into_post.result.pass) c.loop-seat.invariant c.in-Some.ensures.items c.retire.ensures.same c.retire.ensures.known c.into_post.ensures.put
