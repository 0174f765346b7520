use Rattle.std.proofs.Common.{◌≡◌, ℕ, List, [], ◌++◌, length, take, sym, ap, subst, ◌∙◌, rules, arith}
use Rattle.std.proofs.lemmas.List.{length-replicate}
use Rattle.circular_buffer.specs.Buffer.{Buffer, buffer}
use Rattle.edit_stamps.specs.Edit.{greatest}
use Rattle.board.specs.declared.entry.Entry.{Entry}
use Rattle.board.specs.Entries.{edits_of}
use Rattle.board.specs.Publishing.{Publishing}
use Rattle.board.specs.Sights.{label_of}
use Rattle.inbox.specs.declared.submission.Submission.{Submission}
use Rattle.relay_board.specs.Kept.{AreFor, kept_of}
use Rattle.relay_board.proofs.Ending.{none_counted}
use Rattle.relay_board.proofs.opened.Opened.named.Goals as goal

pub invariant_of-relay : goal.invariant_of-relay
invariant_of-relay g c =
    let s = c.args.self in
    let kept : c.in-Ok.rooms.1 ≡ buffer [] 64 = c.in-Ok.ensures.kept in
    let items : c.in-Ok.rooms.1.items ≡ [] = ap (λ (b : Buffer Submission). b.items) kept in
    let entries : kept_of c.in-Ok.rooms.1.items ≡ [] = ap kept_of items in
    let empty : c.seats.new.publisher.list ≡ [] = ap (λ (p : Publishing). p.list) c.seats.ensures.publisher ∙ s.board.0 in
    let none : c.seats.new.publisher.list ++ kept_of c.in-Ok.rooms.1.items ≡ [] = λ j. empty j ++ entries j in record {
      out = c.seats.ensures.drain.3 ∙ (s.inbox.1 ∙ sym none);
      told = search rules;
      ready = record {
        most = omega arith;
        within = omega arith;
        all_but_one = omega (arith, ap length items);
        tried = λ k. s.untried k ∙ ap (λ (l : List Entry). greatest (edits_of l) k) (λ j. sym empty j ++ take 0 (sym entries j));
      };
      room = ap (λ (b : Buffer Submission). b.capacity) kept;
      label = search rules;
      kept = subst (λ (l : List Submission). AreFor l (label_of c.seats.new.publisher.origin)) (sym items) tt;
      tallies = none_counted s.count c.in-Ok.rooms.0.items c.seats.new.publisher.list c.in-Ok.ensures.counts empty;
      made = ap length c.in-Ok.ensures.counts ∙ (length-replicate {A = ℕ} s.count 0 ∙ sym c.in-Ok-seats.ensures.seats.2);
      origin = search rules;
      inbox = search rules;
      known = search rules;
    }
