use Rattle.std.proofs.Common.{◌≡◌, ◌+◌, ◌++◌, ◌∷◌, [], List, length, take, refl, sym, ap, subst, ◌∙◌, append_assoc, arith}
use Rattle.std.proofs.lemmas.List.{length-append, length-map, take-append-le}
use Rattle.std.specs.Arc.{arc_value}
use Rattle.crossbeam_queue.specs.Passes.{view}
use Rattle.circular_buffer.specs.Buffer.{Buffer, buffer}
use Rattle.stamped_tree.specs.Plane.{map_of}
use Rattle.board.specs.declared.entry.Entry.{Entry}
use Rattle.board.specs.Sights.{label_of}
use Rattle.inbox.specs.declared.submission.Submission.{Submission}
use Rattle.inbox.specs.declared.rule.Hand.{Hand}
use Rattle.inbox.specs.Hands.{after_take}
use Rattle.relay_board.specs.Kept.{answered_of, AreFor, IsTold, kept_of, relaying_of}
use Rattle.relay_board.specs.Relaying.{Relaying}
use Rattle.relay_board.specs.Turns.{IsFetched}
use Rattle.relay_board.proofs.Keeping.{for_more, kept_more, told_more}
use Rattle.relay_board.proofs.Trying.{tried_same}
use Rattle.relay_board.proofs.Turning.{fetched_before, fetched_now}
use Rattle.relay_board.proofs.relay.Relay.fetch.Goals as goal

pub returns-then-self-len-clause-fetched : goal.returns-then-self-len-clause-fetched
returns-then-self-len-clause-fetched g c =
    let s = c.self.inside in
    let i = c.self.invariant in
    let long : length (kept_of s.kept.items) ≡ length s.kept.items = length-map s.kept.items (λ (x : Submission). x.entry) in
    subst (λ (r : Relaying). IsFetched r r) c.self.view_is
    (fetched_before (relaying_of s) (omega (arith, c.if-self-len.true, c.len.ensures.len, long)) (omega (arith, i.ready.all_but_one, long)) i.out)

pub invariant_of-self-in-Some : goal.invariant_of-self-in-Some
invariant_of-self-in-Some g c =
    let s = c.self.inside in
    let i = c.self.invariant in
    let list : List Entry = s.publisher.list in
    let items : List Submission = s.kept.items in
    let x : Submission = c.in-Some.submission in
    let e : Entry = x.entry in
    let board = label_of s.publisher.origin in
    let pushed : c.try_push_back.new.self ≡ buffer (items ++ x ∷ []) s.kept.capacity = c.in-Ok.ensures.ok in
    let now : c.try_push_back.new.self.items ≡ items ++ x ∷ [] = ap (λ (b : Buffer Submission). b.items) pushed in
    let kept : kept_of c.try_push_back.new.self.items ≡ kept_of items ++ e ∷ [] = ap kept_of now ∙ kept_more items x in
    let long : length (kept_of items) ≡ length items = length-map items (λ (y : Submission). y.entry) in
    let within = i.ready.within in
    let all : length items ≡ s.ready = omega (arith, c.if-self-len.false, c.len.ensures.len, within) in
    let more : length c.try_push_back.new.self.items ≡ length items + 1 = ap length now ∙ length-append items (x ∷ []) in
    let taken : view c.take.new.self.pass ≡ after_take (view s.drain.pass) e = c.in-Some.ensures.taken.0 in
    let ready : take s.ready (kept_of c.try_push_back.new.self.items) ≡ take s.ready (kept_of items) = ap (λ (l : List Entry). take s.ready l) kept ∙ take-append-le s.ready (kept_of items) (e ∷ []) (omega (arith, long, within)) in record {
      out = ap (λ (v : Hand). v.out) taken ∙ (ap (λ (l : List Entry). l ++ e ∷ []) i.out ∙ (append_assoc list (kept_of items) (e ∷ []) ∙ ap (λ (l : List Entry). list ++ l) (sym kept)));
      told = subst (λ (l : List Entry). IsTold c.stays_told-self-inside.result l s.publisher.announced list) (sym kept)
          (subst (λ b. IsTold b (kept_of items ++ e ∷ []) s.publisher.announced list) (sym c.stays_told-self-inside.ensures) (told_more s.told s.ready (kept_of items) e s.publisher.announced list (long ∙ all) i.told));
      ready = record {
        most = i.ready.most;
        within = omega (arith, more, within);
        all_but_one = omega (arith, more, all);
        tried = tried_same (map_of s.tried) _ _ (ap (λ (l : List Entry). list ++ l) (sym ready)) i.ready.tried;
      };
      room = ap (λ (b : Buffer Submission). b.capacity) pushed ∙ i.room;
      label = ap (λ (v : Hand). v.label) taken ∙ i.label;
      kept = subst (λ (l : List Submission). AreFor l board) (sym now) (for_more items x board i.kept (c.in-Some.ensures.taken.1 ∙ i.label));
      tallies = i.tallies;
      made = i.made ∙ sym (ap (λ (v : Hand). v.made) taken);
      origin = i.origin;
      inbox = cc (c.in-Some.ensures.same, i.inbox);
      known = ap (λ (v : Hand). v.known) taken ∙ i.known;
    }

pub returns-in-Ok-clause-fetched : goal.returns-in-Ok-clause-fetched
returns-in-Ok-clause-fetched g c =
    let s = c.self.inside in
    let i = c.self.invariant in
    let items : List Submission = s.kept.items in
    let x : Submission = c.in-Some.submission in
    let pushed : c.try_push_back.new.self ≡ buffer (items ++ x ∷ []) s.kept.capacity = c.in-Ok.ensures.ok in
    let kept : kept_of c.try_push_back.new.self.items ≡ kept_of items ++ x.entry ∷ [] = ap (λ (b : Buffer Submission). kept_of b.items) pushed ∙ kept_more items x in
    let long : length (kept_of items) ≡ length items = length-map items (λ (y : Submission). y.entry) in
    let within = i.ready.within in
    let all : length (kept_of items) ≡ s.ready = omega (arith, long, c.if-self-len.false, c.len.ensures.len, within) in
    let taken : view c.take.new.self.pass ≡ after_take (view s.drain.pass) x.entry = c.in-Some.ensures.taken.0 in
    let b : Relaying = record {
      list = s.publisher.list;
      kept = kept_of c.try_push_back.new.self.items;
      ready = s.ready;
      answered = answered_of s.answered;
      out = (view c.take.new.self.pass).out;
      known = (view c.take.new.self.pass).known;
      made = (view c.take.new.self.pass).made;
      origin = s.publisher.origin;
      inbox = (arc_value c.take.new.self.queue).table.shared.table_id;
      closed = s.closed;
      empties = c.take.new.self.empties;
      stored = length s.tried.store.squares;
      room = s.tried.store.room;
    } in
    subst (λ (r : Relaying). IsFetched r b) c.self.view_is
    (fetched_now (relaying_of s) b x.entry all i.out kept (ap (λ (v : Hand). v.out) taken) refl refl c.in-Some.ensures.empties refl)
