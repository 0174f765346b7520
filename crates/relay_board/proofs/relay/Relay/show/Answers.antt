use Rattle.std.proofs.Common.{◌≡◌, ◌<◌, ◌+◌, ◌-◌, set, slice_index_or, List, [], ◌∷◌, ◌++◌, length, take, drop, Some, slice_get, sym, ap, ◌∙◌, subst, append_assoc, arith}
use Rattle.std.proofs.lemmas.List.{length-drop, with_items_is}
use Rattle.std.specs.Vec.{with_items}
use Rattle.circular_buffer.specs.Buffer.{Buffer, buffer}
use Rattle.stamped_tree.specs.Plane.{map_of}
use Rattle.board.specs.declared.entry.Entry.{Entry}
use Rattle.board.specs.Sights.{label_of}
use Rattle.inbox.specs.Counts.{counted}
use Rattle.inbox.specs.declared.submission.Submission.{Submission}
use Rattle.relay_board.specs.Kept.{AreFor, kept_of}
use Rattle.relay_board.specs.Relaying.{Relaying}
use Rattle.relay_board.specs.Tallies.{Tallies}
use Rattle.relay_board.proofs.Keeping.{for_rest, kept_first, take_rest}
use Rattle.relay_board.proofs.Tallying.{length_set, tallies_more}
use Rattle.relay_board.proofs.Trying.{tried_same}
use Rattle.relay_board.proofs.relay.Relay.show.Goals as goal

pub invariant_of-self-in-Ok-shown : goal.invariant_of-self-in-Ok-shown
invariant_of-self-in-Ok-shown g c =
    let s = c.self.inside in
    let i = c.self.invariant in
    let p = c.shown.new.publisher in
    let q = c.announced.new.publisher in
    let x : Submission = c.in-Some.first in
    let e : Entry = x.entry in
    let items : List Submission = s.kept.items in
    let rest : List Entry = kept_of (drop 1 items) in
    let here : slice_get items 0 ≡ Some x = sym c.pop_front.ensures.value ∙ c.in-Some.is in
    let kept : kept_of items ≡ e ∷ rest = kept_first items x here in
    let popped : c.pop_front.new.self ≡ buffer (drop 1 items) s.kept.capacity = c.pop_front.ensures.items in
    let left : c.pop_front.new.self.items ≡ drop 1 items = ap (λ (b : Buffer Submission). b.items) popped in
    let now : kept_of c.pop_front.new.self.items ≡ rest = ap kept_of left in
    let announced : q.announced ≡ s.publisher.list ++ take 1 (kept_of items) = rw c.in-Ok.is at c.announced.ensures.announced in
    let shown : p.list ≡ q.announced = rw c.in-Ok-shown.is at c.shown.ensures.list in
    let list : p.list ≡ s.publisher.list ++ e ∷ [] = shown ∙ (announced ∙ ap (λ (l : List Entry). s.publisher.list ++ take 1 l) kept) in
    let origin : p.origin ≡ s.publisher.origin = c.shown.ensures.origin ∙ c.announced.ensures.same.1 in
    let some : 0 < s.ready = let r = ap (λ (r : Relaying). r.ready) c.self.view_is in omega (arith, c.requires, r) in
    let most = i.ready.most in
    let within = i.ready.within in
    let all = i.ready.all_but_one in
    let fewer : length c.pop_front.new.self.items ≡ length items - 1 = ap length left ∙ length-drop 1 items in
    let ready : s.publisher.list ++ take s.ready (kept_of items) ≡ p.list ++ take (s.ready - 1) (kept_of c.pop_front.new.self.items) =
    ap (λ (l : List Entry). s.publisher.list ++ take s.ready l) kept
    ∙ (ap (λ (l : List Entry). s.publisher.list ++ l) (take_rest s.ready e rest some)
    ∙ (sym (append_assoc s.publisher.list (e ∷ []) (take (s.ready - 1) rest))
    ∙ (λ j. sym list j ++ take (s.ready - 1) (sym now j)))) in
    let tallied = set s.counts.items e.seat (counted (slice_index_or s.counts.items e.seat 0 + 1)) in
    let as_many : length tallied ≡ length s.counts.items = length_set s.counts.items e.seat _ in
    let wrote : c.tally.new.counts ≡ tallied = c.tally.ensures ∙ ap (λ ns. set ns e.seat (counted (slice_index_or ns e.seat 0 + 1))) c.as_mut_slice.ensures.value in
    let counts : (with_items s.counts c.tally.new.counts).items ≡ tallied = with_items_is s.counts c.tally.new.counts (ap length wrote ∙ (as_many ∙ sym s.counts.ok.0)) ∙ wrote in record {
      out = i.out ∙ (ap (λ (l : List Entry). s.publisher.list ++ l) kept ∙ (sym (append_assoc s.publisher.list (e ∷ []) rest) ∙ (λ j. sym list j ++ sym now j)));
      told = c.shown.ensures.announced ∙ sym shown;
      ready = record {
        most = omega (arith, most);
        within = omega (arith, fewer, within);
        all_but_one = omega (arith, fewer, all, some);
        tried = tried_same (map_of s.tried) _ _ ready i.ready.tried;
      };
      room = ap (λ (b : Buffer Submission). b.capacity) popped ∙ i.room;
      label = i.label ∙ sym (ap label_of origin);
      kept = subst (λ b. AreFor c.pop_front.new.self.items b) (sym (ap label_of origin)) (subst (λ (l : List Submission). AreFor l (label_of s.publisher.origin)) (sym left) (for_rest items (label_of s.publisher.origin) i.kept));
      tallies = subst (λ (l : List Entry). Tallies (with_items s.counts c.tally.new.counts).items l) (sym list) (subst (λ ns. Tallies ns (s.publisher.list ++ e ∷ [])) (sym counts) (tallies_more s.counts.items s.publisher.list e i.tallies));
      made = ap length counts ∙ (as_many ∙ i.made);
      origin = origin ∙ i.origin;
      inbox = i.inbox;
      known = i.known;
    }
