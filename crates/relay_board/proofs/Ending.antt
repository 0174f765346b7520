-- Seats at the start, and how they are taken in at the end, one by one.
use Rattle.std.proofs.Common.{◌≡◌, ℕ, zero, suc, ◌+◌, ◌-◌, ◌<◌, ◌≤◌, ◌≢◌, ◌^◌, map, List, [], ◌∷◌, ◌++◌, length, Some, slice_get, slice_index_or, ◌∙◌, sym, ap, refl, subst, append_assoc, length-append, drop, replicate, arith}
use Rattle.std.proofs.lemmas.List.{get_or-replicate, length-replicate}
use Rattle.std.specs.Arc.{arc_value}
use Rattle.atomic_table.specs.Seated.{TableId}
use Rattle.crossbeam_queue.specs.Passes.{view}
use Rattle.board.specs.declared.entry.Entry.{Entry}
use Rattle.inbox.specs.Counts.{counted}
use Rattle.inbox.specs.declared.rule.Hand.{Hand}
use Rattle.relay_board.specs.Closing.{AreCountable}
use Rattle.inbox.specs.Hands.{after_retire, of}
use Rattle.inbox.specs.declared.ends.Drain.{Drain}
use Rattle.generations_rule.specs.Rule.{GenerationsRule}
use Rattle.relay_board.specs.Tallies.{Tallies}
use Rattle.relay_board.specs.Seating.{Seating, fresh, mines_of, Numbered, AllFresh}

-- of the seats `all`, those of `left` are still to be taken in
pub record Goes (inbox : TableId) (first now : Drain) (all left : List Seating) : Type 0 where
  pub queue : (arc_value now.queue).table.shared.table_id ≡ inbox
  pub out : (view now.pass).out ≡ (view first.pass).out
  pub made : (view now.pass).made ≡ (view first.pass).made
  pub known : (view now.pass).known ++ mines_of left ≡ mines_of all
  pub rest : Numbered (length (view now.pass).known) left

-- one fresh seat more, at the next place
pub fresh_more : (first : ℕ) (rule : GenerationsRule) (room n m : ℕ) (ss : List Seating) (s : Seating) → AllFresh first rule room n ss → n + length ss ≡ m → s ≡ fresh first m rule room → AllFresh first rule room n (ss ++ s ∷ [])
fresh_more first rule room n m [] s h len is = (is ∙ ap (λ k. fresh first k rule room) (omega arith), tt)
fresh_more first rule room n m (x ∷ xs) s h len is = (h.0, fresh_more first rule room (n + 1) m xs s h.1 (omega arith) is)

-- fresh seats are numbered
pub fresh_numbered : (first : ℕ) (rule : GenerationsRule) (room n : ℕ) (ss : List Seating) → AllFresh first rule room n ss → Numbered n ss
fresh_numbered first rule room n [] h = tt
fresh_numbered first rule room n (s ∷ ss) h = (ap (λ (x : Seating). x.place) h.0, fresh_numbered first rule room (n + 1) ss h.1)

-- a list whose places are its numbers is numbered
pub numbered_by : (n : ℕ) (ss : List Seating) → ((k : ℕ) (s : Seating) → slice_get ss k ≡ Some s → s.place ≡ n + k) → Numbered n ss
numbered_by n [] h = tt
numbered_by n (s ∷ ss) h = (h 0 s refl ∙ omega arith, numbered_by (n + 1) ss (λ k t at. h (suc k) t at ∙ omega arith))

-- what is read at a place of a list stands there
pub get_at : {A : Type 0} (ss : List A) (k : ℕ) (s : A) → slice_index_or ss k s ≡ s → k < length ss → slice_get ss k ≡ Some s
get_at [] k s e lt = absurd (omega arith)
get_at (x ∷ xs) zero s e lt = ap Some e
get_at (x ∷ xs) (suc k) s e lt = get_at xs k s e (omega arith)

-- a place at which something stands is within the list
pub get_below : {A : Type 0} (ss : List A) (k : ℕ) (s : A) → slice_get ss k ≡ Some s → k < length ss
get_below [] k s e = absurd (cc (e))
get_below (x ∷ xs) zero s e = omega arith
get_below (x ∷ xs) (suc k) s e = let h = get_below xs k s e in omega arith

-- of numbered seats each stands at its place
pub numbered_at : (n : ℕ) (ss : List Seating) (k : ℕ) (s : Seating) → Numbered n ss → slice_get ss k ≡ Some s → s.place ≡ n + k
numbered_at n [] k s h at = absurd (cc (at))
numbered_at n (x ∷ xs) zero s h at = let same : x ≡ s = cc (at) in ap (λ (t : Seating). t.place) (sym same) ∙ (h.0 ∙ omega arith)
numbered_at n (x ∷ xs) (suc k) s h at = numbered_at (n + 1) xs k s h.1 at ∙ omega arith

-- one seat more was taken in
pub goes_on : (inbox : TableId) (first now next : Drain) (all left rest : List Seating) (s : Seating) (w : Hand) → Goes inbox first now all left → left ≡ s ∷ rest → next.queue ≡ now.queue → view next.pass ≡ after_retire (view now.pass) w → w.put ≡ s.mine → Goes inbox first next all rest
goes_on inbox first now next all left rest s w h more queue known put =
    let r : Numbered (length (view now.pass).known) (s ∷ rest) = subst (λ (l : List Seating). Numbered (length (view now.pass).known) l) more h.rest in
    let longer : length (view now.pass).known + 1 ≡ length (view next.pass).known = sym (ap (λ (v : Hand). length v.known) known ∙ length-append (view now.pass).known (w.put ∷ [])) in
    record {
      queue = cc (queue, h.queue);
      out = ap (λ (v : Hand). v.out) known ∙ h.out;
      made = ap (λ (v : Hand). v.made) known ∙ h.made;
      known = ap (λ (v : Hand). v.known ++ mines_of rest) known ∙ (append_assoc (view now.pass).known (w.put ∷ []) (mines_of rest) ∙ (ap (λ (l : List Entry). (view now.pass).known ++ l ∷ mines_of rest) put ∙ (ap (λ (l : List Seating). (view now.pass).known ++ mines_of l) (sym more) ∙ h.known)));
      rest = subst (λ (n : ℕ). Numbered n rest) longer r.1;
    }

-- a list that is itself without its first item is empty
pub drop_self : {A : Type 0} (xs : List A) → xs ≡ drop 1 xs → xs ≡ []
drop_self [] e = refl
drop_self (x ∷ xs) e = absurd (omega (arith, ap length e))

-- a count that is not at its greatest and is no less than another
pub enough : (n m count : ℕ) → count ≡ counted m → count ≢ 2 ^ 64 - 1 → counted n ≤ count → (n ≤ m) × (n < 2 ^ 64)
enough n m count is not_most le = (omega (arith, is, not_most, le), omega (arith, is, not_most, le))

-- what stands among the lists that were put is what the seat there put
pub mine_at : (ss : List Seating) (k : ℕ) (s : Seating) → slice_index_or ss k s ≡ s → k < length ss → slice_index_or (mines_of ss) k [] ≡ s.mine
mine_at [] k s e lt = absurd (omega arith)
mine_at (x ∷ xs) zero s e lt = ap (λ (t : Seating). t.mine) e
mine_at (x ∷ xs) (suc k) s e lt = mine_at xs k s e (omega arith)

-- few entries are counted as they are
pub counted_all : (ss : List Seating) → AreCountable (mines_of ss) → map (λ (s : Seating). counted (length s.mine)) ss ≡ map (λ (s : Seating). length s.mine) ss
counted_all [] h = refl
counted_all (s ∷ ss) h =
    let one : counted (length s.mine) ≡ length s.mine = let lt = h 0 (omega arith) in omega (arith, lt) in
    let rest = counted_all ss (λ k lt. h (suc k) (omega arith)) in
    λ i. one i ∷ rest i

-- counts that are all 0 are those of no entries
pub none_counted : (n : ℕ) (counts : List ℕ) (list : List Entry) → counts ≡ replicate n 0 → list ≡ [] → Tallies counts list
none_counted n counts list zeros empty k lt =
    let within : k < n = omega (arith, ap length zeros, length-replicate {A = ℕ} n 0) in
    ap (λ (ns : List ℕ). slice_index_or ns k 0) zeros ∙ (get_or-replicate n k 0 0 within ∙ ap (λ (es : List Entry). counted (length (of k es))) (sym empty))
