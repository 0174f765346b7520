-- Each step keeps what the inbox delivers.
use Rattle.std.proofs.Common.{◌≡◌, ◌≢◌, ◌⊎◌, ℕ, zero, suc, ◌+◌, ◌<◌, true, false, true≢false, cond, eqb, eq-eqb, ne_eqb, List, [], ◌∷◌, ◌++◌, length, slice_index_or, set, sym, refl, ap, ◌∙◌, subst, inl, inr, ⊎_elim, append_assoc, length-append, lt_of_not-le, arith}
use Rattle.std.proofs.lemmas.List.{append-nil, map-append}
use Rattle.std.proofs.lemmas.List.Elements.{filter-append}
use mathlib.Core.Option.{Option, some, none, some-injective, some-ne-none}
use mathlib.Core.Logic.{dite}
use native.Mathlib.Decide.{ℕ_discrete}
use lib.ListN.{get_elem?}
use Rattle.crossbeam_queue.specs.Fifo.{Pushes, Pops, Forks, Merges, Learns}
use Rattle.crossbeam_queue.proofs.Lists.{at_set}
use Rattle.board.specs.declared.entry.Entry.{Entry}
use Rattle.inbox.specs.declared.submission.Submission.{Submission}
use Rattle.inbox.specs.declared.rule.Hand.{Hand}
use Rattle.inbox.specs.Counts.{HasLast}
use Rattle.receipts.specs.Ends.{channel_to}
use Rattle.inbox.specs.Hands.{of, entries_of, receiver, sender, nobody, IsSender, IsReceiver, after_put, after_take, after_hire, after_retire, Fits, Delivers, IsAll}

-- what stands in a list with one more stands in the list, or is that one at its end
pub at_end : (l : List Hand) (a b : Hand) (j : ℕ) → get_elem? (l ++ a ∷ []) j ≡ some b → (get_elem? l j ≡ some b) ⊎ ((j ≡ length l) × (a ≡ b))
at_end [] a b zero e = inr (refl, some-injective a b e)
at_end [] a b (suc j) e = absurd (some-ne-none b (sym e))
at_end (x ∷ xs) a b zero e = inl e
at_end (x ∷ xs) a b (suc j) e = ⊎_elim (λ t. inl t) (λ t. inr (ap suc t.0, t.1)) (at_end xs a b j e)

-- a pass that is there has a number below the count of passes
at_below : (l : List Hand) (j : ℕ) (b : Hand) → get_elem? l j ≡ some b → j < length l
at_below [] j b e = absurd (some-ne-none b (sym e))
at_below (x ∷ xs) zero b e = omega arith
at_below (x ∷ xs) (suc j) b e = let h = at_below xs j b e in omega arith

-- a fact of each pass and its view
abbrev pub All : (ℕ → Hand → Type 0) → List Hand → Type 0
All F views = (pass : ℕ) (v : Hand) → get_elem? views pass ≡ some v → F pass v

-- it holds after one view changed, if it holds of the changed one, and of the others
pub all_set : (F : ℕ → Hand → Type 0) (views : List Hand) (pass : ℕ) (w : Hand)
    → F pass w → ((j : ℕ) (u : Hand) → j ≢ pass → get_elem? views j ≡ some u → F j u) → All F (set views pass w)
all_set F views pass w mine others j u e = ⊎_elim (λ (x : (j ≡ pass) × (w ≡ u)). subst (λ (y : ℕ × Hand). F y.0 y.1) (λ i. (sym x.0 i, x.1 i)) mine)
    (λ (x : (j ≢ pass) × (get_elem? views j ≡ some u)). others j u x.0 x.1) (at_set views pass j w u e)

-- an entry is of its seat
of_same : (x : Entry) → of x.seat (x ∷ []) ≡ x ∷ []
of_same x = ap (λ b. cond b (x ∷ []) []) (eq-eqb x.seat x.seat refl)

-- and of no other
of_other : (p : ℕ) (x : Entry) → p ≢ x.seat → of p (x ∷ []) ≡ []
of_other p x ne = ap (λ b. cond b (x ∷ []) []) (ne_eqb x.seat p (λ e. ne (sym e)))

-- nothing is not something
none-some : {A : Type 0} (o : Option A) (a : A) → o ≡ none → o ≢ some a
none-some o a n s = some-ne-none a (sym s ∙ n)

-- a list of one has something at 0 alone
first_only : (a b : Hand) (j : ℕ) → get_elem? (a ∷ []) j ≡ some b → j ≡ 0
first_only a b zero e = refl
first_only a b (suc j) e = absurd (some-ne-none b (sym e))

-- no seat has a pass
abbrev no_seat : ℕ → Option ℕ
no_seat p = none

-- no seat has sent anything
abbrev nothing : ℕ → List Entry
nothing p = []

-- a new inbox is empty, and has one pass, which receives
pub begins : Delivers [] (receiver [] 0 [] ∷ [])
begins = record {
  reader = 0;
  seat = no_seat;
  sent = nothing;
  out = [];
  all = λ p. refl;
  each = all_set (Fits 0 no_seat nothing []) (receiver [] 0 [] ∷ []) 0 (receiver [] 0 [])
      ((λ no. absurd (true≢false (sym no))), (λ yes. record { here = refl; took = refl; later = λ p le. (refl, refl); ended = λ k lt. absurd (omega arith); fewer = omega arith }))
      (λ j u other e. absurd (other (first_only (receiver [] 0 []) u j e)));
}

-- a sender puts an entry of its seat
pub puts : (n pass : ℕ) (v : Hand) (s : Submission)
    → IsSender s.entry.seat v → Pushes Delivers n pass v s (λ w. w ≡ after_put v s.entry (channel_to s.answering))
puts n pass v sub may items views room h at =
    let x : Entry = sub.entry in
    let w : Hand = after_put v x (channel_to sub.answering) in
    let not : v.gets ≡ false = may.1 in
    let mine : x.seat ≡ v.seat = sym may.2 in
    let own = (h.each pass v at).0 may.0 in
    let sent : ℕ → List Entry = λ p. h.sent p ++ of p (x ∷ []) in
    let quiet : (p : ℕ) → h.seat p ≡ none → sent p ≡ h.sent p = λ p no. ap (λ l. h.sent p ++ l) (of_other p x (λ e. none-some (h.seat p) pass no (ap h.seat (e ∙ mine) ∙ own.0))) ∙ append-nil (h.sent p) in
    let put : w.put ≡ sent w.seat = ap (λ l. v.put ++ l) (sym (of_same x)) ∙ (ap (λ l. l ++ of x.seat (x ∷ [])) own.1 ∙ ap (λ k. h.sent v.seat ++ of k (x ∷ [])) mine) in (
      w,
      record {
        reader = h.reader;
        seat = h.seat;
        sent = sent;
        out = h.out;
        all = λ p. ap (λ l. of p (h.out ++ l)) (map-append (λ (s : Submission). s.entry) items (sub ∷ [])) ∙ (ap (of p) (sym (append_assoc h.out (entries_of items) (x ∷ []))) ∙ (filter-append (λ e. eqb e.seat p) (h.out ++ entries_of items) (x ∷ []) ∙ ap (λ l. l ++ of p (x ∷ [])) (h.all p)));
        each = all_set (Fits h.reader h.seat sent h.out) views pass w ((λ yes. (own.0, put)), (λ yes. absurd (true≢false (sym yes ∙ not))))
            (λ j u other e. let f = h.each j u e in (
              (λ yes. let s = f.0 yes in (s.0, s.1 ∙ sym (ap (λ l. h.sent u.seat ++ l) (of_other u.seat x (λ same. other (some-injective j pass (sym s.0 ∙ (ap h.seat (same ∙ mine) ∙ own.0))))) ∙ append-nil (h.sent u.seat)))),
              (λ yes. let r = f.1 yes in record {
                here = r.here;
                took = r.took;
                later = λ p le. let l = r.later p le in (l.0, quiet p l.0 ∙ l.1);
                ended = λ k lt. let d = r.ended k lt in (d.0, d.1 ∙ sym (quiet k d.0));
                fewer = r.fewer;
              }),
            ));
      },
      refl,
    )

-- the receiver takes an entry
pub takes : (pass : ℕ) (v : Hand) → IsReceiver v → Pops Delivers pass v (λ x w. w ≡ after_take v x.entry)
takes pass v may sub items views h at =
    let x : Entry = sub.entry in
    let w : Hand = after_take v x in
    let not : v.sends ≡ false = may.1 in
    let own = (h.each pass v at).1 may.0 in
    let out : List Entry = h.out ++ x ∷ [] in (
      w,
      record {
        reader = h.reader;
        seat = h.seat;
        sent = h.sent;
        out = out;
        all = λ p. ap (of p) (append_assoc h.out (x ∷ []) (entries_of items)) ∙ h.all p;
        each = all_set (Fits h.reader h.seat h.sent out) views pass w
            ((λ yes. absurd (true≢false (sym yes ∙ not))), (λ yes. record { here = own.here; took = ap (λ l. l ++ x ∷ []) own.took; later = own.later; ended = own.ended; fewer = own.fewer }))
            (λ j u other e. let f = h.each j u e in (f.0, (λ yes. absurd (other ((f.1 yes).here ∙ sym own.here)))));
      },
      refl,
    )

-- the receiver makes the next sender
pub hires : (pass : ℕ) (v : Hand) → IsReceiver v → Forks Delivers pass v (after_hire v) (sender v.label v.made)
hires pass v may items views h at =
    let w : Hand = after_hire v in
    let vs : List Hand = set views pass w in
    let not : v.sends ≡ false = may.1 in
    let own = (h.each pass v at).1 may.0 in
    let free = own.later v.made (omega arith) in
    let seat : ℕ → Option ℕ = λ p. cond (eqb p v.made) (some (length vs)) (h.seat p) in
    let old : (p : ℕ) → p ≢ v.made → seat p ≡ h.seat p = λ p ne. ap (λ b. cond b (some (length vs)) (h.seat p)) (ne_eqb p v.made ne) in
    let new : seat v.made ≡ some (length vs) = ap (λ b. cond b (some (length vs)) (h.seat v.made)) (eq-eqb v.made v.made refl) in
    let stays : All (Fits h.reader seat h.sent h.out) vs = all_set (Fits h.reader seat h.sent h.out) views pass w (
      (λ yes. absurd (true≢false (sym yes ∙ not))),
      (λ yes. record {
        here = own.here;
        took = own.took;
        later = λ p le. let l = own.later p (omega arith) in (old p (λ e. absurd (omega arith)) ∙ l.0, l.1);
        ended = λ k lt. let d = own.ended k lt in let f = own.fewer in (old k (λ e. absurd (omega arith)) ∙ d.0, d.1);
        fewer = let f = own.fewer in omega arith;
      }),
    )
    (λ j u other e. let f = h.each j u e in (
      (λ yes. let s = f.0 yes in (old u.seat (λ same. none-some (h.seat v.made) j free.0 (ap h.seat (sym same) ∙ s.0)) ∙ s.0, s.1)),
      (λ yes. absurd (other ((f.1 yes).here ∙ sym own.here))),
    )) in
    record {
      reader = h.reader;
      seat = seat;
      sent = h.sent;
      out = h.out;
      all = h.all;
      each = λ j u e. ⊎_elim (stays j u) (λ (t : (j ≡ length vs) × (sender v.label v.made ≡ u)). subst (λ (y : ℕ × Hand). Fits h.reader seat h.sent h.out y.0 y.1) (λ i. (sym t.0 i, t.1 i))
          ((λ yes. (new, sym free.1)), (λ yes. absurd (true≢false (sym yes))))) (at_end vs (sender v.label v.made) u j e);
    }

-- what is known of earlier seats stays
known_more : (ls : List (List Entry)) (l : List Entry) (k : ℕ) → k < length ls → slice_index_or (ls ++ l ∷ []) k [] ≡ slice_index_or ls k []
known_more [] l k lt = absurd (omega arith)
known_more (x ∷ xs) l zero lt = refl
known_more (x ∷ xs) l (suc k) lt = known_more xs l k (omega arith)

-- and of the next one is what was added
known_last : (ls : List (List Entry)) (l : List Entry) (k : ℕ) → k ≡ length ls → slice_index_or (ls ++ l ∷ []) k [] ≡ l
known_last [] l zero e = refl
known_last [] l (suc k) e = absurd (omega arith)
known_last (x ∷ xs) l zero e = absurd (omega arith)
known_last (x ∷ xs) l (suc k) e = known_last xs l k (omega arith)

-- the receiver takes the next sender in
pub retires : (pass : ℕ) (v : Hand) (other : ℕ) (w : Hand)
    → IsReceiver v → w.sends ≡ true → w.seat ≡ length v.known → Merges Delivers pass v other w (after_retire v w) nobody
retires pass v other w may sends next items views h at two at' =
    let both : Hand = after_retire v w in
    let vs : List Hand = set views pass both in
    let not : v.sends ≡ false = may.1 in
    let own = (h.each pass v at).1 may.0 in
    let was : get_elem? views other ≡ some w = ⊎_elim (λ (t : (other ≡ pass) × (both ≡ w)). absurd (two t.0)) (λ (t : (other ≢ pass) × (get_elem? views other ≡ some w)). t.1) (at_set views pass other both w at') in
    let theirs = (h.each other w was).0 sends in
    let seat : ℕ → Option ℕ = λ p. cond (eqb p w.seat) none (h.seat p) in
    let old : (p : ℕ) → p ≢ w.seat → seat p ≡ h.seat p = λ p ne. ap (λ b. cond b none (h.seat p)) (ne_eqb p w.seat ne) in
    let gone : (p : ℕ) → p ≡ w.seat → seat p ≡ none = λ p e. ap (λ b. cond b none (h.seat p)) (eq-eqb p w.seat e) in
    let made : w.seat < v.made = lt_of_not-le (λ le. none-some (h.seat w.seat) other (own.later w.seat le).0 theirs.0) in
    let longer : length (v.known ++ w.put ∷ []) ≡ length v.known + 1 = length-append v.known (w.put ∷ []) in
    let F : ℕ → Hand → Type 0 = Fits h.reader seat h.sent h.out in
    let mine : F pass both = (
      (λ yes. absurd (true≢false (sym yes ∙ not))),
      (λ yes. record {
        here = own.here;
        took = own.took;
        later = λ p le. let l = own.later p le in (old p (λ e. absurd (omega arith)) ∙ l.0, l.1);
        ended = λ k lt. dite (ℕ_discrete k w.seat)
            (λ e. (gone k e, known_last v.known w.put k (e ∙ next) ∙ (theirs.1 ∙ ap h.sent (sym e))))
            (λ ne. let lt' : k < length v.known = omega arith in let d = own.ended k lt' in (old k ne ∙ d.0, known_more v.known w.put k lt' ∙ d.1));
        fewer = omega arith;
      }),
    ) in
    let Now : ℕ → Hand → Type 0 = λ j y. j ≢ other → F j y in
    let now : All Now vs = all_set Now views pass both (λ _. mine)
    (λ j u apart e ne. let f = h.each j u e in (
      (λ yes. let s = f.0 yes in (old u.seat (λ same. ne (some-injective j other (sym s.0 ∙ (ap h.seat same ∙ theirs.0)))) ∙ s.0, s.1)),
      (λ yes. absurd (apart ((f.1 yes).here ∙ sym own.here))),
    )) in
    record {
      reader = h.reader;
      seat = seat;
      sent = h.sent;
      out = h.out;
      all = h.all;
      each = all_set F vs other nobody ((λ yes. absurd (true≢false (sym yes))), (λ yes. absurd (true≢false (sym yes)))) (λ j y apart e. now j y e apart);
    }

-- what the receiver learns of an inbox at any moment
pub learns : (pass : ℕ) (v : Hand) → v.gets ≡ true → Learns Delivers pass v (λ items. IsAll v (entries_of items))
learns pass v may items views h at =
    let own = (h.each pass v at).1 may in record {
      each = λ k lt. (own.ended k lt).1 ∙ (sym (h.all k) ∙ ap (λ l. of k (l ++ entries_of items)) (sym own.took));
      none = λ p le. ap (λ l. of p (l ++ entries_of items)) own.took ∙ (h.all p ∙ (own.later p le).1);
    }

-- what a sender learns of an inbox at any moment
pub learns_put : (pass : ℕ) (v : Hand) → v.sends ≡ true → Learns Delivers pass v (λ items. HasLast v (entries_of items))
learns_put pass v may items views h at =
    let own = (h.each pass v at).0 may in
    (of v.seat h.out, sym (filter-append (λ e. eqb e.seat v.seat) h.out (entries_of items)) ∙ (h.all v.seat ∙ sym own.1))
