-- What the drain knows in the end, and where it found the inbox empty.
use Rattle.std.proofs.Common.{◌≡◌, ℕ, ◌<◌, ◌≤◌, List, [], ◌∷◌, ◌++◌, length, slice_index_or, Option, Some, None, MatchOption, IfNone, sym, refl, ap, ◌∙◌, subst, length-append, arith}
use Rattle.std.proofs.lemmas.List.{append-nil}
use Rattle.std.proofs.lemmas.List.Elements.{filter-append}
use Rattle.crossbeam_queue.specs.Fifo.{Held}
use Rattle.board.specs.declared.entry.Entry.{Entry}
use Rattle.inbox.specs.declared.submission.Submission.{Submission}
use Rattle.inbox.specs.declared.rule.Hand.{Hand}
use Rattle.inbox.specs.Hands.{of, entries_of, IsAll}
use Rattle.inbox.specs.Settled.{IsOf, HasAsMany}

-- a list that has something before, and no more than the part, is the part
no_rest : (xs ys zs : List Entry) → zs ≡ xs ++ ys → length zs ≤ length xs → xs ≡ zs
no_rest xs [] zs e le = sym (append-nil xs) ∙ sym e
no_rest xs (y ∷ ys) zs e le = absurd (omega (arith, ap length e, length-append xs (y ∷ ys)))

-- what an empty list begins with is empty
nothing_before : (xs ys : List Entry) → xs ++ ys ≡ [] → xs ≡ []
nothing_before [] ys e = refl
nothing_before (x ∷ xs) ys e = absurd (cc (e))

-- where all senders were taken in, and of each as many entries were taken as it put, what was taken is what they put
pub whole : (v : Hand) (puts : List (List Entry)) (items : List Entry)
    → v.known ≡ puts → v.made ≡ length puts → HasAsMany v.out puts → IsAll v items → IsOf v.out puts
whole v puts items known made many all = record {
  each = λ k lt. let part : slice_index_or puts k [] ≡ of k v.out ++ of k items =
      ap (λ l. slice_index_or l k []) (sym known) ∙ (all.each k (subst (λ (l : List (List Entry)). k < length l) (sym known) lt) ∙ filter-append _ v.out items) in
      no_rest (of k v.out) (of k items) (slice_index_or puts k []) part (many k lt);
  none = λ p le. nothing_before (of p v.out) (of p items) (sym (filter-append _ v.out items) ∙ all.none p (subst (λ (n : ℕ). n ≤ p) (sym made) le));
}

-- what was taken is all, where nothing is left
nothing_left : (v : Hand) (items : List Submission) → length items ≡ 0 → IsAll v (entries_of items) → IsAll v []
nothing_left v [] none all = all
nothing_left v (s ∷ items) none all = absurd (omega arith)

-- so it is where the inbox was empty
pub all_taken : (A : Type 0) (P : Submission → Type 0) (v : Hand) (taken : Option Submission)
    → MatchOption taken (A × Held 0 (λ (items : List Submission). IsAll v (entries_of items))) P → IfNone taken (IsAll v [])
all_taken A P v None h = nothing_left v h.1.0 h.1.1 h.1.2
all_taken A P v (Some s) h = tt
