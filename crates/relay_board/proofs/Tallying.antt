-- Counts with one entry more.
use Rattle.std.proofs.Common.{◌≡◌, ◌≢◌, ℕ, zero, suc, ◌+◌, ◌<◌, cond, eqb, eq-eqb, ne_eqb, List, [], ◌∷◌, ◌++◌, length, set, slice_index_or, sym, refl, ap, ◌∙◌, arith, length-append}
use Rattle.std.proofs.lemmas.List.{append-nil}
use Rattle.std.proofs.lemmas.List.Elements.{filter-append}
use mathlib.Core.Logic.{dite}
use native.Mathlib.Decide.{ℕ_discrete}
use Rattle.board.specs.declared.entry.Entry.{Entry}
use Rattle.inbox.specs.Counts.{counted}
use Rattle.inbox.specs.Hands.{of}
use Rattle.relay_board.specs.Tallies.{Tallies}

-- what was set stands at its place
at_set : (ns : List ℕ) (k n : ℕ) → k < length ns → slice_index_or (set ns k n) k 0 ≡ n
at_set [] k n lt = absurd (omega arith)
at_set (x ∷ xs) zero n lt = refl
at_set (x ∷ xs) (suc k) n lt = at_set xs k n (omega arith)

-- all else stands as it stood
off_set : (ns : List ℕ) (k j n : ℕ) → j ≢ k → slice_index_or (set ns k n) j 0 ≡ slice_index_or ns j 0
off_set [] k j n ne = refl
off_set (x ∷ xs) zero zero n ne = absurd (ne refl)
off_set (x ∷ xs) zero (suc j) n ne = refl
off_set (x ∷ xs) (suc k) zero n ne = refl
off_set (x ∷ xs) (suc k) (suc j) n ne = off_set xs k j n (λ e. ne (ap suc e))

-- a list that is set is as long as before
pub length_set : (ns : List ℕ) (k n : ℕ) → length (set ns k n) ≡ length ns
length_set [] k n = refl
length_set (x ∷ xs) zero n = refl
length_set (x ∷ xs) (suc k) n = ap suc (length_set xs k n)

-- an entry of a seat is among its entries
of_same : (k : ℕ) (x : Entry) → k ≡ x.seat → of k (x ∷ []) ≡ x ∷ []
of_same k x e = ap (λ b. cond b (x ∷ []) []) (eq-eqb x.seat k (sym e))

-- an entry of another seat is not
of_other : (k : ℕ) (x : Entry) → k ≢ x.seat → of k (x ∷ []) ≡ []
of_other k x ne = ap (λ b. cond b (x ∷ []) []) (ne_eqb x.seat k (λ e. ne (sym e)))

-- a count with one more
counted_more : (a n : ℕ) → a ≡ counted n → counted (a + 1) ≡ counted (n + 1)
counted_more a n e = omega (arith, e)

-- counts with one entry more
pub tallies_more : (counts : List ℕ) (list : List Entry) (x : Entry) → Tallies counts list → Tallies (set counts x.seat (counted (slice_index_or counts x.seat 0 + 1))) (list ++ x ∷ [])
tallies_more counts list x h k lt =
    let within : k < length counts = omega (arith, length_set counts x.seat (counted (slice_index_or counts x.seat 0 + 1))) in
    let parts : of k (list ++ x ∷ []) ≡ of k list ++ of k (x ∷ []) = filter-append (λ e. eqb e.seat k) list (x ∷ []) in
    dite (ℕ_discrete k x.seat)
    (λ e. (λ i. slice_index_or (set counts (sym e i) (counted (slice_index_or counts (sym e i) 0 + 1))) k 0)
    ∙ (at_set counts k (counted (slice_index_or counts k 0 + 1)) within
    ∙ (counted_more (slice_index_or counts k 0) (length (of k list)) (h k within)
    ∙ ap counted (sym (ap length (parts ∙ ap (λ l. of k list ++ l) (of_same k x e)) ∙ length-append (of k list) (x ∷ []))))))
    (λ ne. off_set counts x.seat k (counted (slice_index_or counts x.seat 0 + 1)) ne
    ∙ (h k within ∙ ap (λ (l : List Entry). counted (length l)) (sym (parts ∙ (ap (λ l. of k list ++ l) (of_other k x ne) ∙ append-nil (of k list))))))
