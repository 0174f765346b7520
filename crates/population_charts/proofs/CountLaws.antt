-- Cells counted by their states, one after another.
use Rattle.std.proofs.Common.{◌≡◌, ◌≢◌, inl, inr, ℕ, ◌+◌, ◌<◌, true, false, List, length, take, get_or, ap, sym, subst, ◌∙◌, arith, get_or-set_other, get_or-set_same}
use Rattle.std.specs.Prelude.{◌==◌, count_by}
use Rattle.std.proofs.Math.ListN.{set, length-set}
use Rattle.std.proofs.lemmas.Bool.{cases_Bool, eqb-true, eqb-false}
use Rattle.std.proofs.lemmas.Bool.Decides.{nat_tests}
use Rattle.std.proofs.lemmas.List.Sums.{count_by_more_no, count_by_more_yes}
use Rattle.pattern_cells.specs.declared.cell.Cell.{Cell}

-- of each state the number of cells stands, at the state's place
abbrev pub AreCounted : List ℕ → List Cell → Type 0
AreCounted counts cells = (n : ℕ) → n < length counts → get_or counts n 0 ≡ count_by (λ c. c.state == n + 1) cells

-- a cell of none of these states
pub counted_none : (counts : List ℕ) (cells : List Cell) (i : ℕ) (d : Cell) → i < length cells → ((n : ℕ) → n < length counts → (get_or cells i d).state ≢ n + 1) →
    AreCounted counts (take i cells) → AreCounted counts (take (i + 1) cells)
counted_none counts cells i d below other so_far n within =
    let apart = other n within in
    let no : ((get_or cells i d).state == n + 1) ≡ false = grind (arith, nat_tests, apart) in
    so_far n within ∙ sym (count_by_more_no (λ (c : Cell). c.state == n + 1) cells i d below no)

-- a cell of one of them
pub counted_one : (counts : List ℕ) (cells : List Cell) (i k : ℕ) (d : Cell) → i < length cells → k < length counts → (get_or cells i d).state ≡ k + 1 →
    AreCounted counts (take i cells) → AreCounted (set counts k (get_or counts k 0 + 1)) (take (i + 1) cells)
counted_one counts cells i k d below stands is so_far n within =
    let inside : n < length counts = simp length-set at within in
    elim (cases_Bool (n == k)) [
      | inl here ↦
          let same : n ≡ k = eqb-true n k here in
          let yes : ((get_or cells i d).state == k + 1) ≡ true = grind (arith, nat_tests) in
          let more : get_or (set counts k (get_or counts k 0 + 1)) k 0 ≡ count_by (λ (c : Cell). c.state == k + 1) (take (i + 1) cells) =
          get_or-set_same counts k (get_or counts k 0 + 1) 0 stands ∙ ap (λ m. m + 1) (so_far k stands) ∙ sym (count_by_more_yes (λ (c : Cell). c.state == k + 1) cells i d below yes) in
          subst (λ m. get_or (set counts k (get_or counts k 0 + 1)) m 0 ≡ count_by (λ (c : Cell). c.state == m + 1) (take (i + 1) cells)) (sym same) more
      | inr there ↦
          let apart : n ≢ k = eqb-false n k there in
          let no : ((get_or cells i d).state == n + 1) ≡ false = grind (arith, nat_tests, apart) in
          get_or-set_other counts k n (get_or counts k 0 + 1) 0 apart ∙ so_far n inside ∙ sym (count_by_more_no (λ (c : Cell). c.state == n + 1) cells i d below no)
    ]
