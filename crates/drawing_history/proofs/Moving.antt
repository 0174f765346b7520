-- A drawing that moves from one list to another.
use Rattle.std.proofs.Common.{◌≡◌, ◌⊎◌, ℕ, ◌+◌, ◌-◌, ◌≤◌, nat_le, List, [], ◌∷◌, ◌++◌, length, length-append, sym, ap, subst, ◌∙◌, inl, inr, refl, arith}
use Rattle.std.specs.Prelude.{Err, Ok, OnErr, OnOk, Result}
use Rattle.std.specs.Global.{Vec}
use Rattle.std.proofs.lemmas.Bool.{cases_Bool, leb-true}
use Rattle.std.proofs.lemmas.List.Sums.{sum_by-append}
use Rattle.drawing_history.specs.declared.drawn.Drawn.{Drawn}
use Rattle.drawing_history.specs.declared.stroke.Stroke.{Stroke}
use Rattle.drawing_history.specs.Drawings.{IsWithinLimits, MovesLast, cells_of, cells_of_all, kept_within, most_cells, most_drawings}
use Rattle.drawing_history.specs.Strokes.{cells_in}

-- a list has nothing, or a last element
last_or_none : (xs : List Drawn) → (xs ≡ []) ⊎ ((rest : List Drawn) × ((last : Drawn) × (xs ≡ rest ++ last ∷ [])))
last_or_none [] = inl refl
last_or_none (x ∷ xs) = elim (last_or_none xs) [
  | inl none ↦ inr ([], (x, ap (λ ys. x ∷ ys) none))
  | inr some ↦ inr (x ∷ some.0, (some.1.0, ap (λ ys. x ∷ ys) some.1.1))
]

-- what is kept has no more cells than there is room for
pub kept_fits : (room : ℕ) (strokes : Vec Stroke) → cells_of (kept_within room strokes) ≤ room
kept_fits room strokes = elim (cases_Bool (nat_le (cells_in strokes.items) room)) [
  | inl fits ↦ rw fits (leb-true (cells_in strokes.items) room fits)
  | inr beyond ↦ rw beyond (omega arith)
]

-- how many drawings and cells two lists have
record AreFew (xs ys : List Drawn) : Type 0 where
  count : length xs + length ys ≤ most_drawings
  cells : cells_of_all xs + cells_of_all ys ≤ most_cells

few : (xs ys : List Drawn) → IsWithinLimits (xs ++ ys) → AreFew xs ys
few xs ys within = record { count = omega (arith, within.count, length-append xs ys); cells = omega (arith, within.cells, sum_by-append cells_of xs ys) }

within : (xs ys : List Drawn) → AreFew xs ys → IsWithinLimits (xs ++ ys)
within xs ys few = record { count = omega (arith, few.count, length-append xs ys); cells = omega (arith, few.cells, sum_by-append cells_of xs ys) }

turned : (xs ys : List Drawn) → AreFew xs ys → AreFew ys xs
turned xs ys few = record { count = omega (arith, few.count); cells = omega (arith, few.cells) }

-- a drawing with at most so many cells takes the place of the last one
put_few : (rest to : List Drawn) (last put : Drawn) → AreFew (rest ++ last ∷ []) to → cells_of put ≤ most_cells - cells_of_all (rest ++ to) → AreFew rest (to ++ put ∷ [])
put_few rest to last put few fits = record {
  count = omega (arith, few.count, length-append rest (last ∷ []), length-append to (put ∷ []));
  cells = omega (arith, few.cells, fits, sum_by-append cells_of rest (last ∷ []), sum_by-append cells_of rest to, sum_by-append cells_of to (put ∷ []));
}

moved_few : (strokes : Vec Stroke) (from new_from to new_to : List Drawn) → MovesLast strokes from new_from to new_to → AreFew from to → AreFew new_from new_to
moved_few strokes from new_from to new_to moves few = elim (last_or_none from) [
  | inl none ↦ (let stay = moves.nothing none in subst (λ xs. AreFew xs new_to) (none ∙ sym stay.0) (subst (λ ys. AreFew from ys) (sym stay.1) few))
  | inr some ↦
      let rest = some.0 in
      let last = some.1.0 in
      let put = kept_within (most_cells - cells_of_all (rest ++ to)) strokes in
      let moved : AreFew rest (to ++ put ∷ []) = put_few rest to last put (subst (λ xs. AreFew xs to) some.1.1 few) (kept_fits (most_cells - cells_of_all (rest ++ to)) strokes) in
      subst (λ xs. AreFew xs new_to) (sym (moves.gone rest last some.1.1)) (subst (λ ys. AreFew rest ys) (sym (moves.put rest last some.1.1)) moved)
]

-- both lists stay within the limits, whether memory was refused or not
pub undone_within : {A F : Type 0} (r : Result A F) (strokes : Vec Stroke) (from new_from to new_to : List Drawn)
    → OnOk r (MovesLast strokes from new_from to new_to) → OnErr r (new_from ≡ from) → OnErr r (new_to ≡ to) → IsWithinLimits (from ++ to) → IsWithinLimits (new_from ++ new_to)
undone_within (Ok x) strokes from new_from to new_to moves same_from same_to is = within new_from new_to (moved_few strokes from new_from to new_to moves (few from to is))
undone_within (Err e) strokes from new_from to new_to moves same_from same_to is = subst (λ xs. IsWithinLimits (xs ++ new_to)) (sym same_from) (subst (λ ys. IsWithinLimits (from ++ ys)) (sym same_to) is)

pub redone_within : {A F : Type 0} (r : Result A F) (strokes : Vec Stroke) (from new_from to new_to : List Drawn)
    → OnOk r (MovesLast strokes from new_from to new_to) → OnErr r (new_from ≡ from) → OnErr r (new_to ≡ to) → IsWithinLimits (to ++ from) → IsWithinLimits (new_to ++ new_from)
redone_within r strokes from new_from to new_to moves same_from same_to is =
    within new_to new_from (turned new_from new_to (few new_from new_to (undone_within r strokes from new_from to new_to moves same_from same_to (within from to (turned to from (few to from is))))))
