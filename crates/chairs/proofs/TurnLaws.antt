-- The chair whose turn comes first, among more and more of them.
use Rattle.std.proofs.Common.{◌≡◌, ◌⊎◌, ◌<◌, ◌≤◌, ◌+◌, ◌∙◌, ℕ, true, false, List, Option, Some, None, ap, refl, sym, inl, inr, length, arith, slice_get, nat_lt, if◌then◌else◌, below_more}
use Rattle.std.proofs.lemmas.Bool.Decides.{nat_tests}
use Rattle.std.proofs.lemmas.Option.{slice_get_within}
use Rattle.chairs.specs.declared.chair.Chair.{Chair}
use Rattle.chairs.specs.Turns.{NoTurnComes, HasTurn, IsNext, earlier_of, turn_of}

-- somebody sits at each of the first so many
abbrev pub NoTurnBelow : ℕ → List Chair → ℕ → Type 0
NoTurnBelow now chairs n = (at : ℕ) → at < n → (turn : ℕ) → HasTurn now chairs at turn → ⊥

abbrev NotBefore : ℕ → List Chair → ℕ → ℕ → ℕ → Type 0
NotBefore now chairs at turn other = (later : ℕ) → HasTurn now chairs other later → (turn < later) ⊎ ((turn ≡ later) × (at ≤ other))

-- its turn comes first among the first so many
pub record IsNextBelow (now : ℕ) (chairs : List Chair) (n at turn : ℕ) : Type 0 where
  pub has : HasTurn now chairs at turn
  pub below : at < n
  pub first : (other : ℕ) → other < n → (later : ℕ) → HasTurn now chairs other later → (turn < later) ⊎ ((turn ≡ later) × (at ≤ other))

-- the first of these, if there is one
abbrev pub IsFound : ℕ → List Chair → ℕ → Option (ℕ × ℕ) → Type 0
IsFound now chairs n None = NoTurnBelow now chairs n
IsFound now chairs n (Some next) = IsNextBelow now chairs n next.0 next.1

module _ (now : ℕ) (chairs : List Chair) (n : ℕ) (chair : Chair) (got : slice_get chairs n ≡ Some chair) where
  -- the chair has just its own turn
  own : (turn : ℕ) → HasTurn now chairs n turn → turn_of now chair ≡ Some turn
  own turn has = let same : chair ≡ has.0 = cc (got, has.1) in ap (turn_of now) same ∙ has.2

  -- one whose turn never comes
  found_taken : (next : Option (ℕ × ℕ)) → turn_of now chair ≡ None → IsFound now chairs n next → IsFound now chairs (n + 1) next
  found_taken None none so = below_more (λ at. (turn : ℕ) → HasTurn now chairs at turn → ⊥) n so (λ turn has. let clash : None ≡ Some turn = sym none ∙ own turn has in cc)
  found_taken (Some next) none so = record {
    has = so.has;
    below = omega (arith, so.below);
    first = below_more (NotBefore now chairs next.0 next.1) n so.first (λ later has. let clash : None ≡ Some later = sym none ∙ own later has in absurd (let no : ⊥ = cc in no));
  }

  -- the only one whose turn comes
  found_only : (turn : ℕ) → turn_of now chair ≡ Some turn → NoTurnBelow now chairs n → IsNextBelow now chairs (n + 1) n turn
  found_only turn is so = record {
    has = (chair, got, is);
    below = omega arith;
    first = below_more (NotBefore now chairs n turn) n (λ other lt later has. absurd (so other lt later has))
        (λ later has. let same : turn ≡ later = (let both : Some turn ≡ Some later = sym is ∙ own later has in cc) in inr (same, omega arith));
  }

  -- one whose turn comes before that of those in front of it
  found_before : (at least turn : ℕ) → turn_of now chair ≡ Some turn → turn < least → IsNextBelow now chairs n at least → IsNextBelow now chairs (n + 1) n turn
  found_before at least turn is lt so = record {
    has = (chair, got, is);
    below = omega arith;
    first = below_more (NotBefore now chairs n turn) n
        (λ other below later has. elim (so.first other below later has) [ inl more ↦ inl (omega (arith, lt, more)) | inr same ↦ inl (omega (arith, lt, same.0)) ])
        (λ later has. let same : turn ≡ later = (let both : Some turn ≡ Some later = sym is ∙ own later has in cc) in inr (same, omega arith));
  }

  -- one whose turn comes later
  found_after : (at least turn : ℕ) → turn_of now chair ≡ Some turn → least ≤ turn → IsNextBelow now chairs n at least → IsNextBelow now chairs (n + 1) at least
  found_after at least turn is le so = record {
    has = so.has;
    below = omega (arith, so.below);
    first = below_more (NotBefore now chairs at least) n so.first
        (λ later has. let same : turn ≡ later = (let both : Some turn ≡ Some later = sym is ∙ own later has in cc) in or_same later same);
  }
    where
      or_same : (later : ℕ) → turn ≡ later → (least < later) ⊎ ((least ≡ later) × (at ≤ n))
      or_same later same = elim (nat_lt least later) as (λ b. nat_lt least later ≡ b → (least < later) ⊎ ((least ≡ later) × (at ≤ n))) [
        | true ↦ λ e. inl (grind (arith, nat_tests, e))
        | false ↦ λ e. inr ((let eq : least ≡ later = grind (arith, nat_tests, e, le, same) in eq), omega (arith, so.below))
      ] refl

-- the earlier of what was found, and of a chair behind it
pub found_more : (now : ℕ) (chairs : List Chair) (n : ℕ) (chair : Chair) (next : Option (ℕ × ℕ)) → slice_get chairs n ≡ Some chair → IsFound now chairs n next → IsFound now chairs (n + 1) (earlier_of next n (turn_of now chair))
found_more now chairs n chair next got so = by_turn (turn_of now chair) refl next so
  where
    by_turn : (turn : Option ℕ) → turn_of now chair ≡ turn → (next : Option (ℕ × ℕ)) → IsFound now chairs n next → IsFound now chairs (n + 1) (earlier_of next n turn)
    by_turn None is next so = found_taken now chairs n chair got next is so
    by_turn (Some turn) is None so = found_only now chairs n chair got turn is so
    by_turn (Some turn) is (Some next) so =
        elim (nat_lt turn next.1) as (λ b. nat_lt turn next.1 ≡ b → IsFound now chairs (n + 1) (if b then Some (n, turn) else Some next)) [
          | true ↦ λ e. found_before now chairs n chair got next.0 next.1 turn is (grind (arith, nat_tests, e)) so
          | false ↦ λ e. found_after now chairs n chair got next.0 next.1 turn is (grind (arith, nat_tests, e)) so
        ] refl

-- among none
pub found_none : (now : ℕ) (chairs : List Chair) → IsFound now chairs 0 None
found_none now chairs = λ at lt turn has. absurd (omega (arith, lt))

-- among all
pub none_of_all : (now : ℕ) (chairs : List Chair) (n : ℕ) → length chairs ≤ n → NoTurnBelow now chairs n → NoTurnComes now chairs
none_of_all now chairs n all so = λ at turn has. so at (omega (arith, all, slice_get_within chairs at has.0 has.1)) turn has

pub next_of_all : (now : ℕ) (chairs : List Chair) (n at turn : ℕ) → length chairs ≤ n → IsNextBelow now chairs n at turn → IsNext now chairs at
next_of_all now chairs n at turn all so = record {
  turn = turn;
  has = so.has;
  first = λ other later has. so.first other (omega (arith, all, slice_get_within chairs other has.0 has.1)) later has;
}
