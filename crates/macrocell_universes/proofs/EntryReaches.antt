-- How far the live cells of the squares of entries reach.
use Rattle.std.proofs.Common.{◌≡◌, ℕ, zero, suc, ◌+◌, ◌-◌, ◌*◌, ◌^◌, ◌<◌, ◌≤◌, arith, true, List, [], ◌∷◌, ◌++◌, length, refl, sym, ap, subst, ◌∙◌, inl, inr}
use Rattle.std.specs.Prelude.{Option, Some, None, slice_get, option_map, unwrap_or, max}
use Rattle.std.proofs.lemmas.Bool.{ne_eqb}
use Rattle.std.proofs.lemmas.Option.{slice_get_past}
use Rattle.square_store.proofs.Lists.{got_more}
use Rattle.macrocell_lines.specs.Squares.{StateSquare, Cell, Four, level_of, seen_from, square_of as square_made, state_in}
use Rattle.macrocell_lines.specs.Listing.{IsSquare}
use Rattle.macrocell_lines.proofs.States.{dead_square, dead_state, level_is}
use Rattle.macrocell_lines.proofs.PairSquares.{whole_block}
use Rattle.macrocell_text.specs.declared.entry.Entry.{Entry}
use Rattle.macrocell_text.specs.declared.entry.Entry.TheVariants as entries
use Rattle.macrocell_text.specs.LiveCells.{bits_of}
use Rattle.macrocell_text.specs.Macrocells.{AreLevelled, AreSquares, are_entries, entry_level, is_entry, square_of_bits, squares_of}
use Rattle.macrocell_text.proofs.Entries.{entry_fits, entry_got}
use Rattle.macrocell_text.proofs.Levels.{level_got}
use Rattle.macrocell_text.proofs.Prefixes.{length_squares}
use Rattle.std.proofs.lemmas.Option.{get_or_from_slice_get}
use Rattle.macrocell_universes.specs.declared.quarters.Numbered.{Numbered}
use Rattle.macrocell_universes.specs.declared.quarters.Quarters.{Quarters}
use Rattle.macrocell_universes.specs.declared.reach.Reach.{Reach}
use Rattle.macrocell_universes.specs.Numbered.{AreQuarters, IsNumbered, IsQuarter, quarter_at, square_at, square_of}
use Rattle.macrocell_universes.specs.Reaches.{AreReached, Fits, HasCellAt, IsCellOf, IsFarthest, IsReach, cell_reach, joined, to_east, to_north, to_south, to_west}
use Rattle.macrocell_universes.proofs.Numbers.{got_within}
use Rattle.macrocell_universes.proofs.ReachLaws.{fits, four_reach, one_cell}
use Rattle.macrocell_universes.proofs.StatesIn.{zero_state}

abbrev pub nothing : Reach
nothing = record { state = 0; west = 0; east = 0; north = 0; south = 0 }

-- where no state is live
no_farthest : (far : (k u v : ℕ) → ℕ) (k : ℕ) (q : StateSquare) → ((u v : ℕ) → state_in q u v ≡ 0) → IsFarthest far k q 0
no_farthest far k q dead = record {
  most = λ s d live h. absurd (live (sym h.cell.is ∙ dead h.u h.v));
  has = λ some. absurd (omega (arith, some));
}

pub zero_reach : (es : List Entry) (q : Numbered) → q.number ≡ 0 → IsReach q.level (square_of es q) nothing
zero_reach es q none =
    let dead = λ (u v : ℕ). zero_state es q u v none in
    record {
      most = λ u v s x. (let e : 0 ≡ s = sym (dead u v) ∙ x.is in omega (arith, e));
      has = λ some. absurd (omega (arith, some));
      west = no_farthest to_west q.level (square_of es q) dead;
      east = no_farthest to_east q.level (square_of es q) dead;
      north = no_farthest to_north q.level (square_of es q) dead;
      south = no_farthest to_south q.level (square_of es q) dead;
    }

pub state_reach : (es : List Entry) (q : Numbered) (s : ℕ) (r : Reach) → q.level ≡ 0 → s ≡ q.number → r ≡ cell_reach s → IsReach q.level (square_of es q) r
state_reach es q s r none same is =
    subst (λ l. IsReach l (square_at es l q.number) r) (sym none) (subst (λ n. IsReach 0 (Cell n) r) same (subst (IsReach 0 (Cell s)) (sym is) (one_cell s)))

-- that of an entry's square was found
pub reach_got : (es : List Entry) (rs : List Reach) (q : Numbered) (r : Reach) → AreReached es rs → length rs ≤ length es → IsNumbered es q → 1 ≤ q.level → (q.number ≡ 0 → ⊥) → slice_get rs (q.number - 1) ≡ Some r
    → IsReach q.level (square_of es q) r
reach_got es rs q r are few is above some at = by (slice_get (squares_of es) (q.number - 1)) refl
  where
    by : (o : Option StateSquare) → slice_get (squares_of es) (q.number - 1) ≡ o → IsReach q.level (square_of es q) r
    by None g = absurd (let here = reach_within rs (q.number - 1) r at in let there = square_within (squares_of es) (q.number - 1) g in omega (arith, here, there, few, length_squares es))
      where
        reach_within : (xs : List Reach) (i : ℕ) (x : Reach) → slice_get xs i ≡ Some x → i < length xs
        reach_within [] i x e = absurd (cc)
        reach_within (y ∷ xs) zero x e = omega arith
        reach_within (y ∷ xs) (suc i) x e = let h = reach_within xs i x e in omega (arith, h)

        square_within : (xs : List StateSquare) (i : ℕ) → slice_get xs i ≡ None → length xs ≤ i
        square_within [] i e = omega arith
        square_within (y ∷ xs) zero e = absurd (cc)
        square_within (y ∷ xs) (suc i) e = let h = square_within xs i e in omega (arith, h)
    by (Some s) g =
        let above' : q.level ≡ 0 → ⊥ = λ z. omega (arith, z, above) in
        let here : square_of es q ≡ s = rw (ne_eqb q.level 0 above', ne_eqb q.number 0 some, g) refl in
        let level : level_of s ≡ q.level = ap level_of (sym here) ∙ level_is q.level (square_of es q) is.square in
        subst (λ l. IsReach l (square_of es q) r) level (subst (λ z. IsReach (level_of s) z r) (sym here) (are (q.number - 1) s r g at))

-- ---- of a square, one step deep

pub rows_reach : (es : List Entry) (q : Numbered) (rows : ℕ) (r : Reach) → q.level ≡ 3 → square_of es q ≡ square_of_bits rows → IsReach 3 (square_made 3 (seen_from 0 0 (bits_of rows))) r → IsReach q.level (square_of es q) r
rows_reach es q rows r three is reach =
    subst (λ l. IsReach l (square_of es q) r) (sym three) (subst (λ s. IsReach 3 s r) (sym is) (subst (λ s. IsReach 3 s r) (whole_block (bits_of rows)) reach))

pub quarters_reach : (es : List Entry) (q : Numbered) (four : Quarters) (side : ℕ) (ra rb rc rd r : Reach) → 1 ≤ q.level → IsNumbered es q → AreQuarters es q four → side ≡ 2 ^ (q.level - 1) → r ≡ joined side ra rb rc rd
    → IsReach (q.level - 1) (square_at es (q.level - 1) four.nw) ra → IsReach (q.level - 1) (square_at es (q.level - 1) four.ne) rb → IsReach (q.level - 1) (square_at es (q.level - 1) four.sw) rc → IsReach (q.level - 1) (square_at es (q.level - 1) four.se) rd
    → IsReach q.level (square_of es q) r
quarters_reach es q four side ra rb rc rd r above is are side_is joined_is ha hb hc hd =
    let k : ℕ = q.level - 1 in
    let up : suc k ≡ q.level = omega (arith, above) in
    let whole = subst (λ l. IsSquare l (square_of es q)) (sym up) is.square in
    let four_whole = subst (IsSquare (suc k)) are.four_is whole in
    let all = four_reach k (square_at es k four.nw) (square_at es k four.ne) (square_at es k four.sw) (square_at es k four.se) four_whole ra rb rc rd ha hb hc hd in
    let made : joined (2 ^ k) ra rb rc rd ≡ r = ap (λ n. joined n ra rb rc rd) (sym side_is) ∙ sym joined_is in
    subst (λ l. IsReach l (square_of es q) r) up (subst (λ s. IsReach (suc k) s r) (sym are.four_is) (subst (IsReach (suc k) _) made all))

pub side_fits : (k side : ℕ) (q : StateSquare) (r : Reach) → side ≡ 2 ^ k → IsReach k q r → Fits side r
side_fits k side q r is reach = subst (λ n. Fits n r) (sym is) (fits k q r reach)

-- ---- entry by entry

pub record IsEntryNumbered (es : List Entry) (e : Entry) (n : ℕ) : Type 0 where
  pub is : IsNumbered es (record { level = entry_level e; number = n })
  pub above : 1 ≤ entry_level e
  pub most : entry_level e ≤ 63

pub entry_numbered : (es : List Entry) (i : ℕ) (e : Entry) → AreSquares (squares_of es) → AreLevelled es → are_entries es ≡ true → slice_get es i ≡ Some e → IsEntryNumbered es e (i + 1)
entry_numbered es i e squares levels all at = by (slice_get (squares_of es) i) refl (level_got es i levels ∙ ap (option_map entry_level) at)
  where
    any : Entry
    any = entries.Rows 0

    few : (x : Entry) → is_entry x ≡ true → entry_level x ≤ 63
    few (entries.Rows rows) h = omega arith
    few (entries.Four level nw ne sw se) h = (entry_fits level nw ne sw se h).few

    by : (o : Option StateSquare) → slice_get (squares_of es) i ≡ o → option_map level_of o ≡ Some (entry_level e) → IsEntryNumbered es e (i + 1)
    by None g h = absurd (cc)
    by (Some s) g h =
        let level : level_of s ≡ entry_level e = ap (λ (o : Option ℕ). unwrap_or o (entry_level e)) h in
        let is = squares i s g in
        let above : 1 ≤ entry_level e = (let p = is.0 in omega (arith, p, level)) in
        let below : i + 1 - 1 ≡ i = omega arith in
        let here : square_at es (entry_level e) (i + 1) ≡ s = rw (ne_eqb (entry_level e) 0 (λ z. omega (arith, z, above)), ne_eqb (i + 1) 0 (λ z. omega (arith, z)), below, g) refl in
        record {
          is = record { square = subst (IsSquare (entry_level e)) (sym here) (subst (λ l. IsSquare l s) level is.1); state = λ z. absurd (omega (arith, z, above)) };
          above = above;
          most = few e (subst (λ x. is_entry x ≡ true) (get_or_from_slice_get es i e any at) (entry_got es i any all (got_within es i e at)));
        }

-- one more
pub reached_more : (es : List Entry) (rs : List Reach) (e : Entry) (r : Reach) → AreReached es rs → AreLevelled es → slice_get es (length rs) ≡ Some e → IsReach (entry_level e) (square_at es (entry_level e) (length rs + 1)) r → 1 ≤ entry_level e
    → AreReached es (rs ++ r ∷ [])
reached_more es rs e r are levels at new above = λ i q x here there. (elim (got_more rs r i x there) [
  | inl old ↦ are i q x here old
  | inr last ↦ (
      let n : ℕ = length rs in
      let here' : slice_get (squares_of es) n ≡ Some q = subst (λ j. slice_get (squares_of es) j ≡ Some q) last.0 here in
      let level : level_of q ≡ entry_level e = ap (λ (o : Option ℕ). unwrap_or o (entry_level e)) (ap (option_map level_of) (sym here') ∙ level_got es n levels ∙ ap (option_map entry_level) at) in
      let below : n + 1 - 1 ≡ n = omega arith in
      let same : square_at es (entry_level e) (n + 1) ≡ q = rw (ne_eqb (entry_level e) 0 (λ z. omega (arith, z, above)), ne_eqb (n + 1) 0 (λ z. omega (arith, z)), below, here') refl in
      subst (IsReach (level_of q) q) (sym last.1) (subst (λ l. IsReach l q r) (sym level) (subst (λ s. IsReach (entry_level e) s r) same new)))
])

-- what is known of a quarter's, by those of the entries before
pub quarter_reached : (es : List Entry) (rs : List Reach) (q x : Numbered) (n : ℕ) (r : Reach) → x ≡ quarter_at q.level n → IsQuarter es q n → AreReached es rs → length rs ≤ length es → q.number ≤ length rs + 1 → 1 ≤ q.level
    → ((ys : List Entry) → AreReached ys rs → length rs ≤ length ys → IsNumbered ys x → (1 ≤ x.level → x.number ≤ length rs) → IsReach x.level (square_of ys x) r)
    → IsReach (q.level - 1) (square_at es (q.level - 1) n) r
quarter_reached es rs q x n r e quarter are few count above reach =
    subst (λ (y : Numbered). IsReach y.level (square_of es y) r) e
    (reach es are few (subst (λ (y : Numbered). IsNumbered es y) (sym e) quarter.is) (subst (λ (y : Numbered). 1 ≤ y.level → y.number ≤ length rs) (sym e) (λ some. let low = quarter.before (omega (arith, some)) in omega (arith, low, count))))
