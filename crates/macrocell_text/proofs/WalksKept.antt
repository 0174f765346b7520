-- What a walk over a square keeps of a list: what holds with each square more that it lists.
use Rattle.std.proofs.Common.{◌≡◌, ℕ, zero, suc, ◌+◌, ◌-◌, ◌^◌, ◌<◌, ◌≤◌, Bool, true, false, List, [], ◌∷◌, ◌++◌, refl, sym, ◌∙◌, arith, subst, inl, inr}
use Rattle.std.specs.Prelude.{◌==◌, ◌&&◌, if◌then◌else◌, nat_lt}
use Rattle.std.proofs.lemmas.Bool.{eq-eqb}
use Rattle.macrocell_lines.specs.Squares.{StateSquare, Cell, Four, is_dead, is_listed, is_told_by_states, level_of, listed_with, square_of, seen_from, state_in, walk}
use Rattle.macrocell_lines.specs.Listing.{AreStanding, IsPlaced, IsSquare, IsStanding}
use Rattle.macrocell_lines.proofs.Standing.{IsGrown, grown_on, if_false, if_true, standing_more, walk_grows}
use Rattle.macrocell_lines.proofs.States.{level_is}
use Rattle.macrocell_lines.proofs.Steps.{put_listed, put_placed}

-- ---- states

-- each state of a square is below a number
abbrev pub HasStates : ℕ → StateSquare → Type 0
HasStates n (Cell s) = s < n
HasStates n (Four a b c d) = HasStates n a × (HasStates n b × (HasStates n c × HasStates n d))

pub states_below : (n k : ℕ) (f : ℕ → ℕ → ℕ) → ((u v : ℕ) → f u v < n) → HasStates n (square_of k f)
unfolding square_of
states_below n zero f h = h 0 0
states_below n (suc k) f h = (
  states_below n k f h,
  (
    states_below n k (seen_from (2 ^ k) 0 f) (λ u v. h (2 ^ k + u) (0 + v)),
    (states_below n k (seen_from 0 (2 ^ k) f) (λ u v. h (0 + u) (2 ^ k + v)), states_below n k (seen_from (2 ^ k) (2 ^ k) f) (λ u v. h (2 ^ k + u) (2 ^ k + v))),
  ),
)

pub state_below : (n : ℕ) (q : StateSquare) → HasStates n q → (u v : ℕ) → state_in q u v < n
state_below n (Cell s) h u v = h
state_below n (Four a b c d) h u v = go (2 ^ level_of a) (state_below n a h.0) (state_below n b h.1.0) (state_below n c h.1.1.0) (state_below n d h.1.1.1)
  where
    go : (m : ℕ) → ((u v : ℕ) → state_in a u v < n) → ((u v : ℕ) → state_in b u v < n) → ((u v : ℕ) → state_in c u v < n) → ((u v : ℕ) → state_in d u v < n)
        → (if nat_lt v m then (if nat_lt u m then state_in a u v else state_in b (u - m) v) else (if nat_lt u m then state_in c u (v - m) else state_in d (u - m) (v - m))) < n
    go m ha hb hc hd = by (nat_lt v m) (nat_lt u m)
      where
        by : (s t : Bool) → (if s then (if t then state_in a u v else state_in b (u - m) v) else (if t then state_in c u (v - m) else state_in d (u - m) (v - m))) < n
        by true true = ha u v
        by true false = hb (u - m) v
        by false true = hc u (v - m)
        by false false = hd (u - m) (v - m)

-- ---- walks

-- each square that is listed may stand there
abbrev pub ArePlaced : Bool → List StateSquare → Type 0
ArePlaced of_two l = (p : StateSquare) → is_listed l p ≡ true → IsPlaced of_two l p

-- a square that a walk lists: its level, and its states
pub record IsInWalk (of_two : Bool) (top n : ℕ) (q : StateSquare) : Type 0 where
  pub high : level_of q ≤ top
  pub low : of_two ≡ true → 3 ≤ level_of q
  pub states : HasStates n q

-- a list behind a walk over a square
pub record IsKept (of_two : Bool) (P : List StateSquare → Type 0) (q : StateSquare) (l : List StateSquare) : Type 0 where
  pub placed : ArePlaced of_two l
  pub kept : P l
  pub standing : IsStanding l q

standing_on : (old new : List StateSquare) (q : StateSquare) → IsGrown old new → IsStanding old q → IsStanding new q
standing_on old new q grown is = subst (λ l. IsStanding l q) (sym grown.is) (standing_more old grown.more q is)

pub apart : (b : Bool) → b ≡ true → b ≡ false → ⊥
apart true e f = cc
apart false e f = cc

pub not_told : (b t : Bool) → b ≡ true → (b && t) ≡ false → t ≡ false
not_told true t two e = e
not_told false t two e = absurd (cc)

-- of two states, the quarters of a square that is not told by its states are of level 3 at least
quarters_low : (of_two : Bool) (k : ℕ) (a b c d : StateSquare) → IsSquare (suc k) (Four a b c d) → is_told_by_states of_two (Four a b c d) ≡ false → (of_two ≡ true → 3 ≤ suc k) → of_two ≡ true → 3 ≤ k
quarters_low of_two k a b c d is told low two =
    let other : suc k ≡ 3 → ⊥ = λ e. apart (level_of (Four a b c d) == 3) (eq-eqb (level_of (Four a b c d)) 3 (level_is (suc k) (Four a b c d) is ∙ e)) (not_told of_two (level_of (Four a b c d) == 3) two told) in
    let least = low two in
    omega (arith, least, other)

module _ (of_two : Bool) (top n : ℕ) (P : List StateSquare → Type 0)
    (one_more : (l : List StateSquare) (q : StateSquare) → P l → ArePlaced of_two l → IsPlaced of_two l q → IsInWalk of_two top n q → P (l ++ q ∷ [])) where
  -- a square that may stand there is listed
  put_kept : (l : List StateSquare) (a b c d : StateSquare) → P l → ArePlaced of_two l → IsPlaced of_two l (Four a b c d) → IsInWalk of_two top n (Four a b c d) → IsKept of_two P (Four a b c d) (listed_with l (Four a b c d))
  put_kept l a b c d kept placed may is = record {
    placed = put_placed of_two l _ refl placed (Four a b c d) may;
    kept = by (is_listed l (Four a b c d));
    standing = inr (put_listed of_two l _ refl placed (Four a b c d) may);
  }
    where
      by : (there : Bool) → P (if there then l else l ++ Four a b c d ∷ [])
      by true = kept
      by false = one_more l (Four a b c d) kept placed may is

  -- its quarters stand where it is not told by its states
  inner_kept : (l m : List StateSquare) (a b c d : StateSquare) (k : ℕ) (told : Bool) → is_told_by_states of_two (Four a b c d) ≡ told → IsSquare (suc k) (Four a b c d) → is_dead (Four a b c d) ≡ false →
      IsInWalk of_two top n (Four a b c d) → ArePlaced of_two l → P l →
      (told ≡ false → ArePlaced of_two m × (P m × AreStanding m (Four a b c d))) → IsKept of_two P (Four a b c d) (listed_with (if told then l else m) (Four a b c d))
  inner_kept l m a b c d k true e is live in_walk placed kept inner =
      put_kept l a b c d kept placed (record { above = k; level = is; live = live; quarters = λ other. absurd (let h = sym e ∙ other in cc) }) in_walk
  inner_kept l m a b c d k false e is live in_walk placed kept inner =
      let i = inner refl in
      put_kept m a b c d i.1.0 i.0 (record { above = k; level = is; live = live; quarters = λ _. i.1.1 }) in_walk

  -- a square is walked over, whose quarters are where it is not told by its states
  four_kept : (k : ℕ) (a b c d : StateSquare) → IsSquare (suc k) (Four a b c d) → IsInWalk of_two top n (Four a b c d) →
      ((l : List StateSquare) → is_told_by_states of_two (Four a b c d) ≡ false → ArePlaced of_two l → P l → IsKept of_two P a (walk of_two a l)) →
      ((l : List StateSquare) → is_told_by_states of_two (Four a b c d) ≡ false → ArePlaced of_two l → P l → IsKept of_two P b (walk of_two b l)) →
      ((l : List StateSquare) → is_told_by_states of_two (Four a b c d) ≡ false → ArePlaced of_two l → P l → IsKept of_two P c (walk of_two c l)) →
      ((l : List StateSquare) → is_told_by_states of_two (Four a b c d) ≡ false → ArePlaced of_two l → P l → IsKept of_two P d (walk of_two d l)) →
      (l : List StateSquare) → ArePlaced of_two l → P l → IsKept of_two P (Four a b c d) (walk of_two (Four a b c d) l)
  unfolding walk
  four_kept k a b c d is in_walk wa wb wc wd l placed kept = by (is_dead (Four a b c d)) refl
    where
      inner : is_told_by_states of_two (Four a b c d) ≡ false → ArePlaced of_two (walk of_two d (walk of_two c (walk of_two b (walk of_two a l)))) × (P (walk of_two d (walk of_two c (walk of_two b (walk of_two a l)))) × AreStanding (walk of_two d (walk of_two c (walk of_two b (walk of_two a l)))) (Four a b c d))
      inner told =
          let m1 = walk of_two a l in
          let m2 = walk of_two b m1 in
          let m3 = walk of_two c m2 in
          let m4 = walk of_two d m3 in
          let i1 = wa l told placed kept in
          let i2 = wb m1 told i1.placed i1.kept in
          let i3 = wc m2 told i2.placed i2.kept in
          let i4 = wd m3 told i3.placed i3.kept in
          let g4 = walk_grows of_two d m3 in
          let g3 = grown_on m2 m3 m4 (walk_grows of_two c m2) g4 in
          let g2 = grown_on m1 m2 m4 (walk_grows of_two b m1) g3 in
          (i4.placed, (i4.kept, (standing_on m1 m4 a g2 i1.standing, (standing_on m2 m4 b g3 i2.standing, (standing_on m3 m4 c g4 i3.standing, i4.standing)))))

      by : (dead : Bool) → is_dead (Four a b c d) ≡ dead → IsKept of_two P (Four a b c d) (walk of_two (Four a b c d) l)
      by true e = subst (λ z. IsKept of_two P (Four a b c d) z) (sym (if_true (is_dead (Four a b c d)) l _ e)) (record { placed = placed; kept = kept; standing = inl e })
      by false e = subst (λ z. IsKept of_two P (Four a b c d) z) (sym (if_false (is_dead (Four a b c d)) l _ e))
          (inner_kept l (walk of_two d (walk of_two c (walk of_two b (walk of_two a l)))) a b c d k (is_told_by_states of_two (Four a b c d)) refl is e in_walk placed kept inner)

  -- what holds with each square more that may stand there holds behind a walk
  pub walk_kept : (k : ℕ) (q : StateSquare) → IsSquare k q → k ≤ top → (of_two ≡ true → 3 ≤ k) → HasStates n q → (l : List StateSquare) → ArePlaced of_two l → P l → IsKept of_two P q (walk of_two q l)
  unfolding walk
  walk_kept zero (Cell s) is high low states l placed kept = record { placed = placed; kept = kept; standing = tt }
  walk_kept zero (Four a b c d) is high low states l placed kept = absurd is
  walk_kept (suc k) (Cell s) is high low states l placed kept = absurd is
  walk_kept (suc k) (Four a b c d) is high low states l placed kept =
      let level = level_is (suc k) (Four a b c d) is in
      four_kept k a b c d is (record { high = omega (arith, level, high); low = λ two. let h = low two in omega (arith, level, h); states = states })
      (λ l told placed kept. walk_kept k a is.0 (omega (arith, high)) (quarters_low of_two k a b c d is told low) states.0 l placed kept)
      (λ l told placed kept. walk_kept k b is.1.0 (omega (arith, high)) (quarters_low of_two k a b c d is told low) states.1.0 l placed kept)
      (λ l told placed kept. walk_kept k c is.1.1.0 (omega (arith, high)) (quarters_low of_two k a b c d is told low) states.1.1.0 l placed kept)
      (λ l told placed kept. walk_kept k d is.1.1.1 (omega (arith, high)) (quarters_low of_two k a b c d is told low) states.1.1.1 l placed kept)
      l placed kept
