-- Squares that stand in a list, and what a walk leaves as it is.
use Rattle.std.proofs.Common.{◌≡◌, suc, Bool, true, false, List, [], ◌∷◌, ◌++◌, refl, sym, ap, ◌∙◌, inl, inr, append_assoc, append-nil}
use Rattle.std.specs.Prelude.{if◌then◌else◌}
use Rattle.std.proofs.lemmas.Bool.{eqb-true}
use Rattle.macrocell_lines.specs.declared.line.Line.TheVariants as lines
use Rattle.macrocell_lines.specs.Squares.{StateSquare, Cell, Four, is_dead, is_listed, is_same, is_told_by_states, level_of, listed_with, number_of, walk}
use Rattle.macrocell_lines.specs.Lines.{line_of, states_of}
use Rattle.macrocell_lines.specs.Listing.{AreStanding, IsPlaced, IsStanding}
use Rattle.macrocell_lines.proofs.Same.{same_place, square_same, still_listed}

pub if_true : {A : Type 0} (b : Bool) (x y : A) → b ≡ true → (if b then x else y) ≡ x
if_true true x y h = refl
if_true false x y h = absurd (cc)

pub if_false : {A : Type 0} (b : Bool) (x y : A) → b ≡ false → (if b then x else y) ≡ y
if_false true x y h = absurd (cc)
if_false false x y h = refl

pub if_same : {A : Type 0} (b : Bool) (x : A) → (if b then x else x) ≡ x
if_same true x = refl
if_same false x = refl

-- ---- in a longer list

module _ (squares more : List StateSquare) where
  pub standing_more : (q : StateSquare) → IsStanding squares q → IsStanding (squares ++ more) q
  standing_more (Cell s) h = tt
  standing_more (Four a b c d) h = elim h [
    | inl dead ↦ inl dead
    | inr listed ↦ inr (still_listed is_same square_same squares more (Four a b c d) listed)
  ]

  pub number_more : (q : StateSquare) → IsStanding squares q → number_of (squares ++ more) q ≡ number_of squares q
  number_more (Cell s) h = refl
  number_more (Four a b c d) h = elim h [
    | inl dead ↦ if_true (is_dead (Four a b c d)) 0 _ dead ∙ sym (if_true (is_dead (Four a b c d)) 0 _ dead)
    | inr listed ↦ ap (λ n. if is_dead (Four a b c d) then 0 else suc n) (same_place is_same square_same squares more (Four a b c d) listed)
  ]

  pub four_more : (q : StateSquare) → AreStanding squares q → AreStanding (squares ++ more) q
  four_more (Cell s) h = tt
  four_more (Four a b c d) h = (standing_more a h.0, (standing_more b h.1.0, (standing_more c h.1.1.0, standing_more d h.1.1.1)))

  pub placed_more : (of_two : Bool) (q : StateSquare) → IsPlaced of_two squares q → IsPlaced of_two (squares ++ more) q
  placed_more of_two q h = record { above = h.above; level = h.level; live = h.live; quarters = λ told. four_more q (h.quarters told) }

  -- the line of what is placed is the same
  pub line_more : (of_two : Bool) (q : StateSquare) → IsPlaced of_two squares q → line_of of_two (squares ++ more) q ≡ line_of of_two squares q
  line_more of_two (Cell s) h = refl
  line_more of_two (Four a b c d) h = go (is_told_by_states of_two (Four a b c d)) refl
    where
      go : (t : Bool) → is_told_by_states of_two (Four a b c d) ≡ t → line_of of_two (squares ++ more) (Four a b c d) ≡ line_of of_two squares (Four a b c d)
      go true e = if_true (is_told_by_states of_two (Four a b c d)) _ _ e ∙ sym (if_true (is_told_by_states of_two (Four a b c d)) _ _ e)
      go false e =
          let four = h.quarters e in
          let na = number_more a four.0 in
          let nb = number_more b four.1.0 in
          let nc = number_more c four.1.1.0 in
          let nd = number_more d four.1.1.1 in
          λ i. if is_told_by_states of_two (Four a b c d) then lines.Leaf (states_of (Four a b c d)) else lines.Four (suc (level_of a)) (na i) (nb i) (nc i) (nd i)

-- ---- what a walk does

pub record IsGrown (old new : List StateSquare) : Type 0 where
  pub more : List StateSquare
  pub is : new ≡ old ++ more

not_grown : (l : List StateSquare) → IsGrown l l
not_grown l = record { more = []; is = sym (append-nil l) }

pub grown_on : (a b c : List StateSquare) → IsGrown a b → IsGrown b c → IsGrown a c
grown_on a b c h i = record { more = h.more ++ i.more; is = i.is ∙ ap (λ (l : List StateSquare). l ++ i.more) h.is ∙ append_assoc a h.more i.more }

grown_if : (b : Bool) (l m n : List StateSquare) → IsGrown l m → IsGrown l n → IsGrown l (if b then m else n)
grown_if true l m n h i = h
grown_if false l m n h i = i

pub grown_with : (l : List StateSquare) (q : StateSquare) → IsGrown l (listed_with l q)
grown_with l q = grown_if (is_listed l q) l l (l ++ q ∷ []) (not_grown l) (record { more = q ∷ []; is = refl })

-- a walk puts squares behind those that are listed
pub walk_grows : (of_two : Bool) (q : StateSquare) (squares : List StateSquare) → IsGrown squares (walk of_two q squares)
unfolding walk
walk_grows of_two (Cell s) squares = not_grown squares
walk_grows of_two (Four a b c d) squares =
    let l1 = walk of_two a squares in
    let l2 = walk of_two b l1 in
    let l3 = walk of_two c l2 in
    let l4 = walk of_two d l3 in
    let t = is_told_by_states of_two (Four a b c d) in
    let l5 = if t then squares else l4 in
    grown_if (is_dead (Four a b c d)) squares squares (listed_with l5 (Four a b c d)) (not_grown squares)
    (grown_on squares l5 (listed_with l5 (Four a b c d))
    (grown_if t squares squares l4 (not_grown squares) (grown_on squares l3 l4 (grown_on squares l2 l3 (grown_on squares l1 l2 (walk_grows of_two a squares) (walk_grows of_two b l1)) (walk_grows of_two c l2)) (walk_grows of_two d l3)))
    (grown_with l5 (Four a b c d)))

-- nothing is listed of a square that has no state but 0
pub walk_dead : (of_two : Bool) (q : StateSquare) (squares : List StateSquare) → is_dead q ≡ true → walk of_two q squares ≡ squares
unfolding walk
walk_dead of_two (Cell s) squares h = refl
walk_dead of_two (Four a b c d) squares h = if_true (is_dead (Four a b c d)) squares _ h

pub number_dead : (q : StateSquare) (squares : List StateSquare) → is_dead q ≡ true → number_of squares q ≡ 0
number_dead (Cell s) squares h = eqb-true s 0 h
number_dead (Four a b c d) squares h = if_true (is_dead (Four a b c d)) 0 _ h

pub dead_stands : (q : StateSquare) (squares : List StateSquare) → is_dead q ≡ true → IsStanding squares q
dead_stands (Cell s) squares h = tt
dead_stands (Four a b c d) squares h = inl h

-- the quarters of a square leave a list as it is, where each does, or they are not walked over
inner_same : (of_two : Bool) (squares : List StateSquare) (a b c d : StateSquare) (t : Bool)
    → (t ≡ false → walk of_two a squares ≡ squares) → (t ≡ false → walk of_two b squares ≡ squares) → (t ≡ false → walk of_two c squares ≡ squares) → (t ≡ false → walk of_two d squares ≡ squares)
    → (if t then squares else walk of_two d (walk of_two c (walk of_two b (walk of_two a squares)))) ≡ squares
inner_same of_two squares a b c d true wa wb wc wd = refl
inner_same of_two squares a b c d false wa wb wc wd =
    ap (λ l. walk of_two d (walk of_two c (walk of_two b l))) (wa refl)
    ∙ ap (λ l. walk of_two d (walk of_two c l)) (wb refl)
    ∙ ap (λ l. walk of_two d l) (wc refl)
    ∙ wd refl

-- a walk over what stands leaves a list as it is, where the squares in it are placed
pub walk_standing : (of_two : Bool) (squares : List StateSquare) → ((p : StateSquare) → is_listed squares p ≡ true → IsPlaced of_two squares p) → (q : StateSquare) → IsStanding squares q → walk of_two q squares ≡ squares
unfolding walk
walk_standing of_two squares placed (Cell s) h = refl
walk_standing of_two squares placed (Four a b c d) h = elim h [
  | inl dead ↦ if_true (is_dead (Four a b c d)) squares _ dead
  | inr listed ↦ (let p = placed (Four a b c d) listed in
      if_false (is_dead (Four a b c d)) squares _ p.live
      ∙ ap (λ l. listed_with l (Four a b c d)) (inner_same of_two squares a b c d (is_told_by_states of_two (Four a b c d))
      (λ e. walk_standing of_two squares placed a (p.quarters e).0)
      (λ e. walk_standing of_two squares placed b (p.quarters e).1.0)
      (λ e. walk_standing of_two squares placed c (p.quarters e).1.1.0)
      (λ e. walk_standing of_two squares placed d (p.quarters e).1.1.1))
      ∙ if_true (is_listed squares (Four a b c d)) squares _ listed)
]
