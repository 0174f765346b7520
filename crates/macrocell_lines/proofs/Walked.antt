-- Squares that are walked over, one after another and put together.
use Rattle.std.proofs.Common.{◌≡◌, ℕ, suc, Bool, true, false, List, [], append-nil, refl, sym, ap, subst, ◌∙◌, Some, ◌⊎◌, inl, inr}
use Rattle.std.specs.Prelude.{if◌then◌else◌, Result, Ok, Err, IfOk, OnOk}
use Rattle.std.proofs.lemmas.Bool.{and_parts}
use Rattle.indexmap.specs.IndexMap.{get}
use Rattle.macrocell_lines.specs.declared.line.Line.{Line}
use Rattle.macrocell_lines.specs.declared.line.Line.TheVariants as lines
use Rattle.macrocell_lines.specs.declared.lines.Pair.{Pair}
use Rattle.macrocell_lines.specs.declared.lines.Lines.{Lines}
use Rattle.macrocell_lines.specs.Squares.{StateSquare, Cell, Four, is_dead, is_told_by_states, level_of, listed_with, walk}
use Rattle.macrocell_lines.specs.Lines.{line_of}
use Rattle.macrocell_lines.specs.Listing.{IsListing, IsNumber, IsPlaced, IsSquare, IsStanding, IsWalked, is_dead_line, is_pair, line_number, lines_with}
use Rattle.macrocell_lines.proofs.Standing.{IsGrown, dead_stands, grown_on, grown_with, if_false, if_true, number_dead, number_more, standing_more, walk_dead, walk_grows, walk_standing}
use Rattle.macrocell_lines.proofs.States.{level_is}
use Rattle.macrocell_lines.proofs.Steps.{line_dead, put_lines, put_listed, put_number, put_placed}

-- a line was put
pub record IsPut (old new : Lines) (line : Line) (n : ℕ) : Type 0 where
  pub number : n ≡ line_number old.lines.keys line
  pub lines : new.lines.keys ≡ lines_with old.lines.keys line
  pub numbers : new.numbers ≡ old.numbers

pub later_number : (old new : List StateSquare) (n : ℕ) (q : StateSquare) → IsGrown old new → IsNumber old n q → IsNumber new n q
later_number old new n q grown is = subst (λ l. IsNumber l n q) (sym grown.is) (record {
  standing = standing_more old grown.more q is.standing;
  number = is.number ∙ sym (number_more old grown.more q is.standing);
})

-- one that is told by a line of its own, without its quarters or behind them
pub put_walked : (of_two : Bool) (meaning : Pair → StateSquare) (old new : Lines) (squares l : List StateSquare) (a b c d : StateSquare) (k n : ℕ) (line : Line)
    → IsListing of_two meaning old l → IsGrown squares l → IsSquare k a → IsSquare k b → IsSquare k c → IsSquare k d
    → (is_told_by_states of_two (Four a b c d) ≡ false → IsStanding l a) → (is_told_by_states of_two (Four a b c d) ≡ false → IsStanding l b)
    → (is_told_by_states of_two (Four a b c d) ≡ false → IsStanding l c) → (is_told_by_states of_two (Four a b c d) ≡ false → IsStanding l d)
    → line ≡ line_of of_two l (Four a b c d) → IsPut old new line n
    → (is_dead (Four a b c d) ≡ true → l ≡ squares)
    → walk of_two (Four a b c d) squares ≡ (if is_dead (Four a b c d) then squares else listed_with l (Four a b c d))
    → IsListing of_two meaning new (walk of_two (Four a b c d) squares) × IsNumber (walk of_two (Four a b c d) squares) n (Four a b c d)
put_walked of_two meaning old new squares l a b c d k n line is grown ha hb hc hd sa sb sc sd e put empty w = go (is_dead (Four a b c d)) refl
  where
    q : StateSquare
    q = Four a b c d

    Result : List StateSquare → Type 0
    Result z = IsListing of_two meaning new z × IsNumber z n (Four a b c d)

    dead_is : is_dead_line line ≡ is_dead (Four a b c d)
    dead_is = ap is_dead_line e ∙ line_dead of_two l k (Four a b c d) (ha, (hb, (hc, hd)))

    go : (t : Bool) → is_dead (Four a b c d) ≡ t → IsListing of_two meaning new (walk of_two (Four a b c d) squares) × IsNumber (walk of_two (Four a b c d) squares) n (Four a b c d)
    go true dead =
        let same : new.lines.keys ≡ old.lines.keys = put.lines ∙ if_true (is_dead_line line) _ _ (dead_is ∙ dead) in
        let all : IsListing of_two meaning new l × IsNumber l n (Four a b c d) = (
          record { lines = same ∙ is.lines; placed = is.placed; noted = λ key m found. is.noted key m (ap (λ s. get is_pair s key) (sym put.numbers) ∙ found) },
          record { standing = inl dead; number = put.number ∙ if_true (is_dead_line line) 0 _ (dead_is ∙ dead) ∙ sym (number_dead (Four a b c d) l dead) },
        ) in
        subst (λ z. IsListing of_two meaning new z × IsNumber z n (Four a b c d)) (empty dead ∙ sym (if_true (is_dead (Four a b c d)) squares _ dead) ∙ sym w) all
    go false alive =
        let may : IsPlaced of_two l (Four a b c d) = record { above = k; level = (ha, (hb, (hc, hd))); live = alive; quarters = λ told. (sa told, (sb told, (sc told, sd told))) } in
        let after = grown_with l (Four a b c d) in
        let all : IsListing of_two meaning new (listed_with l (Four a b c d)) × IsNumber (listed_with l (Four a b c d)) n (Four a b c d) = (
          record {
            lines = put.lines ∙ ap (lines_with old.lines.keys) e ∙ put_lines of_two l old.lines.keys is.lines is.placed (Four a b c d) may;
            placed = put_placed of_two l old.lines.keys is.lines is.placed (Four a b c d) may;
            noted = λ key m found. later_number l (listed_with l (Four a b c d)) m (meaning key) after (is.noted key m (ap (λ s. get is_pair s key) (sym put.numbers) ∙ found));
          },
          record {
            standing = inr (put_listed of_two l old.lines.keys is.lines is.placed (Four a b c d) may);
            number = put.number ∙ ap (line_number old.lines.keys) e ∙ put_number of_two l old.lines.keys is.lines is.placed (Four a b c d) may;
          },
        ) in
        subst (λ z. IsListing of_two meaning new z × IsNumber z n (Four a b c d)) (sym (if_false (is_dead (Four a b c d)) squares _ alive) ∙ sym w) all

-- a square of four that were walked over one after another
pub four_walked : (of_two : Bool) (meaning : Pair → StateSquare) (s0 s1 s2 s3 s4 s5 : Lines) (k level na nb nc nd n : ℕ) (a b c d : StateSquare)
    → IsSquare k a → IsSquare k b → IsSquare k c → IsSquare k d → is_told_by_states of_two (Four a b c d) ≡ false → level ≡ suc k
    → IsWalked of_two meaning s0 s1 a na → IsWalked of_two meaning s1 s2 b nb → IsWalked of_two meaning s2 s3 c nc → IsWalked of_two meaning s3 s4 d nd
    → IsPut s4 s5 (lines.Four level na nb nc nd) n → IsWalked of_two meaning s0 s5 (Four a b c d) n
unfolding walk
four_walked of_two meaning s0 s1 s2 s3 s4 s5 k level na nb nc nd n a b c d ha hb hc hd told up wa wb wc wd put = record {
  listing = λ squares is. (both squares is).0;
  number = λ squares is. (both squares is).1;
}
  where
    both : (squares : List StateSquare) → IsListing of_two meaning s0 squares → IsListing of_two meaning s5 (walk of_two (Four a b c d) squares) × IsNumber (walk of_two (Four a b c d) squares) n (Four a b c d)
    both squares is =
        let l1 = walk of_two a squares in
        let l2 = walk of_two b l1 in
        let l3 = walk of_two c l2 in
        let l4 = walk of_two d l3 in
        let i1 = wa.listing squares is in
        let i2 = wb.listing l1 i1 in
        let i3 = wc.listing l2 i2 in
        let i4 = wd.listing l3 i3 in
        let g4 = walk_grows of_two d l3 in
        let g34 = grown_on l2 l3 l4 (walk_grows of_two c l2) g4 in
        let g234 = grown_on l1 l2 l4 (walk_grows of_two b l1) g34 in
        let grown = grown_on squares l1 l4 (walk_grows of_two a squares) g234 in
        let ma = later_number l1 l4 na a g234 (wa.number squares is) in
        let mb = later_number l2 l4 nb b g34 (wb.number l1 i1) in
        let mc = later_number l3 l4 nc c g4 (wc.number l2 i2) in
        let md = wd.number l3 i3 in
        let high : level ≡ suc (level_of a) = up ∙ ap suc (sym (level_is k a ha)) in
        let na' = ma.number in let nb' = mb.number in let nc' = mc.number in let nd' = md.number in
        let line : lines.Four level na nb nc nd ≡ line_of of_two l4 (Four a b c d)
        = (λ i. lines.Four (high i) (na' i) (nb' i) (nc' i) (nd' i)) ∙ sym (if_false (is_told_by_states of_two (Four a b c d)) _ _ told) in
        put_walked of_two meaning s4 s5 squares l4 a b c d k n (lines.Four level na nb nc nd) i4 grown ha hb hc hd
        (λ _. ma.standing) (λ _. mb.standing) (λ _. mc.standing) (λ _. md.standing) line put
        (λ dead. let x = and_parts (is_dead a) _ dead in let y = and_parts (is_dead b) _ x.1 in let z = and_parts (is_dead c) (is_dead d) y.1 in
        ap (λ l. walk of_two d (walk of_two c (walk of_two b l))) (walk_dead of_two a squares x.0)
        ∙ ap (λ l. walk of_two d (walk of_two c l)) (walk_dead of_two b squares y.0)
        ∙ ap (λ l. walk of_two d l) (walk_dead of_two c squares z.0)
        ∙ walk_dead of_two d squares z.1)
        (ap (λ l. if is_dead (Four a b c d) then squares else listed_with l (Four a b c d)) (if_false (is_told_by_states of_two (Four a b c d)) squares l4 told))

-- a square that is told by its states
pub told_walked : (of_two : Bool) (meaning : Pair → StateSquare) (old new : Lines) (k n : ℕ) (a b c d : StateSquare) (line : Line)
    → IsSquare k a → IsSquare k b → IsSquare k c → IsSquare k d → is_told_by_states of_two (Four a b c d) ≡ true
    → ((l : List StateSquare) → line ≡ line_of of_two l (Four a b c d)) → IsPut old new line n → IsWalked of_two meaning old new (Four a b c d) n
unfolding walk
told_walked of_two meaning old new k n a b c d line ha hb hc hd told e put = record {
  listing = λ squares is. (both squares is).0;
  number = λ squares is. (both squares is).1;
}
  where
    never : is_told_by_states of_two (Four a b c d) ≡ false → ⊥
    never z = cc

    both : (squares : List StateSquare) → IsListing of_two meaning old squares → IsListing of_two meaning new (walk of_two (Four a b c d) squares) × IsNumber (walk of_two (Four a b c d) squares) n (Four a b c d)
    both squares is =
        put_walked of_two meaning old new squares squares a b c d k n line is (record { more = []; is = sym (append-nil squares) }) ha hb hc hd
        (λ z. absurd (never z)) (λ z. absurd (never z)) (λ z. absurd (never z)) (λ z. absurd (never z)) (e squares) put (λ _. refl)
        (ap (λ l. if is_dead (Four a b c d) then squares else listed_with l (Four a b c d)) (if_true (is_told_by_states of_two (Four a b c d)) squares _ told))

-- a cell
pub cell_walked : (of_two : Bool) (meaning : Pair → StateSquare) (s : Lines) (state n : ℕ) → n ≡ state → IsWalked of_two meaning s s (Cell state) n
unfolding walk
cell_walked of_two meaning s state n e = record { listing = λ squares is. is; number = λ squares is. record { standing = tt; number = e } }

-- a square of states that are all 0
pub dead_walked : (of_two : Bool) (meaning : Pair → StateSquare) (s : Lines) (q : StateSquare) → is_dead q ≡ true → IsWalked of_two meaning s s q 0
dead_walked of_two meaning s q dead = record {
  listing = λ squares is. subst (λ l. IsListing of_two meaning s l) (sym (walk_dead of_two q squares dead)) is;
  number = λ squares is. record { standing = dead_stands q (walk of_two q squares) dead; number = sym (number_dead q (walk of_two q squares) dead) };
}

-- a square of a pair that was noted
pub noted_walked : (of_two : Bool) (meaning : Pair → StateSquare) (s : Lines) (key : Pair) (n : ℕ) → get is_pair s.numbers key ≡ Some n → IsWalked of_two meaning s s (meaning key) n
noted_walked of_two meaning s key n found = record {
  listing = λ squares is. subst (λ l. IsListing of_two meaning s l) (sym (same squares is)) is;
  number = λ squares is. subst (λ l. IsNumber l n (meaning key)) (sym (same squares is)) (is.noted key n found);
}
  where
    same : (squares : List StateSquare) → IsListing of_two meaning s squares → walk of_two (meaning key) squares ≡ squares
    same squares is = walk_standing of_two squares is.placed (meaning key) (is.noted key n found).standing

-- a pair is noted
pub then_noted : (of_two : Bool) (meaning : Pair → StateSquare) (s0 s1 s2 : Lines) (key : Pair) (n : ℕ) → IsWalked of_two meaning s0 s1 (meaning key) n → s2.lines ≡ s1.lines
    → ((other : Pair) (m : ℕ) → get is_pair s2.numbers other ≡ Some m → (get is_pair s1.numbers other ≡ Some m) ⊎ ((key ≡ other) × (m ≡ n))) → IsWalked of_two meaning s0 s2 (meaning key) n
then_noted of_two meaning s0 s1 s2 key n w same found = record {
  listing = λ squares is.
      (let i = w.listing squares is in
      record {
        lines = ap (λ l. l.keys) same ∙ i.lines;
        placed = i.placed;
        noted = λ other m at. elim (found other m at) [
          | inl before ↦ i.noted other m before
          | inr now ↦ subst (λ z. IsNumber (walk of_two (meaning key) squares) m (meaning z)) now.0 (subst (λ z. IsNumber (walk of_two (meaning key) squares) z (meaning key)) (sym now.1) (w.number squares is))
        ];
      });
  number = w.number;
}

-- ---- what calls answer

pub ok_then : {A E : Type 0} {P Q : A → Type 0} (r : Result A E) → ((x : A) → P x → Q x) → IfOk r P → IfOk r Q
ok_then (Ok x) f h = f x h
ok_then (Err e) f h = tt

pub put_told : {E : Type 0} (r : Result ℕ E) (old new : Lines) (line : Line) → IfOk r (λ n. n ≡ line_number old.lines.keys line) → OnOk r (new.lines.keys ≡ lines_with old.lines.keys line) → OnOk r (new.numbers ≡ old.numbers) → IfOk r (λ n. IsPut old new line n)
put_told (Ok n) old new line number lines numbers = record { number = number; lines = lines; numbers = numbers }
put_told (Err e) old new line number lines numbers = tt
