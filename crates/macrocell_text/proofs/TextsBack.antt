-- A macrocell is read as the rule, the generation and the map of which it was written.
use Rattle.std.proofs.Common.{◌≡◌, ◌≢◌, ℕ, zero, suc, ◌-◌, ◌≤◌, ◌^◌, Bool, true, false, List, [], ◌∷◌, ◌++◌, refl, sym, ◌∙◌, ap, arith, subst, length, append_assoc, append-nil, length-append, pos, inl, inr}
use Rattle.std.specs.Prelude.{Some, Result, Ok, ◌==◌, ◌&&◌, ◌||◌, ◌+ℤ◌, ◌-ℤ◌, nat_abs, int_le, int_lt, codes, option_map, if◌then◌else◌, slice_get}
use Rattle.std.proofs.Math.Seq.{take-append_seam}
use Rattle.std.proofs.lemmas.Bool.{and_parts, cases_lt, eqb-true, ne_eqb}
use Rattle.std.proofs.lemmas.List.{length-map}
use Rattle.std.proofs.lemmas.List.Folds.{list_any-append}
use Rattle.generations_rule.specs.Place.{Place}
use Rattle.generations_rule.specs.Rule.{GenerationsRule}
use Rattle.generations_rule.specs.Refusal.{◌>>=◌}
use Rattle.multistate_rle.specs.HeaderLine.{text_lines}
use Rattle.square_store.proofs.Lists.{got_last}
use Rattle.generation_engine.specs.Universe.{EngineValue, IsEngine, states_of}
use Rattle.macrocell_lines.specs.Squares.{StateSquare, Cell, Four, is_dead, is_listed, is_same, is_told_by_states, level_of, listed_with, state_in, walk}
use Rattle.macrocell_lines.specs.Lines.{line_of}
use Rattle.macrocell_lines.specs.Listing.{IsPlaced, IsSquare}
use Rattle.macrocell_lines.specs.Macrocell.{generation_text, head_text, least_level, macrocell_text, rule_name}
use Rattle.macrocell_lines.specs.Roots.{IsRootLevel, half_side, is_in_root, root_of, states_from}
use Rattle.macrocell_lines.proofs.Levels.{universe_reach}
use Rattle.macrocell_lines.proofs.Same.{square_same}
use Rattle.macrocell_lines.proofs.Standing.{if_false, if_true, walk_dead}
use Rattle.macrocell_lines.proofs.States.{dead_state, is_square, level_is, state_back}
use Rattle.macrocell_text.specs.declared.fault.MacrocellFault.{MacrocellFault}
use Rattle.macrocell_text.specs.Macrocells.{MacrocellTold}
use Rattle.macrocell_text.specs.Maps.{column_in_root, map_of, map_of_root, map_of_squares, root_of_squares, row_in_root}
use Rattle.macrocell_text.specs.Texts.{Reading, lines_read, macrocell_read, nothing_told, told_of, with_lines}
use Rattle.macrocell_text.specs.WrittenTexts.{HasOneMap, IsReadBack, IsTellable, ReadsMacrocellBack, ReadsUniverseBack, text_at, written_place}
use Rattle.macrocell_text.proofs.HeadsBack.{head_read}
use Rattle.macrocell_text.proofs.Levels.{level_square}
use Rattle.macrocell_text.proofs.LineKinds.{line_parted}
use Rattle.macrocell_text.proofs.MapLaws.{count_of, double_side, from_left, from_top, to_bottom, to_right, x_back, y_back}
use Rattle.macrocell_text.proofs.SquaresBack.{AreRead, lines_text, none_read, step_read}
use Rattle.macrocell_text.proofs.WalksKept.{ArePlaced, HasStates, IsInWalk, apart, states_below, walk_kept}

-- ---- the text

-- the head, the rule's line and the generation's
head_parts : (r : GenerationsRule) (g : ℕ) (rest : List ℕ) → head_text r g ++ rest ≡ codes "[M2] (pazgrot)" ++ 10 ∷ (codes "#R " ++ (rule_name r ++ 10 ∷ (generation_text g ++ rest)))
unfolding head_text
head_parts r g rest = ap (λ t. codes "[M2] (pazgrot)\n#R " ++ t) (append_assoc (rule_name r ++ codes "\n") (generation_text g) rest ∙ append_assoc (rule_name r) (codes "\n") (generation_text g ++ rest))

-- the bytes of the rule's name at its place
rule_at_place : (r : GenerationsRule) (rest : List ℕ) → text_at (codes "[M2] (pazgrot)" ++ 10 ∷ (codes "#R " ++ (rule_name r ++ rest))) (written_place r) ≡ rule_name r
rule_at_place r rest = take-append_seam (rule_name r) rest

-- ---- the root

-- the states of a root, by places
state_at_place : (f : Place → ℕ) (k : ℕ) (c : Place) → 1 ≤ k → is_in_root k c ≡ true → state_in (root_of f k) (column_in_root k c) (row_in_root k c) ≡ f c
state_at_place f k c some e =
    let half : ℕ = 2 ^ (k - 1) in
    let two = double_side k some in
    let sides = and_parts (int_le (pos 0 -ℤ pos half) c.x && int_lt c.x (pos half)) _ e in
    let x' = and_parts (int_le (pos 0 -ℤ pos half) c.x) (int_lt c.x (pos half)) sides.0 in
    let y' = and_parts (int_le (pos 1 -ℤ pos half) c.y) (int_lt c.y (pos half +ℤ pos 1)) sides.1 in
    let u = count_of (c.x +ℤ pos half) (from_left c.x half x'.0) in
    let v = count_of ((c.y -ℤ pos 1) +ℤ pos half) (from_top c.y half y'.0) in
    let wide = to_right c.x u.count half u.is x'.1 in
    let high = to_bottom c.y v.count half v.is y'.1 in
    (λ i. state_in (root_of f k) (nat_abs (u.is i)) (nat_abs (v.is i)))
    ∙ state_back k (states_from f k) u.count v.count (omega (arith, wide, two)) (omega (arith, high, two))
    ∙ (λ i. f (record { x = x_back c.x u.count half u.is i; y = y_back c.y v.count half v.is i }))

-- the map of a root that has all places that are not dead
root_map : (f : Place → ℕ) (k : ℕ) (c : Place) → 1 ≤ k → ((c : Place) → f c ≢ 0 → is_in_root k c ≡ true) → map_of_root (root_of f k) c ≡ f c
root_map f k c some all = ap (λ l. if is_in_root l c then state_in (root_of f k) (column_in_root l c) (row_in_root l c) else 0) (level_square k (states_from f k)) ∙ by (is_in_root k c) refl
  where
    zero_of : (n : ℕ) → (n ≢ 0 → is_in_root k c ≡ true) → is_in_root k c ≡ false → 0 ≡ n
    zero_of zero h e = refl
    zero_of (suc n) h e = absurd (apart (is_in_root k c) (h (λ z. (omega (arith, z)))) e)

    by : (b : Bool) → is_in_root k c ≡ b → (if is_in_root k c then state_in (root_of f k) (column_in_root k c) (row_in_root k c) else 0) ≡ f c
    by true e = if_true (is_in_root k c) _ 0 e ∙ state_at_place f k c some e
    by false e = if_false (is_in_root k c) (state_in (root_of f k) (column_in_root k c) (row_in_root k c)) 0 e ∙ zero_of (f c) (all c) e

-- ---- the last square of a walk

-- no square of a list is above a level
abbrev HasLevels : ℕ → List StateSquare → Type 0
HasLevels top l = (p : StateSquare) → is_listed l p ≡ true → level_of p ≤ top

one_level : (top : ℕ) (l : List StateSquare) (q : StateSquare) → HasLevels top l → level_of q ≤ top → HasLevels top (l ++ q ∷ [])
one_level top l q all high p there = by (is_listed l p) refl (sym (list_any-append (is_same p) l (q ∷ [])) ∙ there)
  where
    last : (b : Bool) → is_same p q ≡ b → (b || false) ≡ true → level_of p ≤ top
    last true e h = subst (λ z. level_of z ≤ top) (sym ((square_same p q).0 e)) high
    last false e h = absurd (cc)

    by : (b : Bool) → is_listed l p ≡ b → (b || (is_same p q || false)) ≡ true → level_of p ≤ top
    by true e h = all p e
    by false e h = last (is_same p q) refl h

-- of two states a root is not told by its states
told_by_quarters : (of_two : Bool) (k : ℕ) (q : StateSquare) → IsSquare (suc k) q → (of_two ≡ true → 3 ≤ k) → is_told_by_states of_two q ≡ false
told_by_quarters true k q is low = (let least = low refl in let level = level_is (suc k) q is in ne_eqb (level_of q) 3 (λ e. (omega (arith, least, level, e))))
told_by_quarters false k q is low = refl

-- the quarters of a root list squares of their level at most
quarters_levels : (of_two : Bool) (n k : ℕ) (a b c d : StateSquare) → IsSquare (suc k) (Four a b c d) → HasStates n (Four a b c d) → (of_two ≡ true → 3 ≤ k) → HasLevels k (walk of_two d (walk of_two c (walk of_two b (walk of_two a []))))
quarters_levels of_two n k a b c d is states low =
    let step : (l : List StateSquare) (q : StateSquare) → HasLevels k l → ArePlaced of_two l → IsPlaced of_two l q → IsInWalk of_two k n q → HasLevels k (l ++ q ∷ []) = λ l q kept placed may walked. one_level k l q kept walked.high in
    let least : k ≤ k = omega arith in
    let k1 = walk_kept of_two k n (HasLevels k) step k a is.0 least low states.0 [] (λ p h. absurd (cc)) (λ p h. absurd (cc)) in
    let k2 = walk_kept of_two k n (HasLevels k) step k b is.1.0 least low states.1.0 (walk of_two a []) k1.placed k1.kept in
    let k3 = walk_kept of_two k n (HasLevels k) step k c is.1.1.0 least low states.1.1.0 (walk of_two b (walk of_two a [])) k2.placed k2.kept in
    let k4 = walk_kept of_two k n (HasLevels k) step k d is.1.1.1 least low states.1.1.1 (walk of_two c (walk of_two b (walk of_two a []))) k3.placed k3.kept in
    k4.kept

record IsLast (l : List StateSquare) (q : StateSquare) : Type 0 where
  before : List StateSquare
  is : l ≡ before ++ q ∷ []

-- the last square that a walk over a root lists is the root
root_last : (of_two : Bool) (n k : ℕ) (q : StateSquare) → IsSquare (suc k) q → HasStates n q → (of_two ≡ true → 3 ≤ k) → is_dead q ≡ false → IsLast (walk of_two q []) q
unfolding walk
root_last of_two n k (Cell s) is states low live = absurd is
root_last of_two n k (Four a b c d) is states low live =
    let q = Four a b c d in
    let l = walk of_two d (walk of_two c (walk of_two b (walk of_two a []))) in
    let all = quarters_levels of_two n k a b c d is states low in
    let level = level_is (suc k) q is in
    let new : is_listed l (Four a b c d) ≡ false = not_there (is_listed l (Four a b c d)) (λ there. (let high = all (Four a b c d) there in omega (arith, high, level))) in
    record {
      before = l;
      is = if_false (is_dead (Four a b c d)) [] _ live
          ∙ ap (λ m. listed_with m (Four a b c d)) (if_false (is_told_by_states of_two (Four a b c d)) [] l (told_by_quarters of_two k (Four a b c d) is low))
          ∙ if_false (is_listed l (Four a b c d)) l (l ++ Four a b c d ∷ []) new;
    }
  where
    not_there : (b : Bool) → (b ≡ true → ⊥) → b ≡ false
    not_there true h = absurd (h refl)
    not_there false h = refl

root_is : (l : List StateSquare) (q : StateSquare) → IsLast l q → root_of_squares l ≡ Some q
root_is l q last =
    let m = last.before in
    let place : length (m ++ q ∷ []) - 1 ≡ length m = omega (arith, length-append m (q ∷ [])) in
    ap root_of_squares last.is ∙ ap (λ i. slice_get (m ++ q ∷ []) i) place ∙ got_last m q

dead_map : (q : StateSquare) (c : Place) → is_dead q ≡ true → map_of_root q c ≡ 0
dead_map q c dead = by (is_in_root (level_of q) c)
  where
    by : (b : Bool) → (if b then state_in q (column_in_root (level_of q) c) (row_in_root (level_of q) c) else 0) ≡ 0
    by true = dead_state q dead (column_in_root (level_of q) c) (row_in_root (level_of q) c)
    by false = refl

-- the map of the squares that a walk over a root lists is that of the root
walk_map : (of_two : Bool) (n k : ℕ) (q : StateSquare) (c : Place) → IsSquare (suc k) q → HasStates n q → (of_two ≡ true → 3 ≤ k) → map_of_squares (walk of_two q []) c ≡ map_of_root q c
walk_map of_two n k q c is states low = by (is_dead q) refl
  where
    by : (b : Bool) → is_dead q ≡ b → map_of_squares (walk of_two q []) c ≡ map_of_root q c
    by true e = ap (λ l. map_of_squares l c) (walk_dead of_two q [] e) ∙ sym (dead_map q c e)
    by false e = ap (λ o. map_of o c) (root_is (walk of_two q []) q (root_last of_two n k q is states low e))

-- ---- all of it

-- the lines of a text whose squares are read
whole_read : (r : GenerationsRule) (g : ℕ) (text : List ℕ) (l : List StateSquare) (head : Reading) → text ≡ head_text r g ++ lines_text (r.states == 2) l →
    with_lines (nothing_told (codes "[M2] (pazgrot)")) (text_lines (codes "#R " ++ (rule_name r ++ 10 ∷ (generation_text g ++ lines_text (r.states == 2) l)))) ≡ with_lines head (text_lines (lines_text (r.states == 2) l)) →
    (are : AreRead (r.states == 2) head l) → macrocell_read text ≡ Ok (told_of are.after)
whole_read r g text l head is first are =
    let body : List ℕ = lines_text (r.states == 2) l in
    let rest : List ℕ = codes "#R " ++ (rule_name r ++ 10 ∷ (generation_text g ++ body)) in
    ap macrocell_read (is ∙ head_parts r g body)
    ∙ ap lines_read (line_parted (codes "[M2] (pazgrot)") rest refl)
    ∙ ap (λ x. x >>= λ s. Ok (told_of s)) (first ∙ ap (λ t. with_lines head (text_lines t)) (sym (append-nil body)) ∙ are.read [])

least_some : (of_two : Bool) (k : ℕ) → least_level of_two ≤ k → 1 ≤ k
least_some true k h = omega (arith, h)
least_some false k h = h

least_four : (of_two : Bool) (k : ℕ) → least_level of_two ≤ k → of_two ≡ true → 4 ≤ k
least_four true k h e = h
least_four false k h e = absurd (cc)

read_back : (r : GenerationsRule) (g : ℕ) (f : Place → ℕ) (text : List ℕ) (k : ℕ) → IsRootLevel (least_level (r.states == 2)) f k → text ≡ macrocell_text r g (root_of f k) → IsTellable r g f k → IsReadBack text r g f
read_back r g f text zero root is can = absurd (let some = least_some (r.states == 2) 0 root.least_is in omega (arith, some))
read_back r g f text (suc k) root is can =
    let of_two : Bool = r.states == 2 in
    let q : StateSquare = root_of f (suc k) in
    let l : List StateSquare = walk of_two q [] in
    let square : IsSquare (suc k) q = is_square (suc k) (states_from f (suc k)) in
    let states : HasStates r.states q = states_below r.states (suc k) (states_from f (suc k)) (λ u v. can.states (record { x = pos u -ℤ half_side (suc k); y = pos (suc v) -ℤ half_side (suc k) })) in
    let four = least_four of_two (suc k) root.least_is in
    let low : of_two ≡ true → 3 ≤ suc k = λ e. let h = four e in omega (arith, h) in
    let lower : of_two ≡ true → 3 ≤ k = λ e. let h = four e in omega (arith, h) in
    let two : of_two ≡ true → r.states ≡ 2 = λ e. eqb-true r.states 2 e in
    let body : List ℕ = lines_text of_two l in
    let head = head_read r g body can.few_states can.generation in
    let few = can.few_lines in
    let many : length l ≤ 4294967295 = omega (arith, few, length-map l (line_of of_two l)) in
    let kept = walk_kept of_two 63 r.states (λ l. length l ≤ 4294967295 → AreRead of_two head.after l) (step_read of_two r.states head.after can.few_states two) (suc k) q square can.low low states [] (λ p h. absurd (cc)) (λ _. none_read of_two head.after head.leaves head.squares) in
    let are = kept.kept many in
    let place : are.after.rule ≡ Some (written_place r) = are.rule ∙ head.rule in
    record {
      told = told_of are.after;
      read = whole_read r g text l head.after is head.read are;
      is = record {
        place = place;
        rule = ap (option_map (text_at text)) place ∙ ap (λ t. Some (text_at t (written_place r))) (is ∙ head_parts r g body) ∙ ap (λ t. Some t) (rule_at_place r (10 ∷ (generation_text g ++ body)));
        generation = are.generation ∙ head.generation;
        map = λ c. ap (λ s. map_of_squares s c) are.squares ∙ walk_map of_two r.states k q c square states lower ∙ root_map f (suc k) c (omega arith) root.all;
      };
    }

pub reads_macrocell_back : ReadsMacrocellBack
reads_macrocell_back r g f text is can = read_back r g f text is.level is.root is.is can

-- ---- universes

-- no root of a universe is above level 32
universe_level : (e : EngineValue) (least k : ℕ) → IsEngine e → least ≤ 32 → IsRootLevel least (states_of e) k → k ≤ 32
universe_level e least k is few root = elim (cases_lt 32 k) [
  | inl above ↦ absurd (root.no_less 32 few above (λ c live. reached c live (is_in_root 32 c) refl))
  | inr within ↦ within
]
  where
    reached : (c : Place) → states_of e c ≢ 0 → (b : Bool) → is_in_root 32 c ≡ b → is_in_root 32 c ≡ true
    reached c live true at = at
    reached c live false at = absurd (live (universe_reach e is c at))

least_most : (of_two : Bool) → least_level of_two ≤ 32
least_most true = omega arith
least_most false = omega arith

pub reads_universe_back : ReadsUniverseBack
reads_universe_back e g text is rule small written few =
    let level = universe_level e (least_level (e.rule.states == 2)) written.level is (least_most (e.rule.states == 2)) written.root in
    reads_macrocell_back e.rule g (states_of e) text written (record { few_states = rule.most; states = is.below; generation = small; low = omega (arith, level); few_lines = few })

-- ---- one text, one map

pub has_one_map : HasOneMap
has_one_map r s g h e f text a can b can' =
    let x = reads_macrocell_back r g e text a can in
    let y = reads_macrocell_back s h f text b can' in
    let same : x.told ≡ y.told = ok_is (sym x.read ∙ y.read) in (
      some_is (sym x.is.rule ∙ ap (λ (t : MacrocellTold). option_map (text_at text) t.rule) same ∙ y.is.rule),
      (sym x.is.generation ∙ ap (λ (t : MacrocellTold). t.generation) same ∙ y.is.generation, λ c. sym (x.is.map c) ∙ ap (λ (t : MacrocellTold). map_of_squares t.squares c) same ∙ y.is.map c),
    )
  where
    ok_is : {t u : MacrocellTold} → (let z : Result MacrocellTold MacrocellFault = Ok t in z ≡ Ok u) → t ≡ u
    ok_is z = cc

    some_is : {t u : List ℕ} → Some t ≡ Some u → t ≡ u
    some_is z = cc
