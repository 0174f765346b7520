-- Room for the entries of a state: each is a square of the map's, and what is added of it is added of the whole.
use Rattle.std.proofs.Common.{◌≡◌, ◌≢◌, ◌⊎◌, ℕ, zero, suc, ◌+◌, ◌-◌, ◌<◌, Bool, true, false, not, List, [], ◌++◌, Result, Ok, Err, inl, inr, refl, sym, ap, subst, ◌∙◌}
use Rattle.std.specs.Prelude.{◌==◌, ◌||◌, OnOk, is_none, if◌then◌else◌}
use Rattle.std.proofs.lemmas.Bool.{and_parts}
use Rattle.std.proofs.lemmas.List.Folds.{list_any-append}
use Rattle.generations_rule.specs.Refusal.{AnswersAs, when}
use Rattle.generations_rule.specs.Rule.{GenerationsRule, IsRule}
use Rattle.stamped_writes.specs.Write.{Writes}
use Rattle.byte_codec.specs.Reading.{onwards, many_at, unrefused}
use Rattle.byte_codec.proofs.ManySteps.{goes_on, in_front, stops}
use Rattle.byte_codec.proofs.Steps.{ok_is, onwards_ok, unrefused_ok}
use Rattle.square_store.specs.Grid.{quartered}
use Rattle.square_store.specs.Pieces.{grid_from, AddsPiecesOfGrid}
use Rattle.square_store.specs.Squares.{Held, IsAt, Draws, side_at}
use Rattle.square_store.specs.Store.{IsAbsent, IsGrown, IsStore}
use Rattle.square_store.proofs.Counting.{AreItsQuarters, absent_as, absent_quarter, adds_as, adds_more, adds_nothing, adds_quarter, cut_quarters}
use Rattle.stamped_tree.specs.declared.leaf_kind.PlaneLeaf.{PlaneLeaf}
use Rattle.stamped_tree.specs.LeafKind.{IsPlaneLeaf, plane_grid}
use Rattle.stamped_tree.specs.Tree.{Tree, Blank, Leaf, Four, IsPlaneTree}
use Rattle.stamped_tree.specs.View.{ShowsTree}
use Rattle.delta_exchange.specs.declared.fault.ReadFault.{ReadFault}
use Rattle.delta_exchange.specs.declared.fault.ReadFault.TheVariants.{NotCanonical, StoreFull}
use Rattle.delta_exchange.specs.declared.square_reading.ReadSquare.{ReadSquare}
use Rattle.delta_exchange.specs.Entries.{AreSquaresWithin, IsSquareWithin, TreeSquare, entries_of, is_listed, is_square, listed_after, square_of, walk}
use Rattle.delta_exchange.specs.EntryReading.{are_entries_of_last, entries_at, entry_at, last_entry, level_at, root_tree, says_second, second_tree_of, spelt_tree_at, squares_at, state_tree_of}
use Rattle.delta_exchange.specs.Fault.{IsWant, IsWantOrFull}
use Rattle.delta_exchange.specs.State.{IsTellableMap}
use Rattle.delta_exchange.specs.StateReading as first
use Rattle.delta_exchange.specs.StateSquares.{IsSquareRead}
use Rattle.delta_exchange.specs.Versions.{IsReadableStateText}
use Rattle.delta_exchange.specs.Reading.{word_at}
use Rattle.delta_exchange.specs.Room.{IsFilledFor, IsReadInto, tree_grid}
use Rattle.delta_exchange.proofs.EntryReads.{entries_counted, entry_then}
use Rattle.delta_exchange.proofs.FirstStateLaws.{read_state_again}
use Rattle.delta_exchange.proofs.RootCodec.{squares_exact}
use Rattle.delta_exchange.proofs.RoomLaws.{refused_full, square_behind, tree_writes}
use Rattle.delta_exchange.proofs.RoomSteps.{grown_itself, same_read}
use Rattle.delta_exchange.proofs.SecondReads.{FailsSecondHead, HasSecondHead, chosen_false, chosen_true, first_says, head_then, no_head, read_second_again, second_says}
use Rattle.delta_exchange.proofs.ShownParts.{shown_on_map}
use Rattle.delta_exchange.proofs.SquareSteps.{no_answer, square_read}
use Rattle.delta_exchange.proofs.TreeSame.{now_listed}
use Rattle.delta_exchange.proofs.Walks.{last_or_before}

-- a square that shows a tree has its writes
pub shown_draws : (s : Held PlaneLeaf) (k part : ℕ) (tree : Tree) → IsAt s k part → ShowsTree s part tree → Draws plane_grid 8 s k (tree_grid k tree) part
shown_draws s k part tree at shows =
    let on = shown_on_map s k part tree at shows in
    record { stands = at; same = λ u v hu hv. on.1.1.1 u v hu hv ∙ sym (tree_writes on.0 k on.1.0 tree on.1.1.0 u v hu hv) }

-- a square that stands was read
pub stood_into : (s : Held PlaneLeaf) (k : ℕ) (rest : List ℕ) (q : ReadSquare) (meant : Result (Tree × List ℕ) ReadFault) (read : Tree × List ℕ) → AnswersAs (IsSquareRead s k rest) IsWantOrFull (Ok q) meant → meant ≡ Ok read
    → IsReadInto (Ok q) s s k (tree_grid k read.0)
stood_into s k rest q meant read h is =
    let a = square_read s k rest q meant h in
    let same : a.0 ≡ read.0 = ap (λ (p : Tree × List ℕ). p.0) (same_read meant read (a.0, rest) is a.1.0) in
    record {
      grown = grown_itself s;
      drawn = shown_draws s k q.part read.0 a.1.1.stands (subst (λ (z : Tree). ShowsTree s q.part z) same a.1.1.shows);
      pieces = adds_nothing plane_grid 8 s s k (tree_grid k read.0) refl;
      full = λ h. absurd (cc);
    }

-- ---- what a walk lists

if_listed : (old new : List TreeSquare) (q : TreeSquare) (b : Bool) → is_listed (if b then old else new) q ≡ true → (is_listed old q ≡ true) ⊎ (is_listed new q ≡ true)
if_listed old new q true h = inl h
if_listed old new q false h = inr h

-- the squares that a walk over a square adds lie within it
pub walked_within : (above : ℕ) (tree : Tree) (squares : List TreeSquare) (q : TreeSquare) → is_listed (walk above tree squares) q ≡ true → (is_listed squares q ≡ true) ⊎ IsSquareWithin above tree q
unfolding walk IsSquareWithin
walked_within zero (Blank t) squares q h = inl h
walked_within (suc k) (Blank t) squares q h = inl h
walked_within zero (Leaf ws) squares q h = elim (if_listed squares (listed_after squares (square_of 0 (Leaf ws))) q (is_listed squares (square_of 0 (Leaf ws))) h) [
  | inl old ↦ inl old
  | inr new ↦ last_or_before squares (square_of 0 (Leaf ws)) q new
]
walked_within (suc k) (Leaf ws) squares q h = inl h
walked_within zero (Four a b c d) squares q h = inl h
walked_within (suc k) (Four a b c d) squares q h =
    let l1 = walk k a squares in
    let l2 = walk k b l1 in
    let l3 = walk k c l2 in
    let l4 = walk k d l3 in
    let whole = square_of (suc k) (Four a b c d) in
    elim (if_listed squares (listed_after l4 whole) q (is_listed squares whole) h) [
      | inl old ↦ inl old
      | inr new ↦ elim (last_or_before l4 whole q new) [
        | inr last ↦ inr (inl last)
        | inl h4 ↦ elim (walked_within k d l3 q h4) [
          | inr se ↦ inr (inr (inr (inr (inr se))))
          | inl h3 ↦ elim (walked_within k c l2 q h3) [
            | inr sw ↦ inr (inr (inr (inr (inl sw))))
            | inl h2 ↦ elim (walked_within k b l1 q h2) [
              | inr ne ↦ inr (inr (inr (inl ne)))
              | inl h1 ↦ elim (walked_within k a squares q h1) [
                | inr nw ↦ inr (inr (inl nw))
                | inl old ↦ inl old
              ]
            ]
          ]
        ]
      ]
    ]

entries_within : (tree : Tree) → AreSquaresWithin tree (entries_of tree)
entries_within tree q h = elim (walked_within 28 tree [] q h) [
  | inl none ↦ absurd (cc)
  | inr within ↦ within
]

-- ---- squares within a square

its_quarters : (k : ℕ) (a b c d : Tree) → AreItsQuarters (side_at 8 k) (tree_grid (suc k) (Four a b c d)) (tree_grid k a) (tree_grid k b) (tree_grid k c) (tree_grid k d)
unfolding tree_grid
its_quarters k a b c d = cut_quarters (side_at 8 k) (quartered (side_at 8 k) (tree_grid k a) (tree_grid k b) (tree_grid k c) (tree_grid k d)) (tree_grid k a) (tree_grid k b) (tree_grid k c) (tree_grid k d) (λ u v hu hv. refl)

abbrev AddsOf : Held PlaneLeaf → Held PlaneLeaf → ℕ → Tree → Type 0
AddsOf s t k tree = AddsPiecesOfGrid plane_grid 8 s t k (tree_grid k tree)

-- what is added of a square is added of any that it lies within
pub adds_within : (s t : Held PlaneLeaf) (above : ℕ) (tree : Tree) (q : TreeSquare) → IsSquareWithin above tree q → AddsPiecesOfGrid plane_grid 8 s t q.above (tree_grid q.above q.tree) → AddsPiecesOfGrid plane_grid 8 s t above (tree_grid above tree)
unfolding IsSquareWithin
adds_within s t zero tree q is adds = subst (λ (z : TreeSquare). AddsOf s t z.above z.tree) is adds
adds_within s t (suc k) tree q (inl is) adds = subst (λ (z : TreeSquare). AddsOf s t z.above z.tree) is adds
adds_within s t (suc k) (Blank x) q (inr below) adds = absurd below
adds_within s t (suc k) (Leaf ws) q (inr below) adds = absurd below
adds_within s t (suc k) (Four a b c d) q (inr below) adds =
    let n = side_at 8 k in
    let f = tree_grid (suc k) (Four a b c d) in
    let cut = its_quarters k a b c d in
    elim below [
      | inl nw ↦ adds_quarter plane_grid 8 s t k f 0 0 (record { left = inl refl; upper = inl refl }) (adds_as plane_grid 8 s t k (tree_grid k a) (grid_from 0 0 f) cut.nw (adds_within s t k a q nw adds))
      | inr others ↦ elim others [
        | inl ne ↦ adds_quarter plane_grid 8 s t k f n 0 (record { left = inr refl; upper = inl refl }) (adds_as plane_grid 8 s t k (tree_grid k b) (grid_from n 0 f) cut.ne (adds_within s t k b q ne adds))
        | inr lower ↦ elim lower [
          | inl sw ↦ adds_quarter plane_grid 8 s t k f 0 n (record { left = inl refl; upper = inr refl }) (adds_as plane_grid 8 s t k (tree_grid k c) (grid_from 0 n f) cut.sw (adds_within s t k c q sw adds))
          | inr se ↦ adds_quarter plane_grid 8 s t k f n n (record { left = inr refl; upper = inr refl }) (adds_as plane_grid 8 s t k (tree_grid k d) (grid_from n n f) cut.se (adds_within s t k d q se adds))
        ]
      ]
    ]

abbrev Lacks : Held PlaneLeaf → ℕ → Tree → Type 0
Lacks s k tree = IsAbsent plane_grid 8 s k (tree_grid k tree)

-- what lacks a square lacks any that it lies within
pub lacks_within : (s : Held PlaneLeaf) → IsStore plane_grid 8 IsPlaneLeaf s → (above : ℕ) (tree : Tree) (q : TreeSquare) → IsSquareWithin above tree q → IsAbsent plane_grid 8 s q.above (tree_grid q.above q.tree) → IsAbsent plane_grid 8 s above (tree_grid above tree)
unfolding IsSquareWithin
lacks_within s its zero tree q is absent = subst (λ (z : TreeSquare). Lacks s z.above z.tree) is absent
lacks_within s its (suc k) tree q (inl is) absent = subst (λ (z : TreeSquare). Lacks s z.above z.tree) is absent
lacks_within s its (suc k) (Blank x) q (inr below) absent = absurd below
lacks_within s its (suc k) (Leaf ws) q (inr below) absent = absurd below
lacks_within s its (suc k) (Four a b c d) q (inr below) absent =
    let n = side_at 8 k in
    let f = tree_grid (suc k) (Four a b c d) in
    let cut = its_quarters k a b c d in
    let can = its.canonical in
    elim below [
      | inl nw ↦ absent_quarter plane_grid 8 IsPlaneLeaf s can k 0 0 f (record { left = inl refl; upper = inl refl }) (absent_as plane_grid 8 s k (tree_grid k a) (grid_from 0 0 f) cut.nw (lacks_within s its k a q nw absent))
      | inr others ↦ elim others [
        | inl ne ↦ absent_quarter plane_grid 8 IsPlaneLeaf s can k n 0 f (record { left = inr refl; upper = inl refl }) (absent_as plane_grid 8 s k (tree_grid k b) (grid_from n 0 f) cut.ne (lacks_within s its k b q ne absent))
        | inr lower ↦ elim lower [
          | inl sw ↦ absent_quarter plane_grid 8 IsPlaneLeaf s can k 0 n f (record { left = inl refl; upper = inr refl }) (absent_as plane_grid 8 s k (tree_grid k c) (grid_from 0 n f) cut.sw (lacks_within s its k c q sw absent))
          | inr se ↦ absent_quarter plane_grid 8 IsPlaneLeaf s can k n n f (record { left = inr refl; upper = inr refl }) (absent_as plane_grid 8 s k (tree_grid k d) (grid_from n n f) cut.se (lacks_within s its k d q se absent))
        ]
      ]
    ]

-- ---- an entry

-- behind its level stands the square of an entry
pub entry_spelt : (states : ℕ) (squares : List TreeSquare) (above : ℕ) (text rest : List ℕ) (read : TreeSquare × List ℕ) → Ok (above, rest) ≡ level_at text → entry_at states squares text ≡ Ok read
    → (y : Tree × List ℕ) × ((spelt_tree_at states squares above rest ≡ Ok y) × (square_of above y.0 ≡ read.0))
entry_spelt states squares above text rest read level is =
    let told = sym (entry_then states squares above text rest level) ∙ is in
    let a = onwards_ok (onwards (spelt_tree_at states squares above rest) (λ tree end. Ok (square_of above tree, end))) (λ q end. unrefused (when (is_listed squares q) NotCanonical) (q, end)) read told in
    let b = onwards_ok (spelt_tree_at states squares above rest) (λ tree end. Ok (square_of above tree, end)) (a.0, a.1) a.2 in
    let here : square_of above b.0 ≡ a.0 = ap (λ (p : TreeSquare × List ℕ). p.0) (ok_is {F = ReadFault} (square_of above b.0, b.1) (a.0, a.1) b.3) in
    let same : a.0 ≡ read.0 = ap (λ (p : TreeSquare × List ℕ). p.0) (unrefused_ok (when (is_listed squares a.0) NotCanonical) (a.0, a.1) read a.3).1 in
    ((b.0, b.1), (b.2, here ∙ same))

pub entry_pieces : (r : Result ReadSquare ReadFault) (old new : Held PlaneLeaf) (above : ℕ) (tree : Tree) (q : TreeSquare) → square_of above tree ≡ q → IsReadInto r old new above (tree_grid above tree) → AddsPiecesOfGrid plane_grid 8 old new q.above (tree_grid q.above q.tree)
entry_pieces r old new above tree q is into = subst (λ (z : TreeSquare). AddsOf old new z.above z.tree) is into.pieces

pub entry_full : (r : Result ReadSquare ReadFault) (old new : Held PlaneLeaf) (above : ℕ) (tree : Tree) (q : TreeSquare) → square_of above tree ≡ q → IsReadInto r old new above (tree_grid above tree) → r ≡ Err StoreFull
    → IsFilledFor old new q.above (tree_grid q.above q.tree)
entry_full r old new above tree q is into full = subst (λ (z : TreeSquare). IsFilledFor old new z.above (tree_grid z.above z.tree)) is (refused_full r old new above (tree_grid above tree) into full)

pub on_any : {A F : Type 0} (r : Result A F) {P : Type 0} → P → OnOk r P
on_any (Ok x) h = h
on_any (Err f) h = tt

-- ---- entries one after another

-- where all entries are read, so is the next, and it is one of them
pub next_is_read : (states count i : ℕ) (squares : List TreeSquare) (bytes : List ℕ) (total : Result (List TreeSquare × List ℕ) ReadFault) (read : List TreeSquare × List ℕ) → i < count
    → in_front squares (many_at listed_after (entry_at states) (count - i) squares bytes) ≡ total → total ≡ Ok read → (y : TreeSquare × List ℕ) × ((entry_at states squares bytes ≡ Ok y) × (is_listed read.0 y.0 ≡ true))
next_is_read states count i squares bytes total read more so_far is = go (entry_at states squares bytes) refl
  where
    never : (f : ReadFault) → total ≡ Err f → ⊥
    never f e = cc

    go : (r : Result (TreeSquare × List ℕ) ReadFault) → entry_at states squares bytes ≡ r → (y : TreeSquare × List ℕ) × ((entry_at states squares bytes ≡ Ok y) × (is_listed read.0 y.0 ≡ true))
    go (Err f) e = absurd (never f (stops listed_after (entry_at states) squares count i squares bytes f total more e so_far))
    go (Ok y) e =
        let front = listed_after squares y.0 in
        let rest = many_at listed_after (entry_at states) (count - (i + 1)) front y.1 in
        let all = goes_on listed_after (entry_at states) squares count i squares bytes y.0 y.1 total more e so_far ∙ is in
        let last = onwards_ok rest (λ xs end. Ok (front ++ xs, end)) read all in
        let text : front ++ last.0 ≡ read.0 = ap (λ (p : List TreeSquare × List ℕ). p.0) (ok_is {F = ReadFault} (front ++ last.0, last.1) read last.3) in
        let there : is_listed (front ++ last.0) y.0 ≡ true = list_any-append (is_square y.0) front last.0 ∙ ap (λ b. b || is_listed last.0 y.0) (now_listed squares y.0) in
        (y, (e, subst (λ (l : List TreeSquare). is_listed l y.0 ≡ true) text there))

-- one entry more was read
pub more_within : (s t r : Held PlaneLeaf) (tree : Tree) (q : TreeSquare) → IsSquareWithin 28 tree q → IsGrown plane_grid 8 t r → AddsPiecesOfGrid plane_grid 8 s t 28 (tree_grid 28 tree) → AddsPiecesOfGrid plane_grid 8 t r q.above (tree_grid q.above q.tree)
    → AddsPiecesOfGrid plane_grid 8 s r 28 (tree_grid 28 tree)
more_within s t r tree q within grown first last = adds_more plane_grid 8 s t r 28 (tree_grid 28 tree) grown first (adds_within t r 28 tree q within last)

-- there was no room for an entry
pub filled_within : (s t r : Held PlaneLeaf) (tree : Tree) (q : TreeSquare) → IsSquareWithin 28 tree q → IsGrown plane_grid 8 s r → AddsPiecesOfGrid plane_grid 8 s t 28 (tree_grid 28 tree) → IsFilledFor t r q.above (tree_grid q.above q.tree)
    → IsFilledFor s r 28 (tree_grid 28 tree)
filled_within s t r tree q within grown first last = record {
  grown = grown;
  pieces = more_within s t r tree q within last.grown first last.pieces;
  full = λ its. (let full = last.full its in record { full = full.full; absent = lacks_within r its 28 tree q within full.absent });
}

-- ---- entries and their root

is_told : (b : Bool) → is_none (when (not b) NotCanonical) ≡ true → b ≡ true
is_told true h = refl
is_told false h = absurd (cc)

-- where the squares of a map are read, the entries are, and each lies within the whole plane
pub root_is_told : (states count : ℕ) (text rest : List ℕ) (read : Tree × List ℕ) → Ok (count, rest) ≡ word_at text → count ≢ 0 → squares_at states text ≡ Ok read
    → (entries : List TreeSquare × List ℕ) × ((entries_at states count rest ≡ Ok entries) × AreSquaresWithin read.0 entries.0)
root_is_told states count text rest read counted some is =
    let told = sym (entries_counted states count text rest counted some) ∙ is in
    let a = onwards_ok (onwards (entries_at states count rest) (λ squares end. unrefused (when (not (are_entries_of_last squares)) NotCanonical) (squares, end))) (λ squares end. Ok (root_tree squares, end)) read told in
    let b = onwards_ok (entries_at states count rest) (λ squares end. unrefused (when (not (are_entries_of_last squares)) NotCanonical) (squares, end)) (a.0, a.1) a.2 in
    let fits = unrefused_ok (when (not (are_entries_of_last b.0)) NotCanonical) (b.0, b.1) (a.0, a.1) b.3 in
    let same : b.0 ≡ a.0 = ap (λ (p : List TreeSquare × List ℕ). p.0) fits.1 in
    let root : root_tree a.0 ≡ read.0 = ap (λ (p : Tree × List ℕ). p.0) (ok_is {F = ReadFault} (root_tree a.0, a.1) read a.3) in
    let whole = squares_exact (entries_of (root_tree b.0)) b.0 (and_parts ((last_entry b.0).above == 28) _ (is_told (are_entries_of_last b.0) fits.0)).1 in
    let within : AreSquaresWithin (root_tree b.0) b.0 = subst (λ (l : List TreeSquare). AreSquaresWithin (root_tree b.0) l) whole (entries_within (root_tree b.0)) in
    ((b.0, b.1), (b.2, subst (λ (z : Tree). AreSquaresWithin z b.0) (ap root_tree same ∙ root) within))

-- ---- whole texts

-- behind the head stand the squares of the map
pub whole_squares : (r : GenerationsRule) (text t1 : List ℕ) (states : ℕ) (tree : Tree) → HasSecondHead r text t1 → states ≡ r.states → second_tree_of r text ≡ Ok tree → (rest : List ℕ) × (squares_at states t1 ≡ Ok (tree, rest))
whole_squares r text t1 states tree head same is =
    let e = square_behind (squares_at r.states t1) tree (sym (head_then r text t1 head) ∙ is) in
    (e.0, ap (λ n. squares_at n t1) same ∙ e.1)

-- the head of a text that is one wants no room
pub second_head_has_room : (r : GenerationsRule) (text : List ℕ) (tree : Tree) (fault : ReadFault) → second_tree_of r text ≡ Ok tree → IsWant fault ⊎ FailsSecondHead r text fault → fault ≡ StoreFull → ⊥
second_head_has_room r text tree fault is (inl want) e = absurd (cc)
second_head_has_room r text tree fault is (inr fails) e = no_answer (second_tree_of r text) tree fault is (no_head r text fault fails)

-- the tree that is read of a text of either version
pub tree_again : (r : GenerationsRule) (p : Writes) (text : List ℕ) → IsRule r → IsTellableMap r.states p → IsReadableStateText r p text → (tree : Tree) × (IsPlaneTree p tree × (state_tree_of r text ≡ Ok tree))
tree_again r p text is are (inl s) =
    let says = ap says_second s.spelt ∙ first_says r s.tree in
    (s.tree, (s.of_map, chosen_false (says_second text) (second_tree_of r text) (first.state_tree_of r text) says ∙ read_state_again r p text is are s))
tree_again r p text is are (inr s) =
    let says = ap says_second s.spelt ∙ second_says r s.tree in
    (s.tree, (s.of_map, chosen_true (says_second text) (second_tree_of r text) (first.state_tree_of r text) says ∙ read_second_again r p text is are s))
