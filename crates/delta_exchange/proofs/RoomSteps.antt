-- Squares that are read one after another, and what is added of them.
use Rattle.std.proofs.Common.{◌≡◌, true, false, ℕ, zero, suc, ◌+◌, ◌-◌, ◌<◌, List, [], ◌∷◌, Option, None, Some, Result, Ok, Err, inl, inr, refl, sym, ap, subst, ◌∙◌, arith}
use Rattle.std.specs.Prelude.{IfOk}
use Rattle.std.proofs.lemmas.Bool.{cases_lt}
use Rattle.std.specs.Int.{w64}
use Rattle.stamped_writes.specs.declared.write.Write.{Write}
use Rattle.edit_stamps.specs.PlaneMap.{is_plane_write}
use Rattle.leaf_merge_lanes.specs.Leaf.{write_of}
use Rattle.generations_rule.specs.Refusal.{AnswersAs}
use Rattle.byte_codec.specs.Reading.{Reading, number_at, unrefused}
use Rattle.square_store.specs.Grid.{Grid, blank_grid, quartered, AreSameWithin}
use Rattle.square_store.specs.Pieces.{AddsPiecesOfGrid}
use Rattle.square_store.specs.Squares.{Held, side_at, grid_at, four_grid, Draws}
use Rattle.square_store.specs.Store.{IsGrown, IsAdded, IsAbsent, IsFullFor, IsStore}
use Rattle.square_store.proofs.Counting.{AreItsQuarters, adds_all, adds_more, adds_nothing, adds_nw, adds_one, adds_three, adds_two, absent_as, cut_quarters, lacks_ne, lacks_nw, lacks_se, lacks_sw}
use Rattle.square_store.proofs.Drawn.{draws_later, grown_more, twice_below}
use Rattle.square_store.proofs.Quarters.{quarter_nw, quarter_ne, quarter_sw, quarter_se}
use Rattle.square_store.specs.declared.fault.StoreFault.{StoreFault}
use Rattle.square_store.specs.declared.fault.StoreFault.TheVariants as store
use Rattle.stamped_tree.specs.declared.leaf_kind.PlaneLeaf.{PlaneLeaf}
use Rattle.stamped_tree.specs.LeafKind.{IsPlaneLeaf, plane_grid}
use Rattle.stamped_tree.specs.Plane.{grid_of_leaf}
use Rattle.stamped_tree.specs.Tree.{Tree, Blank, Leaf, Four}
use Rattle.delta_exchange.specs.declared.fault.ReadFault.{ReadFault}
use Rattle.delta_exchange.specs.declared.fault.ReadFault.TheVariants.{Short, StoreFull}
use Rattle.delta_exchange.specs.declared.square_reading.ReadSquare.{ReadSquare}
use Rattle.delta_exchange.specs.Fault.{IsWantOrFull, fault_of_store}
use Rattle.delta_exchange.specs.StateSquares.{IsSquareRead}
use Rattle.delta_exchange.specs.StateReading.{are_blank_writes, blank_tree_at, four_tree_at, leaf_tree_at, registers_at, tree_fault}
use Rattle.delta_exchange.specs.Room.{tree_grid, IsReadInto}
use Rattle.delta_exchange.proofs.SquareSteps.{no_answer, same_fault, four_told, leaf_told, square_read, no_nw, no_ne, no_sw, no_se}

pub grown_itself : (s : Held PlaneLeaf) → IsGrown plane_grid 8 s s
grown_itself s = record { room = refl; held = λ p there. there; stands = λ k p there. there; same = λ k p there. refl }

-- the four squares that a text spells, one after another
pub record AreFourRead (within : Reading ReadFault Tree) (text : List ℕ) (tree : Tree) : Type 0 where
  pub a : Tree
  pub b : Tree
  pub c : Tree
  pub d : Tree
  pub t1 : List ℕ
  pub t2 : List ℕ
  pub t3 : List ℕ
  pub t4 : List ℕ
  pub nw : within text ≡ Ok (a, t1)
  pub ne : within t1 ≡ Ok (b, t2)
  pub sw : within t2 ≡ Ok (c, t3)
  pub se : within t3 ≡ Ok (d, t4)
  pub is : tree ≡ Four a b c d

pub same_read : (r : Result (Tree × List ℕ) ReadFault) (x y : Tree × List ℕ) → r ≡ Ok x → r ≡ Ok y → y ≡ x
same_read r x y e h = cc

told_tree : (fault : Option ReadFault) (tree : Tree) (rest : List ℕ) (read : Tree × List ℕ) → unrefused fault (tree, rest) ≡ Ok read → read.0 ≡ tree
told_tree None tree rest read e = ap (λ (r : Tree × List ℕ). r.0) (same_read (Ok (tree, rest)) (tree, rest) read refl e)
told_tree (Some f) tree rest read e = absurd (cc)

pub four_read : (within : Reading ReadFault Tree) (text : List ℕ) (read : Tree × List ℕ) → four_tree_at within text ≡ Ok read → AreFourRead within text read.0
four_read within text read e = first (within text) refl
  where
    last : (a b c : Tree × List ℕ) → within text ≡ Ok a → within a.1 ≡ Ok b → within b.1 ≡ Ok c → (r : Result (Tree × List ℕ) ReadFault) → within c.1 ≡ r → AreFourRead within text read.0
    last a b c ea eb ec (Err f) ed = absurd (no_answer (four_tree_at within text) read f e (no_se within text a.1 b.1 c.1 a.0 b.0 c.0 f ea eb ec ed))
    last a b c ea eb ec (Ok d) ed = record {
      a = a.0;
      b = b.0;
      c = c.0;
      d = d.0;
      t1 = a.1;
      t2 = b.1;
      t3 = c.1;
      t4 = d.1;
      nw = ea;
      ne = eb;
      sw = ec;
      se = ed;
      is = told_tree (tree_fault (Four a.0 b.0 c.0 d.0)) (Four a.0 b.0 c.0 d.0) d.1 read (sym (four_told within text a.1 b.1 c.1 d.1 a.0 b.0 c.0 d.0 ea eb ec ed) ∙ e);
    }

    third : (a b : Tree × List ℕ) → within text ≡ Ok a → within a.1 ≡ Ok b → (r : Result (Tree × List ℕ) ReadFault) → within b.1 ≡ r → AreFourRead within text read.0
    third a b ea eb (Err f) ec = absurd (no_answer (four_tree_at within text) read f e (no_sw within text a.1 b.1 a.0 b.0 f ea eb ec))
    third a b ea eb (Ok c) ec = last a b c ea eb ec (within c.1) refl

    second : (a : Tree × List ℕ) → within text ≡ Ok a → (r : Result (Tree × List ℕ) ReadFault) → within a.1 ≡ r → AreFourRead within text read.0
    second a ea (Err f) eb = absurd (no_answer (four_tree_at within text) read f e (no_ne within text a.1 a.0 f ea eb))
    second a ea (Ok b) eb = third a b ea eb (within b.1) refl

    first : (r : Result (Tree × List ℕ) ReadFault) → within text ≡ r → AreFourRead within text read.0
    first (Err f) ea = absurd (no_answer (four_tree_at within text) read f e (no_nw within text f ea))
    first (Ok a) ea = second a ea (within a.1) refl

-- ---- what is added, and what a full store lacks

-- four squares with the same writes as four others make one with the same
quartered_same : (n : ℕ) (a b c d a' b' c' d' : Grid) → AreSameWithin n a a' → AreSameWithin n b b' → AreSameWithin n c c' → AreSameWithin n d d' → AreSameWithin (n + n) (quartered n a b c d) (quartered n a' b' c' d')
quartered_same n a b c d a' b' c' d' ha hb hc hd u v hu hv = elim (cases_lt v n) [
  | inl top ↦ elim (cases_lt u n) [
    | inl left ↦ quarter_nw n a b c d u v left top ∙ ha u v left top ∙ sym (quarter_nw n a' b' c' d' u v left top)
    | inr right ↦ (let e : n + (u - n) ≡ u = omega (arith, right) in
        subst (λ x. quartered n a b c d x v ≡ quartered n a' b' c' d' x v) e
        (quarter_ne n a b c d (u - n) v top ∙ hb (u - n) v (omega (arith, hu)) top ∙ sym (quarter_ne n a' b' c' d' (u - n) v top)))
  ]
  | inr bottom ↦ (let f : n + (v - n) ≡ v = omega (arith, bottom) in elim (cases_lt u n) [
    | inl left ↦ subst (λ y. quartered n a b c d u y ≡ quartered n a' b' c' d' u y) f
        (quarter_sw n a b c d u (v - n) left ∙ hc u (v - n) left (omega (arith, hv)) ∙ sym (quarter_sw n a' b' c' d' u (v - n) left))
    | inr right ↦ (let e : n + (u - n) ≡ u = omega (arith, right) in
        subst (λ x. quartered n a b c d x v ≡ quartered n a' b' c' d' x v) e (subst (λ y. quartered n a b c d (n + (u - n)) y ≡ quartered n a' b' c' d' (n + (u - n)) y) f
        (quarter_se n a b c d (u - n) (v - n) ∙ hd (u - n) (v - n) (omega (arith, hu)) (omega (arith, hv)) ∙ sym (quarter_se n a' b' c' d' (u - n) (v - n)))))
  ])
]

-- the fault of a store that is full is told as that
pub full_store : (fault : StoreFault) → fault_of_store fault ≡ StoreFull → fault ≡ store.StoreFull
full_store store.StoreFull h = refl
full_store store.Memory h = absurd (cc)

-- a square was added
pub added_into : (old new : Held PlaneLeaf) (q : ReadSquare) (j k : ℕ) (g f : Grid) → IsGrown plane_grid 8 old new → IsAdded plane_grid 8 old new j g q.part → Draws plane_grid 8 new k f q.part → IsReadInto (Ok q) old new k f
added_into old new q j k g f grown added drawn = record { grown = grown; drawn = drawn; pieces = adds_one plane_grid 8 old new j k g f q.part added drawn; full = λ h. absurd (cc) }

-- nothing was added, and what is lacking is told
pub refused_into : (r : Result ReadSquare ReadFault) (fault : ReadFault) (old new : Held PlaneLeaf) (k : ℕ) (f : Grid) → r ≡ Err fault → new ≡ old → (fault ≡ StoreFull → IsFullFor plane_grid 8 old k f) → IsReadInto r old new k f
refused_into r fault old new k f is still full = record {
  grown = subst (λ s. IsGrown plane_grid 8 old s) (sym still) (grown_itself old);
  drawn = subst (λ x. IfOk x (λ square. Draws plane_grid 8 new k f square.part)) (sym is) tt;
  pieces = adds_nothing plane_grid 8 old new k f still;
  full = λ h its. subst (λ s. IsFullFor plane_grid 8 s k f) (sym still) (full (same_fault r fault StoreFull is h));
}

pub full_as : (s : Held PlaneLeaf) (k : ℕ) (f g : Grid) → AreSameWithin (side_at 8 k) f g → IsFullFor plane_grid 8 s k f → IsFullFor plane_grid 8 s k g
full_as s k f g same full = record { full = full.full; absent = absent_as plane_grid 8 s k f g same full.absent }

-- four squares that stand, put together
pub parts_same : (s : Held PlaneLeaf) (above nw ne sw se : ℕ) (a b c d : Grid) → 0 < above → Draws plane_grid 8 s (above - 1) a nw → Draws plane_grid 8 s (above - 1) b ne → Draws plane_grid 8 s (above - 1) c sw → Draws plane_grid 8 s (above - 1) d se
    → AreSameWithin (side_at 8 (above + 3 - 3)) (four_grid plane_grid 8 s (above + 3 - 3 - 1) (nw ∷ ne ∷ sw ∷ se ∷ [])) (quartered (side_at 8 (above - 1)) a b c d)
parts_same s above nw ne sw se a b c d some da db dc dd =
    let level : above ≡ above + 3 - 3 = omega arith in
    let e = twice_below 8 above some in
    subst (λ j. AreSameWithin (side_at 8 j) (four_grid plane_grid 8 s (j - 1) (nw ∷ ne ∷ sw ∷ se ∷ [])) (quartered (side_at 8 (above - 1)) a b c d)) level
    (λ u v hu hv. quartered_same (side_at 8 (above - 1)) (grid_at plane_grid 8 s (above - 1) nw) (grid_at plane_grid 8 s (above - 1) ne) (grid_at plane_grid 8 s (above - 1) sw) (grid_at plane_grid 8 s (above - 1) se) a b c d da.same db.same dc.same dd.same u v (omega (arith, hu, e)) (omega (arith, hv, e)))

-- a level that is told by its number
pub draws_at : (s : Held PlaneLeaf) (above : ℕ) (f : Grid) (p : ℕ) → Draws plane_grid 8 s (above + 3 - 3) f p → Draws plane_grid 8 s above f p
draws_at s above f p drawn = let level : above + 3 - 3 ≡ above = omega arith in subst (λ j. Draws plane_grid 8 s j f p) level drawn

pub full_at : (s : Held PlaneLeaf) (above : ℕ) (f : Grid) → IsFullFor plane_grid 8 s (above + 3 - 3) f → IsFullFor plane_grid 8 s above f
full_at s above f full = let level : above + 3 - 3 ≡ above = omega arith in subst (λ j. IsFullFor plane_grid 8 s j f) level full

-- ---- trees, by column and row

pub blank_tree : (k t : ℕ) → tree_grid k (Blank t) ≡ blank_grid t
unfolding tree_grid
blank_tree zero t = refl
blank_tree (suc k) t = refl

pub leaf_tree : (writes : List Write) → tree_grid 0 (Leaf writes) ≡ grid_of_leaf writes
unfolding tree_grid
leaf_tree writes = refl

pub four_tree : (k : ℕ) (a b c d : Tree) → 0 < k → tree_grid k (Four a b c d) ≡ quartered (side_at 8 (k - 1)) (tree_grid (k - 1) a) (tree_grid (k - 1) b) (tree_grid (k - 1) c) (tree_grid (k - 1) d)
unfolding tree_grid
four_tree zero a b c d some = absurd (omega (arith, some))
four_tree (suc k) a b c d some = let e : k ≡ suc k - 1 = omega arith in ap (λ j. quartered (side_at 8 j) (tree_grid j a) (tree_grid j b) (tree_grid j c) (tree_grid j d)) e

pub blank_read : (text rest : List ℕ) (stamp : ℕ) (read : Tree × List ℕ) → Ok (stamp, rest) ≡ number_at Short w64 text → is_plane_write (write_of stamp 0) ≡ true → blank_tree_at text ≡ Ok read → read.0 ≡ Blank stamp
blank_read text rest stamp read e plane is = ap (λ (r : Tree × List ℕ). r.0) (same_read (blank_tree_at text) (Blank stamp, rest) read (rw (← e, plane) refl) is)

pub leaf_read : (states : ℕ) (text rest : List ℕ) (writes : List Write) (read : Tree × List ℕ) → Ok (writes, rest) ≡ registers_at states 64 text → are_blank_writes writes ≡ false → leaf_tree_at states text ≡ Ok read → read.0 ≡ Leaf writes
leaf_read states text rest writes read e mixed is = ap (λ (r : Tree × List ℕ). r.0) (same_read (leaf_tree_at states text) (Leaf writes, rest) read (leaf_told states text rest writes e mixed) is)

-- the bytes that are left are those behind what was read
pub next_text : (within : Reading ReadFault Tree) (text left rest : List ℕ) (s : Held PlaneLeaf) (k : ℕ) (q : ReadSquare) (tree : Tree) → within text ≡ Ok (tree, rest) → AnswersAs (IsSquareRead s k left) IsWantOrFull (Ok q) (within text) → left ≡ rest
next_text within text left rest s k q tree is answer =
    let read = square_read s k left q (within text) answer in
    ap (λ (r : Tree × List ℕ). r.1) (same_read (within text) (tree, rest) (read.0, left) is read.1.0)

-- ---- four squares one after another

module _ (above : ℕ) (a b c d : Grid) (some : 0 < above) where
  abbrev whole : Grid
  whole = quartered (side_at 8 (above - 1)) a b c d

  cut : AreItsQuarters (side_at 8 (above - 1)) whole a b c d
  cut = cut_quarters (side_at 8 (above - 1)) whole a b c d (λ u v hu hv. refl)

  -- what was added by a square that was refused, and what is lacking
  stopped : (r : Result ReadSquare ReadFault) (fault : ReadFault) (old mid new : Held PlaneLeaf) (f : Grid) → r ≡ Err fault → IsReadInto (Err fault) mid new (above - 1) f → IsGrown plane_grid 8 old mid
      → AddsPiecesOfGrid plane_grid 8 old new above whole → (IsStore plane_grid 8 IsPlaneLeaf new → IsAbsent plane_grid 8 new (above - 1) f → IsAbsent plane_grid 8 new above whole) → IsReadInto r old new above whole
  stopped r fault old mid new f is last grown adds lacks = record {
    grown = grown_more plane_grid 8 old mid new grown last.grown;
    drawn = subst (λ x. IfOk x (λ square. Draws plane_grid 8 new above whole square.part)) (sym is) tt;
    pieces = adds;
    full = λ h its. (let full = last.full (ap (λ e. Err e) (same_fault r fault StoreFull is h)) its in record { full = full.full; absent = lacks its full.absent });
  }

  pub nw_stopped : (r : Result ReadSquare ReadFault) (fault : ReadFault) (s0 s1 : Held PlaneLeaf) → r ≡ Err fault → IsReadInto (Err fault) s0 s1 (above - 1) a → IsReadInto r s0 s1 above (quartered (side_at 8 (above - 1)) a b c d)
  nw_stopped r fault s0 s1 is last = stopped r fault s0 s0 s1 a is last (grown_itself s0) (adds_nw plane_grid 8 above whole a b c d some cut s0 s1 last.pieces)
      (λ its absent. lacks_nw plane_grid 8 above whole a b c d some cut IsPlaneLeaf s1 its.canonical absent)

  module _ (s0 s1 : Held PlaneLeaf) (q1 : ReadSquare) (first : IsReadInto (Ok q1) s0 s1 (above - 1) a) where
    pub ne_stopped : (r : Result ReadSquare ReadFault) (fault : ReadFault) (s2 : Held PlaneLeaf) → r ≡ Err fault → IsReadInto (Err fault) s1 s2 (above - 1) b → IsReadInto r s0 s2 above (quartered (side_at 8 (above - 1)) a b c d)
    ne_stopped r fault s2 is last = stopped r fault s0 s1 s2 b is last first.grown (adds_two plane_grid 8 above whole a b c d some cut s0 s1 s2 last.grown first.pieces last.pieces)
        (λ its absent. lacks_ne plane_grid 8 above whole a b c d some cut IsPlaneLeaf s2 its.canonical absent)

    module _ (s2 : Held PlaneLeaf) (q2 : ReadSquare) (second : IsReadInto (Ok q2) s1 s2 (above - 1) b) where
      to_second : IsGrown plane_grid 8 s0 s2
      to_second = grown_more plane_grid 8 s0 s1 s2 first.grown second.grown

      pub sw_stopped : (r : Result ReadSquare ReadFault) (fault : ReadFault) (s3 : Held PlaneLeaf) → r ≡ Err fault → IsReadInto (Err fault) s2 s3 (above - 1) c → IsReadInto r s0 s3 above (quartered (side_at 8 (above - 1)) a b c d)
      sw_stopped r fault s3 is last = stopped r fault s0 s2 s3 c is last to_second (adds_three plane_grid 8 above whole a b c d some cut s0 s1 s2 s3 second.grown last.grown first.pieces second.pieces last.pieces)
          (λ its absent. lacks_sw plane_grid 8 above whole a b c d some cut IsPlaneLeaf s3 its.canonical absent)

      module _ (s3 : Held PlaneLeaf) (q3 : ReadSquare) (third : IsReadInto (Ok q3) s2 s3 (above - 1) c) where
        to_third : IsGrown plane_grid 8 s0 s3
        to_third = grown_more plane_grid 8 s0 s2 s3 to_second third.grown

        pub se_stopped : (r : Result ReadSquare ReadFault) (fault : ReadFault) (s4 : Held PlaneLeaf) → r ≡ Err fault → IsReadInto (Err fault) s3 s4 (above - 1) d → IsReadInto r s0 s4 above (quartered (side_at 8 (above - 1)) a b c d)
        se_stopped r fault s4 is last = stopped r fault s0 s3 s4 d is last to_third
            (adds_all plane_grid 8 above whole a b c d some cut s0 s1 s2 s3 s4 second.grown third.grown last.grown first.pieces second.pieces third.pieces last.pieces)
            (λ its absent. lacks_se plane_grid 8 above whole a b c d some cut IsPlaneLeaf s4 its.canonical absent)

        pub four_into : (s4 s5 : Held PlaneLeaf) (q4 : ReadSquare) → IsReadInto (Ok q4) s3 s4 (above - 1) d → (r : Result ReadSquare ReadFault)
            → ((a b c d : Grid) → Draws plane_grid 8 s4 (above - 1) a q1.part → Draws plane_grid 8 s4 (above - 1) b q2.part → Draws plane_grid 8 s4 (above - 1) c q3.part → Draws plane_grid 8 s4 (above - 1) d q4.part → IsReadInto r s4 s5 above (quartered (side_at 8 (above - 1)) a b c d))
            → IsReadInto r s0 s5 above (quartered (side_at 8 (above - 1)) a b c d)
        four_into s4 s5 q4 fourth r made =
            let k = above - 1 in
            let g24 = grown_more plane_grid 8 s2 s3 s4 third.grown fourth.grown in
            let g14 = grown_more plane_grid 8 s1 s2 s4 second.grown g24 in
            let last = made a b c d (draws_later plane_grid 8 s1 s4 k a q1.part g14 first.drawn) (draws_later plane_grid 8 s2 s4 k b q2.part g24 second.drawn) (draws_later plane_grid 8 s3 s4 k c q3.part fourth.grown third.drawn) fourth.drawn in
            record {
              grown = grown_more plane_grid 8 s0 s4 s5 (grown_more plane_grid 8 s0 s3 s4 to_third fourth.grown) last.grown;
              drawn = last.drawn;
              pieces = adds_more plane_grid 8 s0 s4 s5 above whole last.grown
                  (adds_all plane_grid 8 above whole a b c d some cut s0 s1 s2 s3 s4 second.grown third.grown fourth.grown first.pieces second.pieces third.pieces fourth.pieces)
                  last.pieces;
              full = last.full;
            }
