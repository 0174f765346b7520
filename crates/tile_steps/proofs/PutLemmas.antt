-- A cell of a map of tiles that is given a state.
use Rattle.std.proofs.Common.{◌≡◌, ◌≢◌, ◌⊎◌, ℕ, ◌<◌, ◌∷◌, length, inl, inr, refl, sym, ◌∙◌, ap, subst, arith, ℤ, pos, true, false}
use Rattle.std.specs.Prelude.{◌+ℤ◌, cond, is_some, ◌==◌, ◌&&◌, if◌then◌else◌, Option, Some}
use Rattle.std.specs.Cmp.{first_so, second_so}
use Rattle.std.specs.Ordering.{int_eq}
use Rattle.std.proofs.lemmas.Bool.{cases_Bool, false≢true}
use Rattle.std.proofs.lemmas.Bool.Decides.{Decides-int_eq, nat_tests}
use Rattle.std.proofs.lemmas.Int.{ints}
use Rattle.std.proofs.lemmas.List.{nil_from_length}
use Rattle.std.proofs.lemmas.Option.{none-some}
use Rattle.generations_rule.specs.Place.{Place, moved, at_place, is_place}
use Rattle.tile_steps.specs.declared.tile.Tile.{Tile}
use Rattle.tile_steps.specs.declared.tiles.Corner.{Corner}
use Rattle.tile_steps.specs.Tiles.{Entries, HasTile, IsCornerOn, IsInTile, IsOnGrid, IsSplit, Shows, is_corner, place_of, state_of, tile_of, tile_state, with_state}
use Rattle.tile_steps.proofs.MapLemmas.{corner_itself, corner_same}

-- a map without tiles shows dead cells
pub shows_nothing : (n : ℕ) (tiles : Entries n) → length tiles ≡ 0 → Shows n 0 tiles (λ _. 0)
shows_nothing n tiles none = subst (λ ts. Shows n 0 ts (λ _. 0)) (sym (nil_from_length tiles none)) (record {
  on = λ c tile is. absurd (none-some tile is);
  each = λ c gx gy. record { shows = λ x y hx hy. refl };
})

same_column : (first : ℤ) (offset u : ℕ) (n : ℤ) → n ≡ first +ℤ pos offset → int_eq n (first +ℤ pos u) ≡ (u == offset)
same_column first offset u n is = elim (cases_Bool (u == offset)) [
  | inl same ↦ (let e : u ≡ offset = grind (arith, nat_tests, same) in rw (same, is, e) grind (arith, ints))
  | inr other ↦ (let apart : u ≢ offset = grind (arith, nat_tests, other) in rw (other, is) grind (arith, ints, apart))
]

-- two squares of one grid that have a column in common begin in the same one
pub one_grid : (a b : ℤ) (u v : ℕ) → IsOnGrid 0 a → IsOnGrid 0 b → u < 32 → v < 32 → a +ℤ pos u ≡ b +ℤ pos v → a ≡ b
one_grid a b u v ga gb hu hv e = let fa = ga.is in let fb = gb.is in omega (arith, ints, hu, hv, fa, fb, e)

module _ (n : ℕ) (old new : Entries n) (corner : Corner) (tile : Tile n) (x y : ℤ) (column row state : ℕ)
    (found : (q : Corner) → tile_of n new q ≡ cond (is_corner corner q) (Some tile) (tile_of n old q))
    (set : (u v : ℕ) → u < 32 → v < 32 → tile_state n tile u v ≡ (if u == column && v == row then state else state_of n (tile_of n old corner) u v))
    (cx : IsSplit x corner.x column) (cy : IsSplit y corner.y row) where
  here : (q : Corner) → is_corner corner q ≡ true → tile_of n new q ≡ Some tile
  here q e = found q ∙ ap (λ b. cond b (Some tile) (tile_of n old q)) e

  there : (q : Corner) → is_corner corner q ≡ false → tile_of n new q ≡ tile_of n old q
  there q e = found q ∙ ap (λ b. cond b (Some tile) (tile_of n old q)) e

  at_cell : (u v : ℕ) → is_place (at_place x y) (moved (place_of corner) (pos u) (pos v)) ≡ (u == column && v == row)
  at_cell u v = λ i. same_column corner.x column u x cx.there i && same_column corner.y row v y cy.there i

  off_cell : (q : Corner) (u v : ℕ) → IsOnGrid 0 q.x → IsOnGrid 0 q.y → u < 32 → v < 32 → is_corner corner q ≡ false → is_place (at_place x y) (moved (place_of q) (pos u) (pos v)) ≡ false
  off_cell q u v gx gy hu hv other = elim (cases_Bool (is_place (at_place x y) (moved (place_of q) (pos u) (pos v)))) [
    | inl same ↦
        let ex : x ≡ q.x +ℤ pos u = (Decides-int_eq x (q.x +ℤ pos u)).0 (first_so (int_eq x (q.x +ℤ pos u)) _ same) in
        let ey : y ≡ q.y +ℤ pos v = (Decides-int_eq y (q.y +ℤ pos v)).0 (second_so (int_eq x (q.x +ℤ pos u)) _ same) in
        let one_x : corner.x ≡ q.x = one_grid corner.x q.x column u cx.grid gx cx.within hu (sym cx.there ∙ ex) in
        let one_y : corner.y ≡ q.y = one_grid corner.y q.y row v cy.grid gy cy.within hv (sym cy.there ∙ ey) in
        let is : is_corner corner q ≡ true = (λ i. int_eq (one_y i) q.y && int_eq (one_x i) q.x) ∙ corner_itself q in
        absurd (false≢true (sym other ∙ is))
    | inr apart ↦ apart
  ]

  pub put_shows : (f : Place → ℕ) → Shows n 0 old f → Shows n 0 new (with_state f (at_place x y) state)
  put_shows f shows = record {
    on = λ q t is. elim (cases_Bool (is_corner corner q)) [
      | inl same ↦ subst (IsCornerOn 0) (corner_same corner q same) (record { column = cx.grid; row = cy.grid })
      | inr other ↦ shows.on q t (sym (there q other) ∙ is)
    ];
    each = λ q gx gy. record {
      shows = λ u v hu hv. elim (cases_Bool (is_corner corner q)) [
        | inl same ↦
            let own = (shows.each corner cx.grid cy.grid).shows u v hu hv in
            ap (λ o. state_of n o u v) (here q same) ∙ set u v hu hv
            ∙ (λ i. if sym (at_cell u v) i then state else own i)
            ∙ ap (λ (c : Corner). with_state f (at_place x y) state (moved (place_of c) (pos u) (pos v))) (corner_same corner q same)
        | inr other ↦
            ap (λ o. state_of n o u v) (there q other) ∙ (shows.each q gx gy).shows u v hu hv
            ∙ sym (ap (λ b. if b then state else f (moved (place_of q) (pos u) (pos v))) (off_cell q u v gx gy hu hv other))
      ];
    };
  }

-- ---- a tile that is held beside the others

pub flipped : (a b : Corner) → is_corner a b ≡ is_corner b a
flipped a b = grind (arith, ints)

pub shows_by_reads : (n : ℕ) (old new : Entries n) (f : Place → ℕ) → ((q : Corner) → tile_of n new q ≡ tile_of n old q) → Shows n 0 old f → Shows n 0 new f
shows_by_reads n old new f same shows = record {
  on = λ q t is. shows.on q t (sym (same q) ∙ is);
  each = λ q gx gy. record { shows = λ x y hx hy. ap (λ o. state_of n o x y) (same q) ∙ (shows.each q gx gy).shows x y hx hy };
}

-- it was put among them
pub stored_shows : (n : ℕ) (old new : Entries n) (corner : Corner) (tile : Tile n) (f : Place → ℕ)
    → ((q : Corner) → tile_of n new q ≡ cond (is_corner corner q) (Some tile) (tile_of n old q)) → Shows n 0 ((corner, tile) ∷ old) f → Shows n 0 new f
stored_shows n old new corner tile f put = shows_by_reads n ((corner, tile) ∷ old) new f (λ q. put q ∙ ap (λ b. cond b (Some tile) (tile_of n old q)) (flipped corner q))

-- one that was read is held
pub held_shows : (n : ℕ) (tiles : Entries n) (corner : Corner) (tile : Tile n) (f : Place → ℕ) → IsCornerOn 0 corner
    → ((x y : ℕ) → x < 32 → y < 32 → tile_state n tile x y ≡ state_of n (tile_of n tiles corner) x y) → Shows n 0 tiles f → Shows n 0 ((corner, tile) ∷ tiles) f
held_shows n tiles corner tile f grid reads shows = record {
  on = λ q t is. elim (cases_Bool (is_corner q corner)) [
    | inl same ↦ subst (IsCornerOn 0) (sym (corner_same q corner same)) grid
    | inr other ↦ shows.on q t (sym (ap (λ b. cond b (Some tile) (tile_of n tiles q)) other) ∙ is)
  ];
  each = λ q gx gy. record {
    shows = λ x y hx hy. elim (cases_Bool (is_corner q corner)) [
      | inl same ↦
          ap (λ b. state_of n (cond b (Some tile) (tile_of n tiles q)) x y) same ∙ reads x y hx hy
          ∙ ap (λ c. state_of n (tile_of n tiles c) x y) (sym (corner_same q corner same)) ∙ (shows.each q gx gy).shows x y hx hy
      | inr other ↦ ap (λ b. state_of n (cond b (Some tile) (tile_of n tiles q)) x y) other ∙ (shows.each q gx gy).shows x y hx hy
    ];
  };
}

pub origin_grid : (c : Corner) → c.x ≡ pos 0 → c.y ≡ pos 0 → IsCornerOn 0 c
origin_grid c ex ey = record {
  column = record { ups = 0; downs = 0; is = omega (arith, ints, ex) };
  row = record { ups = 0; downs = 0; is = omega (arith, ints, ey) };
}

-- the first tile that is held is dead
pub held_first : (n : ℕ) (tiles : Entries n) (corner : Corner) (tile : Tile n) → length tiles ≡ 0 → IsCornerOn 0 corner
    → ((x y : ℕ) → x < 32 → y < 32 → tile_state n tile x y ≡ 0) → Shows n 0 ((corner, tile) ∷ tiles) (λ _. 0)
held_first n tiles corner tile none grid dead = held_shows n tiles corner tile (λ _. 0) grid
    (λ x y hx hy. dead x y hx hy ∙ ap (λ ts. state_of n (tile_of n ts corner) x y) (sym (nil_from_length tiles none))) (shows_nothing n tiles none)

-- a cell of the tile that is held was given a state
pub set_shows : (n : ℕ) (tiles : Entries n) (held corner : Corner) (old new : Tile n) (x y : ℤ) (column row state : ℕ) (f : Place → ℕ) → held ≡ corner
    → ((u v : ℕ) → u < 32 → v < 32 → tile_state n new u v ≡ (if u == column && v == row then state else tile_state n old u v))
    → IsSplit x corner.x column → IsSplit y corner.y row → Shows n 0 ((held, old) ∷ tiles) f → Shows n 0 ((held, new) ∷ tiles) (with_state f (at_place x y) state)
set_shows n tiles held corner old new x y column row state f is set cx cy =
    subst (λ h. Shows n 0 ((h, old) ∷ tiles) f → Shows n 0 ((h, new) ∷ tiles) (with_state f (at_place x y) state)) (sym is)
    (put_shows n ((corner, old) ∷ tiles) ((corner, new) ∷ tiles) corner new x y column row state found held_set cx cy f)
  where
    found : (q : Corner) → tile_of n ((corner, new) ∷ tiles) q ≡ cond (is_corner corner q) (Some new) (tile_of n ((corner, old) ∷ tiles) q)
    found q = elim (cases_Bool (is_corner q corner)) [
      | inl same ↦ rw (flipped corner q, same) refl
      | inr other ↦ rw (flipped corner q, other) refl
    ]

    held_set : (u v : ℕ) → u < 32 → v < 32 → tile_state n new u v ≡ (if u == column && v == row then state else state_of n (tile_of n ((corner, old) ∷ tiles) corner) u v)
    held_set u v hu hv = set u v hu hv ∙ ap (λ b. if u == column && v == row then state else state_of n (cond b (Some old) (tile_of n tiles corner)) u v) (sym (corner_itself corner))

pub corner_as : (y y' x x' : ℤ) → y ≡ y' → x ≡ x' → (let c : Corner = record { y = y; x = x } in c) ≡ record { y = y'; x = x' }
corner_as y y' x x' ey ex = λ i. record { y = ey i; x = ex i }

-- ---- where there are tiles

some_same : {A : Type 0} (o q : Option A) → o ≡ q → is_some o ≡ true → is_some q ≡ true
some_same o q e h = subst (λ p. is_some p ≡ true) e h

-- the tile that was held was put among the others
pub has_stored : (n : ℕ) (old new : Entries n) (corner : Corner) (tile : Tile n) → ((q : Corner) → tile_of n new q ≡ cond (is_corner corner q) (Some tile) (tile_of n old q))
    → (c : Corner) → HasTile n new c → HasTile n ((corner, tile) ∷ old) c
has_stored n old new corner tile put c = some_same (tile_of n new c) (tile_of n ((corner, tile) ∷ old) c) (put c ∙ ap (λ b. cond b (Some tile) (tile_of n old c)) (flipped corner c))

-- and another is held
pub has_held : (n : ℕ) (tiles : Entries n) (corner : Corner) (tile : Tile n) (c : Corner) → HasTile n ((corner, tile) ∷ tiles) c → HasTile n tiles c ⊎ (c ≡ corner)
has_held n tiles corner tile c has = elim (cases_Bool (is_corner c corner)) [
  | inl same ↦ inr (corner_same c corner same)
  | inr other ↦ inl (some_same (tile_of n ((corner, tile) ∷ tiles) c) (tile_of n tiles c) (ap (λ b. cond b (Some tile) (tile_of n tiles c)) other) has)
]

-- where it has other states, it is still there
pub has_set : (n : ℕ) (tiles : Entries n) (corner : Corner) (old new : Tile n) (c : Corner) → HasTile n ((corner, new) ∷ tiles) c → HasTile n ((corner, old) ∷ tiles) c
has_set n tiles corner old new c has = elim (cases_Bool (is_corner c corner)) [
  | inl same ↦ ap (λ b. is_some (cond b (Some old) (tile_of n tiles c))) same
  | inr other ↦ some_same (tile_of n ((corner, new) ∷ tiles) c) (tile_of n ((corner, old) ∷ tiles) c) (ap (λ b. cond b (Some new) (tile_of n tiles c)) other ∙ sym (ap (λ b. cond b (Some old) (tile_of n tiles c)) other)) has
]

pub split_as : (n m first : ℤ) (offset : ℕ) → n ≡ m → IsSplit n first offset → IsSplit m first offset
split_as n m first offset is = subst (λ k. IsSplit k first offset) is

-- the tile in which a cell lies
pub in_tile : (x y first_x first_y : ℤ) (column row : ℕ) (c : Corner) → c ≡ (record { y = first_y; x = first_x }) → IsSplit x first_x column → IsSplit y first_y row → IsInTile x y c
in_tile x y first_x first_y column row c is sx sy = subst (IsInTile x y) (sym is) (record { column = column; row = row; in_columns = sx; in_rows = sy })
