-- From a window to a tile of the other grid, and from all of these to the map.
use Rattle.std.proofs.Common.{◌≡◌, ℕ, zero, suc, ◌+◌, ◌-◌, ◌<◌, ◌≤◌, ◌⊎◌, List, [], ◌∷◌, length, refl, inl, inr, sym, ◌∙◌, ap, subst, arith, ℤ, pos, negsuc, Bool, true, false, rules}
use Rattle.std.specs.Prelude.{◌+ℤ◌, ◌-ℤ◌, ◌≤ℤ◌, nat_abs, cond, is_some, slice_get, Option, Some, None}
use Rattle.std.specs.Cmp.{first_so, second_so}
use Rattle.std.specs.List.{IsDistinct}
use Rattle.std.specs.Map.{keys_of}
use Rattle.std.specs.Ordering.{int_eq}
use Rattle.std.proofs.lemmas.Bool.Decides.{Decides-int_eq}
use Rattle.std.proofs.lemmas.Int.{ints}
use Rattle.std.proofs.lemmas.List.{length-append}
use Rattle.std.proofs.lemmas.List.Elements.{All-push, All-nil}
use Rattle.std.proofs.lemmas.Map.Entries.{place_from_lookup}
use Rattle.std.proofs.lemmas.Option.{none-some, same_Some, slice_get_within, get_or_from_slice_get}
use Rattle.generations_rule.specs.Place.{Place, moved}
use Rattle.generations_rule.specs.Rule.{GenerationsRule, IsRule}
use Rattle.generations_rule.specs.Evolution.{at}
use Rattle.generations_rule.proofs.EvolutionLaws.{stays_empty}
use Rattle.tile_steps.specs.declared.tile.Tile.{Tile}
use Rattle.tile_steps.specs.declared.tiles.Corner.{Corner}
use Rattle.tile_steps.specs.declared.window.WindowPlane.{WindowPlane}
use Rattle.tile_steps.specs.Steps.{window_state}
use Rattle.tile_steps.specs.Tiles.{tile_state, state_of, tile_of, Entries, corner_from, place_of, is_corner, ShowsTile, ShowsAround, Shows, IsOnGrid, IsOrigin, IsRight, IsInside, AllInside, AllRight, IsSettled, AreSettledAround, AreSettledBelow, AreLater, IsPut, IsUnderWay, KeepsSettled, AreOnGrid, IsAlive, IsCornerOn, IsOnOtherGrid}
use Rattle.tile_steps.specs.Windows.{IsJoined, IsMiddle, Advances, AgreesOnWindow}
use Rattle.tile_steps.proofs.WindowLemmas.{before, behind, is_behind}

place_is : (x y x' y' : ℤ) → x ≡ x' → y ≡ y' → (let c : Place = record { x = x; y = y } in c) ≡ record { x = x'; y = y' }
place_is x y x' y' ex ey = λ i. record { x = ex i; y = ey i }

corner_is : (y x y' x' : ℤ) → y ≡ y' → x ≡ x' → (let c : Corner = record { y = y; x = x } in c) ≡ record { y = y'; x = x' }
corner_is y x y' x' ey ex = λ i. record { y = ey i; x = ex i }

-- the four corners around one of the other grid
abbrev nw_of : Corner → Corner
nw_of c = corner_from c (negsuc 15) (negsuc 15)

abbrev ne_of : Corner → Corner
ne_of c = corner_from c (pos 16) (negsuc 15)

abbrev sw_of : Corner → Corner
sw_of c = corner_from c (negsuc 15) (pos 16)

abbrev se_of : Corner → Corner
se_of c = corner_from c (pos 16) (pos 16)

-- what holds in the four quarters of a window holds in the window
by_halves : (P : ℕ → ℕ → Place → Type 0) (c : Corner)
    → ((x y : ℕ) → x < 32 → y < 32 → P x y (moved (place_of (nw_of c)) (pos x) (pos y)))
    → ((x y : ℕ) → x < 32 → y < 32 → P (x + 32) y (moved (place_of (ne_of c)) (pos x) (pos y)))
    → ((x y : ℕ) → x < 32 → y < 32 → P x (y + 32) (moved (place_of (sw_of c)) (pos x) (pos y)))
    → ((x y : ℕ) → x < 32 → y < 32 → P (x + 32) (y + 32) (moved (place_of (se_of c)) (pos x) (pos y)))
    → (x y : ℕ) → x < 64 → y < 64 → P x y (moved (place_of (nw_of c)) (pos x) (pos y))
by_halves P c nw ne sw se x y hx hy =
    let past : (a : ℤ) (u k : ℕ) → k ≡ 32 + u → (a +ℤ pos 16) +ℤ pos u ≡ (a +ℤ negsuc 15) +ℤ pos k = λ a u k is. omega (arith, ints, is) in
    elim (is_behind x 32) [
      | before h ↦ elim (is_behind y 32) [
        | before k ↦ nw x y h k
        | behind v is ↦
            let own : P x (v + 32) (moved (place_of (sw_of c)) (pos x) (pos v)) = sw x v h (omega arith) in
            let e : v + 32 ≡ y = omega arith in
            subst (P x y) (place_is _ _ _ _ refl (past c.y v y is)) (subst (λ k. P x k (moved (place_of (sw_of c)) (pos x) (pos v))) e own)
      ]
      | behind u is ↦ elim (is_behind y 32) [
        | before k ↦
            let own : P (u + 32) y (moved (place_of (ne_of c)) (pos u) (pos y)) = ne u y (omega arith) k in
            let e : u + 32 ≡ x = omega arith in
            subst (P x y) (place_is _ _ _ _ (past c.x u x is) refl) (subst (λ k'. P k' y (moved (place_of (ne_of c)) (pos u) (pos y))) e own)
        | behind v is' ↦
            let own : P (u + 32) (v + 32) (moved (place_of (se_of c)) (pos u) (pos v)) = se u v (omega arith) (omega arith) in
            let e : u + 32 ≡ x = omega arith in
            let e' : v + 32 ≡ y = omega arith in
            subst (P x y) (place_is _ _ _ _ (past c.x u x is) (past c.y v y is'))
            (subst (λ k. P k y (moved (place_of (se_of c)) (pos u) (pos v))) e (subst (λ k. P (u + 32) k (moved (place_of (se_of c)) (pos u) (pos v))) e' own))
      ]
    ]

-- a tile that was read, by the corner that it was read at
read_shows : (n : ℕ) (tiles : Entries n) (f : Place → ℕ) (t : Tile n) (q q' : Corner) → q ≡ q'
    → ((x y : ℕ) → x < 32 → y < 32 → tile_state n t x y ≡ state_of n (tile_of n tiles q) x y)
    → ShowsTile n (tile_of n tiles q') f (place_of q') → (x y : ℕ) → x < 32 → y < 32 → tile_state n t x y ≡ f (moved (place_of q') (pos x) (pos y))
read_shows n tiles f t q q' is reads shows x y hx hy = reads x y hx hy ∙ ap (λ k. state_of n (tile_of n tiles k) x y) is ∙ shows.shows x y hx hy

pub made_right : (n : ℕ) (r : GenerationsRule) (g : ℕ) (tiles : Entries n) (c : Corner) (nw ne sw se : Tile n) (cnw cne csw cse : Corner) (old new : List WindowPlane) (tile : Tile n)
    → g ≤ 16 → cnw ≡ nw_of c → cne ≡ ne_of c → csw ≡ sw_of c → cse ≡ se_of c
    → ((x y : ℕ) → x < 32 → y < 32 → tile_state n nw x y ≡ state_of n (tile_of n tiles cnw) x y)
    → ((x y : ℕ) → x < 32 → y < 32 → tile_state n ne x y ≡ state_of n (tile_of n tiles cne) x y)
    → ((x y : ℕ) → x < 32 → y < 32 → tile_state n sw x y ≡ state_of n (tile_of n tiles csw) x y)
    → ((x y : ℕ) → x < 32 → y < 32 → tile_state n se x y ≡ state_of n (tile_of n tiles cse) x y)
    → IsJoined n nw ne sw se old → Advances n r g old new → IsMiddle n new tile → IsRight n r g tiles (Some tile) c
made_right n r g tiles c nw ne sw se cnw cne csw cse old new tile few enw ene esw ese rnw rne rsw rse joined advances middle = λ f below around.
    let corner : Place = place_of (nw_of c) in
    let agrees : AgreesOnWindow n 0 f corner old = λ x y lx hx ly hy.
    by_halves (λ u v d. window_state n old u v ≡ f d) c
    (λ u v hu hv. joined.north_west u v hu hv ∙ read_shows n tiles f nw cnw (nw_of c) enw rnw around.north_west u v hu hv)
    (λ u v hu hv. joined.north_east u v hu hv ∙ read_shows n tiles f ne cne (ne_of c) ene rne around.north_east u v hu hv)
    (λ u v hu hv. joined.south_west u v hu hv ∙ read_shows n tiles f sw csw (sw_of c) esw rsw around.south_west u v hu hv)
    (λ u v hu hv. joined.south_east u v hu hv ∙ read_shows n tiles f se cse (se_of c) ese rse around.south_east u v hu hv)
    x y (omega (arith, hx)) (omega (arith, hy)) in
    let later : AgreesOnWindow n g (at r f g) corner new = advances f corner below agrees in
    let centred : (a : ℤ) (k : ℕ) → (a +ℤ negsuc 15) +ℤ pos (k + 16) ≡ a +ℤ pos k = λ a k. omega (arith, ints) in
    record {
      shows = λ x y hx hy.
          middle.same x y hx hy ∙ later (x + 16) (y + 16) (omega (arith, few)) (omega (arith, few, hx)) (omega (arith, few)) (omega (arith, few, hy))
          ∙ ap (at r f g) (place_is _ _ _ _ (centred c.x x) (centred c.y y));
    }

-- ---- corners

pub corner_same : (a b : Corner) → is_corner a b ≡ true → a ≡ b
corner_same a b h = corner_is a.y a.x b.y b.x ((Decides-int_eq a.y b.y).0 (first_so (int_eq a.y b.y) _ h)) ((Decides-int_eq a.x b.x).0 (second_so (int_eq a.y b.y) _ h))

pub corner_itself : (a : Corner) → is_corner a a ≡ true
corner_itself a = rw ((Decides-int_eq a.y a.y).1 refl, (Decides-int_eq a.x a.x).1 refl) refl

pub inside_beside : (c q : Corner) (right down : ℤ) → q ≡ corner_from c right down → negsuc 15 ≤ℤ right → right ≤ℤ pos 16 → negsuc 15 ≤ℤ down → down ≤ℤ pos 16 → IsInside 128 c → IsInside 112 q
inside_beside c q right down is a b d e inside = subst (IsInside 112) (sym is) (record {
  left = omega (arith, ints, inside.left, a);
  right = omega (arith, ints, inside.right, b);
  above = omega (arith, ints, inside.above, d);
  below = omega (arith, ints, inside.below, e);
})

pub all_at : (n : ℕ) (tiles : Entries n) (i : ℕ) (c : Corner) (tile : Tile n) → AllInside n tiles → slice_get tiles i ≡ Some (c, tile) → IsInside 128 c
all_at n tiles i c tile all is =
    let e : Corner × Tile n = (c, tile) in
    subst (λ (x : Corner × Tile n). IsInside 128 x.0) (get_or_from_slice_get tiles i e e is) (all i e (slice_get_within tiles i e is))

-- ---- the two grids

-- the corners round one of a grid are on the other
west_of : (origin : ℕ) (k : ℤ) → IsOrigin origin → IsOnGrid origin k → IsOnGrid (16 - origin) (k +ℤ negsuc 15)
west_of origin k is h = elim is [
  | inl e ↦ record { ups = h.ups; downs = h.downs + 1; is = let fact = h.is in omega (arith, ints, e, fact) }
  | inr e ↦ record { ups = h.ups; downs = h.downs; is = let fact = h.is in omega (arith, ints, e, fact) }
]

east_of : (origin : ℕ) (k : ℤ) → IsOrigin origin → IsOnGrid origin k → IsOnGrid (16 - origin) (k +ℤ pos 16)
east_of origin k is h = elim is [
  | inl e ↦ record { ups = h.ups; downs = h.downs; is = let fact = h.is in omega (arith, ints, e, fact) }
  | inr e ↦ record { ups = h.ups + 1; downs = h.downs; is = let fact = h.is in omega (arith, ints, e, fact) }
]

-- what is there, is something
pub there_is : {A : Type 0} (o : Option A) → is_some o ≡ true → (x : A) × (o ≡ Some x)
there_is (Some x) h = (x, refl)
there_is None h = absurd (search (rules, h))

-- a tile of the list is found at its corner
pub there_at : (n : ℕ) (tiles : Entries n) (i : ℕ) (c : Corner) (tile : Tile n) → slice_get tiles i ≡ Some (c, tile) → is_some (tile_of n tiles c) ≡ true
there_at n [] i c tile is = absurd (none-some (c, tile) is)
there_at n (e ∷ tiles) zero c tile is =
    let same : e.0 ≡ c = ap (λ (x : Corner × Tile n). x.0) (same_Some e (c, tile) is) in
    ap (λ b. is_some (cond b (Some e.1) (tile_of n tiles c))) (ap (is_corner c) same ∙ corner_itself c)
there_at n (e ∷ tiles) (suc i) c tile is = either (is_corner c e.0) (there_at n tiles i c tile is)
  where
    either : (b : Bool) → is_some (tile_of n tiles c) ≡ true → is_some (cond b (Some e.1) (tile_of n tiles c)) ≡ true
    either true rest = refl
    either false rest = rest

module _ (n : ℕ) (tiles : Entries n) (c : Corner) (there : is_some (tile_of n tiles c) ≡ true) where
  own_corner : (origin : ℕ) → AreOnGrid n origin tiles → IsCornerOn origin c
  own_corner origin on = let tile = there_is (tile_of n tiles c) there in on c tile.0 tile.1

  pub north_west_grid : (q : Corner) → q ≡ nw_of c → IsOnOtherGrid n tiles q
  north_west_grid q is = subst (IsOnOtherGrid n tiles) (sym is) (λ origin one on. record {
    column = west_of origin c.x one (own_corner origin on).column;
    row = west_of origin c.y one (own_corner origin on).row;
  })

  pub north_east_grid : (q : Corner) → q ≡ ne_of c → IsOnOtherGrid n tiles q
  north_east_grid q is = subst (IsOnOtherGrid n tiles) (sym is) (λ origin one on. record {
    column = east_of origin c.x one (own_corner origin on).column;
    row = west_of origin c.y one (own_corner origin on).row;
  })

  pub south_west_grid : (q : Corner) → q ≡ sw_of c → IsOnOtherGrid n tiles q
  south_west_grid q is = subst (IsOnOtherGrid n tiles) (sym is) (λ origin one on. record {
    column = west_of origin c.x one (own_corner origin on).column;
    row = east_of origin c.y one (own_corner origin on).row;
  })

  pub south_east_grid : (q : Corner) → q ≡ se_of c → IsOnOtherGrid n tiles q
  south_east_grid q is = subst (IsOnOtherGrid n tiles) (sym is) (λ origin one on. record {
    column = east_of origin c.x one (own_corner origin on).column;
    row = east_of origin c.y one (own_corner origin on).row;
  })

-- ---- what settles a corner

module _ (n : ℕ) (r : GenerationsRule) (g : ℕ) (tiles : Entries n) where
  right_at : Option (Tile n) → Corner → Type 0
  right_at = IsRight n r g tiles

  pub settled_there : (new : Entries n) (c : Corner) → AllRight n r g tiles new → is_some (tile_of n new c) ≡ true → IsSettled n r g tiles new c
  settled_there new c all h = go (tile_of n new c) refl h
    where
      go : (o : Option (Tile n)) → tile_of n new c ≡ o → is_some o ≡ true → IsRight n r g tiles (tile_of n new c) c
      go (Some tile) e s = subst (λ o. IsRight n r g tiles o c) (sym e) (all c tile e)
      go None e s = absurd (search (rules, s))

  pub none_there : (new : Entries n) (c : Corner) → is_some (tile_of n new c) ≡ false → tile_of n new c ≡ None
  none_there new c h = go (tile_of n new c) h
    where
      go : (o : Option (Tile n)) → is_some o ≡ false → o ≡ None
      go (Some tile) s = absurd (search (rules, s))
      go None s = refl

  pub settled_dead : (new : Entries n) (c : Corner) (tile : Tile n) → tile_of n new c ≡ None → IsRight n r g tiles (Some tile) c
      → ((x y : ℕ) → x < 32 → y < 32 → tile_state n tile x y ≡ 0) → IsSettled n r g tiles new c
  settled_dead new c tile none right dead =
      subst (λ o. IsRight n r g tiles o c) (sym none) (λ f below around. record { shows = λ x y hx hy. sym (dead x y hx hy) ∙ (right f below around).shows x y hx hy })

  -- where a tile was put
  put_at : (old new : Entries n) (c : Corner) (tile : Tile n) → IsPut n old new c tile → (q : Corner) → ((tile_of n new q ≡ Some tile) × (c ≡ q)) ⊎ (tile_of n new q ≡ tile_of n old q)
  put_at old new c tile put q = go (is_corner c q) refl
    where
      go : (b : Bool) → is_corner c q ≡ b → ((tile_of n new q ≡ Some tile) × (c ≡ q)) ⊎ (tile_of n new q ≡ tile_of n old q)
      go true e = inl (put.found q ∙ ap (λ b. cond b (Some tile) (tile_of n old q)) e, corner_same c q e)
      go false e = inr (put.found q ∙ ap (λ b. cond b (Some tile) (tile_of n old q)) e)

  pub settled_put : (old new : Entries n) (c : Corner) (tile : Tile n) → IsPut n old new c tile → IsRight n r g tiles (Some tile) c → IsSettled n r g tiles new c
  settled_put old new c tile put right =
      subst (λ o. IsRight n r g tiles o c) (sym (put.found c ∙ ap (λ b. cond b (Some tile) (tile_of n old c)) (corner_itself c))) right

  pub keeps_put : (old new : Entries n) (c : Corner) (tile : Tile n) → IsPut n old new c tile → IsRight n r g tiles (Some tile) c → KeepsSettled n r g tiles old new
  keeps_put old new c tile put right = λ q settled. elim (put_at old new c tile put q) [
    | inl h ↦ subst (λ o. IsRight n r g tiles o q) (sym h.0) (subst (IsRight n r g tiles (Some tile)) h.1 right)
    | inr e ↦ subst (λ o. IsRight n r g tiles o q) (sym e) settled
  ]

  all_right_put : (old new : Entries n) (c : Corner) (tile : Tile n) → IsPut n old new c tile → IsRight n r g tiles (Some tile) c → AllRight n r g tiles old → AllRight n r g tiles new
  all_right_put old new c tile put right all = λ q t is. elim (put_at old new c tile put q) [
    | inl h ↦ subst (λ t'. IsRight n r g tiles (Some t') q) (same_Some tile t (sym h.0 ∙ is)) (subst (IsRight n r g tiles (Some tile)) h.1 right)
    | inr e ↦ all q t (sym e ∙ is)
  ]

  pub way_put : (room : ℕ) (old new : Entries n) (c : Corner) (tile : Tile n) → IsPut n old new c tile → IsRight n r g tiles (Some tile) c → IsOnOtherGrid n tiles c → IsAlive n tile → IsDistinct is_corner (keys_of new) → length old < room → IsInside 128 c
      → IsUnderWay n r g room tiles old → IsUnderWay n r g room tiles new
  way_put room old new c tile put right grid alive once few inside way = record {
    right = all_right_put old new c tile put right way.right;
    grid = λ q t is. elim (put_at old new c tile put q) [
      | inl h ↦ subst (IsOnOtherGrid n tiles) h.1 grid
      | inr e ↦ way.grid q t (sym e ∙ is)
    ];
    alive = λ q t is. elim (put_at old new c tile put q) [
      | inl h ↦ subst (IsAlive n) (same_Some tile t (sym h.0 ∙ is)) alive
      | inr e ↦ way.alive q t (sym e ∙ is)
    ];
    once = once;
    few = let longer : length new ≡ length old + 1 = ap length put.last ∙ length-append old ((c, tile) ∷ []) in omega arith;
    inside = subst (AllInside n) (sym put.last) (All-push (λ (e : Corner × Tile n). IsInside 128 e.0) old (c, tile) way.inside inside);
  }

  pub way_none : (room : ℕ) (new : Entries n) → new ≡ [] → IsUnderWay n r g room tiles new
  unfolding IsDistinct
  way_none room new none = subst (IsUnderWay n r g room tiles) (sym none) (record {
    right = λ c tile is. absurd (none-some tile is);
    grid = λ c tile is. absurd (none-some tile is);
    alive = λ c tile is. absurd (none-some tile is);
    once = tt;
    few = omega arith;
    inside = All-nil (λ (e : Corner × Tile n). IsInside 128 e.0);
  })

  pub around_kept : (old new : Entries n) (c : Corner) → KeepsSettled n r g tiles old new → AreSettledAround n r g tiles old c → AreSettledAround n r g tiles new c
  around_kept old new c kept around = record {
    north_west = kept _ around.north_west;
    north_east = kept _ around.north_east;
    south_west = kept _ around.south_west;
    south_east = kept _ around.south_east;
  }

  pub settled_none : (room : ℕ) (new : Entries n) → new ≡ [] → AreSettledBelow n r g room tiles new 0
  settled_none room new none = record {
    way = way_none room new none;
    around = λ i c tile h is. absurd (omega arith);
  }

  pub settled_more : (room i : ℕ) (old new : Entries n) (c : Corner) (tile : Tile n) → slice_get tiles i ≡ Some (c, tile) → AreSettledBelow n r g room tiles old i
      → IsUnderWay n r g room tiles new → AreSettledAround n r g tiles new c → KeepsSettled n r g tiles old new → AreSettledBelow n r g room tiles new (i + 1)
  settled_more room i old new c tile own so_far way around kept = record {
    way = way;
    around = λ j q t h is. elim (is_behind j i) [
      | before low ↦ around_kept old new q kept (so_far.around j q t low is)
      | behind k e ↦
          let same : j ≡ i = omega arith in
          let entry : Some (q, t) ≡ Some (c, tile) = sym is ∙ ap (slice_get tiles) same ∙ own in
          subst (AreSettledAround n r g tiles new) (sym (ap (λ (x : Corner × Tile n). x.0) (same_Some (q, t) (c, tile) entry))) around
    ];
  }

  -- ---- the map

  -- the corners around one on the other grid are on this one
  grid_before : (origin : ℕ) (k : ℤ) → IsOrigin origin → IsOnGrid (16 - origin) k → IsOnGrid origin (k +ℤ negsuc 15)
  grid_before origin k is h = elim is [
    | inl e ↦ record { ups = h.ups; downs = h.downs; is = let fact = h.is in omega (arith, ints, e, fact) }
    | inr e ↦ record { ups = h.ups; downs = h.downs + 1; is = let fact = h.is in omega (arith, ints, e, fact) }
  ]

  grid_after : (origin : ℕ) (k : ℤ) → IsOrigin origin → IsOnGrid (16 - origin) k → IsOnGrid origin (k +ℤ pos 16)
  grid_after origin k is h = elim is [
    | inl e ↦ record { ups = h.ups + 1; downs = h.downs; is = let fact = h.is in omega (arith, ints, e, fact) }
    | inr e ↦ record { ups = h.ups; downs = h.downs; is = let fact = h.is in omega (arith, ints, e, fact) }
  ]

  pub around_shows : (origin : ℕ) (f : Place → ℕ) (c : Corner) → IsOrigin origin → Shows n origin tiles f → IsOnGrid (16 - origin) c.x → IsOnGrid (16 - origin) c.y → ShowsAround n tiles f c
  around_shows origin f c is shows gx gy =
      let left = grid_before origin c.x is gx in
      let right = grid_after origin c.x is gx in
      let up = grid_before origin c.y is gy in
      let down = grid_after origin c.y is gy in
      record {
        north_west = shows.each (nw_of c) left up;
        north_east = shows.each (ne_of c) right up;
        south_west = shows.each (sw_of c) left down;
        south_east = shows.each (se_of c) right down;
      }

  -- a coordinate within 16 of one of the 32 in the middle of 64 is one of these
  record IsColumn (from k : ℤ) : Type 0 where
    column : ℕ
    within : column < 64
    there : k ≡ (from +ℤ negsuc 15) +ℤ pos column

  column_of : (from k : ℤ) (t u : ℕ) → t ≤ 16 → u < 32 → ((from +ℤ pos u) -ℤ pos t) ≤ℤ k → k ≤ℤ ((from +ℤ pos u) +ℤ pos t) → IsColumn from k
  column_of from k t u few h low high = record {
    column = nat_abs (k -ℤ (from +ℤ negsuc 15));
    within = omega (arith, ints, few, h, low, high);
    there = omega (arith, ints, few, h, low, high);
  }

  -- where the four tiles are dead nothing comes to be
  settled_nothing : IsRule r → g ≤ 16 → (new : Entries n) (c : Corner) → tile_of n tiles (nw_of c) ≡ None → tile_of n tiles (ne_of c) ≡ None → tile_of n tiles (sw_of c) ≡ None → tile_of n tiles (se_of c) ≡ None
      → IsRight n r g tiles None c
  settled_nothing rule few new c nw ne sw se = λ f below around.
      let none : (q : Corner) → tile_of n tiles q ≡ None → ShowsTile n (tile_of n tiles q) f (place_of q) → (x y : ℕ) → x < 32 → y < 32 → f (moved (place_of q) (pos x) (pos y)) ≡ 0 =
      λ q is shows x y hx hy. sym (shows.shows x y hx hy) ∙ ap (λ o. state_of n o x y) is in
      let dead = by_halves (λ _ _ d. f d ≡ 0) c
      (none (nw_of c) nw around.north_west) (none (ne_of c) ne around.north_east) (none (sw_of c) sw around.south_west) (none (se_of c) se around.south_east) in
      record {
        shows = λ x y hx hy. sym (stays_empty r f g (moved (place_of c) (pos x) (pos y)) rule (λ d near.
            (let a = column_of c.x d.x g x few hx near.left near.right in
            let b = column_of c.y d.y g y few hy near.above near.below in
            let e : d ≡ moved (place_of (nw_of c)) (pos a.column) (pos b.column) = place_is _ _ _ _ a.there b.there in
            ap f e ∙ dead a.column b.column a.within b.within)));
      }

  module _ (new : Entries n) (all : AllRight n r g tiles new) (done : (i : ℕ) (c : Corner) (tile : Tile n) → slice_get tiles i ≡ Some (c, tile) → AreSettledAround n r g tiles new c)
      (grid : (c : Corner) (tile : Tile n) → tile_of n new c ≡ Some tile → IsOnOtherGrid n tiles c) (rule : IsRule r) (few : g ≤ 16) where
    around_tile : (q : Corner) (tile : Tile n) → tile_of n tiles q ≡ Some tile → AreSettledAround n r g tiles new q
    around_tile q tile is =
        let p = place_from_lookup (is_corner q) tiles tile is in
        subst (AreSettledAround n r g tiles new) (sym (corner_same q p.1 p.3)) (done p.0 p.1 tile p.2)

    there_and_back : (a : ℤ) → (a +ℤ negsuc 15) +ℤ pos 16 ≡ a
    there_and_back a = omega (arith, ints)

    back_and_there : (a : ℤ) → (a +ℤ pos 16) +ℤ negsuc 15 ≡ a
    back_and_there a = omega (arith, ints)

    all_settled : (c : Corner) → IsSettled n r g tiles new c
    all_settled c = by_new (tile_of n new c) refl
      where
        at_corner : (q : Corner) → q ≡ c → IsSettled n r g tiles new q → IsRight n r g tiles (tile_of n new c) c
        at_corner q e h = subst (IsSettled n r g tiles new) e h

        by_se : tile_of n new c ≡ None → tile_of n tiles (nw_of c) ≡ None → tile_of n tiles (ne_of c) ≡ None → tile_of n tiles (sw_of c) ≡ None → (o : Option (Tile n)) → tile_of n tiles (se_of c) ≡ o → IsRight n r g tiles (tile_of n new c) c
        by_se none a b d (Some t) e = at_corner _ (corner_is _ _ _ _ (back_and_there c.y) (back_and_there c.x)) (around_tile (se_of c) t e).north_west
        by_se none a b d None e = subst (λ o. IsRight n r g tiles o c) (sym none) (settled_nothing rule few new c a b d e)

        by_sw : tile_of n new c ≡ None → tile_of n tiles (nw_of c) ≡ None → tile_of n tiles (ne_of c) ≡ None → (o : Option (Tile n)) → tile_of n tiles (sw_of c) ≡ o → IsRight n r g tiles (tile_of n new c) c
        by_sw none a b (Some t) e = at_corner _ (corner_is _ _ _ _ (back_and_there c.y) (there_and_back c.x)) (around_tile (sw_of c) t e).north_east
        by_sw none a b None e = by_se none a b e (tile_of n tiles (se_of c)) refl

        by_ne : tile_of n new c ≡ None → tile_of n tiles (nw_of c) ≡ None → (o : Option (Tile n)) → tile_of n tiles (ne_of c) ≡ o → IsRight n r g tiles (tile_of n new c) c
        by_ne none a (Some t) e = at_corner _ (corner_is _ _ _ _ (there_and_back c.y) (back_and_there c.x)) (around_tile (ne_of c) t e).south_west
        by_ne none a None e = by_sw none a e (tile_of n tiles (sw_of c)) refl

        by_nw : tile_of n new c ≡ None → (o : Option (Tile n)) → tile_of n tiles (nw_of c) ≡ o → IsRight n r g tiles (tile_of n new c) c
        by_nw none (Some t) e = at_corner _ (corner_is _ _ _ _ (there_and_back c.y) (there_and_back c.x)) (around_tile (nw_of c) t e).south_east
        by_nw none None e = by_ne none e (tile_of n tiles (ne_of c)) refl

        by_new : (o : Option (Tile n)) → tile_of n new c ≡ o → IsRight n r g tiles (tile_of n new c) c
        by_new (Some t) e = subst (λ o. IsRight n r g tiles o c) (sym e) (all c t e)
        by_new None e = by_nw e (tile_of n tiles (nw_of c)) refl

    pub all_later : AreLater n r g tiles new
    all_later = λ origin f is below shows. record {
      on = λ c tile e. grid c tile e origin is shows.on;
      each = λ c gx gy. all_settled c f below (around_shows origin f c is shows gx gy);
    }
