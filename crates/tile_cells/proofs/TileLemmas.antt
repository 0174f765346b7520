-- What is listed of tiles, row by row.
use Rattle.std.proofs.Common.{◌≡◌, ℕ, ◌+◌, ◌*◌, ◌/◌, ◌%◌, ◌<◌, ◌≤◌, true, List, [], ◌∷◌, ◌++◌, length, refl, inl, inr, sym, ◌∙◌, ap, subst, arith, ℤ, pos}
use Rattle.std.specs.Prelude.{◌+ℤ◌, ◌-ℤ◌, nat_abs, is_some, Contains, Option, Some, None, slice_get}
use Rattle.std.specs.List.{All}
use Rattle.std.specs.List.Sorted.{IsPermutation}
use Rattle.std.proofs.lemmas.Int.{ints}
use Rattle.std.proofs.lemmas.List.Elements.{All-nil, All-push, Contains-append_left, Contains-push}
use Rattle.std.proofs.lemmas.List.Sorted.{All-permutation, Contains-permutation}
use Rattle.std.proofs.lemmas.Map.Entries.{place_from_lookup}
use Rattle.std.proofs.lemmas.Option.{same_Some, slice_get-get_or, slice_get_within, get_or_from_slice_get}
use Rattle.generations_rule.specs.Place.{Place, moved}
use Rattle.pattern_cells.specs.declared.cell.Cell.{Cell}
use Rattle.tile_steps.specs.declared.tile.Tile.{Tile}
use Rattle.tile_steps.specs.declared.tiles.Corner.{Corner}
use Rattle.tile_steps.specs.Tiles.{AllInside, Entries, IsInside, IsOnGrid, IsOrigin, ShowsSomewhere, is_corner, state_of, tile_of, tile_state}
use Rattle.tile_steps.proofs.MapLemmas.{all_at, corner_same, there_at}
use Rattle.tile_steps.proofs.WindowLemmas.{before, behind, is_behind}
use Rattle.tile_cells.specs.Listing.{AreCornersOf, AreOf, IsInBand, IsInBandRow, IsInRow, IsListedTo, Lists, ListsAll, ListsBand, ListsBandRow, ListsRow, ShowAt, states_in, tile_cell}
use Rattle.tile_cells.proofs.ListLemmas.{dead_at, lists_both, lists_dead, none_listed}

-- ---- a row of one tile

pub row_none : (n : ℕ) (tile : Option (Tile n)) (corner : Corner) (row : ℕ) (cells : List Cell) → ListsRow n tile corner row 0 cells cells
row_none n tile corner row cells f shows are = lists_dead f (IsInRow corner row 0) cells are (λ c is. absurd (let low = is.within in omega (arith, low)))

-- a row whose cells are dead
pub row_dead : (n : ℕ) (tile : Option (Tile n)) (corner : Corner) (row : ℕ) (cells : List Cell) → row < 32 → ((x : ℕ) → x < 32 → state_of n tile x row ≡ 0) → ListsRow n tile corner row 32 cells cells
row_dead n tile corner row cells within dead f shows are = lists_dead f (IsInRow corner row 32) cells are
    (λ c is. ap f is.there ∙ sym (shows.shows is.column row is.within within) ∙ dead is.column is.within)

pub row_more : (n : ℕ) (tile : Tile n) (corner : Corner) (row column : ℕ) (cell : Cell) (old mid new : List Cell) (at : Place) → row < 32 → column < 32
    → ListsRow n (Some tile) corner row column old mid → at ≡ tile_cell corner column row → cell.state ≡ tile_state n tile column row
    → ((f : Place → ℕ) → f at ≡ cell.state → AreOf f mid → Lists f (λ c. c ≡ at) mid new) → ListsRow n (Some tile) corner row (column + 1) old new
row_more n tile corner row column cell old mid new at low within so_far there state pushed f shows are =
    let first : Lists f (IsInRow corner row column) old mid = so_far f shows are in
    let own : f at ≡ cell.state = ap f there ∙ sym (shows.shows column row within low) ∙ sym state in
    lists_both f (IsInRow corner row column) (λ c. c ≡ at) (IsInRow corner row (column + 1)) old mid new first (pushed f own first.are_of)
    (λ c is. elim (is_behind is.column column) [
      | before h ↦ inl (record { column = is.column; within = h; there = is.there })
      | behind k e ↦
          let high = is.within in
          let same : is.column ≡ column = omega (arith, high, e) in
          inr (is.there ∙ ap (λ x. tile_cell corner x row) same ∙ sym there)
    ])

pub row_past : (n : ℕ) (tile : Option (Tile n)) (corner : Corner) (row columns : ℕ) (old new : List Cell) → 32 ≤ columns → ListsRow n tile corner row columns old new → ListsRow n tile corner row 32 old new
row_past n tile corner row columns old new all so_far f shows are =
    let lists : Lists f (IsInRow corner row columns) old new = so_far f shows are in
    record {
      are_of = lists.are_of;
      kept = lists.kept;
      here = λ c is. lists.here c (record { column = is.column; within = (let h = is.within in omega (arith, h, all)); there = is.there });
    }

-- another tile with the same cells
pub row_as : (n : ℕ) (tile other : Option (Tile n)) (corner : Corner) (row : ℕ) (old new : List Cell) → ((x y : ℕ) → x < 32 → y < 32 → state_of n other x y ≡ state_of n tile x y)
    → ListsRow n other corner row 32 old new → ListsRow n tile corner row 32 old new
row_as n tile other corner row old new same lists f shows are = lists f (record { shows = λ x y hx hy. same x y hx hy ∙ shows.shows x y hx hy }) are

-- ---- rows of a band

module _ (n : ℕ) (tiles : Entries n) (corners : List Corner) where
  pub band_row_none : (first index row : ℕ) (cells : List Cell) → index ≤ first → ListsBandRow n tiles corners first index row cells cells
  band_row_none first index row cells few f shows are = lists_dead f (IsInBandRow corners first index row) cells are
      (λ c is. absurd (let low = is.low in let high = is.high in omega (arith, low, high, few)))

  pub band_row_more : (first index row : ℕ) (corner : Corner) (old mid new : List Cell) → slice_get corners index ≡ Some corner
      → ListsBandRow n tiles corners first index row old mid → ListsRow n (tile_of n tiles corner) corner row 32 mid new → ListsBandRow n tiles corners first (index + 1) row old new
  band_row_more first index row corner old mid new there so_far own f shows are =
      let lists : Lists f (IsInBandRow corners first index row) old mid = so_far f shows are in
      lists_both f (IsInBandRow corners first index row) (IsInRow corner row 32) (IsInBandRow corners first (index + 1) row) old mid new lists (own f (shows index corner there) lists.are_of)
      (λ c is. elim (is_behind is.index index) [
        | before h ↦ inl (record { index = is.index; corner = is.corner; low = is.low; high = h; there = is.there; inside = is.inside })
        | behind k e ↦
            let high = is.high in
            let same : is.index ≡ index = omega (arith, high, e) in
            let one : is.corner ≡ corner = same_Some is.corner corner (sym is.there ∙ ap (slice_get corners) same ∙ there) in
            inr (subst (λ q. IsInRow q row 32 c) one is.inside)
      ])

  pub band_row_past : (first index past row : ℕ) (old new : List Cell) → past ≤ index → ListsBandRow n tiles corners first index row old new → ListsBandRow n tiles corners first past row old new
  band_row_past first index past row old new all so_far f shows are =
      let lists : Lists f (IsInBandRow corners first index row) old new = so_far f shows are in
      record {
        are_of = lists.are_of;
        kept = lists.kept;
        here = λ c is. lists.here c (record { index = is.index; corner = is.corner; low = is.low; high = (let high = is.high in omega (arith, high, all)); there = is.there; inside = is.inside });
      }

  -- ---- bands

  pub band_none : (first past : ℕ) (cells : List Cell) → ListsBand n tiles corners first past 0 cells cells
  band_none first past cells f shows are = lists_dead f (IsInBand corners first past 0) cells are (λ c is. absurd (let low = is.within in omega (arith, low)))

  pub band_more : (first past row : ℕ) (old mid new : List Cell) → ListsBand n tiles corners first past row old mid → ListsBandRow n tiles corners first past row mid new → ListsBand n tiles corners first past (row + 1) old new
  band_more first past row old mid new so_far own f shows are =
      let lists : Lists f (IsInBand corners first past row) old mid = so_far f shows are in
      lists_both f (IsInBand corners first past row) (IsInBandRow corners first past row) (IsInBand corners first past (row + 1)) old mid new lists (own f shows lists.are_of)
      (λ c is. elim (is_behind is.row row) [
        | before h ↦ inl (record { row = is.row; within = h; inside = is.inside })
        | behind k e ↦
            let high = is.within in
            let same : is.row ≡ row = omega (arith, high, e) in
            inr (subst (λ y. IsInBandRow corners first past y c) same is.inside)
      ])

  pub band_past : (first past rows : ℕ) (old new : List Cell) → 32 ≤ rows → ListsBand n tiles corners first past rows old new → ListsBand n tiles corners first past 32 old new
  band_past first past rows old new all so_far f shows are =
      let lists : Lists f (IsInBand corners first past rows) old new = so_far f shows are in
      record {
        are_of = lists.are_of;
        kept = lists.kept;
        here = λ c is. lists.here c (record { row = is.row; within = (let high = is.within in omega (arith, high, all)); inside = is.inside });
      }

  pub bands_none : (cells : List Cell) → ListsBand n tiles corners 0 0 32 cells cells
  bands_none cells f shows are = lists_dead f (IsInBand corners 0 0 32) cells are (λ c is. absurd (let high = is.inside.high in omega (arith, high)))

  pub band_empty : (first : ℕ) (cells : List Cell) → ListsBand n tiles corners first first 32 cells cells
  band_empty first cells f shows are = lists_dead f (IsInBand corners first first 32) cells are
      (λ c is. absurd (let low = is.inside.low in let high = is.inside.high in omega (arith, low, high)))

  pub bands_more : (first past : ℕ) (old mid new : List Cell) → ListsBand n tiles corners 0 first 32 old mid → ListsBand n tiles corners first past 32 mid new → ListsBand n tiles corners 0 past 32 old new
  bands_more first past old mid new so_far own f shows are =
      let lists : Lists f (IsInBand corners 0 first 32) old mid = so_far f shows are in
      lists_both f (IsInBand corners 0 first 32) (IsInBand corners first past 32) (IsInBand corners 0 past 32) old mid new lists (own f shows lists.are_of)
      (λ c is. elim (is_behind is.inside.index first) [
        | before h ↦ inl (record { row = is.row; within = is.within; inside = record { index = is.inside.index; corner = is.inside.corner; low = is.inside.low; high = h; there = is.inside.there; inside = is.inside.inside } })
        | behind k e ↦ inr (record { row = is.row; within = is.within; inside = record { index = is.inside.index; corner = is.inside.corner; low = omega (arith, e); high = is.inside.high; there = is.inside.there; inside = is.inside.inside } })
      ])

-- the tiles before the first of a band were listed
pub record AreListedBelow (n : ℕ) (tiles : Entries n) (corners : List Corner) (first index : ℕ) (cells : List Cell) : Type 0 where
  pub lists : ListsBand n tiles corners 0 first 32 [] cells
  pub low : first ≤ index
  pub whole : index ≡ length corners → first ≡ length corners

pub below_none : (n : ℕ) (tiles : Entries n) (corners : List Corner) (cells : List Cell) → cells ≡ [] → AreListedBelow n tiles corners 0 0 cells
below_none n tiles corners cells none = subst (AreListedBelow n tiles corners 0 0) (sym none) (record {
  lists = bands_none n tiles corners [];
  low = omega arith;
  whole = λ e. e;
})

pub below_more : (n : ℕ) (tiles : Entries n) (corners told : List Corner) (first index next : ℕ) (old new : List Cell) → told ≡ corners → AreListedBelow n tiles corners first index old
    → IsListedTo n tiles told first (index + 1) old new next → AreListedBelow n tiles corners next (index + 1) new
below_more n tiles corners told first index next old new same so_far own =
    let listed : IsListedTo n tiles corners first (index + 1) old new next = subst (λ qs. IsListedTo n tiles qs first (index + 1) old new next) same own in
    record {
      lists = bands_more n tiles corners first next [] old new so_far.lists listed.lists;
      low = listed.before;
      whole = listed.whole;
    }

-- ---- corners

-- the corners of the first tiles
pub record AreCornersBelow (n : ℕ) (tiles : Entries n) (corners : List Corner) (index : ℕ) : Type 0 where
  pub inside : All (IsInside 128) corners
  pub there : All (λ c. is_some (tile_of n tiles c) ≡ true) corners
  pub all : (i : ℕ) (c : Corner) (tile : Tile n) → i < index → slice_get tiles i ≡ Some (c, tile) → Contains corners c

pub corners_none : (n : ℕ) (tiles : Entries n) (corners : List Corner) → corners ≡ [] → AreCornersBelow n tiles corners 0
corners_none n tiles corners none = subst (λ qs. AreCornersBelow n tiles qs 0) (sym none) (record {
  inside = All-nil (IsInside 128);
  there = All-nil (λ c. is_some (tile_of n tiles c) ≡ true);
  all = λ i c tile h is. absurd (omega (arith, h));
})

pub corners_more : (n : ℕ) (tiles : Entries n) (corners : List Corner) (index : ℕ) (c : Corner) (tile : Tile n) → AllInside n tiles → slice_get tiles index ≡ Some (c, tile)
    → AreCornersBelow n tiles corners index → AreCornersBelow n tiles (corners ++ c ∷ []) (index + 1)
corners_more n tiles corners index c tile inside is so_far = record {
  inside = All-push (IsInside 128) corners c so_far.inside (all_at n tiles index c tile inside is);
  there = All-push (λ q. is_some (tile_of n tiles q) ≡ true) corners c so_far.there (there_at n tiles index c tile is);
  all = λ i q t h e. elim (is_behind i index) [
    | before low ↦ Contains-append_left corners (c ∷ []) q (so_far.all i q t low e)
    | behind k at ↦
        let same : i ≡ index = omega (arith, h, at) in
        let entry : Some (q, t) ≡ Some (c, tile) = sym e ∙ ap (slice_get tiles) same ∙ is in
        subst (Contains (corners ++ c ∷ [])) (sym (ap (λ (x : Corner × Tile n). x.0) (same_Some (q, t) (c, tile) entry))) (Contains-push corners c)
  ];
}

pub corners_all : (n : ℕ) (tiles : Entries n) (corners sorted : List Corner) (index : ℕ) → length tiles ≤ index → AreCornersBelow n tiles corners index → IsPermutation corners sorted → AreCornersOf n tiles sorted
corners_all n tiles corners sorted index past so_far moved = record {
  inside = All-permutation (IsInside 128) corners sorted moved so_far.inside;
  there = All-permutation (λ c. is_some (tile_of n tiles c) ≡ true) corners sorted moved so_far.there;
  all = λ i c tile is. Contains-permutation corners sorted c moved (so_far.all i c tile (let h = slice_get_within tiles i (c, tile) is in omega (arith, h, past)) is);
}

-- ---- the whole map

-- the square of a grid that a coordinate lies in
record IsInSquare (origin : ℕ) (z : ℤ) : Type 0 where
  first : ℤ
  offset : ℕ
  within : offset < 32
  there : z ≡ first +ℤ pos offset
  grid : IsOnGrid origin first

square_of : (origin : ℕ) (z : ℤ) → IsOrigin origin → IsInSquare origin z
square_of origin z is =
    let downs : ℕ = nat_abs z + 1 in
    let shifted : ℕ = nat_abs ((z +ℤ pos (32 * downs)) -ℤ pos origin) in
    let few : origin ≤ 16 = elim is [ inl e ↦ omega (arith, e) | inr e ↦ omega (arith, e) ] in
    record {
      first = z -ℤ pos (shifted % 32);
      offset = shifted % 32;
      within = omega arith;
      there = omega (arith, ints);
      grid = record { ups = shifted / 32; downs = downs; is = omega (arith, ints, few) };
    }

some_there : (n : ℕ) (tiles : Entries n) (c : Corner) → is_some (tile_of n tiles c) ≡ true → (tile : Tile n) × (tile_of n tiles c ≡ Some tile)
some_there n tiles c h = go (tile_of n tiles c) refl h
  where
    go : (o : Option (Tile n)) → tile_of n tiles c ≡ o → is_some o ≡ true → (tile : Tile n) × (tile_of n tiles c ≡ Some tile)
    go (Some tile) e s = (tile, e)
    go None e s = absurd (cc)

-- at the corners of all tiles the tiles show what they show
pub shown_at : (n : ℕ) (tiles : Entries n) (corners : List Corner) (f : Place → ℕ) → AreCornersOf n tiles corners → ShowsSomewhere n tiles f → ShowAt n tiles corners f
shown_at n tiles corners f are shows i corner is =
    let tile = some_there n tiles corner (subst (λ c. is_some (tile_of n tiles c) ≡ true) (get_or_from_slice_get corners i corner corner is) (are.there i corner (slice_get_within corners i corner is))) in
    let grid = shows.shows.on corner tile.0 tile.1 in
    shows.shows.each corner grid.column grid.row

pub lists_all : (n : ℕ) (tiles : Entries n) (corners : List Corner) (start cells : List Cell) (past : ℕ) → AreCornersOf n tiles corners → start ≡ [] → past ≡ length corners → ListsBand n tiles corners 0 past 32 start cells → ListsAll n tiles cells
lists_all n tiles corners start cells past are none all lists f shows c =
    let done : Lists f (IsInBand corners 0 past 32) start cells = lists f (shown_at n tiles corners f are shows) (none_listed f start none) in
    let x : IsInSquare shows.origin c.x = square_of shows.origin c.x shows.is in
    let y : IsInSquare shows.origin c.y = square_of shows.origin c.y shows.is in
    let corner : Corner = record { y = y.first; x = x.first } in
    let there : c ≡ tile_cell corner x.offset y.offset = λ i. record { x = x.there i; y = y.there i } in
    let own : state_of n (tile_of n tiles corner) x.offset y.offset ≡ f c = (shows.shows.each corner x.grid y.grid).shows x.offset y.offset x.within y.within ∙ ap f (sym there) in
    by_tile done x y corner there own (tile_of n tiles corner) refl
  where
    by_tile : Lists f (IsInBand corners 0 past 32) start cells → (x : IsInSquare shows.origin c.x) (y : IsInSquare shows.origin c.y) (corner : Corner) → c ≡ tile_cell corner x.offset y.offset
        → state_of n (tile_of n tiles corner) x.offset y.offset ≡ f c → (o : Option (Tile n)) → tile_of n tiles corner ≡ o → states_in cells c ≡ f c
    by_tile done x y corner there own None e = dead_at f cells c done.are_of (sym own ∙ ap (λ o. state_of n o x.offset y.offset) e)
    by_tile done x y corner there own (Some tile) e =
        let p = place_from_lookup (is_corner corner) tiles tile e in
        let same : corner ≡ p.1 = corner_same corner p.1 p.3 in
        let k = are.all p.0 p.1 tile p.2 in
        let found : slice_get corners k.0 ≡ Some p.1 = slice_get-get_or corners k.0 p.1 k.1 ∙ ap Some k.2 in
        done.here c (record {
          row = y.offset;
          within = y.within;
          inside = record {
            index = k.0;
            corner = p.1;
            low = omega arith;
            high = (let h = k.1 in omega (arith, h, all));
            there = found;
            inside = record { column = x.offset; within = x.within; there = there ∙ ap (λ q. tile_cell q x.offset y.offset) same };
          };
        })
