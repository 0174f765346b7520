-- Steps in turn.
use Rattle.std.proofs.Common.{◌≡◌, ℕ, zero, suc, ◌+◌, ◌*◌, ◌-◌, ◌/◌, ◌%◌, ◌<◌, ◌≤◌, length, inl, inr, refl, sym, ◌∙◌, ap, subst, arith, get_or}
use Rattle.std.specs.Prelude.{◌==◌, cond, pos, slice_get, Some}
use Rattle.std.proofs.lemmas.Bool.Decides.{eqb_tells}
use Rattle.std.proofs.lemmas.Option.{slice_get-get_or, same_Some}
use Rattle.generations_rule.specs.Place.{Place, moved}
use Rattle.generations_rule.specs.Rule.{GenerationsRule, IsRule}
use Rattle.generations_rule.specs.Evolution.{at}
use Rattle.generations_rule.proofs.EvolutionLaws.{runs_compose, stays_in_range}
use Rattle.tile_steps.specs.declared.fault.TileFault.{TileFault}
use Rattle.tile_steps.specs.declared.fault.TileFault.TheVariants.{Far, Full, Long, Memory}
use Rattle.tile_steps.specs.declared.tile.Tile.{Tile}
use Rattle.tile_steps.specs.declared.tiles.Corner.{Corner}
use Rattle.tile_steps.specs.Causes.{AreFewest, HoldsLater, IsRefusedRun, IsRefusedStep, IsWithin, ShowLater, generations_by, origin_after, tiles_in}
use Rattle.tile_steps.specs.Tiles.{AllInside, AreLater, Entries, IsEvolved, IsInside, IsOrigin, Shows, place_of}
use Rattle.tile_steps.proofs.WindowLemmas.{before, behind, is_behind}

other_origin : (origin : ℕ) → IsOrigin origin → IsOrigin (16 - origin)
other_origin origin is = elim is [
  | inl e ↦ inr (omega arith)
  | inr e ↦ inl (omega arith)
]

pub shows_same : (n origin : ℕ) (tiles : Entries n) (f h : Place → ℕ) → ((c : Place) → f c ≡ h c) → Shows n origin tiles f → Shows n origin tiles h
shows_same n origin tiles f h same shows = record {
  on = shows.on;
  each = λ c gx gy. record { shows = λ x y hx hy. (shows.each c gx gy).shows x y hx hy ∙ same (moved (place_of c) (pos x) (pos y)) };
}

origin_is : (origin steps : ℕ) → IsOrigin origin → IsOrigin (origin_after origin steps)
origin_is origin zero is = is
origin_is origin (suc steps) is = other_origin (origin_after origin steps) (origin_is origin steps is)

pub evolved_by : (n : ℕ) (r : GenerationsRule) (g steps : ℕ) (old new : Entries n) → ShowLater n r g steps old new → IsEvolved n r g old new
evolved_by n r g steps old new later = λ f below from. record {
  origin = origin_after from.origin steps;
  is = origin_is from.origin steps from.is;
  shows = later from.origin f from.is below from.shows;
}

-- ---- one step more

shows_more : (n : ℕ) (r : GenerationsRule) (a b steps : ℕ) (old mid new : Entries n) → IsRule r → ShowLater n r a steps old mid → AreLater n r b mid new → ShowLater n r (a + b) (suc steps) old new
shows_more n r a b steps old mid new rule so_far later = λ origin f is below shows.
    shows_same n (16 - origin_after origin steps) new (at r (at r f a) b) (at r f (a + b)) (runs_compose r f a b)
    (later (origin_after origin steps) (at r f a) (origin_is origin steps is) (λ c. stays_in_range r f a c rule below) (so_far origin f is below shows))

holds_more : (n : ℕ) (r : GenerationsRule) (a b steps : ℕ) (old mid : Entries n) (P : Entries n → Type 0) → IsRule r → ShowLater n r a steps old mid → HoldsLater n r b 1 mid P
    → HoldsLater n r (a + b) (suc steps) old P
holds_more n r a b steps old mid P rule so_far holds = λ origin f is below shows others shown.
    holds (origin_after origin steps) (at r f a) (origin_is origin steps is) (λ c. stays_in_range r f a c rule below) (so_far origin f is below shows) others
    (shows_same n (16 - origin_after origin steps) others (at r f (a + b)) (at r (at r f a) b) (λ c. sym (runs_compose r f a b c)) shown)

-- lists, of which one is another
abbrev with_last : (n : ℕ) → (ℕ → Entries n) → ℕ → Entries n → ℕ → Entries n
with_last n lists m last k = cond (k == m) last (lists k)

last_there : (n : ℕ) (lists : ℕ → Entries n) (m : ℕ) (last : Entries n) → with_last n lists m last m ≡ last
last_there n lists m last = elim (eqb_tells m m) [
  | inl is ↦ ap (λ b. cond b last (lists m)) is.0
  | inr other ↦ absurd (other.1 refl)
]

others_there : (n : ℕ) (lists : ℕ → Entries n) (m : ℕ) (last : Entries n) (k : ℕ) → (k ≡ m → ⊥) → with_last n lists m last k ≡ lists k
others_there n lists m last k apart = elim (eqb_tells k m) [
  | inl is ↦ absurd (apart is.1)
  | inr other ↦ ap (λ b. cond b last (lists k)) other.0
]

holds_to : (n : ℕ) (P : ℕ → Entries n → Type 0) (m : ℕ) (lists : ℕ → Entries n) (last : Entries n) → ((k : ℕ) → k ≤ m → P k (lists k)) → P (suc m) last
    → (k : ℕ) → k ≤ suc m → P k (with_last n lists (suc m) last k)
holds_to n P m lists last so_far own k h = elim (eqb_tells k (suc m)) [
  | inl same ↦
      subst (λ j. P j (with_last n lists (suc m) last j)) (sym same.1) (subst (P (suc m)) (sym (last_there n lists (suc m) last)) own)
  | inr apart ↦ (let other = apart.1 in subst (P k) (sym (others_there n lists (suc m) last k other)) (so_far k (omega (arith, h, other))))
]

tiles_in_same : (n count : ℕ) (these those : ℕ → Entries n) → ((k : ℕ) → k < count → these k ≡ those k) → tiles_in n count these ≡ tiles_in n count those
tiles_in_same n zero these those same = refl
tiles_in_same n (suc count) these those same =
    let rest = tiles_in_same n count these those (λ k h. same k (omega (arith, h))) in
    let last = ap length (same count (omega arith)) in
    omega (arith, rest, last)

-- behind the first step of a run and so many others
pub record IsRunTo (n : ℕ) (r : GenerationsRule) (g room windows others left : ℕ) (old now : Entries n) : Type 0 where
  pub later : ShowLater n r (generations_by g others) (suc others) old now
  pub fewest : AreFewest n r (generations_by g others) (suc others) old now
  pub inside : AllInside n now
  pub few : length now ≤ room
  pub behind : ℕ → Entries n
  pub show : (step : ℕ) → step ≤ others → ShowLater n r (generations_by g step) (suc step) old (behind step)
  pub each_few : (step : ℕ) → step ≤ others → length (behind step) ≤ room
  pub each_inside : (step : ℕ) → step ≤ others → AllInside n (behind step)
  pub last : behind others ≡ now
  pub most : left + 4 * (length old + tiles_in n others behind) ≤ windows
  pub spent : (origin : ℕ) (f : Place → ℕ) → IsOrigin origin → ((c : Place) → f c < r.states) → Shows n origin old f
      → (behind : ℕ → Entries n) → ((step : ℕ) → step < others → Shows n (origin_after origin (suc step)) (behind step) (at r f (generations_by g step)))
      → windows ≤ left + 4 * (length old + tiles_in n others behind)

module _ (n : ℕ) (r : GenerationsRule) (g room windows : ℕ) (old : Entries n) where
  begun : g % 16 ≡ generations_by g 0
  begun = omega arith

  pub run_begun : (left : ℕ) (now : Entries n) → windows ≡ left + 4 * length old → AreLater n r (g % 16) old now → AreFewest n r (g % 16) 1 old now → AllInside n now → length now ≤ room
      → IsRunTo n r g room windows 0 left old now
  run_begun left now spent later fewest inside few = record {
    later = subst (λ k. ShowLater n r k 1 old now) begun later;
    fewest = subst (λ k. AreFewest n r k 1 old now) begun fewest;
    inside = inside;
    few = few;
    behind = λ _. now;
    show = λ step h. (let none : 0 ≡ step = omega (arith, h) in subst (λ k. ShowLater n r (generations_by g k) (suc k) old now) none (subst (λ k. ShowLater n r k 1 old now) begun later));
    each_few = λ step h. few;
    each_inside = λ step h. inside;
    last = refl;
    most = omega (arith, spent);
    spent = λ origin f is below shows behind shown. omega (arith, spent);
  }

  first_refused : (P : Entries n → Type 0) → HoldsLater n r (g % 16) 1 old P → HoldsLater n r (generations_by g 0) 1 old P
  first_refused P holds = subst (λ k. HoldsLater n r k 1 old P) begun holds

  pub run_refused_first : (fault : TileFault) → IsRefusedStep n r (g % 16) room old fault → IsRefusedRun n r g room windows old fault
  run_refused_first Full h = record { step = 0; of = omega arith; holds = first_refused (λ others. room < length others) h }
  run_refused_first Far h = record { step = 0; of = omega arith; holds = first_refused (λ others. AllInside n others → ⊥) h }
  run_refused_first Long h = absurd h
  run_refused_first Memory h = tt

  pub too_long_first : (fault : TileFault) → fault ≡ Long → windows < 4 * length old → IsRefusedRun n r g room windows old fault
  too_long_first fault is more = subst (λ e. IsRefusedRun n r g room windows old e) (sym is) (record {
    steps = 0;
    of = omega arith;
    more = λ origin f one below shows behind shown. omega (arith, more);
  })

  module _ (others left : ℕ) (now : Entries n) (rule : IsRule r) (within : others < g / 16) (so_far : IsRunTo n r g room windows others left old now) where
    sixteen_more : generations_by g others + 16 ≡ generations_by g (suc others)
    sixteen_more = omega arith

    more_refused : (P : Entries n → Type 0) → HoldsLater n r 16 1 now P → HoldsLater n r (generations_by g (suc others)) (suc (suc others)) old P
    more_refused P holds = subst (λ k. HoldsLater n r k (suc (suc others)) old P) sixteen_more (holds_more n r (generations_by g others) 16 (suc others) old now P rule so_far.later holds)

    -- what the tiles before each step and these come to
    spent_more : (origin : ℕ) (f : Place → ℕ) → IsOrigin origin → ((c : Place) → f c < r.states) → Shows n origin old f
        → (behind : ℕ → Entries n) → ((step : ℕ) → step < suc others → Shows n (origin_after origin (suc step)) (behind step) (at r f (generations_by g step)))
        → windows + 4 * length now ≤ left + 4 * (length old + tiles_in n (suc others) behind)
    spent_more origin f one below shows lists shown =
        let before = so_far.spent origin f one below shows lists (λ step h. shown step (omega (arith, h))) in
        let last = so_far.fewest origin f one below shows (lists others) (shown others (omega arith)) in
        omega (arith, before, last)

    now_shows : (new : Entries n) → AreLater n r 16 now new → ShowLater n r (generations_by g (suc others)) (suc (suc others)) old new
    now_shows new later = subst (λ k. ShowLater n r k (suc (suc others)) old new) sixteen_more (shows_more n r (generations_by g others) 16 (suc others) old now new rule so_far.later later)

    pub run_more : (next rest : ℕ) (new : Entries n) → suc others ≡ next → left ≡ rest + 4 * length now → AreLater n r 16 now new → AreFewest n r 16 1 now new → AllInside n new → length new ≤ room
        → IsRunTo n r g room windows next rest old new
    run_more next rest new is spent later fewest inside few = subst (λ k. IsRunTo n r g room windows k rest old new) is (record {
      later = now_shows new later;
      fewest = more_refused (λ them. length new ≤ length them) fewest;
      inside = inside;
      few = few;
      behind = with_last n so_far.behind (suc others) new;
      show = holds_to n (λ step tiles. ShowLater n r (generations_by g step) (suc step) old tiles) others so_far.behind new so_far.show (now_shows new later);
      each_few = holds_to n (λ step tiles. length tiles ≤ room) others so_far.behind new so_far.each_few few;
      each_inside = holds_to n (λ step tiles. AllInside n tiles) others so_far.behind new so_far.each_inside inside;
      last = last_there n so_far.behind (suc others) new;
      most =
          let same = tiles_in_same n (suc others) (with_last n so_far.behind (suc others) new) so_far.behind (λ k h. others_there n so_far.behind (suc others) new k (λ e. omega (arith, h, e))) in
          let before = so_far.most in
          let last = ap length so_far.last in
          omega (arith, same, before, last, spent);
      spent = λ origin f one below shows behind shown. let so = spent_more origin f one below shows behind shown in omega (arith, so, spent);
    })

    pub run_refused_more : (fault : TileFault) → IsRefusedStep n r 16 room now fault → IsRefusedRun n r g room windows old fault
    run_refused_more Full h = record { step = suc others; of = omega (arith, within); holds = more_refused (λ them. room < length them) h }
    run_refused_more Far h = record { step = suc others; of = omega (arith, within); holds = more_refused (λ them. AllInside n them → ⊥) h }
    run_refused_more Long h = absurd h
    run_refused_more Memory h = tt

    pub too_long_more : (fault : TileFault) → fault ≡ Long → left < 4 * length now → IsRefusedRun n r g room windows old fault
    too_long_more fault is more = subst (λ e. IsRefusedRun n r g room windows old e) (sym is) (record {
      steps = suc others;
      of = omega (arith, within);
      more = λ origin f one below shows behind shown. let so = spent_more origin f one below shows behind shown in omega (arith, so, more);
    })

  pub run_evolved : (left : ℕ) (now : Entries n) (others : ℕ) → g / 16 ≡ others → IsRunTo n r g room windows others left old now → IsEvolved n r g old now
  run_evolved left now others is run =
      let all : generations_by g others ≡ g = omega (arith, is) in
      subst (λ k. IsEvolved n r k old now) all (evolved_by n r (generations_by g others) (suc others) old now run.later)

  pub run_within : (left : ℕ) (now : Entries n) (others : ℕ) → g / 16 ≡ others → IsRunTo n r g room windows others left old now → IsWithin n r g room windows old
  run_within left now others is run = subst (λ k. IsRunTo n r g room windows k left old now → IsWithin n r g room windows old) is (λ it. record {
    behind = it.behind;
    show = it.show;
    few = it.each_few;
    inside = it.each_inside;
    most = let fact = it.most in omega (arith, fact);
  }) run

-- ---- inside

-- the first tiles lie inside
pub record AreInsideBelow (n : ℕ) (tiles : Entries n) (index : ℕ) : Type 0 where
  pub inside : (i : ℕ) (c : Corner) (tile : Tile n) → i < index → slice_get tiles i ≡ Some (c, tile) → IsInside 128 c

pub inside_all : (n : ℕ) (tiles : Entries n) (index : ℕ) → length tiles ≤ index → AreInsideBelow n tiles index → AllInside n tiles
inside_all n tiles index is so_far = λ k d h.
    so_far.inside k (get_or tiles k d).0 (get_or tiles k d).1 (omega (arith, is, h)) (slice_get-get_or tiles k d h)

pub inside_none : (n : ℕ) (tiles : Entries n) → AreInsideBelow n tiles 0
inside_none n tiles = record { inside = λ i c tile h is. absurd (omega arith) }

pub inside_more : (n : ℕ) (tiles : Entries n) (index : ℕ) (c : Corner) (tile : Tile n) → slice_get tiles index ≡ Some (c, tile) → IsInside 128 c → AreInsideBelow n tiles index → AreInsideBelow n tiles (index + 1)
inside_more n tiles index c tile own inside so_far = record {
  inside = λ i q t h is. elim (is_behind i index) [
    | before low ↦ so_far.inside i q t low is
    | behind k e ↦
        let same : i ≡ index = omega arith in
        let entry : Some (q, t) ≡ Some (c, tile) = sym is ∙ ap (slice_get tiles) same ∙ own in
        subst (IsInside 128) (sym (ap (λ (x : Corner × Tile n). x.0) (same_Some (q, t) (c, tile) entry))) inside
  ];
}
