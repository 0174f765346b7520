-- Texts that are handed on one after another.
use Rattle.std.proofs.Common.{◌≡◌, ℕ, ◌+◌, ◌≤◌, ◌<◌, List, [], ◌∷◌, ◌++◌, drop, sym, refl, ◌∙◌, ap, subst, append_assoc, arith, inl, inr}
use Rattle.std.specs.Prelude.{Option, Some, None, IfErr, IfOk, OnErr, Result, Ok, Err}
use Rattle.std.specs.Global.{Vec}
use Rattle.std.proofs.lemmas.List.{append-nil, drop_all, drop_more, take-append-drop}
use Rattle.std.proofs.lemmas.List.FromFn.{get_or-map-range_with_len, length-map-range_with_len, map-range_with_len_more, take-map-range_with_len}
use mathlib.Core.List.{IsPrefix}
use Rattle.generations_rule.specs.Place.{Place}
use Rattle.generations_rule.specs.Rule.{GenerationsRule}
use Rattle.generations_rule.specs.Evolution.{at}
use Rattle.stamped_tree.specs.Plane.{StampedPlane, map_of}
use Rattle.generation_engine.specs.Universe.{states_in_writes}
use Rattle.command_words.specs.declared.ranges.GenerationRange.{GenerationRange}
use Rattle.command_words.specs.Ranges.{generation_at, generations_of, last_of, steps_of}
use Rattle.export.specs.declared.fault.ExportFault.{ExportFault}
use Rattle.export.specs.declared.fault.ExportFault.TheVariants.{TooManyCells}
use Rattle.export.specs.Export.{IsExport, IsExportRefused, IsWant, last_generation, most_cells}
use Rattle.macrocell_lines.specs.Macrocell.{IsMacrocell}
use Rattle.replica_core.specs.declared.event.Stop.{Stop}
use Rattle.replica_core.specs.declared.event.Stop.TheVariants.{Memory}
use Rattle.told_generations.specs.declared.album.Put.{Put}
use Rattle.told_generations.specs.declared.album.Put.TheVariants.{Taken, Refused}
use Rattle.told_generations.specs.declared.film_form.FilmForm.{FilmForm}
use Rattle.told_generations.specs.declared.film_form.FilmForm.TheVariants.{Rle, Macrocell}
use Rattle.told_generations.specs.declared.film_form.FilmPlan.{FilmPlan}
use Rattle.told_generations.specs.Films.{AreTaken, BreaksFilm, EndsWith, Frame, IsFrameTold, MakesFilm, with_frames}
use Rattle.told_generations.specs.FilmTexts.{HasNoFilmText, IsFilmAnswer, IsFilmText}
use Rattle.told_generations.specs.Refusals.{refusal_line}
use Rattle.told_generations.proofs.CountLaws.{first_of}

-- ---- frames behind those that are known

pub with_none : (known : Option (List Frame)) → known ≡ with_frames known []
with_none None = refl
with_none (Some before) = ap Some (sym (append-nil before))

pub with_both : (known : Option (List Frame)) (some more : List Frame) → with_frames (with_frames known some) more ≡ with_frames known (some ++ more)
with_both None some more = refl
with_both (Some before) some more = ap Some (append_assoc before some more)

-- ---- generations of a range

-- those behind the first so many
abbrev pub behind_first : GenerationRange → ℕ → List ℕ
behind_first range n = drop n (generations_of range)

pub parted : (range : GenerationRange) (n : ℕ) → n ≤ steps_of range + 1 → generations_of range ≡ first_of range n ++ behind_first range n
parted range n within =
    sym (take-append-drop n (generations_of range)) ∙ ap (λ front. front ++ behind_first range n) (take-map-range_with_len (generation_at range) 0 (steps_of range + 1) n within)

-- the next one is the one that so many steps lead to
pub next_behind : (range : GenerationRange) (n : ℕ) → n < steps_of range + 1 → behind_first range n ≡ generation_at range n ∷ behind_first range (n + 1)
next_behind range n within =
    let size = length-map-range_with_len (generation_at range) 0 (steps_of range + 1) in
    drop_more (generations_of range) n 0 (omega (arith, size, within))
    ∙ ap (λ g. g ∷ behind_first range (n + 1)) (get_or-map-range_with_len (generation_at range) 0 (steps_of range + 1) n n 0 within (omega arith))

pub none_behind : (range : GenerationRange) → behind_first range (steps_of range + 1) ≡ []
none_behind range = drop_all (steps_of range + 1) (generations_of range) (omega (arith, length-map-range_with_len (generation_at range) 0 (steps_of range + 1)))

-- ---- one text after another

not_taken : Taken ≡ Refused → ⊥
not_taken is = absurd (cc)

module _ (plan : FilmPlan) (r : GenerationsRule) (f : Place → ℕ) where
  -- a text more
  one_more : {gs lines : List ℕ} {frames : List Frame} (g : ℕ) (text line : List ℕ) → AreTaken plan.form r f gs frames lines → IsFilmText plan.form r f g text
      → AreTaken plan.form r f (gs ++ g ∷ []) (frames ++ record { generation = g; text = text; put = Taken; line = line } ∷ []) (lines ++ line)
  one_more g text line AreTaken.none is =
      subst (λ (told : List ℕ). AreTaken plan.form r f (g ∷ []) (record { generation = g; text = text; put = Taken; line = line } ∷ []) told) (append-nil line) (AreTaken.more is AreTaken.none)
  one_more g text line (AreTaken.more {g = h} {gs = gs} {text = first_text} {line = first} {lines = lines} {frames = frames} shows rest) is =
      subst (λ (told : List ℕ). AreTaken plan.form r f (h ∷ (gs ++ g ∷ []))
      (record { generation = h; text = first_text; put = Taken; line = first } ∷ (frames ++ record { generation = g; text = text; put = Taken; line = line } ∷ [])) told)
      (sym (append_assoc first lines line)) (AreTaken.more shows (one_more g text line rest is))

  -- the first so many texts were taken
  pub record TakesFirst (n : ℕ) (album album' : Option (List Frame)) (out out' : List ℕ) : Type 0 where
    pub frames : List Frame
    pub lines : List ℕ
    pub taken : AreTaken plan.form r f (first_of plan.range n) frames lines
    pub handed : album' ≡ with_frames album frames
    pub printed : out' ≡ out ++ lines

  pub takes_none : (album : Option (List Frame)) (out : List ℕ) → TakesFirst 0 album album out out
  takes_none album out = record { frames = []; lines = []; taken = AreTaken.none; handed = with_none album; printed = sym (append-nil out) }

  module _ (album album' album'' : Option (List Frame)) (out out' out'' : List ℕ) (n : ℕ) (before : TakesFirst n album album' out out') where
    -- so are some more, which were handed on behind them
    handed_on : (more : List Frame) → album'' ≡ with_frames album' more → album'' ≡ with_frames album (before.frames ++ more)
    handed_on more handed = handed ∙ ap (λ (known : Option (List Frame)). with_frames known more) before.handed ∙ with_both album before.frames more

    told_on : (more : List ℕ) → out'' ≡ out' ++ more → out'' ≡ out ++ (before.lines ++ more)
    told_on more printed = printed ∙ ap (λ (text : List ℕ). text ++ more) before.printed ∙ append_assoc out before.lines more

    -- the next one was taken
    pub takes_more : (text : Option (List ℕ)) → IsFilmAnswer plan.form r f (generation_at plan.range n) text
        → IsFrameTold {E = Stop} (generation_at plan.range n) text album' album'' out' out'' (Ok Taken) → TakesFirst (n + 1) album album'' out out''
    takes_more None none told = absurd (not_taken told.0)
    takes_more (Some text) is told = record {
      frames = before.frames ++ record { generation = generation_at plan.range n; text = text; put = Taken; line = told.0 } ∷ [];
      lines = before.lines ++ told.0;
      taken =
          subst (λ (gs : List ℕ). AreTaken plan.form r f gs (before.frames ++ record { generation = generation_at plan.range n; text = text; put = Taken; line = told.0 } ∷ []) (before.lines ++ told.0))
          (sym (map-range_with_len_more (generation_at plan.range) 0 n n (omega arith)))
          (one_more (generation_at plan.range n) text told.0 before.taken is);
      handed = handed_on (record { generation = generation_at plan.range n; text = text; put = Taken; line = told.0 } ∷ []) told.1;
      printed = told_on told.0 told.2;
    }

    -- how the film ends at the next one, where that was not taken
    ends_at : (text : Option (List ℕ)) → IsFilmAnswer plan.form r f (generation_at plan.range n) text
        → IsFrameTold {E = Stop} (generation_at plan.range n) text album' album'' out' out'' (Ok Refused)
        → (last : List Frame) × ((told : List ℕ) × (EndsWith plan.form r f (generation_at plan.range n ∷ behind_first plan.range (n + 1)) last told × ((album'' ≡ with_frames album' last) × (out'' ≡ out' ++ told))))
    ends_at None none told =
        ([], (refusal_line TooManyCells, (inr (record { none = none; handed = refl; told = refl }), (told.1 ∙ with_none album', told.2))))
    ends_at (Some text) is told =
        (record { generation = generation_at plan.range n; text = text; put = Refused; line = told.0 } ∷ [], (told.0, (inl (record { text = text; is = is; handed = refl }), (told.1, told.2))))

    pub film_left : (text : Option (List ℕ)) → last_of plan.range ≤ last_generation → n < steps_of plan.range + 1 → IsFilmAnswer plan.form r f (generation_at plan.range n) text
        → IsFrameTold {E = Stop} (generation_at plan.range n) text album' album'' out' out'' (Ok Refused) → MakesFilm plan r f album album'' out out''
    film_left text within next is told =
        let end = ends_at text is told in
        record {
          within = within;
          done = first_of plan.range n;
          left = behind_first plan.range n;
          all = parted plan.range n (omega (arith, next));
          frames = before.frames;
          lines = before.lines;
          taken = before.taken;
          last = end.0;
          told = end.1.0;
          ends = subst (λ (gs : List ℕ). EndsWith plan.form r f gs end.0 end.1.0) (sym (next_behind plan.range n next)) end.1.1.0;
          handed = handed_on end.0 end.1.1.1.0;
          printed = told_on end.1.0 end.1.1.1.1;
        }

    -- nothing was told of the next one, or a part
    pub film_broken : n ≤ steps_of plan.range + 1 → album'' ≡ album' → IsPrefix out' out'' → BreaksFilm plan r f album album'' out out''
    film_broken within kept part = record {
      done = first_of plan.range n;
      left = behind_first plan.range n;
      all = parted plan.range n within;
      frames = before.frames;
      lines = before.lines;
      taken = before.taken;
      handed = kept ∙ before.handed;
      printed = subst (λ (text : List ℕ). IsPrefix text out'') before.printed part;
    }

  -- all were taken
  pub film_whole : (album album' : Option (List Frame)) (out out' : List ℕ) → last_of plan.range ≤ last_generation → TakesFirst (steps_of plan.range + 1) album album' out out' → MakesFilm plan r f album album' out out'
  film_whole album album' out out' within all = record {
    within = within;
    done = first_of plan.range (steps_of plan.range + 1);
    left = behind_first plan.range (steps_of plan.range + 1);
    all = parted plan.range (steps_of plan.range + 1) (omega arith);
    frames = all.frames;
    lines = all.lines;
    taken = all.taken;
    last = [];
    told = [];
    ends = subst (λ (gs : List ℕ). EndsWith plan.form r f gs [] []) (sym (none_behind plan.range)) (refl, refl);
    handed = all.handed ∙ ap (with_frames album) (sym (append-nil all.frames));
    printed = all.printed ∙ ap (λ (text : List ℕ). out ++ text) (sym (append-nil all.lines));
  }

  -- nothing was begun
  pub film_unbegun : (album album' : Option (List Frame)) (out out' : List ℕ) → album' ≡ album → IsPrefix out out' → BreaksFilm plan r f album album' out out'
  film_unbegun album album' out out' kept part = film_broken album album album' out out out' 0 (takes_none album out) (omega arith) kept part

-- ---- outcomes

pub on_err_so : {A E : Type 0} (result : Result A E) (P Q : Type 0) → (P → Q) → OnErr result P → OnErr result Q
on_err_so (Ok done) P Q then is = tt
on_err_so (Err fault) P Q then is = then is

-- what is wanting for a text is told by the same in another outcome
abbrev want_of : {A : Type 0} → Result A Stop → Stop
want_of (Ok done) = Memory
want_of (Err want) = want

pub same_want : {A : Type 0} (result : Result A Stop) (some other : Stop) → result ≡ Err some → result ≡ Err other → some ≡ other
same_want result some other is also = ap want_of (sym is ∙ also)

pub whole_part : (out : List ℕ) → IsPrefix out out
whole_part out = ([], append-nil out)

-- where memory is wanting an album is as it was
pub frame_broken : (g : ℕ) (text : Option (List ℕ)) (album album' : Option (List Frame)) (out out' : List ℕ) (want : Stop) → IsFrameTold g text album album' out out' (Err want)
    → (album' ≡ album) × IsPrefix out out'
frame_broken g None album album' out out' want told = told
frame_broken g (Some text) album album' out out' want told = told

-- ---- texts of a replica's rule and plane

module _ (r s : GenerationsRule) (p q : StampedPlane) (g : ℕ) (rule : s ≡ r) (plane : q ≡ p) (made : Result (Vec ℕ) ExportFault) where
  of_rle : (text : Vec ℕ) → made ≡ Ok text → IfOk made (λ (t : Vec ℕ). IsExport s (states_in_writes (map_of q)) g most_cells (Ok t.items)) → IsFilmText Rle r (states_in_writes (map_of p)) g text.items
  of_rle text is told =
      let here = subst (λ (m : Result (Vec ℕ) ExportFault). IfOk m (λ (t : Vec ℕ). IsExport s (states_in_writes (map_of q)) g most_cells (Ok t.items))) is told in
      subst (λ (x : GenerationsRule). IsExport x (states_in_writes (map_of p)) g most_cells (Ok text.items)) rule
      (subst (λ (x : StampedPlane). IsExport s (states_in_writes (map_of x)) g most_cells (Ok text.items)) plane here)

  pub rle_text : (form : FilmForm) (text : Vec ℕ) → form ≡ Rle → made ≡ Ok text → IfOk made (λ (t : Vec ℕ). IsExport s (states_in_writes (map_of q)) g most_cells (Ok t.items))
      → IsFilmText form r (states_in_writes (map_of p)) g text.items
  rle_text form text of is told = subst (λ (x : FilmForm). IsFilmText x r (states_in_writes (map_of p)) g text.items) (sym of) (of_rle text is told)

  of_macrocell : (text : Vec ℕ) → made ≡ Ok text → IfOk made (λ (t : Vec ℕ). IsMacrocell s g (at s (states_in_writes (map_of q)) g) t.items) → IsFilmText Macrocell r (states_in_writes (map_of p)) g text.items
  of_macrocell text is told =
      let here = subst (λ (m : Result (Vec ℕ) ExportFault). IfOk m (λ (t : Vec ℕ). IsMacrocell s g (at s (states_in_writes (map_of q)) g) t.items)) is told in
      subst (λ (x : GenerationsRule). IsMacrocell x g (at x (states_in_writes (map_of p)) g) text.items) rule
      (subst (λ (x : StampedPlane). IsMacrocell s g (at s (states_in_writes (map_of x)) g) text.items) plane here)

  pub macrocell_text : (form : FilmForm) (text : Vec ℕ) → form ≡ Macrocell → made ≡ Ok text → IfOk made (λ (t : Vec ℕ). IsMacrocell s g (at s (states_in_writes (map_of q)) g) t.items)
      → IsFilmText form r (states_in_writes (map_of p)) g text.items
  macrocell_text form text of is told = subst (λ (x : FilmForm). IsFilmText x r (states_in_writes (map_of p)) g text.items) (sym of) (of_macrocell text is told)

  many : IsExportRefused s (states_in_writes (map_of q)) g most_cells TooManyCells → IsExport s (states_in_writes (map_of q)) g most_cells (Err TooManyCells)
  many refused = elim refused [ inl want ↦ absurd want.0 | inr is ↦ is ]

  of_many : made ≡ Err TooManyCells → IfErr made (IsExportRefused s (states_in_writes (map_of q)) g most_cells) → HasNoFilmText Rle r (states_in_writes (map_of p)) g
  of_many is told =
      let here = subst (λ (m : Result (Vec ℕ) ExportFault). IfErr m (IsExportRefused s (states_in_writes (map_of q)) g most_cells)) is told in
      subst (λ (x : GenerationsRule). IsExport x (states_in_writes (map_of p)) g most_cells (Err TooManyCells)) rule
      (subst (λ (x : StampedPlane). IsExport s (states_in_writes (map_of x)) g most_cells (Err TooManyCells)) plane (many here))

  pub rle_none : (form : FilmForm) → form ≡ Rle → made ≡ Err TooManyCells → IfErr made (IsExportRefused s (states_in_writes (map_of q)) g most_cells) → HasNoFilmText form r (states_in_writes (map_of p)) g
  rle_none form of is told = subst (λ (x : FilmForm). HasNoFilmText x r (states_in_writes (map_of p)) g) (sym of) (of_many is told)

  pub macrocell_none : (form : FilmForm) → made ≡ Err TooManyCells → IfErr made IsWant → HasNoFilmText form r (states_in_writes (map_of p)) g
  macrocell_none form is told = absurd (subst (λ (m : Result (Vec ℕ) ExportFault). IfErr m IsWant) is told)
