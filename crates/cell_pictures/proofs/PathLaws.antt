-- A path is written as its places come.
use Rattle.std.proofs.Common.{◌≡◌, inl, inr, ℕ, ◌+◌, ◌<◌, Bool, true, false, List, [], ◌∷◌, ◌++◌, map, length, get_or, drop, refl, sym, ap, subst, ◌∙◌, add-one, drop-cons, append_assoc, append-nil}
use Rattle.std.specs.Prelude.{Option, Some, None, Result, if◌then◌else◌}
use Rattle.std.proofs.lemmas.Bool.{cases_Bool}
use Rattle.devices.specs.Sink.{KnownSink}
use Rattle.generations_rule.specs.Place.{Place}
use Rattle.pattern_cells.specs.declared.cell.Cell.{Cell}
use Rattle.pattern_cells.specs.Cells.{place_of}
use Rattle.cell_pictures.specs.Drawn.{IsAdded, IsDrawn}
use Rattle.cell_pictures.specs.Paths.{IsPathBegun, TakesPlace, extended, path_closed, path_left}
use Rattle.cell_pictures.specs.Runs.{RunValue, cells_of_state, is_behind, is_seen, longer, run_at, runs_behind, runs_in}
use Rattle.cell_pictures.specs.Svg.{path_begin, path_end, path_text, run_text, runs_text}
use Rattle.cell_pictures.specs.Window.{WindowValue}
use Rattle.cell_pictures.proofs.DrawnLaws.{added_on, drawn_as, drawn_on}

-- ---- one place more

not_extended : (behind : Bool) (r : RunValue) → None ≡ (if behind then Some (longer r) else None) → behind ≡ false
not_extended true r e = absurd (cc)
not_extended false r e = refl

pub takes_next : (states state : ℕ) (a b : KnownSink) (r : RunValue) (c : Place) → None ≡ extended r c → IsAdded a b (run_text r) → TakesPlace states state a (Some r) c (run_at c) b
takes_next states state a b r c none added = record {
  text = run_text r;
  added = added;
  whole = λ places. rw (not_extended (is_behind r c) r none) (sym (append_assoc (run_text r) (runs_text (runs_behind (run_at c) places)) path_end));
}

-- ---- the cells of a state, from one of a list on

pub seen_here : (w : WindowValue) (state : ℕ) (cells : List Cell) (i : ℕ) (d : Cell) → i < length cells → is_seen w state (get_or cells i d) ≡ true →
    map place_of (cells_of_state w state (drop i cells)) ≡ place_of (get_or cells i d) ∷ map place_of (cells_of_state w state (drop (i + 1) cells))
seen_here w state cells i d below seen = rw (add-one, drop-cons cells i d below) (rw seen refl)

pub seen_later : (w : WindowValue) (state : ℕ) (cells : List Cell) (i : ℕ) (d : Cell) → i < length cells → is_seen w state (get_or cells i d) ≡ false →
    map place_of (cells_of_state w state (drop i cells)) ≡ map place_of (cells_of_state w state (drop (i + 1) cells))
seen_later w state cells i d below unseen = rw (add-one, drop-cons cells i d below) (rw unseen refl)

-- ---- the whole path

pub begun_on : (states state : ℕ) (a b c : KnownSink) (begun : Option RunValue) (r : RunValue) (place : Place) (left later all : List Place) → left ≡ place ∷ later →
    IsPathBegun states state a b begun left all → TakesPlace states state b begun place r c → IsPathBegun states state a c (Some r) later all
begun_on states state a b c begun r place left later all is p q = record {
  text = p.text ++ q.text;
  added = added_on a b c p.text q.text p.added q.added;
  whole =
      append_assoc p.text q.text (path_left states state (Some r) later)
      ∙ ap (λ rest. p.text ++ rest) (q.whole later)
      ∙ ap (λ places. p.text ++ path_left states state begun places) (sym is)
      ∙ p.whole;
}

closed_is : (states state : ℕ) (begun : Option RunValue) → path_closed begun ≡ path_left states state begun []
closed_is states state None = refl
closed_is states state (Some r) = ap (λ text. text ++ path_end) (sym (append-nil (run_text r)))

-- a run that was begun is one of a path
path_behind : (states state : ℕ) (r : RunValue) (places : List Place) →
    path_text states state (runs_behind r places) ≡ path_begin states state ++ runs_text (runs_behind r places) ++ path_end
path_behind states state r [] = refl
path_behind states state r (c ∷ places) = elim (cases_Bool (is_behind r c)) [
  | inl behind ↦ rw behind (path_behind states state (longer r) places)
  | inr apart ↦ rw apart refl
]

path_is : (states state : ℕ) (places : List Place) → path_left states state None places ≡ path_text states state (runs_in places)
path_is states state [] = refl
path_is states state (c ∷ places) = sym (append_assoc (path_begin states state) (runs_text (runs_behind (run_at c) places)) path_end) ∙ sym (path_behind states state (run_at c) places)

pub path_ended : {A E : Type 0} (states state : ℕ) (a b c : KnownSink) (begun : Option RunValue) (left all : List Place) (r : Result A E) → left ≡ [] →
    IsPathBegun states state a b begun left all → IsDrawn b r (path_closed begun) c → IsDrawn a r (path_text states state (runs_in all)) c
path_ended states state a b c begun left all r is p q =
    let whole : p.text ++ path_closed begun ≡ path_text states state (runs_in all) =
    ap (λ rest. p.text ++ rest) (closed_is states state begun) ∙ ap (λ places. p.text ++ path_left states state begun places) (sym is) ∙ p.whole ∙ path_is states state all in
    drawn_as a c r (p.text ++ path_closed begun) (path_text states state (runs_in all)) whole (drawn_on a b c r p.text (path_closed begun) p.added q)

pub begun_as : (states state : ℕ) (a b : KnownSink) (begun : Option RunValue) (left later all : List Place) → left ≡ later →
    IsPathBegun states state a b begun left all → IsPathBegun states state a b begun later all
begun_as states state a b begun left later all same p = subst (λ places. IsPathBegun states state a b begun places all) same p
