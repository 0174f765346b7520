-- A report as it is printed: an entry for each note and each refusal, and a line of how many there are.
use Rattle.std.specs.Prelude.{◌≡◌, ℕ, ◌&&◌, not, ◌==◌, List, [], ◌∷◌, ◌++◌, length, map, count_by, codes, decimal, None, if◌then◌else◌}
use Rattle.genedit_io.specs.RunFault.{run_fault_text}
use Rattle.genedit_io.specs.declared.fault.RunFault.TheVariants.{Refused}
use Rattle.script_faults.specs.declared.note.Note.{Note}
use Rattle.script_faults.specs.declared.note.Place.{Place}
use Rattle.script_faults.specs.Faults.{is_fault, place_of}
use Rattle.script_check.specs.declared.refusals.Refusal.{Refusal}
use Rattle.script_check.specs.Shown.{carets, line_text, shown_line}

-- `NAME:LINE:COLUMN: `
abbrev pub place_text : List ℕ → Place → List ℕ
place_text name place = name ++ codes ":" ++ decimal place.line ++ codes ":" ++ decimal place.column ++ codes ": "

-- the line of the place, as it is shown, and the carets
abbrev pub line_shown : List ℕ → Place → List ℕ
line_shown line place = codes "\n" ++ shown_line line ++ codes "\n" ++ carets place ++ codes "\n"

-- what an entry is of: its place, and how what is said begins
pub record Entry : Type 0 where
  pub place : Place
  pub begins : List ℕ

-- the words of a note are free
abbrev pub entry_of_note : Note → Entry
entry_of_note note = record { place = place_of note; begins = [] }

-- `will be refused NUMBER NAME: `, and then words that are free
abbrev pub will_be_refused : ℕ → List ℕ
will_be_refused number = codes "will be " ++ run_fault_text (Refused number None) ++ codes ": "

abbrev pub entry_of_refusal : Refusal → Entry
entry_of_refusal refusal = record { place = refusal.place; begins = will_be_refused refusal.number }

-- the place, what is said, and the place's line
abbrev pub entry_text : List ℕ → List ℕ → Entry → List ℕ → List ℕ
entry_text name script entry words =
    place_text name entry.place ++ (entry.begins ++ words) ++ line_shown (line_text script entry.place.line) entry.place

-- the text is these entries for a script, in their order
pub data AreEntries (name script : List ℕ) : List Entry → List ℕ → Type 0 where
  no_entry : AreEntries name script [] []
  one_more : (entries : List Entry) (text : List ℕ) (entry : Entry) (words : List ℕ) → AreEntries name script entries text →
      AreEntries name script (entries ++ entry ∷ []) (text ++ entry_text name script entry words)

-- a text has these entries more
abbrev pub AppendEntries : List ℕ → List ℕ → List Entry → List ℕ → List ℕ → Type 0
AppendEntries name script entries old new = (before : List Entry) → AreEntries name script before old → AreEntries name script (before ++ entries) new

-- how many faults there are; or how many refusals, where there are some and no fault
abbrev pub count_text : ℕ → ℕ → List ℕ
count_text faults refusals =
    if (faults == 0) && not (refusals == 0) then decimal refusals ++ codes " refusals\n" else decimal faults ++ codes " faults\n"

-- the text of a script's notes and refusals
pub record IsReportText (name script : List ℕ) (notes : List Note) (refusals : List Refusal) (text : List ℕ) : Type 0 where
  pub entries : List ℕ
  pub are_entries : AreEntries name script (map entry_of_note notes ++ map entry_of_refusal refusals) entries
  pub whole : text ≡ entries ++ count_text (count_by is_fault notes) (length refusals)
