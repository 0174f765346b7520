-- Worked values of the definitions.
use Rattle.std.specs.Prelude.{◌≡◌, ℕ, [], ◌∷◌, None, pos, refl}
use Rattle.edit_stamps.specs.Edit.{PlaneEdit}
use Rattle.edit_journal.specs.Journal.{noted}

-- an edit of one cell
abbrev pub one : ℕ → ℕ → PlaneEdit
one stamp state = record { stamp = stamp; area = None; cells = record { x = pos 0; y = pos 0; state = state } ∷ [] }

pub nothing_noted : noted (one 65537 1 ∷ []) [] ≡ one 65537 1 ∷ []
nothing_noted = refl

pub given_twice : noted [] (one 65537 1 ∷ one 65537 1 ∷ []) ≡ one 65537 1 ∷ []
given_twice = refl

pub noted_already : noted (one 65537 1 ∷ []) (one 131073 2 ∷ one 65537 1 ∷ []) ≡ one 65537 1 ∷ one 131073 2 ∷ []
noted_already = refl

-- another edit of a noted stamp is another edit
pub one_stamp_two_edits : noted (one 65537 1 ∷ []) (one 65537 2 ∷ []) ≡ one 65537 1 ∷ one 65537 2 ∷ []
one_stamp_two_edits = refl
