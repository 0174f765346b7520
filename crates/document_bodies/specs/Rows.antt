-- Worked values of the definitions.
use Rattle.std.specs.Prelude.{◌≡◌, ℕ, List, [], ◌∷◌, ◌++◌, None, Ok, Err, codes, map, refl, pos}
use Rattle.std.specs.Fmt.{digits}
use Rattle.generations_rule.specs.Rule.{GenerationsRule}
use Rattle.generations_rule.specs.RuleText.{rule_of_text, text_of_set}
use Rattle.edit_stamps.specs.Edit.{PlaneEdit}
use Rattle.edit_stamps.specs.Stamp.{stamp_of}
use Rattle.delta_exchange.specs.Spelling.{area_text, cell_text, delta_text, edit_text, head_text, place_text}
use Rattle.delta_exchange.specs.declared.fault.ReadFault.TheVariants as read
use Rattle.document_bodies.specs.declared.fault.BodyFault.TheVariants.{NoDocument, Read}
use Rattle.document_bodies.specs.Bodies.{edit_body, head_body}
use Rattle.document_bodies.specs.Reading.{edit_of}
use Rattle.document_bodies.specs.Newest.{newest_of}

abbrev life : GenerationsRule
life = rule_of_text (codes "23/3/2")

-- state 1 at 0 0
abbrev drawn : ℕ → ℕ → PlaneEdit
drawn counter replica = record { stamp = stamp_of counter replica; area = None; cells = record { x = pos 0; y = pos 0; state = 1 } ∷ [] }

-- the head of a message under `23/3/2`
abbrev message_head : List ℕ
message_head = codes "GLWD" ++ (1 ∷ 6 ∷ codes "23/3/2")

-- ---- bodies

pub first_body : head_body life ≡ message_head ++ (0 ∷ 0 ∷ 0 ∷ 0 ∷ [])
unfolding digits text_of_set head_text
first_body = refl

pub next_body :
    edit_body life (drawn 1 65)
    ≡ message_head ++ (0 ∷ 0 ∷ 0 ∷ 1 ∷ 0 ∷ 0 ∷ 0 ∷ 0 ∷ 0 ∷ 1 ∷ 0 ∷ 0x41 ∷ 0 ∷ 0 ∷ 0 ∷ 0 ∷ 1 ∷ 0x40 ∷ 0 ∷ 0 ∷ 0 ∷ 0x40 ∷ 0 ∷ 0 ∷ 0 ∷ 1 ∷ [])
unfolding digits text_of_set place_text cell_text area_text edit_text head_text
next_body = refl

-- ---- what bodies are read as

pub one_edit : edit_of life (edit_body life (drawn 1 65)) ≡ Ok (drawn 1 65)
unfolding digits text_of_set place_text cell_text area_text edit_text head_text
one_edit = refl

-- a first body, and a message of two edits
pub no_edit : edit_of life (head_body life) ≡ Err NoDocument
unfolding digits text_of_set head_text
no_edit = refl

pub two_edits : edit_of life (delta_text life (drawn 1 65 ∷ drawn 2 65 ∷ [])) ≡ Err NoDocument
unfolding digits text_of_set place_text cell_text area_text edit_text head_text
two_edits = refl

-- no bytes, another magic, and another rule's body
pub no_messages : map (edit_of life) ([] ∷ codes "GLWS" ∷ head_body (rule_of_text (codes "/2/3")) ∷ []) ≡ Err (Read read.Short) ∷ Err (Read read.Magic) ∷ Err (Read read.OtherRule) ∷ []
unfolding digits text_of_set head_text
no_messages = refl

-- ---- newest counters

pub newest : map (newest_of (drawn 4 65 ∷ drawn 9 66 ∷ drawn 7 65 ∷ [])) (65 ∷ 66 ∷ 67 ∷ []) ≡ 7 ∷ 9 ∷ 0 ∷ []
newest = refl
