-- Worked values of the definitions.
use Rattle.std.specs.Prelude.{◌≡◌, ℕ, [], ◌∷◌, Some, None, codes, refl, pos}
use Rattle.std.specs.Fmt.{digits}
use Rattle.generations_rule.specs.RuleText.{rule_of_text, text_of_set}
use Rattle.edit_stamps.specs.Edit.{PlaneEdit}
use Rattle.edit_stamps.specs.Stamp.{stamp_of}
use Rattle.documents.specs.declared.fault.DocumentFault.TheVariants.{SameStamp, NoDocument}
use Rattle.genedit_documents.specs.Differing.{difference_lines}
use Rattle.genedit_documents.specs.Faults.{fault_text}
use Rattle.genedit_documents.specs.Lines.{merged_line, new_line}
use Rattle.genedit_documents.specs.Listing.{first_of, log_text}

-- a state at 0 0
abbrev drawn : ℕ → ℕ → ℕ → PlaneEdit
drawn counter replica state = record { stamp = stamp_of counter replica; area = None; cells = record { x = pos 0; y = pos 0; state = state } ∷ [] }

pub made : new_line (codes "a.glwl") (rule_of_text (codes "23/3/2")) ≡ codes "new a.glwl 23/3/2\n"
unfolding digits text_of_set
made = refl

pub merged : merged_line (codes "a.glwl") 12 5 ≡ codes "merged a.glwl 12 new 5\n"
unfolding digits
merged = refl

pub listed : log_text (rule_of_text (codes "23/3/2")) (drawn 3 65 1 ∷ drawn 5 1 1 ∷ []) 7
    ≡ codes "edit 3 65 cells 0 0 1\nedit 5 1 cells 0 0 1\n2 edits 23/3/2 clock 5 lost 7\n"
unfolding digits text_of_set
listed = refl

pub nothing_listed : log_text (rule_of_text (codes "/2/3")) [] 0 ≡ codes "0 edits /2/3 clock 0 lost 0\n"
unfolding digits text_of_set
nothing_listed = refl

pub first_one : first_of (Some 1) (drawn 3 65 1 ∷ drawn 5 1 1 ∷ []) ≡ drawn 3 65 1 ∷ []
first_one = refl

-- an edit that the first alone has, one of both, and one of the second
pub differences :
    difference_lines (drawn 1 65 1 ∷ drawn 3 65 1 ∷ []) (drawn 3 65 1 ∷ drawn 4 66 1 ∷ []) (drawn 1 65 1 ∷ drawn 3 65 1 ∷ drawn 4 66 1 ∷ [])
    ≡ codes "- edit 1 65 cells 0 0 1\n+ edit 4 66 cells 0 0 1\n"
unfolding digits
differences = refl

pub clash : fault_text (SameStamp (stamp_of 3 65)) (codes "b.glwl") ≡ codes "refused 41 SameStamp 3 65 b.glwl: two edits have that counter and replica: see --renumber of genedit merge"
unfolding digits
clash = refl

pub no_document : fault_text NoDocument (codes "b.glwl") ≡ codes "refused 42 NoDocument b.glwl: it holds no record of a document"
unfolding digits
no_document = refl
