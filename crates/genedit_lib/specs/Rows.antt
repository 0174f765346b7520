-- Worked values of the definitions.
use Rattle.std.specs.Prelude.{◌≡◌, ℕ, List, [], ◌∷◌, Some, None, codes, refl, pos, negsuc}
use Rattle.std.specs.Fmt.{digits}
use Rattle.generations_rule.specs.RuleText.{rule_of_text}
use Rattle.replica_events.specs.declared.event.Event.TheVariants.{Draw, SendState, Deliver, Show}
use Rattle.replica_events.specs.declared.edit_spec.EditSpec.TheVariants.{Cells, Clear}
use Rattle.edit_stamps.specs.declared.fault.EditFault.TheVariants.{OutOfPlane}
use Rattle.stamped_writes.specs.Write.{unwritten}
use Rattle.edit_stamps.specs.Edit.{PlaneEdit}
use Rattle.edit_stamps.specs.Stamp.{stamp_of}
use Rattle.replica_events.specs.declared.edit_spec.EditSpec.{EditSpec}
use Rattle.replica_core.specs.declared.event.Reply.{Reply}
use Rattle.replica_core.specs.declared.event.Reply.TheVariants.{Drawn, Sent, Taken, Shown, Refused}
use Rattle.genedit_script.specs.declared.command.Command.TheVariants.{Does, Names, Copies, Ors}
use Rattle.genedit_script.specs.declared.command.Paste.{Paste}
use Rattle.genedit_lib.specs.Run.{PrintsAs}
use Rattle.replica_core.specs.declared.fault.Fault.TheVariants.{Edit}
use Rattle.genedit_lib.specs.EditLines.{edit_line, edit_lines}
use Rattle.genedit_lib.specs.Output.{no_pattern_line, pattern_line, reply_line}

-- ---- replies

pub drawn : reply_line (Drawn 131073) ≡ codes "drawn 2 1\n"
unfolding digits
drawn = refl

pub sent : reply_line (Sent 12) ≡ codes "sent 12\n"
unfolding digits
sent = refl

pub taken : reply_line Taken ≡ codes "taken\n"
taken = refl

pub cell : reply_line (Shown (record { stamp = 65538; state = 255 })) ≡ codes "cell 255 1 2\n"
unfolding digits
cell = refl

pub unwritten_cell : reply_line (Shown unwritten) ≡ codes "cell 0 0 0\n"
unfolding digits
unwritten_cell = refl

pub refused : reply_line (Refused (Edit OutOfPlane)) ≡ codes "refused 10 OutOfPlane\n"
unfolding digits
refused = refl

-- ---- the lines of patterns

pub far_pattern :
    pattern_line (codes "p") (record { width = 4294967296; height = 1; pos = (negsuc 2147483647, negsuc 0); generation = 7; cells = [] })
    ≡ codes "pattern p 4294967296 1 0 -2147483648 -1 7"
unfolding digits
far_pattern = refl

pub no_such_pattern : no_pattern_line ≡ codes "refused 38 NoPattern"
unfolding digits
no_such_pattern = refl

-- ---- the lines of edits

-- replica 2 drew a cell, and replica 1 cleared an area
abbrev stroke : PlaneEdit
stroke = record { stamp = stamp_of 3 2; area = None; cells = record { x = pos 3; y = negsuc 3; state = 1 } ∷ [] }

abbrev clear : PlaneEdit
clear = record { stamp = stamp_of 2 1; area = Some (record { x = pos 0; y = pos 0; width = 2; height = 1 }); cells = [] }

pub drawn_cells : edit_line stroke ≡ codes "edit 3 2 cells 3 -4 1\n"
unfolding digits
drawn_cells = refl

pub cleared_area : edit_line clear ≡ codes "edit 2 1 area 0 0 2 1 cells\n"
unfolding digits
cleared_area = refl

pub each_edit_in_a_line : edit_lines (stroke ∷ clear ∷ []) ≡ codes "edit 3 2 cells 3 -4 1\nedit 2 1 area 0 0 2 1 cells\n"
unfolding digits
each_edit_in_a_line = refl

-- ---- the output of whole scripts

-- two replicas draw one cell with equal counters and exchange their maps
abbrev exchange : List ℕ
exchange = codes "rule /2/3\nreplicas 2\ncells 1 0 0 1\ncells 2 0 0 2\nstate 1\nstate 2\ndeliver 1 2\ndeliver 2 1\nshow 1 0 0\nshow 2 0 0\n"

abbrev one_cell : ℕ → EditSpec
one_cell state = Cells (record { x = pos 0; y = pos 0; state = state } ∷ [])

abbrev seen : Reply
seen = Shown (record { stamp = stamp_of 1 2; state = 2 })

pub both_show_what_replica_2_drew : PrintsAs exchange (codes "drawn 1 1\ndrawn 1 2\nsent 1\nsent 2\ntaken\ntaken\ncell 2 1 2\ncell 2 1 2\n")
unfolding digits
both_show_what_replica_2_drew = record {
  script = record {
    rule = rule_of_text (codes "/2/3");
    replicas = 2;
    commands = Does (Draw 1 (one_cell 1)) ∷ Does (Draw 2 (one_cell 2)) ∷ Does (SendState 1) ∷ Does (SendState 2)
        ∷ Does (Deliver 1 2) ∷ Does (Deliver 2 1) ∷ Does (Show 1 (pos 0) (pos 0)) ∷ Does (Show 2 (pos 0) (pos 0)) ∷ [];
  };
  read = refl;
  printed = record {
    replies = Drawn (stamp_of 1 1) ∷ Drawn (stamp_of 1 2) ∷ Sent 1 ∷ Sent 2 ∷ Taken ∷ Taken ∷ seen ∷ seen ∷ [];
    answered = (refl, (refl, (refl, (refl, (refl, (refl, (refl, (refl, tt))))))));
    printed_so = refl;
  };
}

-- patterns are named, put and refused, and an area is cleared
abbrev pastes : List ℕ
pastes = codes "rule /2/3\nreplicas 1\npattern a\n#CXRLE Pos=-1,2 Gen=7\nx = 2, y = 1\nA.!\nend\ncopy 1 a 3 4\nor 1 a 0 0\nclear 1 3 4 1 1\nshow 1 3 4\npattern b\nx = 3, y = 1\np!\nend\ncopy 1 b 0 0\n"

-- a paste at replica 1
abbrev paste_of : List ℕ → ℕ → ℕ → Paste
paste_of name x y = record { replica = 1; name = name; x = pos x; y = pos y }

pub pasted_cleared_and_refused :
    PrintsAs pastes (codes "pattern a 2 1 1 -1 2 7\ndrawn 1 1\ndrawn 2 1\ndrawn 3 1\ncell 0 3 1\nrefused 5 Tag 14\nrefused 38 NoPattern\n")
unfolding digits
pasted_cleared_and_refused = record {
  script = record {
    rule = rule_of_text (codes "/2/3");
    replicas = 1;
    commands = Names (codes "a") (codes "#CXRLE Pos=-1,2 Gen=7\nx = 2, y = 1\nA.!\n") ∷ Copies (paste_of (codes "a") 3 4) ∷ Ors (paste_of (codes "a") 0 0)
        ∷ Does (Draw 1 (Clear (record { x = pos 3; y = pos 4; width = 1; height = 1 }))) ∷ Does (Show 1 (pos 3) (pos 4))
        ∷ Names (codes "b") (codes "x = 3, y = 1\np!\n") ∷ Copies (paste_of (codes "b") 0 0) ∷ [];
  };
  read = refl;
  printed = record {
    replies = Drawn (stamp_of 1 1) ∷ Drawn (stamp_of 2 1) ∷ Drawn (stamp_of 3 1) ∷ Shown (record { stamp = stamp_of 3 1; state = 0 }) ∷ [];
    answered = (refl, (refl, (refl, (refl, tt))));
    printed_so = refl;
  };
}
