-- Worked values of the definitions.
use Rattle.std.specs.Prelude.{◌≡◌, ◌++◌, [], ◌∷◌, Some, None, codes, refl, replicate}
use Rattle.std.specs.Fmt.{digits}
use Rattle.text_scan.specs.Words.{words}
use Rattle.genedit_script.specs.Script.{lines_from}
use Rattle.script_faults.specs.declared.note.Place.{Place}
use Rattle.script_check.specs.Block.{fault_place}
use Rattle.script_check.specs.Check.{own_refusal}
use Rattle.script_check.specs.Report.{count_text, entry_text, will_be_refused}
use Rattle.script_check.specs.Shown.{carets, line_text, shown_line}

rule_text : entry_text (codes "a.script") (codes "rule B3/S23\nreplicas 1\n") (record { place = record { line = 1; column = 6; width = 6 }; begins = [] }) (codes "no rule")
    ≡ codes "a.script:1:6: no rule\nrule B3/S23\n     ^^^^^^\n"
unfolding digits
rule_text = refl

-- behind the last line there is none to be shown
behind_all : entry_text (codes "a") (codes "\n") (record { place = record { line = 2; column = 1; width = 0 }; begins = [] }) (codes "no rule") ≡ codes "a:2:1: no rule\n\n^\n"
unfolding digits
behind_all = refl

second : line_text (codes "a\r\nb\nc") 2 ≡ codes "b"
second = refl

-- a tabulator is one byte wide
tabulator : shown_line (97 ∷ 9 ∷ 98 ∷ 195 ∷ 164 ∷ []) ≡ codes "a?b??"
tabulator = refl

-- a place behind what is shown, and one that begins in it
far : carets (record { line = 1; column = 300; width = 7 }) ≡ replicate 100 32 ++ codes "^"
far = refl

over : carets (record { line = 1; column = 99; width = 7 }) ≡ replicate 98 32 ++ codes "^^"
over = refl

faults : count_text 1 2 ≡ codes "1 faults\n"
unfolding digits
faults = refl

refusals : count_text 0 2 ≡ codes "2 refusals\n"
unfolding digits
refusals = refl

said : will_be_refused 10 ≡ codes "will be refused 10 OutOfPlane: "
unfolding digits
said = refl

-- ---- where refusals are told

-- byte 5 of a pattern's text, which begins behind line 3
command : Place
command = record { line = 3; column = 1; width = 9 }

byte_5 : fault_place (lines_from 1 (codes "rule B3/S23\nreplicas 1\npattern a\n#C\nx = 1\nend\n")) command 5 (Some 5)
    ≡ record { line = 5; column = 3; width = 1 }
unfolding command
byte_5 = refl

no_header : fault_place (lines_from 1 (codes "rule B3/S23\nreplicas 1\npattern a\n#C\n\t\nbo!\nend\n")) command 4 None
    ≡ record { line = 6; column = 1; width = 3 }
unfolding command
no_header = refl

empty_block : fault_place (lines_from 1 (codes "rule B3/S23\nreplicas 1\npattern a\n#C\nend\n")) command 4 None ≡ command
unfolding command
empty_block = refl

-- a command's own line, and what it tells
own : own_refusal [] command (words (codes "refused 38 NoPattern")) ≡ Some (record { command = 3; place = command; number = 38 })
unfolding command
own = refl

own_byte : own_refusal (lines_from 3 (codes "pattern a\nbo\n")) command (words (codes "refused 5 Tag 1"))
    ≡ Some (record { command = 3; place = record { line = 4; column = 2; width = 1 }; number = 5 })
unfolding command
own_byte = refl

no_refusal : own_refusal [] command (words (codes "pattern gun 36 cells")) ≡ None
unfolding command
no_refusal = refl
