-- Faults of programs, as users meet them.
use Rattle.std.specs.Prelude.{ℕ, List, [], ◌∷◌, ◌++◌, ◌==◌, if◌then◌else◌, codes, decimal, Option, Some, None, ⊤}
use Rattle.genedit_io.specs.declared.fault.RunFault.{RunFault}
use Rattle.genedit_io.specs.declared.fault.RunFault.TheVariants.{Script, Refused, Read, Turns, Write, Memory, StoreFull}

-- the status of the process
abbrev pub exit_status : RunFault → ℕ
exit_status (Script line) = 2
exit_status (Refused number place) = 2
exit_status Read = 3
exit_status Turns = 3
exit_status Write = 4
exit_status Memory = 5
exit_status StoreFull = 5

-- the name that a list of numbers and names has for a number
abbrev pub named_in : List (ℕ × List ℕ) → ℕ → List ℕ
named_in [] number = codes "?"
named_in (entry ∷ entries) number = if number == entry.0 then entry.1 else named_in entries number

-- the table of refusals
abbrev pub names : List (ℕ × List ℕ)
names =
    (1, codes "Slashes") ∷ (2, codes "Digit") ∷ (3, codes "States")
    ∷ (4, codes "Header") ∷ (5, codes "Tag") ∷ (6, codes "Count") ∷ (7, codes "State") ∷ (8, codes "TooMany")
    ∷ (9, codes "Nothing") ∷ (10, codes "OutOfPlane") ∷ (11, codes "StateRange")
    ∷ (13, codes "StoreFull") ∷ (14, codes "Magic") ∷ (15, codes "Version") ∷ (16, codes "OtherRule") ∷ (17, codes "Short")
    ∷ (18, codes "StampRange") ∷ (19, codes "NotCanonical") ∷ (20, codes "Trailing") ∷ (21, codes "FrameTooLong")
    ∷ (22, codes "GenRange") ∷ (23, codes "TooManyCells")
    ∷ (24, codes "ClockFull") ∷ (25, codes "NoSuchEdit") ∷ (26, codes "NoReplica") ∷ (27, codes "NoMessage")
    ∷ (28, codes "NotYours") ∷ (29, codes "Full") ∷ (30, codes "Closed") ∷ (31, codes "NoPlace") ∷ (32, codes "Size")
    ∷ (33, codes "Request") ∷ (34, codes "Cut") ∷ (35, codes "Turns") ∷ (36, codes "Read") ∷ (37, codes "Write")
    ∷ (38, codes "NoPattern") ∷ (39, codes "Script") ∷ (40, codes "OldStamp") ∷ (41, codes "SameStamp")
    ∷ (42, codes "NoDocument") ∷ (43, codes "Busy") ∷ (44, codes "Square") ∷ (45, codes "NoSeat") ∷ []

-- the name of a number; a number that the table has not is "?"
abbrev pub name_of_number : ℕ → List ℕ
name_of_number number = named_in names number

-- a refusal's name, with the place behind it where there is one
abbrev pub refusal_text : ℕ → Option ℕ → List ℕ
refusal_text number None = name_of_number number
refusal_text number (Some place) = name_of_number number ++ (codes " " ++ decimal place)

-- what the program says
abbrev pub run_fault_text : RunFault → List ℕ
run_fault_text (Script line) = codes "script fault at line " ++ decimal line
run_fault_text (Refused number place) = codes "refused " ++ (decimal number ++ (codes " " ++ refusal_text number place))
run_fault_text Read = codes "read fault"
run_fault_text Turns = codes "read fault"
run_fault_text Write = codes "write fault"
run_fault_text Memory = codes "out of memory"
run_fault_text StoreFull = codes "store full"

-- a fault that is no part of what a run means; that a store is full is told only of a whole text
abbrev pub IsWant : RunFault → Type 0
IsWant Memory = ⊤
IsWant StoreFull = ⊥
IsWant (Script line) = ⊥
IsWant (Refused number place) = ⊥
IsWant Read = ⊥
IsWant Turns = ⊥
IsWant Write = ⊥
