-- Why a service ends, as users meet it.
use Rattle.std.specs.Prelude.{ℕ, List, codes}
use Rattle.frame_service.specs.declared.fault.ServeFault.{ServeFault}
use Rattle.frame_service.specs.declared.fault.ServeFault.TheVariants.{FrameTooLong, Cut, Turns, Read, Write, Memory}

-- its number in the table of faults
abbrev pub serve_fault_number : ServeFault → ℕ
serve_fault_number FrameTooLong = 21
serve_fault_number Cut = 34
serve_fault_number Turns = 35
serve_fault_number Read = 36
serve_fault_number Write = 37
serve_fault_number Memory = 255

-- its name
abbrev pub serve_fault_text : ServeFault → List ℕ
serve_fault_text FrameTooLong = codes "FrameTooLong"
serve_fault_text Cut = codes "Cut"
serve_fault_text Turns = codes "Turns"
serve_fault_text Read = codes "Read"
serve_fault_text Write = codes "Write"
serve_fault_text Memory = codes "Memory"
