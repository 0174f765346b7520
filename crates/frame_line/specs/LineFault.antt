-- Why a body is not said, or none comes, as it is named.
use Rattle.std.specs.Prelude.{ℕ, List, codes}
use Rattle.frame_line.specs.declared.fault.LineFault.{LineFault}
use Rattle.frame_line.specs.declared.fault.LineFault.TheVariants.{FrameTooLong, Ended, Cut, Turns, Read, Write, Memory}

abbrev pub line_fault_text : LineFault → List ℕ
line_fault_text FrameTooLong = codes "FrameTooLong"
line_fault_text Ended = codes "Ended"
line_fault_text Cut = codes "Cut"
line_fault_text Turns = codes "Turns"
line_fault_text Read = codes "Read"
line_fault_text Write = codes "Write"
line_fault_text Memory = codes "Memory"
