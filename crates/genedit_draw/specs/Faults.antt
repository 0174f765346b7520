-- Why a drawing ends before its commands do.
use Rattle.genedit_io.specs.declared.fault.RunFault.TheVariants.{Memory, StoreFull}
use Rattle.document_pen.specs.declared.fault.PenFault.{PenFault}
use Rattle.document_pen.specs.declared.fault.PenFault.TheVariants as pen
use Rattle.genedit_draw.specs.declared.fault.DrawFault.{DrawFault}
use Rattle.genedit_draw.specs.declared.fault.DrawFault.TheVariants.{File, Run}

abbrev pub memory_wanted : DrawFault
memory_wanted = Run Memory

-- by why a pen draws no more
abbrev pub fault_of_pen : PenFault → DrawFault
fault_of_pen pen.Memory = Run Memory
fault_of_pen pen.StoreFull = Run StoreFull
fault_of_pen pen.Write = File
