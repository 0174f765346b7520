-- Why a text is no script.
use Rattle.std.specs.Prelude.{◌≡◌, ℕ, Result, Err, ⊤}
use Rattle.genedit_script.specs.declared.fault.ScriptFault.{ScriptFault}
use Rattle.genedit_script.specs.declared.fault.ScriptFault.TheVariants.{Line, Memory}

-- a fault's line is the line of what is meant; want of memory is no part of a meaning
abbrev pub IsFaultOf : {A : Type 0} → ScriptFault → Result A ℕ → Type 0
IsFaultOf (Line n) meant = meant ≡ Err n
IsFaultOf Memory meant = ⊤
