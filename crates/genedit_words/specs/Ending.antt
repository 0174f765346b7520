-- The status of the process, by why it ends.
use Rattle.std.specs.Prelude.{◌≡◌, ◌≢◌, ◌⊎◌, ℕ}
use Rattle.clap.specs.Words.{kind_of}
use Rattle.clap.specs.declared.error.kind.ErrorKind.{ErrorKind}
use Rattle.clap.specs.declared.error.kind.ErrorKind.TheVariants.{DisplayHelp, DisplayVersion, OutOfMemory}
use Rattle.genedit_io.specs.declared.fault.RunFault.TheVariants.{Memory, Write}
use Rattle.genedit_io.specs.RunFault.{exit_status}
use Rattle.genedit_words.specs.declared.ending.Ending.{Ending}
use Rattle.genedit_words.specs.declared.ending.Ending.TheVariants as ending

-- the status with which an error of the words is told: 0 for help and the version, 2 for words at
-- fault; where it could not be told, that of the fault which kept it
pub record IsWordsStatus (kind : ErrorKind) (status : ℕ) : Type 0 where
  pub memory : kind ≡ OutOfMemory → status ≡ exit_status Memory
  pub shown : (kind ≡ DisplayHelp) ⊎ (kind ≡ DisplayVersion)
      → (status ≡ 0) ⊎ (status ≡ exit_status Write)
  pub mistake : kind ≢ OutOfMemory → kind ≢ DisplayHelp → kind ≢ DisplayVersion
      → (status ≡ 2) ⊎ (status ≡ exit_status Memory)

abbrev pub IsStatusOf : Ending → ℕ → Type 0
IsStatusOf (ending.Words error) status = IsWordsStatus (kind_of error) status
IsStatusOf ending.NoText status = status ≡ 2
IsStatusOf (ending.Rule rule) status = status ≡ 2
IsStatusOf (ending.Web web) status = status ≡ 2
IsStatusOf (ending.Lacking needs) status = status ≡ 2
IsStatusOf (ending.Run fault) status = status ≡ exit_status fault
