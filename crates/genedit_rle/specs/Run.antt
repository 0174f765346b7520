-- How the run of a text into its canonical form ends.
use Rattle.std.specs.Prelude.{◌≡◌, ℕ, List, Result, Ok, Err}
use Rattle.devices.specs.Source.{KnownSource}
use Rattle.devices.specs.Sink.{KnownSink}
use Rattle.generations_rule.specs.Rule.{GenerationsRule}
use Rattle.genedit_io.specs.Runs.{IsRun}
use Rattle.genedit_io.specs.declared.fault.RunFault.{RunFault}
use Rattle.genedit_io.specs.declared.fault.RunFault.TheVariants.{Refused}
use Rattle.genedit_rle.specs.Canonical.{canonical}
use Rattle.genedit_rle.specs.Refusal.{FormRefusal, refusal_number, refusal_place}

-- the canonical form of a text
abbrev pub IsFormOf : GenerationsRule → List ℕ → List ℕ → Type 0
IsFormOf r text form = canonical r text ≡ Ok form

-- the text has no canonical form, and the fault tells the refusal's number and its place in the text
pub record IsRefusedText (r : GenerationsRule) (text : List ℕ) (fault : RunFault) : Type 0 where
  pub refusal : FormRefusal
  pub told : fault ≡ Refused (refusal_number refusal) (refusal_place refusal)
  pub first : canonical r text ≡ Err refusal

-- the run of a text into its canonical form, in at most so many pulls
abbrev pub IsFormRun : GenerationsRule → ℕ → {A : Type 0} → Result A RunFault → KnownSource → KnownSource → {K : Type 0} → (K → KnownSink) → K → K → Type 0
IsFormRun r turns result source source' known sink sink' = IsRun (IsFormOf r) (IsRefusedText r) turns result source source' known sink sink'
