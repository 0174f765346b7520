-- How many cells of each state there are at several generations of what a text tells.
use Rattle.std.specs.Prelude.{◌≡◌, ◌⊎◌, ◌+◌, ◌<◌, ◌≤◌, ℕ, true, List, Option, Some, None, Result, Err, IfErr, IfOk, length, nat_lt, slice_index_or, if◌then◌else◌}
use Rattle.text_scan.specs.Bytes.{◌>=>◌}
use Rattle.devices.specs.Sink.{KnownSink}
use Rattle.generations_rule.specs.Place.{Place}
use Rattle.generations_rule.specs.Rule.{GenerationsRule}
use Rattle.generations_rule.specs.Evolution.{at}
use Rattle.pattern_cells.specs.declared.cell.Cell.{Cell}
use Rattle.generation_engine.specs.Walk.{AreCellsOf}
use Rattle.export.specs.declared.fault.ExportFault.{ExportFault}
use Rattle.export.specs.declared.fault.ExportFault.TheVariants.{GenRange}
use Rattle.export.specs.Export.{last_generation}
use Rattle.map_periods.specs.PlanePeriods.{refuses_export}
use Rattle.command_words.specs.declared.ranges.GenerationRange.{GenerationRange}
use Rattle.command_words.specs.Ranges.{generation_at, last_of, range_spelled, steps_of}
use Rattle.genedit_io.specs.declared.fault.RunFault.TheVariants.{Write}
use Rattle.cell_pictures.specs.Drawn.{IsDrawn}
use Rattle.population_charts.specs.Chart.{chart_text}
use Rattle.population_charts.specs.Sample.{IsSampleOf, SampleValue}
use Rattle.genedit_view.specs.declared.fault.ViewFault.{ViewFault}
use Rattle.genedit_view.specs.declared.fault.ViewFault.TheVariants.{Run}
use Rattle.genedit_view.specs.Fault.{fault_of_generation}
use Rattle.genedit_view.specs.Reading.{IsReadAs, bounds_told}
use Rattle.genedit_view.specs.Seeing.{IsNotSeen, IsWantAt}
use Rattle.genedit_view.specs.Universes.{universe_view}

-- ---- of a map

-- a sample tells how many places have each state at a generation, of those that are not dead: as many as the cells that stand there
pub record IsSampledAt (r : GenerationsRule) (f : Place → ℕ) (g : ℕ) (s : SampleValue) : Type 0 where
  pub cells : List Cell
  pub stand : AreCellsOf (at r f g) cells
  pub counted : IsSampleOf r.states g cells s

-- one sample for each generation of a range, in order
pub record AreSampledIn (r : GenerationsRule) (f : Place → ℕ) (range : GenerationRange) (samples : List SampleValue) : Type 0 where
  pub many : length samples ≡ steps_of range + 1
  pub each : (k : ℕ) (d : SampleValue) → k < steps_of range + 1 → IsSampledAt r f (generation_at range k) (slice_index_or samples k d)

-- the last generation of a range is none
abbrev pub IsPastLast : GenerationRange → ExportFault → Type 0
IsPastLast range fault = (fault ≡ GenRange) × (last_generation < last_of range)

-- all of a range are generations, and one of them is refused as its export is
pub record IsSampleRefused (r : GenerationsRule) (f : Place → ℕ) (range : GenerationRange) (fault : ExportFault) : Type 0 where
  pub within : last_of range ≤ last_generation
  pub steps : ℕ
  pub one : steps ≤ steps_of range
  pub refused : refuses_export r f (generation_at range steps) fault

abbrev pub AreNotSampled : GenerationsRule → (Place → ℕ) → GenerationRange → ExportFault → Type 0
AreNotSampled r f range fault = IsPastLast range fault ⊎ IsSampleRefused r f range fault

-- ---- of a text

-- a text is read as a map, and these are the samples of its generations, each of which is one
pub record AreSamplesTold (given : Option GenerationsRule) (range : GenerationRange) (text : List ℕ) (r : GenerationsRule) (samples : List SampleValue) : Type 0 where
  pub states : Place → ℕ
  pub read : IsReadAs true given text r states
  pub within : last_of range ≤ last_generation
  pub are : AreSampledIn r states range samples

-- a text is read as a map, of which a generation is refused
pub record IsChartRefused (given : Option GenerationsRule) (range : GenerationRange) (text : List ℕ) (fault : ViewFault) : Type 0 where
  pub rule : GenerationsRule
  pub states : Place → ℕ
  pub read : IsReadAs true given text rule states
  pub refusal : ExportFault
  pub refused : AreNotSampled rule states range refusal
  pub told : fault ≡ fault_of_generation refusal

-- why no samples are told of a text: nothing is seen of it at the first generation, memory is wanting, or one of the generations is refused
abbrev pub IsNotCharted : Option GenerationsRule → GenerationRange → List ℕ → ViewFault → Type 0
IsNotCharted given range text fault =
    IsNotSeen (universe_view given range.first) text fault ⊎ (IsWantAt (universe_view given range.first) text fault ⊎ IsChartRefused given range text fault)

-- ---- the words

-- a range of 2^16 generations at most
abbrev pub if_few : GenerationRange → Option GenerationRange
if_few range = if nat_lt (steps_of range) 65536 then Some range else None

-- the range that a word asks a chart of
abbrev pub chart_range : List ℕ → Option GenerationRange
chart_range word = range_spelled word >=> if_few

-- ---- the chart

-- Either the chart of a text's samples went to the sink, which failed where the call ends with a failed write, and else the bounds
-- that the text tells are told; or nothing is charted of the text, and the sink is as it was.
pub data IsChart (given : Option GenerationsRule) (range : GenerationRange) (text : List ℕ) {A : Type 0} (bounds_in : A → Option (List ℕ)) (result : Result A ViewFault) (known known' : KnownSink) {K : Type 0} (sink sink' : K) : Type 0 where
  Charted : (r : GenerationsRule) (samples : List SampleValue) → AreSamplesTold given range text r samples → IsDrawn known result (chart_text r.states samples) known'
      → IfErr result (λ fault. fault ≡ Run Write) → IfOk result (λ told. bounds_in told ≡ bounds_told text)
      → IsChart given range text bounds_in result known known' sink sink'
  NotCharted : (fault : ViewFault) → result ≡ Err fault → IsNotCharted given range text fault → sink' ≡ sink → IsChart given range text bounds_in result known known' sink sink'
