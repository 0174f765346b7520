-- What a view of a text does to the source and the sink.
use Rattle.std.specs.Prelude.{◌≡◌, ◌⊎◌, ℕ, List, Option, Result, Err, IfErr, IfOk}
use Rattle.devices.specs.Source.{KnownSource}
use Rattle.devices.specs.Sink.{KnownSink}
use Rattle.genedit_io.specs.declared.fault.RunFault.{RunFault}
use Rattle.genedit_io.specs.declared.fault.RunFault.TheVariants.{Write}
use Rattle.genedit_io.specs.Runs.{IsLeft, IsReadWhole}
use Rattle.cell_pictures.specs.Drawn.{IsDrawn}
use Rattle.genedit_view.specs.declared.fault.ViewFault.{ViewFault}
use Rattle.genedit_view.specs.declared.fault.ViewFault.TheVariants.{Run}
use Rattle.genedit_view.specs.declared.options.ViewOptions.{ViewOptions}
use Rattle.genedit_view.specs.Reading.{bounds_told}
use Rattle.genedit_view.specs.Seeing.{IsNotSeen, IsPictureOf, IsWantAt}

-- A view in at most so many pulls. Either the whole of a text came, and its picture went to the sink, which failed where the
-- view ends with a failed write, and else the view tells the bounds that the text tells; or the whole of a text came of which nothing is drawn, or whose picture could not be
-- worked out; or the source was left. Nothing is pushed, and the sink is as it was, where the view ends otherwise.
pub data IsView (o : ViewOptions) (turns : ℕ) {A : Type 0} (bounds_in : A → Option (List ℕ)) (result : Result A ViewFault) (source source' : KnownSource) (known known' : KnownSink) {K : Type 0} (sink sink' : K) : Type 0 where
  Drawn : (text picture : List ℕ) → IsReadWhole turns text source source' → IsPictureOf o text picture → IsDrawn known result picture known'
      → IfErr result (λ fault. fault ≡ Run Write) → IfOk result (λ told. bounds_in told ≡ bounds_told text)
      → IsView o turns bounds_in result source source' known known' sink sink'
  Refused : (text : List ℕ) (fault : ViewFault) → result ≡ Err fault → IsReadWhole turns text source source' → IsNotSeen o text fault ⊎ IsWantAt o text fault
      → sink' ≡ sink → IsView o turns bounds_in result source source' known known' sink sink'
  Left : (fault : RunFault) → result ≡ Err (Run fault) → IsLeft turns fault source source'
      → sink' ≡ sink → IsView o turns bounds_in result source source' known known' sink sink'
