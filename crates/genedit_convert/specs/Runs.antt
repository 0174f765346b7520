-- What a conversion does to the source.
use Rattle.std.specs.Prelude.{◌≡◌, ◌⊎◌, ℕ, List, Option, Result, Ok, Err}
use Rattle.devices.specs.Source.{KnownSource}
use Rattle.genedit_io.specs.declared.fault.RunFault.{RunFault}
use Rattle.genedit_io.specs.Runs.{IsLeft, IsReadWhole}
use Rattle.genedit_view.specs.declared.fault.ViewFault.{ViewFault}
use Rattle.genedit_view.specs.declared.fault.ViewFault.TheVariants.{Run}
use Rattle.genedit_view.specs.Reading.{bounds_told}
use Rattle.genedit_view.specs.Seeing.{IsWantAt}
use Rattle.genedit_convert.specs.declared.options.ConvertOptions.{ConvertOptions}
use Rattle.genedit_convert.specs.Converted.{IsConverted, IsNotConverted, as_view}

-- A conversion in at most so many pulls. Either the whole of a text came, and what it is converted to is told, with the bounds
-- that it tells; or the whole of a text came that is not converted, or could not be worked out; or the source was left.
pub data IsConversion (o : ConvertOptions) (turns : ℕ) {A : Type 0} (out : A → List ℕ) (bounds : A → Option (List ℕ)) (result : Result A ViewFault)
    (source source' : KnownSource) : Type 0 where
  Made : (text : List ℕ) (made : A) → result ≡ Ok made → IsReadWhole turns text source source' → IsConverted o text (out made)
      → bounds made ≡ bounds_told text → IsConversion o turns out bounds result source source'
  Refused : (text : List ℕ) (fault : ViewFault) → result ≡ Err fault → IsReadWhole turns text source source'
      → IsNotConverted o text fault ⊎ IsWantAt (as_view o) text fault → IsConversion o turns out bounds result source source'
  Left : (fault : RunFault) → result ≡ Err (Run fault) → IsLeft turns fault source source' → IsConversion o turns out bounds result source source'
