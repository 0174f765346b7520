-- The RLE text that a file is converted to, or why there is none.
use Rattle.std.specs.Prelude.{◌≡◌, ◌⊎◌, ℕ, ◌+◌, ◌≤◌, ◌<◌, ◌^◌, List, ◌++◌, Option, Some, None}
use Rattle.generations_rule.specs.Rule.{GenerationsRule}
use Rattle.pattern_cells.specs.declared.cell.Cell.{Cell}
use Rattle.export.specs.declared.fault.ExportFault.TheVariants.{GenRange}
use Rattle.cell_pictures.specs.declared.picture.Form.TheVariants.{Plain}
use Rattle.cell_files.specs.Comments.{comment_lines}
use Rattle.cell_files.specs.Formats.{format_of}
use Rattle.genedit_view.specs.declared.fault.ViewFault.{ViewFault}
use Rattle.genedit_view.specs.declared.options.ViewOptions.{ViewOptions}
use Rattle.genedit_view.specs.Fault.{fault_of_generation}
use Rattle.genedit_view.specs.Reading.{generation_told}
use Rattle.genedit_view.specs.Seeing.{AreSeen, IsNotSeen}
use Rattle.genedit_convert.specs.declared.options.ConvertOptions.{ConvertOptions}
use Rattle.genedit_convert.specs.Names.{text_named}
use Rattle.macrocell_lines.specs.Macrocell.{rule_name}

-- which cells of a text are meant: those that a view of it shows
abbrev pub as_view : ConvertOptions → ViewOptions
as_view o = record { form = Plain; window = None; generation = o.generation; rule = o.rule }

-- the generation that the text tells, and those that are asked for
abbrev pub asked : Option ℕ → ℕ
asked None = 0
asked (Some g) = g

abbrev pub generation_of : ConvertOptions → List ℕ → ℕ
generation_of o text = generation_told text + asked o.generation

-- the text's comments, and then what is written of its cells
pub record IsConverted (o : ConvertOptions) (text out : List ℕ) : Type 0 where
  pub rule : GenerationsRule
  pub cells : List Cell
  pub seen : AreSeen (as_view o) text rule cells
  pub fits : generation_of o text < 2 ^ 64
  pub is : out ≡ comment_lines (format_of text) text ++ text_named (rule_name rule) rule (generation_of o text) cells

-- the generation has more than 64 bits
pub record IsTooLate (o : ConvertOptions) (text : List ℕ) (fault : ViewFault) : Type 0 where
  pub rule : GenerationsRule
  pub cells : List Cell
  pub seen : AreSeen (as_view o) text rule cells
  pub late : 2 ^ 64 ≤ generation_of o text
  pub told : fault ≡ fault_of_generation GenRange

-- nothing is seen of the text, or its generation is too late
abbrev pub IsNotConverted : ConvertOptions → List ℕ → ViewFault → Type 0
IsNotConverted o text fault = IsNotSeen (as_view o) text fault ⊎ IsTooLate o text fault
