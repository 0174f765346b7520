use Rattle.byte_codec.proofs.PartLaws.{number_codecs, bytes_codec, mapped_codec, checked_codec, pair_codec, chosen_codec, many_codec, nested_codec, retold_codec}
use Rattle.byte_codec.proofs.laws.part_laws.Goals as goal

pub returns-clause-numbers : goal.returns-clause-numbers
returns-clause-numbers g c = number_codecs

pub returns-clause-bytes : goal.returns-clause-bytes
returns-clause-bytes g c = bytes_codec

pub returns-clause-mapped : goal.returns-clause-mapped
returns-clause-mapped g c = mapped_codec

pub returns-clause-checked : goal.returns-clause-checked
returns-clause-checked g c = checked_codec

pub returns-clause-pair : goal.returns-clause-pair
returns-clause-pair g c = pair_codec

pub returns-clause-chosen : goal.returns-clause-chosen
returns-clause-chosen g c = chosen_codec

pub returns-clause-many : goal.returns-clause-many
returns-clause-many g c = many_codec

pub returns-clause-nested : goal.returns-clause-nested
returns-clause-nested g c = nested_codec

pub returns-clause-retold : goal.returns-clause-retold
returns-clause-retold g c = retold_codec
