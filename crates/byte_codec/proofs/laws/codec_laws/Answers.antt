use Rattle.byte_codec.proofs.CodecLaws.{keeps_texts_apart, has_one_text}
use Rattle.byte_codec.proofs.laws.codec_laws.Goals as goal

pub returns-clause-apart : goal.returns-clause-apart
returns-clause-apart g c = keeps_texts_apart

pub returns-clause-one_text : goal.returns-clause-one_text
returns-clause-one_text g c = has_one_text
