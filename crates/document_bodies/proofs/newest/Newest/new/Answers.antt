use Rattle.document_bodies.proofs.NewestLaws.{all_none}
use Rattle.document_bodies.proofs.newest.Newest.new.Goals as goal

pub returns : goal.returns
returns c = all_none c.in_ok-vec.field-0.items c.in_ok-vec.ensures.items
