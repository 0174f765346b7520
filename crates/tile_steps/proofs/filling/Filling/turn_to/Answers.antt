use Rattle.std.proofs.Common.{inl, inr, sym, ◌∙◌}
use Rattle.tile_steps.proofs.MapLemmas.{corner_same}
use Rattle.tile_steps.proofs.PutLemmas.{has_held, has_stored, held_shows, stored_shows}
use Rattle.tile_steps.proofs.filling.Filling.turn_to.Goals as goal

pub returns-then-is_one_corner-clause-corner : goal.returns-then-is_one_corner-clause-corner
returns-then-is_one_corner-clause-corner N c = sym (corner_same c.args.corner c.args.self.now.corner (sym c.is_one_corner.ensures ∙ c.if-is_one_corner.true))

pub returns-clause-shows : goal.returns-clause-shows
returns-clause-shows N c = λ f shows. held_shows N.row.N _ c.args.corner _ f c.requires.grid c.found-self.ensures (stored_shows N.row.N _ _ _ _ f c.in_ok-store.ensures.stored shows)

pub returns-then-is_one_corner-clause-corners : goal.returns-then-is_one_corner-clause-corners
returns-then-is_one_corner-clause-corners N c = λ q has. inl has

pub returns-clause-corners : goal.returns-clause-corners
returns-clause-corners N c = λ q has. elim (has_held N.row.N _ c.args.corner _ q has) [
  | inl before ↦ inl (has_stored N.row.N _ _ _ _ c.in_ok-store.ensures.stored q before)
  | inr here ↦ inr here
]
