use Rattle.square_store.proofs.store.Store.summary.Goals as goal

pub summary-requires : goal.summary-requires
summary-requires g c = rw (← c.self.view_is, ← c.part.view_is) at c.requires

pub returns : goal.returns
returns g c = rw (← c.self.view_is, ← c.part.view_is) (λ k at. c.self.invariant.1.each k _ _ at c.summary.ensures)
