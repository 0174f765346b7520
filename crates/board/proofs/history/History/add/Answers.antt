use Rattle.std.proofs.Common.{sym, ◌∙◌, ap, length}
use Rattle.board.proofs.Adding.{adds_moves}
use Rattle.board.proofs.history.History.add.Goals as goal

pub compare_exchange-found-requires : goal.compare_exchange-found-requires
compare_exchange-found-requires c =
    let h = c.args.self.now.head_is in
    let offer = c.plain-offer.ensures in
    let pen = c.no_pen-pen.ensures in
    let copy = c.again-seen.ensures in (
      ap (λ w. w.tracked) h,
      ap (λ s. s.book) copy ∙ c.requires.book,
      pen.0 ∙ (ap (λ s. s.book) copy ∙ c.requires.book),
      offer.0,
      rw (ap (λ w. w.key) h, pen.1, offer.1, offer.3) (adds_moves c.again-seen.result.log c.args.entry.now c.args.prefix.now.count (ap (λ s. length s.log) copy ∙ sym c.args.prefix.now.counted)),
    )
