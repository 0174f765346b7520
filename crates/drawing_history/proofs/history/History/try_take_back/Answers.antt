use Rattle.drawing_history.proofs.Moving.{redone_within, undone_within}
use Rattle.drawing_history.proofs.history.History.try_take_back.Goals as goal

pub invariant_of-self : goal.invariant_of-self
invariant_of-self c =
    let moved = c.move_last in
    undone_within moved.result c.args.strokes c.self.inside.drawn moved.new.from c.self.inside.undone moved.new.to moved.ensures.ok moved.ensures.from moved.ensures.to c.self.invariant

pub invariant_of-self-in-Redo : goal.invariant_of-self-in-Redo
invariant_of-self-in-Redo c =
    let moved = c.move_last-in-Redo in
    redone_within moved.result c.args.strokes c.self.inside.undone moved.new.from c.self.inside.drawn moved.new.to moved.ensures.ok moved.ensures.from moved.ensures.to c.self.invariant
