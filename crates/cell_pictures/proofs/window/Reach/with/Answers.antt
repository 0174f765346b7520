use Rattle.std.proofs.Common.{rules}
use Rattle.cell_pictures.proofs.window.Reach.with.Goals as goal

pub returns-clause-left : goal.returns-clause-left
returns-clause-left c = search rules

pub returns-clause-right : goal.returns-clause-right
returns-clause-right c = search rules

pub returns-clause-top : goal.returns-clause-top
returns-clause-top c = search rules

pub returns-clause-bottom : goal.returns-clause-bottom
returns-clause-bottom c = search rules
