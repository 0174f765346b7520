use Rattle.std.proofs.Common.{◌≡◌, ◌++◌, drop}
use Rattle.client_session.specs.Returning.{news_in}
use Rattle.client_session.proofs.returning.unknown_edits.Given as goal

-- the edits that were found, and then those among the edits that are left, are those among all
abbrev pub invariant-loop-edit : goal.invariant-loop-edit
invariant-loop-edit l = news_in l.fn.known l.fn.edits ≡ l.news.items ++ news_in l.known (drop l.edit-index l.edits)
