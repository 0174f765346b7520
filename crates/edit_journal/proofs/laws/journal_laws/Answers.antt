use Rattle.edit_journal.proofs.NotedLaws.{noted_members, noted_again, noted_distinct}
use Rattle.edit_journal.proofs.laws.journal_laws.Goals as goal

pub returns : goal.returns
returns c = record { members = noted_members; again = noted_again; once = noted_distinct }
