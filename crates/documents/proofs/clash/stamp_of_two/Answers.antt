use Rattle.std.proofs.Common.{arith, ◌≡◌, true, false}
use Rattle.edit_stamps.specs.Edit.{is_edit}
use Rattle.documents.proofs.Walks.{one_edit, two_edits}
use Rattle.documents.proofs.clash.stamp_of_two.Goals as goal

pub returns-then-same-clause-none : goal.returns-then-same-clause-none
returns-then-same-clause-none c none =
    let same : is_edit c.in-Both.one.now c.in-Both.other.now ≡ true = grind arith in
    rw c.in-Both.is (one_edit c.in-Both.one.now c.in-Both.other.now same)

pub returns-else-same-clause-some : goal.returns-else-same-clause-some
returns-else-same-clause-some c =
    let differ : is_edit c.in-Both.one.now c.in-Both.other.now ≡ false = grind arith in
    rw c.in-Both.is (c.stamp.ensures, two_edits c.in-Both.one.now c.in-Both.other.now differ)
