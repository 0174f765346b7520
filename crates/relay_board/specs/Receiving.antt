-- What a contract sees of a receipt.
use Rattle.std.specs.Prelude.{List}
use Rattle.board.specs.declared.entry.Entry.{Entry}
use Rattle.board.specs.Origins.{list_of}
use Rattle.receipts.specs.About.{entry_of}
use Rattle.receipts.specs.declared.rule.Answer.{Answer}

-- the entry that it names, and the list that has it
pub record Receiving : Type 0 where
  pub entry : Entry
  pub list : List Entry

-- what is seen of a receipt
abbrev pub receiving : Answer → Receiving
receiving a = record { entry = entry_of a; list = list_of a.front }
