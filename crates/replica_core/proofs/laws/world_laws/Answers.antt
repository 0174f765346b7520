use Rattle.replica_core.proofs.HeadlineLaws.{agrees, answers_alike, exports_greatest, exports_same_bytes, writes_same_bytes, sends_texts, has_one_edit_a_stamp, has_one_winner, holds_greatest, never_goes_down}
use Rattle.replica_core.proofs.ReplyLaws.{has_one_list_of_replies}
use Rattle.replica_core.proofs.laws.world_laws.Goals as goal

pub returns-clause-holds : goal.returns-clause-holds
returns-clause-holds c = holds_greatest

pub returns-clause-agrees : goal.returns-clause-agrees
returns-clause-agrees c = agrees

pub returns-clause-stamps : goal.returns-clause-stamps
returns-clause-stamps c = has_one_edit_a_stamp

pub returns-clause-winner : goal.returns-clause-winner
returns-clause-winner c = has_one_winner

pub returns-clause-rises : goal.returns-clause-rises
returns-clause-rises c = never_goes_down

pub returns-clause-bytes : goal.returns-clause-bytes
returns-clause-bytes c = writes_same_bytes

pub returns-clause-messages : goal.returns-clause-messages
returns-clause-messages c = sends_texts

pub returns-clause-exports : goal.returns-clause-exports
returns-clause-exports c = exports_greatest

pub returns-clause-same_exports : goal.returns-clause-same_exports
returns-clause-same_exports c = exports_same_bytes

pub returns-clause-one_list : goal.returns-clause-one_list
returns-clause-one_list c = has_one_list_of_replies

pub returns-clause-answers : goal.returns-clause-answers
returns-clause-answers c = answers_alike
