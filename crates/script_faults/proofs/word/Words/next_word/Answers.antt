use Rattle.std.proofs.Common.{ap, arith, length, length-append, length-drop}
use Rattle.std.specs.List.{prefix_len}
use Rattle.text_scan.specs.Bytes.{is_space_or_tab}
use Rattle.script_faults.proofs.word.Words.next_word.Goals as goal

pub returns-clause-within : goal.returns-clause-within
returns-clause-within c =
    omega (
      arith,
      ap length c.in_ok-text.ensures.whole,
      length-append c.in_ok-text.text.now c.in_ok-text.rest.now,
      c.args.self.now.within,
      length-drop (prefix_len is_space_or_tab c.args.self.now.rest.now) c.args.self.now.rest.now,
    )

pub overflow_sub-column-2 : goal.overflow_sub-column-2
overflow_sub-column-2 c =
    omega (
      arith,
      ap length c.in_ok-text.ensures.whole,
      length-append c.in_ok-text.text.now c.in_ok-text.rest.now,
      c.args.self.now.within,
      length-drop (prefix_len is_space_or_tab c.args.self.now.rest.now) c.args.self.now.rest.now,
    )
