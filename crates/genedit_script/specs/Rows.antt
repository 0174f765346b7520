-- Worked values of the definitions.
use Rattle.std.specs.Prelude.{◌≡◌, [], ◌∷◌, Some, None, Ok, Err, codes, refl, pos, negsuc}
use Rattle.std.specs.Str.Lines.{lines}
use Rattle.generations_rule.specs.RuleText.{rule_of_text}
use Rattle.pattern_turns.specs.declared.turn.Turn.TheVariants.{Mirror}
use Rattle.text_scan.specs.Words.{words, signed_number}
use Rattle.replica_events.specs.declared.event.Event.TheVariants.{Draw, SendState, Deliver, Show}
use Rattle.replica_events.specs.declared.edit_spec.EditSpec.TheVariants.{Cells, Clear}
use Rattle.genedit_script.specs.declared.command.Command.TheVariants.{Does, Names, Copies, Ors, Turns}
use Rattle.command_words.specs.Values.{number_spelled, name_spelled}
use Rattle.genedit_script.specs.Script.{script_of, event_spelled, command_spelled, replicas_spelled}

-- ---- lines and words

pub two_lines : lines (codes "a b\r\nc") ≡ codes "a b" ∷ codes "c" ∷ []
two_lines = refl

-- only a carriage return before a line feed is dropped
pub return_at_the_end : lines (codes "a\r\r\nb\r") ≡ codes "a\r" ∷ codes "b\r" ∷ []
return_at_the_end = refl

pub no_line_behind_the_last : lines (codes "a\n\n") ≡ codes "a" ∷ [] ∷ []
no_line_behind_the_last = refl

pub three_words : words (codes "\t show 1  -2\t") ≡ codes "show" ∷ codes "1" ∷ codes "-2" ∷ []
three_words = refl

-- ---- numbers

pub leading_zeros : number_spelled (codes "004294967295") ≡ Some 4294967295
leading_zeros = refl

pub past_32_bits : number_spelled (codes "4294967296") ≡ None
past_32_bits = refl

pub no_sign : number_spelled (codes "-1") ≡ None
no_sign = refl

pub least_coordinate : signed_number (codes "-2147483648") ≡ Some (negsuc 2147483647)
least_coordinate = refl

pub past_the_least_coordinate : signed_number (codes "-2147483649") ≡ None
past_the_least_coordinate = refl

pub greatest_coordinate : signed_number (codes "2147483647") ≡ Some (pos 2147483647)
greatest_coordinate = refl

pub past_the_greatest_coordinate : signed_number (codes "2147483648") ≡ None
past_the_greatest_coordinate = refl

pub no_digit : signed_number (codes "-") ≡ None
no_digit = refl

-- ---- commands

pub two_cells : event_spelled (words (codes "cells 1 0 -1 255 7 8 0"))
    ≡ Some (Draw 1 (Cells (record { x = pos 0; y = negsuc 0; state = 255 } ∷ record { x = pos 7; y = pos 8; state = 0 } ∷ [])))
two_cells = refl

pub part_of_a_cell : event_spelled (words (codes "cells 1 0 0 1 0 0")) ≡ None
part_of_a_cell = refl

pub no_cell : event_spelled (words (codes "cells 1")) ≡ None
no_cell = refl

pub past_the_states : event_spelled (words (codes "cells 1 0 0 256")) ≡ None
past_the_states = refl

pub delivery : event_spelled (words (codes "deliver 3 2")) ≡ Some (Deliver 3 2)
delivery = refl

pub one_word_too_many : event_spelled (words (codes "state 1 2")) ≡ None
one_word_too_many = refl

pub no_command : event_spelled (words (codes "State 1")) ≡ None
no_command = refl

pub cleared : event_spelled (words (codes "clear 2 -3 4 5 6")) ≡ Some (Draw 2 (Clear (record { x = negsuc 2; y = pos 4; width = 5; height = 6 })))
cleared = refl

pub cleared_at_the_edge : event_spelled (words (codes "clear 2 -2147483648 2147483647 4294967295 0"))
    ≡ Some (Draw 2 (Clear (record { x = negsuc 2147483647; y = pos 2147483647; width = 4294967295; height = 0 })))
cleared_at_the_edge = refl

pub clear_without_height : event_spelled (words (codes "clear 2 -3 4 5")) ≡ None
clear_without_height = refl

pub clear_of_a_negative_side : event_spelled (words (codes "clear 2 -3 4 5 -6")) ≡ None
clear_of_a_negative_side = refl

pub copied : command_spelled (words (codes "copy 2 Glider7 -3 4")) ≡ Some (Copies (record { replica = 2; name = codes "Glider7"; x = negsuc 2; y = pos 4 }))
copied = refl

pub drawn_over : command_spelled (words (codes "or 2 Glider7 -3 4")) ≡ Some (Ors (record { replica = 2; name = codes "Glider7"; x = negsuc 2; y = pos 4 }))
drawn_over = refl

pub copied_with_a_word_too_many : command_spelled (words (codes "copy 2 Glider7 -3 4 5")) ≡ None
copied_with_a_word_too_many = refl

pub copied_without_a_name : command_spelled (words (codes "copy 2 -3 4")) ≡ None
copied_without_a_name = refl

-- ---- `-0` is 0 where a `-` may stand, in coordinates, and no number anywhere else

pub minus_nothing : signed_number (codes "-0") ≡ Some (pos 0)
minus_nothing = refl

pub minus_nothing_with_zeros : signed_number (codes "-000") ≡ Some (pos 0)
minus_nothing_with_zeros = refl

pub minus_nothing_in_a_cell :
    event_spelled (words (codes "cells 1 -0 -0 2")) ≡ Some (Draw 1 (Cells (record { x = pos 0; y = pos 0; state = 2 } ∷ [])))
minus_nothing_in_a_cell = refl

pub minus_nothing_in_an_area :
    event_spelled (words (codes "clear 1 -0 -0 2 3")) ≡ Some (Draw 1 (Clear (record { x = pos 0; y = pos 0; width = 2; height = 3 })))
minus_nothing_in_an_area = refl

pub minus_nothing_shown : event_spelled (words (codes "show 1 -0 -0")) ≡ Some (Show 1 (pos 0) (pos 0))
minus_nothing_shown = refl

pub minus_nothing_copied : command_spelled (words (codes "copy 1 a -0 -0")) ≡ Some (Copies (record { replica = 1; name = codes "a"; x = pos 0; y = pos 0 }))
minus_nothing_copied = refl

pub minus_nothing_drawn_over : command_spelled (words (codes "or 1 a -0 -0")) ≡ Some (Ors (record { replica = 1; name = codes "a"; x = pos 0; y = pos 0 }))
minus_nothing_drawn_over = refl

pub no_number : number_spelled (codes "-0") ≡ None
no_number = refl

pub no_drawing_replica : event_spelled (words (codes "cells -0 0 0 2")) ≡ None
no_drawing_replica = refl

pub no_state : event_spelled (words (codes "cells 1 0 0 -0")) ≡ None
no_state = refl

pub no_clearing_replica : event_spelled (words (codes "clear -0 0 0 2 3")) ≡ None
no_clearing_replica = refl

pub no_width : event_spelled (words (codes "clear 1 0 0 -0 3")) ≡ None
no_width = refl

pub no_height : event_spelled (words (codes "clear 1 0 0 2 -0")) ≡ None
no_height = refl

pub no_sender : event_spelled (words (codes "state -0")) ≡ None
no_sender = refl

pub no_message : event_spelled (words (codes "deliver -0 1")) ≡ None
no_message = refl

pub no_receiver : event_spelled (words (codes "deliver 1 -0")) ≡ None
no_receiver = refl

pub no_shown_replica : event_spelled (words (codes "show -0 0 0")) ≡ None
no_shown_replica = refl

pub no_copying_replica : command_spelled (words (codes "copy -0 a 0 0")) ≡ None
no_copying_replica = refl

pub no_replica_drawn_over : command_spelled (words (codes "or -0 a 0 0")) ≡ None
no_replica_drawn_over = refl

pub no_count_of_replicas : replicas_spelled (words (codes "replicas -0")) ≡ None
no_count_of_replicas = refl

-- ---- turns

pub turned : command_spelled (words (codes "turn a b mirror"))
    ≡ Some (Turns (record { name = codes "a"; new_name = codes "b"; turn = Mirror }))
turned = refl

pub turned_by_a_replica : command_spelled (words (codes "turn 1 a b mirror")) ≡ None
turned_by_a_replica = refl

-- ---- names

pub shortest_name : name_spelled (codes "z") ≡ Some (codes "z")
shortest_name = refl

pub longest_name : name_spelled (codes "abcdefghijklmn09") ≡ Some (codes "abcdefghijklmn09")
longest_name = refl

pub name_of_17_letters : name_spelled (codes "abcdefghijklmno09") ≡ None
name_of_17_letters = refl

pub no_letter : name_spelled (codes "a_b") ≡ None
no_letter = refl

pub no_letters : name_spelled [] ≡ None
no_letters = refl

-- ---- scripts

pub whole :
    script_of (codes "# two replicas\r\nrule /2/3\n\n\treplicas 02\ncells 1 0 0 1\nstate 1\n #\ndeliver 1 2\nshow 2 0 0")
    ≡ Ok (record {
      rule = rule_of_text (codes "/2/3");
      replicas = 2;
      commands = Does (Draw 1 (Cells (record { x = pos 0; y = pos 0; state = 1 } ∷ []))) ∷ Does (SendState 1) ∷ Does (Deliver 1 2) ∷ Does (Show 2 (pos 0) (pos 0)) ∷ [];
    })
whole = refl

pub fault_in_the_third_line : script_of (codes "rule /2/3\nreplicas 1\ncells 1 0 0\n") ≡ Err 3
fault_in_the_third_line = refl

pub first_fault_counts : script_of (codes "rule /2/3\nreplicas 1\n\n# a\nrule /2/3\ncells\n") ≡ Err 5
first_fault_counts = refl

pub no_bytes : script_of [] ≡ Err 1
no_bytes = refl

pub only_comments : script_of (codes "# a\n\n# b") ≡ Err 4
only_comments = refl

pub no_replicas : script_of (codes "rule /2/3\n\n") ≡ Err 3
no_replicas = refl

pub too_many_replicas : script_of (codes "rule /2/3\nreplicas 65") ≡ Err 2
too_many_replicas = refl

pub no_rule : script_of (codes "rule 23/3\nreplicas 1") ≡ Err 1
no_rule = refl

pub return_without_line_feed : script_of (codes "rule /2/3\r\nreplicas 1\r\nstate 1\r") ≡ Err 3
return_without_line_feed = refl

-- ---- blocks

-- comment lines, blank lines, and lines that only begin or end with `end` belong to the text
pub block :
    script_of (codes "rule /2/3\nreplicas 1\npattern a\r\n#C b\r\n\n \n# c\r\n end\nend \nends\nend\r\ncopy 1 a 0 0")
    ≡ Ok (record {
      rule = rule_of_text (codes "/2/3");
      replicas = 1;
      commands = Names (codes "a") (codes "#C b\n\n \n# c\n end\nend \nends\n") ∷ Copies (record { replica = 1; name = codes "a"; x = pos 0; y = pos 0 }) ∷ [];
    })
block = refl

pub two_blocks :
    script_of (codes "rule /2/3\nreplicas 0\npattern a\nend\npattern a\npattern b\nend")
    ≡ Ok (record { rule = rule_of_text (codes "/2/3"); replicas = 0; commands = Names (codes "a") [] ∷ Names (codes "a") (codes "pattern b\n") ∷ [] })
two_blocks = refl

pub open_block : script_of (codes "rule /2/3\nreplicas 1\npattern a\n# b\nbo!\n") ≡ Err 3
open_block = refl

pub end_with_a_return_at_the_end : script_of (codes "rule /2/3\nreplicas 1\n\npattern a\nbo!\nend\r") ≡ Err 4
end_with_a_return_at_the_end = refl

pub fault_before_an_open_block : script_of (codes "rule /2/3\nreplicas 1\nshow\npattern a\n") ≡ Err 3
fault_before_an_open_block = refl

pub fault_behind_a_block : script_of (codes "rule /2/3\nreplicas 1\npattern a\n\n#\nend\n#\nshow\n") ≡ Err 8
fault_behind_a_block = refl

pub end_without_a_block : script_of (codes "rule /2/3\nreplicas 1\nend\n") ≡ Err 3
end_without_a_block = refl

pub pattern_without_a_name : script_of (codes "rule /2/3\nreplicas 1\npattern\nend\n") ≡ Err 3
pattern_without_a_name = refl

pub pattern_with_two_names : script_of (codes "rule /2/3\nreplicas 1\npattern a b\nend\n") ≡ Err 3
pattern_with_two_names = refl

pub block_before_the_replicas : script_of (codes "rule /2/3\npattern a\nend\nreplicas 1\n") ≡ Err 2
block_before_the_replicas = refl
