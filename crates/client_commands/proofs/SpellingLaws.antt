-- At a keyword that a client has from scripts, a client asks for what a script asks of replica 1.
use Rattle.std.proofs.Common.{◌≡◌, ℕ, List, [], ◌∷◌, refl, sym, ◌∙◌, ap, subst, arith}
use Rattle.std.specs.Prelude.{All, ℤ, true, false, codes, Option, Some, None, option_map}
use Rattle.std.specs.Option.{option_map_or}
use Rattle.std.specs.Str.{bytes_eq}
use Rattle.text_scan.specs.Bytes.{◌>=>◌}
use Rattle.text_scan.specs.Words.{signed_number, words}
use Rattle.pattern_cells.specs.declared.cell.Cell.{Cell}
use Rattle.replica_events.specs.declared.event.Event.TheVariants as event
use Rattle.replica_events.specs.declared.edit_spec.EditSpec.TheVariants.{Cells}
use Rattle.command_words.specs.declared.dialect.Dialect.TheVariants.{Script, Client}
use Rattle.command_words.specs.declared.keyword.Keyword.{Keyword}
use Rattle.command_words.specs.declared.keyword.Keyword.TheVariants as keyword
use Rattle.command_words.specs.Arguments.{arguments_of, optional_of}
use Rattle.command_words.specs.Keywords.{keyword_name, keyword_spelled}
use Rattle.command_words.specs.Quotes.{client_words, opens_quote}
use Rattle.command_words.specs.declared.ranges.GenerationRange.{GenerationRange}
use Rattle.command_words.specs.Ranges.{range_spelled}
use Rattle.command_words.specs.Spelled.{SpelledValue, line_spelled}
use Rattle.command_words.specs.Values.{cells_spelled, number_spelled}
use Rattle.command_words.proofs.QuoteLaws.{first_alike}
use Rattle.command_words.proofs.SpelledLaws.{begins, both_read, keyword_of, name_no_replica, named, of_replica_1}
use Rattle.genedit_script.specs.declared.command.Command.{Command}
use Rattle.genedit_script.specs.declared.command.Command.TheVariants.{Does, Turns}
use Rattle.genedit_script.specs.declared.command.Turning.{Turning}
use Rattle.genedit_script.specs.Script.{is_spoken, opening_spelled, command_asked, command_spelled, turning_asked}
use Rattle.genedit_script.proofs.WordLaws.{keyword_says, opens_no_block}
use Rattle.client_commands.specs.declared.command.ClientCommand.{ClientCommand}
use Rattle.client_commands.specs.declared.command.ClientCommand.TheVariants as client
use Rattle.client_commands.specs.Commands.{client_command_asked, client_command_spelled}
use Rattle.client_commands.specs.Laws.{at_replica_1, with_replica_1, is_shared, is_shared_line}

-- what a client asks for beside what a script asks for: neither asks, or both for the same
pub data Agree : Option ClientCommand → Option Command → Type 0 where
  neither : Agree None None
  both : {asked : ClientCommand} {command : Command} → at_replica_1 asked ≡ Some command → Agree (Some asked) (Some command)

pub equal : {asked : Option ClientCommand} {command : Option Command} → Agree asked command → asked >=> at_replica_1 ≡ command
equal neither = refl
equal (both is) = is

-- ---- keyword by keyword

-- what one line with this keyword asks a client for, and a script for its replica 1
abbrev AskAlike : Keyword → Type 0
AskAlike k = (line : SpelledValue) → line.keyword ≡ k → line.replica ≡ 1 → Agree (client_command_asked line) (command_asked line)

drawn : (cells : Option (List Cell)) → Agree (option_map (λ cells. client.Draw (Cells cells)) cells) (option_map Does (option_map (λ cells. event.Draw 1 (Cells cells)) cells))
drawn None = neither
drawn (Some cells) = both refl

cells_alike : AskAlike keyword.Cells
cells_alike line is one = rw (is, one) (drawn (cells_spelled line.behind))

clear_alike : AskAlike keyword.Clear
clear_alike line is one = rw (is, one) (both refl)

copy_alike : AskAlike keyword.Copy
copy_alike line is one = rw (is, one) (both refl)

or_alike : AskAlike keyword.Or
or_alike line is one = rw (is, one) (both refl)

show_alike : AskAlike keyword.Show
show_alike line is one = rw (is, one) (both refl)

-- ---- each of these keywords

-- what is known of such a keyword: where it begins a line of a client, a script's line with the replica's number spells the same
record IsShared (k : Keyword) : Type 0 where
  spelled : keyword_spelled Client (keyword_name k) ≡ Some k
  no_replica : name_no_replica (arguments_of Client k) ≡ true
  no_optional_replica : name_no_replica (optional_of Client k) ≡ true
  opens_none : bytes_eq (keyword_name k) (codes "pattern") ≡ false
  same : (ws : List (List ℕ)) → line_spelled Client (keyword_name k ∷ ws) ≡ line_spelled Script (keyword_name k ∷ codes "1" ∷ ws)
  alike : AskAlike k

shared : (k : Keyword) → is_shared k ≡ true → keyword_spelled Client (keyword_name k) ≡ Some k → IsShared k
shared keyword.Cells is known = record { spelled = refl; no_replica = refl; no_optional_replica = refl; opens_none = refl; same = λ ws. refl; alike = cells_alike }
shared keyword.Clear is known = record { spelled = refl; no_replica = refl; no_optional_replica = refl; opens_none = refl; same = λ ws. refl; alike = clear_alike }
shared keyword.Copy is known = record { spelled = refl; no_replica = refl; no_optional_replica = refl; opens_none = refl; same = λ ws. refl; alike = copy_alike }
shared keyword.Or is known = record { spelled = refl; no_replica = refl; no_optional_replica = refl; opens_none = refl; same = λ ws. refl; alike = or_alike }
shared keyword.Show is known = record { spelled = refl; no_replica = refl; no_optional_replica = refl; opens_none = refl; same = λ ws. refl; alike = show_alike }
shared other is known = absurd (cc)

agree_by : (k : Keyword) (ws : List (List ℕ)) → IsShared k → (spelled : Option SpelledValue) → line_spelled Client (keyword_name k ∷ ws) ≡ spelled →
    Agree (spelled >=> client_command_asked) (spelled >=> command_asked)
agree_by k ws known None is = neither
agree_by k ws known (Some line) is =
    known.alike line (keyword_of Client (keyword_name k) ws k line known.spelled is)
    (of_replica_1 Client (keyword_name k) ws k line known.no_replica known.no_optional_replica known.spelled is)

agrees : (k : Keyword) (ws : List (List ℕ)) → IsShared k → Agree (client_command_spelled (keyword_name k ∷ ws)) (command_spelled (keyword_name k ∷ codes "1" ∷ ws))
agrees k ws known =
    subst (λ (spelled : Option SpelledValue). Agree (client_command_spelled (keyword_name k ∷ ws)) (spelled >=> command_asked)) (known.same ws)
    (agree_by k ws known (line_spelled Client (keyword_name k ∷ ws)) refl)

-- a range is exported to files alone
exported : (generation : List ℕ) (n : Option ℕ) (range : Option GenerationRange) → number_spelled generation ≡ n → range_spelled generation ≡ range →
    Agree (client_command_spelled (codes "export" ∷ generation ∷ [])) (command_spelled (codes "export" ∷ codes "1" ∷ generation ∷ []))
exported generation None None is is_range = rw (is, is_range) neither
exported generation None (Some range) is is_range = rw (is, is_range) neither
exported generation (Some n) range is is_range = rw is (both refl)

counted_at : (word : List ℕ) (n : Option ℕ) → number_spelled word ≡ n → range_spelled word ≡ None →
    Agree (client_command_spelled (codes "count" ∷ word ∷ [])) (command_spelled (codes "count" ∷ codes "1" ∷ word ∷ []))
counted_at word None is no_range = rw (is, no_range) neither
counted_at word (Some n) is no_range = rw is (both refl)

-- a word too many
counted_no_more : (word other : List ℕ) (ws : List (List ℕ)) (n : Option ℕ) → number_spelled word ≡ n → range_spelled word ≡ None →
    Agree (client_command_spelled (codes "count" ∷ word ∷ other ∷ ws)) (command_spelled (codes "count" ∷ codes "1" ∷ word ∷ other ∷ ws))
counted_no_more word other ws None is no_range = rw (is, no_range) neither
counted_no_more word other ws (Some n) is no_range = rw is neither

counted : (ws : List (List ℕ)) → All (λ word. range_spelled word ≡ None) ws → Agree (client_command_spelled (codes "count" ∷ ws)) (command_spelled (codes "count" ∷ codes "1" ∷ ws))
counted [] none = both refl
counted (word ∷ []) none = counted_at word (number_spelled word) refl (none 0 [] (omega arith))
counted (word ∷ other ∷ ws) none = counted_no_more word other ws (number_spelled word) refl (none 0 [] (omega arith))

module _ (x y width height generation : List ℕ) where
  abbrev CutsAlike : Type 0
  CutsAlike = Agree (client_command_spelled (codes "cut" ∷ x ∷ y ∷ width ∷ height ∷ generation ∷ [])) (command_spelled (codes "cut" ∷ codes "1" ∷ x ∷ y ∷ width ∷ height ∷ generation ∷ []))

  cuts : (a b : Option ℤ) (c d g : Option ℕ) → signed_number x ≡ a → signed_number y ≡ b → number_spelled width ≡ c → number_spelled height ≡ d → number_spelled generation ≡ g → CutsAlike
  cuts None b c d g is_x is_y is_w is_h is_g = rw is_x neither
  cuts (Some a) None c d g is_x is_y is_w is_h is_g = rw (is_x, is_y) neither
  cuts (Some a) (Some b) None d g is_x is_y is_w is_h is_g = rw (is_x, is_y, is_w) neither
  cuts (Some a) (Some b) (Some c) None g is_x is_y is_w is_h is_g = rw (is_x, is_y, is_w, is_h) neither
  cuts (Some a) (Some b) (Some c) (Some d) None is_x is_y is_w is_h is_g = rw (is_x, is_y, is_w, is_h, is_g) neither
  cuts (Some a) (Some b) (Some c) (Some d) (Some g) is_x is_y is_w is_h is_g = rw (is_x, is_y, is_w, is_h, is_g) (both refl)

  pub cut_alike : CutsAlike
  cut_alike = cuts (signed_number x) (signed_number y) (number_spelled width) (number_spelled height) (number_spelled generation) refl refl refl refl refl

-- ---- turns, which no replica does

turned : (turning : Option Turning) → Agree (option_map client.Turn turning) (option_map Turns turning)
turned None = neither
turned (Some turning) = both refl

turn_alike : (line : SpelledValue) → line.keyword ≡ keyword.Turn → Agree (client_command_asked line) (command_asked line)
turn_alike line is = rw is (turned (turning_asked line))

turns_by : (ws : List (List ℕ)) (spelled : Option SpelledValue) → line_spelled Client (codes "turn" ∷ ws) ≡ spelled → Agree (spelled >=> client_command_asked) (spelled >=> command_asked)
turns_by ws None is = neither
turns_by ws (Some line) is = turn_alike line (keyword_of Client (codes "turn") ws keyword.Turn line refl is)

turns_spelled : (ws : List (List ℕ)) → line_spelled Client (codes "turn" ∷ ws) ≡ line_spelled Script (codes "turn" ∷ ws)
turns_spelled ws = refl

turns : (ws : List (List ℕ)) → Agree (client_command_spelled (codes "turn" ∷ ws)) (command_spelled (codes "turn" ∷ ws))
turns ws =
    subst (λ (spelled : Option SpelledValue). Agree (client_command_spelled (codes "turn" ∷ ws)) (spelled >=> command_asked)) (turns_spelled ws)
    (turns_by ws (line_spelled Client (codes "turn" ∷ ws)) refl)

-- ---- a line

keyword_is_plain : (k : Keyword) → opens_quote (keyword_name k) ≡ false
keyword_is_plain keyword.Rule = refl
keyword_is_plain other = refl

-- a client's line begins with a keyword, which opens no block
pub record Begins (ws : List (List ℕ)) : Type 0 where
  pub first : Keyword
  pub behind : List (List ℕ)
  pub words_are : ws ≡ keyword_name first ∷ behind
  pub opens_none : bytes_eq (keyword_name first) (codes "pattern") ≡ false

-- so do its words where blanks part them, by which lines are skipped and blocks opened
blank_words : (line : List ℕ) (begins : Begins (client_words line)) → (behind : List (List ℕ)) × (words line ≡ keyword_name begins.first ∷ behind)
blank_words line begins = first_alike line (keyword_name begins.first) begins.behind begins.words_are (keyword_is_plain begins.first)

pub line_says : (line : List ℕ) → Begins (client_words line) → is_spoken (words line) ≡ true
line_says line begins = let first = blank_words line begins in ap is_spoken first.1 ∙ keyword_says begins.first first.0

pub line_opens_none : (line : List ℕ) → Begins (client_words line) → opening_spelled (words line) ≡ None
line_opens_none line begins =
    let first = blank_words line begins in
    ap opening_spelled first.1 ∙ opens_no_block (keyword_name begins.first) first.0 begins.opens_none

-- what is known of a line that a client has from scripts, and of the line of a script beside it
pub record AreCommandLines (ws others : List (List ℕ)) : Type 0 where
  pub begins : Begins ws
  pub other_says : is_spoken others ≡ true
  pub other_opens_none : opening_spelled others ≡ None
  pub agrees : Agree (client_command_spelled ws) (command_spelled others)

-- where that is the same with the replica's number
abbrev pub IsCommandLine : List (List ℕ) → Type 0
IsCommandLine ws = AreCommandLines ws (with_replica_1 ws)

command_line : (k : Keyword) (ws : List (List ℕ)) → IsShared k → IsCommandLine (keyword_name k ∷ ws)
command_line k ws known = record {
  begins = record { first = k; behind = ws; words_are = refl; opens_none = known.opens_none };
  other_says = keyword_says k (codes "1" ∷ ws);
  other_opens_none = opens_no_block (keyword_name k) (codes "1" ∷ ws) known.opens_none;
  agrees = agrees k ws known;
}

known_line : (name : List ℕ) (ws : List (List ℕ)) (found : Option Keyword) → keyword_spelled Client name ≡ found →
    is_shared_line (name ∷ ws) ≡ true → IsCommandLine (name ∷ ws)
known_line name ws None found is =
    let none : is_shared_line (name ∷ ws) ≡ false = ap (λ (k : Option Keyword). option_map_or is_shared k false) found in
    absurd (cc)
known_line name ws (Some k) found is =
    let here : is_shared_line (name ∷ ws) ≡ is_shared k = ap (λ (k : Option Keyword). option_map_or is_shared k false) found in
    let word : name ≡ keyword_name k = named Client name k found in
    let spelled : keyword_spelled Client (keyword_name k) ≡ Some k = ap (keyword_spelled Client) (sym word) ∙ found in
    subst (λ (n : List ℕ). IsCommandLine (n ∷ ws)) (sym word) (command_line k ws (shared k (sym here ∙ is) spelled))

pub shared_line : (ws : List (List ℕ)) → is_shared_line ws ≡ true → IsCommandLine ws
shared_line [] is = absurd (cc)
shared_line (name ∷ ws) is = known_line name ws (keyword_spelled Client name) refl is

pub export_line : (generation : List ℕ) → IsCommandLine (codes "export" ∷ generation ∷ [])
export_line generation = record {
  begins = record { first = keyword.Export; behind = generation ∷ []; words_are = refl; opens_none = refl };
  other_says = refl;
  other_opens_none = opens_no_block (codes "export") (codes "1" ∷ generation ∷ []) refl;
  agrees = exported generation (number_spelled generation) (range_spelled generation) refl refl;
}

pub count_line : (ws : List (List ℕ)) → All (λ word. range_spelled word ≡ None) ws → IsCommandLine (codes "count" ∷ ws)
count_line ws none = record {
  begins = record { first = keyword.Count; behind = ws; words_are = refl; opens_none = refl };
  other_says = refl;
  other_opens_none = opens_no_block (codes "count") (codes "1" ∷ ws) refl;
  agrees = counted ws none;
}

pub cut_line : (x y width height generation : List ℕ) → IsCommandLine (codes "cut" ∷ x ∷ y ∷ width ∷ height ∷ generation ∷ [])
cut_line x y width height generation = record {
  begins = record { first = keyword.Cut; behind = x ∷ y ∷ width ∷ height ∷ generation ∷ []; words_are = refl; opens_none = refl };
  other_says = refl;
  other_opens_none = opens_no_block (codes "cut") (codes "1" ∷ x ∷ y ∷ width ∷ height ∷ generation ∷ []) refl;
  agrees = cut_alike x y width height generation;
}

pub turn_line : (name new_name turn : List ℕ) → AreCommandLines (codes "turn" ∷ name ∷ new_name ∷ turn ∷ []) (codes "turn" ∷ name ∷ new_name ∷ turn ∷ [])
turn_line name new_name turn = record {
  begins = record { first = keyword.Turn; behind = name ∷ new_name ∷ turn ∷ []; words_are = refl; opens_none = refl };
  other_says = refl;
  other_opens_none = opens_no_block (codes "turn") (name ∷ new_name ∷ turn ∷ []) refl;
  agrees = turns (name ∷ new_name ∷ turn ∷ []);
}

-- ---- a command that only a client has

no_pattern : (line : SpelledValue) (command : ClientCommand) → client_command_asked line ≡ Some command → bytes_eq (keyword_name line.keyword) (codes "pattern") ≡ false
no_pattern line command is =
    elim line.keyword as (λ k. client_command_asked (record line { keyword = k }) ≡ Some command → bytes_eq (keyword_name k) (codes "pattern") ≡ false) [
      | keyword.Pattern ↦ λ is. absurd (cc)
      | _ ↦ λ is. refl
    ] is

-- the words of a command begin with its keyword
pub command_begins : (ws : List (List ℕ)) (command : ClientCommand) → client_command_spelled ws ≡ Some command → Begins ws
command_begins ws command spelt =
    let read = both_read (line_spelled Client ws) client_command_asked command spelt in
    let first = begins Client ws read.0 read.1.0 in
    record { first = read.0.keyword; behind = first.0; words_are = first.1; opens_none = no_pattern read.0 command read.1.1 }
