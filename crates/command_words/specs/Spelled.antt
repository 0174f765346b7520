-- What the words of a line spell.
use Rattle.std.specs.Prelude.{ℕ, ℤ, pos, Bool, true, false, ◌&&◌, if◌then◌else◌, List, [], ◌∷◌, Option, Some, None, option_map}
use Rattle.std.specs.Bool.{beq}
use Rattle.std.specs.Option.{is_some, option_map_or}
use Rattle.text_scan.specs.Bytes.{◌>=>◌}
use Rattle.text_scan.specs.Words.{words, signed_number}
use Rattle.pattern_turns.specs.declared.turn.Turn.{Turn}
use Rattle.command_words.specs.declared.argument.Argument.{Argument}
use Rattle.command_words.specs.declared.argument.Argument.TheVariants as argument
use Rattle.command_words.specs.declared.dialect.Dialect.{Dialect}
use Rattle.command_words.specs.declared.keyword.Keyword.{Keyword}
use Rattle.command_words.specs.declared.keyword.Keyword.TheVariants as keyword
use Rattle.command_words.specs.declared.ranges.GenerationRange.{GenerationRange}
use Rattle.command_words.specs.declared.spelled.Spelled.{Spelled}
use Rattle.command_words.specs.Arguments.{arguments_of, optional_of, repeated_of}
use Rattle.command_words.specs.Keywords.{keyword_spelled}
use Rattle.command_words.specs.Quotes.{are_unquoted, line_words}
use Rattle.command_words.specs.Ranges.{range_spelled}
use Rattle.command_words.specs.Turns.{turn_spelled}
use Rattle.command_words.specs.Values.{file_spelled, most_spelled, name_spelled, new_file_spelled, number_spelled, replicas_spelled, rule_text_spelled, state_spelled}

-- the keyword of a line, what its arguments say, and the words that are left
pub record SpelledValue : Type 0 where
  pub keyword : Keyword
  pub rule : List ℕ
  pub replicas : ℕ
  pub name : List ℕ
  pub new_name : List ℕ
  pub turn : Option Turn
  pub replica : ℕ
  pub other_replica : ℕ
  pub x : ℤ
  pub y : ℤ
  pub state : ℕ
  pub width : ℕ
  pub height : ℕ
  pub message : ℕ
  pub from : ℕ
  pub count : ℕ
  pub generation : ℕ
  pub range : Option GenerationRange
  pub most : ℕ
  pub file : Option (List ℕ)
  pub edits : ℕ
  pub milliseconds : Option ℕ
  pub behind : List (List ℕ)

-- what the code holds of a line, with the bytes and words that it points to
abbrev pub spelled_of : Spelled → SpelledValue
spelled_of spelled = record {
  keyword = spelled.keyword;
  rule = spelled.rule.now;
  replicas = spelled.replicas;
  name = spelled.name.now;
  new_name = spelled.new_name.now;
  turn = spelled.turn;
  replica = spelled.replica;
  other_replica = spelled.other_replica;
  x = spelled.x;
  y = spelled.y;
  state = spelled.state;
  width = spelled.width;
  height = spelled.height;
  message = spelled.message;
  from = spelled.from;
  count = spelled.count;
  generation = spelled.generation;
  range = spelled.range;
  most = spelled.most;
  file = option_map (λ file. file.now) spelled.file;
  edits = spelled.edits;
  milliseconds = spelled.milliseconds;
  behind = words spelled.behind.now;
}

-- the same while it is read, with the words that its dialect has of the rest
abbrev pub spoken_of : Spelled → SpelledValue
spoken_of spelled = record (spelled_of spelled) { behind = line_words spelled.dialect spelled.behind.now }

-- a line that begins with a keyword, where nothing behind it is read yet; the one replica of a client has the number 1
abbrev pub begun : Keyword → List (List ℕ) → SpelledValue
begun keyword behind = record {
  keyword = keyword;
  rule = [];
  replicas = 0;
  name = [];
  new_name = [];
  turn = None;
  replica = 1;
  other_replica = 0;
  x = pos 0;
  y = pos 0;
  state = 0;
  width = 0;
  height = 0;
  message = 0;
  from = 0;
  count = 0;
  generation = 0;
  range = None;
  most = 0;
  file = None;
  edits = 0;
  milliseconds = None;
  behind = behind;
}

-- ---- one argument

-- with a number of 32 bits as an argument that is one
abbrev pub with_number : Argument → ℕ → SpelledValue → SpelledValue
with_number argument.Replica number line = record line { replica = number }
with_number argument.OneReplica number line = record line { replica = number }
with_number argument.OtherReplica number line = record line { other_replica = number }
with_number argument.Width number line = record line { width = number }
with_number argument.Height number line = record line { height = number }
with_number argument.Message number line = record line { message = number }
with_number argument.From number line = record line { from = number }
with_number argument.Count number line = record line { count = number }
with_number argument.Generation number line = record line { generation = number }
with_number argument.Edits number line = record line { edits = number }
with_number argument.Milliseconds number line = record line { milliseconds = Some number }
with_number argument number line = line

-- with the generation that a word says, or with a range of them
abbrev pub with_generations : List ℕ → SpelledValue → Option SpelledValue
with_generations word line =
    option_map_or (λ n. Some (record line { generation = n })) (number_spelled word) (option_map (λ range. record line { range = Some range }) (range_spelled word))

-- with what a word says as an argument, if it can stand for it
abbrev pub with_word : Argument → List ℕ → SpelledValue → Option SpelledValue
with_word argument.Rule word line = option_map (λ text. record line { rule = text }) (rule_text_spelled word)
with_word argument.Replicas word line = option_map (λ n. record line { replicas = n }) (replicas_spelled word)
with_word argument.Name word line = option_map (λ name. record line { name = name }) (name_spelled word)
with_word argument.NewName word line = option_map (λ name. record line { new_name = name }) (name_spelled word)
with_word argument.Turn word line = option_map (λ turn. record line { turn = Some turn }) (turn_spelled word)
with_word argument.X word line = option_map (λ x. record line { x = x }) (signed_number word)
with_word argument.Y word line = option_map (λ y. record line { y = y }) (signed_number word)
with_word argument.State word line = option_map (λ state. record line { state = state }) (state_spelled word)
with_word argument.Generations word line = with_generations word line
with_word argument.Most word line = option_map (λ most. record line { most = most }) (most_spelled word)
with_word argument.File word line = Some (record line { file = Some (file_spelled word) })
with_word argument.NewFile word line = option_map (λ file. record line { file = file }) (new_file_spelled word)
with_word argument word line = option_map (λ n. with_number argument n line) (number_spelled word)

-- whether a word can stand for an argument
abbrev pub fits : Argument → List ℕ → Bool
fits argument word = is_some (with_word argument word (begun keyword.End []))

-- ---- all arguments

-- with what the first of some words says as an argument
abbrev pub with_first : Argument → List (List ℕ) → SpelledValue → Option SpelledValue
with_first argument [] line = None
with_first argument (word ∷ words) line = with_word argument word (record line { behind = words })

-- with what the next word says as an argument
abbrev pub with_next : Argument → SpelledValue → Option SpelledValue
with_next argument line = with_first argument line.behind line

-- with what the next words say, each as one of some arguments
abbrev pub with_all : List Argument → SpelledValue → Option SpelledValue
with_all [] line = Some line
with_all (argument ∷ arguments) line = with_next argument line >=> with_all arguments

abbrev pub is_empty : {A : Type 0} → List A → Bool
is_empty [] = true
is_empty (x ∷ xs) = false

-- the same where there is a next word
abbrev pub with_optional : List Argument → SpelledValue → Option SpelledValue
with_optional arguments line = if is_empty line.behind then Some line else with_all arguments line

-- words are left exactly where the keyword has arguments that are repeated, and none of them in quotes
abbrev pub is_whole : SpelledValue → Bool
is_whole line = beq (is_empty line.behind) (is_empty (repeated_of line.keyword)) && are_unquoted line.behind

abbrev pub if_whole : SpelledValue → Option SpelledValue
if_whole line = if is_whole line then Some line else None

-- what some words spell, which begin a line of a dialect
abbrev pub line_spelled : Dialect → List (List ℕ) → Option SpelledValue
line_spelled dialect [] = None
line_spelled dialect (name ∷ words) =
    keyword_spelled dialect name >=> λ keyword. with_all (arguments_of dialect keyword) (begun keyword words) >=> λ line.
    with_optional (optional_of dialect keyword) line >=> if_whole
