-- What reading the arguments of a line leaves as it is, and with which word a line begins that spells something.
use Rattle.std.proofs.Common.{◌≡◌, ℕ, List, [], ◌∷◌, refl, sym, ◌∙◌, ap}
use Rattle.std.specs.Prelude.{⊤, Bool, true, false, not, Option, Some, None, option_map}
use Rattle.std.specs.List.{find, list_all}
use Rattle.std.specs.Option.{option_map_or}
use Rattle.std.specs.Str.{bytes_eq}
use Rattle.std.proofs.lemmas.Bool.{not-true, and_parts}
use Rattle.std.proofs.lemmas.Slice.Eq.{bytes_eq-Decides}
use Rattle.text_scan.specs.Bytes.{◌>=>◌}
use Rattle.text_scan.specs.Words.{signed_number}
use Rattle.command_words.specs.declared.argument.Argument.{Argument}
use Rattle.command_words.specs.declared.argument.Argument.TheVariants.{Rule, Replicas, Name, NewName, Turn, Replica, OneReplica, X, Y, State, Generations, Most, File, NewFile}
use Rattle.command_words.specs.declared.dialect.Dialect.{Dialect}
use Rattle.command_words.specs.declared.keyword.Keyword.{Keyword}
use Rattle.command_words.specs.Arguments.{arguments_of, optional_of}
use Rattle.command_words.specs.Keywords.{keyword_name, keyword_spelled, keywords_of}
use Rattle.command_words.specs.Spelled.{SpelledValue, begun, with_generations, with_word, with_first, with_next, with_all, is_empty, with_optional, is_whole, if_whole, line_spelled}
use Rattle.command_words.specs.Ranges.{range_spelled}
use Rattle.command_words.specs.Turns.{turn_spelled}
use Rattle.command_words.specs.Values.{file_spelled, most_spelled, name_spelled, new_file_spelled, number_spelled, replicas_spelled, rule_text_spelled, state_spelled}

-- what is seen of a line stays as it is where a word is read as an argument
abbrev pub Keeps : {A : Type 0} → (SpelledValue → A) → Argument → Type 0
Keeps see argument = (word : List ℕ) (line next : SpelledValue) → with_word argument word line ≡ Some next → see next ≡ see line

-- what was made of a value that was read
made : {A B : Type 0} (see : SpelledValue → B) (seen : B) (value : Option A) (make : A → SpelledValue) (next : SpelledValue) →
    ((a : A) → see (make a) ≡ seen) → option_map make value ≡ Some next → see next ≡ seen
made see seen None make next keeps is = absurd (cc)
made see seen (Some a) make next keeps is =
    let same : make a ≡ next = cc in
    ap see (sym same) ∙ keeps a

-- the same of one of two values, where the first was read
either_made : {A B C : Type 0} (see : SpelledValue → C) (seen : C) (first : Option A) (second : Option B) (make : A → SpelledValue) (make_other : B → SpelledValue) (next : SpelledValue) →
    ((a : A) → see (make a) ≡ seen) → ((b : B) → see (make_other b) ≡ seen) → option_map_or (λ a. Some (make a)) first (option_map make_other second) ≡ Some next → see next ≡ seen
either_made see seen None second make make_other next keeps keeps_other is = made see seen second make_other next keeps_other is
either_made see seen (Some a) second make make_other next keeps keeps_other is =
    let same : make a ≡ next = cc in
    ap see (sym same) ∙ keeps a

-- the keyword stays
keyword_stays : (argument : Argument) → Keeps (λ line. line.keyword) argument
keyword_stays Rule word line next is = made (λ l. l.keyword) line.keyword (rule_text_spelled word) _ next (λ a. refl) is
keyword_stays Replicas word line next is = made (λ l. l.keyword) line.keyword (replicas_spelled word) _ next (λ a. refl) is
keyword_stays Name word line next is = made (λ l. l.keyword) line.keyword (name_spelled word) _ next (λ a. refl) is
keyword_stays NewName word line next is = made (λ l. l.keyword) line.keyword (name_spelled word) _ next (λ a. refl) is
keyword_stays Turn word line next is = made (λ l. l.keyword) line.keyword (turn_spelled word) (λ turn. record line { turn = Some turn }) next (λ a. refl) is
keyword_stays X word line next is = made (λ l. l.keyword) line.keyword (signed_number word) _ next (λ a. refl) is
keyword_stays Y word line next is = made (λ l. l.keyword) line.keyword (signed_number word) _ next (λ a. refl) is
keyword_stays State word line next is = made (λ l. l.keyword) line.keyword (state_spelled word) _ next (λ a. refl) is
keyword_stays Generations word line next is = either_made (λ l. l.keyword) line.keyword (number_spelled word) (range_spelled word) _ _ next (λ a. refl) (λ b. refl) is
keyword_stays Most word line next is = made (λ l. l.keyword) line.keyword (most_spelled word) _ next (λ a. refl) is
keyword_stays File word line next is = made (λ l. l.keyword) line.keyword (Some (file_spelled word)) (λ w. record line { file = Some w }) next (λ a. refl) is
keyword_stays NewFile word line next is = made (λ l. l.keyword) line.keyword (new_file_spelled word) _ next (λ a. refl) is
keyword_stays number word line next is = made (λ l. l.keyword) line.keyword (number_spelled word) _ next (λ a. refl) is

-- the replica's number stays where no other is read
abbrev pub names_replica : Argument → Bool
names_replica Replica = true
names_replica OneReplica = true
names_replica argument = false

pub replica_stays : (argument : Argument) → names_replica argument ≡ false → Keeps (λ line. line.replica) argument
replica_stays Replica other word line next is = absurd (cc)
replica_stays OneReplica other word line next is = absurd (cc)
replica_stays Rule other word line next is = made (λ l. l.replica) line.replica (rule_text_spelled word) _ next (λ a. refl) is
replica_stays Replicas other word line next is = made (λ l. l.replica) line.replica (replicas_spelled word) _ next (λ a. refl) is
replica_stays Name other word line next is = made (λ l. l.replica) line.replica (name_spelled word) _ next (λ a. refl) is
replica_stays NewName other word line next is = made (λ l. l.replica) line.replica (name_spelled word) _ next (λ a. refl) is
replica_stays Turn other word line next is = made (λ l. l.replica) line.replica (turn_spelled word) (λ turn. record line { turn = Some turn }) next (λ a. refl) is
replica_stays X other word line next is = made (λ l. l.replica) line.replica (signed_number word) _ next (λ a. refl) is
replica_stays Y other word line next is = made (λ l. l.replica) line.replica (signed_number word) _ next (λ a. refl) is
replica_stays State other word line next is = made (λ l. l.replica) line.replica (state_spelled word) _ next (λ a. refl) is
replica_stays Generations other word line next is = either_made (λ l. l.replica) line.replica (number_spelled word) (range_spelled word) _ _ next (λ a. refl) (λ b. refl) is
replica_stays Most other word line next is = made (λ l. l.replica) line.replica (most_spelled word) _ next (λ a. refl) is
replica_stays File other word line next is = made (λ l. l.replica) line.replica (Some (file_spelled word)) (λ w. record line { file = Some w }) next (λ a. refl) is
replica_stays NewFile other word line next is = made (λ l. l.replica) line.replica (new_file_spelled word) _ next (λ a. refl) is
replica_stays number other word line next is = made (λ l. l.replica) line.replica (number_spelled word) _ next (λ a. refl) is

-- ---- all arguments

-- what was read of what was read before
pub both_read : {A B : Type 0} (first : Option A) (read : A → Option B) (found : B) → first >=> read ≡ Some found →
    (a : A) × ((first ≡ Some a) × (read a ≡ Some found))
both_read None read found is = absurd (cc)
both_read (Some a) read found is = (a, (refl, is))

abbrev pub AllKeep : {A : Type 0} → (SpelledValue → A) → List Argument → Type 0
AllKeep see [] = ⊤
AllKeep see (argument ∷ arguments) = Keeps see argument × AllKeep see arguments

-- what is seen of a line is not what words are left
abbrev pub SeesNoWords : {A : Type 0} → (SpelledValue → A) → Type 0
SeesNoWords see = (line : SpelledValue) (behind : List (List ℕ)) → see (record line { behind = behind }) ≡ see line

first_keeps : {A : Type 0} (see : SpelledValue → A) (argument : Argument) → SeesNoWords see → Keeps see argument →
    (behind : List (List ℕ)) (line next : SpelledValue) → with_first argument behind line ≡ Some next → see next ≡ see line
first_keeps see argument blind keeps [] line next is = absurd (cc)
first_keeps see argument blind keeps (word ∷ behind) line next is = keeps word (record line { behind = behind }) next is ∙ blind line behind

pub all_keep : {A : Type 0} (see : SpelledValue → A) → SeesNoWords see → (arguments : List Argument) → AllKeep see arguments →
    (line next : SpelledValue) → with_all arguments line ≡ Some next → see next ≡ see line
all_keep see blind [] keep line next is = let same : next ≡ line = cc in ap see same
all_keep see blind (argument ∷ arguments) keep line next is =
    let read = both_read (with_next argument line) (with_all arguments) next is in
    all_keep see blind arguments keep.1 read.0 next read.1.1 ∙ first_keeps see argument blind keep.0 line.behind line read.0 read.1.0

optional_if : {A : Type 0} (see : SpelledValue → A) → SeesNoWords see → (arguments : List Argument) → AllKeep see arguments →
    (line next : SpelledValue) (b : Bool) → is_empty line.behind ≡ b → with_optional arguments line ≡ Some next → see next ≡ see line
optional_if see blind arguments keep line next true none is =
    let read : with_optional arguments line ≡ Some line = rw none refl in
    let same : next ≡ line = cc in ap see same
optional_if see blind arguments keep line next false some is =
    let read : with_optional arguments line ≡ with_all arguments line = rw some refl in
    all_keep see blind arguments keep line next (sym read ∙ is)

optional_keep : {A : Type 0} (see : SpelledValue → A) → SeesNoWords see → (arguments : List Argument) → AllKeep see arguments →
    (line next : SpelledValue) → with_optional arguments line ≡ Some next → see next ≡ see line
optional_keep see blind arguments keep line next is = optional_if see blind arguments keep line next (is_empty line.behind) refl is

-- ---- whole lines

whole_if : (line next : SpelledValue) (b : Bool) → is_whole line ≡ b → if_whole line ≡ Some next → next ≡ line
whole_if line next true whole is =
    let read : if_whole line ≡ Some line = rw whole refl in
    cc
whole_if line next false whole is =
    let read : if_whole line ≡ None = rw whole refl in
    absurd (cc)

whole_line : (line next : SpelledValue) → if_whole line ≡ Some next → next ≡ line
whole_line line next is = whole_if line next (is_whole line) refl is

all_read : {A : Type 0} (see : SpelledValue → A) → SeesNoWords see → (arguments optional : List Argument) → AllKeep see arguments → AllKeep see optional →
    (begun read more line : SpelledValue) → with_all arguments begun ≡ Some read → with_optional optional read ≡ Some more → if_whole more ≡ Some line →
    see line ≡ see begun
all_read see blind arguments optional keep keep_optional begun read more line first then last =
    ap see (whole_line more line last) ∙ optional_keep see blind optional keep_optional read more then ∙ all_keep see blind arguments keep begun read first

-- what is left as it is by all that is read behind a keyword is as it was when the line began
pub stays : {A : Type 0} (see : SpelledValue → A) → SeesNoWords see → (dialect : Dialect) (name : List ℕ) (behind : List (List ℕ)) (keyword : Keyword) (line : SpelledValue) →
    keyword_spelled dialect name ≡ Some keyword → AllKeep see (arguments_of dialect keyword) → AllKeep see (optional_of dialect keyword) →
    line_spelled dialect (name ∷ behind) ≡ Some line → see line ≡ see (begun keyword behind)
stays see blind dialect name behind keyword line named keep keep_optional is =
    let found = both_read (keyword_spelled dialect name) _ line is in
    let same : found.0 ≡ keyword = cc in
    let read = both_read (with_all (arguments_of dialect keyword) (begun keyword behind)) _ line (rw same at found.1.1) in
    let more = both_read (with_optional (optional_of dialect keyword) read.0) if_whole line read.1.1 in
    all_read see blind (arguments_of dialect keyword) (optional_of dialect keyword) keep keep_optional (begun keyword behind) read.0 more.0 line read.1.0 more.1.0 more.1.1

all_keep_keyword : (arguments : List Argument) → AllKeep (λ line. line.keyword) arguments
all_keep_keyword [] = tt
all_keep_keyword (argument ∷ arguments) = (keyword_stays argument, all_keep_keyword arguments)

passes_first : {A : Type 0} (test : A → Bool) (x : A) (xs : List A) (found : A) (b : Bool) → test x ≡ b →
    (find test xs ≡ Some found → test found ≡ true) → find test (x ∷ xs) ≡ Some found → test found ≡ true
passes_first test x xs found true e later is =
    let first : find test (x ∷ xs) ≡ Some x = rw e refl in
    let same : x ≡ found = cc in
    ap test (sym same) ∙ e
passes_first test x xs found false e later is =
    let rest : find test (x ∷ xs) ≡ find test xs = rw e refl in
    later (sym rest ∙ is)

found_passes : {A : Type 0} (test : A → Bool) (xs : List A) (found : A) → find test xs ≡ Some found → test found ≡ true
found_passes test [] found is = absurd (cc)
found_passes test (x ∷ xs) found is = passes_first test x xs found (test x) refl (found_passes test xs found) is

-- a word is the keyword that it spells
pub named : (dialect : Dialect) (word : List ℕ) (keyword : Keyword) → keyword_spelled dialect word ≡ Some keyword → word ≡ keyword_name keyword
named dialect word keyword is =
    (bytes_eq-Decides word (keyword_name keyword)).0 (found_passes (λ keyword. bytes_eq word (keyword_name keyword)) (keywords_of dialect) keyword is)

-- the keyword of a line is the one that its first word is
pub keyword_of : (dialect : Dialect) (name : List ℕ) (behind : List (List ℕ)) (keyword : Keyword) (line : SpelledValue) →
    keyword_spelled dialect name ≡ Some keyword → line_spelled dialect (name ∷ behind) ≡ Some line → line.keyword ≡ keyword
keyword_of dialect name behind keyword line named is =
    stays (λ l. l.keyword) (λ l b. refl) dialect name behind keyword line named (all_keep_keyword _) (all_keep_keyword _) is

-- a line that spells something begins with its keyword
pub begins : (dialect : Dialect) (words : List (List ℕ)) (line : SpelledValue) → line_spelled dialect words ≡ Some line →
    (behind : List (List ℕ)) × (words ≡ keyword_name line.keyword ∷ behind)
begins dialect [] line is = absurd (cc)
begins dialect (name ∷ behind) line is =
    let found = both_read (keyword_spelled dialect name) _ line is in
    let keyword = keyword_of dialect name behind found.0 line found.1.0 is in
    (behind, ap (λ (w : List ℕ). w ∷ behind) (named dialect name found.0 found.1.0 ∙ ap keyword_name (sym keyword)))

-- ---- a client is replica 1

-- none of some arguments is a replica's number
abbrev pub name_no_replica : List Argument → Bool
name_no_replica arguments = list_all (λ argument. not (names_replica argument)) arguments

all_keep_replica : (arguments : List Argument) → name_no_replica arguments ≡ true → AllKeep (λ line. line.replica) arguments
all_keep_replica [] none = tt
all_keep_replica (argument ∷ arguments) none =
    let parts = and_parts (not (names_replica argument)) (name_no_replica arguments) none in
    (replica_stays argument (not-true (names_replica argument) parts.0), all_keep_replica arguments parts.1)

-- a line whose arguments name no replica is of replica 1
pub of_replica_1 : (dialect : Dialect) (name : List ℕ) (behind : List (List ℕ)) (keyword : Keyword) (line : SpelledValue) →
    name_no_replica (arguments_of dialect keyword) ≡ true → name_no_replica (optional_of dialect keyword) ≡ true →
    keyword_spelled dialect name ≡ Some keyword → line_spelled dialect (name ∷ behind) ≡ Some line → line.replica ≡ 1
of_replica_1 dialect name behind keyword line none none_optional named is =
    stays (λ l. l.replica) (λ l b. refl) dialect name behind keyword line named (all_keep_replica _ none) (all_keep_replica _ none_optional) is
