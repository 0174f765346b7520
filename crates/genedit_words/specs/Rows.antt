-- Worked values of the definitions.
use Rattle.std.specs.Prelude.{◌≡◌, ◌∷◌, [], codes, refl, Result, Ok, Err, Some, None, List, true, false}
use Rattle.std.specs.Fmt.{digits}
use Rattle.clap.proofs.OnLiterals.{clap_on_literals}
use Rattle.clap.specs.Words.{Text, fault_of, is_simple_and_free}
use Rattle.clap.specs.declared.error.kind.ErrorKind.TheVariants as kind
use Rattle.generations_rule.specs.Rule.{GenerationsRule}
use Rattle.generations_rule.specs.RuleText.{rule_of_text}
use Rattle.generations_rule.specs.declared.fault.RuleFault.TheVariants.{Digit, Slashes, States}
use Rattle.header_rules.specs.declared.family.OtherFamily.TheVariants.{Bounded, NonTotalistic}
use Rattle.header_rules.specs.declared.spelling.Misspelling.TheVariants.{Fault, Other}
use Rattle.header_rules.specs.Families.{other_names, table_ends, table_fronts}
use Rattle.header_rules.specs.Names.{rule_names}
use Rattle.genedit_words.specs.Bound.{bound_words}
use Rattle.genedit_words.specs.Misspelt.{Misspelt, NoRule, NoWeb, misspelt_text, no_web_text}
use Rattle.genedit_words.specs.Needs.{needs_text}
use Rattle.genedit_words.specs.Told.{Check, Diff, Draw, Export, Feed, Follow, Join, Log, Merge, Number, Run, Serve, Served, Told, View}
use Rattle.genedit_words.specs.WebWords.{web_spelled}
use Rattle.genedit_words.specs.Words.{Asks, Lacks, genedit_app, new_task, rle_task, rule_asked}

abbrev genedit : List Text → List Text
genedit words = codes "genedit" ∷ words

abbrev rle : List Text → List Text
rle words = genedit (codes "rle" ∷ words)

abbrev view : List Text → List Text
view words = genedit (codes "view" ∷ words)

-- ---- rules

pub life : rule_asked (codes "B3/S23") ≡ Ok (rule_of_text (codes "23/3/2"))
life = refl

pub star_wars : rule_asked (codes "Star Wars") ≡ Ok (rule_of_text (codes "345/2/4"))
unfolding rule_names
star_wars = refl

pub no_slashes : rule_asked (codes "life?") ≡ Err (NoRule (codes "life?") (Fault Slashes))
unfolding rule_names other_names table_fronts table_ends
no_slashes = refl

pub no_slashes_told : misspelt_text (codes "life?") (Fault Slashes)
    ≡ codes "refused 1 Slashes: a rule is survival/birth/states, as 23/3/2, or Golly's B3/S23"
unfolding digits
no_slashes_told = refl

pub no_digit : rule_asked (codes "23/x3/2") ≡ Err (NoRule (codes "23/x3/2") (Fault (Digit 3)))
unfolding rule_names other_names table_fronts table_ends
no_digit = refl

pub no_digit_told : misspelt_text (codes "23/x3/2") (Fault (Digit 3))
    ≡ codes "refused 2 Digit 3: survival counts are 0 to 8 and birth counts 1 to 8, and that byte is none; a rule is survival/birth/states, as 23/3/2, or Golly's B3/S23"
unfolding digits
no_digit_told = refl

pub too_many_states : rule_asked (codes "23/3/257") ≡ Err (NoRule (codes "23/3/257") (Fault States))
unfolding rule_names other_names table_fronts table_ends
too_many_states = refl

pub too_many_states_told : misspelt_text (codes "23/3/257") (Fault States)
    ≡ codes "refused 3 States: the number of states is not 2 to 256; a rule is survival/birth/states, as 23/3/2, or Golly's B3/S23"
unfolding digits
too_many_states_told = refl

pub letters : rule_asked (codes "B2e3/S23") ≡ Err (NoRule (codes "B2e3/S23") (Other NonTotalistic))
unfolding rule_names
letters = refl

pub letters_told : misspelt_text (codes "B2e3/S23") (Other NonTotalistic)
    ≡ codes "the rule B2e3/S23 is of another family (letters behind counts): this program has Golly's Generations without letters alone"
letters_told = refl

pub bounds : rule_asked (codes "B3/S23:T100") ≡ Err (NoRule (codes "B3/S23:T100") (Other Bounded))
unfolding rule_names
bounds = refl

pub bounds_told : misspelt_text (codes "B3/S23:T100") (Other Bounded)
    ≡ codes "the rule B3/S23:T100 is of another family (a bounded grid): this program has Golly's Generations on a plane without bounds alone"
bounds_told = refl

-- ---- web ports

pub web_port : web_spelled (codes "7080") ≡ Some (record { address = None; port = 7080 })
web_port = refl

pub any_web_port : web_spelled (codes "0") ≡ Some (record { address = None; port = 0 })
any_web_port = refl

pub web_port_of_an_address : web_spelled (codes "192.168.1.7:7080") ≡ Some (record { address = Some (codes "192.168.1.7"); port = 7080 })
web_port_of_an_address = refl

-- the last colon counts, and zeros in front of the port do not
pub web_port_behind_colons : web_spelled (codes "::1:007080") ≡ Some (record { address = Some (codes "::1"); port = 7080 })
web_port_behind_colons = refl

pub last_web_port : web_spelled (codes "a:65535") ≡ Some (record { address = Some (codes "a"); port = 65535 })
last_web_port = refl

pub web_port_too_great : web_spelled (codes "a:65536") ≡ None
web_port_too_great = refl

pub no_web_address : web_spelled (codes ":7080") ≡ None
no_web_address = refl

pub no_web_port : web_spelled (codes "localhost:") ≡ None
no_web_port = refl

pub no_web_text_at_all : web_spelled [] ≡ None
no_web_text_at_all = refl

pub web_port_with_a_sign : web_spelled (codes "+7080") ≡ None
web_port_with_a_sign = refl

pub address_alone : web_spelled (codes "localhost") ≡ None
address_alone = refl

pub no_web_told : no_web_text (codes "x") ≡ codes "invalid value 'x' for '--web <[ADDRESS:]Q>': a port is 0 to 65535, as --web 0 or --web 192.168.1.7:7080"
no_web_told = refl

pub needs_told : needs_text (record { rule = true; port = false; web = false }) ≡ codes "the following required arguments were not provided: --rule <TEXT>; as --rule 23/3/2"
needs_told = refl

pub all_needs_told : needs_text (record { rule = true; port = true; web = true })
    ≡ codes "the following required arguments were not provided: --rule <TEXT> --port <P> --web <[ADDRESS:]Q>; as --rule 23/3/2 --port 7020 --web 7080"
all_needs_told = refl

-- ---- numbers below 0 behind their options

pub corner : bound_words (view (codes "gun.rle" ∷ codes "--at" ∷ codes "-3,4" ∷ codes "--size" ∷ codes "9,9" ∷ []))
    ≡ view (codes "gun.rle" ∷ codes "--at=-3,4" ∷ codes "--size" ∷ codes "9,9" ∷ [])
corner = refl

pub generation_below_0 : bound_words (view (codes "--gen" ∷ codes "-1" ∷ codes "--at" ∷ codes "-0,0" ∷ []))
    ≡ view (codes "--gen=-1" ∷ codes "--at=-0,0" ∷ [])
generation_below_0 = refl

-- a number is put together with one option, and an option with no option
pub options_in_a_row : bound_words (view (codes "--at" ∷ codes "--gen" ∷ codes "-1" ∷ codes "-2" ∷ codes "--at" ∷ codes "-x" ∷ []))
    ≡ view (codes "--at" ∷ codes "--gen=-1" ∷ codes "-2" ∷ codes "--at" ∷ codes "-x" ∷ [])
options_in_a_row = refl

pub behind_dashes : bound_words (view (codes "--" ∷ codes "--at" ∷ codes "-3,4" ∷ [])) ≡ view (codes "--" ∷ codes "--at" ∷ codes "-3,4" ∷ [])
behind_dashes = refl

pub other_subcommand : bound_words (rle (codes "--at" ∷ codes "-3,4" ∷ [])) ≡ rle (codes "--at" ∷ codes "-3,4" ∷ [])
other_subcommand = refl

-- ---- command lines

-- clap's contracts say all that they can of such a command
is_simple : is_simple_and_free genedit_app ≡ true
is_simple = refl

script : Asks (genedit (codes "run" ∷ [])) (Ok (Run None))
unfolding clap_on_literals
script = (refl, refl)

script_of_a_file : Asks (genedit (codes "run" ∷ codes "my.script" ∷ [])) (Ok (Run (Some (codes "my.script"))))
unfolding clap_on_literals
script_of_a_file = (refl, refl)

script_of_standard_input : Asks (genedit (codes "run" ∷ codes "-" ∷ [])) (Ok (Run None))
unfolding clap_on_literals
script_of_standard_input = (refl, refl)

form : Asks (rle (codes "--rule" ∷ codes "23/3/2" ∷ [])) (rle_task None (rule_asked (codes "23/3/2")))
unfolding clap_on_literals
form = (refl, refl)

form_by_equals : Asks (rle (codes "--rule=/2/3" ∷ [])) (rle_task None (rule_asked (codes "/2/3")))
unfolding clap_on_literals
form_by_equals = (refl, refl)

form_of_a_file : Asks (rle (codes "gun.rle" ∷ codes "--rule" ∷ codes "B3/S23" ∷ [])) (rle_task (Some (codes "gun.rle")) (rule_asked (codes "B3/S23")))
unfolding clap_on_literals
form_of_a_file = (refl, refl)

abbrev serve : List Text → List Text
serve words = genedit (codes "serve" ∷ words)

-- a server under a rule, or why the rule is none
abbrev served_by : Result GenerationsRule Misspelt → (GenerationsRule → Served) → Result Told Misspelt
served_by (Ok rule) server = Ok (Serve (server rule))
served_by (Err fault) server = Err fault

server : Asks (serve (codes "--rule" ∷ codes "23/3/2" ∷ codes "--port=7020" ∷ codes "--sessions" ∷ codes "64" ∷ []))
    (served_by (rule_asked (codes "23/3/2")) (λ rule. record { rule = Some rule; port = Some 7020; sessions = 64; first = 1; keep = None; until_close = false; web = None; until_idle = None }))
unfolding clap_on_literals
server = (refl, refl)

server_of_a_file : Asks (serve (codes "--keep" ∷ codes "my.board" ∷ codes "--port=0" ∷ codes "--sessions=2" ∷ []))
    (Ok (Serve (record { rule = None; port = Some 0; sessions = 2; first = 1; keep = Some (codes "my.board"); until_close = false; web = None; until_idle = None })))
unfolding clap_on_literals
server_of_a_file = (refl, refl)

server_of_both : Asks (serve (codes "--rule=/2/3" ∷ codes "--until-close" ∷ codes "--port=0" ∷ codes "--sessions=2" ∷ codes "--first=65472" ∷ codes "--keep=" ∷ []))
    (served_by (rule_asked (codes "/2/3")) (λ rule. record { rule = Some rule; port = Some 0; sessions = 2; first = 65472; keep = Some []; until_close = true; web = None; until_idle = None }))
unfolding clap_on_literals
server_of_both = (refl, refl)

server_of_neither : Lacks (serve (codes "--port=0" ∷ codes "--sessions=2" ∷ [])) (record { rule = true; port = false; web = false })
unfolding clap_on_literals
server_of_neither = (refl, refl, refl)

server_of_nothing : Lacks (serve (codes "--sessions=2" ∷ [])) (record { rule = true; port = true; web = false })
unfolding clap_on_literals
server_of_nothing = (refl, refl, refl)

links_to_no_web_port : Lacks (serve (codes "--keep=my.board" ∷ codes "--port=0" ∷ codes "--sessions=2" ∷ codes "--url=https://draw.example.org" ∷ [])) (record { rule = false; port = false; web = true })
unfolding clap_on_literals
links_to_no_web_port = (refl, refl, refl)

class : Asks (serve (codes "--rule" ∷ codes "23/3/2" ∷ codes "--sessions" ∷ codes "30" ∷ codes "--web" ∷ codes "7080" ∷ []))
    (served_by (rule_asked (codes "23/3/2")) (λ rule. record { rule = Some rule; port = None; sessions = 30; first = 1; keep = None; until_close = false; web = Some (record { address = None; port = 7080; url = None }); until_idle = None }))
unfolding clap_on_literals
class = (refl, refl)

class_behind_a_proxy : Asks (serve (codes "--keep=my.board" ∷ codes "--port=0" ∷ codes "--web=[::1]:0" ∷ codes "--url" ∷ codes "https://draw.example.org" ∷ codes "--until-idle=1440" ∷ codes "--sessions=2" ∷ []))
    (Ok (Serve (record { rule = None; port = Some 0; sessions = 2; first = 1; keep = Some (codes "my.board"); until_close = false; web = Some (record { address = Some (codes "[::1]"); port = 0; url = Some (codes "https://draw.example.org") }); until_idle = Some 1440 })))
unfolding clap_on_literals
class_behind_a_proxy = (refl, refl)

web_port_of_17_bits : Asks (serve (codes "--keep=my.board" ∷ codes "--web=65536" ∷ codes "--sessions=2" ∷ [])) (Err (NoWeb (codes "65536")))
unfolding clap_on_literals
web_port_of_17_bits = (refl, refl)

-- the rule is looked at first
two_misspelt : Asks (serve (codes "--rule=life?" ∷ codes "--web=:1" ∷ codes "--sessions=2" ∷ [])) (Err (NoRule (codes "life?") (Fault Slashes)))
unfolding clap_on_literals rule_names other_names table_fronts table_ends
two_misspelt = (refl, refl)

idle_at_once : fault_of genedit_app (serve (codes "--rule=/2/3" ∷ codes "--port=0" ∷ codes "--sessions=1" ∷ codes "--until-idle=0" ∷ [])) ≡ kind.ValueValidation ∷ []
unfolding clap_on_literals
idle_at_once = refl

idle_for_more_than_a_day : fault_of genedit_app (serve (codes "--rule=/2/3" ∷ codes "--port=0" ∷ codes "--sessions=1" ∷ codes "--until-idle=1441" ∷ [])) ≡ kind.ValueValidation ∷ []
unfolding clap_on_literals
idle_for_more_than_a_day = refl

mistakes : Asks (genedit (codes "check" ∷ [])) (Ok (Check None))
unfolding clap_on_literals
mistakes = (refl, refl)

mistakes_of_a_file : Asks (genedit (codes "check" ∷ codes "my.script" ∷ [])) (Ok (Check (Some (codes "my.script"))))
unfolding clap_on_literals
mistakes_of_a_file = (refl, refl)

two_files : fault_of genedit_app (genedit (codes "check" ∷ codes "a" ∷ codes "b" ∷ [])) ≡ kind.UnknownArgument ∷ []
unfolding clap_on_literals
two_files = refl

picture : Asks (genedit (codes "view" ∷ [])) (Ok (View (record { file = None; rule = None; at = None; size = None; generation = None; edits = None; longest_period = None; chart = None; is_plain = false; is_svg = false })))
unfolding clap_on_literals
picture = (refl, refl)

window_of_a_file : Asks (genedit (codes "view" ∷ codes "gun.rle" ∷ codes "--at=-3,4" ∷ codes "--size=9,9" ∷ codes "--gen" ∷ codes "30" ∷ codes "--svg" ∷ []))
    (Ok (View (record { file = Some (codes "gun.rle"); rule = None; at = Some (codes "-3,4"); size = Some (codes "9,9"); generation = Some 30; edits = None; longest_period = None; chart = None; is_plain = false; is_svg = true })))
unfolding clap_on_literals
window_of_a_file = (refl, refl)

last_generation : Asks (genedit (codes "view" ∷ codes "--gen=536870912" ∷ []))
    (Ok (View (record { file = None; rule = None; at = None; size = None; generation = Some 536870912; edits = None; longest_period = None; chart = None; is_plain = false; is_svg = false })))
unfolding clap_on_literals
last_generation = (refl, refl)

picture_of_a_document : Asks (genedit (codes "view" ∷ codes "a.glwl" ∷ codes "--edits" ∷ codes "4294967295" ∷ []))
    (Ok (View (record { file = Some (codes "a.glwl"); rule = None; at = None; size = None; generation = None; edits = Some 4294967295; longest_period = None; chart = None; is_plain = false; is_svg = false })))
unfolding clap_on_literals
picture_of_a_document = (refl, refl)

longest_period : Asks (genedit (codes "view" ∷ codes "gun.rle" ∷ codes "--period" ∷ codes "65535" ∷ codes "--gen" ∷ codes "100" ∷ []))
    (Ok (View (record { file = Some (codes "gun.rle"); rule = None; at = None; size = None; generation = Some 100; edits = None; longest_period = Some 65535; chart = None; is_plain = false; is_svg = false })))
unfolding clap_on_literals
longest_period = (refl, refl)

chart_of_generations : Asks (genedit (codes "view" ∷ codes "gun.rle" ∷ codes "--chart" ∷ codes "0..1000/10" ∷ []))
    (Ok (View (record { file = Some (codes "gun.rle"); rule = None; at = None; size = None; generation = None; edits = None; longest_period = None; chart = Some (codes "0..1000/10"); is_plain = false; is_svg = false })))
unfolding clap_on_literals
chart_of_generations = (refl, refl)

period_of_0 : fault_of genedit_app (genedit (codes "view" ∷ codes "--period=0" ∷ [])) ≡ kind.ValueValidation ∷ []
unfolding clap_on_literals
period_of_0 = refl

period_of_17_bits : fault_of genedit_app (genedit (codes "view" ∷ codes "--period=65536" ∷ [])) ≡ kind.ValueValidation ∷ []
unfolding clap_on_literals
period_of_17_bits = refl

edits_of_33_bits : fault_of genedit_app (genedit (codes "view" ∷ codes "--edits=4294967296" ∷ [])) ≡ kind.ValueValidation ∷ []
unfolding clap_on_literals
edits_of_33_bits = refl

generation_too_late : fault_of genedit_app (genedit (codes "view" ∷ codes "--gen=536870913" ∷ [])) ≡ kind.ValueValidation ∷ []
unfolding clap_on_literals
generation_too_late = refl

generation_that_is_none : fault_of genedit_app (genedit (codes "view" ∷ codes "--gen=-1" ∷ [])) ≡ kind.ValueValidation ∷ []
unfolding clap_on_literals
generation_that_is_none = refl

flag_with_a_value : fault_of genedit_app (genedit (codes "view" ∷ codes "--svg=yes" ∷ [])) ≡ kind.TooManyValues ∷ []
unfolding clap_on_literals
flag_with_a_value = refl

client : Asks (genedit (codes "join" ∷ codes "--port" ∷ codes "7020" ∷ []))
    (Ok (Join (record { port = 7020; interval = 50; is_following = false; tells_changes = false; is_quiet = false; leaves_no_file = false })))
unfolding clap_on_literals
client = (refl, refl)

client_that_follows : Asks (genedit (codes "join" ∷ codes "--follow" ∷ codes "--port=1" ∷ codes "--every=60000" ∷ codes "--changes" ∷ []))
    (Ok (Join (record { port = 1; interval = 60000; is_following = true; tells_changes = true; is_quiet = false; leaves_no_file = false })))
unfolding clap_on_literals
client_that_follows = (refl, refl)

client_that_is_quiet : Asks (genedit (codes "join" ∷ codes "--no-rescue" ∷ codes "--port=1" ∷ codes "--quiet" ∷ []))
    (Ok (Join (record { port = 1; interval = 50; is_following = false; tells_changes = false; is_quiet = true; leaves_no_file = true })))
unfolding clap_on_literals
client_that_is_quiet = (refl, refl)

client_of_no_port : fault_of genedit_app (genedit (codes "join" ∷ codes "--follow" ∷ [])) ≡ kind.MissingRequiredArgument ∷ []
unfolding clap_on_literals
client_of_no_port = refl

no_interval : fault_of genedit_app (genedit (codes "join" ∷ codes "--port=1" ∷ codes "--every=0" ∷ [])) ≡ kind.ValueValidation ∷ []
unfolding clap_on_literals
no_interval = refl

interval_too_long : fault_of genedit_app (genedit (codes "join" ∷ codes "--port=1" ∷ codes "--every=60001" ∷ [])) ≡ kind.ValueValidation ∷ []
unfolding clap_on_literals
interval_too_long = refl

port_too_great : fault_of genedit_app (serve (codes "--rule=/2/3" ∷ codes "--port=65536" ∷ codes "--sessions=1" ∷ [])) ≡ kind.ValueValidation ∷ []
unfolding clap_on_literals
port_too_great = refl

no_session : fault_of genedit_app (serve (codes "--rule=/2/3" ∷ codes "--port=0" ∷ codes "--sessions=0" ∷ [])) ≡ kind.ValueValidation ∷ []
unfolding clap_on_literals
no_session = refl

sixty_five_sessions : fault_of genedit_app (serve (codes "--rule=/2/3" ∷ codes "--port=0" ∷ codes "--sessions=65" ∷ [])) ≡ kind.ValueValidation ∷ []
unfolding clap_on_literals
sixty_five_sessions = refl

first_past_the_last_seats : fault_of genedit_app (serve (codes "--rule=/2/3" ∷ codes "--port=0" ∷ codes "--sessions=1" ∷ codes "--first=65473" ∷ [])) ≡ kind.ValueValidation ∷ []
unfolding clap_on_literals
first_past_the_last_seats = refl

no_first : fault_of genedit_app (serve (codes "--rule=/2/3" ∷ codes "--port=0" ∷ codes "--sessions=1" ∷ codes "--first=0" ∷ [])) ≡ kind.ValueValidation ∷ []
unfolding clap_on_literals
no_first = refl

no_port : Lacks (serve (codes "--rule=/2/3" ∷ codes "--sessions=1" ∷ [])) (record { rule = false; port = true; web = false })
unfolding clap_on_literals
no_port = (refl, refl, refl)

new_document : Asks (genedit (codes "new" ∷ codes "a.glwl" ∷ codes "--rule=/2/3" ∷ [])) (new_task (codes "a.glwl") (rule_asked (codes "/2/3")))
unfolding clap_on_literals
new_document = (refl, refl)

drawing : Asks (genedit (codes "draw" ∷ codes "a.glwl" ∷ codes "--replica" ∷ codes "65" ∷ [])) (Ok (Draw (codes "a.glwl") 65))
unfolding clap_on_literals
drawing = (refl, refl)

-- `-` is a file's name as any other
drawing_in_a_file : Asks (genedit (codes "draw" ∷ codes "--replica=65535" ∷ codes "-" ∷ [])) (Ok (Draw (codes "-") 65535))
unfolding clap_on_literals
drawing_in_a_file = (refl, refl)

drawing_by_nobody : fault_of genedit_app (genedit (codes "draw" ∷ codes "a.glwl" ∷ [])) ≡ kind.MissingRequiredArgument ∷ []
unfolding clap_on_literals
drawing_by_nobody = refl

drawing_by_a_seat : fault_of genedit_app (genedit (codes "draw" ∷ codes "a.glwl" ∷ codes "--replica=64" ∷ [])) ≡ kind.ValueValidation ∷ []
unfolding clap_on_literals
drawing_by_a_seat = refl

replica_of_17_bits : fault_of genedit_app (genedit (codes "draw" ∷ codes "a.glwl" ∷ codes "--replica=65536" ∷ [])) ≡ kind.ValueValidation ∷ []
unfolding clap_on_literals
replica_of_17_bits = refl

merging : Asks (genedit (codes "merge" ∷ codes "a" ∷ codes "b" ∷ codes "-" ∷ codes "b" ∷ [])) (Ok (Merge (codes "a") (codes "b" ∷ codes "-" ∷ codes "b" ∷ []) None))
unfolding clap_on_literals
merging = (refl, refl)

merging_by_another_number : Asks (genedit (codes "merge" ∷ codes "a" ∷ codes "b" ∷ codes "--renumber" ∷ codes "67" ∷ [])) (Ok (Merge (codes "a") (codes "b" ∷ []) (Some 67)))
unfolding clap_on_literals
merging_by_another_number = (refl, refl)

merging_by_a_seat : fault_of genedit_app (genedit (codes "merge" ∷ codes "a" ∷ codes "b" ∷ codes "--renumber=64" ∷ [])) ≡ kind.ValueValidation ∷ []
unfolding clap_on_literals
merging_by_a_seat = refl

merging_of_none : fault_of genedit_app (genedit (codes "merge" ∷ codes "a" ∷ [])) ≡ kind.MissingRequiredArgument ∷ []
unfolding clap_on_literals
merging_of_none = refl

comparing : Asks (genedit (codes "diff" ∷ codes "a" ∷ codes "-" ∷ [])) (Ok (Diff (codes "a") None))
unfolding clap_on_literals
comparing = (refl, refl)

listing : Asks (genedit (codes "log" ∷ codes "--edits" ∷ codes "12" ∷ codes "a" ∷ [])) (Ok (Log (Some (codes "a")) (Some 12)))
unfolding clap_on_literals
listing = (refl, refl)

exporting : Asks (genedit (codes "export" ∷ codes "-" ∷ codes "30" ∷ [])) (Ok (Export None 30 None))
unfolding clap_on_literals
exporting = (refl, refl)

generation_of_33_bits : fault_of genedit_app (genedit (codes "export" ∷ codes "a" ∷ codes "4294967296" ∷ [])) ≡ kind.ValueValidation ∷ []
unfolding clap_on_literals
generation_of_33_bits = refl

following : Asks (genedit (codes "follow" ∷ codes "a.glwl" ∷ [])) (Ok (Follow (codes "a.glwl") None false))
unfolding clap_on_literals
following = (refl, refl)

-- `-` is a file's name as any other
following_of_bytes : Asks (genedit (codes "follow" ∷ codes "--raw" ∷ codes "--from" ∷ codes "4294967295" ∷ codes "-" ∷ [])) (Ok (Follow (codes "-") (Some 4294967295) true))
unfolding clap_on_literals
following_of_bytes = (refl, refl)

following_of_no_file : fault_of genedit_app (genedit (codes "follow" ∷ codes "--raw" ∷ [])) ≡ kind.MissingRequiredArgument ∷ []
unfolding clap_on_literals
following_of_no_file = refl

records_of_33_bits : fault_of genedit_app (genedit (codes "follow" ∷ codes "a.glwl" ∷ codes "--from=4294967296" ∷ [])) ≡ kind.ValueValidation ∷ []
unfolding clap_on_literals
records_of_33_bits = refl

feeding : Asks (genedit (codes "feed" ∷ codes "a.glwl" ∷ [])) (Ok (Feed (codes "a.glwl")))
unfolding clap_on_literals
feeding = (refl, refl)

feeding_of_two : fault_of genedit_app (genedit (codes "feed" ∷ codes "a" ∷ codes "b" ∷ [])) ≡ kind.UnknownArgument ∷ []
unfolding clap_on_literals
feeding_of_two = refl

numbering : Asks (genedit (codes "number" ∷ codes "numbers.txt" ∷ codes "ann" ∷ [])) (Ok (Number (codes "numbers.txt") (codes "ann")))
unfolding clap_on_literals
numbering = (refl, refl)

numbering_of_nobody : fault_of genedit_app (genedit (codes "number" ∷ codes "numbers.txt" ∷ [])) ≡ kind.MissingRequiredArgument ∷ []
unfolding clap_on_literals
numbering_of_nobody = refl

refused_rule : Asks (rle (codes "--rule" ∷ codes "life?" ∷ [])) (Err (NoRule (codes "life?") (Fault Slashes)))
unfolding clap_on_literals rule_names other_names table_fronts table_ends
refused_rule = (refl, refl)

refused_rule_beside_a_file : Asks (serve (codes "--rule=life?" ∷ codes "--port=0" ∷ codes "--sessions=1" ∷ codes "--keep=my.board" ∷ []))
    (Err (NoRule (codes "life?") (Fault Slashes)))
unfolding clap_on_literals rule_names other_names table_fronts table_ends
refused_rule_beside_a_file = (refl, refl)

no_file : fault_of genedit_app (serve (codes "--port=0" ∷ codes "--sessions=1" ∷ codes "--keep" ∷ [])) ≡ kind.InvalidValue ∷ []
unfolding clap_on_literals
no_file = refl

no_word : fault_of genedit_app (genedit []) ≡ kind.MissingSubcommand ∷ []
unfolding clap_on_literals
no_word = refl

-- a word that is neither may be meant as a value or as a subcommand
unknown_word : fault_of genedit_app (genedit (codes "jump" ∷ [])) ≡ kind.UnknownArgument ∷ kind.InvalidSubcommand ∷ []
unfolding clap_on_literals
unknown_word = refl

word_too_many : fault_of genedit_app (genedit (codes "run" ∷ codes "my.script" ∷ codes "now" ∷ [])) ≡ kind.UnknownArgument ∷ []
unfolding clap_on_literals
word_too_many = refl

no_rule : fault_of genedit_app (rle []) ≡ kind.MissingRequiredArgument ∷ []
unfolding clap_on_literals
no_rule = refl

no_text : fault_of genedit_app (rle (codes "--rule" ∷ [])) ≡ kind.InvalidValue ∷ []
unfolding clap_on_literals
no_text = refl

two_rules : fault_of genedit_app (rle (codes "--rule=/2/3" ∷ codes "--rule=/2/3" ∷ [])) ≡ kind.ArgumentConflict ∷ []
unfolding clap_on_literals
two_rules = refl

help : fault_of genedit_app (genedit (codes "--help" ∷ [])) ≡ kind.DisplayHelp ∷ []
unfolding clap_on_literals
help = refl

version : fault_of genedit_app (genedit (codes "-V" ∷ [])) ≡ kind.DisplayVersion ∷ []
unfolding clap_on_literals
version = refl
