-- Worked values of the definitions.
use Rattle.std.specs.Prelude.{◌≡◌, true, Some, None, Ok, Err, codes, refl}
use Rattle.std.specs.List.{list_all}
use Rattle.std.specs.Option.{is_some}
use Rattle.std.specs.Result.{result_ok}
use Rattle.generations_rule.specs.RuleText.{rule_of_text, parsed}
use Rattle.generations_rule.specs.declared.fault.RuleFault.TheVariants.{Slashes, Digit, States}
use Rattle.header_rules.specs.declared.family.OtherFamily.TheVariants.{BirthOnNone, Neighbours, NonTotalistic, Bounded, Map, LargerThanLife, Wolfram, Table}
use Rattle.header_rules.specs.declared.spelling.Misspelling.TheVariants.{Other, Fault}
use Rattle.header_rules.specs.Names.{rule_names}
use Rattle.header_rules.specs.Families.{other_names, table_fronts, table_ends}
use Rattle.header_rules.specs.SpelledRule.{rule_spelled}
use Rattle.header_rules.specs.HeaderRule.{header_rule_told}

-- ---- as `S/B/C`

pub star_wars : rule_spelled (codes "345/2/4") ≡ Ok (rule_of_text (codes "345/2/4"))
star_wars = refl

pub brians_brain : rule_spelled (codes "/2/3") ≡ Ok (rule_of_text (codes "/2/3"))
brians_brain = refl

-- ---- two states

pub life : rule_spelled (codes "B3/S23") ≡ Ok (rule_of_text (codes "23/3/2"))
life = refl

pub small_letters : rule_spelled (codes "b36/s23") ≡ Ok (rule_of_text (codes "23/36/2"))
small_letters = refl

pub no_slash : rule_spelled (codes "B3S23") ≡ Ok (rule_of_text (codes "23/3/2"))
no_slash = refl

pub small_letters_no_slash : rule_spelled (codes "b3s23") ≡ Ok (rule_of_text (codes "23/3/2"))
small_letters_no_slash = refl

pub survival_before_birth : rule_spelled (codes "S23/B3") ≡ Ok (rule_of_text (codes "23/3/2"))
survival_before_birth = refl

pub survival_before_birth_no_slash : rule_spelled (codes "s23b3") ≡ Ok (rule_of_text (codes "23/3/2"))
survival_before_birth_no_slash = refl

pub no_letters : rule_spelled (codes "23/3") ≡ Ok (rule_of_text (codes "23/3/2"))
no_letters = refl

pub no_letters_no_survival : rule_spelled (codes "/2") ≡ Ok (rule_of_text (codes "/2/2"))
no_letters_no_survival = refl

pub no_survival : rule_spelled (codes "B2/S") ≡ Ok (rule_of_text (codes "/2/2"))
no_survival = refl

pub no_counts : rule_spelled (codes "BS") ≡ Ok (rule_of_text (codes "//2"))
no_counts = refl

pub slash_alone : rule_spelled (codes "/") ≡ Ok (rule_of_text (codes "//2"))
slash_alone = refl

pub digits_in_any_order : rule_spelled (codes "B63/S322") ≡ Ok (rule_of_text (codes "23/36/2"))
digits_in_any_order = refl

-- ---- more states

pub states_behind_c : rule_spelled (codes "B2/S/C3") ≡ Ok (rule_of_text (codes "/2/3"))
states_behind_c = refl

pub states_behind_g : rule_spelled (codes "B2/S/G3") ≡ Ok (rule_of_text (codes "/2/3"))
states_behind_g = refl

pub survival_first_and_c : rule_spelled (codes "S/B2/C3") ≡ Ok (rule_of_text (codes "/2/3"))
survival_first_and_c = refl

pub survival_first_and_g : rule_spelled (codes "S345/B2/G4") ≡ Ok (rule_of_text (codes "345/2/4"))
survival_first_and_g = refl

pub states_behind_slash : rule_spelled (codes "B2/S/3") ≡ Ok (rule_of_text (codes "/2/3"))
states_behind_slash = refl

pub survival_first_and_slash : rule_spelled (codes "S/B2/3") ≡ Ok (rule_of_text (codes "/2/3"))
survival_first_and_slash = refl

pub no_slashes_c : rule_spelled (codes "B2S345C4") ≡ Ok (rule_of_text (codes "345/2/4"))
no_slashes_c = refl

pub no_slashes_g : rule_spelled (codes "B2S345G4") ≡ Ok (rule_of_text (codes "345/2/4"))
no_slashes_g = refl

pub small_no_slashes : rule_spelled (codes "s345b2g4") ≡ Ok (rule_of_text (codes "345/2/4"))
small_no_slashes = refl

pub states_first_c : rule_spelled (codes "C4/B2/S345") ≡ Ok (rule_of_text (codes "345/2/4"))
states_first_c = refl

pub states_first_g : rule_spelled (codes "G4/B2/S345") ≡ Ok (rule_of_text (codes "345/2/4"))
states_first_g = refl

pub small_states_first : rule_spelled (codes "g4b2s345") ≡ Ok (rule_of_text (codes "345/2/4"))
small_states_first = refl

pub one_slash_alone : rule_spelled (codes "B2S345/C4") ≡ Ok (rule_of_text (codes "345/2/4"))
one_slash_alone = refl

pub most_states : rule_spelled (codes "B2/S345/C256") ≡ Ok (rule_of_text (codes "345/2/256"))
most_states = refl

pub zeros_in_front : rule_spelled (codes "B2/S345/C004") ≡ Ok (rule_of_text (codes "345/2/4"))
zeros_in_front = refl

-- ---- names

pub name_life : rule_spelled (codes "Life") ≡ Ok (rule_of_text (codes "23/3/2"))
unfolding rule_names
name_life = refl

pub name_small : rule_spelled (codes "life") ≡ Ok (rule_of_text (codes "23/3/2"))
unfolding rule_names
name_small = refl

pub name_capital : rule_spelled (codes "HIGHLIFE") ≡ Ok (rule_of_text (codes "23/36/2"))
unfolding rule_names
name_capital = refl

pub name_34 : rule_spelled (codes "3-4 Life") ≡ Ok (rule_of_text (codes "34/34/2"))
unfolding rule_names
name_34 = refl

pub name_without_death : rule_spelled (codes "Life without Death") ≡ Ok (rule_of_text (codes "012345678/3/2"))
unfolding rule_names
name_without_death = refl

pub name_day : rule_spelled (codes "Day and Night") ≡ Ok (rule_of_text (codes "34678/3678/2"))
unfolding rule_names
name_day = refl

pub name_day_sign : rule_spelled (codes "day & night") ≡ Ok (rule_of_text (codes "34678/3678/2"))
unfolding rule_names
name_day_sign = refl

pub name_seeds : rule_spelled (codes "Seeds") ≡ Ok (rule_of_text (codes "/2/2"))
unfolding rule_names
name_seeds = refl

pub name_fredkin : rule_spelled (codes "Fredkin") ≡ Ok (rule_of_text (codes "02468/1357/2"))
unfolding rule_names
name_fredkin = refl

pub name_rug : rule_spelled (codes "Persian Rug") ≡ Ok (rule_of_text (codes "/234/2"))
unfolding rule_names
name_rug = refl

pub name_brain : rule_spelled (codes "Brian's Brain") ≡ Ok (rule_of_text (codes "/2/3"))
unfolding rule_names
name_brain = refl

pub name_brain_file : rule_spelled (codes "briansbrain") ≡ Ok (rule_of_text (codes "/2/3"))
unfolding rule_names
name_brain_file = refl

pub name_wars : rule_spelled (codes "Star Wars") ≡ Ok (rule_of_text (codes "345/2/4"))
unfolding rule_names
name_wars = refl

pub name_wars_file : rule_spelled (codes "StarWars") ≡ Ok (rule_of_text (codes "345/2/4"))
unfolding rule_names
name_wars_file = refl

pub name_caterpillars : rule_spelled (codes "Caterpillars") ≡ Ok (rule_of_text (codes "124567/378/4"))
unfolding rule_names
name_caterpillars = refl

pub name_bloomerang : rule_spelled (codes "bloomerang") ≡ Ok (rule_of_text (codes "234/34678/24"))
unfolding rule_names
name_bloomerang = refl

-- ---- other families

pub birth_on_none : rule_spelled (codes "B03/S23") ≡ Err (Other BirthOnNone)
unfolding rule_names other_names table_fronts table_ends
birth_on_none = refl

pub birth_on_none_small : rule_spelled (codes "b0s") ≡ Err (Other BirthOnNone)
unfolding rule_names other_names table_fronts table_ends
birth_on_none_small = refl

pub birth_on_none_states : rule_spelled (codes "S1/B0/C4") ≡ Err (Other BirthOnNone)
unfolding rule_names other_names table_fronts table_ends
birth_on_none_states = refl

pub birth_on_none_named : rule_spelled (codes "AntiLife") ≡ Err (Other BirthOnNone)
unfolding rule_names other_names table_fronts table_ends
birth_on_none_named = refl

pub hexagons : rule_spelled (codes "B2/S34H") ≡ Err (Other Neighbours)
unfolding rule_names other_names table_fronts table_ends
hexagons = refl

pub von_neumann : rule_spelled (codes "B3/S23V") ≡ Err (Other Neighbours)
unfolding rule_names other_names table_fronts table_ends
von_neumann = refl

pub von_neumann_small : rule_spelled (codes "b13s012v") ≡ Err (Other Neighbours)
unfolding rule_names other_names table_fronts table_ends
von_neumann_small = refl

pub hexagons_no_letters : rule_spelled (codes "34/2H") ≡ Err (Other Neighbours)
unfolding rule_names other_names table_fronts table_ends
hexagons_no_letters = refl

pub hexagons_states : rule_spelled (codes "345/2/4H") ≡ Err (Other Neighbours)
unfolding rule_names other_names table_fronts table_ends
hexagons_states = refl

pub hexagons_birth_on_none : rule_spelled (codes "B0/S34H") ≡ Err (Other Neighbours)
unfolding rule_names other_names table_fronts table_ends
hexagons_birth_on_none = refl

pub letters : rule_spelled (codes "B2e3/S23") ≡ Err (Other NonTotalistic)
unfolding rule_names other_names table_fronts table_ends
letters = refl

pub letters_left_out : rule_spelled (codes "B3/S2-i34q") ≡ Err (Other NonTotalistic)
unfolding rule_names other_names table_fronts table_ends
letters_left_out = refl

pub letters_alone : rule_spelled (codes "2-i34q/3") ≡ Err (Other NonTotalistic)
unfolding rule_names other_names table_fronts table_ends
letters_alone = refl

pub letters_underscore : rule_spelled (codes "B3_S23-a4ei6") ≡ Err (Other NonTotalistic)
unfolding rule_names other_names table_fronts table_ends
letters_underscore = refl

pub letters_capital : rule_spelled (codes "B2E3/S23") ≡ Err (Other NonTotalistic)
unfolding rule_names other_names table_fronts table_ends
letters_capital = refl

pub letters_states : rule_spelled (codes "2a/3/4") ≡ Err (Other NonTotalistic)
unfolding rule_names other_names table_fronts table_ends
letters_states = refl

-- 257 states there are not, but three neighbours at c
pub letter_c : rule_spelled (codes "B3S23C257") ≡ Err (Other NonTotalistic)
unfolding rule_names other_names table_fronts table_ends
letter_c = refl

pub letters_named : rule_spelled (codes "Just Friends") ≡ Err (Other NonTotalistic)
unfolding rule_names other_names table_fronts table_ends
letters_named = refl

pub grid : rule_spelled (codes "B3/S23:T100,200") ≡ Err (Other Bounded)
unfolding rule_names other_names table_fronts table_ends
grid = refl

pub grid_cut : rule_spelled (codes "B3/S23:T100") ≡ Err (Other Bounded)
unfolding rule_names other_names table_fronts table_ends
grid_cut = refl

pub grid_states : rule_spelled (codes "345/2/4:P30") ≡ Err (Other Bounded)
unfolding rule_names other_names table_fronts table_ends
grid_states = refl

pub grid_named : rule_spelled (codes "Life:T30+7") ≡ Err (Other Bounded)
unfolding rule_names other_names table_fronts table_ends
grid_named = refl

pub grid_empty : rule_spelled (codes "B3/S23:") ≡ Err (Other Bounded)
unfolding rule_names other_names table_fronts table_ends
grid_empty = refl

pub grid_hexagons : rule_spelled (codes "B2/S34H:T10") ≡ Err (Other Neighbours)
unfolding rule_names other_names table_fronts table_ends
grid_hexagons = refl

pub map_of_bits : rule_spelled (codes "MAPARYXfhZofugWaH7oaIDogBZofuhogOiAaIDogIAAgAAWaH7oaIDogGiA6ICAAIAAaIDogIAAgACAAIAAAAAAAA") ≡ Err (Other Map)
unfolding rule_names other_names table_fronts table_ends
map_of_bits = refl

pub map_small : rule_spelled (codes "mapARYXfg") ≡ Err (Other Map)
unfolding rule_names other_names table_fronts table_ends
map_small = refl

pub larger : rule_spelled (codes "R5,C0,M1,S34..58,B34..45,NM") ≡ Err (Other LargerThanLife)
unfolding rule_names other_names table_fronts table_ends
larger = refl

pub larger_cut : rule_spelled (codes "R5") ≡ Err (Other LargerThanLife)
unfolding rule_names other_names table_fronts table_ends
larger_cut = refl

pub larger_small : rule_spelled (codes "r10") ≡ Err (Other LargerThanLife)
unfolding rule_names other_names table_fronts table_ends
larger_small = refl

pub wolfram : rule_spelled (codes "W110") ≡ Err (Other Wolfram)
unfolding rule_names other_names table_fronts table_ends
wolfram = refl

pub wolfram_small : rule_spelled (codes "w22") ≡ Err (Other Wolfram)
unfolding rule_names other_names table_fronts table_ends
wolfram_small = refl

pub wolfram_named : rule_spelled (codes "Wolfram 30") ≡ Err (Other Wolfram)
unfolding rule_names other_names table_fronts table_ends
wolfram_named = refl

pub wire_world : rule_spelled (codes "WireWorld") ≡ Err (Other Table)
unfolding rule_names other_names table_fronts table_ends
wire_world = refl

pub wire_world_small : rule_spelled (codes "wireworld") ≡ Err (Other Table)
unfolding rule_names other_names table_fronts table_ends
wire_world_small = refl

pub life_history : rule_spelled (codes "LifeHistory") ≡ Err (Other Table)
unfolding rule_names other_names table_fronts table_ends
life_history = refl

pub any_history : rule_spelled (codes "HighLifeHistory") ≡ Err (Other Table)
unfolding rule_names other_names table_fronts table_ends
any_history = refl

pub history_grid : rule_spelled (codes "LifeHistory:T31") ≡ Err (Other Table)
unfolding rule_names other_names table_fronts table_ends
history_grid = refl

pub jvn : rule_spelled (codes "JvN29") ≡ Err (Other Table)
unfolding rule_names other_names table_fronts table_ends
jvn = refl

pub jvn_hyphen : rule_spelled (codes "JvN-29") ≡ Err (Other Table)
unfolding rule_names other_names table_fronts table_ends
jvn_hyphen = refl

pub nobili : rule_spelled (codes "Nobili32") ≡ Err (Other Table)
unfolding rule_names other_names table_fronts table_ends
nobili = refl

pub hutton : rule_spelled (codes "Hutton32") ≡ Err (Other Table)
unfolding rule_names other_names table_fronts table_ends
hutton = refl

pub investigator : rule_spelled (codes "StateInvestigator") ≡ Err (Other Table)
unfolding rule_names other_names table_fronts table_ends
investigator = refl

pub langtons_loops : rule_spelled (codes "Langtons-Loops") ≡ Err (Other Table)
unfolding rule_names other_names table_fronts table_ends
langtons_loops = refl

pub margolus : rule_spelled (codes "BBM-Margolus-emulated") ≡ Err (Other Table)
unfolding rule_names other_names table_fronts table_ends
margolus = refl

pub critters : rule_spelled (codes "CrittersMargolus_emulated") ≡ Err (Other Table)
unfolding rule_names other_names table_fronts table_ends
critters = refl

pub turmite : rule_spelled (codes "Turmite_121181121020") ≡ Err (Other Table)
unfolding rule_names other_names table_fronts table_ends
turmite = refl

pub worm : rule_spelled (codes "Worm-1042015") ≡ Err (Other Table)
unfolding rule_names other_names table_fronts table_ends
worm = refl

-- ---- neither

pub survival_at_9 : rule_spelled (codes "B3/S239") ≡ Err (Fault Slashes)
unfolding rule_names other_names table_fronts table_ends
survival_at_9 = refl

pub two_slashes : rule_spelled (codes "B3//S23") ≡ Err (Fault (Digit 0))
unfolding rule_names other_names table_fronts table_ends
two_slashes = refl

pub one_letter : rule_spelled (codes "B3/23") ≡ Err (Fault Slashes)
unfolding rule_names other_names table_fronts table_ends
one_letter = refl

pub no_bytes : rule_spelled (codes "") ≡ Err (Fault Slashes)
unfolding rule_names other_names table_fronts table_ends
no_bytes = refl

pub one_byte : rule_spelled (codes "b") ≡ Err (Fault Slashes)
unfolding rule_names other_names table_fronts table_ends
one_byte = refl

pub one_state : rule_spelled (codes "B3/S23/C1") ≡ Err (Fault (Digit 0))
unfolding rule_names other_names table_fronts table_ends
one_state = refl

pub states_257 : rule_spelled (codes "B3/S23/C257") ≡ Err (Fault (Digit 0))
unfolding rule_names other_names table_fronts table_ends
states_257 = refl

pub states_257_behind_slash : rule_spelled (codes "B3/S23/257") ≡ Err (Fault (Digit 0))
unfolding rule_names other_names table_fronts table_ends
states_257_behind_slash = refl

pub no_states : rule_spelled (codes "B2/S/C") ≡ Err (Fault (Digit 0))
unfolding rule_names other_names table_fronts table_ends
no_states = refl

pub states_257_first : rule_spelled (codes "C257/B2/S") ≡ Err (Fault (Digit 0))
unfolding rule_names other_names table_fronts table_ends
states_257_first = refl

pub states_of_four_digits : rule_spelled (codes "B2/S/C0003") ≡ Err (Fault (Digit 0))
unfolding rule_names other_names table_fronts table_ends
states_of_four_digits = refl

pub birth_on_none_no_letters : rule_spelled (codes "23/03") ≡ Err (Fault Slashes)
unfolding rule_names other_names table_fronts table_ends
birth_on_none_no_letters = refl

pub birth_on_none_parsed : rule_spelled (codes "345/02/4") ≡ Err (Fault (Digit 4))
unfolding rule_names other_names table_fronts table_ends
birth_on_none_parsed = refl

pub states_257_parsed : rule_spelled (codes "345/2/257") ≡ Err (Fault States)
unfolding rule_names other_names table_fronts table_ends
states_257_parsed = refl

pub letters_twice : rule_spelled (codes "B3/S23/B3") ≡ Err (Fault (Digit 0))
unfolding rule_names other_names table_fronts table_ends
letters_twice = refl

pub more_behind : rule_spelled (codes "C4/B2/S345/") ≡ Err (Fault Slashes)
unfolding rule_names other_names table_fronts table_ends
more_behind = refl

pub blank_behind : rule_spelled (codes "B3/S23 ") ≡ Err (Fault Slashes)
unfolding rule_names other_names table_fronts table_ends
blank_behind = refl

pub underscore : rule_spelled (codes "B3_S23") ≡ Err (Fault Slashes)
unfolding rule_names other_names table_fronts table_ends
underscore = refl

pub hexagons_at_9 : rule_spelled (codes "B9/S2H") ≡ Err (Fault Slashes)
unfolding rule_names other_names table_fronts table_ends
hexagons_at_9 = refl

pub hexagons_alone : rule_spelled (codes "H") ≡ Err (Fault Slashes)
unfolding rule_names other_names table_fronts table_ends
hexagons_alone = refl

pub letters_first : rule_spelled (codes "Bee/See") ≡ Err (Fault Slashes)
unfolding rule_names other_names table_fronts table_ends
letters_first = refl

pub letters_at_9 : rule_spelled (codes "B2e9/S23") ≡ Err (Fault Slashes)
unfolding rule_names other_names table_fronts table_ends
letters_at_9 = refl

pub hyphen_alone : rule_spelled (codes "B3-/S23") ≡ Err (Fault Slashes)
unfolding rule_names other_names table_fronts table_ends
hyphen_alone = refl

pub letter_without_number : rule_spelled (codes "R,5") ≡ Err (Fault Slashes)
unfolding rule_names other_names table_fronts table_ends
letter_without_number = refl

pub no_name : rule_spelled (codes "Lif") ≡ Err (Fault Slashes)
unfolding rule_names other_names table_fronts table_ends
no_name = refl

pub more_than_a_name : rule_spelled (codes "Lifelike") ≡ Err (Fault Slashes)
unfolding rule_names other_names table_fronts table_ends
more_than_a_name = refl

pub grid_of_nothing : rule_spelled (codes ":T10") ≡ Err (Fault Slashes)
unfolding rule_names other_names table_fronts table_ends
grid_of_nothing = refl

pub grid_of_no_rule : rule_spelled (codes "B3/S239:T10") ≡ Err (Fault Slashes)
unfolding rule_names other_names table_fronts table_ends
grid_of_no_rule = refl

-- ---- the tables

pub all_names_are_rules : list_all (λ row. is_some (result_ok (parsed row.1))) rule_names ≡ true
unfolding rule_names
all_names_are_rules = refl

-- ---- headers

pub told : header_rule_told (codes "#C a\n\nx = 3, y = 3, rule = B3/S23\nbo$2bo$3o!")
    ≡ Some (record { place = 27; length = 6; rule = Ok (rule_of_text (codes "23/3/2")); bounds = None })
told = refl

-- blanks round each part, and a comma behind
pub told_between_blanks : header_rule_told (codes " x=3 ,y=3\t, rule= 345/2/4 \t, z\r\n")
    ≡ Some (record { place = 18; length = 7; rule = Ok (rule_of_text (codes "345/2/4")); bounds = None })
told_between_blanks = refl

pub told_and_not_read : header_rule_told (codes "x = 1, y = 1, rule = LifeHistory\nA!")
    ≡ Some (record { place = 21; length = 11; rule = Err (Other Table); bounds = None })
unfolding rule_names other_names table_fronts table_ends
told_and_not_read = refl

-- of a text with commas the front is told, which is enough
pub told_up_to_a_comma : header_rule_told (codes "x = 1, y = 1, rule = R5,C0,M1,S34..58,B34..45,NM\no!")
    ≡ Some (record { place = 21; length = 2; rule = Err (Other LargerThanLife); bounds = None })
unfolding rule_names other_names table_fronts table_ends
told_up_to_a_comma = refl

-- bounds are told up to the line's end
pub told_on_a_grid : header_rule_told (codes "x = 1, y = 1, rule = B3/S23:T100,200 \no!")
    ≡ Some (record { place = 21; length = 6; rule = Ok (rule_of_text (codes "23/3/2")); bounds = Some (record { place = 28; length = 8 }) })
unfolding rule_names
told_on_a_grid = refl

pub told_without_bounds : header_rule_told (codes "x = 1, y = 1, rule = 23/3/2: \no!")
    ≡ Some (record { place = 21; length = 6; rule = Ok (rule_of_text (codes "23/3/2")); bounds = None })
unfolding rule_names
told_without_bounds = refl

-- a colon behind a comma tells none
pub told_in_front_of_a_comma : header_rule_told (codes "x = 1, y = 1, rule = 23/3/2, z:T1\no!")
    ≡ Some (record { place = 21; length = 6; rule = Ok (rule_of_text (codes "23/3/2")); bounds = None })
unfolding rule_names
told_in_front_of_a_comma = refl

-- a grid of another family
pub told_on_a_grid_of_another : header_rule_told (codes "x = 1, y = 1, rule = B2e3/S23:T100,200\no!")
    ≡ Some (record { place = 21; length = 13; rule = Err (Other NonTotalistic); bounds = Some (record { place = 30; length = 8 }) })
unfolding rule_names other_names table_fronts table_ends
told_on_a_grid_of_another = refl

pub told_and_no_rule : header_rule_told (codes "x = 1, y = 1, rule = B3/S239\no!")
    ≡ Some (record { place = 21; length = 7; rule = Err (Fault Slashes); bounds = None })
unfolding rule_names other_names table_fronts table_ends
told_and_no_rule = refl

pub no_rule : header_rule_told (codes "x = 1, y = 1\nrule = B3/S23\no!") ≡ None
no_rule = refl

pub no_text : header_rule_told (codes "x = 1, y = 1, rule = , 23/3/2\no!") ≡ None
unfolding rule_names
no_text = refl

-- a pattern of dots and stars
pub no_header : header_rule_told (codes "!Name: a\n.O.\n") ≡ None
no_header = refl

pub no_lines : header_rule_told (codes "# x = 1, y = 1, rule = B3/S23\n \n") ≡ None
no_lines = refl
