-- Rules by their names, in capital and small letters alike. The names are those of Golly 3.3: of its list of named rules, its
-- folders Rules and Patterns, and its help ("Algorithm: Generations", "Algorithm: QuickLife"); some with other blanks.
use Rattle.std.specs.Prelude.{ℕ, List, [], ◌∷◌, if◌then◌else◌, codes, Option, Some, None}
use Rattle.std.specs.Result.{result_ok}
use Rattle.std.specs.Str.{str_eq_ignore_ascii_case}
use Rattle.generations_rule.specs.Rule.{GenerationsRule}
use Rattle.generations_rule.specs.RuleText.{parsed}
use Rattle.text_scan.specs.Bytes.{◌>=>◌}

-- what stands beside a name in a table
abbrev pub beside : {A : Type 0} → List (List ℕ × A) → List ℕ → Option A
beside [] name = None
beside (row ∷ rows) name = if str_eq_ignore_ascii_case row.0 name then Some row.1 else beside rows name

-- each name, and the text `S/B/C` of its rule
unfoldable pub rule_names : List (List ℕ × List ℕ)
rule_names =
    -- the list of named rules
    (codes "Life", codes "23/3/2")
    ∷ (codes "3-4 Life", codes "34/34/2")
    ∷ (codes "HighLife", codes "23/36/2")
    ∷ (codes "Life without Death", codes "012345678/3/2")
    ∷ (codes "Plow World", codes "012345678/378/2")
    ∷ (codes "Day and Night", codes "34678/3678/2")
    ∷ (codes "Diamoeba", codes "5678/35678/2")
    ∷ (codes "LongLife", codes "5/345/2")
    ∷ (codes "Seeds", codes "/2/2")
    ∷ (codes "Persian Rug", codes "/234/2")
    ∷ (codes "Replicator", codes "1357/1357/2")
    ∷ (codes "Fredkin", codes "02468/1357/2")
    ∷ (codes "Morley", codes "245/368/2")
    -- the help
    ∷ (codes "Day & Night", codes "34678/3678/2")
    ∷ (codes "Serviettes", codes "/234/2")
    ∷ (codes "Banners", codes "2367/3457/5")
    ∷ (codes "Bloomerang", codes "234/34678/24")
    ∷ (codes "Brian's Brain", codes "/2/3")
    ∷ (codes "Caterpillars", codes "124567/378/4")
    ∷ (codes "Cooties", codes "23/2/8")
    ∷ (codes "Fireworks", codes "2/13/21")
    ∷ (codes "Frogs", codes "12/34/3")
    ∷ (codes "Lava", codes "12345/45678/8")
    ∷ (codes "Lines", codes "012345/458/3")
    ∷ (codes "Star Wars", codes "345/2/4")
    ∷ (codes "Sticks", codes "3456/2/6")
    ∷ (codes "Transers", codes "345/26/5")
    ∷ (codes "Xtasy", codes "1456/2356/16")
    -- the folders
    ∷ (codes "BriansBrain", codes "/2/3")
    ∷ (codes "StarWars", codes "345/2/4")
    ∷ (codes "Burst", codes "0235678/3468/9")
    ∷ (codes "Coral", codes "45678/3/2")
    ∷ (codes "Ebb&Flow", codes "012478/36/18")
    ∷ (codes "LivingOnTheEdge", codes "345/3/6")
    ∷ (codes "MeteorGuns", codes "01245678/3/8")
    ∷ (codes "Nova", codes "45678/2478/25")
    ∷ (codes "SediMental", codes "45678/25678/4")
    ∷ (codes "Spirals", codes "2/234/5")
    -- the same with other blanks
    ∷ (codes "3-4Life", codes "34/34/2")
    ∷ (codes "High Life", codes "23/36/2")
    ∷ (codes "Long Life", codes "5/345/2")
    ∷ (codes "DayAndNight", codes "34678/3678/2")
    ∷ (codes "Day-and-Night", codes "34678/3678/2")
    ∷ (codes "Brians Brain", codes "/2/3")
    ∷ (codes "Brians-Brain", codes "/2/3")
    ∷ (codes "Star-Wars", codes "345/2/4")
    ∷ []

-- the rule of a name
abbrev pub rule_named : List ℕ → Option GenerationsRule
rule_named text = beside rule_names text >=> λ spelled. result_ok (parsed spelled)
