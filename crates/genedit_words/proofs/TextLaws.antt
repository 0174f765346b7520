-- The text that a getter reads.
use Rattle.std.proofs.Common.{◌≡◌, ◌∙◌, ◌||◌, ◌&&◌, not, ℕ, Bool, true, false, true≢false, List, Option, Some, None, is_some, codes, refl, sym, ap, slice_get}
use Rattle.std.specs.Borrow.{Bor}
use Rattle.std.specs.Option.{IsSome}
use Rattle.std.specs.Prelude.{map, find, if◌then◌else◌, option_and_then, option_map, Result, Ok, Err}
use Rattle.std.specs.Str.{bytes_eq}
use Rattle.std.specs.Str.Parse.{digits_value, without_leading_plus}
use Rattle.clap.specs.Values.{read_as}
use Rattle.clap.specs.Walk.{Row, Text, first_of, row_text}
use Rattle.clap.specs.declared.builder.value_parser.Reading.{Reading}
use Rattle.generations_rule.specs.Rule.{GenerationsRule}
use Rattle.genedit_words.specs.Misspelt.{Misspelt}
use Rattle.genedit_words.specs.Needs.{needs_some}
use Rattle.genedit_words.specs.Told.{WebServed, web_told}
use Rattle.genedit_words.specs.WebWords.{WebPlace, web_spelled}
use Rattle.genedit_words.specs.Words.{file_asked, first_asked, is_set, is_told, number_of, rule_asked, rule_if_given, serve_asked, serve_task, served, server_asked, server_needs, some_rule, viewing, web_asked, web_if_given, web_or_misspelt}
use Rattle.genedit_words.specs.declared.task.WebTask.{WebTask}

pub some_text : (o : Option (Bor (List ℕ))) (text : List ℕ) → option_map (λ s. s.now) o ≡ Some text → IsSome o
some_text None text h = cc
some_text (Some s) text h = refl

pub same_text : (o : Option (Bor (List ℕ))) (s : Bor (List ℕ)) (text : List ℕ) → option_map (λ s. s.now) o ≡ Some text → o ≡ Some s → s.now ≡ text
same_text o s text h is = let some : Some s.now ≡ Some text = ap (option_map (λ (x : Bor (List ℕ)). x.now)) (sym is) ∙ h in cc

-- the same of texts
pub some_texts : (o : Option (Bor (List (Bor (List ℕ))))) (texts : List (List ℕ)) → option_map (λ s. map (λ v. v.now) s.now) o ≡ Some texts → IsSome o
some_texts None texts h = cc
some_texts (Some s) texts h = refl

pub same_texts : (o : Option (Bor (List (Bor (List ℕ))))) (s : Bor (List (Bor (List ℕ)))) (texts : List (List ℕ)) → option_map (λ s. map (λ v. v.now) s.now) o ≡ Some texts → o ≡ Some s
    → map (λ (v : Bor (List ℕ)). v.now) s.now ≡ texts
same_texts o s texts h is =
    let some : Some (map (λ (v : Bor (List ℕ)). v.now) s.now) ≡ Some texts = ap (option_map (λ (x : Bor (List (Bor (List ℕ)))). map (λ (v : Bor (List ℕ)). v.now) x.now)) (sym is) ∙ h in cc

-- what the getters read for a picture
pub is_viewing : (rows : List Row) (rule : Option GenerationsRule) {file at size chart : Option Text} (generation edits longest_period : Option ℕ) (is_plain is_svg : Bool)
    → file ≡ file_asked rows → at ≡ first_of (codes "at") rows → size ≡ first_of (codes "size") rows → chart ≡ first_of (codes "chart") rows
    → number_of (codes "gen") rows ≡ generation → number_of (codes "edits") rows ≡ edits → number_of (codes "period") rows ≡ longest_period → is_set (codes "plain") rows ≡ is_plain → is_set (codes "svg") rows ≡ is_svg
    → viewing rows rule ≡ record { file = file; rule = rule; at = at; size = size; generation = generation; edits = edits; longest_period = longest_period; chart = chart; is_plain = is_plain; is_svg = is_svg }
is_viewing rows rule generation edits longest_period is_plain is_svg f a s h g e l p v = rw f (rw a (rw s (rw h (rw (sym g) (rw (sym e) (rw (sym l) (rw (sym p) (rw (sym v) refl))))))))

-- ---- a server

-- a text is read where there is one
pub is_there : (o : Option (Bor (List ℕ))) (text : Option Text) → option_map (λ s. s.now) o ≡ text → is_some o ≡ is_some text
is_there None text h = ap is_some h
is_there (Some s) text h = ap is_some h

-- words that lack nothing tell a rule or a file, and a port or a web port
pub record IsComplete (rows : List Row) : Type 0 where
  pub board : (is_told (codes "rule") rows || is_told (codes "keep") rows) ≡ true
  pub ports : (is_told (codes "port") rows || is_told (codes "web") rows) ≡ true

pub is_complete : (rows : List Row) → needs_some (server_needs rows) ≡ false → IsComplete rows
is_complete rows none =
    let parts = go (is_told (codes "rule") rows || is_told (codes "keep") rows) (is_told (codes "port") rows || is_told (codes "web") rows) (is_told (codes "url") rows && not (is_told (codes "web") rows)) none in
    record { board = parts.0; ports = parts.1 }
  where
    go : (a b c : Bool) → (not a || (not b || c)) ≡ false → (a ≡ true) × (b ≡ true)
    go true true c h = (refl, refl)
    go true false c h = absurd (true≢false h)
    go false b c h = absurd (true≢false h)

some_ruled : (given : Result GenerationsRule Misspelt) (rule : Option GenerationsRule) → some_rule given ≡ Ok rule → is_some rule ≡ true
some_ruled (Ok x) rule h = let same : Some x ≡ rule = cc in ap is_some (sym same)
some_ruled (Err wrong) rule h = cc

-- where no file is named, the words have a rule
pub is_ruled : (keep : Option (Bor (List ℕ))) (rows : List Row) (rule : Option GenerationsRule) → IsComplete rows
    → option_map (λ s. s.now) keep ≡ first_of (codes "keep") rows → rule_if_given (first_of (codes "rule") rows) ≡ Ok rule → keep ≡ None → IsSome rule
is_ruled keep rows rule complete same read none =
    go (first_of (codes "rule") rows) (is_some (first_of (codes "keep") rows)) (sym (is_there keep (first_of (codes "keep") rows) same) ∙ ap is_some none) complete.board read
  where
    go : (o : Option Text) (kept : Bool) → kept ≡ false → (is_some o || kept) ≡ true → rule_if_given o ≡ Ok rule → IsSome rule
    go None kept missing one h = absurd (true≢false (sym one ∙ missing))
    go (Some text) kept missing one h = some_ruled (rule_asked text) rule h

-- a number is read where there is a text
number_there : (id : Text) (rows : List Row) → is_some (number_of id rows) ≡ is_some (first_of id rows)
number_there id rows = go (find (λ r. bytes_eq r.id id) rows)
  where
    go_row : (how : Reading) (v : Option Text) → is_some (option_map (λ text. digits_value 10 (without_leading_plus text)) (option_map (read_as how) v)) ≡ is_some v
    go_row how None = refl
    go_row how (Some v) = refl

    go : (o : Option Row) → is_some (option_map (λ text. digits_value 10 (without_leading_plus text)) (option_and_then row_text o)) ≡ is_some (option_and_then (λ (r : Row). slice_get r.values 0) o)
    go None = refl
    go (Some r) = go_row r.reading (slice_get r.values 0)

-- what the getters read for a web port
pub is_web : (rows : List Row) (text : Text) (url : Option Text) (place : Option WebPlace) → Some text ≡ first_of (codes "web") rows → url ≡ first_of (codes "url") rows → place ≡ web_spelled text
    → web_or_misspelt url text place ≡ web_asked rows
is_web rows text url place t u p =
    ap (λ (o : Option Text). web_or_misspelt o text place) u ∙ (ap (web_or_misspelt (first_of (codes "url") rows) text) p ∙ ap (web_if_given (first_of (codes "url") rows)) t)

-- a web port that is read is there
some_web : (url : Option Text) (text : Text) (place : Option WebPlace) (web : Option WebTask) → web_or_misspelt url text place ≡ Ok (option_map web_told web) → IsSome web
some_web url text None web h = cc
some_web url text (Some place) None h = cc
some_web url text (Some place) (Some web) h = refl

-- where no port is named, the words have a web port
pub is_ported : (rows : List Row) (port : Option ℕ) (web : Option WebTask) → IsComplete rows → number_of (codes "port") rows ≡ port → web_asked rows ≡ Ok (option_map web_told web) → port ≡ None → IsSome web
is_ported rows port web complete same read none =
    go (first_of (codes "web") rows) (is_told (codes "port") rows) (sym (number_there (codes "port") rows) ∙ (ap is_some same ∙ ap is_some none)) complete.ports read
  where
    go : (o : Option Text) (ported : Bool) → ported ≡ false → (ported || is_some o) ≡ true → web_if_given (first_of (codes "url") rows) o ≡ Ok (option_map web_told web) → IsSome web
    go None true missing one h = absurd (true≢false missing)
    go None false missing one h = absurd (true≢false (sym one))
    go (Some text) ported missing one h = some_web (first_of (codes "url") rows) text (web_spelled text) web h

-- as many sessions as are asked for, with these words for a rule and a web port
pub server_is : (rows : List Row) (sessions : ℕ) (rule : Result (Option GenerationsRule) Misspelt) (web : Result (Option WebServed) Misspelt) → needs_some (server_needs rows) ≡ false
    → number_of (codes "sessions") rows ≡ Some sessions → rule_if_given (first_of (codes "rule") rows) ≡ rule → web_asked rows ≡ web → serve_asked rows ≡ Some (serve_task rows rule web sessions)
server_is rows sessions rule web complete s r w =
    let there : serve_asked rows ≡ server_asked rows = ap (λ (b : Bool). if b then None else server_asked rows) complete in
    let seated : server_asked rows ≡ Some (serve_task rows (rule_if_given (first_of (codes "rule") rows)) (web_asked rows) sessions) = ap (option_map (serve_task rows (rule_if_given (first_of (codes "rule") rows)) (web_asked rows))) s in
    let ruled : Some (serve_task rows (rule_if_given (first_of (codes "rule") rows)) (web_asked rows) sessions) ≡ Some (serve_task rows rule (web_asked rows) sessions) =
    ap (λ (given : Result (Option GenerationsRule) Misspelt). Some (serve_task rows given (web_asked rows) sessions)) r in
    there ∙ (seated ∙ (ruled ∙ ap (λ (given : Result (Option WebServed) Misspelt). Some (serve_task rows rule given sessions)) w))

-- what the getters read for a server
pub is_served : (rows : List Row) (rule : Option GenerationsRule) (web : Option WebServed) (port until_idle : Option ℕ) (sessions first : ℕ) (keep : Option Text) (until_close : Bool)
    → number_of (codes "port") rows ≡ port → first_asked rows ≡ first → keep ≡ first_of (codes "keep") rows → is_set (codes "until-close") rows ≡ until_close → number_of (codes "until-idle") rows ≡ until_idle
    → served rows sessions rule web ≡ record { rule = rule; port = port; sessions = sessions; first = first; keep = keep; until_close = until_close; web = web; until_idle = until_idle }
is_served rows rule web port until_idle sessions first keep until_close p f k u i = rw (sym p) (rw (sym f) (rw k (rw (sym u) (rw (sym i) refl))))
