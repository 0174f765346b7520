-- Where each use of an argument adds a row that is so, so are all rows of words that are no fault.
use Rattle.std.proofs.Common.{◌≡◌, ◌&&◌, ◌++◌, ℕ, zero, suc, Bool, true, false, refl, sym, List, [], ◌∷◌, Option, Some, None, is_some, fold, length, drop, true≢false, slice_get}
use Rattle.std.specs.Prelude.{if◌then◌else◌, find, encode_utf8}
use Rattle.std.specs.List.{list_all}
use Rattle.std.specs.Option.{option_map_or}
use Rattle.std.specs.Str.{bytes_eq, chars}
use Rattle.clap.specs.Lexer.{long_of, short_of}
use Rattle.clap.specs.Walk.{is_pending, nothing_held, positional_held, pushed, rows_after, takes_several, to_positional, walk, walk_from, with_default}
use Rattle.clap.specs.Walk.{Held, Outcome, Row, Rule, Step, Text, Waiting, Walk, done, waits, plain, refused, idle, option, positional, next, trailing, subcommand, value, after_flag, after_step, arg_by_id, arg_by_index, arg_by_long, arg_by_short, at_row, attached_value, bundle, bundle_met, bundle_step, flag_met, long_met, long_or_other, option_met, option_word, plain_word, reacted, settled, settled_rows, short_met, short_or_plain, subcommand_met, subcommand_or_other, takes_values, used, used_by_id, walked, walked_from, word_met}
use Rattle.clap.specs.Simple.{Shape}
use Rattle.clap.specs.Kinds.{Kinds, or_else}
use Rattle.clap.specs.Faults.{positional_fault, stray_fault}
use Rattle.clap.specs.Faults.{bundle_fault, bundle_step_fault, flag_word_fault, flags_fault, long_fault, option_fault, other_fault, react_fault, settle_fault, short_fault, step_fault, turn_fault, use_fault, walk_fault, word_fault}
use Rattle.clap.specs.declared.error.kind.ErrorKind.TheVariants as kind
use Rattle.genedit_words.proofs.Stops.{both_pass}

pub both_true : (a b : Bool) → (a && b) ≡ true → (a ≡ true) × (b ≡ true)
both_true true b h = (refl, h)
both_true false b h = absurd (true≢false (sym h))

and_true : (a b : Bool) → a ≡ true → b ≡ true → (a && b) ≡ true
and_true a b h k = rw (h, k) refl

module _ (ok : Row → Bool) where
  -- each row is so
  abbrev pub all_ok : List Row → Bool
  all_ok = list_all ok

  append_values : (xs ys : List Row) → all_ok xs ≡ true → all_ok ys ≡ true → all_ok (xs ++ ys) ≡ true
  append_values [] ys h k = k
  append_values (x ∷ xs) ys h k =
      let p = both_true (ok x) (all_ok xs) h in
      and_true (ok x) (all_ok (xs ++ ys)) p.0 (append_values xs ys p.1 k)

  pub changed_values : (id : Text) (change : Row → List Row) (missing rows : List Row) → ((r : Row) → ok r ≡ true → all_ok (change r) ≡ true)
      → all_ok missing ≡ true → all_ok rows ≡ true → all_ok (at_row id change missing rows) ≡ true
  changed_values id change missing [] changed absent h = absent
  changed_values id change missing (r ∷ rs) changed absent h =
      let p = both_true (ok r) (all_ok rs) h in
      go (bytes_eq r.id id) p.0 p.1 (changed_values id change missing rs changed absent p.1)
    where
      go : (b : Bool) → ok r ≡ true → all_ok rs ≡ true → all_ok (at_row id change missing rs) ≡ true
          → all_ok (if b then change r ++ rs else r ∷ at_row id change missing rs) ≡ true
      go true first rest more = append_values (change r) rs (changed r first) rest
      go false first rest more = and_true (ok r) (all_ok (at_row id change missing rs)) first more

  -- a use that is no fault leaves each row a value
  abbrev pub UsesWell : Bool → Rule → Type 0
  UsesWell again a = (values : List Text) (rows : List Row) → use_fault again a values rows ≡ [] → all_ok rows ≡ true
      → all_ok (used a values rows) ≡ true

  abbrev pub IsWellUsed : Bool → Option Rule → Type 0
  IsWellUsed again None = Unit {0}
  IsWellUsed again (Some a) = UsesWell again a

  -- a default that is given leaves each row so
  abbrev pub DefaultsWell : List Rule → Type 0
  DefaultsWell [] = Unit {0}
  DefaultsWell (a ∷ rest) = ((rows : List Row) → all_ok rows ≡ true → all_ok (with_default rows a) ≡ true) × DefaultsWell rest

  module _ (c : List Rule) (again : Bool) (well : (p : Rule → Bool) → IsWellUsed again (find p c)) where
    abbrev Holds : Held → Type 0
    Holds h = all_ok h.rows ≡ true

    used_well : (o : Option Rule) (values : List Text) (rows : List Row) → IsWellUsed again o → option_map_or (λ a. use_fault again a values rows) o [] ≡ []
        → all_ok rows ≡ true → all_ok (used_by_id o values rows) ≡ true
    used_well None values rows fits passes h = h
    used_well (Some a) values rows fits passes h = fits values rows passes h

    pub settled_well : (h : Held) → settle_fault c again h ≡ [] → Holds h → Holds (settled c h)
    settled_well h passes holds = go h.pending passes
      where
        go : (p : Option (Text × List Text)) → option_map_or (λ p. option_map_or (λ a. use_fault again a p.1 h.rows) (arg_by_id c p.0) []) p [] ≡ []
            → all_ok (settled_rows c p h.rows) ≡ true
        go None q = holds
        go (Some p) q = used_well (arg_by_id c p.0) p.1 h.rows (well (λ a. bytes_eq a.id p.0)) q holds

    reacted_well : (a : Rule) (values : List Text) (h : Held) → UsesWell again a → react_fault c again a values h ≡ [] → Holds h → Holds (reacted c a values h)
    reacted_well a values h fits passes holds =
        let p = both_pass (settle_fault c again h) (use_fault again a values (settled c h).rows) passes in
        fits values (settled c h).rows p.1 (settled_well h p.0 holds)

    option_well : (a : Rule) (v : Option Text) (h : Held) → UsesWell again a → option_fault c again a v h ≡ [] → Holds h → Holds (option_met c a v h).0
    option_well a None h fits passes holds = settled_well h passes holds
    option_well a (Some v) h fits passes holds = reacted_well a (v ∷ []) h fits passes holds

    flag_well : (a : Rule) (v : Option Text) (h : Held) → UsesWell again a → (if is_some v then kind.TooManyValues ∷ [] else react_fault c again a [] h) ≡ []
        → Holds h → Holds (flag_met c a v h).0
    flag_well a None h fits passes holds = reacted_well a [] h fits passes holds
    flag_well a (Some v) h fits passes holds = holds

    long_well : (o : Option Rule) (v : Option Text) (h : Held) → IsWellUsed again o → long_fault c again o v h ≡ [] → Holds h → Holds (long_met c o v h).0
    long_well None v h fits passes holds = holds
    long_well (Some a) v h fits passes holds = go (takes_values a) passes
      where
        go : (b : Bool) → (if b then option_fault c again a v h else (if is_some v then kind.TooManyValues ∷ [] else react_fault c again a [] h)) ≡ []
            → Holds (if b then option_met c a v h else flag_met c a v h).0
        go true p = option_well a v h fits p holds
        go false p = flag_well a v h fits p holds

    short_well : (o : Option Rule) (rest : Text) (h : Held) (onward : Held → Held × Outcome) (faults : Held → Kinds) → IsWellUsed again o
        → ((k : Held) → faults k ≡ [] → Holds k → Holds (onward k).0)
        → short_fault c again o rest h faults ≡ [] → Holds h → Holds (short_met c o rest h onward).0
    short_well None rest h onward faults fits more passes holds = holds
    short_well (Some a) rest h onward faults fits more passes holds = go (takes_values a) passes
      where
        go : (b : Bool) → (if b then option_fault c again a (attached_value rest) h else or_else (react_fault c again a [] h) (faults (reacted c a [] h))) ≡ []
            → Holds (if b then option_met c a (attached_value rest) h else onward (reacted c a [] h)).0
        go true p = option_well a (attached_value rest) h fits p holds
        go false p =
            let q = both_pass (react_fault c again a [] h) (faults (reacted c a [] h)) p in
            more (reacted c a [] h) q.1 (reacted_well a [] h fits q.0 holds)

    abbrev FlagsWell : ℕ → Type 0
    FlagsWell k = (flags : Text) (skip : ℕ) (so_far : Outcome) (h : Held) → flags_fault c again k flags skip h ≡ [] → Holds h
        → Holds (bundle_met c k flags skip so_far h).0

    flags_well : (k : ℕ) → FlagsWell k
    unfolding flags_fault bundle_met
    flags_well zero flags skip so_far h passes holds = holds
    flags_well (suc k) flags skip so_far h passes holds = go (flags_well k) (slice_get (chars flags) 0) skip passes
      where
        go : FlagsWell k → (o : Option ℕ) (skip : ℕ) → bundle_step_fault c again o flags skip h (flags_fault c again k) ≡ []
            → Holds (bundle_step c o flags skip so_far h (bundle_met c k)).0
        go more None skip p = holds
        go more (Some x) zero p =
            let rest = drop (length (encode_utf8 x)) flags in
            short_well (arg_by_short c x) rest h (bundle_met c k rest 0 done) (flags_fault c again k rest 0) (well _) (λ held q r. more rest 0 done held q r) p holds
        go more (Some x) (suc skip) p = more (drop (length (encode_utf8 x)) flags) skip so_far h p holds

    option_word_well : (o : Option Rule) (id word : Text) (h : Held) → Holds h → Holds (option_word o id word h).0
    option_word_well None id word h holds = holds
    option_word_well (Some a) id word h holds = holds

    plain_well : (waiting : Waiting) (word : Text) (h : Held) → Holds h → Holds (plain_word c waiting word h).0
    plain_well idle word h holds = holds
    plain_well (option id) word h holds = option_word_well (arg_by_id c id) id word h holds
    plain_well positional word h holds = holds

    after_well : (waiting : Waiting) (word : Text) (h : Held) (o : Outcome) → Holds h → Holds (after_flag c waiting word h o).0
    after_well waiting word h done holds = holds
    after_well waiting word h (waits id) holds = holds
    after_well waiting word h plain holds = plain_well waiting word h holds
    after_well waiting word h refused holds = plain_well waiting word h holds

    short_word_well : (waiting : Waiting) (word : Text) (o : Option Text) (h : Held) → option_map_or (λ flags. bundle_fault c again flags h) o [] ≡ [] → Holds h
        → Holds (short_or_plain c waiting word o h).0
    short_word_well waiting word None h passes holds = plain_well waiting word h holds
    short_word_well waiting word (Some flags) h passes holds =
        after_well waiting word (bundle c flags h).0 (bundle c flags h).1 (flags_well (length flags) flags h.skip plain (record h { skip = 0 }) passes holds)

    flag_word_well : (waiting : Waiting) (word : Text) (o : Option (Text × Option Text)) (h : Held) → flag_word_fault c again o word h ≡ [] → Holds h
        → Holds (long_or_other c waiting word o h).0
    flag_word_well waiting word None h passes holds = short_word_well waiting word (short_of word) h passes holds
    flag_word_well waiting word (Some p) h passes holds =
        let met = long_met c (arg_by_long c p.0) p.1 h in
        after_well waiting word met.0 met.1 (long_well (arg_by_long c p.0) p.1 h (well _) passes holds)

  no_names : (waiting : Waiting) (word : Text) → subcommand_met [] waiting word ≡ None
  no_names idle word = refl
  no_names (option id) word = refl
  no_names positional word = refl

  -- a command with no subcommands
  module _ (s : Shape) (well : (p : Rule → Bool) → IsWellUsed s.args_override_self (find p s.rules)) where
    abbrev AreOk : Held → Type 0
    AreOk h = all_ok h.rows ≡ true

    other_well : (waiting : Waiting) (position : ℕ) (word : Text) (h : Held) → other_fault s None word h ≡ [] → AreOk h
        → AreOk (subcommand_or_other s.rules None waiting position word h).0
    other_well waiting position word h passes holds = go (bytes_eq word (45 ∷ 45 ∷ [])) passes
      where
        go : (b : Bool) → (if b then [] else flag_word_fault s.rules s.args_override_self (long_of word) word h) ≡ []
            → AreOk (if b then (h, trailing position) else long_or_other s.rules waiting word (long_of word) h).0
        go true p = holds
        go false p = flag_word_well s.rules s.args_override_self well waiting word (long_of word) h p holds

    word_well : (is_trailing : Bool) (waiting : Waiting) (position : ℕ) (word : Text) (h : Held) → word_fault s [] is_trailing waiting word h ≡ [] → AreOk h
        → AreOk (word_met s.rules [] is_trailing waiting position word h).0
    word_well true waiting position word h passes holds = holds
    word_well false waiting position word h passes holds =
        rw (no_names waiting word) (other_well waiting position word h (rw (no_names waiting word) at passes) holds)

    positional_well : (a : Rule) (word : Text) (h : Held) → positional_fault s.rules s.args_override_self a h ≡ [] → AreOk h → AreOk (positional_held s.rules a word h)
    positional_well a word h passes holds = go (is_pending a h.pending && takes_several a) passes
      where
        go : (b : Bool) → (if b then [] else settle_fault s.rules s.args_override_self h) ≡ [] → AreOk (pushed a.id word (if b then h else settled s.rules h))
        go true p = holds
        go false p = settled_well s.rules s.args_override_self well h p holds

    step_well : (word : Text) (w : Walk) (h : Held) (step : Step) → step_fault s w.position h step ≡ [] → AreOk h → AreOk (after_step s.rules word w h step).held
    step_well word w h (next waiting) passes holds = holds
    step_well word w h (trailing position) passes holds = holds
    step_well word w h (subcommand name) passes holds = holds
    step_well word w h value passes holds = go (arg_by_index s.rules w.position) passes
      where
        go : (o : Option Rule) → option_map_or (λ a. positional_fault s.rules s.args_override_self a h) o (stray_fault s) ≡ [] → AreOk (to_positional s.rules o word w h).held
        go None p = holds
        go (Some a) p = positional_well a word h p holds

    turn_well : (w : Walk) (word : Text) → turn_fault s [] w word ≡ [] → AreOk w.held → AreOk (walked s.rules [] w word).held
    unfolding walked
    turn_well w word passes holds = go w.stopped passes
      where
        go : (o : Option (Text × List Text))
            → (if is_some o then [] else or_else (word_fault s [] w.is_trailing w.waiting word w.held)
            (step_fault s w.position (word_met s.rules [] w.is_trailing w.waiting w.position word w.held).0 (word_met s.rules [] w.is_trailing w.waiting w.position word w.held).1)) ≡ []
            → AreOk (walked_from s.rules [] o w word).held
        go (Some stop) p = holds
        go None p =
            let met = word_met s.rules [] w.is_trailing w.waiting w.position word w.held in
            let both = both_pass (word_fault s [] w.is_trailing w.waiting word w.held) (step_fault s w.position met.0 met.1) p in
            step_well word w met.0 met.1 both.1 (word_well w.is_trailing w.waiting w.position word w.held both.0 holds)

    walk_well : (w : Walk) (words : List Text) → walk_fault s [] w words ≡ [] → AreOk w.held → AreOk (fold (walked s.rules []) w words).held
    unfolding walk_fault
    walk_well w [] passes holds = holds
    walk_well w (word ∷ rest) passes holds =
        let p = both_pass (turn_fault s [] w word) (walk_fault s [] (walked s.rules [] w word) rest) passes in
        walk_well (walked s.rules [] w word) rest p.1 (turn_well w word p.0 holds)

    defaulted_well : (c : List Rule) (rows : List Row) → DefaultsWell c → all_ok rows ≡ true → all_ok (fold with_default rows c) ≡ true
    defaulted_well [] rows wells holds = holds
    defaulted_well (a ∷ rest) rows wells holds = defaulted_well rest (with_default rows a) wells.1 (wells.0 rows holds)

    -- the rows of words that are no fault
    pub rows_well : DefaultsWell s.rules → (words : List Text) → walk_fault s [] (walk_from nothing_held) words ≡ []
        → settle_fault s.rules s.args_override_self (walk s.rules [] nothing_held words).held ≡ [] → all_ok (rows_after s.rules [] words) ≡ true
    rows_well wells words passes settles =
        let end = (walk s.rules [] nothing_held words).held in
        let walked_rows = walk_well (walk_from nothing_held) words passes refl in
        defaulted_well s.rules (settled s.rules end).rows wells (settled_well s.rules s.args_override_self well end settles walked_rows)
