-- Where words that are no fault stop: at a subcommand that is not `help`.
use Rattle.std.proofs.Common.{◌≡◌, ◌&&◌, ℕ, Bool, codes, true, false, not, refl, List, [], ◌∷◌, Option, Some, None, is_some, fold, true≢false}
use Rattle.std.specs.Prelude.{if◌then◌else◌}
use Rattle.std.specs.Str.{bytes_eq}
use Rattle.clap.specs.Lexer.{long_of, short_of}
use Rattle.clap.specs.Walk.{Held, Names, Outcome, Rule, Step, Text, Waiting, Walk, done, waits, plain, refused, idle, option, positional, next, trailing, subcommand, value, after_flag, after_step, arg_by_index, long_or_other, plain_word, short_or_plain, subcommand_met, subcommand_or_other, to_positional, walked, walked_from, word_met}
use Rattle.clap.specs.Simple.{Shape}
use Rattle.clap.specs.Kinds.{Kinds, or_else}
use Rattle.clap.specs.Faults.{other_fault, step_fault, turn_fault, walk_fault, word_fault}
use Rattle.clap.specs.declared.error.kind.ErrorKind.TheVariants as kind

-- where neither of two steps fails, each passes
pub both_pass : (a b : Kinds) → or_else a b ≡ [] → (a ≡ []) × (b ≡ [])
both_pass [] b h = (refl, h)
both_pass (k ∷ ks) b h = cc

-- the step enters the subcommand `help`
abbrev enters_help : Step → Bool
enters_help (subcommand name) = bytes_eq name (codes "help")
enters_help _ = false

-- the walk has stopped at the subcommand `help`
abbrev pub stops_at_help : Option (Text × List Text) → Bool
stops_at_help None = false
stops_at_help (Some stop) = bytes_eq stop.0 (codes "help")

plain_goes_on : (c : List Rule) (waiting : Waiting) (word : Text) (h : Held) → enters_help (plain_word c waiting word h).1 ≡ false
plain_goes_on c idle word h = refl
plain_goes_on c (option id) word h = refl
plain_goes_on c positional word h = refl

flag_goes_on : (c : List Rule) (waiting : Waiting) (word : Text) (h : Held) (o : Outcome) → enters_help (after_flag c waiting word h o).1 ≡ false
flag_goes_on c waiting word h done = refl
flag_goes_on c waiting word h (waits id) = refl
flag_goes_on c waiting word h plain = plain_goes_on c waiting word h
flag_goes_on c waiting word h refused = plain_goes_on c waiting word h

short_goes_on : (c : List Rule) (waiting : Waiting) (word : Text) (o : Option Text) (h : Held) → enters_help (short_or_plain c waiting word o h).1 ≡ false
short_goes_on c waiting word None h = plain_goes_on c waiting word h
short_goes_on c waiting word (Some flags) h = flag_goes_on c waiting word _ _

long_goes_on : (c : List Rule) (waiting : Waiting) (word : Text) (o : Option (Text × Option Text)) (h : Held) → enters_help (long_or_other c waiting word o h).1 ≡ false
long_goes_on c waiting word None h = short_goes_on c waiting word (short_of word) h
long_goes_on c waiting word (Some p) h = flag_goes_on c waiting word _ _

module _ (s : Shape) (has_help : s.disable_help_subcommand ≡ false) where
  other_passes : (met : Option Text) (waiting : Waiting) (position : ℕ) (word : Text) (h : Held) → other_fault s met word h ≡ []
      → enters_help (subcommand_or_other s.rules met waiting position word h).1 ≡ false
  other_passes None waiting position word h passes = go (bytes_eq word (45 ∷ 45 ∷ []))
    where
      go : (b : Bool) → enters_help (if b then (h, trailing position) else long_or_other s.rules waiting word (long_of word) h).1 ≡ false
      go true = refl
      go false = long_goes_on s.rules waiting word (long_of word) h
  other_passes (Some name) waiting position word h passes = go (bytes_eq name (codes "help")) (s.disable_help_subcommand) has_help passes
    where
      go : (b d : Bool) → d ≡ false → (if b && not d then kind.DisplayHelp ∷ kind.InvalidSubcommand ∷ [] else []) ≡ [] → b ≡ false
      go false d e p = refl
      go true true e p = absurd (true≢false e)
      go true false e p = cc

  word_passes : (names : Names) (is_trailing : Bool) (waiting : Waiting) (position : ℕ) (word : Text) (h : Held) → word_fault s names is_trailing waiting word h ≡ []
      → enters_help (word_met s.rules names is_trailing waiting position word h).1 ≡ false
  word_passes names true waiting position word h passes = refl
  word_passes names false waiting position word h passes = other_passes (subcommand_met names waiting word) waiting position word h passes

  step_passes : (word : Text) (w : Walk) (h : Held) (step : Step) → stops_at_help w.stopped ≡ false → enters_help step ≡ false
      → stops_at_help (after_step s.rules word w h step).stopped ≡ false
  step_passes word w h (next waiting) was not_help = was
  step_passes word w h (trailing position) was not_help = was
  step_passes word w h (subcommand name) was not_help = not_help
  step_passes word w h value was not_help = go (arg_by_index s.rules w.position)
    where
      go : (o : Option Rule) → stops_at_help (to_positional s.rules o word w h).stopped ≡ false
      go None = was
      go (Some a) = refl

  turn_passes : (names : Names) (w : Walk) (word : Text) → turn_fault s names w word ≡ [] → stops_at_help w.stopped ≡ false
      → stops_at_help (walked s.rules names w word).stopped ≡ false
  unfolding walked
  turn_passes names w word passes was = go w.stopped refl passes
    where
      go : (o : Option (Text × List Text)) → w.stopped ≡ o
          → (if is_some o then [] else or_else (word_fault s names w.is_trailing w.waiting word w.held)
          (step_fault s w.position (word_met s.rules names w.is_trailing w.waiting w.position word w.held).0 (word_met s.rules names w.is_trailing w.waiting w.position word w.held).1)) ≡ []
          → stops_at_help (walked_from s.rules names o w word).stopped ≡ false
      go (Some stop) is p = rw is at was
      go None is p =
          let met = word_met s.rules names w.is_trailing w.waiting w.position word w.held in
          let first = both_pass (word_fault s names w.is_trailing w.waiting word w.held) (step_fault s w.position met.0 met.1) p in
          step_passes word w met.0 met.1 was (word_passes names w.is_trailing w.waiting w.position word w.held first.0)

  -- a walk that is no fault does not stop at `help`
  pub walk_passes : (names : Names) (w : Walk) (words : List Text) → walk_fault s names w words ≡ [] → stops_at_help w.stopped ≡ false
      → stops_at_help (fold (walked s.rules names) w words).stopped ≡ false
  unfolding walk_fault
  walk_passes names w [] passes was = was
  walk_passes names w (word ∷ rest) passes was =
      let p = both_pass (turn_fault s names w word) (walk_fault s names (walked s.rules names w word) rest) passes in
      walk_passes names (walked s.rules names w word) rest p.1 (turn_passes names w word p.0 was)
