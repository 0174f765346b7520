-- What a run does to the source that it pulls a text from and to the sink that it pushes its output to.
use Rattle.std.specs.Prelude.{◌≡◌, ℕ, ◌≤◌, ◌⊎◌, List, length, Option, Result, Err, IfErr}
use Rattle.std.specs.Io.KnownBytes.{Consumes, IsAtEnd}
use Rattle.devices.specs.Count.{one_more, so_many_more}
use Rattle.devices.specs.Source.{KnownSource}
use Rattle.devices.specs.Sink.{KnownSink, IsPush}
use Rattle.genedit_io.specs.declared.fault.RunFault.{RunFault}
use Rattle.genedit_io.specs.declared.fault.RunFault.TheVariants.{Read, Turns, Write}
use Rattle.genedit_io.specs.RunFault.{IsWant}

-- ---- bytes and pulls

-- the bytes that were left are these, and none is left
pub record PullsAll (old new : Option (List ℕ)) (text : List ℕ) : Type 0 where
  pub bytes : Consumes old new text
  pub end : IsAtEnd new

-- so many bytes came, at least, and perhaps more are left
pub record PullsOn (least : ℕ) (old new : Option (List ℕ)) : Type 0 where
  pub text : List ℕ
  pub bytes : Consumes old new text
  pub many : least ≤ length text

-- the source was pulled so many times more, at least and at most
pub record IsPulled (least most : ℕ) (old new : ℕ) : Type 0 where
  pub at_least : so_many_more least old ≤ new
  pub at_most : new ≤ so_many_more most old

-- ---- sources

-- a source was pulled to its end, in at most so many pulls, and gave this text
pub record IsReadWhole (turns : ℕ) (text : List ℕ) (old new : KnownSource) : Type 0 where
  pub all : PullsAll old.left new.left text
  pub pulls : IsPulled 1 turns old.pulls new.pulls
  pub end : new.ends_met ≡ one_more old.ends_met
  pub works : new.failures ≡ old.failures

-- a source was pulled so often, at least and at most; no pull met its end, and then it had failed so often
pub record IsReadOn (least most failed : ℕ) (old new : KnownSource) : Type 0 where
  pub pulls : IsPulled least most old.pulls new.pulls
  pub no_end : new.ends_met ≡ old.ends_met
  pub failures : new.failures ≡ failed

-- a source was left before its end was met: it failed, or gave bytes as often as it may be pulled, or what it gave found
-- no room
pub data IsLeft (turns : ℕ) (fault : RunFault) (old new : KnownSource) : Type 0 where
  Failed : fault ≡ Read → IsReadOn 1 turns (one_more old.failures) old new → IsLeft turns fault old new
  Endless : fault ≡ Turns → IsReadOn turns turns old.failures old new → PullsOn turns old.left new.left → IsLeft turns fault old new
  Wanting : IsWant fault → IsReadOn 1 turns old.failures old new → IsLeft turns fault old new

-- ---- runs

-- A run of at most so many pulls. Either the whole of a text came, and what it prints went to the sink by one push, which
-- failed where the run ends with a failed write; or the whole of a text came that is refused, or that could not be
-- worked out; or the source was left. Nothing is pushed where the run ends otherwise.
pub data IsRun (Prints : List ℕ → List ℕ → Type 0) (Refuses : List ℕ → RunFault → Type 0) (turns : ℕ) {A : Type 0} (result : Result A RunFault)
    (source source' : KnownSource) {K : Type 0} (known : K → KnownSink) (sink sink' : K) : Type 0 where
  Pushed : (text out : List ℕ) → IsReadWhole turns text source source' → Prints text out → IsPush (known sink) (known sink') result out
      → IfErr result (λ fault. fault ≡ Write) → IsRun Prints Refuses turns result source source' known sink sink'
  Refused : (text : List ℕ) (fault : RunFault) → result ≡ Err fault → IsReadWhole turns text source source' → Refuses text fault ⊎ IsWant fault
      → sink' ≡ sink → IsRun Prints Refuses turns result source source' known sink sink'
  Left : (fault : RunFault) → result ≡ Err fault → IsLeft turns fault source source'
      → sink' ≡ sink → IsRun Prints Refuses turns result source source' known sink sink'
