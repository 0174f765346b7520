-- What a command does that tells how many edits of others came, at once or once enough came.
use Rattle.std.specs.Prelude.{◌≡◌, ◌⊎◌, ℕ, zero, suc, ◌<◌, ◌≤◌, Result, Ok, Err}
use Rattle.client_session.specs.declared.fault.CommandFault.{CommandFault}
use Rattle.client_session.specs.declared.polling.News.{News}
use Rattle.client_session.specs.declared.polling.News.TheVariants as news
use Rattle.client_session.specs.Lines.{edits_line, late_line}
use Rattle.client_session.specs.Moment.{Moment, TellsCount, others}
use Rattle.client_session.specs.News.{BehindPoll, Brings, EndsPolling, Leaves}

-- ---- at once

-- behind edits how many came is told; behind a whole plane, or a refusal, nothing more
abbrev pub CountsBehind : News → Moment → Moment → Result (Unit {0}) CommandFault → Type 0
CountsBehind news.Edits m n result = TellsCount edits_line m n result
CountsBehind news.Whole m n result = Leaves tt m n result
CountsBehind news.Refused m n result = Leaves tt m n result

abbrev pub IsCount : Moment → Moment → Result (Unit {0}) CommandFault → Type 0
IsCount m n result = BehindPoll CountsBehind m n result

-- ---- once enough came

-- a poll brought edits, and fewer of others came than are awaited
pub record IsInVain (awaited : ℕ) (m n : Moment) : Type 0 where
  pub brought : Brings news.Edits m n
  pub few : others n.workspace < awaited

-- so many polls in vain
abbrev pub AreInVain : ℕ → ℕ → Moment → Moment → Type 0
AreInVain awaited zero m n = n ≡ m
AreInVain awaited (suc times) m n = (mid : Moment) × AreInVain awaited times m mid × IsInVain awaited mid n

-- the last poll brought edits, and enough came, which is told
pub record HasEnough (awaited : ℕ) (m n : Moment) (result : Result (Unit {0}) CommandFault) : Type 0 where
  pub mid : Moment
  pub brought : Brings news.Edits m mid
  pub enough : awaited ≤ others mid.workspace
  pub told : TellsCount edits_line mid n result

-- behind polls in vain the last one ends the wait: by enough edits, by a whole plane or a refusal, or the client ends at it
abbrev pub EndsWait : ℕ → Moment → Moment → Result (Unit {0}) CommandFault → Type 0
EndsWait awaited m n (Ok done) = HasEnough awaited m n (Ok done) ⊎ (Brings news.Whole m n ⊎ Brings news.Refused m n)
EndsWait awaited m n (Err fault) = HasEnough awaited m n (Err fault) ⊎ EndsPolling fault m n

-- so many polls were in vain; then the last one ended it, or the time was over, which is told
pub record IsWait (awaited : ℕ) (m n : Moment) (result : Result (Unit {0}) CommandFault) : Type 0 where
  pub times : ℕ
  pub mid : Moment
  pub vain : AreInVain awaited times m mid
  pub ends : EndsWait awaited mid n result ⊎ ((0 < times) × TellsCount late_line mid n result)
