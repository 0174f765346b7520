-- Waiting, poll by poll.
use Rattle.std.proofs.Common.{ℕ, ◌+◌, ◌<◌, ◌≤◌, Result, Ok, Err, refl, sym, subst, add-one, inl, inr}
use Rattle.client_session.specs.declared.fault.CommandFault.{CommandFault}
use Rattle.client_session.specs.declared.polling.News.TheVariants as news
use Rattle.client_session.specs.Lines.{edits_line, late_line}
use Rattle.client_session.specs.Moment.{Moment, TellsCount, others}
use Rattle.client_session.specs.News.{Brings, EndsPolling}
use Rattle.client_session.specs.Waiting.{AreInVain, EndsWait, HasEnough, IsWait}

pub vain_none : (awaited : ℕ) (m : Moment) → AreInVain awaited 0 m m
vain_none awaited m = refl

-- one poll in vain more
pub vain_on : (awaited times : ℕ) (m mid n : Moment) → AreInVain awaited times m mid → Brings news.Edits mid n → others n.workspace < awaited → AreInVain awaited (times + 1) m n
vain_on awaited times m mid n vain brought few = subst (λ k. AreInVain awaited k m n) (sym (add-one times)) (mid, vain, record { brought = brought; few = few })

enough_ends : (awaited : ℕ) (m n : Moment) (result : Result (Unit {0}) CommandFault) → HasEnough awaited m n result → EndsWait awaited m n result
enough_ends awaited m n (Ok done) has = inl has
enough_ends awaited m n (Err fault) has = inl has

pub wait_enough : (awaited times : ℕ) (m mid got n : Moment) (result : Result (Unit {0}) CommandFault) → AreInVain awaited times m mid → Brings news.Edits mid got → awaited ≤ others got.workspace
    → TellsCount edits_line got n result → IsWait awaited m n result
wait_enough awaited times m mid got n result vain brought enough told = record {
  times = times;
  mid = mid;
  vain = vain;
  ends = inl (enough_ends awaited mid n result (record { mid = got; brought = brought; enough = enough; told = told }));
}

pub wait_whole : (awaited times : ℕ) (m mid n : Moment) → AreInVain awaited times m mid → Brings news.Whole mid n → IsWait awaited m n (Ok tt)
wait_whole awaited times m mid n vain brought = record { times = times; mid = mid; vain = vain; ends = inl (inr (inl brought)) }

pub wait_refused : (awaited times : ℕ) (m mid n : Moment) → AreInVain awaited times m mid → Brings news.Refused mid n → IsWait awaited m n (Ok tt)
wait_refused awaited times m mid n vain brought = record { times = times; mid = mid; vain = vain; ends = inl (inr (inr brought)) }

pub wait_fails : (awaited times : ℕ) (m mid n : Moment) (fault : CommandFault) → AreInVain awaited times m mid → EndsPolling fault mid n → IsWait awaited m n (Err fault)
wait_fails awaited times m mid n fault vain ends = record { times = times; mid = mid; vain = vain; ends = inl (inr ends) }

pub wait_late : (awaited times : ℕ) (m mid n : Moment) (result : Result (Unit {0}) CommandFault) → AreInVain awaited times m mid → 0 < times → TellsCount late_line mid n result → IsWait awaited m n result
wait_late awaited times m mid n result vain some told = record { times = times; mid = mid; vain = vain; ends = inr (some, told) }
