-- A keeper's turn, from its parts.
use Rattle.std.proofs.Common.{◌≡◌, ◌≢◌, ◌⊎◌, ℕ, zero, suc, ◌+◌, ◌<◌, ◌≤◌, List, [], ◌∷◌, ◌++◌, length, Result, Ok, Err, refl, sym, ap, subst, ◌∙◌, arith}
use Rattle.std.proofs.lemmas.List.{nil_from_length}
use Rattle.board.specs.declared.entry.Entry.{Entry}
use Rattle.relay_board.specs.Relaying.{Relaying}
use Rattle.relay_board.specs.Same.{Same}
use Rattle.relay_board.specs.Turns.{Readies}
use Rattle.relay_board.specs.declared.fault.TurnFault.{TurnFault}
use Rattle.relay_board.specs.declared.fault.TurnFault.TheVariants as turns
use Rattle.relay_board.specs.declared.relay.Readiness.{Readiness}
use Rattle.relay_board.specs.declared.relay.Readiness.TheVariants as tries
use Rattle.board_keeper.specs.Keeping.{Keeping}
use Rattle.board_keeper.specs.Steps.{AreSteps}
use Rattle.board_keeper.specs.Turns.{ComesTo, FailsBy, IsKeeperTurn}
use Rattle.board_keeper.specs.Working.{CommitsSome, Fills, GoReady, ShowsSome, turn_fault_of, turn_of}
use Rattle.board_keeper.specs.declared.fault.KeepFault.{KeepFault}
use Rattle.board_keeper.specs.declared.fault.KeepFault.TheVariants as faults
use Rattle.board_keeper.specs.declared.keeper.KeeperTurn.{KeeperTurn}
use Rattle.board_keeper.specs.declared.keeper.KeeperTurn.TheVariants as keeper

-- some steps behind others
pub steps_on : (n m : ℕ) (a b c : Keeping) → AreSteps m a b → AreSteps n b c → (steps : ℕ) × AreSteps steps a c
steps_on zero m a b c s t = (m, subst (AreSteps m a) (sym t) s)
steps_on (suc n) m a b c s t =
    let before = steps_on n m a b t.0 s t.1 in
    (suc before.0, (t.0, before.1, t.2, t.3))

-- ---- nothing is ready

pub tried_list : (a b : Relaying) (last : Readiness) → Readies a last b → b.list ≡ a.list
tried_list a b tries.Idle h = ap (λ (r : Relaying). r.list) h.0
tried_list a b tries.Full h = ap (λ (r : Relaying). r.list) h.0
tried_list a b tries.Ready h = h.1.list
tried_list a b (tries.Failed fault) h = h.1.list

tried_more : (a b : Relaying) (last : Readiness) → Readies a last b → a.ready ≤ b.ready
tried_more a b tries.Idle h = omega (arith, ap (λ (r : Relaying). r.ready) h.0)
tried_more a b tries.Full h = omega (arith, ap (λ (r : Relaying). r.ready) h.0)
tried_more a b tries.Ready h = omega (arith, h.2)
tried_more a b (tries.Failed fault) h = omega (arith, h.2)

went_list : (n : ℕ) (a b : Relaying) → GoReady n a b → b.list ≡ a.list
went_list zero a b went = ap (λ (r : Relaying). r.list) went
went_list (suc n) a b went = tried_list went.0 b tries.Ready went.3 ∙ went_list n a went.0 went.1

pub fills_list : (a b : Relaying) (last : Readiness) → Fills a last b → b.list ≡ a.list
fills_list a b last f = tried_list f.mid b last f.ends ∙ went_list f.entries a f.mid f.went

-- where none is ready in the end, none became so
none_went : (n : ℕ) (a b : Relaying) → b.ready ≡ 0 → GoReady n a b → b ≡ a
none_went zero a b none went = went
none_went (suc n) a b none went = absurd (omega (arith, none, went.3.2))

pub idle_comes : (a b : Keeping) (last : Readiness) → Fills a.relay last b.relay → b ≡ record a { relay = b.relay } → b.relay.ready ≡ 0 → ComesTo a (turn_of last) b
idle_comes a b last fills left none = comes last fills.ends (none_went fills.entries a.relay fills.mid (omega (arith, none, tried_more fills.mid b.relay last fills.ends)) fills.went)
  where
    failed : (fault : TurnFault) → Readies a.relay (tries.Failed fault) b.relay → (b.relay.list ≡ a.relay.list) × FailsBy (turn_fault_of fault) b
    failed turns.StoreFull h = (h.1.list, (h.3 refl, none))
    failed turns.Memory h = (h.1.list, tt)

    from : (last : Readiness) → Readies a.relay last b.relay → ComesTo a (turn_of last) b
    from tries.Idle h = ((h.0, h.1, nil_from_length a.relay.kept (h.2 ∙ sym (ap (λ (r : Relaying). r.ready) h.0) ∙ none)), left)
    from tries.Full h = absurd (omega (arith, h.1, none, ap (λ (r : Relaying). r.ready) h.0))
    from tries.Ready h = absurd (omega (arith, h.2, none))
    from (tries.Failed fault) h = failed fault h

    comes : (last : Readiness) → Readies fills.mid last b.relay → fills.mid ≡ a.relay → ComesTo a (turn_of last) b
    comes last h same = from last (subst (λ (r : Relaying). Readies r last b.relay) same h)

-- ---- a commit came to nothing

pub refused_turn : (a m b : Keeping) (fault : KeepFault) (steps : ℕ) → AreSteps steps a m → m.relay.list ≡ a.relay.list → CommitsSome m (Err fault) b → IsKeeperTurn a (keeper.Failed fault) b
refused_turn a m b faults.StoreFull steps taken list h = absurd h
refused_turn a m b faults.Memory steps taken list h =
    record { steps = steps; taken = subst (AreSteps steps a) (sym h) taken; comes = (ap (λ (k : Keeping). k.relay.list) h ∙ list, tt) }
refused_turn a m b faults.Write steps taken list h =
    let all = steps_on h.steps steps a m b taken h.taken in
    record { steps = all.0; taken = all.1; comes = (ap (λ (r : Relaying). r.list) h.same ∙ list, h.takes) }

-- ---- what was committed is shown

pub shows_none : (a b : Keeping) (count : ℕ) → count ≡ 0 → ShowsSome a count b → IsKeeperTurn a (keeper.Failed faults.Memory) b
shows_none a b count none h =
    let still : b ≡ a = subst (λ n. AreSteps n a b) none h.taken in
    record { steps = zero; taken = still; comes = (ap (λ (k : Keeping). k.relay.list) still, tt) }

pub shows_count : (a b : Keeping) (count : ℕ) → 0 < count → ShowsSome a count b → IsKeeperTurn a (keeper.Published count) b
shows_count a b count some h = record { steps = count; taken = h.taken; comes = (some, h.list) }

-- a turn that is not idle, with steps before it at which nothing was published
pub turn_behind : (a m b : Keeping) (result : KeeperTurn) (steps : ℕ) → AreSteps steps a m → m.relay.list ≡ a.relay.list → result ≢ keeper.Idle → IsKeeperTurn m result b → IsKeeperTurn a result b
turn_behind a m b result steps taken list busy turn =
    let all = steps_on turn.steps steps a m b taken turn.taken in
    record { steps = all.0; taken = all.1; comes = comes result busy turn.comes }
  where
    comes : (r : KeeperTurn) → r ≢ keeper.Idle → ComesTo m r b → ComesTo a r b
    comes keeper.Idle busy c = absurd (busy refl)
    comes (keeper.Published count) busy c = (c.0, c.1 ∙ ap (λ (l : List Entry). length l + count) list)
    comes (keeper.Failed why) busy c = (c.0 ∙ list, c.1)
