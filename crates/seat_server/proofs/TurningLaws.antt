-- Turns and closes, one after another.
use Rattle.std.proofs.Common.{◌≡◌, ℕ, ◌+◌, ◌<◌, zero, suc, Bool, Some, None, true, false, ◌⊎◌, ap, sym, ◌∙◌, refl, subst, length, add-one, inl, inr, arith}
use Rattle.std.proofs.Math.Nat.{min-eq_left}
use Rattle.std.specs.Prelude.{min}
use mathlib.Core.List.{IsPrefix}
use Rattle.board.proofs.Fronts.{prefix_self, prefix_trans}
use Rattle.relay_board.proofs.Turning.{turns_prefix}
use Rattle.relay_board.specs.Relaying.{Relaying}
use Rattle.relay_board.specs.Same.{Same}
use Rattle.relay_board.specs.declared.fault.TurnFault.{TurnFault}
use Rattle.relay_board.specs.declared.relay.Turn.{Turn}
use Rattle.relay_board.specs.declared.relay.Turn.TheVariants.{Idle, Published, Failed}
use Rattle.relay_board.specs.Turns.{GoesWell, IsTurn}
use Rattle.seat_server.specs.Turning.{Closes, Fails, IsStep, IsTurned, Works}

-- amid the turns: behind some steps so many turns in a row failed
pub record IsAmid (most turns : ℕ) (a b : Relaying) : Type 0 where
  pub steps : ℕ
  pub mid : Relaying
  pub worked : Works most steps a mid
  pub few : turns < most
  pub failed : Fails turns mid b

-- it is of the same board, of which no seat was made
abbrev pub IsOfSame : Relaying → Relaying → Type 0
IsOfSame a b = (b.made ≡ a.made) × (b.origin ≡ a.origin)

pub of_same : (a b c : Relaying) → IsOfSame a b → Same b c → IsOfSame a c
of_same a b c so same = (same.made ∙ so.0, same.origin ∙ so.1)

abbrev pub StandsAmid : ℕ → ℕ → Relaying → Relaying → Type 0
StandsAmid most turns a b = IsOfSame a b × IsAmid most turns a b

pub nothing_done : (most : ℕ) (a : Relaying) → 0 < most → IsAmid most 0 a a
nothing_done most a some = record { steps = 0; mid = a; worked = refl; few = some; failed = refl }

-- one turn that did not fail
pub goes_on : (most turns : ℕ) (a b c : Relaying) (turn : Turn) → IsAmid most turns a b → GoesWell b turn c → IsAmid most 0 a c
goes_on most turns a b c turn amid well = record {
  steps = suc amid.steps;
  mid = c;
  worked = (amid.mid, amid.worked, record { turns = turns; few = amid.few; mid = b; failed = amid.failed; turn = turn; next = c; well = well; after = inl refl });
  few = omega (arith, amid.few);
  failed = refl;
}

-- an idle turn, and a close behind it
pub closes_on : (most turns : ℕ) (a b c d : Relaying) → IsAmid most turns a b → IsTurn b Idle c → Closes c d → IsAmid most 0 a d
closes_on most turns a b c d amid idle closes = record {
  steps = suc amid.steps;
  mid = d;
  worked = (amid.mid, amid.worked, record { turns = turns; few = amid.few; mid = b; failed = amid.failed; turn = Idle; next = c; well = idle; after = inr (refl, closes) });
  few = omega (arith, amid.few);
  failed = refl;
}

-- one more turn that failed, where one more may
pub fails_on : (most turns : ℕ) (a b c : Relaying) (fault : TurnFault) → IsAmid most turns a b → IsTurn b (Failed fault) c → turns + 1 < most → IsAmid most (turns + 1) a c
fails_on most turns a b c fault amid turn few = record {
  steps = amid.steps;
  mid = amid.mid;
  worked = amid.worked;
  few = few;
  failed = subst (λ k. Fails k amid.mid c) (sym (add-one turns)) (b, fault, amid.failed, turn);
}

-- a close leaves it so
pub closes_same : (a b : Relaying) → b ≡ record a { closed = true } → IsOfSame a b
closes_same a b closed = (ap (λ (r : Relaying). r.made) closed, ap (λ (r : Relaying). r.origin) closed)

pub same_closed : (a b c : Relaying) → IsOfSame a b → c ≡ record b { closed = true } → IsOfSame a c
same_closed a b c so closed = let shut = closes_same b c closed in (shut.0 ∙ so.0, shut.1 ∙ so.1)

-- a turn that failed keeps its entry, so none that follows is idle
none_failed : (turns : ℕ) (a b c : Relaying) → Fails turns a b → IsTurn b Idle c → turns ≡ 0
none_failed zero a b c same idle = refl
none_failed (suc turns) a b c (mid, fault, failed, last) idle = absurd (omega (arith, ap length (sym last.turned.3 ∙ idle.turned.2)))

-- an idle turn leaves the count as it is, which is none
pub idles_on : (most turns : ℕ) (a b c : Relaying) → IsAmid most turns a b → IsTurn b Idle c → IsAmid most turns a c
idles_on most turns a b c amid idle =
    subst (λ k. IsAmid most k a c) (sym (none_failed turns amid.mid b c amid.failed idle)) (goes_on most turns a b c Idle amid idle)

-- and so does a close behind it; where the relay was closed, a further close changes nothing
pub idles_closed : (most turns : ℕ) (a b c d : Relaying) → IsAmid most turns a b → IsTurn b Idle c → d ≡ record c { closed = true } → IsAmid most turns a d
idles_closed most turns a b c d amid idle closed = go c.closed refl
  where
    go : (was : Bool) → c.closed ≡ was → IsAmid most turns a d
    go false was_open =
        subst (λ k. IsAmid most k a d) (sym (none_failed turns amid.mid b c amid.failed idle)) (closes_on most turns a b c d amid idle (was_open, closed))
    go true shut =
        let same : record c { closed = true } ≡ c = ap (λ (x : Bool). record c { closed = x }) (sym shut) in
        subst (IsAmid most turns a) (sym (closed ∙ same)) (idles_on most turns a b c amid idle)

pub ends_idle : (most turns : ℕ) (a b c : Relaying) → IsAmid most turns a b → IsTurn b Idle c → IsTurned most a None c
ends_idle most turns a b c amid idle =
    let none = none_failed turns amid.mid b c amid.failed idle in
    let same : b ≡ amid.mid = subst (λ k. Fails k amid.mid b) none amid.failed in
    record { steps = amid.steps; mid = b; worked = subst (Works most amid.steps a) (sym same) amid.worked; ends = idle }

pub ends_failed : (most turns : ℕ) (a b c : Relaying) (fault : TurnFault) → IsAmid most turns a b → IsTurn b (Failed fault) c → suc turns ≡ most → IsTurned most a (Some fault) c
ends_failed most turns a b c fault amid turn all = record {
  steps = amid.steps;
  mid = amid.mid;
  worked = amid.worked;
  ends = record { earlier = turns; all = all; mid = b; failed = amid.failed; last = turn };
}

-- ---- what was published stays

fails_add : (turns : ℕ) (a b : Relaying) → Fails turns a b → IsPrefix a.list b.list
fails_add zero a b same = subst (λ (r : Relaying). IsPrefix a.list r.list) (sym same) (prefix_self a.list)
fails_add (suc turns) a b (mid, fault, failed, last) =
    prefix_trans a.list mid.list b.list (fails_add turns a mid failed) (turns_prefix mid (Failed fault) b last.turned)

well_adds : (a : Relaying) (turn : Turn) (b : Relaying) → GoesWell a turn b → IsPrefix a.list b.list
well_adds a Idle b well = turns_prefix a Idle b well.turned
well_adds a (Published stamp) b well = turns_prefix a (Published stamp) b well.turned
well_adds a (Failed fault) b well = absurd well

close_keeps : (turn : Turn) (a b : Relaying) → (b ≡ a) ⊎ ((turn ≡ Idle) × Closes a b) → a.list ≡ b.list
close_keeps turn a b (inl same) = ap (λ (r : Relaying). r.list) (sym same)
close_keeps turn a b (inr closed) = ap (λ (r : Relaying). r.list) (sym closed.1.1)

step_adds : (most : ℕ) (a b : Relaying) → IsStep most a b → IsPrefix a.list b.list
step_adds most a b step =
    subst (IsPrefix a.list) (close_keeps step.turn step.next b step.after)
    (prefix_trans a.list step.mid.list step.next.list (fails_add step.turns a step.mid step.failed) (well_adds step.mid step.turn step.next step.well))

works_add : (most steps : ℕ) (a b : Relaying) → Works most steps a b → IsPrefix a.list b.list
works_add most zero a b same = subst (λ (r : Relaying). IsPrefix a.list r.list) (sym same) (prefix_self a.list)
works_add most (suc steps) a b (mid, works, step) = prefix_trans a.list mid.list b.list (works_add most steps a mid works) (step_adds most mid b step)

-- turns up to an idle one only add to the list
pub turned_adds : (most : ℕ) (a b : Relaying) → IsTurned most a None b → IsPrefix a.list b.list
turned_adds most a b turned =
    prefix_trans a.list turned.mid.list b.list (works_add most turned.steps a turned.mid turned.worked) (turns_prefix turned.mid Idle b turned.ends.turned)

-- the count of the failures does not saturate
pub counted : (turns sum : ℕ) → turns < 1000 → sum ≡ min (turns + 1) 65535 → sum ≡ turns + 1
counted turns sum few is = is ∙ min-eq_left (omega (arith, few))
