-- What a crash leaves of a file at each moment of a commit.
use Rattle.std.specs.Prelude.{IfSome, OnOk, OnErr, false}
use Rattle.std.proofs.Common.{◌≡◌, ◌⊎◌, inl, inr, ℕ, zero, suc, List, [], ◌∷◌, ◌++◌, length, take, drop, Option, Some, None, Result, Ok, Err, refl, sym, ap, subst, ◌∙◌, append_assoc, arith}
use mathlib.Core.List.{IsPrefix}
use Rattle.std.proofs.lemmas.List.{append-nil, length-drop, nil_from_length, take_all}
use Rattle.kept_records.specs.Records.{AreBodies, AreRead, IsBody, records_text}
use Rattle.kept_records.specs.Laws.{IsLowered}
use Rattle.kept_records.proofs.Lowered.{same_bytes}
use Rattle.kept_records.proofs.LawProofs.{record_laws_hold, texts_append, both_bodies}
use Rattle.kept_devices.specs.Standing.{Both, Has, History, IsSettled, MayLeave, Standing, Throughout, added, cutting, in_doubt, moves_to, replacing, stands, synced}
use Rattle.kept_devices.specs.Standing.MayLeave.{Added, Cut, Replaced, Uncut}
use Rattle.kept_devices.specs.Keep.{HasSynced, Syncs}
use Rattle.kept_devices.specs.Reopen.{Replaces}
use Rattle.kept_log.specs.Kept.{IsAt, IsBehind, Leaves, LeavesEither}
use Rattle.kept_log.proofs.Along.{along, always_on, moved, moved_or_stayed, moved_twice, stayed, stays}

-- ---- bytes

pub nothing_lowered : (l : List ℕ) → IsLowered l [] → l ≡ []
nothing_lowered [] low = refl
nothing_lowered (x ∷ l) low = absurd low

pub none_taken : (n : ℕ) → take {A = ℕ} n [] ≡ []
none_taken zero = refl
none_taken (suc n) = refl

taken_lowered : (n : ℕ) (xs : List ℕ) → IsLowered (take n xs) xs
taken_lowered zero xs = tt
taken_lowered (suc n) [] = tt
taken_lowered (suc n) (x ∷ xs) = (omega arith, taken_lowered n xs)

lowered_more : (xs ys zs : List ℕ) → IsLowered xs ys → IsLowered ys zs → IsLowered xs zs
lowered_more [] ys zs a b = tt
lowered_more (x ∷ xs) [] zs a b = absurd a
lowered_more (x ∷ xs) (y ∷ ys) [] a b = absurd b
lowered_more (x ∷ xs) (y ∷ ys) (z ∷ zs) a b = (omega (arith, a.0, b.0), lowered_more xs ys zs a.1 b.1)

-- nothing is no greater than anything
lowered_nothing : (xs ys : List ℕ) → xs ≡ [] → IsLowered xs ys
lowered_nothing xs ys none = subst (λ (l : List ℕ). IsLowered l ys) (sym none) tt

pub none_dropped : (xs : List ℕ) → drop (length xs) xs ≡ []
none_dropped xs = nil_from_length (drop (length xs) xs) (omega (arith, length-drop (length xs) xs))

longer : (got list more : List (List ℕ)) → IsPrefix got list → IsPrefix got (list ++ more)
longer got list more p = (p.0 ++ more, sym (append_assoc got p.0 more) ∙ ap (λ (l : List (List ℕ)). l ++ more) p.1)

-- ---- what a crash leaves

-- the records of a list are on the disk, and behind them stand some bytes of those of others, or less, or were cut off
pub record IsNear (list more : List (List ℕ)) (s : Standing) : Type 0 where
  pub durable : s.durable ≡ records_text list
  pub pending : IsLowered s.pending (records_text more)
  pub cut_durable : s.cut_durable ≡ []
  pub cut_pending : IsLowered s.cut_pending (records_text more)
  pub others : s.others ≡ []
  pub are : AreBodies list
  pub also : AreBodies more

-- bytes and something behind them that is less than the records of others
pub record EndsLow (bytes : List ℕ) (more : List (List ℕ)) (left : List ℕ) : Type 0 where
  pub end : List ℕ
  pub low : IsLowered end (records_text more)
  pub spelt : left ≡ bytes ++ end

near_ends : (list more : List (List ℕ)) (s : Standing) (left : List ℕ) → IsNear list more s → MayLeave s left → EndsLow s.durable more left
near_ends list more s left near (Added end low e) = record { end = end; low = lowered_more end s.pending (records_text more) low near.pending; spelt = e }
near_ends list more s left near (Cut n e) =
    let none : take n s.cut_durable ≡ [] = ap (λ (l : List ℕ). take n l) near.cut_durable ∙ none_taken n in
    record { end = take n s.cut_durable; low = lowered_nothing (take n s.cut_durable) (records_text more) none; spelt = e }
near_ends list more s left near (Uncut end low e) =
    record { end = end; low = lowered_more end s.cut_pending (records_text more) low near.cut_pending; spelt = e ∙ ap (λ (l : List ℕ). s.durable ++ (l ++ end)) near.cut_durable }
near_ends list more s left near (Replaced has) = absurd (subst (λ (l : List (List ℕ)). Has l left) near.others has)

pub leaves_near : (list more : List (List ℕ)) (s : Standing) → IsNear list more s → Leaves list (list ++ more) s
leaves_near list more s near left may got rest read =
    let ends = near_ends list more s left near may in
    record_laws_hold.lowered list more ends.end got rest near.are near.also ends.low
    (subst (λ (l : List ℕ). AreRead l got rest) (ends.spelt ∙ ap (λ (l : List ℕ). l ++ ends.end) near.durable) read)

behind_near : (list more : List (List ℕ)) (s : Standing) → IsBehind list more s → IsNear list more s
behind_near list more s b = record {
  durable = b.durable;
  pending = b.pending;
  cut_durable = b.settled.cut_durable;
  cut_pending = lowered_nothing s.cut_pending (records_text more) b.settled.cut_pending;
  others = b.settled.others;
  are = b.are;
  also = b.also;
}

pub leaves_behind : (list more : List (List ℕ)) (s : Standing) → IsBehind list more s → Leaves list (list ++ more) s
leaves_behind list more s b = leaves_near list more s (behind_near list more s b)

pub at_behind : (list more : List (List ℕ)) (s : Standing) → IsAt list s → AreBodies more → IsBehind list more s
at_behind list more s at also = record { durable = at.durable; pending = lowered_nothing s.pending (records_text more) at.pending; settled = at.settled; are = at.are; also = also }

-- before a commit, or where it came to nothing
pub leaves_at : (list : List (List ℕ)) (s : Standing) → IsAt list s → Leaves list list s
leaves_at list s at left may got rest read =
    let p = leaves_behind list [] s (at_behind list [] s at tt) left may got rest read in
    (p.0, subst (λ (l : List (List ℕ)). IsPrefix got l) (append-nil list) p.1)

pub leaves_old : (list more : List (List ℕ)) (s : Standing) → IsAt list s → Leaves list (list ++ more) s
leaves_old list more s at left may got rest read =
    let p = leaves_at list s at left may got rest read in
    (p.0, longer got list more p.1)

-- behind it
pub leaves_new : (list more : List (List ℕ)) (s : Standing) → IsAt (list ++ more) s → Leaves list (list ++ more) s
leaves_new list more s at left may got rest read =
    let p = leaves_at (list ++ more) s at left may got rest read in
    ((more ++ p.0.0, sym (append_assoc list more p.0.0) ∙ p.0.1), p.1)

-- ---- pushes

-- all of the text was added, and not synced
pub record IsMidway (list more : List (List ℕ)) (s : Standing) : Type 0 where
  pub durable : s.durable ≡ records_text list
  pub pending : s.pending ≡ records_text more
  pub settled : IsSettled s
  pub sound : s.is_doubtful ≡ false
  pub are : AreBodies list
  pub also : AreBodies more

midway_behind : (list more : List (List ℕ)) (s : Standing) → IsMidway list more s → IsBehind list more s
midway_behind list more s m = record {
  durable = m.durable;
  pending = subst (λ (l : List ℕ). IsLowered l (records_text more)) (sym m.pending) (same_bytes (records_text more));
  settled = m.settled;
  are = m.are;
  also = m.also;
}

added_midway : (list more : List (List ℕ)) (text : List ℕ) (s : Standing) → IsAt list s → AreBodies more → text ≡ records_text more → IsMidway list more (added text s)
added_midway list more text s at also e = record {
  durable = at.durable;
  pending = ap (λ (l : List ℕ). l ++ text) at.pending ∙ e;
  settled = record { cut_durable = at.settled.cut_durable; cut_pending = at.settled.cut_pending; others = at.settled.others };
  sound = at.sound;
  are = at.are;
  also = also;
}

added_behind : (list more : List (List ℕ)) (text : List ℕ) (n : ℕ) (s : Standing) → IsAt list s → AreBodies more → text ≡ records_text more → IsBehind list more (added (take n text) s)
added_behind list more text n s at also e = record {
  durable = at.durable;
  pending = subst (λ (l : List ℕ). IsLowered l (records_text more)) (sym (ap (λ (l : List ℕ). l ++ take n text) at.pending ∙ ap (λ (l : List ℕ). take n l) e)) (taken_lowered n (records_text more));
  settled = record { cut_durable = at.settled.cut_durable; cut_pending = at.settled.cut_pending; others = at.settled.others };
  are = at.are;
  also = also;
}

-- what a step of a commit comes to: at each moment of it a crash is bound, and then the file stands so
pub record Steps (list more : List (List ℕ)) (Q : Standing → Type 0) (h k : History) : Type 0 where
  pub crash : Throughout (Leaves list (list ++ more)) h k
  pub now : Q k.now

pub pushed : (list more : List (List ℕ)) (text : List ℕ) (h k : History) → AreBodies more → text ≡ records_text more → IsAt list h.now → k ≡ moves_to h (added text h.now)
    → Steps list more (IsMidway list more) h k
pushed list more text h k also e at step =
    let mid = added_midway list more text h.now at also e in
    record {
      crash = moved (Leaves list (list ++ more)) h k (added text h.now) (leaves_old list more h.now at) (leaves_behind list more (added text h.now) (midway_behind list more (added text h.now) mid)) step;
      now = subst (λ (l : History). IsMidway list more l.now) (sym step) mid;
    }

pub half_pushed : (list more : List (List ℕ)) (text : List ℕ) (h k : History) → AreBodies more → text ≡ records_text more → IsAt list h.now
    → (k ≡ h) ⊎ ((n : ℕ) × (k ≡ moves_to h (added (take n text) h.now))) → Steps list more (IsBehind list more) h k
half_pushed list more text h k also e at (inl same) = record {
  crash = stayed (Leaves list (list ++ more)) h k (leaves_old list more h.now at) same;
  now = subst (λ (l : History). IsBehind list more l.now) (sym same) (at_behind list more h.now at also);
}
half_pushed list more text h k also e at (inr step) =
    let there = added_behind list more text step.0 h.now at also e in
    record {
      crash = moved (Leaves list (list ++ more)) h k (added (take step.0 text) h.now) (leaves_old list more h.now at) (leaves_behind list more (added (take step.0 text) h.now) there) step.1;
      now = subst (λ (l : History). IsBehind list more l.now) (sym step.1) there;
    }

-- ---- syncs

now_at : (list more : List (List ℕ)) (s : Standing) → IsMidway list more s → IsAt (list ++ more) (synced s)
now_at list more s m = record {
  durable = ap (λ (l : List ℕ). l ++ s.pending) m.durable ∙ ap (λ (l : List ℕ). records_text list ++ l) m.pending ∙ sym (texts_append list more);
  pending = refl;
  settled = record { cut_durable = refl; cut_pending = refl; others = refl };
  sound = refl;
  are = both_bodies list more m.are m.also;
}

pub then_synced : (list more : List (List ℕ)) (h k : History) → IsMidway list more h.now → HasSynced h k → Steps list more (IsAt (list ++ more)) h k
then_synced list more h k mid step =
    let at = now_at list more h.now mid in
    let e = step.sound mid.sound in
    record {
      crash = moved (Leaves list (list ++ more)) h k (synced h.now) (leaves_behind list more h.now (midway_behind list more h.now mid)) (leaves_new list more (synced h.now) at) e;
      now = subst (λ (l : History). IsAt (list ++ more) l.now) (sym e) at;
    }

doubt_behind : (list more : List (List ℕ)) (s : Standing) → IsBehind list more s → IsBehind list more (in_doubt s)
doubt_behind list more s b = record {
  durable = b.durable;
  pending = b.pending;
  settled = record { cut_durable = b.settled.cut_durable; cut_pending = b.settled.cut_pending; others = b.settled.others };
  are = b.are;
  also = b.also;
}

pub not_synced : (list more : List (List ℕ)) (h k : History) → IsMidway list more h.now → (k ≡ h) ⊎ (k ≡ moves_to h (in_doubt h.now)) → Steps list more (IsBehind list more) h k
not_synced list more h k mid (inl same) =
    let b = midway_behind list more h.now mid in
    record {
      crash = stayed (Leaves list (list ++ more)) h k (leaves_behind list more h.now b) same;
      now = subst (λ (l : History). IsBehind list more l.now) (sym same) b;
    }
not_synced list more h k mid (inr step) =
    let b = midway_behind list more h.now mid in
    let d = doubt_behind list more h.now b in
    record {
      crash = moved (Leaves list (list ++ more)) h k (in_doubt h.now) (leaves_behind list more h.now b) (leaves_behind list more (in_doubt h.now) d) step;
      now = subst (λ (l : History). IsBehind list more l.now) (sym step) d;
    }

-- ---- cuts

cutting_near : (list more : List (List ℕ)) (s : Standing) → IsBehind list more s → IsNear list more (cutting (length s.durable) s)
cutting_near list more s b = record {
  durable = take_all (length s.durable) s.durable (omega arith) ∙ b.durable;
  pending = tt;
  cut_durable = none_dropped s.durable;
  cut_pending = b.pending;
  others = refl;
  are = b.are;
  also = b.also;
}

cut_at : (list more : List (List ℕ)) (s : Standing) → IsBehind list more s → IsAt list (stands (take (length s.durable) s.durable))
cut_at list more s b = record {
  durable = take_all (length s.durable) s.durable (omega arith) ∙ b.durable;
  pending = refl;
  settled = record { cut_durable = refl; cut_pending = refl; others = refl };
  sound = refl;
  are = b.are;
}

pub cut_back_ok : (list more : List (List ℕ)) (h k : History) → IsBehind list more h.now
    → k ≡ moves_to (moves_to h (cutting (length h.now.durable) h.now)) (stands (take (length h.now.durable) h.now.durable)) → Steps list more (IsAt list) h k
cut_back_ok list more h k b step =
    let at = cut_at list more h.now b in
    record {
      crash = moved_twice (Leaves list (list ++ more)) h k (cutting (length h.now.durable) h.now) (stands (take (length h.now.durable) h.now.durable))
          (leaves_behind list more h.now b) (leaves_near list more (cutting (length h.now.durable) h.now) (cutting_near list more h.now b))
          (leaves_old list more (stands (take (length h.now.durable) h.now.durable)) at) step;
      now = subst (λ (l : History). IsAt list l.now) (sym step) at;
    }

pub cut_back_err : (list more : List (List ℕ)) (h k : History) → IsBehind list more h.now → (k ≡ h) ⊎ (k ≡ moves_to h (cutting (length h.now.durable) h.now)) → Throughout (Leaves list (list ++ more)) h k
cut_back_err list more h k b step =
    moved_or_stayed (Leaves list (list ++ more)) h k (cutting (length h.now.durable) h.now) (leaves_behind list more h.now b) (leaves_near list more (cutting (length h.now.durable) h.now) (cutting_near list more h.now b)) step

-- ---- where the history is known

pub record IsWritten {A E : Type 0} (r : Result A E) (list more : List (List ℕ)) (o q : Option History) : Type 0 where
  pub crash : Both o q (Throughout (Leaves list (list ++ more)))
  pub kept : OnOk r (IfSome q (λ h. IsAt (list ++ more) h.now))
  pub behind : OnErr r (IfSome q (λ h. IsBehind list more h.now))

crash_of : (list more : List (List ℕ)) (Q : Standing → Type 0) (o p : Option History) → Both o p (Steps list more Q) → Both o p (Throughout (Leaves list (list ++ more)))
crash_of list more Q (Some h) (Some k) s = s.crash
crash_of list more Q (Some h) None s = s
crash_of list more Q None (Some k) s = s
crash_of list more Q None None s = tt

now_of : (list more : List (List ℕ)) (Q : Standing → Type 0) (o p : Option History) → Both o p (Steps list more Q) → IfSome p (λ h. Q h.now)
now_of list more Q (Some h) (Some k) s = s.now
now_of list more Q (Some h) None s = tt
now_of list more Q None (Some k) s = absurd s
now_of list more Q None None s = tt

pub push_ok : (list more : List (List ℕ)) (text : List ℕ) (o p : Option History) → AreBodies more → text ≡ records_text more → IfSome o (λ h. IsAt list h.now)
    → Both o p (λ h k. IsSettled h.now → k ≡ moves_to h (added text h.now)) → Both o p (Steps list more (IsMidway list more))
push_ok list more text o p also e at step =
    along (λ h. IsAt list h.now) (λ h k. IsSettled h.now → k ≡ moves_to h (added text h.now)) (Steps list more (IsMidway list more)) o p
    (λ h k a s. pushed list more text h k also e a (s a.settled)) at step

push_failed : (list more : List (List ℕ)) (text : List ℕ) (o p : Option History) → AreBodies more → text ≡ records_text more → IfSome o (λ h. IsAt list h.now)
    → Both o p (λ h k. IsSettled h.now → (k ≡ h) ⊎ ((n : ℕ) × (k ≡ moves_to h (added (take n text) h.now)))) → Both o p (Steps list more (IsBehind list more))
push_failed list more text o p also e at step =
    along (λ h. IsAt list h.now) (λ h k. IsSettled h.now → (k ≡ h) ⊎ ((n : ℕ) × (k ≡ moves_to h (added (take n text) h.now)))) (Steps list more (IsBehind list more)) o p
    (λ h k a s. half_pushed list more text h k also e a (s a.settled)) at step

pub push_err : (list more : List (List ℕ)) (text : List ℕ) (o p : Option History) → AreBodies more → text ≡ records_text more → IfSome o (λ h. IsAt list h.now)
    → Both o p (λ h k. IsSettled h.now → (k ≡ h) ⊎ ((n : ℕ) × (k ≡ moves_to h (added (take n text) h.now))))
    → Both o p (Throughout (Leaves list (list ++ more))) × IfSome p (λ h. IsBehind list more h.now)
push_err list more text o p also e at step =
    let s = push_failed list more text o p also e at step in
    (crash_of list more (IsBehind list more) o p s, now_of list more (IsBehind list more) o p s)

pub sync_by : {A E : Type 0} (r : Result A E) (list more : List (List ℕ)) (o p q : Option History) → Both o p (Steps list more (IsMidway list more)) → Both p q (Syncs r) → IsWritten r list more o q
sync_by (Ok done) list more o p q mid step =
    let second : Both p q (Steps list more (IsAt (list ++ more))) =
    along (λ h. IsMidway list more h.now) HasSynced (Steps list more (IsAt (list ++ more))) p q (λ h k m s. then_synced list more h k m s) (now_of list more (IsMidway list more) o p mid) step in
    record {
      crash = always_on (Leaves list (list ++ more)) o p q (crash_of list more (IsMidway list more) o p mid) (crash_of list more (IsAt (list ++ more)) p q second);
      kept = now_of list more (IsAt (list ++ more)) p q second;
      behind = tt;
    }
sync_by (Err failed) list more o p q mid step =
    let second : Both p q (Steps list more (IsBehind list more)) =
    along (λ h. IsMidway list more h.now) (λ h k. (k ≡ h) ⊎ (k ≡ moves_to h (in_doubt h.now))) (Steps list more (IsBehind list more)) p q (λ h k m s. not_synced list more h k m s) (now_of list more (IsMidway list more) o p mid) step in
    record {
      crash = always_on (Leaves list (list ++ more)) o p q (crash_of list more (IsMidway list more) o p mid) (crash_of list more (IsBehind list more) p q second);
      kept = tt;
      behind = now_of list more (IsBehind list more) p q second;
    }

pub record IsCutBackTo (list more : List (List ℕ)) (o p : Option History) : Type 0 where
  pub crash : Both o p (Throughout (Leaves list (list ++ more)))
  pub kept : IfSome p (λ h. IsAt list h.now)

-- what was added is cut off again
pub cut_back_done : (list more : List (List ℕ)) (o p : Option History) → IfSome o (λ h. IsBehind list more h.now)
    → Both o p (λ h k. IsSettled h.now → k ≡ moves_to (moves_to h (cutting (length h.now.durable) h.now)) (stands (take (length h.now.durable) h.now.durable))) → IsCutBackTo list more o p
cut_back_done list more o p b step =
    let s : Both o p (Steps list more (IsAt list)) =
    along (λ h. IsBehind list more h.now) (λ h k. IsSettled h.now → k ≡ moves_to (moves_to h (cutting (length h.now.durable) h.now)) (stands (take (length h.now.durable) h.now.durable))) (Steps list more (IsAt list)) o p
    (λ h k a f. cut_back_ok list more h k a (f a.settled)) b step in
    record { crash = crash_of list more (IsAt list) o p s; kept = now_of list more (IsAt list) o p s }

pub cut_back_failed : (list more : List (List ℕ)) (o p : Option History) → IfSome o (λ h. IsBehind list more h.now)
    → Both o p (λ h k. IsSettled h.now → (k ≡ h) ⊎ (k ≡ moves_to h (cutting (length h.now.durable) h.now))) → Both o p (Throughout (Leaves list (list ++ more)))
cut_back_failed list more o p b step = along (λ h. IsBehind list more h.now) (λ h k. IsSettled h.now → (k ≡ h) ⊎ (k ≡ moves_to h (cutting (length h.now.durable) h.now))) (Throughout (Leaves list (list ++ more))) o p
    (λ h k a f. cut_back_err list more h k a (f a.settled)) b step

-- a commit of which the write failed
pub cut_behind : (list more : List (List ℕ)) (o p q : Option History) → Both o p (Throughout (Leaves list (list ++ more))) → Both p q (Throughout (Leaves list (list ++ more)))
    → Both o q (Throughout (Leaves list (list ++ more)))
cut_behind list more o p q first second = always_on (Leaves list (list ++ more)) o p q first second

-- nothing was done
pub untouched : (list more : List (List ℕ)) (o : Option History) → IfSome o (λ h. IsAt list h.now) → Both o o (Throughout (Leaves list (list ++ more)))
untouched list more (Some h) at = stays (Leaves list (list ++ more)) h (leaves_old list more h.now at)
untouched list more None at = tt

-- ---- the first body

pub has_last : (texts : List (List ℕ)) (text left : List ℕ) → Has (texts ++ text ∷ []) left → Has texts left ⊎ (left ≡ text)
has_last [] text left (inl e) = inr e
has_last [] text left (inr none) = absurd none
has_last (x ∷ texts) text left (inl e) = inl (inl e)
has_last (x ∷ texts) text left (inr has) = pushed_in (has_last texts text left has)
  where
    pushed_in : Has texts left ⊎ (left ≡ text) → Has (x ∷ texts) left ⊎ (left ≡ text)
    pushed_in (inl has) = inl (inr has)
    pushed_in (inr e) = inr e

-- what a crash leaves while a file is replaced
pub replacing_leaves : (text : List ℕ) (s : Standing) (left : List ℕ) → MayLeave (replacing text s) left → MayLeave s left ⊎ (left ≡ text)
replacing_leaves text s left (Added end low e) = inl (Added end low e)
replacing_leaves text s left (Cut n e) = inl (Cut n e)
replacing_leaves text s left (Uncut end low e) = inl (Uncut end low e)
replacing_leaves text s left (Replaced has) = either (has_last s.others text left has)
  where
    either : Has s.others left ⊎ (left ≡ text) → MayLeave s left ⊎ (left ≡ text)
    either (inl has) = inl (Replaced has)
    either (inr e) = inr e

pub stands_leaves : (bytes left : List ℕ) → MayLeave (stands bytes) left → left ≡ bytes
stands_leaves bytes left (Added end low e) = e ∙ ap (λ (l : List ℕ). bytes ++ l) (nothing_lowered end low) ∙ append-nil bytes
stands_leaves bytes left (Cut n e) = e ∙ ap (λ (l : List ℕ). bytes ++ l) (none_taken n) ∙ append-nil bytes
stands_leaves bytes left (Uncut end low e) = e ∙ ap (λ (l : List ℕ). bytes ++ l) (nothing_lowered end low) ∙ append-nil bytes
stands_leaves bytes left (Replaced has) = absurd has

empty_leaves : (s : Standing) (left : List ℕ) → IsAt [] s → MayLeave s left → left ≡ []
empty_leaves s left at may =
    let ends = near_ends [] [] s left (behind_near [] [] s (at_behind [] [] s at tt)) may in
    ends.spelt ∙ ap (λ (l : List ℕ). l ++ ends.end) at.durable ∙ nothing_lowered ends.end ends.low

began : (text : List ℕ) (h k : History) → IsAt [] h.now → k ≡ moves_to (moves_to h (replacing text h.now)) (stands text) → Throughout (LeavesEither [] text) h k
began text h k at step = moved_twice (LeavesEither [] text) h k (replacing text h.now) (stands text)
    (λ left may. inl (empty_leaves h.now left at may))
    (λ left may. first left (replacing_leaves text h.now left may))
    (λ left may. inr (stands_leaves text left may))
    step
  where
    first : (left : List ℕ) → MayLeave h.now left ⊎ (left ≡ text) → (left ≡ []) ⊎ (left ≡ text)
    first left (inl may) = inl (empty_leaves h.now left at may)
    first left (inr e) = inr e

not_begun : (text : List ℕ) (h k : History) → IsAt [] h.now → (k ≡ h) ⊎ (k ≡ moves_to h (replacing text h.now)) → Throughout (LeavesEither [] text) h k
not_begun text h k at step = moved_or_stayed (LeavesEither [] text) h k (replacing text h.now)
    (λ left may. inl (empty_leaves h.now left at may))
    (λ left may. first left (replacing_leaves text h.now left may))
    step
  where
    first : (left : List ℕ) → MayLeave h.now left ⊎ (left ≡ text) → (left ≡ []) ⊎ (left ≡ text)
    first left (inl may) = inl (empty_leaves h.now left at may)
    first left (inr e) = inr e

pub not_touched : (text : List ℕ) (o : Option History) → IfSome o (λ h. IsAt [] h.now) → Both o o (Throughout (LeavesEither [] text))
not_touched text (Some h) at = stays (LeavesEither [] text) h (λ left may. inl (empty_leaves h.now left at may))
not_touched text None at = tt

-- by whatever spelling of the text
pub began_so : {A E : Type 0} (r : Result A E) (bytes text head : List ℕ) (o p : Option History) → IsBody head → bytes ≡ text → IfSome o (λ h. IsAt [] h.now) → Both o p (Replaces bytes r) → Both o p (Throughout (LeavesEither [] text))
began_so {A} {E} (Ok done) bytes text head o p is e at step = along (λ h. IsAt [] h.now) (Replaces {A = A} {E = E} bytes (Ok done)) (Throughout (LeavesEither [] text)) o p
    (λ h k a s. began text h k a (subst (λ (l : List ℕ). k ≡ moves_to (moves_to h (replacing l h.now)) (stands l)) e s)) at step
began_so {A} {E} (Err failed) bytes text head o p is e at step = along (λ h. IsAt [] h.now) (Replaces {A = A} {E = E} bytes (Err failed)) (Throughout (LeavesEither [] text)) o p
    (λ h k a s. not_begun text h k a (subst (λ (l : List ℕ). (k ≡ h) ⊎ (k ≡ moves_to h (replacing l h.now))) e s)) at step
