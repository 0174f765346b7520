-- What a crash leaves of a file that is found, and is cut behind its records or replaced by them.
use Rattle.std.specs.Prelude.{IfSome, OnOk, ◌-◌}
use Rattle.std.proofs.Common.{◌≡◌, ◌≤◌, ◌+◌, ◌⊎◌, inl, inr, Bool, true, false, ℕ, List, [], ◌∷◌, ◌++◌, length, take, drop, map, Option, Some, None, Result, Ok, Err, refl, sym, ap, subst, ◌∙◌, append_assoc, arith, Vec, Global}
use mathlib.Core.List.{IsPrefix}
use Rattle.std.proofs.lemmas.List.{append-nil, drop_at, length-append, length-drop, length-take-le, take-append-drop, take_all, take_at}
use Rattle.kept_records.specs.Records.{AreRead, BeginsNone, IsBody, record_text, records_text}
use Rattle.kept_records.proofs.Lowered.{same_bytes}
use Rattle.kept_records.proofs.LawProofs.{record_laws_hold}
use Rattle.kept_devices.specs.Standing.{Both, History, IsSettled, MayLeave, Standing, Throughout, cutting, in_doubt, moves_to, replacing, stands, synced}
use Rattle.kept_devices.specs.Standing.MayLeave.{Added, Cut, Replaced, Uncut}
use Rattle.kept_devices.specs.Keep.{Cuts, HasSynced, KnownKeep}
use Rattle.kept_devices.specs.Reopen.{IsSeen, Reads, Replaces}
use Rattle.kept_log.specs.Kept.{IsAt, Leaves}
use Rattle.kept_log.specs.Found.{HasRead, IsReadTo, IsReady, Shows, listed}
use Rattle.kept_log.proofs.Along.{along, always_on, always_still, behind, if_all, if_both, in_the_end, moved, moved_or_stayed, moved_twice, stayed}
use Rattle.kept_log.proofs.Moments.{nothing_lowered, replacing_leaves, stands_leaves}

-- ---- what is seen may be left

pub seen_may : (s : Standing) (bytes : List ℕ) → IsSeen s bytes → MayLeave s bytes
seen_may s bytes (inl e) = Added s.pending (same_bytes s.pending) e
seen_may s bytes (inr has) = Replaced has

-- so what is read of it is between the lists by which a crash was bound
pub between : (kept all : List (List ℕ)) (s : Standing) (bytes : List ℕ) (bodies : List (List ℕ)) (rest : List ℕ) → Leaves kept all s → IsSeen s bytes → AreRead bytes bodies rest
    → IsPrefix kept bodies × IsPrefix bodies all
between kept all s bytes bodies rest leaves seen read = leaves bytes (seen_may s bytes seen) bodies rest read

-- ---- a sync

synced_may : (s : Standing) (left : List ℕ) → MayLeave (synced s) left → MayLeave s left
synced_may s left may = Added s.pending (same_bytes s.pending) (stands_leaves (s.durable ++ s.pending) left may)

doubt_may : (s : Standing) (left : List ℕ) → MayLeave (in_doubt s) left → MayLeave s left
doubt_may s left (Added end low e) = Added end low e
doubt_may s left (Cut n e) = Cut n e
doubt_may s left (Uncut end low e) = Uncut end low e
doubt_may s left (Replaced has) = Replaced has

sync_ok : (kept all : List (List ℕ)) (h k : History) → Leaves kept all h.now → h.now.is_doubtful ≡ false → HasSynced h k → Throughout (Leaves kept all) h k
sync_ok kept all h k leaves sound step = moved (Leaves kept all) h k (synced h.now) leaves (λ left may. leaves left (synced_may h.now left may)) (step.sound sound)

sync_err : (kept all : List (List ℕ)) (h k : History) → Leaves kept all h.now → (k ≡ h) ⊎ (k ≡ moves_to h (in_doubt h.now)) → Throughout (Leaves kept all) h k
sync_err kept all h k leaves step = moved_or_stayed (Leaves kept all) h k (in_doubt h.now) leaves (λ left may. leaves left (doubt_may h.now left may)) step

pub sync_crash_ok : (kept all : List (List ℕ)) (o p : Option History) → IfSome o (λ h. false ≡ h.now.is_doubtful) → IfSome o (λ h. Leaves kept all h.now) → Both o p HasSynced → Both o p (Throughout (Leaves kept all))
sync_crash_ok kept all o p sound leaves step =
    along (λ h. (false ≡ h.now.is_doubtful) × Leaves kept all h.now) HasSynced (Throughout (Leaves kept all)) o p (λ h k i s. sync_ok kept all h k i.1 (sym i.0) s)
    (if_both (λ h. false ≡ h.now.is_doubtful) (λ h. Leaves kept all h.now) o sound leaves) step

pub sync_crash_err : (kept all : List (List ℕ)) (o p : Option History) → IfSome o (λ h. Leaves kept all h.now) → Both o p (λ h k. (k ≡ h) ⊎ (k ≡ moves_to h (in_doubt h.now))) → Both o p (Throughout (Leaves kept all))
sync_crash_err kept all o p leaves step = along (λ h. Leaves kept all h.now) (λ h k. (k ≡ h) ⊎ (k ≡ moves_to h (in_doubt h.now))) (Throughout (Leaves kept all)) o p
    (λ h k i s. sync_err kept all h k i s) leaves step

pub sync_ready : (o p : Option History) → IfSome o (λ h. false ≡ h.now.is_doubtful) → Both o p HasSynced → IfSome p (λ h. IsReady false h.now)
sync_ready o p sound step = behind (λ h. false ≡ h.now.is_doubtful) HasSynced (λ h. IsReady false h.now) o p
    (λ h k i s. subst (λ (l : History). IsReady false l.now) (sym (s.sound (sym i))) (record { told = refl; durable = λ is. refl })) sound step

pub sync_same : (o p : Option History) → IfSome o (λ h. false ≡ h.now.is_doubtful) → Both o p HasSynced → Both o p (λ h k. (bytes : List ℕ) → IsSeen k.now bytes → IsSeen h.now bytes)
sync_same o p sound step = along (λ h. false ≡ h.now.is_doubtful) HasSynced (λ h k. (bytes : List ℕ) → IsSeen k.now bytes → IsSeen h.now bytes) o p
    (λ h k i s bytes seen. seen_so h.now bytes (subst (λ (l : History). IsSeen l.now bytes) (s.sound (sym i)) seen)) sound step
  where
    seen_so : (s : Standing) (bytes : List ℕ) → IsSeen (synced s) bytes → IsSeen s bytes
    seen_so s bytes (inl e) = inl (e ∙ append-nil (s.durable ++ s.pending))
    seen_so s bytes (inr none) = absurd none

-- a file in doubt, of which nothing is asked
pub doubt_ready : (o : Option History) → IfSome o (λ h. true ≡ h.now.is_doubtful) → IfSome o (λ h. IsReady true h.now)
doubt_ready o told = if_all (λ h. true ≡ h.now.is_doubtful) (λ h. IsReady true h.now) o (λ h e. record { told = sym e; durable = λ is. absurd (let clash : true ≡ false = is in cc) }) told

pub ready_as : (d b : Bool) (o : Option History) → d ≡ b → IfSome o (λ h. IsReady d h.now) → IfSome o (λ h. IsReady b h.now)
ready_as d b o e ready = subst (λ (x : Bool). IfSome o (λ h. IsReady x h.now)) e ready

-- what was told of a test
pub told_as : (d b : Bool) (o : Option History) → d ≡ b → IfSome o (λ h. d ≡ h.now.is_doubtful) → IfSome o (λ h. b ≡ h.now.is_doubtful)
told_as d b o e told = subst (λ (x : Bool). IfSome o (λ h. x ≡ h.now.is_doubtful)) e told

pub same_seen : (o : Option History) → Both o o (λ h k. (bytes : List ℕ) → IsSeen k.now bytes → IsSeen h.now bytes)
same_seen (Some h) = λ bytes seen. seen
same_seen None = tt

-- nor is anything else seen of one of which a sync failed
pub doubt_same : (o p : Option History) → Both o p (λ h k. (k ≡ h) ⊎ (k ≡ moves_to h (in_doubt h.now))) → Both o p (λ h k. (bytes : List ℕ) → IsSeen k.now bytes → IsSeen h.now bytes)
doubt_same (Some h) (Some k) step = seen_so step
  where
    seen_so : (k ≡ h) ⊎ (k ≡ moves_to h (in_doubt h.now)) → (bytes : List ℕ) → IsSeen k.now bytes → IsSeen h.now bytes
    seen_so (inl same) bytes seen = subst (λ (l : History). IsSeen l.now bytes) same seen
    seen_so (inr moves) bytes seen = subst (λ (l : History). IsSeen l.now bytes) moves seen
doubt_same (Some h) None step = step
doubt_same None (Some k) step = step
doubt_same None None step = tt

pub nothing_done : (kept all : List (List ℕ)) (o : Option History) → IfSome o (λ h. Leaves kept all h.now) → Both o o (Throughout (Leaves kept all))
nothing_done kept all o leaves = always_still (Leaves kept all) o leaves

-- ---- a read

read_still : {E : Type 0} (r : Result (Option (Vec ℕ Global)) E) (h k : History) → Reads r h k → k ≡ h
read_still (Ok (Some v)) h k step = step.0
read_still (Ok None) h k step = step
read_still (Err failed) h k step = step

pub read_crash : {E : Type 0} (r : Result (Option (Vec ℕ Global)) E) (kept all : List (List ℕ)) (o p : Option History) → IfSome o (λ h. Leaves kept all h.now) → Both o p (Reads r) → Both o p (Throughout (Leaves kept all))
read_crash r kept all o p leaves step =
    along (λ h. Leaves kept all h.now) (Reads r) (Throughout (Leaves kept all)) o p (λ h k l s. stayed (Leaves kept all) h k l (read_still r h k s)) leaves step

pub read_after : {E : Type 0} (r : Result (Option (Vec ℕ Global)) E) (kept all : List (List ℕ)) (o p q : Option History) → Both o p (Throughout (Leaves kept all)) → Both p q (Reads r) → Both o q (Throughout (Leaves kept all))
read_after r kept all o p q first step = always_on (Leaves kept all) o p q first (read_crash r kept all p q (in_the_end (Leaves kept all) o p first) step)

pub read_same : {E : Type 0} (r : Result (Option (Vec ℕ Global)) E) (o p q : Option History) → Both o p (λ h k. (bytes : List ℕ) → IsSeen k.now bytes → IsSeen h.now bytes) → Both p q (Reads r)
    → Both o q (λ h k. (bytes : List ℕ) → IsSeen k.now bytes → IsSeen h.now bytes)
read_same r (Some h) (Some k) (Some l) same step = λ bytes seen. same bytes (subst (λ (m : History). IsSeen m.now bytes) (read_still r k l step) seen)
read_same r (Some h) (Some k) None same step = absurd step
read_same r (Some h) None q same step = absurd same
read_same r None (Some k) q same step = absurd same
read_same r None None (Some l) same step = absurd step
read_same r None None None same step = tt

pub some_read : (E : Type 0) (o p : Option History) (f : Option (Vec ℕ Global)) (v : Vec ℕ Global) → f ≡ Some v → Both o p (Reads {E = E} (Ok f)) → Both o p (λ h k. (k ≡ h) × IsSeen h.now v.items)
some_read E o p f v e step = subst (λ (x : Option (Vec ℕ Global)). Both o p (Reads {E = E} (Ok x))) e step

pub read_ready : (is_doubtful : Bool) (bytes : List ℕ) (o p : Option History) → IfSome o (λ h. IsReady is_doubtful h.now) → Both o p (λ h k. (k ≡ h) × IsSeen h.now bytes) → IfSome p (λ h. IsReady is_doubtful h.now)
read_ready is_doubtful bytes o p ready step =
    behind (λ h. IsReady is_doubtful h.now) (λ h k. (k ≡ h) × IsSeen h.now bytes) (λ h. IsReady is_doubtful h.now) o p (λ h k i s. subst (λ (l : History). IsReady is_doubtful l.now) (sym s.0) i) ready step

pub read_shows : (bytes : List ℕ) (o p : Option History) → Both o p (λ h k. (k ≡ h) × IsSeen h.now bytes) → IfSome p (λ h. IsSeen h.now bytes)
read_shows bytes (Some h) (Some k) step = subst (λ (l : History). IsSeen l.now bytes) (sym step.0) step.1
read_shows bytes (Some h) None step = tt
read_shows bytes None (Some k) step = absurd step
read_shows bytes None None step = tt

-- it was seen before too
pub read_shown : (bytes : List ℕ) (o p q : Option History) → Both o p (λ h k. (bytes : List ℕ) → IsSeen k.now bytes → IsSeen h.now bytes) → Both p q (λ h k. (k ≡ h) × IsSeen h.now bytes) → IfSome o (λ h. IsSeen h.now bytes)
read_shown bytes (Some h) (Some k) (Some l) same step = same bytes step.1
read_shown bytes (Some h) (Some k) None same step = absurd step
read_shown bytes (Some h) None q same step = absurd same
read_shown bytes None p q same step = tt

-- ---- the parts of a text

pub no_parts : (bytes : List ℕ) (bodies : List (Vec ℕ Global)) → BeginsNone bytes → bodies ≡ [] → IsReadTo bytes (map (λ v. v.items) bodies) 0
no_parts bytes bodies none e = subst (λ l. IsReadTo bytes (map (λ v. v.items) l) 0) (sym e) (record { read = record { spelt = refl; are = tt; ends = none }; within = omega arith; front = refl })

-- a record, and the records behind it
pub more_parts : (bytes head behind_it : List ℕ) (bodies : List (List ℕ)) (whole all : ℕ) → IsBody head → bytes ≡ record_text head ++ behind_it → IsReadTo behind_it bodies whole
    → all ≡ length bytes - length behind_it + whole → IsReadTo bytes (head ∷ bodies) all
more_parts bytes head behind_it bodies whole all is e to is_all =
    let long : length bytes ≡ length (record_text head) + length behind_it = ap length e ∙ length-append (record_text head) behind_it in
    let many : all ≡ length (record_text head) + whole = omega (arith, is_all, long) in
    let spelt : bytes ≡ records_text (head ∷ bodies) ++ drop whole behind_it =
    e ∙ ap (λ (l : List ℕ). record_text head ++ l) to.read.spelt ∙ sym (append_assoc (record_text head) (records_text bodies) (drop whole behind_it)) in
    let front : length (records_text (head ∷ bodies)) ≡ all =
    length-append (record_text head) (records_text bodies) ∙ ap (λ (n : ℕ). length (record_text head) + n) (ap length to.front ∙ taken whole behind_it to.within) ∙ sym many in
    let rest : drop all bytes ≡ drop whole behind_it = ap (λ (l : List ℕ). drop all l) spelt ∙ drop_at (records_text (head ∷ bodies)) (drop whole behind_it) all front in
    record {
      read = record { spelt = spelt ∙ ap (λ (l : List ℕ). records_text (head ∷ bodies) ++ l) (sym rest); are = (is, to.read.are); ends = subst BeginsNone (sym rest) to.read.ends };
      within = omega (arith, many, long, to.within);
      front = sym (ap (λ (l : List ℕ). take all l) spelt ∙ take_at (records_text (head ∷ bodies)) (drop whole behind_it) all front);
    }
  where
    taken : (n : ℕ) (xs : List ℕ) → n ≤ length xs → length (take n xs) ≡ n
    taken n xs le = length-take-le n xs le

pub parts_are : (bytes head behind_it : List ℕ) (v : Vec ℕ Global) (bodies : List (Vec ℕ Global)) (whole all : ℕ) → v.items ≡ head → IsBody head → bytes ≡ record_text head ++ behind_it
    → AreRead behind_it (map (λ t. t.items) bodies) (drop whole behind_it) → (whole ≤ length behind_it) × (records_text (map (λ t. t.items) bodies) ≡ take whole behind_it)
    → all ≡ length bytes - length behind_it + whole → IsReadTo bytes (v.items ∷ map (λ t. t.items) bodies) all
parts_are bytes head behind_it v bodies whole all same is e read front is_all =
    subst (λ (l : List ℕ). IsReadTo bytes (l ∷ map (λ t. t.items) bodies) all) (sym same)
    (more_parts bytes head behind_it (map (λ t. t.items) bodies) whole all is e (record { read = read; within = front.0; front = front.1 }) is_all)

-- ---- the end

-- a list that is read of what a crash leaves is this one
same_list : (kept all bodies : List (List ℕ)) (left rest : List ℕ) → IsPrefix kept bodies × IsPrefix bodies all → AreRead left bodies rest
    → (got : List (List ℕ)) (more : List ℕ) → AreRead left got more → IsPrefix kept got × IsPrefix got all
same_list kept all bodies left rest within read got more again =
    subst (λ (l : List (List ℕ)). IsPrefix kept l × IsPrefix l all) (record_laws_hold.one left bodies got rest more read again).0 within

front_begins_none : (n : ℕ) (rest : List ℕ) → BeginsNone rest → BeginsNone (take n rest)
front_begins_none n rest none body more is e =
    none body (more ++ drop n rest) is (sym (take-append-drop n rest) ∙ ap (λ (l : List ℕ). l ++ drop n rest) e ∙ append_assoc (record_text body) more (drop n rest))

-- the records and any beginning of what stands behind them
read_front : (bytes : List ℕ) (bodies : List (List ℕ)) (whole n : ℕ) (left : List ℕ) → IsReadTo bytes bodies whole → left ≡ take whole bytes ++ take n (drop whole bytes) → AreRead left bodies (take n (drop whole bytes))
read_front bytes bodies whole n left to e = record {
  spelt = e ∙ ap (λ (l : List ℕ). l ++ take n (drop whole bytes)) (sym to.front);
  are = to.read.are;
  ends = front_begins_none n (drop whole bytes) to.read.ends;
}

read_whole : (bytes : List ℕ) (bodies : List (List ℕ)) (whole : ℕ) (left : List ℕ) → IsReadTo bytes bodies whole → left ≡ take whole bytes → AreRead left bodies (take 0 (drop whole bytes))
read_whole bytes bodies whole left to e = read_front bytes bodies whole 0 left to (e ∙ sym (append-nil (take whole bytes)))

pub at_whole : (bytes : List ℕ) (bodies : List (List ℕ)) (whole : ℕ) → IsReadTo bytes bodies whole → IsAt bodies (stands (take whole bytes))
at_whole bytes bodies whole to = record {
  durable = sym to.front;
  pending = refl;
  settled = record { cut_durable = refl; cut_pending = refl; others = refl };
  sound = refl;
  are = to.read.are;
}

-- what a file leaves that is cut
cutting_leaves : (bytes : List ℕ) (n : ℕ) (left : List ℕ) → MayLeave (cutting n (stands bytes)) left → (m : ℕ) × (left ≡ take n bytes ++ take m (drop n bytes))
cutting_leaves bytes n left (Added end low e) = (0, e ∙ ap (λ (l : List ℕ). take n bytes ++ l) (nothing_lowered end low))
cutting_leaves bytes n left (Cut m e) = (m, e)
cutting_leaves bytes n left (Uncut end low e) =
    (length (drop n bytes), e ∙ ap (λ (l : List ℕ). take n bytes ++ l) (ap (λ (l : List ℕ). drop n bytes ++ l) (nothing_lowered end low) ∙ append-nil (drop n bytes) ∙ sym (take_all (length (drop n bytes)) (drop n bytes) (omega arith))))
cutting_leaves bytes n left (Replaced has) = absurd has

stands_within : (kept all : List (List ℕ)) (bytes : List ℕ) (bodies : List (List ℕ)) (whole : ℕ) → IsPrefix kept bodies × IsPrefix bodies all → IsReadTo bytes bodies whole → Leaves kept all (stands (take whole bytes))
stands_within kept all bytes bodies whole within to left may =
    same_list kept all bodies left (take 0 (drop whole bytes)) within (read_whole bytes bodies whole left to (stands_leaves (take whole bytes) left may))

cutting_within : (kept all : List (List ℕ)) (bytes : List ℕ) (bodies : List (List ℕ)) (whole : ℕ) → IsPrefix kept bodies × IsPrefix bodies all → IsReadTo bytes bodies whole → Leaves kept all (cutting whole (stands bytes))
cutting_within kept all bytes bodies whole within to left may =
    let there = cutting_leaves bytes whole left may in
    same_list kept all bodies left (take there.0 (drop whole bytes)) within (read_front bytes bodies whole there.0 left to there.1)

replacing_within : (kept all : List (List ℕ)) (bytes : List ℕ) (bodies : List (List ℕ)) (whole : ℕ) (s : Standing) → Leaves kept all s → IsPrefix kept bodies × IsPrefix bodies all → IsReadTo bytes bodies whole
    → Leaves kept all (replacing (take whole bytes) s)
replacing_within kept all bytes bodies whole s leaves within to left may = either (replacing_leaves (take whole bytes) s left may)
  where
    either : MayLeave s left ⊎ (left ≡ take whole bytes) → (got : List (List ℕ)) (more : List ℕ) → AreRead left got more → IsPrefix kept got × IsPrefix got all
    either (inl there) = leaves left there
    either (inr e) = same_list kept all bodies left (take 0 (drop whole bytes)) within (read_whole bytes bodies whole left to e)

-- a file that is found, and by what a crash is bound
pub record IsBound (kept all : List (List ℕ)) (is_doubtful : Bool) (bytes : List ℕ) (s : Standing) : Type 0 where
  pub ready : IsReady is_doubtful s
  pub seen : IsSeen s bytes
  pub leaves : Leaves kept all s

-- one that is in no doubt is what is seen of it
pub durable_is : (bytes : List ℕ) (s : Standing) → IsReady false s → IsSeen s bytes → s ≡ stands bytes
durable_is bytes s ready seen =
    let e : s ≡ stands s.durable = ready.durable refl in
    e ∙ ap stands (sym (stands_seen s.durable bytes (subst (λ (t : Standing). IsSeen t bytes) e seen)))
  where
    stands_seen : (durable bytes : List ℕ) → IsSeen (stands durable) bytes → bytes ≡ durable
    stands_seen durable bytes (inl e) = e ∙ append-nil durable
    stands_seen durable bytes (inr none) = absurd none

replace_crash : {A E : Type 0} (r : Result A E) (kept all : List (List ℕ)) (bytes : List ℕ) (bodies : List (List ℕ)) (whole : ℕ) (h k : History) → Leaves kept all h.now → IsPrefix kept bodies × IsPrefix bodies all → IsReadTo bytes bodies whole
    → Replaces (take whole bytes) r h k → Throughout (Leaves kept all) h k
replace_crash (Ok done) kept all bytes bodies whole h k leaves within to step = moved_twice (Leaves kept all) h k (replacing (take whole bytes) h.now) (stands (take whole bytes)) leaves
    (replacing_within kept all bytes bodies whole h.now leaves within to) (stands_within kept all bytes bodies whole within to) step
replace_crash (Err failed) kept all bytes bodies whole h k leaves within to step = moved_or_stayed (Leaves kept all) h k (replacing (take whole bytes) h.now) leaves
    (replacing_within kept all bytes bodies whole h.now leaves within to) step

cut_crash : {A E : Type 0} (r : Result A E) (kept all : List (List ℕ)) (bytes : List ℕ) (bodies : List (List ℕ)) (whole : ℕ) (h k : History) → h.now ≡ stands bytes → Leaves kept all h.now → IsPrefix kept bodies × IsPrefix bodies all → IsReadTo bytes bodies whole
    → (IsSettled h.now → whole ≤ length h.now.durable → Cuts whole r h k) → Throughout (Leaves kept all) h k
cut_crash r kept all bytes bodies whole h k is leaves within to step = by r (step settled inside)
  where
    settled : IsSettled h.now
    settled = subst IsSettled (sym is) (record { cut_durable = refl; cut_pending = refl; others = refl })

    inside : whole ≤ length h.now.durable
    inside = subst (λ (s : Standing). whole ≤ length s.durable) (sym is) to.within

    midway : Leaves kept all (cutting whole h.now)
    midway = subst (λ (s : Standing). Leaves kept all (cutting whole s)) (sym is) (cutting_within kept all bytes bodies whole within to)

    after : Leaves kept all (stands (take whole h.now.durable))
    after = subst (λ (s : Standing). Leaves kept all (stands (take whole s.durable))) (sym is) (stands_within kept all bytes bodies whole within to)

    by : {A E : Type 0} (r : Result A E) → Cuts whole r h k → Throughout (Leaves kept all) h k
    by (Ok done) e = moved_twice (Leaves kept all) h k (cutting whole h.now) (stands (take whole h.now.durable)) leaves midway after e
    by (Err failed) e = moved_or_stayed (Leaves kept all) h k (cutting whole h.now) leaves midway e

-- ---- where the history is known

pub bound : (kept all : List (List ℕ)) (is_doubtful : Bool) (bytes : List ℕ) (o : Option History) → IfSome o (λ h. IsReady is_doubtful h.now) → IfSome o (λ h. IsSeen h.now bytes) → IfSome o (λ h. Leaves kept all h.now)
    → IfSome o (λ h. IsBound kept all is_doubtful bytes h.now)
bound kept all is_doubtful bytes (Some h) ready seen leaves = record { ready = ready; seen = seen; leaves = leaves }
bound kept all is_doubtful bytes None ready seen leaves = tt

pub replaced_by : {A E : Type 0} (r : Result A E) (kept all : List (List ℕ)) (is_doubtful : Bool) (bytes : List ℕ) (bodies : List (List ℕ)) (whole : ℕ) (o p : Option History) → IsReadTo bytes bodies whole
    → IfSome o (λ h. IsBound kept all is_doubtful bytes h.now) → Both o p (Replaces (take whole bytes) r) → Both o p (Throughout (Leaves kept all))
replaced_by r kept all is_doubtful bytes bodies whole o p to b step = along (λ h. IsBound kept all is_doubtful bytes h.now) (Replaces (take whole bytes) r) (Throughout (Leaves kept all)) o p
    (λ h k i s. replace_crash r kept all bytes bodies whole h k i.leaves (between kept all h.now bytes bodies (drop whole bytes) i.leaves i.seen to.read) to s) b step

pub replaced_at : {A E : Type 0} (r : Result A E) (bytes : List ℕ) (bodies : List (List ℕ)) (whole : ℕ) (o p : Option History) → IsReadTo bytes bodies whole → Both o p (Replaces (take whole bytes) r)
    → OnOk r (IfSome p (λ h. IsAt bodies h.now))
replaced_at (Ok done) bytes bodies whole (Some h) (Some k) to step = subst (λ (l : History). IsAt bodies l.now) (sym step) (at_whole bytes bodies whole to)
replaced_at (Ok done) bytes bodies whole (Some h) None to step = tt
replaced_at (Ok done) bytes bodies whole None (Some k) to step = absurd step
replaced_at (Ok done) bytes bodies whole None None to step = tt
replaced_at (Err failed) bytes bodies whole o p to step = tt

pub cut_by : {A E : Type 0} (r : Result A E) (kept all : List (List ℕ)) (bytes : List ℕ) (bodies : List (List ℕ)) (whole : ℕ) (o p : Option History) → IsReadTo bytes bodies whole
    → IfSome o (λ h. IsBound kept all false bytes h.now) → Both o p (λ h k. IsSettled h.now → whole ≤ length h.now.durable → Cuts whole r h k) → Both o p (Throughout (Leaves kept all))
cut_by r kept all bytes bodies whole o p to b step = along (λ h. IsBound kept all false bytes h.now) (λ h k. IsSettled h.now → whole ≤ length h.now.durable → Cuts whole r h k) (Throughout (Leaves kept all)) o p
    (λ h k i s. cut_crash r kept all bytes bodies whole h k (durable_is bytes h.now i.ready i.seen) i.leaves (between kept all h.now bytes bodies (drop whole bytes) i.leaves i.seen to.read) to s) b step

cut_to : (bytes : List ℕ) (bodies : List (List ℕ)) (whole : ℕ) (h k : History) → IsReadTo bytes bodies whole → h.now ≡ stands bytes
    → (IsSettled h.now → whole ≤ length h.now.durable → k ≡ moves_to (moves_to h (cutting whole h.now)) (stands (take whole h.now.durable))) → IsAt bodies k.now
cut_to bytes bodies whole h k to is step =
    let settled : IsSettled h.now = subst IsSettled (sym is) (record { cut_durable = refl; cut_pending = refl; others = refl }) in
    let inside : whole ≤ length h.now.durable = subst (λ (s : Standing). whole ≤ length s.durable) (sym is) to.within in
    let at : IsAt bodies (stands (take whole h.now.durable)) = subst (λ (s : Standing). IsAt bodies (stands (take whole s.durable))) (sym is) (at_whole bytes bodies whole to) in
    subst (λ (l : History). IsAt bodies l.now) (sym (step settled inside)) at

pub cut_at : {A E : Type 0} (r : Result A E) (bytes : List ℕ) (bodies : List (List ℕ)) (whole : ℕ) (o p : Option History) → IsReadTo bytes bodies whole → IfSome o (λ h. IsReady false h.now) → IfSome o (λ h. IsSeen h.now bytes)
    → Both o p (λ h k. IsSettled h.now → whole ≤ length h.now.durable → Cuts whole r h k) → OnOk r (IfSome p (λ h. IsAt bodies h.now))
cut_at (Ok done) bytes bodies whole (Some h) (Some k) to ready seen step = cut_to bytes bodies whole h k to (durable_is bytes h.now ready seen) step
cut_at (Ok done) bytes bodies whole (Some h) None to ready seen step = tt
cut_at (Ok done) bytes bodies whole None (Some k) to ready seen step = absurd step
cut_at (Ok done) bytes bodies whole None None to ready seen step = tt
cut_at (Err failed) bytes bodies whole o p to ready seen step = tt

-- nothing stands behind the records
pub whole_at : (bytes : List ℕ) (bodies : List (List ℕ)) (whole : ℕ) (o : Option History) → whole ≡ length bytes → IsReadTo bytes bodies whole → IfSome o (λ h. IsReady false h.now) → IfSome o (λ h. IsSeen h.now bytes)
    → IfSome o (λ h. IsAt bodies h.now)
whole_at bytes bodies whole (Some h) all to ready seen =
    let is : h.now ≡ stands bytes = durable_is bytes h.now ready seen in
    let same : take whole bytes ≡ bytes = take_all whole bytes (omega (arith, all)) in
    subst (λ (s : Standing). IsAt bodies s) (ap stands same ∙ sym is) (at_whole bytes bodies whole to)
whole_at bytes bodies whole None all to ready seen = tt

-- ---- what is told of it

pub has_read : (known : KnownKeep) (bytes : List ℕ) (bodies : List (List ℕ)) (whole lost : ℕ) → Shows bytes known → IsReadTo bytes bodies whole → lost ≡ length bytes - whole → HasRead known bodies lost
has_read known bytes bodies whole lost shows to is = record { bytes = bytes; shows = shows; rest = drop whole bytes; read = to.read; many = length-drop whole bytes ∙ sym is }

pub between_by : (kept all : List (List ℕ)) (bytes : List ℕ) (bodies : List (List ℕ)) (whole : ℕ) (o : Option History) → IfSome o (λ h. Leaves kept all h.now) → IfSome o (λ h. IsSeen h.now bytes) → IsReadTo bytes bodies whole
    → IfSome o (λ h. IsPrefix kept bodies × IsPrefix bodies all)
between_by kept all bytes bodies whole o leaves seen to = if_all (λ h. Leaves kept all h.now × IsSeen h.now bytes) (λ h. IsPrefix kept bodies × IsPrefix bodies all) o
    (λ h i. between kept all h.now bytes bodies (drop whole bytes) i.0 i.1 to.read) (if_both (λ h. Leaves kept all h.now) (λ h. IsSeen h.now bytes) o leaves seen)

-- in the words of what was opened
pub has_read_so : (known : KnownKeep) (bytes : List ℕ) (head then_head : Option (Vec ℕ Global)) (bodies then_bodies : Vec (Vec ℕ Global) Global) (whole lost : ℕ)
    → then_head ≡ head → then_bodies ≡ bodies → lost ≡ length bytes - whole → Shows bytes known → IsReadTo bytes (listed head bodies.items) whole → HasRead known (listed then_head then_bodies.items) lost
has_read_so known bytes head then_head bodies then_bodies whole lost same also is shows to =
    subst (λ (x : Option (Vec ℕ Global)). HasRead known (listed x then_bodies.items) lost) (sym same)
    (subst (λ (x : Vec (Vec ℕ Global) Global). HasRead known (listed head x.items) lost) (sym also) (has_read known bytes (listed head bodies.items) whole lost shows to is))

pub listed_so : (P : List (List ℕ) → Type 0) (head then_head : Option (Vec ℕ Global)) (bodies then_bodies : Vec (Vec ℕ Global) Global) → then_head ≡ head → then_bodies ≡ bodies → P (listed head bodies.items)
    → P (listed then_head then_bodies.items)
listed_so P head then_head bodies then_bodies same also holds =
    subst (λ (x : Option (Vec ℕ Global)). P (listed x then_bodies.items)) (sym same) (subst (λ (x : Vec (Vec ℕ Global) Global). P (listed head x.items)) (sym also) holds)
