-- What rising counters obey.
use Rattle.std.proofs.Common.{◌≡◌, ◌<◌, ◌≤◌, ℕ, zero, suc, Bool, true, false, cond, List, [], ◌∷◌, ◌++◌, ◌⊎◌, length, inl, inr, refl, sym, ap, subst, ◌∙◌, arith, eq-eqb}
use Rattle.std.specs.Prelude.{max, ◌==◌, ◌↔◌, fold, Some, slice_get}
use Rattle.std.specs.List.{AllClonesOf}
use Rattle.std.proofs.lemmas.Bool.{eqb-true}
use Rattle.std.proofs.lemmas.List.Sums.{fold-append}
use Rattle.std.proofs.lemmas.Option.{slice_get_within}
use Rattle.edit_stamps.specs.Edit.{PlaneEdit}
use Rattle.edit_stamps.specs.Stamp.{counter_in, replica_in}
use Rattle.document_bodies.specs.Counters.{AreCounterLaws, AreNewestOf, HaveSeen, counter_of, newer_by}
use Rattle.document_bodies.specs.Newest.{AreNewestLaws, MayFollow, RiseByReplica, newest_of}

-- ---- the newest from a counter on

abbrev newest_from : ℕ → ℕ → List PlaneEdit → ℕ
newest_from replica n edits = fold (λ n e. newer_by e.stamp replica n) n edits

no_less : (b : Bool) (n m : ℕ) → n ≤ cond b (max n m) n
no_less true n m = omega arith
no_less false n m = omega arith

at_least : (replica n : ℕ) (edits : List PlaneEdit) → n ≤ newest_from replica n edits
at_least replica n [] = omega arith
at_least replica n (e ∷ edits) =
    let now : n ≤ newer_by e.stamp replica n = no_less (replica_in e.stamp == replica) n (counter_in e.stamp) in
    let later : newer_by e.stamp replica n ≤ newest_from replica (newer_by e.stamp replica n) edits = at_least replica (newer_by e.stamp replica n) edits in
    omega (arith, now, later)

-- its own stamp brings a replica's counter at least to the stamp's
own : (stamp n : ℕ) → counter_in stamp ≤ newer_by stamp (replica_in stamp) n
own stamp n =
    let same : (replica_in stamp == replica_in stamp) ≡ true = eq-eqb _ _ refl in
    subst (λ (b : Bool). counter_in stamp ≤ cond b (max n (counter_in stamp)) n) (sym same) (omega arith)

most_from : (edits : List PlaneEdit) (n i : ℕ) (e : PlaneEdit) → slice_get edits i ≡ Some e → counter_in e.stamp ≤ newest_from (replica_in e.stamp) n edits
most_from [] n i e at = absurd (cc)
most_from (x ∷ edits) n zero e at =
    let same : x ≡ e = cc in
    let here : counter_in e.stamp ≤ newer_by x.stamp (replica_in e.stamp) n =
    subst (λ (y : PlaneEdit). counter_in e.stamp ≤ newer_by y.stamp (replica_in e.stamp) n) (sym same) (own e.stamp n) in
    let later : newer_by x.stamp (replica_in e.stamp) n ≤ newest_from (replica_in e.stamp) (newer_by x.stamp (replica_in e.stamp) n) edits =
    at_least (replica_in e.stamp) (newer_by x.stamp (replica_in e.stamp) n) edits in
    omega (arith, here, later)
most_from (x ∷ edits) n (suc i) e at = most_from edits (newer_by x.stamp (replica_in e.stamp) n) i e at

-- a counter above all of a replica's is above the newest
below_by : (b : Bool) (n m c : ℕ) → n < c → (b ≡ true → m < c) → cond b (max n m) n < c
below_by true n m c low here =
    let is : m < c = here refl in
    omega arith
below_by false n m c low here = low

below : (edits : List PlaneEdit) (replica n c : ℕ) → n < c → ((i : ℕ) (x : PlaneEdit) → slice_get edits i ≡ Some x → replica_in x.stamp ≡ replica → counter_in x.stamp < c)
    → newest_from replica n edits < c
below [] replica n c low each = low
below (e ∷ edits) replica n c low each =
    let now : newer_by e.stamp replica n < c =
    below_by (replica_in e.stamp == replica) n (counter_in e.stamp) c low (λ same. each 0 e refl (eqb-true _ _ same)) in
    below edits replica (newer_by e.stamp replica n) c now (λ i x at. each (suc i) x at)

-- ---- lists with one more

-- what stands at a place of a list with one more stood there before, or is the last
at_more : (edits : List PlaneEdit) (e x : PlaneEdit) (i : ℕ) → slice_get (edits ++ e ∷ []) i ≡ Some x → (slice_get edits i ≡ Some x) ⊎ ((i ≡ length edits) × (e ≡ x))
at_more [] e x zero at = inr (refl, cc)
at_more [] e x (suc i) at = absurd (cc)
at_more (y ∷ edits) e x zero at = inl at
at_more (y ∷ edits) e x (suc i) at =
    elim (at_more edits e x i at) [ inl before ↦ inl before | inr last ↦ inr (ap suc last.0, last.1) ]

at_front : (edits : List PlaneEdit) (e x : PlaneEdit) (i : ℕ) → slice_get edits i ≡ Some x → slice_get (edits ++ e ∷ []) i ≡ Some x
at_front [] e x i at = absurd (cc)
at_front (y ∷ edits) e x zero at = at
at_front (y ∷ edits) e x (suc i) at = at_front edits e x i at

at_end : (edits : List PlaneEdit) (e : PlaneEdit) → slice_get (edits ++ e ∷ []) (length edits) ≡ Some e
at_end [] e = refl
at_end (y ∷ edits) e = at_end edits e

-- ---- the laws

none_rise : RiseByReplica []
none_rise i j e f less at_i at_j own = absurd (cc)

most : (edits : List PlaneEdit) (i : ℕ) (e : PlaneEdit) → slice_get edits i ≡ Some e → counter_in e.stamp ≤ newest_of edits (replica_in e.stamp)
most edits i e at = most_from edits 0 i e at

goes_on : (edits : List PlaneEdit) (e : PlaneEdit) → RiseByReplica edits → 0 < counter_in e.stamp → MayFollow edits e → RiseByReplica (edits ++ e ∷ [])
goes_on edits e rise above may i j x y less at_i at_j same =
    elim (at_more edits e y j at_j) [
      | inl before_j ↦ elim (at_more edits e x i at_i) [
        | inl before_i ↦ rise i j x y less before_i before_j same
        | inr last_i ↦
            let within : j < length edits = slice_get_within edits j y before_j in
            let end : i ≡ length edits = last_i.0 in
            absurd (omega (arith, less, within, end))
      ]
      | inr last_j ↦ elim (at_more edits e x i at_i) [
        | inl before_i ↦
            let newest : counter_in x.stamp ≤ newest_of edits (replica_in x.stamp) = most edits i x before_i in
            let one : replica_in x.stamp ≡ replica_in e.stamp = same ∙ ap (λ (z : PlaneEdit). replica_in z.stamp) (sym last_j.1) in
            let newest_e : newest_of edits (replica_in x.stamp) ≡ newest_of edits (replica_in e.stamp) = ap (newest_of edits) one in
            let low : newest_of edits (replica_in e.stamp) < counter_in e.stamp = may in
            let end : counter_in e.stamp ≡ counter_in y.stamp = ap (λ (z : PlaneEdit). counter_in z.stamp) last_j.1 in
            omega (arith, newest, newest_e, low, end)
        | inr last_i ↦
            let end_i : i ≡ length edits = last_i.0 in
            let end_j : j ≡ length edits = last_j.0 in
            absurd (omega (arith, less, end_i, end_j))
      ]
    ]

went_on : (edits : List PlaneEdit) (e : PlaneEdit) → 0 < counter_in e.stamp → RiseByReplica (edits ++ e ∷ []) → MayFollow edits e
went_on edits e above rise =
    below edits (replica_in e.stamp) 0 (counter_in e.stamp) above
    (λ i x at same. rise i (length edits) x e (slice_get_within edits i x at) (at_front edits e x i at) (at_end edits e) same)

apart : (edits : List PlaneEdit) (i j : ℕ) (e f : PlaneEdit) → RiseByReplica edits → slice_get edits i ≡ Some e → slice_get edits j ≡ Some f → e.stamp ≡ f.stamp → i < j → ⊥
apart edits i j e f rise at_i at_j same less =
    let counter : counter_in e.stamp ≡ counter_in f.stamp = ap counter_in same in
    let rises : counter_in e.stamp < counter_in f.stamp = rise i j e f less at_i at_j (ap replica_in same) in
    omega (arith, counter, rises)

once : (edits : List PlaneEdit) (i j : ℕ) (e f : PlaneEdit) → RiseByReplica edits → slice_get edits i ≡ Some e → slice_get edits j ≡ Some f → e.stamp ≡ f.stamp → i ≡ j
once edits i j e f rise at_i at_j same =
    let not_less : i < j → ⊥ = apart edits i j e f rise at_i at_j same in
    let not_more : j < i → ⊥ = apart edits j i f e rise at_j at_i (sym same) in
    omega (arith, not_less, not_more)

pub are_newest_laws : AreNewestLaws
are_newest_laws = record { none = none_rise; on = goes_on; back = went_on; once = once; most = most }

-- ---- counters

one_more : (edits : List PlaneEdit) (e : PlaneEdit) (replica : ℕ) → newest_of (edits ++ e ∷ []) replica ≡ newer_by e.stamp replica (newest_of edits replica)
one_more edits e replica = fold-append (λ n (x : PlaneEdit). newer_by x.stamp replica n) 0 edits (e ∷ [])

have_seen : (edits : List PlaneEdit) (e : PlaneEdit) (counters after : List ℕ) → AreNewestOf edits counters → HaveSeen counters e.stamp after → AreNewestOf (edits ++ e ∷ []) after
have_seen edits e counters after newest seen replica = seen replica ∙ ap (newer_by e.stamp replica) (newest replica) ∙ sym (one_more edits e replica)

follows : (edits : List PlaneEdit) (e : PlaneEdit) (counters : List ℕ) → AreNewestOf edits counters → MayFollow edits e ↔ (counter_of counters (replica_in e.stamp) < counter_in e.stamp)
follows edits e counters newest =
    let same : counter_of counters (replica_in e.stamp) ≡ newest_of edits (replica_in e.stamp) = newest (replica_in e.stamp) in
    (λ may. omega (arith, same, may), λ less. omega (arith, same, less))

pub are_counter_laws : AreCounterLaws
are_counter_laws = record { none = λ replica. refl; on = one_more; seen = have_seen; follows = follows }

-- counters that were all made 0
pub all_none : (counters : List ℕ) → AllClonesOf (λ x y. y ≡ x) 0 counters → (replica : ℕ) → counter_of counters replica ≡ 0
all_none [] are replica = refl
all_none (n ∷ counters) are zero = elim are.0 [ inl is ↦ is | inr is ↦ is ]
all_none (n ∷ counters) are (suc replica) = all_none counters are.1 replica
