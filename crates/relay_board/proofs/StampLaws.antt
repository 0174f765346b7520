-- No stamp stands for two entries of a list that has what seats whose counters rise and a file put.
use Rattle.std.proofs.Common.{◌≡◌, ◌≢◌, ◌⊎◌, ℕ, zero, suc, ◌+◌, ◌<◌, ◌≤◌, cond, eq-eqb, ne_eqb, List, [], ◌∷◌, ◌++◌, length, Option, Some, slice_get, slice_index_or, inl, inr, sym, refl, ap, subst, ◌∙◌, arith}
use Rattle.std.proofs.lemmas.Bool.{cases_lt}
use mathlib.Core.Logic.{dite}
use native.Mathlib.Decide.{ℕ_discrete}
use Rattle.edit_stamps.specs.Stamp.{counter_in, replica_in}
use Rattle.board.specs.declared.entry.Entry.{Entry}
use Rattle.inbox.specs.Hands.{of}
use Rattle.inbox.specs.Settled.{IsOf}
use Rattle.relay_board.specs.Rising.{RisesFrom, AreOfReplica, IsRising, HasEachOnce, IsAbove, KeepsStamps}
use Rattle.relay_board.specs.Seating.{Seating, mines_of}

-- ---- the entries of a seat among others

of_own : (k : ℕ) (x : Entry) (xs : List Entry) → x.seat ≡ k → of k (x ∷ xs) ≡ x ∷ of k xs
of_own k x xs e = ap (λ b. cond b (x ∷ of k xs) (of k xs)) (eq-eqb x.seat k e)

of_foreign : (k : ℕ) (x : Entry) (xs : List Entry) → x.seat ≢ k → of k (x ∷ xs) ≡ of k xs
of_foreign k x xs ne = ap (λ b. cond b (x ∷ of k xs) (of k xs)) (ne_eqb x.seat k ne)

-- an entry of a list is among those of its seat
is_among : (xs : List Entry) (j : ℕ) (f : Entry) → slice_get xs j ≡ Some f → (r : ℕ) × (slice_get (of f.seat xs) r ≡ Some f)
is_among [] j f there = absurd (cc (there))
is_among (x ∷ xs) zero f there =
    let same : x ≡ f = cc (there) in
    (0, ap (λ l. slice_get l 0) (of_own f.seat x xs (ap (λ (e : Entry). e.seat) same)) ∙ there)
is_among (x ∷ xs) (suc j) f there =
    let rest = is_among xs j f there in
    dite (ℕ_discrete x.seat f.seat)
    (λ e. (suc rest.0, ap (λ l. slice_get l (suc rest.0)) (of_own f.seat x xs e) ∙ rest.1))
    (λ ne. (rest.0, ap (λ l. slice_get l rest.0) (of_foreign f.seat x xs ne) ∙ rest.1))

-- no stamp stands for an entry of one seat and one of another
abbrev DifferAcross : List Entry → Type 0
DifferAcross list = (i j : ℕ) (e f : Entry) → slice_get list i ≡ Some e → slice_get list j ≡ Some f → e.seat ≢ f.seat → e.edit.stamp ≡ f.edit.stamp → ⊥

head_apart : (x : Entry) (xs : List Entry) → ((k : ℕ) → HasEachOnce (of k (x ∷ xs))) → DifferAcross (x ∷ xs) → (j : ℕ) (f : Entry) → slice_get xs j ≡ Some f → x.edit.stamp ≡ f.edit.stamp → ⊥
head_apart x xs own across j f there same =
    dite (ℕ_discrete x.seat f.seat)
    (λ e.
    let r = is_among xs j f there in
    let first : slice_get (of f.seat (x ∷ xs)) 0 ≡ Some x = ap (λ l. slice_get l 0) (of_own f.seat x xs e) in
    let later : slice_get (of f.seat (x ∷ xs)) (suc r.0) ≡ Some f = ap (λ l. slice_get l (suc r.0)) (of_own f.seat x xs e) ∙ r.1 in
    let no_place : 0 ≡ suc r.0 = own f.seat 0 (suc r.0) x f first later same in
    absurd (omega arith))
    (λ ne. across 0 (suc j) x f refl there ne same)

tail_once : (k : ℕ) (x : Entry) (xs : List Entry) → HasEachOnce (of k (x ∷ xs)) → HasEachOnce (of k xs)
tail_once k x xs own =
    dite (ℕ_discrete x.seat k)
    (λ e.
    let whole : HasEachOnce (x ∷ of k xs) = subst HasEachOnce (of_own k x xs e) own in
    λ i j a b here there same. let next : suc i ≡ suc j = whole (suc i) (suc j) a b here there same in omega arith)
    (λ ne. subst HasEachOnce (of_foreign k x xs ne) own)

-- a list has each stamp once, where it has each once of each seat, and none of two seats
once : (list : List Entry) → ((k : ℕ) → HasEachOnce (of k list)) → DifferAcross list → HasEachOnce list
once [] own across i j e f here there same = absurd (cc (here))
once (x ∷ xs) own across zero zero e f here there same = refl
once (x ∷ xs) own across zero (suc j) e f here there same =
    let first : x ≡ e = cc (here) in
    absurd (head_apart x xs own across j f there (ap (λ (y : Entry). y.edit.stamp) first ∙ same))
once (x ∷ xs) own across (suc i) zero e f here there same =
    let first : x ≡ f = cc (there) in
    absurd (head_apart x xs own across i e here (ap (λ (y : Entry). y.edit.stamp) first ∙ sym same))
once (x ∷ xs) own across (suc i) (suc j) e f here there same =
    ap suc (once xs (λ k. tail_once k x xs (own k)) (λ n m. across (suc n) (suc m)) i j e f here there same)

-- ---- what rises

rises_above : (floor : ℕ) (es : List Entry) (i : ℕ) (e : Entry) → RisesFrom floor es → slice_get es i ≡ Some e → floor < counter_in e.edit.stamp
rises_above floor [] i e r here = absurd (cc (here))
rises_above floor (x ∷ xs) zero e r here =
    let same : x ≡ e = cc (here) in
    subst (λ (y : Entry). floor < counter_in y.edit.stamp) same r.0
rises_above floor (x ∷ xs) (suc i) e r here =
    let more : counter_in x.edit.stamp < counter_in e.edit.stamp = rises_above (counter_in x.edit.stamp) xs i e r.1 here in
    let first : floor < counter_in x.edit.stamp = r.0 in
    omega arith

-- what rises has each stamp once
rising_once : (floor : ℕ) (es : List Entry) → RisesFrom floor es → HasEachOnce es
rising_once floor [] r i j e f here there same = absurd (cc (here))
rising_once floor (x ∷ xs) r zero zero e f here there same = refl
rising_once floor (x ∷ xs) r zero (suc j) e f here there same =
    let first : x ≡ e = cc (here) in
    let later : counter_in x.edit.stamp < counter_in f.edit.stamp = rises_above (counter_in x.edit.stamp) xs j f r.1 there in
    let alike : counter_in x.edit.stamp ≡ counter_in f.edit.stamp = ap counter_in (ap (λ (y : Entry). y.edit.stamp) first ∙ same) in
    absurd (omega arith)
rising_once floor (x ∷ xs) r (suc i) zero e f here there same =
    let first : x ≡ f = cc (there) in
    let later : counter_in x.edit.stamp < counter_in e.edit.stamp = rises_above (counter_in x.edit.stamp) xs i e r.1 here in
    let alike : counter_in x.edit.stamp ≡ counter_in e.edit.stamp = ap counter_in (ap (λ (y : Entry). y.edit.stamp) first ∙ sym same) in
    absurd (omega arith)
rising_once floor (x ∷ xs) r (suc i) (suc j) e f here there same = ap suc (rising_once (counter_in x.edit.stamp) xs r.1 i j e f here there same)

of_replica : (number : ℕ) (es : List Entry) (i : ℕ) (e : Entry) → AreOfReplica number es → slice_get es i ≡ Some e → replica_in e.edit.stamp ≡ number
of_replica number [] i e r here = absurd (cc (here))
of_replica number (x ∷ xs) zero e r here =
    let same : x ≡ e = cc (here) in
    ap (λ (y : Entry). replica_in y.edit.stamp) (sym same) ∙ r.0
of_replica number (x ∷ xs) (suc i) e r here = of_replica number xs i e r.1 here

-- ---- seats, and a file behind them

-- what stands at a place is what the seat there put, or else what the file put
where_put : (seats : List Seating) (file : Seating) (k : ℕ) → k < length (mines_of (seats ++ file ∷ []))
    → ((s : Seating) × (slice_get seats k ≡ Some s) × (slice_index_or (mines_of (seats ++ file ∷ [])) k [] ≡ s.mine)) ⊎ ((slice_index_or (mines_of (seats ++ file ∷ [])) k [] ≡ file.mine) × (k ≡ length seats))
where_put [] file zero lt = inr (refl, refl)
where_put [] file (suc k) lt = absurd (omega arith)
where_put (x ∷ xs) file zero lt = inl (x, refl, refl)
where_put (x ∷ xs) file (suc k) lt = elim (where_put xs file k (omega arith)) [
  | inl h ↦ inl (h.0, h.1, h.2)
  | inr h ↦ inr (h.0, ap suc h.1)
]

-- an entry is one that the seat at its place put, or one that the file put
abbrev Whose : List Seating → Seating → Entry → Type 0
Whose seats file e = ((s : Seating) × (r : ℕ) × (slice_get seats e.seat ≡ Some s) × (slice_get s.mine r ≡ Some e)) ⊎ ((r : ℕ) × (slice_get file.mine r ≡ Some e) × (e.seat ≡ length seats))

whose : (list : List Entry) (seats : List Seating) (file : Seating) → IsOf list (mines_of (seats ++ file ∷ [])) → (i : ℕ) (e : Entry) → slice_get list i ≡ Some e → Whose seats file e
whose list seats file all i e here =
    let puts : List (List Entry) = mines_of (seats ++ file ∷ []) in
    let r = is_among list i e here in
    elim (cases_lt e.seat (length puts)) [
      | inl lt ↦
          let mine : slice_get (slice_index_or puts e.seat []) r.0 ≡ Some e = ap (λ l. slice_get l r.0) (sym (all.each e.seat lt)) ∙ r.1 in
          elim (where_put seats file e.seat lt) [
            | inl h ↦ inl (h.0, r.0, h.1, ap (λ l. slice_get l r.0) (sym h.2) ∙ mine)
            | inr h ↦ inr (r.0, ap (λ l. slice_get l r.0) (sym h.0) ∙ mine, h.1)
          ]
      | inr ge ↦
          let none : slice_get {X = Entry} [] r.0 ≡ Some e = ap (λ l. slice_get l r.0) (sym (all.none e.seat ge)) ∙ r.1 in
          absurd (cc (none))
    ]

-- what is known of an entry of a seat that is above some entries
seat_entry : (entries : List Entry) (s : Seating) (r : ℕ) (e : Entry) → (above : IsAbove entries s) → slice_get s.mine r ≡ Some e → (replica_in e.edit.stamp ≡ s.number) × (above.floor < counter_in e.edit.stamp)
seat_entry entries s r e above here =
    let rises : IsRising (Some above.floor) s.number s.mine = subst (λ (o : Option ℕ). IsRising o s.number s.mine) above.has above.rises in
    (of_replica s.number s.mine r e rises.1 here, rises_above above.floor s.mine r e rises.0 here)

abbrev AreAbove : ℕ → List Seating → Seating → Type 0
AreAbove first seats file = (k : ℕ) (s : Seating) → slice_get seats k ≡ Some s → (s.place ≡ k) × (s.number ≡ first + k) × IsAbove file.mine s

-- an entry of a seat has not the stamp of one of the file
seat_file : (first : ℕ) (seats : List Seating) (file : Seating) → AreAbove first seats file → (s : Seating) (r t : ℕ) (e f : Entry) → slice_get seats e.seat ≡ Some s → slice_get s.mine r ≡ Some e → slice_get file.mine t ≡ Some f → e.edit.stamp ≡ f.edit.stamp → ⊥
seat_file first seats file are s r t e f is here there same =
    let above = (are e.seat s is).2 in
    let own = seat_entry file.mine s r e above here in
    let replica : replica_in f.edit.stamp ≡ s.number = ap replica_in (sym same) ∙ own.0 in
    let below : counter_in f.edit.stamp ≤ above.floor = above.above t f there replica in
    let more : above.floor < counter_in e.edit.stamp = own.1 in
    let alike : counter_in e.edit.stamp ≡ counter_in f.edit.stamp = ap counter_in same in
    omega arith

across_all : (first : ℕ) (list : List Entry) (seats : List Seating) (file : Seating) → AreAbove first seats file → IsOf list (mines_of (seats ++ file ∷ [])) → DifferAcross list
across_all first list seats file are all i j e f here there differ same = elim (whose list seats file all i e here) [
  | inl h ↦ elim (whose list seats file all j f there) [
    | inl g ↦
        let left = are e.seat h.0 h.2 in
        let right = are f.seat g.0 g.2 in
        let one = (seat_entry file.mine h.0 h.1 e left.2 h.3).0 in
        let other = (seat_entry file.mine g.0 g.1 f right.2 g.3).0 in
        let alike : replica_in e.edit.stamp ≡ replica_in f.edit.stamp = ap replica_in same in
        let here : h.0.number ≡ first + e.seat = left.1 in
        let there : g.0.number ≡ first + f.seat = right.1 in
        let equal : h.0.number ≡ g.0.number = sym one ∙ (alike ∙ other) in
        differ (omega (arith, here, there, equal))
    | inr g ↦ seat_file first seats file are h.0 h.1 g.0 e f h.2 h.3 g.1 same
  ]
  | inr h ↦ elim (whose list seats file all j f there) [
    | inl g ↦ seat_file first seats file are g.0 g.1 h.0 f e g.2 g.3 h.1 (sym same)
    | inr g ↦ differ (h.2 ∙ sym g.2)
  ]
]

own_all : (first : ℕ) (list : List Entry) (seats : List Seating) (file : Seating) → AreAbove first seats file → HasEachOnce file.mine → IsOf list (mines_of (seats ++ file ∷ [])) → (k : ℕ) → HasEachOnce (of k list)
own_all first list seats file are each all k =
    let puts : List (List Entry) = mines_of (seats ++ file ∷ []) in
    elim (cases_lt k (length puts)) [
      | inl lt ↦ subst HasEachOnce (sym (all.each k lt)) (elim (where_put seats file k lt) [
        | inl h ↦
            let above = (are k h.0 h.1).2 in
            let rises : IsRising (Some above.floor) h.0.number h.0.mine = subst (λ (o : Option ℕ). IsRising o h.0.number h.0.mine) above.has above.rises in
            subst HasEachOnce (sym h.2) (rising_once above.floor h.0.mine rises.0)
        | inr h ↦ subst HasEachOnce (sym h.0) each
      ])
      | inr ge ↦ subst HasEachOnce (sym (all.none k ge)) (λ i j e f here there same. absurd (cc (here)))
    ]

pub keeps_stamps : KeepsStamps
keeps_stamps first list seats file are each all = once list (own_all first list seats file are each all) (across_all first list seats file are all)
