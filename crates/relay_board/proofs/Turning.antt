-- How entries become ready, a turn from its steps, and what turns leave alone.
use Rattle.std.proofs.Common.{◌≡◌, ℕ, suc, ◌+◌, ◌<◌, List, [], ◌∷◌, ◌++◌, length, take, drop, sym, refl, ap, ◌∙◌, append_assoc, length-append, ◌≤◌, arith}
use Rattle.std.proofs.lemmas.List.{append-nil, nil_from_length}
use mathlib.Core.List.{IsPrefix}
use Rattle.board.specs.declared.entry.Entry.{Entry}
use Rattle.board.proofs.Fronts.{prefix_trans}
use Rattle.receipts.specs.Topics.{topic}
use Rattle.relay_board.specs.Relaying.{Relaying}
use Rattle.relay_board.specs.Same.{Same}
use Rattle.relay_board.specs.declared.fault.TurnFault.{TurnFault}
use Rattle.relay_board.specs.declared.relay.Readiness.TheVariants as readiness
use Rattle.relay_board.specs.declared.relay.Turn.{Turn}
use Rattle.relay_board.specs.declared.relay.Turn.TheVariants.{Idle, Published, Failed}
use Rattle.relay_board.specs.Turns.{FindsNone, Idles, IsBehind, IsFetched, IsNext, Readies, ShowsFirst, Turns, IsTurn, GoesWell, GoOn}
use Rattle.relay_board.proofs.Keeping.{behind_one, first_of, take_whole}

-- ---- entries become ready

-- one entry was kept behind those that are ready
pub fetched_before : (a : Relaying) → a.ready < length a.kept → length a.kept ≤ a.ready + 1 → a.out ≡ a.list ++ a.kept → IsFetched a a
fetched_before a more few out =
    let one = behind_one a.ready a.kept more few in
    let behind : IsBehind a a one.0 = record {
      kept = one.1;
      out = out;
      was_kept = λ _. (refl, refl);
      is_new = λ none. absurd (omega (arith, more, none));
      list = refl;
      answered = refl;
      empties = refl;
    } in
    (one.0, behind, refl, more)

-- all that was kept was ready, and one more was taken
pub fetched_now : (a b : Relaying) (e : Entry) → length a.kept ≡ a.ready → a.out ≡ a.list ++ a.kept → b.kept ≡ a.kept ++ e ∷ [] → b.out ≡ a.out ++ e ∷ []
    → b.list ≡ a.list → b.answered ≡ a.answered → b.empties ≡ a.empties → b.ready ≡ a.ready → IsFetched a b
fetched_now a b e all out kept more list answered empties ready =
    let whole : take a.ready a.kept ≡ a.kept = take_whole a.ready a.kept all in
    let behind : IsBehind a b e = record {
      kept = kept ∙ ap (λ (l : List Entry). l ++ e ∷ []) (sym whole);
      out = more ∙ (ap (λ (l : List Entry). l ++ e ∷ []) out ∙ (append_assoc a.list a.kept (e ∷ []) ∙ ap (λ (l : List Entry). a.list ++ l) (sym kept)));
      was_kept = λ lt. absurd (omega (arith, lt, all));
      is_new = λ _. more;
      list = list;
      answered = answered;
      empties = empties;
    } in
    (e, behind, ready, omega (arith, ap length kept, length-append a.kept (e ∷ []), all))

-- what is kept behind those that are ready is what it was once it was tried
pub prepared : (a b d : Relaying) (e : Entry) → IsBehind a b e → d ≡ record b { ready = d.ready; stored = d.stored } → IsBehind a d e
prepared a b d e h is = record {
  kept = ap (λ (r : Relaying). r.kept) is ∙ h.kept;
  out = ap (λ (r : Relaying). r.out) is ∙ (h.out ∙ ap (λ (l : List Entry). a.list ++ l) (sym (ap (λ (r : Relaying). r.kept) is)));
  was_kept = λ more. (ap (λ (r : Relaying). r.kept) is ∙ (h.was_kept more).0, ap (λ (r : Relaying). r.out) is ∙ (h.was_kept more).1);
  is_new = λ none. ap (λ (r : Relaying). r.out) is ∙ h.is_new none;
  list = ap (λ (r : Relaying). r.list) is ∙ h.list;
  answered = ap (λ (r : Relaying). r.answered) is ∙ h.answered;
  empties = ap (λ (r : Relaying). r.empties) is ∙ h.empties;
}

-- ---- a turn

-- where none was ready, the entry behind is the next one
alone : (kept now : List Entry) (e : Entry) → now ≡ e ∷ [] → (0 < length kept → now ≡ kept) → drop 1 kept ≡ []
alone [] now e one same = refl
alone (x ∷ xs) now e one same = ap (λ (l : List Entry). drop 1 l) (sym (same (omega arith)) ∙ one)

some : (kept : List Entry) → (kept ≡ [] → ⊥) → 0 < length kept
some [] never = absurd (never refl)
some (x ∷ xs) never = omega arith

one_kept : (a b : Relaying) (e : Entry) → a.ready ≡ 0 → IsBehind a b e → b.kept ≡ e ∷ []
one_kept a b e none h = h.kept ∙ ap (λ n. take n a.kept ++ e ∷ []) none

rest_none : (a b : Relaying) (e : Entry) → a.ready ≡ 0 → IsBehind a b e → drop 1 a.kept ≡ []
rest_none a b e none h = alone a.kept b.kept e (one_kept a b e none h) (λ more. (h.was_kept (omega (arith, more, none))).0)

next_of : (a b : Relaying) (e : Entry) → a.ready ≡ 0 → IsBehind a b e → IsNext a b e
next_of a b e none h =
    let one : b.kept ≡ e ∷ [] = one_kept a b e none h in
    let rest : drop 1 a.kept ≡ [] = rest_none a b e none h in record {
      taken = h.out ∙ (ap (λ (l : List Entry). a.list ++ l) one ∙ ap (λ (l : List Entry). a.list ++ e ∷ l) (sym rest));
      was_kept = λ never.
          let more = some a.kept never in
          let same = h.was_kept (omega (arith, more, none)) in
          (sym same.0 ∙ (one ∙ ap (λ (l : List Entry). e ∷ l) (sym rest)), same.1);
      is_new = λ empty. h.is_new (ap length empty ∙ sym none);
      empties = h.empties;
    }

-- an entry that could not be made ready
pub turn_failed : (a b : Relaying) (fault : TurnFault) → a.ready ≡ 0 → Readies a (readiness.Failed fault) b → Turns a (Failed fault) b
turn_failed a b fault none h =
    let e : Entry = h.0 in
    let rest : drop 1 a.kept ≡ [] = rest_none a b e none h.1 in
    (e, next_of a b e none h.1, h.1.list, one_kept a b e none h.1 ∙ ap (λ (l : List Entry). e ∷ l) (sym rest), h.3, h.1.answered)

-- nothing was there to be made ready
pub turn_idle : (a b : Relaying) → a.ready ≡ 0 → FindsNone a b → Idles a b
turn_idle a b none h = (h.0, h.1, nil_from_length a.kept (h.2 ∙ none))

-- the first that was ready is shown
pub turn_ready : (a d : Relaying) (t : Turn) → 0 < length a.kept → a.out ≡ a.list ++ a.kept → ShowsFirst a t d → Turns a t d
turn_ready a d Idle lt out h = absurd h
turn_ready a d (Published s) lt out h =
    let e : Entry = h.0 in
    let is = h.3 in
    let rest : drop 1 a.kept ≡ d.kept = ap (λ (l : List Entry). drop 1 l) h.2 in
    let kept : a.kept ≡ e ∷ drop 1 a.kept = h.2 ∙ ap (λ (l : List Entry). e ∷ l) (sym rest) in
    let same : d.out ≡ a.out = ap (λ (r : Relaying). r.out) is in
    let next : IsNext a d e = record {
      taken = same ∙ (out ∙ ap (λ (l : List Entry). a.list ++ l) kept);
      was_kept = λ never. (kept, same);
      is_new = λ empty. absurd (omega (arith, lt, ap length empty));
      empties = ap (λ (r : Relaying). r.empties) is;
    } in
    (e, h.1, next, ap (λ (r : Relaying). r.list) is, sym rest, ap (λ (r : Relaying). r.answered) is ∙ ap (λ o. topic e o ∷ []) (sym (ap (λ (r : Relaying). r.origin) is)))
turn_ready a d (Failed fault) lt out h =
    let first = first_of a.kept lt in
    let e : Entry = first.0 in
    let is : d ≡ a = h.1 in
    let same : d.out ≡ a.out = ap (λ (r : Relaying). r.out) is in
    let next : IsNext a d e = record {
      taken = same ∙ (out ∙ ap (λ (l : List Entry). a.list ++ l) first.1);
      was_kept = λ never. (first.1, same);
      is_new = λ empty. absurd (omega (arith, lt, ap length empty));
      empties = ap (λ (r : Relaying). r.empties) is;
    } in
    (e, next, ap (λ (r : Relaying). r.list) is, ap (λ (r : Relaying). r.kept) is ∙ first.1, (λ full. absurd (cc (full, h.0))), ap (λ (r : Relaying). r.answered) is)

-- one was made ready, and is shown
pub turn_behind : (a b d : Relaying) (t : Turn) (e : Entry) → a.ready ≡ 0 → IsBehind a b e → ShowsFirst b t d → Turns a t d
turn_behind a b d Idle e none h shown = absurd shown
turn_behind a b d (Published s) e none h shown =
    let is = shown.3 in
    let one : e ∷ [] ≡ shown.0 ∷ d.kept = sym (one_kept a b e none h) ∙ shown.2 in
    let first : e ≡ shown.0 = cc (one) in
    let rest : [] ≡ d.kept = ap (λ (l : List Entry). drop 1 l) one in
    let n = next_of a b e none h in
    let same : d.out ≡ b.out = ap (λ (r : Relaying). r.out) is in
    let next : IsNext a d e = record {
      taken = same ∙ n.taken;
      was_kept = λ never. ((n.was_kept never).0, same ∙ (n.was_kept never).1);
      is_new = λ empty. same ∙ n.is_new empty;
      empties = ap (λ (r : Relaying). r.empties) is ∙ n.empties;
    } in (
      e,
      ap (λ (x : Entry). x.edit.stamp) first ∙ shown.1,
      next,
      ap (λ (r : Relaying). r.list) is ∙ (ap (λ (x : Entry). b.list ++ x ∷ []) (sym first) ∙ ap (λ (l : List Entry). l ++ e ∷ []) h.list),
      sym rest ∙ sym (rest_none a b e none h),
      ap (λ (r : Relaying). r.answered) is ∙ (ap (λ (x : Entry). topic x b.origin ∷ []) (sym first) ∙ ap (λ o. topic e o ∷ []) (sym (ap (λ (r : Relaying). r.origin) is))),
    )
turn_behind a b d (Failed fault) e none h shown =
    let is : d ≡ b = shown.1 in
    let n = next_of a b e none h in
    let same : d.out ≡ b.out = ap (λ (r : Relaying). r.out) is in
    let next : IsNext a d e = record {
      taken = same ∙ n.taken;
      was_kept = λ never. ((n.was_kept never).0, same ∙ (n.was_kept never).1);
      is_new = λ empty. same ∙ n.is_new empty;
      empties = ap (λ (r : Relaying). r.empties) is ∙ n.empties;
    } in (
      e,
      next,
      ap (λ (r : Relaying). r.list) is ∙ h.list,
      ap (λ (r : Relaying). r.kept) is ∙ (one_kept a b e none h ∙ ap (λ (l : List Entry). e ∷ l) (sym (rest_none a b e none h))),
      (λ full. absurd (cc (full, shown.0))),
      ap (λ (r : Relaying). r.answered) is ∙ h.answered,
    )

-- ---- what turns leave alone

-- what two runs of turns leave alone, both together do
pub same_trans : (a b c : Relaying) → Same a b → Same b c → Same a c
same_trans a b c p q = record { known = q.known ∙ p.known; made = q.made ∙ p.made; origin = q.origin ∙ p.origin; inbox = q.inbox ∙ p.inbox; closed = q.closed ∙ p.closed; room = q.room ∙ p.room }

-- a turn only adds to the list
pub turns_prefix : (a : Relaying) (t : Turn) (b : Relaying) → Turns a t b → IsPrefix a.list b.list
turns_prefix a Idle b h = ([], append-nil a.list ∙ ap (λ (r : Relaying). r.list) (sym h.0))
turns_prefix a (Published s) b h = (h.0 ∷ [], sym h.3)
turns_prefix a (Failed fault) b h = ([], append-nil a.list ∙ sym h.2)

-- some turns, none of which failed, and one more
pub further : (a b d : Relaying) (turn : Turn) → Same a b × IsPrefix a.list b.list × ((turns : ℕ) × GoOn turns a b) → IsTurn b turn d → GoesWell b turn d → Same a d × IsPrefix a.list d.list × ((turns : ℕ) × GoOn turns a d)
further a b d turn went one well = (
  same_trans a b d went.0 one.same,
  prefix_trans a.list b.list d.list went.1 (turns_prefix b turn d one.turned),
  (suc went.2.0, (b, turn, went.2.1, well)),
)
