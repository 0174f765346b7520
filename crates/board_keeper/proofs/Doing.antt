-- What a keeper commits and shows.
use Rattle.std.specs.Prelude.{IfSome, OnOk}
use Rattle.std.specs.List.{All}
use Rattle.std.proofs.Common.{◌≡◌, ◌≢◌, ◌⊎◌, ◌↔◌, inl, inr, ℕ, zero, suc, ◌+◌, ◌-◌, ◌<◌, ◌≤◌, ◌^◌, List, [], ◌∷◌, ◌++◌, length, map, take, drop, Result, Ok, Err, Option, Some, refl, sym, ap, subst, ◌∙◌, append_assoc, add-one, arith, Vec, Global, slice_get}
use Rattle.std.specs.declared.alloc.AllocError.{AllocError}
use Rattle.std.proofs.lemmas.List.{append-nil, length-append, map_push, take-take}
use Rattle.std.proofs.lemmas.List.Elements.{All-push}
use mathlib.Core.List.{IsPrefix}
use Rattle.generations_rule.specs.Rule.{GenerationsRule}
use Rattle.board.specs.declared.entry.Entry.{Entry}
use Rattle.board.specs.Entries.{edits_of}
use Rattle.document_bodies.specs.Bodies.{edit_bodies, edit_body}
use Rattle.kept_devices.specs.Keep.{KnownKeep}
use Rattle.kept_log.specs.Kept.{Always, Keeps, Leaves, LeavesNow}
use Rattle.kept_log.specs.States.{state_after}
use Rattle.kept_log.specs.declared.log.LogFault.{LogFault}
use Rattle.kept_log.specs.declared.log.LogFault.TheVariants as log
use Rattle.kept_log.specs.declared.log.LogState.{LogState}
use Rattle.kept_log.specs.declared.log.LogState.TheVariants as states
use Rattle.relay_board.specs.Relaying.{Relaying}
use Rattle.relay_board.specs.Same.{Same}
use Rattle.relay_board.specs.Turns.{Shows}
use Rattle.relay_board.proofs.Keeping.{take_next, take_rest}
use Rattle.board_keeper.specs.Keeping.{IsInFile, IsSafe, Keeping, bodies_in}
use Rattle.board_keeper.specs.Kept.{AreMade, IsKeeper}
use Rattle.board_keeper.specs.Steps.{AreSteps, Commits, FailsCommit, IsStep, ShowsKept}
use Rattle.board_keeper.specs.Working.{CommitsSome, FailsWrite, ShowsSome, log_fault_of}
use Rattle.board_keeper.proofs.Growing.{same_on}
use Rattle.board_keeper.proofs.Files.{always_wider, begins_itself, begins_with, bodies_more, bodies_prefix, first_begin, keeps_leaves, leaves_end}

-- ---- bodies

no_bodies : (r : GenerationsRule) (kept : List Entry) (ready : ℕ) → AreMade r kept ready []
no_bodies r kept ready = record { few = omega arith; are = refl; short = λ k d lt. absurd (omega (arith, lt)) }

pub none_made : (r : GenerationsRule) (kept : List Entry) (ready : ℕ) (bodies : List (Vec ℕ Global)) → bodies ≡ [] → AreMade r kept ready bodies
none_made r kept ready bodies none = subst (AreMade r kept ready) (sym none) (no_bodies r kept ready)

-- the body of the next entry
pub one_made : (r : GenerationsRule) (kept : List Entry) (ready : ℕ) (bodies : List (Vec ℕ Global)) (v : Vec ℕ Global) (e : Entry) → AreMade r kept ready bodies → length bodies < ready
    → slice_get (take ready kept) (length bodies) ≡ Some e → v.items ≡ edit_body r e.edit → length v.items ≤ 2 ^ 24 → AreMade r kept ready (bodies ++ v ∷ [])
one_made r kept ready bodies v e made lt here is short =
    let n : ℕ = length bodies in
    let many : length (bodies ++ v ∷ []) ≡ n + 1 = length-append bodies (v ∷ []) in
    let next : take n kept ++ e ∷ [] ≡ take (n + 1) kept =
    ap (λ (l : List Entry). l ++ e ∷ []) (sym (take-take n ready kept (omega (arith, lt)))) ∙ take_next (take ready kept) n e here ∙ take-take (n + 1) ready kept (omega (arith, lt)) in
    let texts : map (λ t. t.items) (bodies ++ v ∷ []) ≡ map (λ t. t.items) bodies ++ v.items ∷ [] = map_push (λ t. t.items) bodies v in
    let all : edit_bodies r (edits_of (take n kept ++ e ∷ [])) ≡ edit_bodies r (edits_of (take n kept)) ++ edit_body r e.edit ∷ [] =
    ap (map (edit_body r)) (map_push (λ (x : Entry). x.edit) (take n kept) e) ∙ map_push (edit_body r) (edits_of (take n kept)) e.edit in
    let rest : edit_bodies r (edits_of (take (n + 1) kept)) ≡ edit_bodies r (edits_of (take n kept)) ++ v.items ∷ [] =
    ap (λ (l : List Entry). edit_bodies r (edits_of l)) (sym next) ∙ all ∙ ap (λ (t : List ℕ). edit_bodies r (edits_of (take n kept)) ++ t ∷ []) (sym is) in record {
      few = omega (arith, many, lt);
      are = texts ∙ ap (λ (l : List (List ℕ)). l ++ v.items ∷ []) made.are ∙ sym rest ∙ ap (λ (m : ℕ). edit_bodies r (edits_of (take m kept))) (sym many);
      short = All-push (λ t. length t.items ≤ 2 ^ 24) bodies v made.short short;
    }

-- ---- the first that was committed is shown

pub shown_keeper : (k : Keeping) (b : Relaying) (stamp : ℕ) (bodies : List (Vec ℕ Global)) → IsKeeper k bodies → 0 < k.committed → Shows {E = AllocError} k.relay (Ok stamp) b
    → IsKeeper (record k { relay = b; committed = k.committed - 1 }) bodies
shown_keeper k b stamp bodies i some h = record {
  out = out;
  ready = omega (arith, ready, long, i.ready);
  within = omega (arith, ready, i.within);
  in_file = λ takes. file;
  takes = λ more. i.takes some;
  begun = i.begun;
  failed = λ f. absurd (cc (f, i.takes some));
  safe = keeps_leaves (bodies_in k.rule b.list) (bodies_in k.rule (b.list ++ take (k.committed - 1) b.kept)) (bodies_in k.rule b.out) k.file
      (bodies_prefix k.rule b.list (b.list ++ take (k.committed - 1) b.kept) (begins_with b.list (take (k.committed - 1) b.kept)))
      (bodies_prefix k.rule (b.list ++ take (k.committed - 1) b.kept) b.out (subst (λ (l : List Entry). IsPrefix (b.list ++ take (k.committed - 1) b.kept) l) (sym out) (first_begin b.list (k.committed - 1) b.kept)))
      file;
  made = none_made k.rule b.kept b.ready bodies (i.none some);
  none = λ more. i.none some;
}
  where
    e : Entry
    e = h.0

    list : b.list ≡ k.relay.list ++ e ∷ []
    list = ap (λ (r : Relaying). r.list) h.3

    kept : k.relay.kept ≡ e ∷ b.kept
    kept = h.2

    ready : b.ready ≡ k.relay.ready - 1
    ready = ap (λ (r : Relaying). r.ready) h.3

    long : length k.relay.kept ≡ suc (length b.kept)
    long = ap length kept

    moved : (rest : List Entry) → k.relay.list ++ e ∷ rest ≡ b.list ++ rest
    moved rest = sym (append_assoc k.relay.list (e ∷ []) rest) ∙ ap (λ (l : List Entry). l ++ rest) (sym list)

    out : b.out ≡ b.list ++ b.kept
    out = ap (λ (r : Relaying). r.out) h.3 ∙ i.out ∙ ap (λ (l : List Entry). k.relay.list ++ l) kept ∙ moved b.kept

    file : Keeps (bodies_in k.rule (b.list ++ take (k.committed - 1) b.kept)) k.file
    file = subst (λ (l : List Entry). Keeps (bodies_in k.rule l) k.file)
        (ap (λ (l : List Entry). k.relay.list ++ take k.committed l) kept ∙ ap (λ (l : List Entry). k.relay.list ++ l) (take_rest k.committed e b.kept some) ∙ moved (take (k.committed - 1) b.kept))
        (i.in_file (i.takes some))

-- ---- a commit

-- the file has just what is published, where nothing is committed that is not
pub listed : (k : Keeping) → k.committed ≡ 0 → IsInFile k → Keeps (bodies_in k.rule k.relay.list) k.file
listed k none file = subst (λ (l : List Entry). Keeps (bodies_in k.rule l) k.file) (ap (λ n. k.relay.list ++ take n k.relay.kept) none ∙ append-nil k.relay.list) file

-- with the bodies of the first that are ready it has these too
with_bodies : (k : Keeping) (bodies : List (Vec ℕ Global)) → AreMade k.rule k.relay.kept k.relay.ready bodies
    → bodies_in k.rule k.relay.list ++ map (λ v. v.items) bodies ≡ bodies_in k.rule (k.relay.list ++ take (length bodies) k.relay.kept)
with_bodies k bodies made = ap (λ (l : List (List ℕ)). bodies_in k.rule k.relay.list ++ l) made.are ∙ sym (bodies_more k.rule k.relay.list (take (length bodies) k.relay.kept))

-- at each moment of it a crash leaves what it may
pub commit_safe : (k : Keeping) (file : KnownKeep) (bodies : List (Vec ℕ Global)) → IsKeeper k bodies
    → Always (Leaves (bodies_in k.rule k.relay.list) (bodies_in k.rule k.relay.list ++ map (λ v. v.items) bodies)) k.file file
    → Always (Leaves (bodies_in k.rule k.relay.list) (bodies_in k.rule k.relay.out)) k.file file
commit_safe k file bodies i always =
    let all : IsPrefix (bodies_in k.rule k.relay.list ++ map (λ v. v.items) bodies) (bodies_in k.rule k.relay.out) =
    subst (λ (l : List (List ℕ)). IsPrefix l (bodies_in k.rule k.relay.out)) (sym (with_bodies k bodies i.made))
    (bodies_prefix k.rule (k.relay.list ++ take (length bodies) k.relay.kept) k.relay.out
    (subst (λ (l : List Entry). IsPrefix (k.relay.list ++ take (length bodies) k.relay.kept) l) (sym i.out) (first_begin k.relay.list (length bodies) k.relay.kept))) in
    always_wider (bodies_in k.rule k.relay.list) (bodies_in k.rule k.relay.out) (bodies_in k.rule k.relay.list) (bodies_in k.rule k.relay.list ++ map (λ v. v.items) bodies) k.file file
    (begins_itself (bodies_in k.rule k.relay.list)) all always

-- what a commit of these bodies says of the file, for each list that it had
pub record IsCommit (k : Keeping) (bodies : List (Vec ℕ Global)) (file : KnownKeep) : Type 0 where
  pub none : k.committed ≡ 0
  pub crash : (list : List (List ℕ)) → Keeps list k.file → Always (Leaves list (list ++ map (λ v. v.items) bodies)) k.file file

always_of : (k : Keeping) (bodies : List (Vec ℕ Global)) (file : KnownKeep) → IsKeeper k bodies → k.takes ≡ states.Open → IsCommit k bodies file
    → Always (Leaves (bodies_in k.rule k.relay.list) (bodies_in k.rule k.relay.out)) k.file file
always_of k bodies file i takes c = commit_safe k file bodies i (c.crash (bodies_in k.rule k.relay.list) (listed k c.none (i.in_file takes)))

pub is_open : (s : LogState) → s ≢ states.Empty → s ≢ states.Failed → s ≡ states.Open
is_open states.Empty a b = absurd (a refl)
is_open states.Open a b = refl
is_open states.Failed a b = absurd (b refl)

-- it went well
pub committed_keeper : (k : Keeping) (bodies : List (Vec ℕ Global)) (file : KnownKeep) → IsKeeper k bodies → 0 < length bodies → k.takes ≡ states.Open → IsCommit k bodies file
    → ((list : List (List ℕ)) → Keeps list k.file → Keeps (list ++ map (λ v. v.items) bodies) file)
    → IsKeeper (record k { file = file; committed = length bodies }) [] × Commits k (record k { file = file; committed = length bodies })
committed_keeper k bodies file i some takes c kept = (
  record {
    out = i.out;
    ready = i.ready;
    within = i.made.few;
    in_file = λ t. subst (λ (l : List (List ℕ)). Keeps l file) (with_bodies k bodies i.made) (kept (bodies_in k.rule k.relay.list) (listed k c.none (i.in_file takes)));
    takes = λ more. takes;
    begun = i.begun;
    failed = i.failed;
    safe = leaves_end (bodies_in k.rule k.relay.list) (bodies_in k.rule k.relay.out) k.file file (always_of k bodies file i takes c);
    made = no_bodies k.rule k.relay.kept k.relay.ready;
    none = λ more. refl;
  },
  record { none = c.none; takes = takes; some = some; ready = i.made.few; safe = always_of k bodies file i takes c; left = refl },
)

-- by whatever spelling of what the keeper is then
pub committed_so : (k : Keeping) (bodies after : List (Vec ℕ Global)) (file : KnownKeep) (takes : LogState) (count : ℕ) → IsKeeper k bodies → 0 < length bodies → k.takes ≡ states.Open → takes ≡ states.Open
    → count ≡ length bodies → after ≡ [] → IsCommit k bodies file → ((list : List (List ℕ)) → Keeps list k.file → Keeps (list ++ map (λ v. v.items) bodies) file)
    → IsKeeper (record k { file = file; takes = takes; committed = count }) after × Commits k (record k { file = file; takes = takes; committed = count })
committed_so k bodies after file takes count i some is then_is many none c kept =
    let P : LogState → ℕ → List (Vec ℕ Global) → Type 0 = λ t n vs. IsKeeper (record k { file = file; takes = t; committed = n }) vs × Commits k (record k { file = file; takes = t; committed = n }) in
    subst (λ vs. P takes count vs) (sym none) (subst (λ n. P takes n []) (sym many) (subst (λ t. P t (length bodies) []) (is ∙ sym then_is) (committed_keeper k bodies file i some is c kept)))

-- the bodies that are held are other ones
pub rebodied : (k : Keeping) (old bodies : List (Vec ℕ Global)) → IsKeeper k old → k.committed ≡ 0 → AreMade k.rule k.relay.kept k.relay.ready bodies → IsKeeper k bodies
rebodied k old bodies i none made = record {
  out = i.out;
  ready = i.ready;
  within = i.within;
  in_file = i.in_file;
  takes = i.takes;
  begun = i.begun;
  failed = i.failed;
  safe = i.safe;
  made = made;
  none = λ more. absurd (omega (arith, more, none));
}

-- it failed: the log takes nothing more
pub failed_keeper : (k : Keeping) (bodies : List (Vec ℕ Global)) (file : KnownKeep) → IsKeeper k bodies → 0 < length bodies → k.takes ≡ states.Open → IsCommit k bodies file
    → IsKeeper (record k { file = file; takes = states.Failed }) bodies × FailsCommit k (record k { file = file; takes = states.Failed })
failed_keeper k bodies file i some takes c = (
  record {
    out = i.out;
    ready = i.ready;
    within = i.within;
    in_file = λ t. absurd (cc (t));
    takes = λ more. absurd (omega (arith, more, c.none));
    begun = λ t. absurd (cc (t));
    failed = λ f. omega (arith, some, i.made.few);
    safe = leaves_end (bodies_in k.rule k.relay.list) (bodies_in k.rule k.relay.out) k.file file (always_of k bodies file i takes c);
    made = i.made;
    none = i.none;
  },
  record { none = c.none; takes = takes; safe = always_of k bodies file i takes c; left = refl },
)

-- why a commit failed, and what the log is then
pub record IsRefused (k : Keeping) (fault : LogFault) (file : KnownKeep) (takes : LogState) : Type 0 where
  pub state : takes ≡ state_after {A = Unit {0}} (Err fault) k.takes
  pub memory : fault ≡ log.Memory → file ≡ k.file
  pub unbegun : fault ≡ log.Unbegun → k.takes ≡ states.Empty
  pub stopped : fault ≡ log.Stopped → k.takes ≡ states.Failed
  pub is_stopped : k.takes ≡ states.Failed → fault ≡ log.Stopped
  pub never : fault ≢ log.Begun
  pub untouched : k.takes ≢ states.Open → file ≡ k.file

same_keeping : (k : Keeping) (file : KnownKeep) (takes : LogState) → file ≡ k.file → takes ≡ k.takes → record k { file = file; takes = takes } ≡ k
same_keeping k file takes e f = λ j. record k { file = e j; takes = f j }

-- nothing was done
stays : (k : Keeping) (bodies : List (Vec ℕ Global)) (file : KnownKeep) (takes : LogState) → IsKeeper k bodies → file ≡ k.file → takes ≡ k.takes → IsKeeper (record k { file = file; takes = takes }) bodies
stays k bodies file takes i e f = subst (λ (b : Keeping). IsKeeper b bodies) (sym (same_keeping k file takes e f)) i

-- the file failed
fails : (k : Keeping) (bodies : List (Vec ℕ Global)) (file : KnownKeep) (takes : LogState) → IsKeeper k bodies → 0 < length bodies → k.takes ≡ states.Open → IsCommit k bodies file → takes ≡ states.Failed
    → IsKeeper (record k { file = file; takes = takes }) bodies × FailsWrite k (record k { file = file; takes = takes })
fails k bodies file takes i some is c f =
    let done = failed_keeper k bodies file i some is c in
    let wrote : FailsWrite k (record k { file = file; takes = states.Failed }) =
    record { steps = suc zero; taken = (k, refl, inr (inr done.1), done.0.safe); same = refl; rule = refl; takes = refl } in
    subst (λ (t : LogState). IsKeeper (record k { file = file; takes = t }) bodies × FailsWrite k (record k { file = file; takes = t })) (sym f) (done.0, wrote)

pub refused_keeper : (k : Keeping) (bodies : List (Vec ℕ Global)) (fault : LogFault) (file : KnownKeep) (takes : LogState) → IsKeeper k bodies → 0 < length bodies → IsCommit k bodies file → IsRefused k fault file takes
    → IsKeeper (record k { file = file; takes = takes }) bodies × CommitsSome k (Err (log_fault_of fault)) (record k { file = file; takes = takes })
refused_keeper k bodies log.Memory file takes i some c r =
    let e = r.memory refl in
    (stays k bodies file takes i e r.state, same_keeping k file takes e r.state)
refused_keeper k bodies log.CutBack file takes i some c r = fails k bodies file takes i some (is_open k.takes i.begun (λ f. absurd (cc (r.is_stopped f)))) c r.state
refused_keeper k bodies log.Doubtful file takes i some c r = fails k bodies file takes i some (is_open k.takes i.begun (λ f. absurd (cc (r.is_stopped f)))) c r.state
refused_keeper k bodies log.Stopped file takes i some c r =
    let was : k.takes ≡ states.Failed = r.stopped refl in
    let e = r.untouched (λ o. absurd (cc (was, o))) in (
      stays k bodies file takes i e r.state,
      record { steps = zero; taken = same_keeping k file takes e r.state; same = refl; rule = refl; takes = r.state ∙ was },
    )
refused_keeper k bodies log.Begun file takes i some c r = absurd (r.never refl)
refused_keeper k bodies log.Unbegun file takes i some c r = absurd (i.begun (r.unbegun refl))

-- ---- several are shown

shows_same : (m b : Keeping) → ShowsKept m b → Same m.relay b.relay
shows_same m b h = record {
  known = ap (λ (r : Relaying). r.known) h.shown.3;
  made = ap (λ (r : Relaying). r.made) h.shown.3;
  origin = ap (λ (r : Relaying). r.origin) h.shown.3;
  inbox = ap (λ (r : Relaying). r.inbox) h.shown.3;
  closed = ap (λ (r : Relaying). r.closed) h.shown.3;
  room = ap (λ (r : Relaying). r.room) h.shown.3;
}

-- one more was shown, of so many
pub shows_more : (a m b : Keeping) (shown all : ℕ) → ShowsSome a shown m → m.committed + shown ≡ all → ShowsKept m b → IsSafe b → ShowsSome a (shown + 1) b × (b.committed + (shown + 1) ≡ all)
shows_more a m b shown all before many h safe =
    let list : length b.relay.list ≡ length m.relay.list + 1 = ap (λ (r : Relaying). length r.list) h.shown.3 ∙ length-append m.relay.list (h.shown.0 ∷ []) in
    let steps : AreSteps (suc shown) a b = (m, before.taken, inl (inr h), safe) in
    let fewer : b.committed ≡ m.committed - 1 = ap (λ (k : Keeping). k.committed) h.left in (
      record {
        taken = subst (λ n. AreSteps n a b) (sym (add-one shown)) steps;
        list = omega (arith, list, before.list);
        same = same_on a.relay m.relay b.relay before.same (shows_same m b h);
        rule = ap (λ (k : Keeping). k.rule) h.left ∙ before.rule;
      },
      omega (arith, fewer, many, h.kept),
    )
