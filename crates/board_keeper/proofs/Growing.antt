-- A relay that makes entries ready, under a keeper.
use Rattle.std.proofs.Common.{◌≡◌, ◌⊎◌, inl, inr, ℕ, zero, suc, ◌+◌, ◌-◌, ◌<◌, ◌≤◌, List, [], ◌∷◌, ◌++◌, length, map, take, refl, sym, ap, subst, ◌∙◌, append_assoc, arith, Vec, Global}
use Rattle.std.proofs.lemmas.List.{append-nil, length-append, length-take-le, take-append-le, take-take}
use mathlib.Core.List.{IsPrefix}
use Rattle.generations_rule.specs.Rule.{GenerationsRule}
use Rattle.board.specs.declared.entry.Entry.{Entry}
use Rattle.board.specs.Entries.{edits_of}
use Rattle.board.proofs.Fronts.{prefix_trans}
use Rattle.document_bodies.specs.Bodies.{edit_bodies}
use Rattle.kept_log.specs.Kept.{Keeps, LeavesNow}
use Rattle.relay_board.specs.Relaying.{Relaying}
use Rattle.relay_board.specs.Same.{Same}
use Rattle.relay_board.specs.Turns.{IsBehind, Readies}
use Rattle.relay_board.specs.declared.relay.Readiness.{Readiness}
use Rattle.relay_board.specs.declared.relay.Readiness.TheVariants.{Idle, Full, Ready, Failed}
use Rattle.board_keeper.specs.Keeping.{Keeping, IsInFile, bodies_in}
use Rattle.board_keeper.specs.Kept.{AreMade, IsKeeper}
use Rattle.board_keeper.specs.Steps.{AreSteps, MakesReady, IsStep}
use Rattle.board_keeper.specs.Working.{Fills, GoReady}
use Rattle.board_keeper.proofs.Files.{begins_itself, begins_with, bodies_prefix, now_wider}

-- ---- what making one ready does to a relay

-- nothing is published, what was ready stays so, and what was taken goes on
pub record Grows (a b : Relaying) : Type 0 where
  pub list : b.list ≡ a.list
  pub out : b.out ≡ b.list ++ b.kept
  pub more : a.ready ≤ b.ready
  pub within : b.ready ≤ length b.kept
  pub goes_on : IsPrefix a.out b.out
  pub front : take a.ready b.kept ≡ take a.ready a.kept

split : (m n : ℕ) → m ≤ n → (m < n) ⊎ (n ≡ m)
split m n le = grind arith

-- one entry was kept behind those that are ready
grows_behind : (a b : Relaying) (e : Entry) → a.out ≡ a.list ++ a.kept → a.ready ≤ length a.kept → IsBehind a b e → (a.ready ≤ b.ready) → (b.ready ≤ a.ready + 1) → Grows a b
grows_behind a b e out within h more few =
    let long : length (take a.ready a.kept) ≡ a.ready = length-take-le a.ready a.kept within in
    let many : length b.kept ≡ a.ready + 1 = ap length h.kept ∙ length-append (take a.ready a.kept) (e ∷ []) ∙ ap (λ n. n + 1) long in
    let same : a.list ++ b.kept ≡ b.list ++ b.kept = ap (λ (l : List Entry). l ++ b.kept) (sym h.list) in record {
      list = h.list;
      out = h.out ∙ same;
      more = more;
      within = omega (arith, many, few);
      goes_on = on (split a.ready (length a.kept) within);
      front = ap (take a.ready) h.kept ∙ take-append-le a.ready (take a.ready a.kept) (e ∷ []) (omega (arith, long)) ∙ take-take a.ready a.ready a.kept (omega arith);
    }
  where
    on : (a.ready < length a.kept) ⊎ (length a.kept ≡ a.ready) → IsPrefix a.out b.out
    on (inl lt) = subst (λ (l : List Entry). IsPrefix a.out l) (sym (h.was_kept lt).1) (begins_itself a.out)
    on (inr all) = subst (λ (l : List Entry). IsPrefix a.out l) (sym (h.is_new all)) (begins_with a.out (e ∷ []))

pub grows : (a b : Relaying) (last : Readiness) → a.out ≡ a.list ++ a.kept → a.ready ≤ length a.kept → Readies a last b → Grows a b
grows a b Idle out within h = subst (Grows a) (sym h.0) (record { list = refl; out = out; more = omega arith; within = within; goes_on = begins_itself a.out; front = refl })
grows a b Full out within h = subst (Grows a) (sym h.0) (record { list = refl; out = out; more = omega arith; within = within; goes_on = begins_itself a.out; front = refl })
grows a b Ready out within h = grows_behind a b h.0 out within h.1 (omega (arith, h.2)) (omega (arith, h.2))
grows a b (Failed fault) out within h = grows_behind a b h.0 out within h.1 (omega (arith, h.2)) (omega (arith, h.2))

-- ---- the keeper goes on

-- what begins two lists alike, in a shorter part
pub front_same : {A : Type 0} (m n : ℕ) (xs ys : List A) → m ≤ n → take n ys ≡ take n xs → take m ys ≡ take m xs
front_same m n xs ys le same = sym (take-take m n ys le) ∙ ap (take m) same ∙ take-take m n xs le

pub made_on : (r : GenerationsRule) (a b : Relaying) (bodies : List (Vec ℕ Global)) → Grows a b → AreMade r a.kept a.ready bodies → AreMade r b.kept b.ready bodies
made_on r a b bodies g made = record {
  few = omega (arith, made.few, g.more);
  are = made.are ∙ ap (λ (l : List Entry). edit_bodies r (edits_of l)) (sym (front_same (length bodies) a.ready a.kept b.kept made.few g.front));
  short = made.short;
}

pub keeper_on : (k : Keeping) (b : Relaying) (bodies : List (Vec ℕ Global)) → IsKeeper k bodies → Grows k.relay b → IsKeeper (record k { relay = b }) bodies
keeper_on k b bodies i g = record {
  out = g.out;
  ready = g.within;
  within = omega (arith, i.within, g.more);
  in_file = λ takes. subst (λ (l : List Entry). Keeps (bodies_in k.rule l) k.file) same (i.in_file takes);
  takes = i.takes;
  begun = i.begun;
  failed = λ f. omega (arith, i.failed f, g.more);
  safe = subst (λ (l : List Entry). LeavesNow (bodies_in k.rule l) (bodies_in k.rule b.out) k.file) (sym g.list) wide;
  made = made_on k.rule k.relay b bodies g i.made;
  none = i.none;
}
  where
    same : k.relay.list ++ take k.committed k.relay.kept ≡ b.list ++ take k.committed b.kept
    same = ap (λ (l : List Entry). l ++ take k.committed k.relay.kept) (sym g.list) ∙ ap (λ (l : List Entry). b.list ++ l) (sym (front_same k.committed k.relay.ready k.relay.kept b.kept i.within g.front))

    wide : LeavesNow (bodies_in k.rule k.relay.list) (bodies_in k.rule b.out) k.file
    wide = now_wider (bodies_in k.rule k.relay.list) (bodies_in k.rule k.relay.list) (bodies_in k.rule k.relay.out) (bodies_in k.rule b.out) k.file
        (begins_itself (bodies_in k.rule k.relay.list)) (bodies_prefix k.rule k.relay.out b.out g.goes_on) i.safe

pub same_on : (a b c : Relaying) → Same a b → Same b c → Same a c
same_on a b c s t = record {
  known = t.known ∙ s.known;
  made = t.made ∙ s.made;
  origin = t.origin ∙ s.origin;
  inbox = t.inbox ∙ s.inbox;
  closed = t.closed ∙ s.closed;
  room = t.room ∙ s.room;
}

-- one try to make an entry ready
pub one_ready : (k : Keeping) (b : Relaying) (bodies : List (Vec ℕ Global)) (last : Readiness) → IsKeeper k bodies → Same k.relay b → Readies k.relay last b
    → IsKeeper (record k { relay = b }) bodies × IsStep k (record k { relay = b })
one_ready k b bodies last i same readied =
    (keeper_on k b bodies i (grows k.relay b last i.out i.ready readied), inl (inl (record { readiness = last; same = same; readied = readied; left = refl })))

-- so many entries became ready, one after another
pub go_ready : (n : ℕ) (k : Keeping) (b : Relaying) (bodies : List (Vec ℕ Global)) → IsKeeper k bodies → GoReady n k.relay b → IsKeeper (record k { relay = b }) bodies × AreSteps n k (record k { relay = b }) × Same k.relay b
go_ready zero k b bodies i went = (
  subst (λ (r : Relaying). IsKeeper (record k { relay = r }) bodies) (sym went) i,
  ap (λ (r : Relaying). record k { relay = r }) went,
  subst (Same k.relay) (sym went) (record { known = refl; made = refl; origin = refl; inbox = refl; closed = refl; room = refl }),
)
go_ready (suc n) k b bodies i went =
    let before = go_ready n k went.0 bodies i went.1 in
    let more = one_ready (record k { relay = went.0 }) b bodies Ready before.0 went.2 went.3 in
    (more.0, (record k { relay = went.0 }, before.1, more.1, more.0.safe), same_on k.relay went.0 b before.2 went.2)

-- and one more try
pub filled : (k : Keeping) (b : Relaying) (bodies : List (Vec ℕ Global)) (last : Readiness) → IsKeeper k bodies → Fills k.relay last b
    → IsKeeper (record k { relay = b }) bodies × ((steps : ℕ) × AreSteps steps k (record k { relay = b })) × Same k.relay b
filled k b bodies last i fills =
    let before = go_ready fills.entries k fills.mid bodies i fills.went in
    let more = one_ready (record k { relay = fills.mid }) b bodies last before.0 fills.same fills.ends in
    (more.0, (suc fills.entries, (record k { relay = fills.mid }, before.1, more.1, more.0.safe)), same_on k.relay fills.mid b before.2 fills.same)
