-- What a crash leaves, between a shorter and a longer list.
use Rattle.std.specs.Prelude.{IfSome}
use Rattle.std.proofs.Common.{◌≡◌, ◌≤◌, ℕ, List, [], ◌∷◌, ◌++◌, length, map, take, drop, Option, Some, None, refl, sym, ap, subst, ◌∙◌, append_assoc}
use Rattle.std.proofs.lemmas.List.{append-nil, map-append, take-append-drop}
use mathlib.Core.List.{IsPrefix}
use Rattle.generations_rule.specs.Rule.{GenerationsRule}
use Rattle.board.specs.declared.entry.Entry.{Entry}
use Rattle.board.specs.Entries.{edits_of}
use Rattle.board.proofs.Fronts.{prefix_trans}
use Rattle.edit_stamps.specs.Edit.{PlaneEdit}
use Rattle.document_bodies.specs.Bodies.{edit_body, edit_bodies}
use Rattle.kept_devices.specs.Keep.{KnownKeep}
use Rattle.kept_devices.specs.Standing.{Both, Each, History, Standing, Throughout}
use Rattle.kept_log.specs.Kept.{Always, IsAt, Keeps, Leaves, LeavesNow}
use Rattle.kept_log.proofs.Along.{if_all}
use Rattle.kept_log.proofs.Moments.{leaves_at}
use Rattle.board_keeper.specs.Keeping.{bodies_in}

-- ---- bodies of lists

-- some entries more are their bodies more
pub bodies_more : (r : GenerationsRule) (a b : List Entry) → bodies_in r (a ++ b) ≡ bodies_in r a ++ edit_bodies r (edits_of b)
bodies_more r a b = ap (λ (l : List (List ℕ)). bodies_in r [] ++ l) (ap (map (edit_body r)) (map-append (λ (e : Entry). e.edit) a b) ∙ map-append (edit_body r) (edits_of a) (edits_of b))

pub bodies_prefix : (r : GenerationsRule) (a b : List Entry) → IsPrefix a b → IsPrefix (bodies_in r a) (bodies_in r b)
bodies_prefix r a b p = (edit_bodies r (edits_of p.0), sym (bodies_more r a p.0) ∙ ap (bodies_in r) p.1)

pub begins_with : {A : Type 0} (xs ys : List A) → IsPrefix xs (xs ++ ys)
begins_with xs ys = (ys, refl)

pub begins_itself : {A : Type 0} (xs : List A) → IsPrefix xs xs
begins_itself xs = ([], append-nil xs)

pub first_begin : {A : Type 0} (list : List A) (n : ℕ) (kept : List A) → IsPrefix (list ++ take n kept) (list ++ kept)
first_begin list n kept = (drop n kept, append_assoc list (take n kept) (drop n kept) ∙ ap (λ l. list ++ l) (take-append-drop n kept))

-- ---- what a crash leaves

wider : (less more kept all : List (List ℕ)) (s : Standing) → IsPrefix less kept → IsPrefix all more → Leaves kept all s → Leaves less more s
wider less more kept all s p q leaves left may got rest read =
    let there = leaves left may got rest read in
    (prefix_trans less kept got p there.0, prefix_trans got all more there.1 q)

each_wider : (less more kept all : List (List ℕ)) (ss : List Standing) → IsPrefix less kept → IsPrefix all more → Each (Leaves kept all) ss → Each (Leaves less more) ss
each_wider less more kept all [] p q each = tt
each_wider less more kept all (s ∷ ss) p q each = (wider less more kept all s p q each.0, each_wider less more kept all ss p q each.1)

throughout_wider : (less more kept all : List (List ℕ)) (h k : History) → IsPrefix less kept → IsPrefix all more → Throughout (Leaves kept all) h k → Throughout (Leaves less more) h k
throughout_wider less more kept all h k p q t =
    record { between = t.between; past = t.past; each = each_wider less more kept all t.between p q t.each; now = wider less more kept all k.now p q t.now }

both_wider : (less more kept all : List (List ℕ)) (o p : Option History) → IsPrefix less kept → IsPrefix all more → Both o p (Throughout (Leaves kept all)) → Both o p (Throughout (Leaves less more))
both_wider less more kept all (Some h) (Some k) p q t = throughout_wider less more kept all h k p q t
both_wider less more kept all (Some h) None p q t = t
both_wider less more kept all None (Some k) p q t = t
both_wider less more kept all None None p q t = t

pub always_wider : (less more kept all : List (List ℕ)) (a b : KnownKeep) → IsPrefix less kept → IsPrefix all more → Always (Leaves kept all) a b → Always (Leaves less more) a b
always_wider less more kept all a b p q always = both_wider less more kept all a.held b.held p q always

-- a file that has a list leaves it
pub keeps_leaves : (kept list all : List (List ℕ)) (known : KnownKeep) → IsPrefix kept list → IsPrefix list all → Keeps list known → LeavesNow kept all known
keeps_leaves kept list all known p q keeps =
    if_all (λ h. IsAt list h.now) (λ h. Leaves kept all h.now) known.held (λ h at. wider kept all list list h.now p q (leaves_at list h.now at)) keeps

-- what is bound at each moment is bound in the end
always_end : (kept all : List (List ℕ)) (o p : Option History) → Both o p (Throughout (Leaves kept all)) → IfSome p (λ h. Leaves kept all h.now)
always_end kept all (Some h) (Some k) t = t.now
always_end kept all (Some h) None t = tt
always_end kept all None (Some k) t = absurd t
always_end kept all None None t = tt

pub leaves_end : (kept all : List (List ℕ)) (a b : KnownKeep) → Always (Leaves kept all) a b → LeavesNow kept all b
leaves_end kept all a b always = always_end kept all a.held b.held always

pub now_wider : (less kept all more : List (List ℕ)) (known : KnownKeep) → IsPrefix less kept → IsPrefix all more → LeavesNow kept all known → LeavesNow less more known
now_wider less kept all more known p q leaves = if_all (λ h. Leaves kept all h.now) (λ h. Leaves less more h.now) known.held (λ h l. wider less more kept all h.now p q l) leaves
