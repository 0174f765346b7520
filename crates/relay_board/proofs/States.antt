-- States of the edits of a list, of their plane, and of what a poll hands out.
use Rattle.std.proofs.Common.{◌≡◌, ℕ, ◌<◌, true, List, [], ◌∷◌, ◌++◌, take, sym, subst}
use Rattle.std.proofs.lemmas.Bool.{and_parts}
use Rattle.stamped_writes.specs.Write.{Writes, AreSame}
use Rattle.edit_stamps.specs.Edit.{PlaneEdit, HaveStatesBelow, greatest, has_states_below}
use Rattle.edit_stamps.specs.PlaneMap.{HasStatesBelow}
use Rattle.edit_stamps.proofs.StateLaws.{greatest_below, states_kept}
use Rattle.board.specs.declared.entry.Entry.{Entry}
use Rattle.board.specs.Entries.{edits_of, all_below}
use Rattle.board.specs.Handing.{IsNews}
use Rattle.poll_news.specs.declared.news.News.{News}
use Rattle.poll_news.specs.declared.news.News.TheVariants.{Edits, Whole}
use Rattle.stamped_tree.specs.Plane.{map_of}
use Rattle.poll_news.specs.Below.{IsNewsBelow}

-- states of the edits of some entries
pub have_below : (n : ℕ) (es : List Entry) → all_below n es ≡ true → HaveStatesBelow n (edits_of es)
have_below n [] all = tt
have_below n (e ∷ es) all =
    let parts = and_parts (has_states_below n e.edit) (all_below n es) all in
    (parts.0, have_below n es parts.1)

-- the states of a plane of a list
pub plane_below : (n : ℕ) (es : List Entry) (p : Writes) → 0 < n → all_below n es ≡ true → AreSame p (greatest (edits_of es)) → HasStatesBelow n p
plane_below n es p some all same = states_kept n (greatest (edits_of es)) p same (greatest_below n (edits_of es) some (have_below n es all))

-- states of the edits that follow others
have_end : (n : ℕ) (xs ys : List PlaneEdit) → HaveStatesBelow n (xs ++ ys) → HaveStatesBelow n ys
have_end n [] ys all = all
have_end n (x ∷ xs) ys all = have_end n xs ys all.1

-- the states of what a poll hands out
pub news_below : (n : ℕ) (es : List Entry) (handed : ℕ) (news : News) → 0 < n → all_below n es ≡ true → IsNews (edits_of es) handed news → IsNewsBelow n news
news_below n es handed (Edits edits) some all is = have_end n (take handed (edits_of es)) edits (subst (HaveStatesBelow n) (sym is.1) (have_below n es all))
news_below n es handed (Whole plane count) some all is = plane_below n es (map_of plane) some all is.1
