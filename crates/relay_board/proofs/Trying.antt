-- The relay's own plane, and what is tried on it.
use Rattle.std.proofs.Common.{◌≡◌, ℕ, ◌+◌, List, [], ◌∷◌, ◌++◌, take, Some, slice_get, ap, ◌∙◌, append_assoc}
use Rattle.stamped_writes.specs.Write.{Writes, AreSame, joined}
use Rattle.edit_stamps.specs.Edit.{greatest}
use Rattle.board.specs.declared.entry.Entry.{Entry}
use Rattle.board.specs.Entries.{edits_of}
use Rattle.board.proofs.Lists.{greatest_more}
use Rattle.relay_board.proofs.Keeping.{take_next}

-- once the next kept entry is joined in, the map has one more
pub tried_next : (p q : Writes) (n : ℕ) (e : Entry) (kept list : List Entry) → slice_get kept n ≡ Some e → AreSame p (greatest (edits_of (list ++ take n kept))) → AreSame q (joined p (greatest (e.edit ∷ []))) → AreSame q (greatest (edits_of (list ++ take (n + 1) kept)))
tried_next p q n e kept list here was more c =
    let longer : (list ++ take n kept) ++ e ∷ [] ≡ list ++ take (n + 1) kept = append_assoc list (take n kept) (e ∷ []) ∙ ap (λ l. list ++ l) (take_next kept n e here) in
    greatest_more (list ++ take n kept) e p q was more c ∙ ap (λ (l : List Entry). greatest (edits_of l) c) longer

-- a map of some entries is that of entries that are the same
pub tried_same : (p : Writes) (xs ys : List Entry) → xs ≡ ys → AreSame p (greatest (edits_of xs)) → AreSame p (greatest (edits_of ys))
tried_same p xs ys same was c = was c ∙ ap (λ (l : List Entry). greatest (edits_of l) c) same
