-- A journal keeps each edit once, and its edits' writes are in the map, as a replica draws and takes.
use Rattle.std.proofs.Common.{◌≡◌, ℕ, ◌<◌, Bool, true, false, if◌then◌else◌, List, [], ◌∷◌, ◌++◌, ◌∙◌, sym, subst, arith, inl, inr}
use Rattle.std.specs.Prelude.{IsTrue}
use Rattle.std.specs.List.{Contains, IsDistinct, list_any}
use Rattle.std.proofs.lemmas.Bool.{cases_Bool}
use Rattle.std.proofs.lemmas.List.Elements.{Contains-append_cases, Contains-push_cases}
use Rattle.std.proofs.lemmas.Map.Keys.{IsDistinct-push}
use Rattle.generations_rule.specs.Rule.{GenerationsRule}
use Rattle.edit_stamps.specs.Edit.{HaveStatesBelow, has_states_below, PlaneEdit, IsEdit, greatest, is_edit, writes_of}
use Rattle.edit_stamps.specs.PlaneMap.{IsGreatestStamp}
use Rattle.stamped_tree.specs.Plane.{map_of}
use Rattle.stamped_writes.specs.Write.{at_most, Writes, AreSame, IsBelow, joined}
use Rattle.edit_stamps.proofs.WriteLaws.{is_least_upper_bound, is_total}
use Rattle.edit_stamps.proofs.ClockLaws.{stamp_in}
use Rattle.edit_journal.specs.Journal.{noted}
use Rattle.edit_journal.proofs.NotedLaws.{contains_told, noted_distinct, noted_members, noted_new}
use Rattle.edit_stamps.specs.OneEdit.{edits_equiv}
use Rattle.delta_exchange.specs.declared.message.Content.{Content}
use Rattle.delta_exchange.specs.declared.message.Content.TheVariants as contents
use Rattle.delta_exchange.specs.Message.{edits_in, writes_in, IsBelowStates}
use Rattle.replica_core.specs.Replica.{IsJournalOf}
use Rattle.replica_core.proofs.HeadlineLaws.{greatest_of}

-- ---- maps that grow

whole_grows : (p q added : Writes) → AreSame q (joined p added) → IsBelow p q
whole_grows p q added whole c = subst (λ w. IsTrue (at_most (p c) w)) (sym (whole c)) (is_least_upper_bound.left p added c)

-- a journal of a map is one of each map above it
grown : (p q : Writes) (journal : List PlaneEdit) → IsBelow p q → IsJournalOf p journal → IsJournalOf q journal
grown p q journal up is = record {
  once = is.once;
  edits = is.edits;
  held = λ e has c. is_total.transitive (writes_of e c) (p c) (q c) (is.held e has c) (up c);
}

-- so is it one of the same map
pub kept : (p q : Writes) (journal journal_now : List PlaneEdit) → AreSame q p → journal_now ≡ journal → IsJournalOf p journal → IsJournalOf q journal_now
kept p q journal journal_now same unnoted is =
    subst (IsJournalOf q) (sym unnoted) (grown p q journal (λ c. subst (λ w. IsTrue (at_most (p c) w)) (sym (same c)) (is_total.reflexive (p c))) is)

-- ---- draws

-- an edit whose stamp is above the greatest of the map is in no journal of it
is_new : (n : ℕ) (p : Writes) (journal : List PlaneEdit) (e : PlaneEdit) → IsGreatestStamp n p → n < e.stamp → IsJournalOf p journal → list_any (is_edit e) journal ≡ false
is_new n p journal e greatest above is = elim (cases_Bool (list_any (is_edit e) journal)) [
  | inr absent ↦ absent
  | inl present ↦
      absurd (
      let has : Contains journal e = contains_told journal e present in
      omega (arith, above, stamp_in e p n (is.edits e has) (is.held e has) greatest)
      )
]

-- so it is noted behind all others
pub drawn_behind : (n : ℕ) (p : Writes) (journal journal_now : List PlaneEdit) (e : PlaneEdit) → IsGreatestStamp n p → n < e.stamp → IsJournalOf p journal
    → journal_now ≡ noted journal (e ∷ []) → journal_now ≡ journal ++ e ∷ []
drawn_behind n p journal journal_now e greatest above is now = now ∙ noted_new journal e (is_new n p journal e greatest above is)

pub drawn_journal : (n : ℕ) (p q : Writes) (journal : List PlaneEdit) (e : PlaneEdit) → IsGreatestStamp n p → n < e.stamp → IsEdit e → AreSame q (joined p (writes_of e))
    → IsJournalOf p journal → IsJournalOf q (journal ++ e ∷ [])
drawn_journal n p q journal e greatest above edit whole is = record {
  once = IsDistinct-push edits_equiv journal e is.once (is_new n p journal e greatest above is);
  edits = λ d has. elim (Contains-push_cases journal e d has) [ inl old ↦ is.edits d old | inr new ↦ subst IsEdit new edit ];
  held = λ d has. elim (Contains-push_cases journal e d has) [
    | inl old ↦ (grown p q journal (whole_grows p q (writes_of e) whole) is).held d old
    | inr new ↦ subst (λ x. IsBelow (writes_of x) q) new (λ c. subst (λ w. IsTrue (at_most (writes_of e c) w)) (sym (whole c)) (is_least_upper_bound.right p (writes_of e) c))
  ];
}

-- a journal of no edit
pub no_journal : (p : Writes) → IsJournalOf p []
unfolding IsDistinct
no_journal p = record { once = tt; edits = λ e has. absurd (none e has); held = λ e has. absurd (none e has) } where
  none : (e : PlaneEdit) → Contains [] e → ⊥
  none e has = omega (arith, has.1)

-- ---- messages

-- what is below the states of one rule is below those of the same rule
pub below_same : (r s : GenerationsRule) (m n : Content) → r ≡ s → m ≡ n → IsBelowStates s.states n → IsBelowStates r.states m
below_same r s m n rule content below = subst (λ x. IsBelowStates x.states m) (sym rule) (subst (λ x. IsBelowStates s.states x) (sym content) below)

noted_journal : (p q : Writes) (journal edits : List PlaneEdit) → ((e : PlaneEdit) → Contains edits e → IsEdit e) → AreSame q (joined p (greatest edits))
    → IsJournalOf p journal → IsJournalOf q (noted journal edits)
noted_journal p q journal edits are whole is = record {
  once = noted_distinct journal edits is.once;
  edits = λ d has. elim (Contains-append_cases journal edits d ((noted_members journal edits d).0 has)) [ inl old ↦ is.edits d old | inr new ↦ are d new ];
  held = λ d has. elim (Contains-append_cases journal edits d ((noted_members journal edits d).0 has)) [
    | inl old ↦ (grown p q journal (whole_grows p q (greatest edits) whole) is).held d old
    | inr new ↦ λ c. subst (λ w. IsTrue (at_most (writes_of d c) w)) (sym (whole c))
        (is_total.transitive (writes_of d c) (greatest edits c) (joined p (greatest edits) c) ((greatest_of edits c).above d new) (is_least_upper_bound.right p (greatest edits) c))
  ];
}

pub taken_journal : (p q : Writes) (content : Content) (journal : List PlaneEdit) → ((e : PlaneEdit) → Contains (edits_in content) e → IsEdit e) → AreSame q (joined p (writes_in content))
    → IsJournalOf p journal → IsJournalOf q (noted journal (edits_in content))
taken_journal p q (contents.Edits edits) journal are whole = noted_journal p q journal edits are whole
taken_journal p q (contents.State plane) journal are whole = grown p q journal (whole_grows p q (map_of plane) whole)

-- ---- states

below_appended : (n : ℕ) (xs ys : List PlaneEdit) → HaveStatesBelow n xs → HaveStatesBelow n ys → HaveStatesBelow n (xs ++ ys)
below_appended n [] ys h k = k
below_appended n (e ∷ xs) ys h k = (h.0, below_appended n xs ys h.1 k)

-- a journal with one edit more
pub below_drawn : (n : ℕ) (journal : List PlaneEdit) (e : PlaneEdit) → HaveStatesBelow n journal → IsTrue (has_states_below n e) → HaveStatesBelow n (journal ++ e ∷ [])
below_drawn n journal e h below = below_appended n journal (e ∷ []) h (below, tt)

below_kept : (n : ℕ) (is_there : Bool) (journal : List PlaneEdit) (e : PlaneEdit) → HaveStatesBelow n journal → IsTrue (has_states_below n e)
    → HaveStatesBelow n (if is_there then journal else journal ++ e ∷ [])
below_kept n true journal e h below = h
below_kept n false journal e h below = below_drawn n journal e h below

below_noted : (n : ℕ) (journal edits : List PlaneEdit) → HaveStatesBelow n journal → HaveStatesBelow n edits → HaveStatesBelow n (noted journal edits)
below_noted n journal [] h k = h
below_noted n journal (e ∷ edits) h k = below_noted n (if list_any (is_edit e) journal then journal else journal ++ e ∷ []) edits (below_kept n (list_any (is_edit e) journal) journal e h k.0) k.1

-- a journal with what a message brings
pub below_taken : (n : ℕ) (journal : List PlaneEdit) (content : Content) → HaveStatesBelow n journal → IsBelowStates n content → HaveStatesBelow n (noted journal (edits_in content))
below_taken n journal (contents.Edits edits) h k = below_noted n journal edits h k
below_taken n journal (contents.State plane) h k = h
