-- Answers to polls.
use Rattle.std.proofs.Common.{◌≡◌, ℕ, List, [], ◌∷◌, ◌++◌, Option, Some, None, Ok, Err, refl, inl, inr, sym, ap, subst, ◌∙◌, append-nil}
use Rattle.std.specs.Prelude.{◌⊎◌}
use Rattle.generations_rule.specs.Rule.{GenerationsRule}
use Rattle.edit_stamps.specs.Edit.{PlaneEdit}
use Rattle.stamped_tree.specs.Plane.{StampedPlane}
use Rattle.session_hub.specs.declared.fault.HubFault.{HubFault}
use Rattle.poll_news.specs.declared.news.News.TheVariants.{Edits, Whole}
use Rattle.session_hub.specs.HubCall.{HubCall, Polls}
use Rattle.session_hub.specs.HubFault.{hub_fault_number}
use Rattle.session_hub.specs.Request.{Poll}
use Rattle.session_hub.specs.Replies.{Kept, RepliesOrWants, IsKeptReply, IsWholeReply, edits_left, edits_reply, nothing_kept, refusal, with_plane}

abbrev pub the_kept : List PlaneEdit → Option StampedPlane → Kept
the_kept edits plane = record { edits = edits; plane = plane }

-- what is kept, by its parts
pub same_kept : (a b : List PlaneEdit) (p q : Option StampedPlane) → a ≡ b → p ≡ q → the_kept a p ≡ the_kept b q
same_kept a b p q e f = cc

pub settled : (edits late old : List PlaneEdit) → late ≡ [] → edits ++ late ≡ old → edits ≡ old
settled edits late old none all = sym (append-nil edits) ∙ ap (λ l. edits ++ l) (sym none) ∙ all

pub none_kept : (edits late : List PlaneEdit) → edits ≡ [] → late ≡ [] → edits ++ late ≡ []
none_kept edits late none no_late = rw (none, no_late) refl

no_edits : (edits late : List PlaneEdit) → edits ++ late ≡ [] → (edits ≡ []) × (late ≡ [])
no_edits [] late none = (refl, none)
no_edits (e ∷ edits) late none = absurd cc

-- where nothing is kept there are no edits and no plane
pub nothing_kept_has : (edits late : List PlaneEdit) (plane : Option StampedPlane) → the_kept (edits ++ late) plane ≡ nothing_kept → (edits ≡ []) × (late ≡ []) × (plane ≡ None)
nothing_kept_has edits late plane none = let both = no_edits edits late (ap (λ (k : Kept). k.edits) none) in (both.0, both.1, ap (λ (k : Kept). k.plane) none)

module _ (r : GenerationsRule) (seat : ℕ) (kept : Kept) (out : List (List ℕ)) (left : Kept) where
  -- a kept plane, without a call
  pub kept_whole : (p : StampedPlane) → kept.plane ≡ Some p → (IsWholeReply r p out × (left ≡ nothing_kept)) ⊎ ((out ≡ refusal 255) × (left ≡ record { edits = kept.edits; plane = Some p })) → RepliesOrWants r seat kept Poll None out left
  kept_whole p at (inl is) = let F : Option StampedPlane → Type 0 = λ o. IsKeptReply r kept o None out left in inl (subst F (sym at) is)
  kept_whole p at (inr want) = let of : Option StampedPlane → Kept = λ o. record { edits = kept.edits; plane = o } in inr (want.0, want.1 ∙ ap of (sym at))

  module _ (none : kept.plane ≡ None) where
    replied : (call : HubCall) → IsKeptReply r kept None (Some call) out left → IsKeptReply r kept kept.plane (Some call) out left
    replied call is = let F : Option StampedPlane → Type 0 = λ o. IsKeptReply r kept o (Some call) out left in subst F (sym none) is

    pub refused_poll : (fault : HubFault) (n : ℕ) → n ≡ hub_fault_number fault → out ≡ refusal n → left ≡ kept → RepliesOrWants r seat kept Poll (Some (Polls (Err fault))) out left
    refused_poll fault n number is same = inl (replied (Polls (Err fault)) (rw number at is, same))

    pub polled_edits : (edits all : List PlaneEdit) → all ≡ kept.edits ++ edits → ((out ≡ edits_reply r all) × (left ≡ edits_left all)) ⊎ ((out ≡ refusal 255) × (left ≡ record { edits = all; plane = None }))
        → RepliesOrWants r seat kept Poll (Some (Polls (Ok (Edits edits)))) out left
    polled_edits edits all same (inl is) = inl (replied (Polls (Ok (Edits edits))) (is.0 ∙ ap (edits_reply r) same, is.1 ∙ ap edits_left same))
    polled_edits edits all same (inr want) = let at : List PlaneEdit → Kept = λ l. record { edits = l; plane = None } in inr (want.0, (none, want.1 ∙ ap at same))

    pub polled_whole : (p : StampedPlane) (count : ℕ) → (IsWholeReply r p out × (left ≡ nothing_kept)) ⊎ ((out ≡ refusal 255) × (left ≡ with_plane p))
        → RepliesOrWants r seat kept Poll (Some (Polls (Ok (Whole p count)))) out left
    polled_whole p count (inl is) = inl (replied (Polls (Ok (Whole p count))) is)
    polled_whole p count (inr want) = inr (want.0, (none, want.1))
