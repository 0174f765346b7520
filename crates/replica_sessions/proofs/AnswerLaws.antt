-- Answers with a call of the hub, and without one.
use Rattle.std.proofs.Common.{◌≡◌, ℕ, List, Some, None, Ok, Err, refl, inl, inr, sym, subst}
use Rattle.std.specs.Prelude.{◌⊎◌}
use Rattle.generations_rule.specs.Rule.{GenerationsRule}
use Rattle.edit_stamps.specs.Edit.{PlaneEdit}
use Rattle.pattern_cells.specs.declared.window.Window.{Window}
use Rattle.stamped_tree.specs.Plane.{StampedPlane}
use Rattle.session_hub.specs.declared.fault.HubFault.{HubFault}
use Rattle.session_hub.specs.HubCall.{HubCall, Pushes, Shows}
use Rattle.session_hub.specs.HubFault.{hub_fault_number}
use Rattle.session_hub.specs.Request.{Request, Push, Whole, Export, Cut, Many}
use Rattle.session_hub.specs.Replies.{Kept, RepliesOrWants, IsWanting, IsCutReply, IsPlaneReply, IsExportReply, AreExportReplies, pushed_of, refusal}
use Rattle.replica_sessions.specs.Answer.{IsAnswer}

module _ {H : Type 0} (allows : H → HubCall → H → Type 0) (r : GenerationsRule) (seat : ℕ) (old : H) where
  -- without a call
  pub by_none : (request : Request) (kept left : Kept) (out : List (List ℕ)) → RepliesOrWants r seat kept request None out left → IsAnswer allows r seat request old kept out old left
  by_none request kept left out is = record { call = None; allowed = refl; replied = is }

  module _ (new : H) where
    -- with a call, by what the hub answered
    pub by_call : {A : Type 0} (of : A → HubCall) (answer answer' : A) (request : Request) (kept left : Kept) (out : List (List ℕ)) → answer ≡ answer' → allows old (of answer) new
        → RepliesOrWants r seat kept request (Some (of answer')) out left → IsAnswer allows r seat request old kept out new left
    by_call of answer answer' request kept left out same allowed is = record { call = Some (of answer'); allowed = subst (λ a. allows old (of a) new) same allowed; replied = is }

module _ (r : GenerationsRule) (seat : ℕ) (kept : Kept) where
  pub refused_plane : (fault : HubFault) (n : ℕ) (out : List (List ℕ)) → n ≡ hub_fault_number fault → out ≡ refusal n → RepliesOrWants r seat kept Whole (Some (Shows (Err fault))) out kept
  refused_plane fault n out number is = inl (rw number at is, refl)

  pub refused_export : (g : ℕ) (fault : HubFault) (n : ℕ) (out : List (List ℕ)) → n ≡ hub_fault_number fault → out ≡ refusal n → RepliesOrWants r seat kept (Export g) (Some (Shows (Err fault))) out kept
  refused_export g fault n out number is = inl (rw number at is, refl)

  pub refused_cut : (w : Window) (g : ℕ) (fault : HubFault) (n : ℕ) (out : List (List ℕ)) → n ≡ hub_fault_number fault → out ≡ refusal n → RepliesOrWants r seat kept (Cut w g) (Some (Shows (Err fault))) out kept
  refused_cut w g fault n out number is = inl (rw number at is, refl)

  pub refused_many : (gs : List ℕ) (fault : HubFault) (n : ℕ) (out : List (List ℕ)) → n ≡ hub_fault_number fault → out ≡ refusal n → RepliesOrWants r seat kept (Many gs) (Some (Shows (Err fault))) out kept
  refused_many gs fault n out number is = inl (rw number at is, refl)

  pub refused_push : (text : List ℕ) (e : PlaneEdit) (fault : HubFault) (n : ℕ) (out : List (List ℕ)) → pushed_of r text ≡ Ok e → n ≡ hub_fault_number fault → out ≡ refusal n → RepliesOrWants r seat kept (Push text) (Some (Pushes e (Err fault))) out kept
  refused_push text e fault n out read number is = inl ((read, rw number at is), refl)

  pub done_push : (text : List ℕ) (e : PlaneEdit) (done_ : Unit {0}) (out : List (List ℕ)) → pushed_of r text ≡ Ok e → out ≡ refusal 0 → RepliesOrWants r seat kept (Push text) (Some (Pushes e (Ok done_))) out kept
  done_push text e done_ out read is = inl ((read, is), refl)

  pub unread_push : (text : List ℕ) (n : ℕ) (out : List (List ℕ)) → out ≡ refusal n → IsWanting r (Push text) (refusal n) ⊎ (pushed_of r text ≡ Err n) → RepliesOrWants r seat kept (Push text) None out kept
  unread_push text n out is (inl want) = inr (subst (IsWanting r (Push text)) (sym is) want, refl)
  unread_push text n out is (inr read) = inl ((n, read, is), refl)

  module _ (p : StampedPlane) (out : List (List ℕ)) where
    pub shown_plane : IsPlaneReply r p out → RepliesOrWants r seat kept Whole (Some (Shows (Ok p))) out kept
    shown_plane is = inl (is, refl)

    pub shown_export : (g : ℕ) → IsExportReply r p g out → RepliesOrWants r seat kept (Export g) (Some (Shows (Ok p))) out kept
    shown_export g is = inl (is, refl)

    pub shown_cut : (w : Window) (g : ℕ) → IsCutReply r p w g out → RepliesOrWants r seat kept (Cut w g) (Some (Shows (Ok p))) out kept
    shown_cut w g is = inl (is, refl)

    pub shown_many : (gs : List ℕ) → AreExportReplies r p gs out → RepliesOrWants r seat kept (Many gs) (Some (Shows (Ok p))) out kept
    shown_many gs is = inl (is, refl)

    pub wanting_plane : out ≡ refusal 255 → RepliesOrWants r seat kept Whole (Some (Shows (Ok p))) out kept
    wanting_plane is = inr (is, refl)

    pub wanting_export : (g : ℕ) → out ≡ refusal 255 → RepliesOrWants r seat kept (Export g) (Some (Shows (Ok p))) out kept
    wanting_export g is = inr (is, refl)

    pub wanting_cut : (w : Window) (g : ℕ) → out ≡ refusal 255 → RepliesOrWants r seat kept (Cut w g) (Some (Shows (Ok p))) out kept
    wanting_cut w g is = inr (is, refl)

    pub wanting_many : (gs : List ℕ) → out ≡ refusal 255 → RepliesOrWants r seat kept (Many gs) (Some (Shows (Ok p))) out kept
    wanting_many gs is = inr (is, refl)

  pub wanting_many_none : (gs : List ℕ) (out : List (List ℕ)) → out ≡ refusal 255 → RepliesOrWants r seat kept (Many gs) None out kept
  wanting_many_none gs out is = inr (is, refl)
