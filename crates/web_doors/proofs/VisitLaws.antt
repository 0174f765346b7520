-- What became of who was heard.
use Rattle.std.proofs.Common.{◌≡◌, ℕ, List, Option, Some, None, Result, Ok, Err, refl, sym, subst, inl, inr}
use Rattle.std.specs.Io.KnownBytes.{Appends}
use Rattle.devices.specs.Sink.{IsPush, KnownSink}
use Rattle.web_doors.specs.declared.front.Front.{Front}
use Rattle.web_doors.specs.declared.visited.Visited.{Visited}
use Rattle.web_doors.specs.declared.visited.Visited.TheVariants.{Told}
use Rattle.web_doors.specs.Visits.{ComesTo, IsFailed, IsTold, IsUntold, IsVisit, answer_of, left_by}
use Rattle.web_requests.proofs.RouteLaws.{let_in}
use Rattle.web_requests.specs.Letting.{IsLetIn}
use Rattle.web_streams.specs.Head.{Hears}
use Rattle.web_streams.specs.declared.head.HeardHead.{HeardHead}

-- a push that was done, and one that failed
pub told_by : {A E : Type 0} (old new : KnownSink) (pushed : Result A E) (bytes text : List ℕ) (done : A) → IsPush old new pushed bytes → pushed ≡ Ok done → bytes ≡ text → IsTold old new text
told_by old new (Ok x) bytes text done push is same = record { added = subst (λ (t : List ℕ). Appends old.held new.held t) same push.added; one = push.pushes; done = push.failures }
told_by old new (Err e) bytes text done push is same = absurd (let no : Err e ≡ Ok done = is in cc)

pub failed_by : {A E : Type 0} (old new : KnownSink) (pushed : Result A E) (bytes : List ℕ) (e : E) → IsPush old new pushed bytes → pushed ≡ Err e → IsFailed old new
failed_by old new (Ok x) bytes e push is = absurd (let no : Ok x ≡ Err e = is in cc)
failed_by old new (Err f) bytes e push is = record { one = push.pushes; failed = push.failures }

module _ (before after : Option (List ℕ)) (front : Front) (old new : KnownSink) (heard : HeardHead) (hears : Hears before after front.house heard) where
  -- what was heard lets in whom it should
  heard_let_in : IsLetIn hears.came front.house heard.visit
  heard_let_in = elim hears.answer [
    | inl clear ↦ let_in hears.came front.house heard.visit clear.wanted
    | inr long ↦ subst (IsLetIn hears.came front.house) (sym long.refused) tt
  ]

  visit_of : (visited : Visited) → ComesTo heard old new visited (answer_of front.page.now front.policy.now heard.visit) → IsVisit before after front old new visited
  visit_of visited comes = record { heard = heard; hears = hears; let_in = heard_let_in; answered = comes }

  -- nothing was pushed
  pub visit_unanswered : (visited : Visited) → None ≡ answer_of front.page.now front.policy.now heard.visit → visited ≡ left_by heard.visit heard → new ≡ old → IsVisit before after front old new visited
  visit_unanswered visited none left same = visit_of visited (subst (ComesTo heard old new visited) none (left, same))

  -- an answer was pushed
  pub visit_told : (text : List ℕ) → Some text ≡ answer_of front.page.now front.policy.now heard.visit → IsTold old new text → IsVisit before after front old new Told
  visit_told text some told = visit_of Told (subst (ComesTo heard old new Told) some (refl, told))

  pub visit_untold : (text : List ℕ) → Some text ≡ answer_of front.page.now front.policy.now heard.visit → IsFailed old new → IsUntold before after front old new
  visit_untold text some failed = record { heard = heard; hears = hears; text = text; answer = sym some; failed = failed }
