-- What a visitor of a web port is answered.
use Rattle.std.specs.Prelude.{◌≡◌, ℕ, List, Option, Some, None}
use Rattle.std.specs.Io.KnownBytes.{Appends}
use Rattle.devices.specs.Count.{one_more}
use Rattle.devices.specs.Sink.{KnownSink}
use Rattle.web_doors.specs.declared.fault.VisitFault.{VisitFault}
use Rattle.web_doors.specs.declared.fault.VisitFault.TheVariants.{Memory, Unheard, Untold}
use Rattle.web_doors.specs.declared.front.Front.{Front}
use Rattle.web_doors.specs.declared.visited.Visited.{Visited}
use Rattle.web_doors.specs.declared.visited.Visited.TheVariants.{Gone, Told, Seat}
use Rattle.web_requests.specs.declared.visit.Visit.{Visit}
use Rattle.web_requests.specs.declared.visit.Visit.TheVariants.{Waits, Page, Board, Refused}
use Rattle.web_requests.specs.Letting.{IsLetIn}
use Rattle.web_requests.specs.Texts.{page_text, refusal_text}
use Rattle.web_streams.specs.declared.head.HeardHead.{HeardHead}
use Rattle.web_streams.specs.Head.{Hears}

-- ---- answers

-- the text that answers what is asked for; where nothing is asked for there is none, and who asks for a seat is answered at
-- the seat
abbrev pub answer_of : (page policy : List ℕ) → Visit → Option (List ℕ)
answer_of page policy Waits = None
answer_of page policy Page = Some (page_text page policy)
answer_of page policy (Board request) = None
answer_of page policy (Refused refusal) = Some (refusal_text refusal)

-- just one push of a text was made, and done
pub record IsTold (old new : KnownSink) (text : List ℕ) : Type 0 where
  pub added : Appends old.held new.held text
  pub one : new.pushes ≡ one_more old.pushes
  pub done : new.failures ≡ old.failures

-- just one push was made, and failed
pub record IsFailed (old new : KnownSink) : Type 0 where
  pub one : new.pushes ≡ one_more old.pushes
  pub failed : new.failures ≡ one_more old.failures

-- why a text was not told: for want of memory, and then nothing was pushed; or the push failed
abbrev pub IsTellFault : KnownSink → KnownSink → VisitFault → Type 0
IsTellFault old new Memory = new ≡ old
IsTellFault old new Unheard = ⊥
IsTellFault old new Untold = IsFailed old new

-- ---- visits

-- what becomes of who is not answered here: a seat is handed on as it was asked for, with what stood behind its head
abbrev pub left_by : Visit → HeardHead → Visited
left_by Waits heard = Gone
left_by Page heard = Gone
left_by (Board request) heard = Seat request heard.behind
left_by (Refused refusal) heard = Gone

-- what became of who was heard, by the text that answers it: nothing was pushed, or just that text
abbrev pub ComesTo : HeardHead → KnownSink → KnownSink → Visited → Option (List ℕ) → Type 0
ComesTo heard old new visited None = (visited ≡ left_by heard.visit heard) × (new ≡ old)
ComesTo heard old new visited (Some text) = (visited ≡ Told) × IsTold old new text

module _ (before after : Option (List ℕ)) (front : Front) (old new : KnownSink) where
  -- somebody was heard and answered; the page and a seat are given to who may have them alone
  pub record IsVisit (visited : Visited) : Type 0 where
    pub heard : HeardHead
    pub hears : Hears before after front.house heard
    pub let_in : IsLetIn hears.came front.house heard.visit
    pub answered : ComesTo heard old new visited (answer_of front.page.now front.policy.now heard.visit)

  -- somebody was heard, and the push of the answer failed
  pub record IsUntold : Type 0 where
    pub heard : HeardHead
    pub hears : Hears before after front.house heard
    pub text : List ℕ
    pub answer : answer_of front.page.now front.policy.now heard.visit ≡ Some text
    pub failed : IsFailed old new

  -- why a visitor was not answered: nothing was pushed, but where the push of the answer failed
  abbrev pub IsVisitFault : VisitFault → Type 0
  IsVisitFault Memory = new ≡ old
  IsVisitFault Unheard = new ≡ old
  IsVisitFault Untold = IsUntold
