-- What the first frame of a reply spells.
use Rattle.std.specs.Prelude.{◌≡◌, ◌≢◌, ℕ, ◌<◌, ◌≤◌, ◌^◌, List, [], ◌∷◌, ◌++◌, length}
use Rattle.std.specs.Result.{IsOk}
use Rattle.std.specs.Int.{w16, w32, w64, to_be_bytes}
use Rattle.generations_rule.specs.Rule.{GenerationsRule, IsRule}
use Rattle.generations_rule.specs.RuleText.{parsed, text_of}
use Rattle.session_hub.specs.Replies.{hello_body, most_edits, whole_mark}
use Rattle.client_protocol.specs.declared.answer.Answer.{Answer}
use Rattle.client_protocol.specs.declared.answer.Answer.TheVariants as answer
use Rattle.client_protocol.specs.declared.greeting.Greeting.{Greeting}
use Rattle.client_protocol.specs.declared.greeting.Greeting.TheVariants as greeting
use Rattle.client_protocol.specs.declared.pieced.Pieced.{Pieced}
use Rattle.client_protocol.specs.declared.pieced.Pieced.TheVariants as pieced
use Rattle.client_protocol.specs.declared.polled.Polled.{Polled}
use Rattle.client_protocol.specs.declared.polled.Polled.TheVariants as polled

-- a refusal is its number alone, which is not 0
abbrev pub IsRefusal : List ℕ → ℕ → Type 0
IsRefusal body number = (0 < number) × (body ≡ number ∷ [])

abbrev pub IsNoRefusal : List ℕ → Type 0
IsNoRefusal body = (number : ℕ) → 0 < number → body ≢ number ∷ []

-- ---- what was done

abbrev pub SpellsAnswer : List ℕ → Answer → Type 0
SpellsAnswer body answer.Done = body ≡ 0 ∷ []
SpellsAnswer body (answer.Refused number) = IsRefusal body number
SpellsAnswer body answer.Faulty = IsNoRefusal body × (body ≢ 0 ∷ [])

-- ---- polls

-- a 0, and a number in four bytes
abbrev pub polled_body : ℕ → List ℕ
polled_body number = 0 ∷ to_be_bytes w32 number

abbrev pub SpellsPolled : List ℕ → Polled → Type 0
SpellsPolled body (polled.Edits number) = (number ≤ most_edits) × (body ≡ polled_body number)
SpellsPolled body polled.Whole = body ≡ polled_body whole_mark
SpellsPolled body (polled.Refused number) = IsRefusal body number
SpellsPolled body polled.Faulty = IsNoRefusal body × ((number : ℕ) → number < 2 ^ 32 → body ≢ polled_body number)

-- the same of the four bytes behind the 0
abbrev pub SpellsCount : List ℕ → Polled → Type 0
SpellsCount bytes (polled.Edits number) = (number ≤ most_edits) × (bytes ≡ to_be_bytes w32 number)
SpellsCount bytes polled.Whole = bytes ≡ to_be_bytes w32 whole_mark
SpellsCount bytes _ = ⊥

-- ---- pieces

-- a 0, of how many edits the plane is, in eight bytes, and how many frames follow, in four
abbrev pub pieced_body : ℕ → ℕ → List ℕ
pieced_body edits frames = 0 ∷ (to_be_bytes w64 edits ++ to_be_bytes w32 frames)

abbrev pub SpellsPieced : List ℕ → Pieced → Type 0
SpellsPieced body (pieced.Pieces edits frames) = body ≡ pieced_body edits frames
SpellsPieced body (pieced.Refused number) = IsRefusal body number
SpellsPieced body pieced.Faulty = IsNoRefusal body × ((edits frames : ℕ) → edits < 2 ^ 64 → frames < 2 ^ 32 → body ≢ pieced_body edits frames)

-- the same of the bytes behind the 0
abbrev pub SpellsCounts : List ℕ → Pieced → Type 0
SpellsCounts bytes (pieced.Pieces edits frames) = bytes ≡ to_be_bytes w64 edits ++ to_be_bytes w32 frames
SpellsCounts bytes _ = ⊥

-- ---- greetings

-- the number of a seat
abbrev pub IsSeat : ℕ → Type 0
IsSeat number = (0 < number) × (number < 2 ^ 16)

abbrev pub SpellsGreeting : List ℕ → Greeting → Type 0
SpellsGreeting body (greeting.Seat number rule) = IsSeat number × IsRule rule × (body ≡ hello_body rule number)
SpellsGreeting body (greeting.Refused number) = IsRefusal body number
SpellsGreeting body greeting.Faulty = IsNoRefusal body × ((rule : GenerationsRule) (number : ℕ) → IsRule rule → IsSeat number → body ≢ hello_body rule number)

-- behind a 0 stand a seat's number and a text that is a rule's, as it is printed or not
pub record OffersSeat (body : List ℕ) : Type 0 where
  pub number : ℕ
  pub text : List ℕ
  pub seat : IsSeat number
  pub rule : IsOk (parsed text)
  pub bytes : body ≡ 0 ∷ (to_be_bytes w16 number ++ length text ∷ text)

-- the same of a seat's number and a rule's text that were read
abbrev pub SpellsSeat : ℕ → List ℕ → Greeting → Type 0
SpellsSeat seat text (greeting.Seat number rule) = (0 < seat) × IsRule rule × (number ≡ seat) × (text ≡ text_of rule)
SpellsSeat seat text (greeting.Refused number) = ⊥
SpellsSeat seat text greeting.Faulty = (rule : GenerationsRule) → IsRule rule → 0 < seat → text ≢ text_of rule
