-- Requests and replies, worked out.
use Rattle.std.specs.Prelude.{◌≡◌, [], ◌∷◌, true, false, refl}
use Rattle.std.specs.Fmt.{digits}
use Rattle.generations_rule.specs.Rule.{GenerationsRule}
use Rattle.generations_rule.specs.RuleText.{text_of_set}
use Rattle.session_hub.specs.Request.{Hello, Push, Export, Many, Await, Pieces, Faulty, request_of}
use Rattle.session_hub.specs.Replies.{hello_body, edits_frames, pieces_frames, whole_frames}

hello : request_of (1 ∷ []) ≡ Hello
hello = refl

hello_with_more : request_of (1 ∷ 0 ∷ []) ≡ Faulty
hello_with_more = refl

no_bytes : request_of [] ≡ Faulty
no_bytes = refl

unknown_kind : request_of (9 ∷ []) ≡ Faulty
unknown_kind = refl

push_of_nothing : request_of (2 ∷ []) ≡ Push []
push_of_nothing = refl

export_at_258 : request_of (5 ∷ 0 ∷ 0 ∷ 1 ∷ 2 ∷ []) ≡ Export 258
export_at_258 = refl

export_cut : request_of (5 ∷ 0 ∷ 0 ∷ 1 ∷ []) ≡ Faulty
export_cut = refl

many : request_of (7 ∷ 0 ∷ 3 ∷ 0 ∷ 0 ∷ 0 ∷ 1 ∷ 32 ∷ 0 ∷ 0 ∷ 1 ∷ 0 ∷ 0 ∷ 0 ∷ 0 ∷ []) ≡ Many (1 ∷ 536870913 ∷ 0 ∷ [])
many = refl

many_of_none : request_of (7 ∷ 0 ∷ 0 ∷ []) ≡ Many []
many_of_none = refl

many_cut : request_of (7 ∷ 0 ∷ 1 ∷ 0 ∷ 0 ∷ 0 ∷ []) ≡ Faulty
many_cut = refl

many_with_more : request_of (7 ∷ 0 ∷ 0 ∷ 0 ∷ []) ≡ Faulty
many_with_more = refl

await_a_second : request_of (8 ∷ 0 ∷ 0 ∷ 3 ∷ 232 ∷ []) ≡ Await 1000
await_a_second = refl

await_a_minute : request_of (8 ∷ 0 ∷ 0 ∷ 234 ∷ 96 ∷ []) ≡ Await 60_000
await_a_minute = refl

await_longer : request_of (8 ∷ 0 ∷ 0 ∷ 234 ∷ 97 ∷ []) ≡ Faulty
await_longer = refl

await_cut : request_of (8 ∷ 0 ∷ 0 ∷ 3 ∷ []) ≡ Faulty
await_cut = refl

pieces : request_of (11 ∷ []) ≡ Pieces
pieces = refl

pieces_with_more : request_of (11 ∷ 0 ∷ []) ≡ Faulty
pieces_with_more = refl

-- Brian's Brain, at seat 1
brain : GenerationsRule
brain = record {
  survival = false ∷ false ∷ false ∷ false ∷ false ∷ false ∷ false ∷ false ∷ false ∷ [];
  birth = false ∷ false ∷ true ∷ false ∷ false ∷ false ∷ false ∷ false ∷ false ∷ [];
  states = 3;
}

hello_of_brain : hello_body brain 1 ≡ 0 ∷ 0 ∷ 1 ∷ 4 ∷ 47 ∷ 50 ∷ 47 ∷ 51 ∷ []
unfolding brain digits text_of_set
hello_of_brain = refl

no_edits : edits_frames brain [] ≡ (0 ∷ 0 ∷ 0 ∷ 0 ∷ 0 ∷ []) ∷ []
no_edits = refl

whole_of_nothing : whole_frames [] ≡ (0 ∷ 255 ∷ 255 ∷ 255 ∷ 255 ∷ []) ∷ [] ∷ []
whole_of_nothing = refl

pieces_of_two_bytes : pieces_frames 258 ((1 ∷ 2 ∷ []) ∷ []) ≡ (0 ∷ 0 ∷ 0 ∷ 0 ∷ 0 ∷ 0 ∷ 0 ∷ 1 ∷ 2 ∷ 0 ∷ 0 ∷ 0 ∷ 1 ∷ []) ∷ (1 ∷ 2 ∷ []) ∷ []
pieces_of_two_bytes = refl
