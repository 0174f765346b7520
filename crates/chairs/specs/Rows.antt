-- Worked values. A page with this key left its chair as the third, 5 seconds behind the start of the clock.
use Rattle.std.specs.Prelude.{◌≡◌, ℕ, [], ◌∷◌, List, Some, None, false, refl, replicate, true}
use Rattle.chairs.specs.declared.chair.Chair.TheVariants.{Fresh, Taken, Left}
use Rattle.chairs.specs.declared.leaving.Leaving.{Leaving}
use Rattle.chairs.specs.declared.page.PagePlace.TheVariants.{Free, Own}
use Rattle.chairs.specs.Turns.{is_kept, leave_number, once_left, turn_of}
use Rattle.chairs.specs.Pages.{chair_of, key_of}

abbrev key : List ℕ
key = replicate 32 97

abbrev by_page : Leaving
by_page = record { number = 3; time = 5000; page = Some key }

abbrev by_connection : Leaving
by_connection = record { number = 3; time = 5000; page = None }

fresh_first : turn_of 0 Fresh ≡ Some 0
fresh_first = refl

taken_never : turn_of 0 (Taken None) ≡ None
taken_never = refl

-- a page's chair is kept for just less than 10 seconds
kept_at_once : is_kept 5000 by_page ≡ true
kept_at_once = refl

kept_still : is_kept 14999 by_page ≡ true
kept_still = refl

kept_no_more : is_kept 15000 by_page ≡ false
kept_no_more = refl

-- the clock was set back
kept_before : is_kept 4000 by_page ≡ true
kept_before = refl

connection_not_kept : is_kept 5000 by_connection ≡ false
connection_not_kept = refl

no_turn_yet : turn_of 14999 (Left by_page) ≡ None
no_turn_yet = refl

left_later : turn_of 15000 (Left by_page) ≡ Some 3
left_later = refl

left_at_once : turn_of 5000 (Left by_connection) ≡ Some 3
left_at_once = refl

-- its key stays there
left_with_key : key_of (Left by_page) ≡ Some key
left_with_key = refl

sits_with_key : key_of (Taken (Some key)) ≡ Some key
sits_with_key = refl

connection_without_key : key_of (Taken None) ≡ None
connection_without_key = refl

left_third : once_left 5000 (record { chairs = Fresh ∷ Taken (Some key) ∷ []; leavings = 2 }) 1 (Some key) ≡ record { chairs = Fresh ∷ Left by_page ∷ []; leavings = 3 }
left_third = refl

free_place : chair_of (Free 4) ≡ 4
free_place = refl

own_place : chair_of (Own 4) ≡ 4
own_place = refl

fourth : leave_number 3 ≡ 4
fourth = refl

stays : leave_number 18446744073709551615 ≡ 18446744073709551615
stays = refl
