-- What a reader hears.
use Rattle.std.proofs.Common.{◌≡◌, ℕ, true, false, Bool, List, [], ◌∷◌, ◌++◌, refl, sym, subst, ◌∙◌, ap, append-nil, ◌<◌, length, length-append, arith, Option}
use Rattle.std.specs.Int.{w32, to_be_bytes}
use Rattle.tungstenite.specs.Socket.{Flushed}
use Rattle.std.specs.Bool.{IsTrue, MatchBool}
use Rattle.message_frames.specs.Frames.{frame_text, stream_of}
use Rattle.web_streams.specs.Frame.{rest_of}
use Rattle.web_streams.specs.Messages.{Ends, GoesOn}
use Rattle.web_streams.specs.Hearing.{Comes, Gives, Hears, IsInHand, IsCome, Listens, Pulls, PullsNothing, Stays, told_of}
use Rattle.web_streams.specs.declared.came.Came.{Came}
use Rattle.web_streams.specs.declared.came.Came.TheVariants.{Message, Nothing, End}
use Rattle.web_streams.specs.declared.reader.SocketReader.{SocketReader}
use Rattle.web_streams.proofs.HearingLaws.{goes_on_flushed, goes_on_none, goes_on_more, ends_more}

-- a frame has at least the bytes of its length
some_frame : (body : List ℕ) → 0 < length (frame_text body)
some_frame body = omega (arith, length-append (to_be_bytes w32 (length body)) body)

some_bytes : (bytes : List ℕ) → ¬ (bytes ≡ []) → 0 < length bytes
some_bytes [] some = absurd (some refl)
some_bytes (b ∷ bytes) some = omega arith

nothing_then : (xs ys : List ℕ) → xs ++ ys ≡ [] → (xs ≡ []) × (ys ≡ [])
nothing_then [] ys none = (refl, none)
nothing_then (x ∷ xs) ys none = absurd (cc none)

no_bodies : (bodies : List (List ℕ)) → stream_of bodies ≡ [] → bodies ≡ []
no_bodies [] none = refl
no_bodies (body ∷ bodies) none =
    let first : frame_text body ≡ [] = (nothing_then (frame_text body) (stream_of bodies) none).0 in
    absurd (omega (arith, some_frame body, ap length first))

module _ {S : Type 0} where
  pub listens_on : (old new : SocketReader S) (bodies : List (List ℕ)) → old.is_over ≡ false → new.is_over ≡ false → GoesOn old.socket new.socket bodies → Listens old new bodies
  listens_on old new bodies before after on = record {
    heard = subst (λ over. MatchBool over (Ends old.socket bodies) (GoesOn old.socket new.socket bodies)) (sym after) on;
    stays = λ over. absurd (cc (before, over));
  }

  pub listens_end : (old new : SocketReader S) (bodies : List (List ℕ)) → old.is_over ≡ false → new.is_over ≡ true → Ends old.socket bodies → Listens old new bodies
  listens_end old new bodies before after ends = record {
    heard = subst (λ over. MatchBool over (Ends old.socket bodies) (GoesOn old.socket new.socket bodies)) (sym after) ends;
    stays = λ over. absurd (cc (before, over));
  }

  pub hears_body : (old new : SocketReader S) (body : List ℕ) → old.is_over ≡ false → new.is_over ≡ false → GoesOn old.socket new.socket (body ∷ []) → rest_of new.frame ≡ frame_text body → Hears old new Message
  hears_body old new body before after on in_hand = record { bodies = body ∷ []; listens = listens_on old new (body ∷ []) before after on; in_hand = (body, refl, in_hand) }

  -- ---- one after another

  listens_over : (a b c : SocketReader S) (xs ys : List (List ℕ)) (over : Bool) → b.is_over ≡ over → MatchBool over (Ends a.socket xs) (GoesOn a.socket b.socket xs) → Listens b c ys → MatchBool c.is_over (Ends a.socket (xs ++ ys)) (GoesOn a.socket c.socket (xs ++ ys))
  listens_over a b c xs ys true is ends then =
      let none = then.stays is in
      subst (λ o. MatchBool o (Ends a.socket (xs ++ ys)) (GoesOn a.socket c.socket (xs ++ ys))) (sym none.0) (subst (λ zs. Ends a.socket (xs ++ zs)) (sym none.1) (subst (λ zs. Ends a.socket zs) (sym (append-nil xs)) ends))
  listens_over a b c xs ys false is on then = both c.is_over then.heard
    where
      both : (o : Bool) → MatchBool o (Ends b.socket ys) (GoesOn b.socket c.socket ys) → MatchBool o (Ends a.socket (xs ++ ys)) (GoesOn a.socket c.socket (xs ++ ys))
      both true h = ends_more a.socket b.socket xs ys on h
      both false h = goes_on_more a.socket b.socket c.socket xs ys on h

  pub listens_more : (a b c : SocketReader S) (xs ys : List (List ℕ)) → Listens a b xs → Listens b c ys → Listens a c (xs ++ ys)
  listens_more a b c xs ys first then = record {
    heard = listens_over a b c xs ys b.is_over refl first.heard then;
    stays = λ over. (
      (then.stays (first.stays over).0).0,
      cc ((first.stays over).1, (then.stays (first.stays over).0).1),
    );
  }

  pub listens_none : (a : SocketReader S) → Listens a a []
  listens_none a = record { heard = by a.is_over; stays = λ over. (over, refl) }
    where
      by : (o : Bool) → MatchBool o (Ends a.socket []) (GoesOn a.socket a.socket [])
      by true = (a.socket.conn, a.socket.input, (goes_on_none a.socket).brings)
      by false = goes_on_none a.socket

  pub stays_none : (a : SocketReader S) → Stays a a
  stays_none a = record { listens = listens_none a; in_hand = refl }

  -- a connection that failed while nothing was read
  pub stays_over : (a b : SocketReader S) → b.frame ≡ a.frame → b.is_over ≡ true → Stays a b
  stays_over a b frame over = record {
    listens = record {
      heard = subst (λ o. MatchBool o (Ends a.socket []) (GoesOn a.socket b.socket [])) (sym over) (a.socket.conn, a.socket.input, (goes_on_none a.socket).brings);
      stays = λ _. (over, refl);
    };
    in_hand = frame;
  }

  -- ---- what is told

  pub comes_at_once : (a : SocketReader S) (given : Bool) → given ≡ false → (rest_of a.frame ≡ [] → IsTrue given) → Comes a a Message
  comes_at_once a given is empty = record {
    bodies = [];
    listens = listens_none a;
    kept = append-nil (rest_of a.frame);
    is_come = some_bytes (rest_of a.frame) (λ none. absurd (cc (is, empty none)));
  }

  comes_by : (a b : SocketReader S) (came : Came) (bodies : List (List ℕ)) → rest_of a.frame ≡ [] → IsInHand b came bodies → (rest_of a.frame ++ stream_of bodies ≡ rest_of b.frame) × IsCome b came
  comes_by a b Message bodies before (body, one, in_hand) =
      (rw (before, one) (append-nil (frame_text body) ∙ sym in_hand), rw in_hand (some_frame body))
  comes_by a b Nothing bodies before (none, nothing, over) = (rw (before, none) (sym nothing), (nothing, over))
  comes_by a b End bodies before (none, nothing, over) = (rw (before, none) (sym nothing), (nothing, over))

  pub comes_hear : (a b : SocketReader S) (came : Came) → rest_of a.frame ≡ [] → Hears a b came → Comes a b came
  comes_hear a b came before hears =
      let by = comes_by a b came hears.bodies before hears.in_hand in
      record { bodies = hears.bodies; listens = hears.listens; kept = by.0; is_come = by.1 }

  -- what has come stays come, where the reader is over by now
  still_come : (b d : SocketReader S) (came : Came) (over : Bool) → d.is_over ≡ over → rest_of d.frame ≡ rest_of b.frame → (b.is_over ≡ true → d.is_over ≡ true) → IsCome b came → IsCome d (told_of over came)
  still_come b d Message true is same stays come = rw same come
  still_come b d Message false is same stays come = rw same come
  still_come b d Nothing true is same stays come = (same ∙ come.0, is)
  still_come b d Nothing false is same stays come = (same ∙ come.0, is)
  still_come b d End true is same stays come = (same ∙ come.0, is)
  still_come b d End false is same stays come = absurd (cc (stays come.1, is))

  pub comes_told : (old a b c d : SocketReader S) (came : Came) → rest_of old.frame ≡ [] → Stays old a → Hears a b came → Stays b c → Stays c d → Comes old d (told_of d.is_over came)
  unfolding comes_hear
  comes_told old a b c d came before first hears then last =
      let before_a : rest_of a.frame ≡ [] = ap (λ f. rest_of f) first.in_hand ∙ before in
      let comes = comes_hear a b came before_a hears in
      let same : rest_of d.frame ≡ rest_of b.frame = ap (λ f. rest_of f) (last.in_hand ∙ then.in_hand) in
      let bodies = hears.bodies in
      let front = listens_more old a b [] bodies first.listens comes.listens in
      let all = listens_more old c d bodies [] (subst (λ xs. Listens old c xs) (append-nil bodies) (listens_more old b c bodies [] front then.listens)) last.listens in
      record {
        bodies = bodies;
        listens = subst (λ xs. Listens old d xs) (append-nil bodies) all;
        kept = ap (λ f. f ++ stream_of bodies) (before ∙ sym before_a) ∙ comes.kept ∙ sym same;
        is_come = still_come b d came d.is_over refl same (λ over. (last.listens.stays (then.listens.stays over).0).0) comes.is_come;
      }

  -- ---- reading on

  pub on_of : (a b : SocketReader S) (xs : List (List ℕ)) → b.is_over ≡ false → Listens a b xs → GoesOn a.socket b.socket xs
  on_of a b xs on listens = subst (λ o. MatchBool o (Ends a.socket xs) (GoesOn a.socket b.socket xs)) on listens.heard

  pub hears_behind : (old mid new : SocketReader S) (came : Came) → old.is_over ≡ false → mid.is_over ≡ false → GoesOn old.socket mid.socket [] → Hears mid new came → Hears old new came
  hears_behind old mid new came before between on hears = record {
    bodies = hears.bodies;
    listens = listens_more old mid new [] hears.bodies (listens_on old mid [] before between on) hears.listens;
    in_hand = hears.in_hand;
  }

  pub on_behind : (old mid new : SocketReader S) → GoesOn old.socket mid.socket [] → Hears mid new Nothing → GoesOn old.socket new.socket []
  on_behind old mid new on hears =
      goes_on_more old.socket mid.socket new.socket [] [] on (subst (λ xs. GoesOn mid.socket new.socket xs) hears.in_hand.0 (on_of mid new hears.bodies hears.in_hand.2 hears.listens))

  pub stays_flushed : (contents : S → Option (List ℕ)) (a b : SocketReader S) → b.frame ≡ a.frame → b.is_over ≡ a.is_over → Flushed contents a.socket b.socket → Stays a b
  stays_flushed contents a b frame over flushed = record {
    listens = record { heard = by b.is_over; stays = λ was. (over ∙ was, refl) };
    in_hand = frame;
  }
    where
      by : (o : Bool) → MatchBool o (Ends a.socket []) (GoesOn a.socket b.socket [])
      by true = (a.socket.conn, a.socket.input, (goes_on_none a.socket).brings)
      by false = goes_on_flushed contents a.socket a.socket b.socket [] (goes_on_none a.socket) flushed

  -- ---- what is pulled

  -- a frame in hand is no part of what was heard
  listens_frame : (old new given : SocketReader S) (xs : List (List ℕ)) → given.socket ≡ new.socket → given.is_over ≡ new.is_over → Listens old new xs → Listens old given xs
  listens_frame old new given xs socket over listens = record {
    heard = subst (λ s. MatchBool given.is_over (Ends old.socket xs) (GoesOn old.socket s xs)) (sym socket) (subst (λ o. MatchBool o (Ends old.socket xs) (GoesOn old.socket new.socket xs)) (sym over) listens.heard);
    stays = λ was. (over ∙ (listens.stays was).0, (listens.stays was).1);
  }

  pub pulls_given : (old new given : SocketReader S) (count : ℕ) (piece : List ℕ) → Comes old new Message → Gives new given count piece → Pulls old given count piece
  pulls_given old new given count piece comes gives =
      (comes.bodies, listens_frame old new given comes.bodies gives.socket gives.is_over comes.listens, comes.kept ∙ gives.given, λ none room. absurd (omega (arith, gives.some comes.is_come room)))

  pub pulls_end : (old new : SocketReader S) (piece : List ℕ) → Comes old new End → Pulls old new 0 piece
  pulls_end old new piece comes = (comes.bodies, comes.listens, comes.kept, λ _ _. (comes.is_come.0, comes.is_come.1))

  pub pulls_empty : (a : SocketReader S) (piece : List ℕ) → length piece ≡ 0 → Pulls a a 0 piece
  pulls_empty a piece no_room = ([], listens_none a, append-nil (rest_of a.frame), λ _ room. absurd (omega (arith, no_room, room)))

  pub pulls_nothing : (old new : SocketReader S) → Comes old new Nothing → PullsNothing old new
  pulls_nothing old new comes =
      let both = nothing_then (rest_of old.frame) (stream_of comes.bodies) (comes.kept ∙ comes.is_come.0) in
      (subst (λ xs. Listens old new xs) (no_bodies comes.bodies both.1) comes.listens, both.0, comes.is_come.0)
