-- What runs of frames bring, one after another.
use Rattle.std.proofs.Common.{◌≡◌, ℕ, ◌≤◌, List, [], ◌∷◌, ◌++◌, length, drop, Option, None, Some, Ok, Err, refl, sym, ◌∙◌, ap, subst, arith, append-nil, append_assoc}
use Rattle.std.specs.Prelude.{IfSome, IsTrue}
use Rattle.std.specs.List.{list_all}
use Rattle.std.proofs.lemmas.Grind.{common_steps}
use Rattle.std.proofs.lemmas.List.Folds.{list_all-append}
use Rattle.message_frames.specs.Frames.{is_body}
use Rattle.websocket.specs.Connection.{Connection}
use Rattle.websocket.specs.Content.{Content, text, binary, ping, pong, close, IsWithinLimit}
use Rattle.websocket.proofs.EffectLemmas.{IsSoundEffect_from_read}
use Rattle.tungstenite.specs.Socket.{Socket, Run, Runs, EndsWith, Flushed, Quiet, Reads, Replies, content_of}
use Rattle.tungstenite.specs.Failure.{IsIo}
use Rattle.tungstenite.specs.declared.error.Error.{Error}
use Rattle.tungstenite.specs.declared.error.Error.TheVariants.{Io}
use Rattle.std.specs.IoError.{error_kind}
use Rattle.std.specs.declared.io.ErrorKind.{ErrorKind}
use Rattle.std.specs.declared.io.ErrorKind.TheVariants.{Interrupted, WouldBlock}
use Rattle.tungstenite.specs.declared.message.Message.{Message}
use Rattle.tungstenite.proofs.SocketLemmas.{runs-more, sends-prefix}
use Rattle.web_streams.specs.One.{one_in, one_of_error, one_of_kind, GivesOne}
use Rattle.web_streams.specs.Messages.{bodies_of, body_in, listed, Brings, Ends, GoesOn}
use Rattle.web_streams.proofs.LimitLaws.{kept_run}

-- ---- runs

runs_append : (c c1 c2 : Connection) (i i1 i2 : List ℕ) (ps qs : Run) → Runs c i ps c1 i1 → Runs c1 i1 qs c2 i2 → Runs c i (ps ++ qs) c2 i2
runs_append c c1 c2 i i1 i2 [] qs h k = subst (λ x. Runs x i qs c2 i2) h.0 (subst (λ x. Runs c1 x qs c2 i2) h.1 k)
runs_append c c1 c2 i i1 i2 (p ∷ ps) qs h k = (h.0, runs_append p.1.next c1 c2 (drop p.0 i) i1 i2 ps qs h.1 k)

bodies_append : (ps qs : Run) → bodies_of (ps ++ qs) ≡ bodies_of ps ++ bodies_of qs
bodies_append [] qs = refl
bodies_append (p ∷ ps) qs = ap (λ xs. listed (body_in p.1.message) ++ xs) (bodies_append ps qs) ∙ sym (append_assoc (listed (body_in p.1.message)) (bodies_of ps) (bodies_of qs))

bodies_quiet : (ps : Run) → Quiet ps → bodies_of ps ≡ []
bodies_quiet [] quiet = refl
bodies_quiet (p ∷ ps) quiet = ap (λ m. listed (body_in m) ++ bodies_of ps) quiet.0 ∙ bodies_quiet ps quiet.1

bodies_end : (ps : Run) (m : Content) → EndsWith ps m → bodies_of ps ≡ listed (body_in (Some m))
bodies_end [] m ends = absurd ends
bodies_end (p ∷ []) m ends = ap (λ x. listed (body_in x) ++ []) ends ∙ append-nil (listed (body_in (Some m)))
bodies_end (p ∷ q ∷ ps) m ends = ap (λ x. listed (body_in x) ++ bodies_of (q ∷ ps)) ends.0 ∙ bodies_end (q ∷ ps) m ends.1

-- ---- replies

replies_append : (ps qs : Run) (o o1 o2 : List ℕ) → Replies ps o o1 → Replies qs o1 o2 → Replies (ps ++ qs) o o2
replies_append [] qs o o1 o2 h k = subst (λ x. Replies qs x o2) h k
replies_append (p ∷ ps) qs o o1 o2 h k = (h.0, h.1, replies_append ps qs h.0 o1 o2 h.2 k)

replies_prefix : (ps : Run) (a o o2 : List ℕ) → Replies ps o o2 → Replies ps (a ++ o) (a ++ o2)
replies_prefix [] a o o2 h = ap (λ x. a ++ x) h
replies_prefix (p ∷ ps) a o o2 h = (a ++ h.0, sends-prefix p.1.next.role p.1.reply a o h.0 h.1, replies_prefix ps a h.0 o2 h.2)

-- ---- limits

-- the most bytes of a body
abbrev most : ℕ
most = 16777216

short_body : (body : List ℕ) → length body ≤ most → IsTrue (list_all is_body (body ∷ []))
short_body body short = grind (arith, common_steps)

within_one : (m : Option Content) → IfSome m (IsWithinLimit (Some most)) → IsTrue (list_all is_body (listed (body_in m)))
within_one None within = refl
within_one (Some (text words)) within = refl
within_one (Some (binary body)) within = short_body body within
within_one (Some (ping words)) within = refl
within_one (Some (pong words)) within = refl
within_one (Some (close frame)) within = refl

both_within : (xs ys : List (List ℕ)) → IsTrue (list_all is_body xs) → IsTrue (list_all is_body ys) → IsTrue (list_all is_body (xs ++ ys))
both_within xs ys hx hy = rw (list_all-append is_body xs ys) (cc)

-- each body that a run brings is within the limit
within_run : (c c2 : Connection) (input left : List ℕ) (frames : Run) → c.config.max_message_size ≡ Some most → Runs c input frames c2 left → IsTrue (list_all is_body (bodies_of frames))
within_run c c2 input left [] limit read = refl
within_run c c2 input left (p ∷ ps) limit read =
    let sound = (IsSoundEffect_from_read c input p read.0).within_limit in
    let one = within_one p.1.message (subst (λ x. IfSome p.1.message (IsWithinLimit x)) limit sound) in
    let next : p.1.next.config.max_message_size ≡ Some most = ap (λ x. x.max_message_size) (kept_run c p.1.next input (drop p.0 input) (p ∷ []) (read.0, (refl, refl))) ∙ limit in
    both_within (listed (body_in p.1.message)) (bodies_of ps) one (within_run p.1.next c2 (drop p.0 input) left ps next read.1)

-- ---- what is brought

module _ {S : Type 0} where
  brings_none : (s : Socket S) → Brings s s.conn s.input []
  brings_none s = record { came = []; frames = []; read = (refl, sym (append-nil s.input)); brought = refl; are_bodies = refl }

  brings_more : (old mid : Socket S) (xs ys : List (List ℕ)) (state : Connection) (left : List ℕ) → Brings old mid.conn mid.input xs → Brings mid state left ys → Brings old state left (xs ++ ys)
  brings_more old mid xs ys state left first then = record {
    came = first.came ++ then.came;
    frames = first.frames ++ then.frames;
    read =
        subst (λ input. Runs old.conn input (first.frames ++ then.frames) state left) (append_assoc old.input first.came then.came)
        (runs_append old.conn mid.conn state _ (mid.input ++ then.came) left first.frames then.frames (runs-more old.conn mid.conn (old.input ++ first.came) mid.input then.came first.frames first.read) then.read);
    brought = cc (bodies_append first.frames then.frames, first.brought, then.brought);
    are_bodies = both_within xs ys first.are_bodies then.are_bodies;
  }

  pub goes_on_none : (s : Socket S) → GoesOn s s []
  unfolding brings_none
  goes_on_none s = record { brings = brings_none s; sent = []; replies = refl }

  pub goes_on_more : (old mid new : Socket S) (xs ys : List (List ℕ)) → GoesOn old mid xs → GoesOn mid new ys → GoesOn old new (xs ++ ys)
  unfolding brings_more
  goes_on_more old mid new xs ys first then = record {
    brings = brings_more old mid xs ys new.conn new.input first.brings then.brings;
    sent = first.sent ++ then.sent;
    replies =
        subst (λ out. Replies (first.brings.frames ++ then.brings.frames) old.output out) (sym (append_assoc first.sent then.sent new.output))
        (replies_append first.brings.frames then.brings.frames old.output (first.sent ++ mid.output) (first.sent ++ (then.sent ++ new.output)) first.replies
        (replies_prefix then.brings.frames first.sent mid.output (then.sent ++ new.output) then.replies));
  }

  pub ends_more : (old mid : Socket S) (xs ys : List (List ℕ)) → GoesOn old mid xs → Ends mid ys → Ends old (xs ++ ys)
  ends_more old mid xs ys first (state, left, then) = (state, left, brings_more old mid xs ys state left first.brings then)

  -- where some of what waited was sent, and nothing else was done
  pub goes_on_flushed : (contents : S → Option (List ℕ)) (old mid new : Socket S) (xs : List (List ℕ)) → GoesOn old mid xs → Flushed contents mid new → GoesOn old new xs
  goes_on_flushed contents old mid new xs first flushed = record {
    brings = record {
      came = first.brings.came;
      frames = first.brings.frames;
      read = rw (flushed.3, flushed.4) first.brings.read;
      brought = first.brings.brought;
      are_bodies = first.brings.are_bodies;
    };
    sent = first.sent ++ flushed.0;
    replies = subst (λ out. Replies first.brings.frames old.output out) (ap (λ out. first.sent ++ out) flushed.1 ∙ sym (append_assoc first.sent flushed.0 new.output)) first.replies;
  }

  -- a message that was read
  pub goes_on_read : (remaining : S → Option (List ℕ)) (old new : Socket S) (message : Message) → old.conn.config.max_message_size ≡ Some most → Reads remaining old new (Ok message) → GoesOn old new (listed (body_in (Some (content_of message))))
  goes_on_read remaining old new message limit r =
      let runs : Runs old.conn (old.input ++ r.1) r.0 new.conn new.input = rw (r.6.1, r.6.2) r.5 in
      let brought = sym (bodies_end r.0 (content_of message) r.6.0) in
      record {
        brings = record { came = r.1; frames = r.0; read = runs; brought = brought; are_bodies = rw brought (within_run old.conn new.conn (old.input ++ r.1) new.input r.0 limit runs) };
        sent = r.4;
        replies = r.6.3;
      }

  -- a read that failed behind some frames
  pub ends_read : (remaining : S → Option (List ℕ)) (old new : Socket S) (e : Error) → old.conn.config.max_message_size ≡ Some most → Reads remaining old new (Err e) → Ends old []
  ends_read remaining old new e limit r =
      (r.2, r.3, record { came = r.1; frames = r.0; read = r.5; brought = sym (bodies_quiet r.0 r.6.0); are_bodies = refl })

  -- a read that was interrupted, or would have waited
  pub goes_on_paused : (remaining : S → Option (List ℕ)) (old new : Socket S) (e : Error) → IsIo e → Reads remaining old new (Err e) → GoesOn old new []
  goes_on_paused remaining old new e io r =
      let kept = r.6.2 io in
      record {
        brings = record { came = r.1; frames = r.0; read = rw (kept.0, kept.1) r.5; brought = sym (bodies_quiet r.0 r.6.0); are_bodies = refl };
        sent = r.4;
        replies = kept.2;
      }

  -- the limit stays
  pub limit_kept : (old new : Socket S) (xs : List (List ℕ)) → old.conn.config.max_message_size ≡ Some most → GoesOn old new xs → new.conn.config.max_message_size ≡ Some most
  limit_kept old new xs limit on = ap (λ x. x.max_message_size) (kept_run old.conn new.conn (old.input ++ on.brings.came) new.input on.brings.frames on.brings.read) ∙ limit

  -- what a message gives
  pub given_message : (remaining : S → Option (List ℕ)) (old new : Socket S) (message : Message) → old.conn.config.max_message_size ≡ Some most → Reads remaining old new (Ok message) → GivesOne old new (one_in (content_of message))
  given_message remaining old new message limit r = by_content (content_of message) (goes_on_read remaining old new message limit r)
    where
      by_content : (m : Content) → GoesOn old new (listed (body_in (Some m))) → GivesOne old new (one_in m)
      by_content (text words) h = h
      by_content (binary body) h = h
      by_content (ping words) h = h
      by_content (pong words) h = h
      by_content (close frame) h = h

  -- what an error gives: no body, and the socket goes on behind one of the connection alone
  pub given_error : (remaining : S → Option (List ℕ)) (old new : Socket S) (e : Error) → old.conn.config.max_message_size ≡ Some most → Reads remaining old new (Err e) → GivesOne old new (one_of_error e)
  given_error remaining old new (Io cause) limit r = by_kind (error_kind cause)
    where
      by_kind : (kind : ErrorKind) → GivesOne old new (one_of_kind kind)
      by_kind Interrupted = goes_on_paused remaining old new (Io cause) tt r
      by_kind WouldBlock = goes_on_paused remaining old new (Io cause) tt r
      by_kind _ = ends_read remaining old new (Io cause) limit r
  given_error remaining old new e limit r = ends_read remaining old new e limit r
