-- What a session pulls from a socket.
use Rattle.std.proofs.Common.{ℕ, List, [], ◌++◌, sym, ◌∙◌, ap, append-nil, append_assoc}
use Rattle.std.proofs.lemmas.Grind.{flat_map-append}
use Rattle.message_frames.specs.Frames.{frame_text, stream_of}
use Rattle.web_streams.specs.Hearing.{pending}
use Rattle.web_streams.specs.Session.{IsPulled, PullsFrames}
use Rattle.web_streams.specs.declared.reader.SocketReader.{SocketReader}
use Rattle.web_streams.proofs.ReaderLaws.{listens_more}

module _ {S : Type 0} where
  pulled_again : (a b c : SocketReader S) (xs ys : List ℕ) → IsPulled a b xs → IsPulled b c ys → IsPulled a c (xs ++ ys)
  pulled_again a b c xs ys first then = record {
    bodies = first.bodies ++ then.bodies;
    listens = listens_more a b c first.bodies then.bodies first.listens then.listens;
    spelt =
        ap (λ s. pending a ++ s) (flat_map-append frame_text first.bodies then.bodies) ∙ sym (append_assoc (pending a) (stream_of first.bodies) (stream_of then.bodies))
        ∙ ap (λ s. s ++ stream_of then.bodies) first.spelt ∙ append_assoc xs (pending b) (stream_of then.bodies)
        ∙ ap (λ s. xs ++ s) then.spelt ∙ sym (append_assoc xs ys (pending c));
  }

  pub pulls_frames : PullsFrames S
  pulls_frames = record {
    read = λ a b count piece pulls. record { bodies = pulls.0; listens = pulls.1; spelt = pulls.2 };
    blocked = λ a b pulls. record { bodies = []; listens = pulls.0; spelt = append-nil (pending a) ∙ pulls.1 ∙ sym pulls.2 };
    asked = λ a b came comes. record { bodies = comes.bodies; listens = comes.listens; spelt = comes.kept };
    again = pulled_again;
    whole = λ connection behind a b bytes opened pulled nothing. (
      pulled.bodies,
      pulled.listens,
      sym (append-nil bytes) ∙ ap (λ s. bytes ++ s) (sym nothing) ∙ sym pulled.spelt ∙ ap (λ s. s ++ stream_of pulled.bodies) opened.nothing,
    );
  }
