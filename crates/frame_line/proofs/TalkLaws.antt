-- What was said and heard, one after another.
use Rattle.std.proofs.Common.{◌≡◌, ℕ, List, [], ◌∷◌, ◌++◌, Ok, Err, refl, sym, ap, subst, ◌∙◌, append-nil, append_assoc}
use Rattle.std.specs.Io.KnownBytes.{Consumes}
use Rattle.std.proofs.KnownBytes.{Consumes-nil, Consumes-trans}
use Rattle.devices.specs.Source.{KnownSource}
use Rattle.devices.specs.Sink.{KnownSink}
use Rattle.message_frames.specs.Frames.{FrameStream}
use Rattle.message_frames.specs.FrameLaws.{IsTakenTo}
use Rattle.frame_service.specs.Pushing.{ArePushed}
use Rattle.frame_service.proofs.PushLaws.{pushed_none, pushed_on}
use Rattle.frame_service.proofs.ExchangeLaws.{taken_more, taken_on}
use Rattle.frame_service.proofs.ExchangeLaws.{taken_one}
use Rattle.frame_line.specs.declared.fault.LineFault.{LineFault}
use Rattle.frame_line.specs.Receiving.{IsReceived, bytes_in}
use Rattle.frame_line.specs.Talking.{IsTalk}

-- what was said and heard, and then more
pub talk_on : (old mid new : FrameStream) (from by to : KnownSource) (s r t : KnownSink) (said more heard next : List (List ℕ))
    → IsTalk old mid from by s r said heard → IsTalk mid new by to r t more next → IsTalk old new from to s t (said ++ more) (heard ++ next)
talk_on old mid new from by to s r t said more heard next p q = record {
  pushed = pushed_on s r t said more p.pushed q.pushed;
  pulled = p.pulled ++ q.pulled;
  bytes = Consumes-trans from.left by.left to.left p.pulled q.pulled p.bytes q.bytes;
  cut = subst (λ l. IsTakenTo l (heard ++ next) new.pending) (append_assoc old.pending p.pulled q.pulled)
      (taken_on ((old.pending ++ p.pulled) ++ q.pulled) (mid.pending ++ q.pulled) new.pending heard next (taken_more (old.pending ++ p.pulled) mid.pending q.pulled heard p.cut) q.cut);
}

-- nothing was said or heard
pub talk_none : (old : FrameStream) (from : KnownSource) (s : KnownSink) → IsTalk old old from from s s [] []
talk_none old from s = record { pushed = pushed_none s; pulled = []; bytes = Consumes-nil from.left; cut = record { are_bodies = refl; spelt = append-nil old.pending } }

-- a body was said
pub said_one : (old new : FrameStream) (from to : KnownSource) (s t : KnownSink) (body : List ℕ) → ArePushed s t (body ∷ []) → new ≡ old → to ≡ from → IsTalk old new from to s t (body ∷ []) []
said_one old new from to s t body p e f = record {
  pushed = p;
  pulled = [];
  bytes = subst (λ k. Consumes from.left k.left []) (sym f) (Consumes-nil from.left);
  cut = record { are_bodies = refl; spelt = append-nil old.pending ∙ sym (ap (λ (l : FrameStream). l.pending) e) };
}

-- a body was heard
pub heard_one : {B : Type 0} (bytes_of : B → List ℕ) (turns : ℕ) (old new : FrameStream) (from to : KnownSource) (s t : KnownSink) (body : B)
    → IsReceived bytes_of turns old new from to (Ok body) → t ≡ s → IsTalk old new from to s t [] (bytes_of body ∷ [])
heard_one bytes_of turns old new from to s t body r e = record {
  pushed = subst (λ k. ArePushed s k []) (sym e) (pushed_none s);
  pulled = bytes_in r.pieces;
  bytes = r.bytes;
  cut = taken_one (old.pending ++ bytes_in r.pieces) (bytes_of body) new.pending r.ends.0.fits r.ends.0.spelt;
}

-- why no body comes does not turn on what bodies are
pub unheard_alike : {A B : Type 0} (f : A → List ℕ) (g : B → List ℕ) (turns : ℕ) (old new : FrameStream) (from to : KnownSource) (fault : LineFault)
    → IsReceived f turns old new from to (Err fault) → IsReceived g turns old new from to (Err fault)
unheard_alike f g turns old new from to fault r = record { pieces = r.pieces; needed = r.needed; bytes = r.bytes; within = r.within; ends = r.ends }
