-- No frame changes the limits of a connection, and no body that is brought is longer than they allow.
use Rattle.std.proofs.Common.{◌≡◌, ℕ, Bool, true, false, cond, List, [], ◌∷◌, ◌++◌, length, drop, codes, not, nat_lt, Option, None, Some, Result, Ok, Err, refl, ◌∙◌, ap, subst}
use Rattle.websocket.specs.declared.error.Error.{Error}
use Rattle.websocket.specs.declared.error.Error.TheVariants.{Protocol}
use Rattle.websocket.specs.declared.error.ProtocolError.TheVariants.{FragmentedControlFrame, ControlFrameTooBig}
use Rattle.websocket.specs.declared.protocol.state.WebSocketState.{WebSocketState}
use Rattle.websocket.specs.declared.protocol.state.WebSocketState.TheVariants.{ClosedByPeer, CloseAcknowledged}
use Rattle.websocket.specs.declared.protocol.incomplete.MessageType.{MessageType}
use Rattle.websocket.specs.declared.protocol.frame.coding.CloseCode.{CloseCode}
use Rattle.websocket.specs.declared.protocol.frame.coding.CloseCode.TheVariants as Code
use Rattle.websocket.specs.declared.protocol.frame.coding.Data.{Data}
use Rattle.websocket.specs.declared.protocol.frame.coding.Data.TheVariants.{Continue, Text, Binary}
use Rattle.websocket.specs.declared.protocol.frame.coding.Control.{Control}
use Rattle.websocket.specs.declared.protocol.frame.coding.Control.TheVariants.{Close, Ping, Pong}
use Rattle.websocket.specs.declared.protocol.frame.coding.OpCode.{OpCode}
use Rattle.websocket.specs.declared.protocol.frame.coding.OpCode.TheVariants as Op
use Rattle.websocket.specs.declared.protocol.frame.header.FrameHeader.{FrameHeader}
use Rattle.websocket.specs.declared.protocol.frame.codec.FrameStatus.TheVariants.{Complete}
use Rattle.websocket.specs.declared.protocol.incomplete.MessageType.TheVariants as Kind
use Rattle.websocket.specs.Frame.{after_check, Checked}
use Rattle.websocket.specs.Content.{Content}
use Rattle.websocket.specs.Connection.{Connection, Effect, can_write, has_allowed_code, on_frame, on_opcode, on_control, on_short_control, on_close, close_effect, on_data, on_data_after, on_message_bytes, deliver, read_step, decode_close, check_so_far}
use Rattle.websocket.proofs.StreamLemmas.{TookFrame_from_read}
use Rattle.tungstenite.specs.Socket.{Run, Runs}

-- what is done leaves the limits as they were
abbrev Keeps : Connection → Result Effect Error → Type 0
Keeps c (Err e) = Unit {0}
Keeps c (Ok effect) = effect.next.config ≡ c.config

kept_checked : (c : Connection) (check : Checked Error) (r : Result Effect Error) → Keeps c r → Keeps c (after_check check r)
kept_checked c (Ok x) r h = h
kept_checked c (Err e) r h = tt

kept_either : (c : Connection) (b : Bool) (x y : Result Effect Error) → Keeps c x → Keeps c y → Keeps c (cond b x y)
kept_either c true x y h k = h
kept_either c false x y h k = k

kept_either_effect : (c : Connection) (b : Bool) (x y : Effect) → Keeps c (Ok x) → Keeps c (Ok y) → Keeps c (Ok (cond b x y))
kept_either_effect c true x y h k = h
kept_either_effect c false x y h k = k

kept_close_effect : (c : Connection) (frame : Option (CloseCode × List ℕ)) (payload : Option (List ℕ)) (state : WebSocketState) → Keeps c (Ok (close_effect c frame payload state))
kept_close_effect c frame None state = refl
kept_close_effect c frame (Some payload) state = refl

kept_close : (c : Connection) (payload : List ℕ) (r : Result (Option (CloseCode × List ℕ)) Error) → Keeps c (on_close c payload r)
kept_close c payload (Err e) = tt
kept_close c payload (Ok frame) =
    let refused = close_effect c (Some (Code.Protocol, [])) (Some (3 ∷ 234 ∷ codes "Protocol violation")) ClosedByPeer in
    let echoed = close_effect c frame (Some payload) ClosedByPeer in
    let done = close_effect c frame None CloseAcknowledged in
    kept_either_effect c (not (can_write c.state)) done (cond (has_allowed_code frame) echoed refused) (kept_close_effect c frame None CloseAcknowledged)
    (kept_either_effect c (has_allowed_code frame) echoed refused (kept_close_effect c frame (Some payload) ClosedByPeer)
    (kept_close_effect c (Some (Code.Protocol, [])) (Some (3 ∷ 234 ∷ codes "Protocol violation")) ClosedByPeer))

kept_short : (c : Connection) (control : Control) (payload : List ℕ) → Keeps c (on_short_control c control payload)
kept_short c Close payload = kept_close c payload (decode_close payload)
kept_short c Pong payload = refl
kept_short c Ping payload = refl

kept_control : (c : Connection) (control : Control) (is_final : Bool) (payload : List ℕ) → Keeps c (on_control c control is_final payload)
unfolding on_control
kept_control c control is_final payload =
    kept_either c (not is_final) (Err (Protocol FragmentedControlFrame)) (cond (nat_lt 125 (length payload)) (Err (Protocol ControlFrameTooBig)) (on_short_control c control payload)) tt
    (kept_either c (nat_lt 125 (length payload)) (Err (Protocol ControlFrameTooBig)) (on_short_control c control payload) tt (kept_short c control payload))

kept_delivered : (c : Connection) (r : Result Content Error) → Keeps c (deliver c r)
kept_delivered c (Err e) = tt
kept_delivered c (Ok content) = refl

kept_bytes : (c : Connection) (kind : MessageType) (is_final : Bool) (bs : List ℕ) → Keeps c (on_message_bytes c kind is_final bs)
unfolding on_message_bytes
kept_bytes c kind is_final bs =
    let more : Keeps c (Ok (record { message = None; reply = None; next = record c { fragments = Some (kind, bs) } })) = refl in
    kept_checked c _ _ (kept_either c is_final _ _ (kept_delivered c _) (kept_checked c (check_so_far kind bs) (Ok (record { message = None; reply = None; next = record c { fragments = Some (kind, bs) } })) more))

kept_after : (c : Connection) (fragments : Option (MessageType × List ℕ)) (kind : Data) (is_final : Bool) (payload : List ℕ) → Keeps c (on_data_after c fragments kind is_final payload)
kept_after c None Continue is_final payload = tt
kept_after c None Text is_final payload = kept_bytes c Kind.Text is_final payload
kept_after c None Binary is_final payload = kept_bytes c Kind.Binary is_final payload
kept_after c (Some p) Continue is_final payload = kept_bytes c p.0 is_final (p.1 ++ payload)
kept_after c (Some p) Text is_final payload = tt
kept_after c (Some p) Binary is_final payload = tt

kept_opcode : (c : Connection) (opcode : OpCode) (is_final : Bool) (payload : List ℕ) → Keeps c (on_opcode c opcode is_final payload)
unfolding on_data
kept_opcode c (Op.Control control) is_final payload = kept_control c control is_final payload
kept_opcode c (Op.Data kind) is_final payload = kept_after c c.fragments kind is_final payload

kept_frame : (c : Connection) (h : FrameHeader) (payload : List ℕ) → Keeps c (on_frame c h payload)
unfolding on_frame
kept_frame c h payload = kept_checked c _ _ (kept_opcode c h.opcode h.is_final payload)

-- a frame leaves the limits as they were
kept_read : (c : Connection) (input : List ℕ) (p : ℕ × Effect) → read_step c input ≡ Ok (Complete p) → p.1.next.config ≡ c.config
kept_read c input p read =
    let took = TookFrame_from_read c input p read in
    let kept : Keeps c (Ok p.1) = subst (λ r. Keeps c r) took.does (kept_frame c took.header took.payload) in
    kept

-- and so does a run of frames
pub kept_run : (c c2 : Connection) (input left : List ℕ) (frames : Run) → Runs c input frames c2 left → c2.config ≡ c.config
kept_run c c2 input left [] read = ap (λ x. x.config) read.0
kept_run c c2 input left (p ∷ ps) read = kept_run p.1.next c2 (drop p.0 input) left ps read.1 ∙ kept_read c input p read.0
