-- The names of refusals, which the program keeps in one table, are those of the crates that refuse.
use Rattle.std.specs.Prelude.{◌≡◌, ℕ, List, Option, None, codes, nat_eq, bytes_eq}
use Rattle.std.specs.List.{IsDistinct}
use Rattle.std.specs.Map.{keys_of, values_of}
use Rattle.generations_rule.specs.declared.fault.RuleFault.{RuleFault}
use Rattle.generations_rule.specs.RuleFault.{rule_fault_number, rule_fault_place, rule_fault_text}
use Rattle.multistate_rle.specs.declared.fault.RleFault.{RleFault}
use Rattle.multistate_rle.specs.RleFault.{text_fault_number, text_fault_place, text_fault_text}
use Rattle.macrocell_text.specs.declared.fault.MacrocellFault.{MacrocellFault}
use Rattle.macrocell_text.specs.declared.listing_fault.ListingFault.{ListingFault}
use Rattle.macrocell_text.specs.Faults.{listing_fault_number, listing_fault_text, macrocell_fault_number, macrocell_fault_place, macrocell_fault_text}
use Rattle.edit_stamps.specs.declared.fault.EditFault.{EditFault}
use Rattle.edit_stamps.specs.EditFault.{edit_fault_number, edit_fault_text}
use Rattle.square_store.specs.declared.fault.StoreFault.{StoreFault}
use Rattle.square_store.specs.StoreFault.{store_fault_number, store_fault_text}
use Rattle.generation_engine.specs.declared.fault.EngineFault.{EngineFault}
use Rattle.generation_engine.specs.EngineFault.{engine_fault_number, engine_fault_text}
use Rattle.delta_exchange.specs.declared.fault.ReadFault.{ReadFault}
use Rattle.delta_exchange.specs.Fault.{read_fault_number, read_fault_text}
use Rattle.message_frames.specs.declared.frame_fault.FrameFault.{FrameFault}
use Rattle.message_frames.specs.FrameFault.{frame_fault_number, frame_fault_text}
use Rattle.export.specs.declared.fault.ExportFault.{ExportFault}
use Rattle.export.specs.ExportFault.{export_fault_number, export_fault_text}
use Rattle.replica_core.specs.declared.fault.Fault.{Fault}
use Rattle.replica_core.specs.declared.event.Stop.{Stop}
use Rattle.replica_core.specs.Fault.{replica_fault_number, replica_fault_text, stop_number, stop_text}
use Rattle.board.specs.declared.fault.SeatFault.{SeatFault}
use Rattle.board.specs.Faults.{seat_fault_number, seat_fault_text}
use Rattle.relay_board.specs.declared.fault.SubmitFault.{SubmitFault}
use Rattle.relay_board.specs.declared.fault.TurnFault.{TurnFault}
use Rattle.relay_board.specs.declared.fault.StartFault.{StartFault}
use Rattle.relay_board.specs.Faults.{start_fault_number, start_fault_text, submit_fault_number, submit_fault_text, turn_fault_number, turn_fault_text}
use Rattle.relay_board.specs.declared.fault.FinishFault.{FinishFault}
use Rattle.relay_board.specs.Faults.{finish_fault_number, finish_fault_text}
use Rattle.session_hub.specs.declared.fault.HubFault.{HubFault}
use Rattle.session_hub.specs.HubFault.{hub_fault_number, hub_fault_text}
use Rattle.frame_service.specs.declared.fault.ServeFault.{ServeFault}
use Rattle.frame_service.specs.ServeFault.{serve_fault_number, serve_fault_text}
use Rattle.document_bodies.specs.declared.fault.BodyFault.{BodyFault}
use Rattle.document_bodies.specs.Faults.{body_fault_number, body_fault_text}
use Rattle.documents.specs.declared.fault.DocumentFault.{DocumentFault}
use Rattle.documents.specs.Faults.{document_fault_number, document_fault_text}
use Rattle.genedit_io.specs.RunFault.{names, refusal_text}

-- a refusal's own text is what the program says behind its number; 255 is want of memory, and no refusal
abbrev pub IsNamed : ℕ → Option ℕ → List ℕ → Type 0
IsNamed number place text = (number ≡ 255 → ⊥) → text ≡ refusal_text number place

-- each crate's refusals have the program's names
pub record NamesAgree : Type 0 where
  pub rules : (fault : RuleFault) → IsNamed (rule_fault_number fault) (rule_fault_place fault) (rule_fault_text fault)
  pub texts : (fault : RleFault) → IsNamed (text_fault_number fault) (text_fault_place fault) (text_fault_text fault)
  pub macrocells : (fault : MacrocellFault) → IsNamed (macrocell_fault_number fault) (macrocell_fault_place fault) (macrocell_fault_text fault)
  pub listings : (fault : ListingFault) → IsNamed (listing_fault_number fault) None (listing_fault_text fault)
  pub edits : (fault : EditFault) → IsNamed (edit_fault_number fault) None (edit_fault_text fault)
  pub stores : (fault : StoreFault) → IsNamed (store_fault_number fault) None (store_fault_text fault)
  pub engines : (fault : EngineFault) → IsNamed (engine_fault_number fault) None (engine_fault_text fault)
  pub reads : (fault : ReadFault) → IsNamed (read_fault_number fault) None (read_fault_text fault)
  pub frames : (fault : FrameFault) → IsNamed (frame_fault_number fault) None (frame_fault_text fault)
  pub exports : (fault : ExportFault) → IsNamed (export_fault_number fault) None (export_fault_text fault)
  pub replicas : (fault : Fault) → IsNamed (replica_fault_number fault) None (replica_fault_text fault)
  pub stops : (stop : Stop) → IsNamed (stop_number stop) None (stop_text stop)
  pub reading : (fault : SeatFault) → IsNamed (seat_fault_number fault) None (seat_fault_text fault)
  pub submissions : (fault : SubmitFault) → IsNamed (submit_fault_number fault) None (submit_fault_text fault)
  pub turns : (fault : TurnFault) → IsNamed (turn_fault_number fault) None (turn_fault_text fault)
  pub starts : (fault : StartFault) → IsNamed (start_fault_number fault) None (start_fault_text fault)
  pub finishes : (fault : FinishFault) → IsNamed (finish_fault_number fault) None (finish_fault_text fault)
  pub hubs : (fault : HubFault) → IsNamed (hub_fault_number fault) None (hub_fault_text fault)
  pub services : (fault : ServeFault) → IsNamed (serve_fault_number fault) None (serve_fault_text fault)
  pub bodies : (fault : BodyFault) → IsNamed (body_fault_number fault) None (body_fault_text fault)
  pub documents : (fault : DocumentFault) → IsNamed (document_fault_number fault) None (document_fault_text fault)
  -- a board without a seat left tells its number alone
  pub seats : IsNamed 45 None (codes "NoSeat")

-- no number has two names, and no name two numbers
pub record NamesAreDistinct : Type 0 where
  pub numbers_differ : IsDistinct nat_eq (keys_of names)
  pub names_differ : IsDistinct bytes_eq (values_of names)
