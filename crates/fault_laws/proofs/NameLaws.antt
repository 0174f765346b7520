-- The crates' names of refusals, case by case, and the table's.
use Rattle.std.proofs.Common.{refl}
use Rattle.std.specs.Prelude.{None}
use Rattle.std.specs.Cmp.Lexicographic.{nat_list_eq_equiv}
use Rattle.std.specs.Map.{keys_of, values_of}
use Rattle.std.proofs.lemmas.Cmp.{nat_eq_equiv}
use Rattle.std.proofs.lemmas.Map.Made.{IsDistinct-from_count}
use Rattle.generations_rule.specs.declared.fault.RuleFault.{RuleFault}
use Rattle.generations_rule.specs.declared.fault.RuleFault.TheVariants.{Slashes, Digit, States}
use Rattle.generations_rule.specs.RuleFault.{rule_fault_number, rule_fault_place, rule_fault_text}
use Rattle.multistate_rle.specs.declared.fault.RleFault.{RleFault}
use Rattle.multistate_rle.specs.declared.fault.RleFault.TheVariants as texts
use Rattle.multistate_rle.specs.RleFault.{text_fault_number, text_fault_place, text_fault_text}
use Rattle.macrocell_text.specs.declared.fault.MacrocellFault.{MacrocellFault}
use Rattle.macrocell_text.specs.declared.fault.MacrocellFault.TheVariants as macrocells
use Rattle.macrocell_text.specs.declared.listing_fault.ListingFault.{ListingFault}
use Rattle.macrocell_text.specs.declared.listing_fault.ListingFault.TheVariants as listings
use Rattle.macrocell_text.specs.Faults.{listing_fault_number, listing_fault_text, macrocell_fault_number, macrocell_fault_place, macrocell_fault_text}
use Rattle.edit_stamps.specs.declared.fault.EditFault.{EditFault}
use Rattle.edit_stamps.specs.declared.fault.EditFault.TheVariants as edits
use Rattle.edit_stamps.specs.EditFault.{edit_fault_number, edit_fault_text}
use Rattle.square_store.specs.declared.fault.StoreFault.{StoreFault}
use Rattle.square_store.specs.declared.fault.StoreFault.TheVariants as stores
use Rattle.square_store.specs.StoreFault.{store_fault_number, store_fault_text}
use Rattle.generation_engine.specs.declared.fault.EngineFault.{EngineFault}
use Rattle.generation_engine.specs.declared.fault.EngineFault.TheVariants as engines
use Rattle.generation_engine.specs.EngineFault.{engine_fault_number, engine_fault_text}
use Rattle.delta_exchange.specs.declared.fault.ReadFault.{ReadFault}
use Rattle.delta_exchange.specs.declared.fault.ReadFault.TheVariants as reads
use Rattle.delta_exchange.specs.Fault.{read_fault_number, read_fault_text}
use Rattle.message_frames.specs.declared.frame_fault.FrameFault.{FrameFault}
use Rattle.message_frames.specs.declared.frame_fault.FrameFault.TheVariants as frames
use Rattle.message_frames.specs.FrameFault.{frame_fault_number, frame_fault_text}
use Rattle.export.specs.declared.fault.ExportFault.{ExportFault}
use Rattle.export.specs.declared.fault.ExportFault.TheVariants as exports
use Rattle.export.specs.ExportFault.{export_fault_number, export_fault_text}
use Rattle.replica_core.specs.declared.fault.Fault.{Fault}
use Rattle.replica_core.specs.declared.fault.Fault.TheVariants.{Edit, StoreFull, Read, Export, OtherRule, ClockFull, NoSuchEdit, NoReplica, NoMessage, Memory}
use Rattle.replica_core.specs.declared.event.Stop.{Stop}
use Rattle.replica_core.specs.declared.event.Stop.TheVariants as stops
use Rattle.replica_core.specs.Fault.{replica_fault_number, replica_fault_text, stop_number, stop_text}
use Rattle.board.specs.declared.fault.SeatFault.{SeatFault}
use Rattle.board.specs.declared.fault.SeatFault.TheVariants as reading
use Rattle.board.specs.Faults.{seat_fault_number, seat_fault_text}
use Rattle.relay_board.specs.declared.fault.SubmitFault.{SubmitFault}
use Rattle.relay_board.specs.declared.fault.SubmitFault.TheVariants as submissions
use Rattle.relay_board.specs.declared.fault.TurnFault.{TurnFault}
use Rattle.relay_board.specs.declared.fault.TurnFault.TheVariants as turns
use Rattle.relay_board.specs.declared.fault.StartFault.{StartFault}
use Rattle.relay_board.specs.declared.fault.StartFault.TheVariants as starts
use Rattle.relay_board.specs.Faults.{start_fault_number, start_fault_text, submit_fault_number, submit_fault_text, turn_fault_number, turn_fault_text}
use Rattle.relay_board.specs.declared.fault.FinishFault.{FinishFault}
use Rattle.relay_board.specs.declared.fault.FinishFault.TheVariants as finishes
use Rattle.relay_board.specs.Faults.{finish_fault_number, finish_fault_text}
use Rattle.session_hub.specs.declared.fault.HubFault.{HubFault}
use Rattle.session_hub.specs.declared.fault.HubFault.TheVariants as hubs
use Rattle.session_hub.specs.HubFault.{hub_fault_number, hub_fault_text}
use Rattle.frame_service.specs.declared.fault.ServeFault.{ServeFault}
use Rattle.frame_service.specs.declared.fault.ServeFault.TheVariants as services
use Rattle.frame_service.specs.ServeFault.{serve_fault_number, serve_fault_text}
use Rattle.document_bodies.specs.declared.fault.BodyFault.{BodyFault}
use Rattle.document_bodies.specs.declared.fault.BodyFault.TheVariants as bodies
use Rattle.document_bodies.specs.Faults.{body_fault_number, body_fault_text}
use Rattle.documents.specs.declared.fault.DocumentFault.{DocumentFault}
use Rattle.documents.specs.declared.fault.DocumentFault.TheVariants as documents
use Rattle.documents.specs.Faults.{document_fault_number, document_fault_text}
use Rattle.fault_laws.specs.Names.{IsNamed, NamesAgree, NamesAreDistinct}
use Rattle.genedit_io.specs.RunFault.{names}

rule_names : (fault : RuleFault) → IsNamed (rule_fault_number fault) (rule_fault_place fault) (rule_fault_text fault)
rule_names Slashes refused = refl
rule_names (Digit place) refused = refl
rule_names States refused = refl

text_names : (fault : RleFault) → IsNamed (text_fault_number fault) (text_fault_place fault) (text_fault_text fault)
text_names texts.Header refused = refl
text_names (texts.Tag place) refused = refl
text_names (texts.Count place) refused = refl
text_names (texts.State place) refused = refl
text_names texts.TooMany refused = refl
text_names texts.Memory refused = absurd (refused refl)

macrocell_names : (fault : MacrocellFault) → IsNamed (macrocell_fault_number fault) (macrocell_fault_place fault) (macrocell_fault_text fault)
macrocell_names macrocells.Header refused = refl
macrocell_names (macrocells.Tag place) refused = refl
macrocell_names (macrocells.State place) refused = refl
macrocell_names (macrocells.Square place) refused = refl
macrocell_names macrocells.Memory refused = absurd (refused refl)

listing_names : (fault : ListingFault) → IsNamed (listing_fault_number fault) None (listing_fault_text fault)
listing_names listings.TooManyCells refused = refl
listing_names listings.OutOfPlane refused = refl
listing_names listings.Memory refused = absurd (refused refl)

edit_names : (fault : EditFault) → IsNamed (edit_fault_number fault) None (edit_fault_text fault)
edit_names edits.TooMany refused = refl
edit_names edits.Nothing refused = refl
edit_names edits.OutOfPlane refused = refl
edit_names edits.StateRange refused = refl
edit_names edits.Memory refused = absurd (refused refl)

store_names : (fault : StoreFault) → IsNamed (store_fault_number fault) None (store_fault_text fault)
store_names stores.StoreFull refused = refl
store_names stores.Memory refused = absurd (refused refl)

engine_names : (fault : EngineFault) → IsNamed (engine_fault_number fault) None (engine_fault_text fault)
engine_names engines.GenRange refused = refl
engine_names engines.StoreFull refused = refl
engine_names engines.Memory refused = absurd (refused refl)

read_names : (fault : ReadFault) → IsNamed (read_fault_number fault) None (read_fault_text fault)
read_names reads.TooMany refused = refl
read_names reads.Nothing refused = refl
read_names reads.OutOfPlane refused = refl
read_names reads.StateRange refused = refl
read_names reads.StoreFull refused = refl
read_names reads.Magic refused = refl
read_names reads.Version refused = refl
read_names reads.OtherRule refused = refl
read_names reads.Short refused = refl
read_names reads.StampRange refused = refl
read_names reads.NotCanonical refused = refl
read_names reads.Trailing refused = refl
read_names reads.Memory refused = absurd (refused refl)

frame_names : (fault : FrameFault) → IsNamed (frame_fault_number fault) None (frame_fault_text fault)
frame_names frames.FrameTooLong refused = refl
frame_names frames.Memory refused = absurd (refused refl)

export_names : (fault : ExportFault) → IsNamed (export_fault_number fault) None (export_fault_text fault)
export_names exports.GenRange refused = refl
export_names exports.TooManyCells refused = refl
export_names exports.StoreFull refused = refl
export_names exports.Memory refused = absurd (refused refl)

replica_names : (fault : Fault) → IsNamed (replica_fault_number fault) None (replica_fault_text fault)
replica_names (Edit fault) refused = edit_names fault refused
replica_names StoreFull refused = refl
replica_names (Read fault) refused = read_names fault refused
replica_names (Export fault) refused = export_names fault refused
replica_names OtherRule refused = refl
replica_names ClockFull refused = refl
replica_names NoSuchEdit refused = refl
replica_names NoReplica refused = refl
replica_names NoMessage refused = refl
replica_names Memory refused = absurd (refused refl)

stop_names : (stop : Stop) → IsNamed (stop_number stop) None (stop_text stop)
stop_names stops.StoreFull refused = refl
stop_names stops.Memory refused = absurd (refused refl)

read_of_board_names : (fault : SeatFault) → IsNamed (seat_fault_number fault) None (seat_fault_text fault)
read_of_board_names reading.Closed refused = refl
read_of_board_names reading.Memory refused = absurd (refused refl)

submit_names : (fault : SubmitFault) → IsNamed (submit_fault_number fault) None (submit_fault_text fault)
submit_names submissions.NotYours refused = refl
submit_names submissions.StateRange refused = refl
submit_names submissions.OldStamp refused = refl
submit_names submissions.Closed refused = refl
submit_names submissions.Memory refused = absurd (refused refl)
submit_names submissions.Full refused = refl

turn_names : (fault : TurnFault) → IsNamed (turn_fault_number fault) None (turn_fault_text fault)
turn_names turns.StoreFull refused = refl
turn_names turns.Memory refused = absurd (refused refl)

start_names : (fault : StartFault) → IsNamed (start_fault_number fault) None (start_fault_text fault)
start_names starts.Size refused = refl
start_names starts.NoPlace refused = refl
start_names starts.Memory refused = absurd (refused refl)

finish_names : (fault : FinishFault) → IsNamed (finish_fault_number fault) None (finish_fault_text fault)
finish_names finishes.Closed refused = refl
finish_names finishes.StoreFull refused = refl
finish_names finishes.Memory refused = absurd (refused refl)

hub_names : (fault : HubFault) → IsNamed (hub_fault_number fault) None (hub_fault_text fault)
hub_names hubs.NotYours refused = refl
hub_names hubs.StateRange refused = refl
hub_names hubs.OldStamp refused = refl
hub_names hubs.Full refused = refl
hub_names hubs.Closed refused = refl
hub_names hubs.StoreFull refused = refl
hub_names hubs.Memory refused = absurd (refused refl)

service_names : (fault : ServeFault) → IsNamed (serve_fault_number fault) None (serve_fault_text fault)
service_names services.FrameTooLong refused = refl
service_names services.Cut refused = refl
service_names services.Turns refused = refl
service_names services.Read refused = refl
service_names services.Write refused = refl
service_names services.Memory refused = absurd (refused refl)

body_names : (fault : BodyFault) → IsNamed (body_fault_number fault) None (body_fault_text fault)
body_names bodies.NoDocument refused = refl
body_names (bodies.Read fault) refused = read_names fault refused

document_names : (fault : DocumentFault) → IsNamed (document_fault_number fault) None (document_fault_text fault)
document_names documents.StateRange refused = refl
document_names documents.OtherRule refused = refl
document_names (documents.SameStamp stamp) refused = refl
document_names documents.NoDocument refused = refl
document_names (documents.Body fault place) refused = body_names fault refused
document_names documents.Memory refused = absurd (refused refl)

pub names_agree : NamesAgree
names_agree = record {
  rules = rule_names;
  texts = text_names;
  macrocells = macrocell_names;
  listings = listing_names;
  edits = edit_names;
  stores = store_names;
  engines = engine_names;
  reads = read_names;
  frames = frame_names;
  exports = export_names;
  replicas = replica_names;
  stops = stop_names;
  reading = read_of_board_names;
  submissions = submit_names;
  turns = turn_names;
  starts = start_names;
  finishes = finish_names;
  hubs = hub_names;
  services = service_names;
  bodies = body_names;
  documents = document_names;
  seats = λ refused. refl;
}

-- as many numbers, and as many names, differ as stand in the table
pub names_are_distinct : NamesAreDistinct
names_are_distinct = record {
  numbers_differ = IsDistinct-from_count nat_eq_equiv (keys_of names) refl;
  names_differ = IsDistinct-from_count nat_list_eq_equiv (values_of names) refl;
}
