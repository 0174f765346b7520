-- The refusals of a hub, as users meet them.
use Rattle.std.specs.Prelude.{ℕ, List, codes}
use Rattle.session_hub.specs.declared.fault.HubFault.{HubFault}
use Rattle.session_hub.specs.declared.fault.HubFault.TheVariants.{NotYours, StateRange, OldStamp, Full, Closed, StoreFull, Memory}

-- its number in the table of faults
abbrev pub hub_fault_number : HubFault → ℕ
hub_fault_number NotYours = 28
hub_fault_number StateRange = 11
hub_fault_number OldStamp = 40
hub_fault_number Full = 29
hub_fault_number Closed = 30
hub_fault_number StoreFull = 13
hub_fault_number Memory = 255

-- its name
abbrev pub hub_fault_text : HubFault → List ℕ
hub_fault_text NotYours = codes "NotYours"
hub_fault_text StateRange = codes "StateRange"
hub_fault_text OldStamp = codes "OldStamp"
hub_fault_text Full = codes "Full"
hub_fault_text Closed = codes "Closed"
hub_fault_text StoreFull = codes "StoreFull"
hub_fault_text Memory = codes "Memory"
