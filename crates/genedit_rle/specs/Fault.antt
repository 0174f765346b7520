-- What the faults of the code stand for.
use Rattle.std.specs.Prelude.{Option, Some, None}
use Rattle.multistate_rle.specs.declared.fault.RleFault.{RleFault}
use Rattle.multistate_rle.specs.declared.fault.RleFault.TheVariants as texts
use Rattle.genedit_io.specs.declared.fault.RunFault.{RunFault}
use Rattle.genedit_io.specs.declared.fault.RunFault.TheVariants as runs
use Rattle.genedit_rle.specs.declared.fault.CanonicalFault.{CanonicalFault}
use Rattle.genedit_rle.specs.declared.fault.CanonicalFault.TheVariants as faults
use Rattle.genedit_rle.specs.Refusal.{FormRefusal, Text, OutOfPlane, StateRange, refusal_number, refusal_place}

-- the refusal that a fault stands for; want of memory is none
abbrev pub refusal_of : CanonicalFault → Option FormRefusal
refusal_of (faults.Text fault) = Some (Text fault)
refusal_of faults.OutOfPlane = Some OutOfPlane
refusal_of faults.StateRange = Some StateRange
refusal_of faults.Memory = None

-- the refusal of a text that is no pattern; want of memory is none
abbrev pub text_refusal : RleFault → Option FormRefusal
text_refusal texts.Header = Some (Text texts.Header)
text_refusal (texts.Tag place) = Some (Text (texts.Tag place))
text_refusal (texts.Count place) = Some (Text (texts.Count place))
text_refusal (texts.State place) = Some (Text (texts.State place))
text_refusal texts.TooMany = Some (Text texts.TooMany)
text_refusal texts.Memory = None

-- the fault with which a run ends, for a refusal or for want of memory
abbrev pub run_fault_of : Option FormRefusal → RunFault
run_fault_of (Some refusal) = runs.Refused (refusal_number refusal) (refusal_place refusal)
run_fault_of None = runs.Memory
