-- Worked values of the definitions.
use Rattle.std.specs.Prelude.{◌≡◌, codes, refl, Some, None}
use Rattle.std.specs.Fmt.{digits}
use Rattle.genedit_io.specs.declared.fault.RunFault.TheVariants.{Script, Refused, Read, Turns, Write, Memory, StoreFull}
use Rattle.genedit_io.specs.RunFault.{exit_status, run_fault_text, name_of_number}
use Rattle.std.specs.declared.io.ErrorKind.TheVariants as kind
use Rattle.genedit_io.specs.declared.cause.Cause.TheVariants as cause
use Rattle.genedit_io.specs.Cause.{cause_of, cause_text, file_fault_text, of_new_file, port_fault_text}

-- ---- names

pub slashes : name_of_number 1 ≡ codes "Slashes"
slashes = refl

pub digit : name_of_number 2 ≡ codes "Digit"
digit = refl

pub states : name_of_number 3 ≡ codes "States"
states = refl

pub header : name_of_number 4 ≡ codes "Header"
header = refl

pub tag : name_of_number 5 ≡ codes "Tag"
tag = refl

pub count : name_of_number 6 ≡ codes "Count"
count = refl

pub state : name_of_number 7 ≡ codes "State"
state = refl

pub too_many : name_of_number 8 ≡ codes "TooMany"
too_many = refl

pub nothing : name_of_number 9 ≡ codes "Nothing"
nothing = refl

pub out_of_plane : name_of_number 10 ≡ codes "OutOfPlane"
out_of_plane = refl

pub state_range : name_of_number 11 ≡ codes "StateRange"
state_range = refl

pub full_store : name_of_number 13 ≡ codes "StoreFull"
full_store = refl

pub magic : name_of_number 14 ≡ codes "Magic"
magic = refl

pub version : name_of_number 15 ≡ codes "Version"
version = refl

pub other_rule : name_of_number 16 ≡ codes "OtherRule"
other_rule = refl

pub short : name_of_number 17 ≡ codes "Short"
short = refl

pub stamp_range : name_of_number 18 ≡ codes "StampRange"
stamp_range = refl

pub not_canonical : name_of_number 19 ≡ codes "NotCanonical"
not_canonical = refl

pub trailing : name_of_number 20 ≡ codes "Trailing"
trailing = refl

pub frame_too_long : name_of_number 21 ≡ codes "FrameTooLong"
frame_too_long = refl

pub gen_range : name_of_number 22 ≡ codes "GenRange"
gen_range = refl

pub too_many_cells : name_of_number 23 ≡ codes "TooManyCells"
too_many_cells = refl

pub clock_full : name_of_number 24 ≡ codes "ClockFull"
clock_full = refl

pub no_such_edit : name_of_number 25 ≡ codes "NoSuchEdit"
no_such_edit = refl

pub no_replica : name_of_number 26 ≡ codes "NoReplica"
no_replica = refl

pub no_message : name_of_number 27 ≡ codes "NoMessage"
no_message = refl

pub not_yours : name_of_number 28 ≡ codes "NotYours"
not_yours = refl

pub full : name_of_number 29 ≡ codes "Full"
full = refl

pub closed : name_of_number 30 ≡ codes "Closed"
closed = refl

pub no_place : name_of_number 31 ≡ codes "NoPlace"
no_place = refl

pub size : name_of_number 32 ≡ codes "Size"
size = refl

pub request : name_of_number 33 ≡ codes "Request"
request = refl

pub cut : name_of_number 34 ≡ codes "Cut"
cut = refl

pub turns : name_of_number 35 ≡ codes "Turns"
turns = refl

pub read : name_of_number 36 ≡ codes "Read"
read = refl

pub write : name_of_number 37 ≡ codes "Write"
write = refl

pub no_pattern : name_of_number 38 ≡ codes "NoPattern"
no_pattern = refl

pub script : name_of_number 39 ≡ codes "Script"
script = refl

pub no_seat : name_of_number 45 ≡ codes "NoSeat"
no_seat = refl

pub old_stamp : name_of_number 40 ≡ codes "OldStamp"
old_stamp = refl

pub same_stamp : name_of_number 41 ≡ codes "SameStamp"
same_stamp = refl

pub no_document : name_of_number 42 ≡ codes "NoDocument"
no_document = refl

pub busy : name_of_number 43 ≡ codes "Busy"
busy = refl

pub square : name_of_number 44 ≡ codes "Square"
square = refl

pub no_name : name_of_number 255 ≡ codes "?"
no_name = refl

-- ---- texts

pub script_line : run_fault_text (Script 3) ≡ codes "script fault at line 3"
unfolding digits
script_line = refl

pub without_place : run_fault_text (Refused 38 None) ≡ codes "refused 38 NoPattern"
unfolding digits
without_place = refl

pub with_place : run_fault_text (Refused 2 (Some 17)) ≡ codes "refused 2 Digit 17"
unfolding digits
with_place = refl

pub failed_reads : run_fault_text Read ≡ codes "read fault"
failed_reads = refl

pub endless_sources : run_fault_text Turns ≡ codes "read fault"
endless_sources = refl

-- ---- exit statuses

pub status_of_scripts : exit_status (Script 1) ≡ 2
status_of_scripts = refl

pub status_of_refusals : exit_status (Refused 38 None) ≡ 2
status_of_refusals = refl

pub status_of_failed_reads : exit_status Read ≡ 3
status_of_failed_reads = refl

pub status_of_endless_sources : exit_status Turns ≡ 3
status_of_endless_sources = refl

pub status_of_failed_writes : exit_status Write ≡ 4
status_of_failed_writes = refl

pub status_of_want_of_memory : exit_status Memory ≡ 5
status_of_want_of_memory = refl

pub status_of_full_stores : exit_status StoreFull ≡ 5
status_of_full_stores = refl

-- ---- what the system refuses

pub no_such_file : file_fault_text Read (codes "my.script") (cause_text (cause_of kind.NotFound)) ≡ codes "read fault my.script: there is no such file"
no_such_file = refl

pub full_disk : file_fault_text (Refused 37 None) (codes "a.rle") (cause_text (cause_of kind.StorageFull)) ≡ codes "refused 37 Write a.rle: the disk is full"
unfolding digits
full_disk = refl

-- a file that is to be made is not found where its folder is missing
pub no_such_folder : cause_text (of_new_file (cause_of kind.NotFound)) ≡ codes "there is no such folder"
no_such_folder = refl

pub another_cause : cause_of kind.TimedOut ≡ cause.Other
another_cause = refl

pub taken_port : port_fault_text 7020 (cause_of kind.AddrInUse) ≡ codes "read fault: port 7020 is taken"
unfolding digits
taken_port = refl
