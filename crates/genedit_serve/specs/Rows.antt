-- Worked values of the definitions.
use Rattle.std.specs.Prelude.{◌≡◌, ◌∷◌, [], codes, refl, true, Some, None, Ok, Err}
use Rattle.std.specs.Fmt.{digits}
use Rattle.frame_service.specs.declared.fault.ServeFault.TheVariants.{FrameTooLong}
use Rattle.genedit_serve.specs.Closing.{closed_line, link_line, listening_line, session_line, session_lines}

listens : listening_line 4711 ≡ codes "listening 4711\n"
unfolding digits
listens = refl

opens : link_line (codes "http://127.0.0.1:7080") (codes "00112233445566778899aabbccddeeff") ≡ codes "open http://127.0.0.1:7080/#00112233445566778899aabbccddeeff\n"
unfolding digits
opens = refl

bye : session_line 1 3 (Some (Ok (record { requests = 5; bye = true }))) ≡ codes "session 1 edits 3\n"
unfolding digits
bye = refl

nobody : session_line 3 0 None ≡ codes "session 3 edits 0\n"
unfolding digits
nobody = refl

long_frame : session_line 12 0 (Some (Err FrameTooLong)) ≡ codes "session 12 edits 0 fault 21\n"
unfolding digits
long_frame = refl

two : session_lines 1 (1 ∷ 0 ∷ []) (Some (Ok (record { requests = 4; bye = true })) ∷ Some (Ok (record { requests = 2; bye = true })) ∷ [])
    ≡ codes "session 1 edits 1\nsession 2 edits 0\n"
unfolding digits
two = refl

closed : closed_line 1 ≡ codes "closed 1\n"
unfolding digits
closed = refl
