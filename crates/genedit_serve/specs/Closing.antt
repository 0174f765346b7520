-- What the server prints.
use Rattle.std.specs.Prelude.{ℕ, ◌+◌, List, [], ◌∷◌, ◌++◌, length, codes, decimal, Option, Some, None, Ok, Err}
use Rattle.frame_service.specs.ServeFault.{serve_fault_number}
use Rattle.seat_server.specs.Serving.{FinishedValue}
use Rattle.seat_server.specs.Sessions.{SessionEnd}
use Rattle.std.specs.declared.net.tcp.TcpListener.{TcpListener}
use Rattle.genedit_serve.specs.declared.address.Address.{Address}
use Rattle.genedit_serve.specs.declared.address.WebAddress.{WebAddress}

-- that it listens at a port
abbrev pub listening_line : ℕ → List ℕ
listening_line port = codes "listening " ++ (decimal port ++ codes "\n")

-- the link by which a browser opens the board: behind # the token, which a browser sends to no server
abbrev pub link_line : List ℕ → List ℕ → List ℕ
link_line origin token = codes "open " ++ (origin ++ (codes "/#" ++ (token ++ codes "\n")))

-- where browsers come, if they do
abbrev pub web_text : Option WebAddress → List ℕ
web_text None = []
web_text (Some web) = link_line web.front.house.origin.items web.front.house.token

-- where connections of frames come, if they do
abbrev pub port_text : Option TcpListener → ℕ → List ℕ
port_text None port = []
port_text (Some listener) port = listening_line port

-- what is told of an address whose listener is at this port
abbrev pub address_text : Address → ℕ → List ℕ
address_text address port = web_text address.web ++ port_text address.listener port

-- how many edits of a file were opened again, and how many bytes behind its last whole record were cut off
abbrev pub kept_line : ℕ → ℕ → List ℕ
kept_line edits lost = codes "kept " ++ (decimal edits ++ (codes " lost " ++ (decimal lost ++ codes "\n")))

-- the number of the fault by which the last session of a seat ended, if it did
abbrev pub end_word : Option SessionEnd → List ℕ
end_word None = []
end_word (Some (Ok served)) = []
end_word (Some (Err fault)) = codes " fault " ++ decimal (serve_fault_number fault)

-- the seat's number, how many of its edits were accepted over all its sessions, and how the last of them ended
abbrev pub session_line : ℕ → ℕ → Option SessionEnd → List ℕ
session_line number edits end = codes "session " ++ (decimal number ++ (codes " edits " ++ (decimal edits ++ (end_word end ++ codes "\n"))))

-- the lines of the sessions of seats from a number on
abbrev pub session_lines : ℕ → List ℕ → List (Option SessionEnd) → List ℕ
session_lines number (edits ∷ accepted) (end ∷ ends) = session_line number edits end ++ session_lines (number + 1) accepted ends
session_lines number _ _ = []

-- how many edits were published
abbrev pub closed_line : ℕ → List ℕ
closed_line count = codes "closed " ++ (decimal count ++ codes "\n")

-- the lines of seats that are numbered from the first on, and that of the published list
abbrev pub closing_text : ℕ → FinishedValue → List ℕ
closing_text first f = session_lines first f.account.accepted f.ends ++ closed_line (f.account.before + length f.account.published)
