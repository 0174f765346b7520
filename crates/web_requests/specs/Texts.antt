-- The bytes of each answer (RFC 9112, section 4; RFC 6455, sections 4.2.2 and 5.2).
use Rattle.std.specs.Prelude.{ℕ, List, [], ◌∷◌, ◌++◌, length, codes, decimal}
use Rattle.web_requests.specs.declared.refusal.Refusal.{Refusal}
use Rattle.web_requests.specs.declared.refusal.Refusal.TheVariants.{Malformed, Forbidden, NotFound, Method, Misdirected, Upgrade, TooLong}

-- ---- refusals

-- its number and name
abbrev pub status_of : Refusal → List ℕ
status_of Malformed = codes "400 Bad Request"
status_of Forbidden = codes "403 Forbidden"
status_of NotFound = codes "404 Not Found"
status_of Method = codes "405 Method Not Allowed"
status_of Misdirected = codes "421 Misdirected Request"
status_of Upgrade = codes "426 Upgrade Required"
status_of TooLong = codes "431 Request Header Fields Too Large"

-- what a person is told who meets it in a browser
abbrev pub advice_of : Refusal → List ℕ
advice_of Malformed = codes "This request cannot be read.\n"
advice_of Forbidden = codes "Open the link that the server printed.\n"
advice_of NotFound = codes "Nothing is here. Open the link that the server printed.\n"
advice_of Method = codes "Only GET is answered here.\n"
advice_of Misdirected = codes "The board has another address. Open the link that the server printed.\n"
advice_of Upgrade = codes "The board is reached over a WebSocket.\n"
advice_of TooLong = codes "The head of this request is too long.\n"

-- the header lines beside those of each answer
abbrev pub lines_beside : Refusal → List ℕ
lines_beside Malformed = codes "Connection: close\r\n"
lines_beside Forbidden = codes "Connection: close\r\n"
lines_beside NotFound = codes "Connection: close\r\n"
lines_beside Method = codes "Allow: GET\r\nConnection: close\r\n"
lines_beside Misdirected = codes "Connection: close\r\n"
lines_beside Upgrade = codes "Upgrade: websocket\r\nSec-WebSocket-Version: 13\r\nConnection: Upgrade, close\r\n"
lines_beside TooLong = codes "Connection: close\r\n"

-- ---- parts of answers

-- what each answer but the upgrade says of itself: it is kept nowhere, read as what it says that it is, told to no other
-- site, and given to pages of this one alone
unfoldable pub guards : List ℕ
guards =
    codes "Cache-Control: no-store\r\nX-Content-Type-Options: nosniff\r\nReferrer-Policy: no-referrer\r\nCross-Origin-Resource-Policy: same-origin\r\nCross-Origin-Opener-Policy: same-origin\r\n"

-- the first line, and those lines
unfoldable pub opening : List ℕ → List ℕ
opening status = codes "HTTP/1.1 " ++ status ++ codes "\r\n" ++ guards

-- the length of the body, the end of the head, and the body
unfoldable pub ending : List ℕ → List ℕ
ending body = codes "Content-Length: " ++ decimal (length body) ++ codes "\r\n\r\n" ++ body

-- ---- answers

-- why somebody is turned away
abbrev pub refusal_text : Refusal → List ℕ
refusal_text refusal =
    opening (status_of refusal) ++ lines_beside refusal ++ codes "Content-Type: text/plain; charset=utf-8\r\n" ++ ending (advice_of refusal)

-- the page, which may do what its policy says (Content Security Policy)
abbrev pub page_text : (page policy : List ℕ) → List ℕ
page_text page policy =
    opening (codes "200 OK") ++ codes "Connection: close\r\nContent-Type: text/html; charset=utf-8\r\nContent-Security-Policy: " ++ policy ++ codes "\r\n"
    ++ ending page

-- the handshake's answer, by the value that answers its key
abbrev pub welcome_text : List ℕ → List ℕ
welcome_text accept =
    codes "HTTP/1.1 101 Switching Protocols\r\nConnection: Upgrade\r\nUpgrade: websocket\r\nSec-WebSocket-Accept: " ++ accept ++ codes "\r\n\r\n"

-- the same, and a binary message of the one byte 45: no seat is left
abbrev pub no_seat_text : List ℕ → List ℕ
no_seat_text accept = welcome_text accept ++ (130 ∷ 1 ∷ 45 ∷ [])
