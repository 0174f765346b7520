-- URLs by which browsers reach a board.
use Rattle.std.specs.Prelude.{⊤, ◌≡◌, ◌++◌, ◌&&◌, ◌||◌, ◌↔◌, Bool, true, false, not, IsTrue, ℕ, List, [], codes, decimal, is_some, Option, Some, None, Result, Ok, Err, option_map, unwrap_or}
use Rattle.std.specs.Net.Addr.{IsLoopbackV4, IsLoopbackV6}
use Rattle.std.specs.Str.{bytes_eq}
use Rattle.url.specs.Host.{host_text}
use Rattle.url.specs.Input.{is_empty}
use Rattle.url.specs.Parser.{Parsed, parse_url}
use Rattle.url.specs.Parts.{Parts, has_host, nonempty_host}
use Rattle.url.specs.declared.host.Host.{Host}
use Rattle.url.specs.declared.host.Host.TheVariants.{Domain, Ipv4, Ipv6}
use Rattle.board_links.specs.declared.board_url.BoardUrl.{BoardUrl}
use Rattle.board_links.specs.declared.board_url.UrlFault.{UrlFault}
use Rattle.board_links.specs.declared.board_url.UrlFault.TheVariants.{Memory, Misspelt}

-- a scheme of the web
abbrev pub is_web_scheme : List ℕ → Bool
is_web_scheme scheme = bytes_eq scheme (codes "http") || bytes_eq scheme (codes "https")

-- a scheme of the web, a host, perhaps a port, and nothing else
abbrev pub is_board_url : Parts → Bool
is_board_url url = is_web_scheme url.scheme && has_host url && is_empty url.username && is_empty url.password
    && bytes_eq url.path (codes "/") && not (is_some url.query) && not (is_some url.fragment)

-- a port behind a colon
abbrev pub port_text : Option ℕ → List ℕ
port_text None = []
port_text (Some port) = codes ":" ++ decimal port

-- the host, and the port where it is not the scheme's own
abbrev pub host_line : Parts → List ℕ
host_line url = unwrap_or (option_map host_text (nonempty_host url)) [] ++ port_text url.port

-- the scheme, the host and the port
abbrev pub origin_text : Parts → List ℕ
origin_text url = url.scheme ++ (codes "://" ++ host_line url)

-- a host that is this machine: `localhost`, or an address of the loopback
abbrev pub IsThisMachine : Option (Host (List ℕ)) → Type 0
IsThisMachine None = ⊥
IsThisMachine (Some (Domain name)) = name ≡ codes "localhost"
IsThisMachine (Some (Ipv4 address)) = IsLoopbackV4 address
IsThisMachine (Some (Ipv6 address)) = IsLoopbackV6 address

-- what is said there can be heard on the way
abbrev pub IsInClear : Parts → Type 0
IsInClear url = (url.scheme ≡ codes "http") × ¬ IsThisMachine (nonempty_host url)

-- how links begin by a URL
pub record IsBoardUrl (url : Parts) (links : BoardUrl) : Type 0 where
  pub may : is_board_url url ≡ true
  pub origin : links.origin.items ≡ origin_text url
  pub host : links.host.items ≡ host_line url
  pub clear : IsTrue links.is_in_clear ↔ IsInClear url

-- a text is no URL (URL Standard), or one that has something else
abbrev pub IsNoBoardUrl : Parsed Parts → Type 0
IsNoBoardUrl (Ok url) = is_board_url url ≡ false
IsNoBoardUrl (Err fault) = ⊤

-- what reading a text comes to
abbrev pub ReadsUrl : List ℕ → Result BoardUrl UrlFault → Type 0
ReadsUrl text (Ok links) = (url : Parts) × (parse_url None text ≡ Ok url) × IsBoardUrl url links
ReadsUrl text (Err Misspelt) = IsNoBoardUrl (parse_url None text)
ReadsUrl text (Err Memory) = ⊤
