-- Worked values.
use Rattle.std.specs.Prelude.{◌≡◌, ◌++◌, codes, decimal, refl, true, false, Some, None}
use Rattle.url.specs.Parts.{Parts}
use Rattle.url.specs.declared.host.Host.TheVariants.{Domain}
use Rattle.board_links.specs.Urls.{host_line, is_board_url, is_web_scheme, origin_text}
use Rattle.board_links.specs.Tokens.{is_digit}

abbrev example : Parts
example = record {
  scheme = codes "https";
  username = codes "";
  password = codes "";
  host = Some (Domain (codes "draw.example.org"));
  port = Some 7080;
  path = codes "/";
  query = None;
  fragment = None;
}

taken : is_board_url example ≡ true
taken = refl

its_host : host_line example ≡ codes "draw.example.org:" ++ decimal 7080
its_host = refl

its_origin : origin_text example ≡ codes "https://draw.example.org:" ++ decimal 7080
its_origin = refl

own_port : origin_text (record example { port = None }) ≡ codes "https://draw.example.org"
own_port = refl

with_path : is_board_url (record example { path = codes "/board" }) ≡ false
with_path = refl

with_query : is_board_url (record example { query = Some (codes "a") }) ≡ false
with_query = refl

with_user : is_board_url (record example { username = codes "ann" }) ≡ false
with_user = refl

without_host : is_board_url (record example { host = None }) ≡ false
without_host = refl

no_web : is_web_scheme (codes "ftp") ≡ false
no_web = refl

digit : is_digit 102 ≡ true
digit = refl

capital : is_digit 65 ≡ false
capital = refl
