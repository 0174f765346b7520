-- Who is let in.
use Rattle.std.specs.Prelude.{◌≡◌, ⊤, ℕ, List, ◌++◌, codes, IsTrue}
use Rattle.httparse.specs.Grammar.{RequestHead, ReadsRequest}
use Rattle.web_requests.specs.declared.house.House.{House}
use Rattle.web_requests.specs.declared.visit.Visit.{Visit}
use Rattle.web_requests.specs.declared.visit.Visit.TheVariants.{Waits, Page, Board, Refused}
use Rattle.web_requests.specs.Head.{has_only, lines_of}

-- the bytes begin with a request, GET of that path, to the host of the house alone
pub record Asks (bytes : List ℕ) (house : House) (path : List ℕ) : Type 0 where
  pub head : RequestHead
  pub rest : List ℕ
  pub reads : ReadsRequest bytes head rest
  pub method : head.method ≡ codes "GET"
  pub path_is : head.target ≡ path
  pub host : IsTrue (has_only (lines_of head) (codes "Host") house.host.items)

-- the same for the seat of a key, with the token, and from a page of the house alone
pub record AsksSeat (bytes : List ℕ) (house : House) (key : List ℕ) : Type 0 where
  pub asks : Asks bytes house (codes "/board?" ++ house.token ++ codes "." ++ key)
  pub origin : IsTrue (has_only (lines_of asks.head) (codes "Origin") house.origin.items)

-- The page is given to who asks for it at the house's host alone, and a seat to who comes from a page of the house and
-- knows its token alone.
abbrev pub IsLetIn : List ℕ → House → Visit → Type 0
IsLetIn bytes house Waits = ⊤
IsLetIn bytes house Page = Asks bytes house (codes "/")
IsLetIn bytes house (Board request) = AsksSeat bytes house request.key
IsLetIn bytes house (Refused refusal) = ⊤
