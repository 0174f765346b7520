-- The word of a web port: `[ADDRESS:]Q`.
use Rattle.std.specs.Prelude.{ℕ, ◌==◌, ◌∷◌, [], Option, Some, None, if◌then◌else◌, option_map}
use Rattle.clap.specs.Words.{Text}
use Rattle.text_scan.specs.Bytes.{decimal_number}

-- where browsers come: an address of this machine, if one is named, and a port of it
pub record WebPlace : Type 0 where
  pub address : Option Text
  pub port : ℕ

-- where a text with one byte more in front is cut: where it was, or else at that byte, if it is a colon
abbrev pub cut_behind : ℕ → Text → Option (Text × Text) → Option (Text × Text)
cut_behind c rest (Some parts) = Some (c ∷ parts.0, parts.1)
cut_behind c rest None = if c == 58 then Some ([], rest) else None

-- what stands before the last colon of a text, and what stands behind it; none where it has no colon
abbrev pub cut_at_last_colon : Text → Option (Text × Text)
cut_at_last_colon [] = None
cut_at_last_colon (c ∷ rest) = cut_behind c rest (cut_at_last_colon rest)

-- a port: decimal digits, a number of 0 to 65535
abbrev pub port_spelled : Text → Option ℕ
port_spelled text = decimal_number 65535 text

-- a port of an address, which is not empty
abbrev pub place_at : Text → Text → Option WebPlace
place_at [] port = None
place_at (c ∷ rest) port = option_map (λ q. record { address = Some (c ∷ rest); port = q }) (port_spelled port)

-- all of a text without a colon is the port; the last colon of another parts the address from the port
abbrev pub web_by : Text → Option (Text × Text) → Option WebPlace
web_by text None = option_map (λ q. record { address = None; port = q }) (port_spelled text)
web_by text (Some parts) = place_at parts.0 parts.1

-- the web port that a text spells
abbrev pub web_spelled : Text → Option WebPlace
web_spelled text = web_by text (cut_at_last_colon text)
