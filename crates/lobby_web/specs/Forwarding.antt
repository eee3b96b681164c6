-- For whom a proxy says that it asks.
use Rattle.std.specs.Prelude.{ℕ, ◌≡◌, List, [], ◌∷◌, Option, None, Some}
use Rattle.std.specs.Option.{option_or}
use Rattle.std.specs.declared.net.ip_addr.IpAddr.{IpAddr}
use Rattle.std.specs.Net.Grammar.{IsIpText}
use Rattle.http.specs.declared.request.Request.{Request}
use Rattle.http_server.specs.Exchange.{Call}
use Rattle.lobby_web.specs.Requests.{forwarded_text}

-- The text spells this address, or none.
abbrev pub Spells : List ℕ → Option IpAddr → Type 0
Spells text None = (address : IpAddr) → ¬ (IsIpText text address)
Spells text (Some address) = IsIpText text address

-- Once this request came it is for whom that says it, and where it says nobody, as before.
pub record IsToldBy (r : Request (List ℕ)) (old new : Option IpAddr) : Type 0 where
  pub said : Option IpAddr
  pub spelled : Spells (forwarded_text r) said
  pub is : new ≡ option_or said old

-- These requests came, one after the other.
abbrev pub AreToldBy : List Call → Option IpAddr → Option IpAddr → Type 0
AreToldBy [] old new = new ≡ old
AreToldBy (call ∷ calls) old new = (between : Option IpAddr) × IsToldBy call.0 old between × AreToldBy calls between new
