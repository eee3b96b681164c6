-- How a site answers one request after another.
use Rattle.std.specs.Prelude.{ℕ, ◌≡◌, List}
use Rattle.http.specs.declared.request.Request.{Request}
use Rattle.http_server.specs.declared.response.Response.{Response}
use Rattle.lobby_web.specs.declared.answer.Asked.{Asked}
use Rattle.lobby_web.specs.Answering.{IsAnswer, is_switch}
use Rattle.lobby_web.specs.Forwarding.{IsToldBy}

-- The request has the site's answer, and it is noted whether that was an upgrade, and for whom a proxy says that it
-- asks.
abbrev pub Replies : Asked → Request (List ℕ) → Response → Asked → Type 0
Replies old r response new =
    IsAnswer old.site.now r response × (new.site.now ≡ old.site.now) × (new.has_switched ≡ is_switch response)
    × IsToldBy r old.forwarded new.forwarded
