-- What a site answers to a request.
use Rattle.std.specs.Prelude.{ℕ, ◌≡◌, ◌⊎◌, ◌==◌, ◌&&◌, ◌||◌, Bool, true, false, List, [], ◌∷◌, ◌++◌, Option, None, Some}
use Rattle.std.specs.Prelude.{codes, bytes_eq, MatchBool}
use Rattle.http.specs.declared.request.Request.{Request}
use Rattle.std.specs.List.{list_any}
use Rattle.http1.specs.Fields.{Header, elements}
use Rattle.http_server.specs.declared.response.Response.{Response}
use Rattle.http_server.specs.Response.{IsResponse}
use Rattle.websocket.specs.Handshake.{IsValidKey, accept_key_of}
use Rattle.lobby_web.specs.declared.site.Site.{Site}
use Rattle.lobby_web.specs.declared.site.File.{File}
use Rattle.lobby_web.specs.declared.site.Kind.{Kind}
use Rattle.lobby_web.specs.declared.site.Kind.TheVariants.{Pgn, Games}
use Rattle.lobby_web.specs.Media.{media_type}
use Rattle.lobby_web.specs.Pages.{file_at}
use Rattle.lobby_web.specs.Requests.{field, path_of, is_taken, is_from_page, asks_socket, asks_upgrade, only_reads}
use Rattle.lobby_web.specs.Requests.{served_path}

-- The browser runs and loads only what is of the page's own host, frames it nowhere, and sends no form.
abbrev pub policy : List ℕ
policy =
    codes "default-src 'none'; script-src 'self'; style-src 'self'; img-src 'self'; connect-src 'self'; base-uri 'none'; form-action 'none'; frame-ancestors 'none'"

-- the fields that each answer has but an upgrade
abbrev pub guards : List Header
guards =
    (codes "content-security-policy", policy) ∷ (codes "x-content-type-options", codes "nosniff")
    ∷ (codes "referrer-policy", codes "no-referrer") ∷ (codes "cache-control", codes "no-cache") ∷ []

-- the fields of an answer of this media type
abbrev pub guarded : List ℕ → List Header
guarded kind = guards ++ (codes "content-type", kind) ∷ []

abbrev pub plain_text : List ℕ
plain_text = codes "text/plain; charset=utf-8"

-- the answer has this status and these words
abbrev pub IsTold : ℕ → List ℕ → Response → Type 0
IsTold status words = IsResponse status (guarded plain_text) words

-- Games, which spectators ask for again and again.
abbrev pub has_games : Kind → Bool
has_games Pgn = true
has_games Games = true
has_games kind = false

-- Pages of other hosts may read games, and nothing else; and behind these the connection is closed, so that who looks
-- at them keeps no place until he looks again.
abbrev pub readers : Kind → List Header
readers Pgn = (codes "access-control-allow-origin", codes "*") ∷ (codes "connection", codes "close") ∷ []
readers Games = (codes "access-control-allow-origin", codes "*") ∷ (codes "connection", codes "close") ∷ []
readers kind = []

-- the fields of an answer of a file: its media type, who may read its kind, and its entity tag
abbrev pub file_fields : File → List Header
file_fields file = guarded (media_type file.kind) ++ readers file.kind ++ (codes "etag", file.tag.items) ∷ []

-- those of an answer for who has the file: all but its media type, which who has it knows
abbrev pub same_fields : File → List Header
same_fields file = guards ++ readers file.kind ++ (codes "etag", file.tag.items) ∷ []

-- The entity tag is the file's by the weak comparison, for which a weak one is as good (RFC 9110, 8.8.3.2).
abbrev pub is_tag_of : File → List ℕ → Bool
is_tag_of file tag = bytes_eq tag file.tag.items || bytes_eq tag (codes "W/" ++ file.tag.items)

-- Who asks has the file already: If-None-Match is `*`, or one of the entity tags that it lists is the file's (RFC 9110,
-- 13.1.2). The elements of the list are what stands between its commas (5.6.1). A tag with a comma in it is several of
-- them, and none of these is a file's: that has its two quotes at its ends, and no comma (`tag_of`).
abbrev pub is_known : List ℕ → File → Bool
is_known known file = bytes_eq known (codes "*") || list_any (is_tag_of file) (elements known)

-- 503, and after how many seconds who asked is to come again (RFC 9110, 10.2.3)
abbrev pub IsPutOff : File → Response → Type 0
IsPutOff file response =
    IsResponse 503 (guarded plain_text ++ readers file.kind ++ (codes "retry-after", codes "10") ∷ [])
    (codes "More watch than are served here: come again later.") response

-- 200 with the file, 304 without it for who has it already, or 404; where the site is full, for games 503
abbrev pub IsFileAnswer : Bool → List ℕ → Option File → Response → Type 0
IsFileAnswer full known None response = IsTold 404 (codes "There is no such page here.") response
IsFileAnswer full known (Some file) response =
    MatchBool (full && has_games file.kind) (IsPutOff file response)
    (MatchBool (is_known known file) (IsResponse 304 (same_fields file) [] response)
    (IsResponse 200 (file_fields file) file.bytes response))

-- 405 with the methods that are answered
abbrev pub IsOtherMethodAnswer : Response → Type 0
IsOtherMethodAnswer =
    IsResponse 405 (guarded plain_text ++ (codes "allow", codes "GET, HEAD") ∷ [])
    (codes "Only GET and HEAD are answered.")

-- 101 with the key that accepts the upgrade
abbrev pub IsSwitch : List ℕ → Response → Type 0
IsSwitch key =
    IsResponse 101
    ((codes "connection", codes "Upgrade") ∷ (codes "upgrade", codes "websocket")
    ∷ (codes "sec-websocket-accept", key) ∷ [])
    []

-- A key of sixteen bytes is answered by its accept key, and any other by 400.
abbrev pub IsKeyAnswer : List ℕ → Response → Type 0
IsKeyAnswer key response =
    (IsValidKey key × IsSwitch (accept_key_of key) response)
    ⊎ (¬ (IsValidKey key) × IsTold 400 (codes "The key of this WebSocket is none.") response)

-- The upgrade, for a page of the host that the request names, and for nobody else.
abbrev pub IsSocketAnswer : Request (List ℕ) → Response → Type 0
IsSocketAnswer r response =
    MatchBool (is_from_page r)
    (MatchBool (asks_upgrade r)
    (IsKeyAnswer (field r (codes "sec-websocket-key")) response)
    (IsTold 400 (codes "Here is a WebSocket of version 13.") response))
    (IsTold 403 (codes "Only this site's own page opens this socket.") response)

-- A page's answer: its file, or that only reading is answered.
abbrev pub IsPageAnswer : Site → Request (List ℕ) → Response → Type 0
IsPageAnswer site r response =
    MatchBool (only_reads r)
    (IsFileAnswer site.is_full (field r (codes "if-none-match")) (file_at site (served_path (path_of r))) response)
    (IsOtherMethodAnswer response)

-- What a site answers: 403 for a host that is not taken; else the socket at `/ws`, and everywhere else the page's
-- files.
abbrev pub IsAnswer : Site → Request (List ℕ) → Response → Type 0
IsAnswer site r response =
    MatchBool (is_taken site r)
    (MatchBool (asks_socket r) (IsSocketAnswer r response) (IsPageAnswer site r response))
    (IsTold 403 (codes "This host is not served here.") response)

-- the response hands the connection over
abbrev pub is_switch : Response → Bool
is_switch response = response.status == 101

-- The request names a host that is taken, and asks, from a page of that host, to go on as a WebSocket at `/ws`.
pub record IsGranted (site : Site) (r : Request (List ℕ)) : Type 0 where
  pub host : is_taken site r ≡ true
  pub socket : asks_socket r ≡ true
  pub page : is_from_page r ≡ true
  pub asks : asks_upgrade r ≡ true
  pub key : IsValidKey (field r (codes "sec-websocket-key"))
