-- What is read from a request.
use Rattle.std.specs.Prelude.{ℕ, Bool, true, false, not, ◌&&◌, ◌||◌, List, [], ◌∷◌, Option, None, Some, is_some}
use Rattle.std.specs.Prelude.{unwrap_or, bytes_eq, codes, length, take, drop, nat_lt, nat_le, ◌-◌, ◌==◌, slice_get}
use Rattle.std.specs.Prelude.{reverse, if◌then◌else◌}
use Rattle.std.specs.List.{list_all}
use Rattle.std.specs.Char.{is_ascii_digit}
use Rattle.http.specs.declared.request.Request.{Request}
use Rattle.http.specs.declared.version.Version.{Version}
use Rattle.http.specs.declared.version.Http.{Http}
use Rattle.http.specs.declared.version.Http.TheVariants.{Http09, Http10, Http11, H2, H3}
use Rattle.http.specs.Request.{head_of}
use Rattle.http_header.specs.FieldValue.{FieldValue}
use Rattle.http_header.specs.HeaderMap.{get, get_all}
use Rattle.http_uri.specs.Uri.{uri_authority, uri_path, uri_scheme}
use Rattle.http1.specs.Fields.{known_fields}
use Rattle.http1.specs.Text.{eq_ignore_case}
use Rattle.httparse.specs.Grammar.{trim_ows}
use Rattle.lobby_web.specs.declared.site.Site.{Site}
use Rattle.lobby_web.specs.Pages.{has_host, is_same_host}

abbrev pub bytes_of : Option FieldValue → List ℕ
bytes_of None = []
bytes_of (Some value) = value.bytes

-- the value of the first field of this name, in small letters; nothing where there is none
abbrev pub field : Request (List ℕ) → List ℕ → List ℕ
field r name = bytes_of (get (head_of r).headers name)

abbrev pub path_of : Request (List ℕ) → List ℕ
path_of r = uri_path (head_of r).uri

-- how often a field of this name stands there
abbrev pub count_of : Request (List ℕ) → List ℕ → ℕ
count_of r name = length (get_all (head_of r).headers name)

-- the value of the last field of this name; nothing where there is none
abbrev pub last_field : Request (List ℕ) → List ℕ → List ℕ
last_field r name = let values = get_all (head_of r).headers name in bytes_of (slice_get values (length values - 1))

-- the host that it names: that of its target, where it has one, and then whatever the field Host says (RFC 9112, 3.2.2)
abbrev pub host_of : Request (List ℕ) → List ℕ
host_of r = unwrap_or (uri_authority (head_of r).uri) (field r (codes "host"))

-- the scheme of its target; nothing where it has none
abbrev pub scheme_of : Request (List ℕ) → List ℕ
scheme_of r = unwrap_or (uri_scheme (head_of r).uri) []

-- Its target is a path, or an address of http, and not of another scheme, or a host alone.
abbrev pub is_by_http : Request (List ℕ) → Bool
is_by_http r = not (is_some (uri_authority (head_of r).uri)) || eq_ignore_case (scheme_of r) (codes "http")

-- It names a host that is taken.
abbrev pub is_taken : Site → Request (List ℕ) → Bool
is_taken site r = is_by_http r && has_host site (host_of r)

-- An origin is this scheme and this host.
abbrev pub is_page_of : List ℕ → List ℕ → List ℕ → List ℕ → Bool
is_page_of scheme port host origin =
    bytes_eq (take (length scheme) origin) scheme && is_same_host port (drop (length scheme) origin) host

-- It comes from a page of the host that it names, and says once from which.
abbrev pub is_from_page : Request (List ℕ) → Bool
is_from_page r =
    nat_le (count_of r (codes "origin")) 1
    && (is_page_of (codes "http://") (codes ":80") (host_of r) (field r (codes "origin"))
    || is_page_of (codes "https://") (codes ":443") (host_of r) (field r (codes "origin")))

-- `Connection` lists `upgrade`
abbrev pub lists_upgrade : List ℕ → Bool
lists_upgrade connection = (known_fields ((codes "connection", connection) ∷ [])).connection_upgrade

abbrev pub is_11 : Http → Bool
is_11 Http09 = false
is_11 Http10 = false
is_11 Http11 = true
is_11 H2 = false
is_11 H3 = false

-- HTTP/1.1: a request of HTTP/1.0 asks for no other protocol, whatever its fields say (RFC 9110, 7.8).
abbrev pub is_1_1 : Version → Bool
is_1_1 version = is_11 version.0

-- It asks to go on as a WebSocket of version 13.
abbrev pub asks_upgrade : Request (List ℕ) → Bool
asks_upgrade r =
    is_1_1 (head_of r).version
    && bytes_eq (head_of r).method (codes "GET")
    && lists_upgrade (field r (codes "connection"))
    && eq_ignore_case (field r (codes "upgrade")) (codes "websocket")
    && bytes_eq (field r (codes "sec-websocket-version")) (codes "13")

-- It only reads.
abbrev pub only_reads : Request (List ℕ) → Bool
only_reads r = bytes_eq (head_of r).method (codes "GET") || bytes_eq (head_of r).method (codes "HEAD")

-- It is for the page's socket.
abbrev pub asks_socket : Request (List ℕ) → Bool
asks_socket r = bytes_eq (path_of r) (codes "/ws")

-- a list without what stands behind its last comma; here from its end on
abbrev pub from_comma : List ℕ → List ℕ
from_comma [] = []
from_comma (b ∷ bs) = if b == 44 then b ∷ bs else from_comma bs

abbrev pub before_last : List ℕ → List ℕ
before_last value = reverse (from_comma (reverse value))

-- the last element of a list, without the white space around it (RFC 9110, 5.6.1)
abbrev pub last_element : List ℕ → List ℕ
last_element value = trim_ows (drop (length (before_last value)) value)

-- the text of the address for which the last proxy says that it asks
abbrev pub forwarded_text : Request (List ℕ) → List ℕ
forwarded_text r = last_element (last_field r (codes "x-forwarded-for"))

-- the digits of a number
abbrev pub is_number : List ℕ → Bool
is_number text = nat_lt 0 (length text) && list_all is_ascii_digit text

-- `/board/` and the digits of a number name a game's board.
abbrev pub names_game : List ℕ → Bool
names_game path = bytes_eq (take 7 path) (codes "/board/") && is_number (drop 7 path)

-- a game's board, or the wall of all boards
abbrev pub is_board : List ℕ → Bool
is_board path = bytes_eq path (codes "/boards") || names_game path

-- the path of the file that is served at a path
abbrev pub served_path : List ℕ → List ℕ
served_path path = if is_board path then codes "/board.html" else path
