-- One browser's connection, from its first byte on.
use Rattle.std.specs.Prelude.{ℕ, ◌≡◌, ◌≢◌, ◌<◌, ◌≤◌, Bool, true, false, List, [], ◌∷◌, ◌++◌, drop, length, ⊤, Option}
use Rattle.std.specs.Prelude.{None, Result, Err}
use Rattle.std.specs.declared.net.ip_addr.IpAddr.{IpAddr}
use Rattle.http_server.specs.declared.state.Config.{Config}
use Rattle.http_server.specs.declared.state.State.TheVariants.{Open, Upgraded}
use Rattle.http_server.specs.Connection.{config_of, history}
use Rattle.http_server.specs.Exchange.{Call}
use Rattle.http_server.specs.History.{History, IsServed, WantsRead, Rests, after_read, after_sent, new_history}
use Rattle.websocket.specs.Content.{Content}
use Rattle.lobby_web.specs.declared.site.Site.{Site}
use Rattle.lobby_web.specs.declared.socket.Socket.{Socket}
use Rattle.lobby_web.specs.declared.socket.Heard.{Heard}
use Rattle.lobby_web.specs.declared.socket.Unsaid.{Unsaid}
use Rattle.lobby_web.specs.declared.socket.Unsaid.TheVariants.{NotOpen}
use Rattle.lobby_web.specs.declared.browser.Stage.{Stage}
use Rattle.lobby_web.specs.declared.browser.Stage.TheVariants as At
use Rattle.lobby_web.specs.Answering.{IsAnswer, IsGranted}
use Rattle.lobby_web.specs.Forwarding.{AreToldBy}
use Rattle.lobby_web.specs.declared.heading.Heading.{Heading}
use Rattle.lobby_web.specs.Heading.{heading_of, is_read}
use Rattle.lobby_web.specs.Talking.{IsFresh, Keeps, TakesIn, Hears, Says, may_say}

-- heads of at most 16,384 bytes, and requests without a body, none answered while something of an answer is to be
-- written
abbrev pub web_config : Config
web_config = record {
  limits = record { max_head_len = 16384; max_extensions_len = 0; max_trailers_len = 1024 };
  max_body_len = 0;
  max_pending = 0;
  read_size = 16384;
}

-- what waits to be written
abbrev pub pending : Stage → List ℕ
pending (At.Http connection) = (history connection).pending
pending (At.Socket socket) = socket.output.items
pending At.Over = []

-- what came of a socket and was not read
abbrev pub unread : Stage → List ℕ
unread (At.Http connection) = []
unread (At.Socket socket) = socket.input.items
unread At.Over = []

-- Each request has the site's answer.
abbrev pub AreAnswered : Site → List Call → Type 0
AreAnswered site [] = ⊤
AreAnswered site (call ∷ calls) = IsAnswer site call.0 call.1 × AreAnswered site calls

-- From one history to another the site answered the requests that were whole, each as `IsAnswer` has it, and what goes
-- out are these answers, as HTTP has them.
pub record Serves (config : Config) (site : Site) (old new : History) : Type 0 where
  pub served : ∥ IsServed config new ∥₁
  pub calls : List Call
  pub called : new.calls ≡ old.calls ++ calls
  pub answered : AreAnswered site calls
  pub rests : Rests config new
  pub received : (new.received ≡ old.received) × (new.sent ≡ old.sent)

-- The last request was answered by an upgrade, and what came behind it and what waits are the socket's.
pub record HandsOver (config : Config) (site : Site) (old : History) (socket : Socket) : Type 0 where
  pub last : History
  pub serves : Serves config site old last
  pub upgraded : last.state ≡ Upgraded
  pub granted : (before : List Call) × (call : Call) × (last.calls ≡ before ++ call ∷ []) × (call.1.status ≡ 101)
      × IsGranted site call.0
  pub fresh : IsFresh socket
  pub input : socket.input.items ≡ last.unread
  pub output : socket.output.items ≡ last.pending

-- Where a connection stands once the site has answered what came by HTTP: on as HTTP, or handed over. Where memory is
-- refused it is over.
abbrev pub Answers : Config → Site → History → Stage → Type 0
Answers config site old (At.Http connection) =
    (config_of connection ≡ config) × Serves config site old (history connection)
    × ((history connection).state ≢ Upgraded)
Answers config site old (At.Socket socket) = HandsOver config site old socket
Answers config site old At.Over = ⊤

-- For whom a proxy says that it asks once the site has answered, by the requests that it answered. Where memory is
-- refused nothing is said of it.
abbrev pub Tells : Config → Site → History → Option IpAddr → Option IpAddr → Stage → Type 0
Tells config site old told after (At.Http connection) =
    (serves : Serves config site old (history connection)) × AreToldBy serves.calls told after
Tells config site old told after (At.Socket socket) =
    (handed : HandsOver config site old socket) × AreToldBy handed.serves.calls told after
Tells config site old told after At.Over = ⊤

-- Bytes are taken: of a socket while it is not over, and neither too many wait to be read nor too many to be written.
abbrev pub WantsBytes : Stage → Type 0
WantsBytes (At.Http connection) = WantsRead (config_of connection) (history connection)
WantsBytes (At.Socket socket) =
    (socket.is_over ≡ false) × (length socket.input.items < 8192) × (length socket.output.items ≤ 65536)
WantsBytes At.Over = ⊥

-- something may be said
abbrev pub is_open : Stage → Bool
is_open (At.Http connection) = false
is_open (At.Socket socket) = may_say socket
is_open At.Over = false

-- it is to be closed once what waits is written
abbrev pub IsOver : Stage → Type 0
IsOver (At.Http connection) = (history connection).state ≢ Open
IsOver (At.Socket socket) = socket.is_over ≡ true
IsOver At.Over = ⊤

-- Nothing was done by HTTP but this. Where memory is refused it is over.
abbrev pub Stays : Config → History → Stage → Type 0
Stays config now (At.Http connection) = (config_of connection ≡ config) × (history connection ≡ now)
Stays config now (At.Socket socket) = ⊥
Stays config now At.Over = ⊤

-- The site answers, or nothing is done yet.
abbrev pub AnswersIf : Bool → Config → Site → History → Stage → Type 0
AnswersIf true config site now new = Answers config site now new
AnswersIf false config site now new = Stays config now new

-- What becomes of bytes that came where bytes are wanted. By HTTP what came is read once a head ends among them, which
-- is when a request may be whole.
abbrev pub TakesBytes : Site → List ℕ → Stage → Stage → Type 0
TakesBytes site bytes (At.Http connection) new =
    AnswersIf (is_read (heading_of (history connection).received) bytes) (config_of connection) site
    (after_read (history connection) bytes) new
TakesBytes site bytes (At.Socket old) new = (socket : Socket) × (new ≡ At.Socket socket) × TakesIn bytes old socket
TakesBytes site bytes At.Over new = ⊥

-- For whom a proxy says that it asks then: as before, where the site does not answer.
abbrev pub TellsIf : Bool → Config → Site → History → Option IpAddr → Option IpAddr → Stage → Type 0
TellsIf true config site now told after new = Tells config site now told after new
TellsIf false config site now told after new = after ≡ told

abbrev pub TellsBytes : Site → List ℕ → Stage → Option IpAddr → Option IpAddr → Stage → Type 0
TellsBytes site bytes (At.Http connection) told after new =
    TellsIf (is_read (heading_of (history connection).received) bytes) (config_of connection) site
    (after_read (history connection) bytes) told after new
TellsBytes site bytes (At.Socket old) told after new = after ≡ told
TellsBytes site bytes At.Over told after new = after ≡ told

-- What becomes of bytes that came: they are taken where bytes are wanted, and else the connection is over.
pub record Takes (site : Site) (bytes : List ℕ) (old new : Stage) : Type 0 where
  pub wanted : WantsBytes old → TakesBytes site bytes old new
  pub unwanted : ¬ (WantsBytes old) → new ≡ At.Over

-- So many of the bytes that waited are written, and the site answers on where it had waited for that.
abbrev pub Writes : Site → ℕ → Stage → Stage → Type 0
Writes site count (At.Http connection) new =
    Answers (config_of connection) site (after_sent (history connection) count) new
Writes site count (At.Socket old) new =
    (socket : Socket) × (new ≡ At.Socket socket) × (socket.output.items ≡ drop count old.output.items)
    × Keeps old socket
Writes site count At.Over new = new ≡ At.Over

-- For whom a proxy says that it asks then.
abbrev pub TellsOn : Site → ℕ → Stage → Option IpAddr → Option IpAddr → Stage → Type 0
TellsOn site count (At.Http connection) told after new =
    Tells (config_of connection) site (after_sent (history connection) count) told after new
TellsOn site count (At.Socket old) told after new = after ≡ told
TellsOn site count At.Over told after new = after ≡ told

-- What a browser's socket gives next; by HTTP it gives nothing.
abbrev pub HearsNext : Stage → Stage → Option Heard → Type 0
HearsNext (At.Http connection) new heard = (heard ≡ None) × (new ≡ At.Http connection)
HearsNext (At.Socket old) new heard = (socket : Socket) × (new ≡ At.Socket socket) × Hears old socket heard
HearsNext At.Over new heard = (heard ≡ None) × (new ≡ At.Over)

-- What becomes of what is to be said: by HTTP nothing is said.
abbrev pub SaysTo : Content → Stage → Stage → Result (Unit {0}) Unsaid → Type 0
SaysTo content (At.Http connection) new result = (result ≡ Err NotOpen) × (new ≡ At.Http connection)
SaysTo content (At.Socket old) new result =
    (socket : Socket) × (new ≡ At.Socket socket) × Says content old socket result
SaysTo content At.Over new result = (result ≡ Err NotOpen) × (new ≡ At.Over)

-- A connection that begins: nothing came, and nothing was said.
abbrev pub IsNew : Stage → Type 0
IsNew (At.Http connection) = (config_of connection ≡ web_config) × (history connection ≡ new_history)
IsNew (At.Socket socket) = ⊥
IsNew At.Over = ⊥

-- how far the head is of the request that comes next; behind HTTP that is no matter
abbrev pub heading_at : Stage → Heading → Heading
heading_at (At.Http connection) heading = heading_of (history connection).received
heading_at (At.Socket socket) heading = heading
heading_at At.Over heading = heading

abbrev pub IsHeaded : Stage → Heading → Type 0
IsHeaded stage heading = heading ≡ heading_at stage heading
