-- What the bytes say that came of a browser's socket since it came, and those that were written to it.
use Rattle.std.specs.Prelude.{ℕ, ◌≡◌, ◌⊎◌, false, List, [], ◌∷◌, ◌++◌}
use Rattle.websocket.specs.Connection.{Outgoing}
use Rattle.http_server.specs.Connection.{config_of, history}
use Rattle.http_server.specs.Exchange.{Call}
use Rattle.http_server.specs.History.{History, IsServed, new_history}
use Rattle.lobby_web.specs.declared.browser.Stage.{Stage}
use Rattle.lobby_web.specs.declared.browser.Stage.TheVariants as At
use Rattle.lobby_web.specs.declared.site.Site.{Site}
use Rattle.lobby_web.specs.declared.socket.Socket.{Socket}
use Rattle.lobby_web.specs.Answering.{IsGranted}
use Rattle.lobby_web.specs.Browsing.{web_config, AreAnswered}
use Rattle.lobby_web.specs.Frames.{frames_bytes, texts_sent}
use Rattle.lobby_web.specs.Happening.{Heeds, text_if}
use Rattle.lobby_web.specs.Talking.{IsFresh, may_say}
use Rattle.lobby_loop.specs.Doing.{Doing, Took, Tried, Gave, WasTold, Wrote, has_opened, texts_given, texts_told}

-- all bytes that came, and all that were written
abbrev pub bytes_came : List Doing → List ℕ
bytes_came [] = []
bytes_came (Took site bytes ∷ past) = bytes_came past ++ bytes
bytes_came (Tried ∷ past) = bytes_came past
bytes_came (Gave heard ∷ past) = bytes_came past
bytes_came (WasTold content answer ∷ past) = bytes_came past
bytes_came (Wrote site bytes ∷ past) = bytes_came past

abbrev pub bytes_written : List Doing → List ℕ
bytes_written [] = []
bytes_written (Took site bytes ∷ past) = bytes_written past
bytes_written (Tried ∷ past) = bytes_written past
bytes_written (Gave heard ∷ past) = bytes_written past
bytes_written (WasTold content answer ∷ past) = bytes_written past
bytes_written (Wrote site bytes ∷ past) = bytes_written past ++ bytes

-- of the texts that it was to be told those that were put behind what waits, in their order
abbrev pub texts_said : List Doing → List (List ℕ)
texts_said [] = []
texts_said (Took site bytes ∷ past) = texts_said past
texts_said (Tried ∷ past) = texts_said past
texts_said (Gave heard ∷ past) = texts_said past
texts_said (WasTold content answer ∷ past) = texts_said past ++ text_if content answer
texts_said (Wrote site bytes ∷ past) = texts_said past

-- texts that are told the newest first, in their order
abbrev pub in_order : List (List ℕ) → List (List ℕ)
in_order [] = []
in_order (text ∷ before) = in_order before ++ text ∷ []

-- Nothing was given to the desk, and nothing was to be told.
pub record IsSilent (past : List Doing) : Type 0 where
  pub closed : has_opened past ≡ false
  pub given : texts_given past ≡ []
  pub told : texts_told past ≡ []
  pub said : texts_said past ≡ []

-- Requests were answered where bytes came, and where bytes were written for which they had waited; each by the site
-- that was served then.
abbrev pub AreAnsweredBy : List Doing → List Call → Type 0
AreAnsweredBy [] calls = calls ≡ []
AreAnsweredBy (Took site bytes ∷ past) calls =
    (before : List Call) × (new : List Call) × (calls ≡ before ++ new) × AreAnsweredBy past before
    × AreAnswered site new
AreAnsweredBy (Tried ∷ past) calls = AreAnsweredBy past calls
AreAnsweredBy (Gave heard ∷ past) calls = AreAnsweredBy past calls
AreAnsweredBy (WasTold content answer ∷ past) calls = AreAnsweredBy past calls
AreAnsweredBy (Wrote site bytes ∷ past) calls =
    (before : List Call) × (new : List Call) × (calls ≡ before ++ new) × AreAnsweredBy past before
    × AreAnswered site new

-- one of the sites that were served then
abbrev pub IsSiteIn : Site → List Doing → Type 0
IsSiteIn one [] = ⊥
IsSiteIn one (Took site bytes ∷ past) = (one ≡ site) ⊎ IsSiteIn one past
IsSiteIn one (Tried ∷ past) = IsSiteIn one past
IsSiteIn one (Gave heard ∷ past) = IsSiteIn one past
IsSiteIn one (WasTold content answer ∷ past) = IsSiteIn one past
IsSiteIn one (Wrote site bytes ∷ past) = (one ≡ site) ⊎ IsSiteIn one past

-- What HTTP has done with these bytes: the requests among those that came have the answers of the site that was served
-- then, and what was written and what waits are these.
pub record IsByHttp (past : List Doing) (came written : List ℕ) (h : History) : Type 0 where
  pub served : (h ≡ new_history) ⊎ ∥ IsServed web_config h ∥₁
  pub answered : AreAnsweredBy past h.calls
  pub received : h.received ≡ came
  pub sent : h.sent ≡ written

-- The last of these requests was answered by an upgrade, which the site that was served then grants.
pub record IsSwitched (past : List Doing) (h : History) : Type 0 where
  pub before : List Call
  pub last : Call
  pub calls : h.calls ≡ before ++ last ∷ []
  pub status : last.1.status ≡ 101
  pub site : Site
  pub among : IsSiteIn site past
  pub granted : IsGranted site last.0

-- What a socket has done. HTTP took a front of the bytes that came, up to the upgrade; behind that these are frames.
-- The texts of all frames that are whole were given to the desk, each once and in their order; but a last one may be
-- lost for want of memory, and then it is over. What was written and what waits are HTTP's answers and whole frames
-- behind them, and the texts among these are those that it was told, in their order: a front of all that it was to be
-- told, and all of it while its socket is open.
pub record IsBySocket (past : List Doing) (socket : Socket) : Type 0 where
  pub last : History
  pub first : Socket
  pub came : List ℕ
  pub later : List ℕ
  pub came_is : bytes_came past ≡ came ++ later
  pub written : List ℕ
  pub wrote : List ℕ
  pub written_is : bytes_written past ≡ written ++ wrote
  pub http : IsByHttp past came written last
  pub switched : IsSwitched past last
  pub fresh : IsFresh first
  pub heeds : Heeds first.context (last.unread ++ later) (in_order (texts_given past)) socket
  pub outs : List Outgoing
  pub goes : wrote ++ socket.output.items ≡ last.pending ++ frames_bytes outs
  pub texts : texts_sent outs ≡ texts_said past
  pub missed : List (List ℕ)
  pub told : texts_told past ≡ texts_said past ++ missed
  pub while_open : (missed ≡ []) ⊎ (may_say socket ≡ false)

-- What the bytes of a browser say, by where its connection stands. Over is one that memory was refused.
abbrev pub Speaks : List Doing → Stage → Type 0
Speaks past (At.Http connection) =
    (config_of connection ≡ web_config) × IsByHttp past (bytes_came past) (bytes_written past) (history connection)
    × IsSilent past
Speaks past (At.Socket socket) = IsBySocket past socket
Speaks past At.Over = IsSilent past
