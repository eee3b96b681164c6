-- Whose turn it is.
use Rattle.std.specs.Prelude.{ℕ, ◌≡◌, ◌+◌, ◌⊎◌, Bool, true, false, Some}
use Rattle.lobby_desk.specs.declared.desk.Desk.{Desk}
use Rattle.lobby_web.specs.Browsing.{unread}
use Rattle.lobby_talk.specs.Front.{has_brief, may_be_act}
use Rattle.lobby_guests.specs.declared.guest.Guest.{Guest}
use Rattle.lobby_talk.specs.declared.talk.Talk.{Talk}
use Rattle.lobby_guests.specs.declared.rounds.Asks.{Asks}
use Rattle.lobby_guests.specs.declared.rounds.Strangers.{Strangers}
use Rattle.lobby_guests.specs.Paces.{paid_by, may_act, acts_from, PaysIf}
use Rattle.lobby_guests.specs.Guests.{Room, MayBeAsked, IsPaced, IsAhead, is_at, behind, is_at_once, is_turn_of, earlier}
pub use Rattle.lobby_guests.specs.Guests.{room_of}

-- the desk, and how many more who act for nobody are attended in this turn
abbrev pub others_room : Talk → Strangers → Room
others_room talk strangers = record { talk = talk; left = strangers.round.left + strangers.fresh }

-- Whether a player may act; where he may not, his next act is due when he may.
abbrev pub LetsAct : Bool → ℕ → ℕ → Asks → Asks → Type 0
LetsAct true player at old new = (may_act at (paid_by old.paces player) ≡ true) × (new ≡ old)
LetsAct false player at old new =
    (may_act at (paid_by old.paces player) ≡ false)
    × (new ≡ record old { next_act = earlier old.next_act (Some (acts_from (paid_by old.paces player))) })

-- Nobody has a turn.
pub record KeepsRounds (old new : Asks) : Type 0 where
  pub brief : new.brief ≡ old.brief
  pub long : new.long ≡ old.long
  pub asker : new.asker ≡ old.asker

-- He pays for an act, if it is one, and nothing else changes.
pub record PaysAct (is_act : Bool) (player at : ℕ) (old new : Asks) : Type 0 where
  pub pays : PaysIf is_act at player old.paces new.paces
  pub rounds : KeepsRounds old new
  pub next_act : new.next_act ≡ old.next_act

-- what asks for little has its turn
abbrev pub TakesBrief : {S : Type 0} → Guest S → Asks → Asks → Type 0
TakesBrief guest old new =
    (has_brief (unread guest.browser.stage) ≡ true) × (is_at guest.key old.brief ≡ true)
    × (new ≡ record old { brief = behind guest.key old.brief })

-- what may ask for much has, and it is known who asked
abbrev pub TakesLong : {S : Type 0} → Guest S → Asks → Asks → Type 0
TakesLong guest old new =
    (has_brief (unread guest.browser.stage) ≡ false) × (is_at guest.key old.long ≡ true)
    × (new ≡ record old { long = behind guest.key old.long; asker = guest.number })

-- One in whose front no act stands has such a turn, where it may be asked; or it may not be, or it is not its turn.
abbrev pub TakesTurn : {S : Type 0} → Bool → Desk → Guest S → Asks → Asks → Type 0
TakesTurn true desk guest old new = MayBeAsked desk guest × (TakesBrief guest old new ⊎ TakesLong guest old new)
TakesTurn false desk guest old new =
    (new ≡ old) × (MayBeAsked desk guest → is_turn_of guest old.brief old.long ≡ false)

-- The same, and an act, or nothing at all, has its turn at once, and takes nobody's.
abbrev pub HasTurn : {S : Type 0} → Bool → Desk → Guest S → Asks → Asks → Type 0
HasTurn true desk guest old new =
    (is_at_once (unread guest.browser.stage) ≡ true) × (new ≡ old)
    ⊎ (is_at_once (unread guest.browser.stage) ≡ false) × TakesTurn true desk guest old new
HasTurn false desk guest old new =
    (is_at_once (unread guest.browser.stage) ≡ false) × TakesTurn false desk guest old new

-- One is asked that has its turn, and whose player pays for it where it may be an act; or it waits.
abbrev pub IsToAsk : {S : Type 0} → Bool → Talk → ℕ → Guest S → Asks → Asks → Type 0
IsToAsk true talk at guest old new =
    IsPaced at guest (room_of talk old) (room_of talk new)
    × (turned : Asks) × HasTurn true talk.desk guest old turned × KeepsRounds turned new
IsToAsk false talk at guest old new =
    IsAhead at guest guest (room_of talk old) (room_of talk new) ⊎ HasTurn false talk.desk guest old new
