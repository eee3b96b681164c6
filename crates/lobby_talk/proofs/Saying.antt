-- How the desk takes a message.
use Rattle.std.proofs.Common.{ℕ, ◌≡◌, Bool, true, false, List, refl}
use Rattle.lobby_desk.specs.Who.{until_of, said_event}
use Rattle.lobby_desk.specs.Pace.{is_too_fast}
use Rattle.lobby_talk.specs.declared.talk.Talk.{Talk}
use Rattle.lobby_talk.specs.Talking.{InTime, TooFast, Moves, Says, said_at}

says_at : (text : List ℕ) (c at : ℕ) (old new : Talk) (b : Bool) → is_too_fast (until_of old.desk c) at ≡ b → Moves old (said_event b c text at) new →
    Says text c at old new
says_at text c at old new true is moves = record { how = TooFast; may = is; moves = moves }
says_at text c at old new false is moves = record { how = InTime at; may = (is, refl); moves = moves }

pub said_says : (text : List ℕ) (c at : ℕ) (old new : Talk) → Moves old (said_at old c at text) new → Says text c at old new
said_says text c at old new moves = says_at text c at old new (is_too_fast (until_of old.desk c) at) refl moves
