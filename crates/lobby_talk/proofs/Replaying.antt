-- What a replay brings is the answer to `line G`.
use Rattle.std.proofs.Common.{◌≡◌, ℕ, List, Option, None, Some, codes, inr, sym, subst}
use Rattle.text_pgn.specs.Game.{NoStart, TellsNone}
use Rattle.text_pgn.specs.Answer.{IsLineAnswer}
use Rattle.text_pgn.specs.Replaying.{IsWhole}
use Rattle.lobby_talk.specs.Making.{IsOfLine, lines_behind}
use Rattle.lobby_talk.specs.Replays.{IsNumberIn}
use Rattle.lobby_talk.specs.Keeping.{HasNone}
use Rattle.lobby_talk.specs.Replaying.{GoesOn, BeginsOf, IsSet, Replays}
use Rattle.lobby_talk.specs.declared.kept_answer.KeptAnswer.{KeptAnswer}
use Rattle.lobby_talk.specs.declared.under_way.UnderWay.{UnderWay}
use Rattle.lobby_talk.specs.declared.under_way.Going.{Going}
use Rattle.lobby_talk.specs.declared.under_way.Going.TheVariants.{More, Whole}

pub whole_of_line : (text answer : List ℕ) (game : ℕ) → IsNumberIn text game → IsWhole game (lines_behind text) answer →
    IsOfLine text answer
whole_of_line text answer game named whole = record {
  told = λ number start moves small word tells.
      subst (λ (n : ℕ). IsLineAnswer n start moves answer) (named number small word) (whole.answers start moves tells);
  none = λ nothing. absurd (nothing whole.tells.0 whole.tells.1 whole.tells.2);
}

-- a text without a start tells no game
pub no_game : (text : List ℕ) → NoStart text → TellsNone text
no_game text none = λ start moves tells. none start tells.begun

pub none_of_line : (text answer : List ℕ) → TellsNone (lines_behind text) → answer ≡ codes "lost\n" → IsOfLine text answer
none_of_line text answer none is = record {
  told = λ number start moves small word tells. absurd (none start moves tells);
  none = λ nothing. is;
}

-- what was under way has gone on so
pub set_goes : (kept : List KeptAnswer) (next : Option (List ℕ)) (old : UnderWay) (going : Going) (replay : Option UnderWay)
    (answer : Option KeptAnswer) →
    IsSet going replay answer → GoesOn old going → Replays kept next (Some old) replay answer
set_goes kept next old (More new) replay answer (is, none) goes =
    subst (λ (r : Option UnderWay). Replays kept next (Some old) r answer) (sym is)
    (subst (λ (a : Option KeptAnswer). Replays kept next (Some old) (Some new) a) (sym none) goes)
set_goes kept next old (Whole one) replay answer (none, is) goes =
    subst (λ (r : Option UnderWay). Replays kept next (Some old) r answer) (sym none)
    (subst (λ (a : Option KeptAnswer). Replays kept next (Some old) None a) (sym is) goes)

-- what begins is under way then, or is the answer
pub set_begins : (kept : List KeptAnswer) (text : List ℕ) (going : Going) (replay : Option UnderWay)
    (answer : Option KeptAnswer) →
    IsSet going replay answer → HasNone kept text → BeginsOf text going → Replays kept (Some text) None replay answer
set_begins kept text (More new) replay answer (is, none) none_yet begins =
    subst (λ (r : Option UnderWay). Replays kept (Some text) None r answer) (sym is)
    (subst (λ (a : Option KeptAnswer). Replays kept (Some text) None (Some new) a) (sym none) (none_yet, begins))
set_begins kept text (Whole one) replay answer (none, is) none_yet begins =
    subst (λ (r : Option UnderWay). Replays kept (Some text) None r answer) (sym none)
    (subst (λ (a : Option KeptAnswer). Replays kept (Some text) None None a) (sym is) (inr (none_yet, begins)))
