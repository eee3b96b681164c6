use Rattle.std.proofs.Common.{ℕ, ◌≡◌, List, [], ◌∷◌, decimal, Some, ap, ◌∙◌, arith}
use Rattle.chess_entry.specs.declared.commands.Act.{Act}
use Rattle.chess_line.specs.Fields.{IsNumber}
use Rattle.chess_line.specs.Line.{IsSayable, act_fields}
use Rattle.chess_line.proofs.Cases.{act_told, is_told}
use Rattle.chess_line.proofs.acts.game_act.Goals as goal

every : (word name : List ℕ) (game : ℕ) → word ≡ name → IsNumber game → (act : Act) → IsSayable act →
    act_fields act ≡ word ∷ decimal game ∷ [] → act_told name game ≡ Some act
every word name game is small act s e = is_told act name game s small (e ∙ ap (λ w. w ∷ decimal game ∷ []) is)

pub returns-in-join-clause-every : goal.returns-in-join-clause-every
returns-in-join-clause-every c = every c.args.word.now _ c.args.game c.in-join.is (omega arith)

pub returns-in-offer-clause-every : goal.returns-in-offer-clause-every
returns-in-offer-clause-every c = every c.args.word.now _ c.args.game c.in-offer.is (omega arith)

pub returns-in-accept-clause-every : goal.returns-in-accept-clause-every
returns-in-accept-clause-every c = every c.args.word.now _ c.args.game c.in-accept.is (omega arith)

pub returns-in-decline-clause-every : goal.returns-in-decline-clause-every
returns-in-decline-clause-every c = every c.args.word.now _ c.args.game c.in-decline.is (omega arith)

pub returns-in-resign-clause-every : goal.returns-in-resign-clause-every
returns-in-resign-clause-every c = every c.args.word.now _ c.args.game c.in-resign.is (omega arith)

pub returns-in-flag-clause-every : goal.returns-in-flag-clause-every
returns-in-flag-clause-every c = every c.args.word.now _ c.args.game c.in-flag.is (omega arith)

pub returns-in-drop-clause-every : goal.returns-in-drop-clause-every
returns-in-drop-clause-every c = every c.args.word.now _ c.args.game c.in-drop.is (omega arith)

pub returns-in-show-clause-every : goal.returns-in-show-clause-every
returns-in-show-clause-every c = every c.args.word.now _ c.args.game c.in-show.is (omega arith)

pub returns-in-fen-clause-every : goal.returns-in-fen-clause-every
returns-in-fen-clause-every c = every c.args.word.now _ c.args.game c.in-fen.is (omega arith)

pub returns-in-pgn-clause-every : goal.returns-in-pgn-clause-every
returns-in-pgn-clause-every c = every c.args.word.now _ c.args.game c.in-pgn.is (omega arith)
