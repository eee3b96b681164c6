use Rattle.chess_entry.specs.Follow.{moved}
use Rattle.chess_game.proofs.KeptGame.{IsGame-moved}
use Rattle.chess_game.proofs.Shown.{Shows-kept, IsGame-kept, IsSound-shown, state_of-shown}
use Rattle.chess_game.proofs.Acts.{HasRoom-playable, TimesFit-turn, play-shows}
use Rattle.chess_game.proofs.games.Game.play.Goals as goal

pub push-requires-clause-room : goal.push-requires-clause-room
push-requires-clause-room c =
    let game = c.args.self.now in
    HasRoom-playable c.self.inside game (Shows-kept c.self.inside game c.self.view_is c.self.invariant)
    (IsGame-kept c.self.inside game c.self.view_is c.self.invariant) c.requires.playable.room

pub finish_turn-requires-clause-fits : goal.finish_turn-requires-clause-fits
finish_turn-requires-clause-fits c =
    let game = c.args.self.now in
    TimesFit-turn game c.args.at c.args.mv c.self.inside.sides
    (Shows-kept c.self.inside game c.self.view_is c.self.invariant).sides
    (IsGame-kept c.self.inside game c.self.view_is c.self.invariant) c.requires.in_time.running c.requires.playable

pub invariant_of-self-2 : goal.invariant_of-self-2
invariant_of-self-2 c =
    let game = c.args.self.now in
    IsSound-shown _ (moved game c.args.at c.args.mv)
    (play-shows c.self.inside game c.args.at c.args.mv c.side-mover.result c.board.result.now c.in_ok-ending.ending
    c.push.new.self c.finish_turn.new.self c.self.view_is c.self.invariant c.requires.in_time
    c.side-mover.ensures c.board.ensures c.in_ok-ending.ensures.pushed c.in_ok-ending.ensures.ending c.finish_turn.ensures)
    (IsGame-moved game c.args.at c.args.mv (IsGame-kept c.self.inside game c.self.view_is c.self.invariant)
    c.requires.in_time c.requires.playable)

pub returns-clause-made : goal.returns-clause-made
returns-clause-made c =
    let game = c.args.self.now in
    state_of-shown _ (moved game c.args.at c.args.mv)
    (play-shows c.self.inside game c.args.at c.args.mv c.side-mover.result c.board.result.now c.in_ok-ending.ending
    c.push.new.self c.finish_turn.new.self c.self.view_is c.self.invariant c.requires.in_time
    c.side-mover.ensures c.board.ensures c.in_ok-ending.ensures.pushed c.in_ok-ending.ensures.ending c.finish_turn.ensures)
