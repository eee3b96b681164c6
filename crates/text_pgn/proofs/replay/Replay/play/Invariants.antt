use Rattle.std.proofs.Common.{◌≡◌, ◌+◌, ℕ, List, take}
use Rattle.chess_board.specs.declared.moves.Move.{Move}
use Rattle.text_pgn.specs.Game.{ArePlayed}
use Rattle.text_pgn.specs.Replaying.{IsUnderWay, words_left}
use Rattle.text_pgn.proofs.replay.Replay.play.Given as goal

abbrev pub invariant-loop : goal.invariant-loop
invariant-loop l = record {
  goes : (game : ℕ) → (pgn : List ℕ) → IsUnderWay game pgn l.fn.self → IsUnderWay game pgn l.replay;
  words : l.replay.words ≡ l.fn.self.words;
  forth : (n : ℕ) → (moves : List Move) →
      ArePlayed l.fn.self.board (take (n + l.counter) (words_left l.fn.self)) moves →
      (rest : List Move) × ArePlayed l.replay.board (take n (words_left l.replay)) rest;
  at : l.replay.at ≡ l.fn.self.at + l.counter;
}
