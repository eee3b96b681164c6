-- What a player's round is in a report.
use Rattle.std.specs.Prelude.{ℕ, ◌==◌, Bool, true, false, List, [], ◌∷◌, if◌then◌else◌}
use Rattle.night_report.specs.declared.cells.Opponent.{Opponent}
use Rattle.night_report.specs.declared.cells.Opponent.TheVariants as opponents
use Rattle.night_report.specs.declared.cells.Bye.{Bye}
use Rattle.night_report.specs.declared.cells.Bye.TheVariants as byes
use Rattle.night_report.specs.declared.cells.Cell.{Cell}
use Rattle.night_report.specs.declared.cells.Meeting.{Meeting}
use Rattle.night_report.specs.declared.cells.Score.{Score}
use Rattle.night_report.specs.declared.cells.Score.TheVariants as scores
use Rattle.night_report.specs.declared.cells.Play.{Play}
use Rattle.night_report.specs.declared.cells.Play.TheVariants as plays

-- the sign of a win, of a draw and of a loss, by how it came: over the board, by less than a move each, by a forfeit
abbrev pub win_sign : Play → ℕ
win_sign plays.Board = 49
win_sign plays.Short = 87
win_sign plays.Forfeit = 43

abbrev pub draw_sign : Play → ℕ
draw_sign plays.Board = 61
draw_sign plays.Short = 68
draw_sign plays.Forfeit = 61

abbrev pub loss_sign : Play → ℕ
loss_sign plays.Board = 48
loss_sign plays.Short = 76
loss_sign plays.Forfeit = 45

-- half a point for one side alone: no forfeit, for which a report has no sign of a draw, nor then of a loss
abbrev pub half_play : Play → Play
half_play plays.Board = plays.Board
half_play plays.Short = plays.Short
half_play plays.Forfeit = plays.Board

-- not played: a player, or of a match whoever plays at any of its boards, did not come
abbrev pub is_forfeit : Play → Bool
is_forfeit plays.Board = false
is_forfeit plays.Short = false
is_forfeit plays.Forfeit = true

-- White's sign and half points; a game that goes on has a space
abbrev pub white_sign : Score → Play → ℕ
white_sign scores.White play = win_sign play
white_sign scores.Black play = loss_sign play
white_sign scores.Draw play = draw_sign play
white_sign scores.HalfWhite play = draw_sign play
white_sign scores.HalfBlack play = loss_sign (half_play play)
white_sign scores.Neither play = loss_sign play
white_sign scores.Open play = 32

abbrev pub white_halves : Score → ℕ
white_halves scores.White = 2
white_halves scores.Black = 0
white_halves scores.Draw = 1
white_halves scores.HalfWhite = 1
white_halves scores.HalfBlack = 0
white_halves scores.Neither = 0
white_halves scores.Open = 0

-- with the colours changed; so Black's are White's of this
abbrev pub turned : Score → Score
turned scores.White = scores.Black
turned scores.Black = scores.White
turned scores.Draw = scores.Draw
turned scores.HalfWhite = scores.HalfBlack
turned scores.HalfBlack = scores.HalfWhite
turned scores.Neither = scores.Neither
turned scores.Open = scores.Open

-- a bye's sign, `U`, `F`, `H` or `Z`, and half points
abbrev pub bye_sign : Bye → ℕ
bye_sign byes.Pairing = 85
bye_sign byes.Full = 70
bye_sign byes.Half = 72
bye_sign byes.Zero = 90

abbrev pub bye_halves : Bye → ℕ
bye_halves byes.Pairing = 2
bye_halves byes.Full = 2
bye_halves byes.Half = 1
bye_halves byes.Zero = 0

abbrev pub bye_cell : Bye → Cell
bye_cell bye =
    record { opponent = 0; colour = 45; sign = bye_sign bye; halves = bye_halves bye; is_forfeit = false }

-- `w`, and White's opponent, or a bye
abbrev pub white_cell : Meeting → Opponent → Cell
white_cell m (opponents.Bye bye) = bye_cell bye
white_cell m (opponents.Player black) =
    record {
      opponent = black;
      colour = 119;
      sign = white_sign m.score m.play;
      halves = white_halves m.score;
      is_forfeit = is_forfeit m.play;
    }

abbrev pub black_cell : Meeting → Cell
black_cell m =
    record {
      opponent = m.white;
      colour = 98;
      sign = white_sign (turned m.score) m.play;
      halves = white_halves (turned m.score);
      is_forfeit = is_forfeit m.play;
    }

-- who is not paired: `Z`, no point
abbrev pub absent : Cell
absent = bye_cell byes.Zero

abbrev pub is_number : ℕ → Opponent → Bool
is_number n (opponents.Bye bye) = false
is_number n (opponents.Player m) = m == n

-- the round of the player of this number, by the first meeting in which the player has a seat
abbrev pub cell_in : ℕ → List Meeting → Cell
cell_in n [] = absent
cell_in n (m ∷ ms) =
    if m.white == n then white_cell m m.black else (if is_number n m.black then black_cell m else cell_in n ms)
