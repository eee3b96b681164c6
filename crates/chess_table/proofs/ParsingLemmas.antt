-- What a text tells, and the times that are in their ranges.
use Rattle.std.specs.Prelude.{ℕ, ◌≡◌, ◌&&◌, nat_le, true, List, Option, Some, None}
use Rattle.std.specs.Option.{ForSome}
use Rattle.std.proofs.Common.{subst, refl}
use Rattle.std.proofs.lemmas.Bool.{leb-true, and_parts}
use Rattle.chess_bits.specs.Square.{squares}
use Rattle.chess_bits.specs.Table.{at}
use Rattle.chess_board.specs.declared.moves.Move.{Move}
use Rattle.chess_board.specs.Position.{Position, IsValid}
use Rattle.chess_board.specs.Initial.{initial as start_position}
use Rattle.chess_board.specs.Legal.{IsLegal}
use Rattle.chess_board.proofs.Deciding.{Decides-is_valid}
use Rattle.chess_clock.specs.TimeControl.{IsTimeControl, IsPeriod, time_control}
use Rattle.chess_entry.specs.State.{GameState, position_of}
use Rattle.chess_entry.specs.Parsed.{IsStartParsed, IsMoveParsed}
use Rattle.chess_entry.specs.Verdict.{is_period, are_times}

-- a move that a text tells is legal
pub legal_parsed : (game : GameState) (text : Option (List ℕ)) (move : Option Move) (m : Move)
    → IsMoveParsed (Some game) text move → move ≡ Some m → IsLegal (position_of game) m
legal_parsed game None move m is states = absurd (cc)
legal_parsed game (Some text) None m is states = absurd (cc)
legal_parsed game (Some text) (Some n) m is states =
    let same : n ≡ m = cc in subst (λ (x : Move). IsLegal (position_of game) x) same is.legal

initial_valid : IsValid start_position
unfolding at squares
initial_valid = (Decides-is_valid start_position).0 refl

-- a start that a text tells is valid
pub start_valid : (text : Option (List ℕ)) (start : Option Position) (p : Position) → IsStartParsed text start → start ≡ Some p
    → IsValid p
start_valid None start p is states =
    let same : start_position ≡ p = cc in subst IsValid same initial_valid
start_valid (Some text) None p is states = absurd (cc)
start_valid (Some text) (Some q) p is states = let same : q ≡ p = cc in subst IsValid same is.0

-- ---- times

pub IsTimeControl-of : (initial increment : ℕ) (period : Option (ℕ × ℕ)) → are_times initial increment period ≡ true
    → IsTimeControl (time_control initial increment period)
IsTimeControl-of initial increment period so =
    let all = and_parts (nat_le 1 initial && nat_le initial 86400 && nat_le increment 60) (is_period period) so in
    let three = and_parts (nat_le 1 initial && nat_le initial 86400) (nat_le increment 60) all.0 in
    let two = and_parts (nat_le 1 initial) (nat_le initial 86400) three.0 in
    record {
      initial_from = leb-true 1 initial two.0;
      initial_to = leb-true initial 86400 two.1;
      increment_to = leb-true increment 60 three.1;
      period_in_range = ranges period all.1;
    }
  where
    ranges : (o : Option (ℕ × ℕ)) → is_period o ≡ true → ForSome o IsPeriod
    ranges None so p is = absurd (cc)
    ranges (Some q) so p is =
        let all = and_parts (nat_le 1 q.0 && nat_le q.0 255 && nat_le 1 q.1) (nat_le q.1 86400) so in
        let three = and_parts (nat_le 1 q.0 && nat_le q.0 255) (nat_le 1 q.1) all.0 in
        let two = and_parts (nat_le 1 q.0) (nat_le q.0 255) three.0 in
        let in_range : IsPeriod q = record {
          moves_from = leb-true 1 q.0 two.0;
          moves_to = leb-true q.0 255 two.1;
          seconds_from = leb-true 1 q.1 three.1;
          seconds_to = leb-true q.1 86400 all.1;
        } in
        let same : q ≡ p = cc in
        subst IsPeriod same in_range
