-- The line of moves that were handed in.
use Rattle.std.proofs.Common.{ℕ, ◌≡◌, ◌<◌, ◌≤◌, ◌+◌, suc, true, false, List, [], ◌∷◌, ◌++◌, length, take, drop, get_or, Option, None, refl, sym, ap, ◌∙◌, subst, append_assoc, arith}
use Rattle.std.specs.Prelude.{◌||◌, is_some, nat_le}
use Rattle.std.proofs.Math.Seq.{drop-cons}
use Rattle.std.proofs.lemmas.List.{take-append-drop, length-take-le}
use Rattle.std.proofs.lemmas.Bool.{false≢true, or_parts}
use Rattle.std.proofs.lemmas.Bool.Decides.{nat_tests}
use Rattle.chess_board.specs.declared.moves.Move.{Move}
use Rattle.chess_board.specs.Position.{Position}
use Rattle.chess_board.specs.Next.{next}
use Rattle.chess_board.specs.Legal.{IsLegal}
use Rattle.chess_board.specs.Line.{IsLegalLine}
use Rattle.chess_end.specs.declared.ending.Ending.{Ending}
use Rattle.chess_end.specs.Computing.{is_checkmate, is_stalemate, is_listed_dead}
use Rattle.chess_entry.specs.State.{position_after}
use Rattle.chess_entry.specs.Outcome.{ending_after}
use Rattle.chess_entry.specs.Verdict.{is_finished_at}
use Rattle.chess_entry.specs.Bounds.{IsStart, GoesOnUntilLast, IsScoresheet, ending_by_last}
use Rattle.chess_game.specs.Scoresheet.{ScoresheetState, last_of, with_move, HasRoom}
use Rattle.chess_game.specs.Restored.{IsReplayed}
use Rattle.chess_game.proofs.LineLemmas.{IsLegalLine-push, halfmove-at_most, fullmove-at_most}
use Rattle.chess_game.proofs.KeptLine.{last_split, GoesOnUntilLast-push, ending_by_last-push}

-- ---- a move more

pub GoesOnUntilLast-none : (start : Position) → GoesOnUntilLast start []
GoesOnUntilLast-none start [] m last rest same = absurd cc
GoesOnUntilLast-none start (n ∷ before) m last rest same = absurd cc

pub IsReplayed-none : (start : Position) (line : ScoresheetState) → line ≡ record { start = start; moves = [] }
    → IsReplayed start [] line None
IsReplayed-none start line is = record {
  is_scoresheet = record { legal = tt; goes_on = GoesOnUntilLast-none start };
  start = ap (λ (l : ScoresheetState). l.start) is;
  moves = ap (λ (l : ScoresheetState). l.moves) is;
  ends = refl;
}

pub IsReplayed-begun : (start : Position) (line : ScoresheetState) → line ≡ record { start = start; moves = [] }
    → IsReplayed start [] line (ending_by_last line.start line.moves)
IsReplayed-begun start line is =
    let P : ScoresheetState → Type 0 = λ l. IsReplayed start [] l (ending_by_last l.start l.moves) in
    subst P (sym is) (IsReplayed-none start (record { start = start; moves = [] }) refl)

-- the position that the line leads to
last_is : (start : Position) (moves : List Move) (line : ScoresheetState) (by_line : Option Ending)
    → IsReplayed start moves line by_line → last_of line ≡ position_after start moves
last_is start moves line by_line so_far =
    ap (λ (p : Position). position_after p line.moves) so_far.start ∙ ap (position_after start) so_far.moves

pub IsReplayed-push : (start : Position) (moves : List Move) (m : Move) (line after : ScoresheetState)
    (by_line ends : Option Ending) → IsReplayed start moves line by_line → by_line ≡ None → IsLegal (last_of line) m
    → after ≡ with_move line m → ends ≡ ending_after after.start after.moves
    → IsReplayed start (moves ++ m ∷ []) after ends
IsReplayed-push start moves m line after by_line ends so_far goes_on legal pushed is =
    let same_start : after.start ≡ start = ap (λ (l : ScoresheetState). l.start) pushed ∙ so_far.start in
    let same_moves : after.moves ≡ moves ++ m ∷ [] =
    ap (λ (l : ScoresheetState). l.moves) pushed ∙ ap (λ (ms : List Move). ms ++ m ∷ []) so_far.moves in
    let P : Position → Type 0 = λ p. IsLegal p m in
    record {
      is_scoresheet = record {
        legal = IsLegalLine-push start moves m so_far.is_scoresheet.legal
            (subst P (last_is start moves line by_line so_far) legal);
        goes_on = GoesOnUntilLast-push start moves m so_far.is_scoresheet.goes_on (sym so_far.ends ∙ goes_on);
      };
      start = same_start;
      moves = same_moves;
      ends = is ∙ ap (λ (p : Position). ending_after p after.moves) same_start ∙ ap (ending_after start) same_moves
          ∙ sym (ending_by_last-push start moves m);
    }

-- the same, where the ending is that of the line's own moves
pub IsReplayed-placed : (start : Position) (moves : List Move) (m : Move) (line after : ScoresheetState)
    → IsReplayed start moves line (ending_by_last line.start line.moves)
    → ending_by_last line.start line.moves ≡ None → IsLegal (last_of line) m → after ≡ with_move line m
    → IsReplayed start (moves ++ m ∷ []) after (ending_by_last after.start after.moves)
IsReplayed-placed start moves m line after so_far goes_on legal pushed =
    let P : ScoresheetState → Type 0 = λ l. ending_by_last l.start l.moves ≡ ending_after l.start l.moves in
    IsReplayed-push start moves m line after (ending_by_last line.start line.moves)
    (ending_by_last after.start after.moves) so_far goes_on legal pushed
    (subst P (sym pushed) (ending_by_last-push line.start line.moves m))

-- ---- room

low_number : (n : ℕ) → nat_le 150 n ≡ false → n < 150
low_number n low = grind (arith, nat_tests)

-- a start that is not over has a halfmove clock below that of article 9.6.2
pub low_halfmove : (p : Position) → is_finished_at p ≡ false → p.halfmove < 150
low_halfmove p goes_on =
    low_number p.halfmove
    (or_parts (is_checkmate p || is_stalemate p || is_listed_dead p.placement) (nat_le 150 p.halfmove) goes_on).1

low_most : {n : ℕ} → n < 150 → n ≤ 9999
low_most low = omega arith

below_most : {first n count : ℕ} → first ≤ 9999 → count ≤ first + n → n < 20000 → count < 65535
below_most low most room = omega arith

short_most : {n : ℕ} → n < 20000 → n < 65534
short_most room = omega arith

pub HasRoom-start : (start : Position) (moves : List Move) → IsStart start → length moves < 20000
    → HasRoom (record { start = start; moves = moves })
HasRoom-start start moves is room =
    record {
      halfmove = below_most (low_most (low_halfmove start is.goes_on)) (halfmove-at_most start moves) room;
      fullmove = below_most is.number (fullmove-at_most start moves) room;
      short = short_most room;
    }

HasRoom-replayed : (start : Position) (moves : List Move) (line : ScoresheetState) (by_line : Option Ending)
    → IsReplayed start moves line by_line → IsStart start → length moves < 20000 → HasRoom line
HasRoom-replayed start moves line by_line so_far is room =
    let same : line ≡ record { start = start; moves = moves } =
    ap (λ (p : Position). let l : ScoresheetState = record { start = p; moves = line.moves } in l) so_far.start
    ∙ ap (λ (ms : List Move). let l : ScoresheetState = record { start = start; moves = ms } in l) so_far.moves in
    let P : ScoresheetState → Type 0 = λ l. HasRoom l in
    subst P (sym same) (HasRoom-start start moves is room)

-- at most 20,000 moves leave room at each of them
pub HasRoom-before : (start : Position) (moves : List Move) (i : ℕ) (line : ScoresheetState) (by_line : Option Ending)
    → IsReplayed start (take i moves) line by_line → IsStart start → i < length moves → length moves ≤ 20000 → HasRoom line
HasRoom-before start moves i line by_line so_far is below short =
    let long = length-take-le i moves (omega arith) in
    let room : length (take i moves) < 20000 = omega arith in
    HasRoom-replayed start (take i moves) line by_line so_far is room

-- ---- moves that are no line

split_at : (moves : List Move) (i : ℕ) (m : Move) → i < length moves → m ≡ get_or moves i m
    → moves ≡ take i moves ++ m ∷ drop (suc i) moves
split_at moves i m below here =
    sym (take-append-drop i moves)
    ∙ ap (λ (ms : List Move). take i moves ++ ms)
    (drop-cons moves i m below ∙ ap (λ (x : Move). x ∷ drop (suc i) moves) (sym here))

IsLegal-at : (p : Position) (before rest : List Move) (m : Move) → IsLegalLine p (before ++ m ∷ rest)
    → IsLegal (position_after p before) m
IsLegal-at p [] rest m line = line.0
IsLegal-at p (n ∷ before) rest m line = IsLegal-at (next p n) before rest m line.1

goes_on_before : (start : Position) (before rest : List Move) (m : Move) → GoesOnUntilLast start (before ++ m ∷ rest)
    → ending_by_last start before ≡ None
goes_on_before start [] rest m goes_on = refl
goes_on_before start (n ∷ before) rest m goes_on =
    let split = last_split n before in
    ap (ending_after start) split.2
    ∙ goes_on split.0 split.1 m rest
    (ap (λ (ms : List Move). ms ++ m ∷ rest) split.2 ∙ append_assoc split.0 (split.1 ∷ []) (m ∷ rest))

-- one of them is not legal
pub IsScoresheet-not_legal : (start : Position) (moves : List Move) (i : ℕ) (m : Move) (line : ScoresheetState)
    (by_line : Option Ending) → IsReplayed start (take i moves) line by_line → i < length moves
    → m ≡ get_or moves i m → ¬ IsLegal (last_of line) m → ¬ IsScoresheet start moves
IsScoresheet-not_legal start moves i m line by_line so_far below here illegal is =
    let P : List Move → Type 0 = λ ms. IsLegalLine start ms in
    let Q : Position → Type 0 = λ p. IsLegal p m in
    illegal (subst Q (sym (last_is start (take i moves) line by_line so_far))
    (IsLegal-at start (take i moves) (drop (suc i) moves) m (subst P (split_at moves i m below here) is.legal)))

-- one of them comes after the end
pub IsScoresheet-ended : (start : Position) (moves : List Move) (i : ℕ) (m : Move) (line : ScoresheetState)
    (by_line : Option Ending) → IsReplayed start (take i moves) line by_line → i < length moves
    → m ≡ get_or moves i m → is_some by_line ≡ true → ¬ IsScoresheet start moves
IsScoresheet-ended start moves i m line by_line so_far below here ended is =
    let P : List Move → Type 0 = λ ms. GoesOnUntilLast start ms in
    let none : by_line ≡ None =
    so_far.ends ∙ goes_on_before start (take i moves) (drop (suc i) moves) m
    (subst P (split_at moves i m below here) is.goes_on) in
    false≢true (sym (ap (λ (o : Option Ending). is_some o) none) ∙ ended)
