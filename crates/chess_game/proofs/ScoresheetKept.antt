-- What a line's parts answer is what its moves give, and its parts are kept with a move more.
use Rattle.std.proofs.Common.{ℕ, ◌≡◌, ◌+◌, ◌≤◌, Bool, true, false, List, [], ◌∷◌, ◌++◌, length, Option, None, refl, sym, ap, ◌∙◌, subst, arith}
use Rattle.std.specs.Prelude.{IsTrue, ◌↔◌, ◌==◌, IfSome, IfNone}
use Rattle.std.proofs.lemmas.Bool.{eqb-true, eqb-false}
use Rattle.std.proofs.lemmas.List.{length-map, nil_from_length}
use Rattle.chess_board.specs.declared.moves.Move.{Move}
use Rattle.chess_board.specs.Position.{Position}
use Rattle.chess_board.specs.Next.{next}
use Rattle.chess_board.specs.Line.{positions_of}
use Rattle.chess_repeat.specs.Key.{key_of}
use Rattle.chess_repeat.specs.History.{count_in, IsHistoryOf}
use Rattle.chess_end.specs.declared.ending.Ending.{Ending}
use Rattle.chess_end.specs.Ending.{IsEnding, IsRunning}
use Rattle.chess_entry.specs.State.{position_after}
use Rattle.chess_entry.specs.Outcome.{times, ending_after, is_granted}
use Rattle.chess_entry.specs.Bounds.{ending_by_last}
use Rattle.chess_game.specs.declared.scoresheet.Scoresheet.TheInside.{Inside}
use Rattle.chess_game.specs.Scoresheet.{ScoresheetState, last_of, times_of, with_move}
use Rattle.chess_game.specs.ScoresheetInside.{scoresheet_of, IsSoundScoresheet}
use Rattle.chess_game.proofs.LineLemmas.{position_after-push, positions_of-push, length-positions_of}
use Rattle.chess_game.proofs.EndingLemmas.{ending_after-answered, granted_fifty, granted_three, times-push, times-at_most}

-- a count of the history, for any board
counted_times : (g : Inside) (p : Position) (board : Position) (n : ℕ) → IsSoundScoresheet g
    → n ≡ count_in g.history.counts (key_of board) → board ≡ p → n ≡ times p (positions_of g.start g.moves.items)
counted_times g p board n sound counted same =
    counted ∙ ap (λ (b : Position). count_in g.history.counts (key_of b)) same ∙ sound.history.counts (key_of p)

-- how often the last position has come
pub times-answered : (g : Inside) (line : ScoresheetState) (n : ℕ) → scoresheet_of g ≡ line → IsSoundScoresheet g
    → n ≡ count_in g.history.counts (key_of g.board) → n ≡ times_of line
times-answered g line n same sound counted =
    counted_times g (last_of (scoresheet_of g)) g.board n sound counted sound.board ∙ ap times_of same

-- the board after a move is that of the line with it
pub board-placed : (line after : ScoresheetState) (m : Move) (board : Position) → board ≡ next (last_of line) m
    → after ≡ with_move line m → board ≡ last_of after
board-placed line after m board made pushed =
    made ∙ sym (position_after-push line.start line.moves m) ∙ ap last_of (sym pushed)

-- the ending of a line's board
pub ending-answered : (line : ScoresheetState) (board : Position) (t q : ℕ) (result : Option Ending)
    → board ≡ last_of line → t ≡ times_of line → q ≡ board.halfmove
    → IfSome result (IsEnding board t q) → IfNone result (IsRunning board t q)
    → result ≡ ending_after line.start line.moves
ending-answered line board t q result stands counted quiet some none =
    let Some_at : Position → Type 0 = λ b. IfSome result (IsEnding b t q) in
    let None_at : Position → Type 0 = λ b. IfNone result (IsRunning b t q) in
    ending_after-answered line.start line.moves t q result counted
    (quiet ∙ ap (λ (b : Position). b.halfmove) stands) (subst Some_at stands some) (subst None_at stands none)

-- a line without a move has no ending by its last
pub ending_by_last-none : (line : ScoresheetState) → (length line.moves == 0) ≡ true
    → ending_by_last line.start line.moves ≡ None
ending_by_last-none line none =
    let P : List Move → Type 0 = λ ms. ending_by_last line.start ms ≡ None in
    subst P (sym (nil_from_length line.moves (eqb-true (length line.moves) 0 none))) refl

-- of one with a move it is the last's
ending_by_last-some : (start : Position) (moves : List Move) → (length moves == 0) ≡ false
    → ending_after start moves ≡ ending_by_last start moves
ending_by_last-some start [] some =
    let none : List Move = [] in
    absurd (eqb-false (length none) 0 some refl)
ending_by_last-some start (m ∷ moves) some = refl

pub ending_by_last-answered : (line : ScoresheetState) (board : Position) (t q : ℕ) (result : Option Ending)
    → (length line.moves == 0) ≡ false → board ≡ last_of line → t ≡ times_of line → q ≡ board.halfmove
    → IfSome result (IsEnding board t q) → IfNone result (IsRunning board t q)
    → result ≡ ending_by_last line.start line.moves
ending_by_last-answered line board t q result some stands counted quiet so none =
    ending-answered line board t q result stands counted quiet so none
    ∙ ending_by_last-some line.start line.moves some

pub fifty-answered : (g : Inside) (line : ScoresheetState) (fifty b : Bool) (n : ℕ) → fifty ≡ true → scoresheet_of g ≡ line
    → IsSoundScoresheet g → IsTrue b ↔ (100 ≤ n) → n ≡ g.board.halfmove → b ≡ is_granted fifty line.start line.moves
fifty-answered g line fifty b n so same sound told quiet =
    granted_fifty g.start g.moves.items b n told (quiet ∙ ap (λ (p : Position). p.halfmove) sound.board)
    ∙ ap (λ (l : ScoresheetState). is_granted true l.start l.moves) same
    ∙ ap (λ (f : Bool). is_granted f line.start line.moves) (sym so)

pub three-answered : (g : Inside) (line : ScoresheetState) (fifty b : Bool) (n : ℕ) → fifty ≡ false → scoresheet_of g ≡ line
    → IsSoundScoresheet g → IsTrue b ↔ (3 ≤ n) → n ≡ count_in g.history.counts (key_of g.board)
    → b ≡ is_granted fifty line.start line.moves
three-answered g line fifty b n not_so same sound told counted =
    granted_three g.start g.moves.items b n told (counted_times g (last_of (scoresheet_of g)) g.board n sound counted sound.board)
    ∙ ap (λ (l : ScoresheetState). is_granted false l.start l.moves) same
    ∙ ap (λ (f : Bool). is_granted f line.start line.moves) (sym not_so)

pub times-few : (g : Inside) (line : ScoresheetState) (board : Position) (n : ℕ) → scoresheet_of g ≡ line → IsSoundScoresheet g
    → n ≡ count_in g.history.counts (key_of board) → n ≤ length line.moves + 1
times-few g line board n same sound counted =
    let P : ScoresheetState → Type 0 = λ l. n ≤ length l.moves + 1 in
    let exact = counted_times g board board n sound counted refl in
    let most = times-at_most board g.start g.moves.items in
    let here : P (scoresheet_of g) = omega arith in
    subst P same here

-- the position that a move brings
moved_board : (g : Inside) (m : Move) (board : Position) → IsSoundScoresheet g → board ≡ next g.board m
    → board ≡ next (position_after g.start g.moves.items) m
moved_board g m board sound moved = moved ∙ ap (λ (p : Position). next p m) sound.board

pub fifty-answered_with : (g : Inside) (line : ScoresheetState) (m : Move) (board : Position) (fifty b : Bool) (n : ℕ)
    → fifty ≡ true → scoresheet_of g ≡ line → IsSoundScoresheet g → board ≡ next g.board m
    → IsTrue b ↔ (100 ≤ n) → n ≡ board.halfmove → b ≡ is_granted fifty line.start (line.moves ++ m ∷ [])
fifty-answered_with g line m board fifty b n so same sound moved told quiet =
    granted_fifty g.start (g.moves.items ++ m ∷ []) b n told
    (quiet ∙ ap (λ (p : Position). p.halfmove)
    (moved_board g m board sound moved ∙ sym (position_after-push g.start g.moves.items m)))
    ∙ ap (λ (l : ScoresheetState). is_granted true l.start (l.moves ++ m ∷ [])) same
    ∙ ap (λ (f : Bool). is_granted f line.start (line.moves ++ m ∷ [])) (sym so)

pub three-answered_with : (g : Inside) (line : ScoresheetState) (m : Move) (board : Position) (fifty b : Bool) (n : ℕ)
    → fifty ≡ false → scoresheet_of g ≡ line → IsSoundScoresheet g → board ≡ next g.board m
    → IsTrue b ↔ (3 ≤ n + 1) → n ≡ count_in g.history.counts (key_of board)
    → b ≡ is_granted fifty line.start (line.moves ++ m ∷ [])
three-answered_with g line m board fifty b n not_so same sound moved told counted =
    let p = next (position_after g.start g.moves.items) m in
    granted_three g.start (g.moves.items ++ m ∷ []) b (n + 1) told
    (ap (λ (k : ℕ). k + 1) (counted_times g p board n sound counted (moved_board g m board sound moved))
    ∙ times-push g.start g.moves.items m)
    ∙ ap (λ (l : ScoresheetState). is_granted false l.start (l.moves ++ m ∷ [])) same
    ∙ ap (λ (f : Bool). is_granted f line.start (line.moves ++ m ∷ [])) (sym not_so)

-- the ending that a move would give
pub ending-answered_with : (g : Inside) (line : ScoresheetState) (m : Move) (board : Position) (n q : ℕ)
    (result : Option Ending) → scoresheet_of g ≡ line → IsSoundScoresheet g → board ≡ next g.board m
    → n ≡ count_in g.history.counts (key_of board) → q ≡ board.halfmove
    → IfSome result (IsEnding board (n + 1) q) → IfNone result (IsRunning board (n + 1) q)
    → result ≡ ending_after line.start (line.moves ++ m ∷ [])
ending-answered_with g line m board n q result same sound moved counted quiet some none =
    let p = next (position_after g.start g.moves.items) m in
    let brought = moved_board g m board sound moved in
    let last : board ≡ position_after g.start (g.moves.items ++ m ∷ []) =
    brought ∙ sym (position_after-push g.start g.moves.items m) in
    let Some_at : Position → Type 0 = λ b. IfSome result (IsEnding b (n + 1) q) in
    let None_at : Position → Type 0 = λ b. IfNone result (IsRunning b (n + 1) q) in
    ending_after-answered g.start (g.moves.items ++ m ∷ []) (n + 1) q result
    (ap (λ (k : ℕ). k + 1) (counted_times g p board n sound counted brought) ∙ times-push g.start g.moves.items m)
    (quiet ∙ ap (λ (b : Position). b.halfmove) last)
    (subst Some_at last some) (subst None_at last none)
    ∙ ap (λ (l : ScoresheetState). ending_after l.start (l.moves ++ m ∷ [])) same

-- how many positions a history has
pub length-history : (g : Inside) (line : ScoresheetState) → scoresheet_of g ≡ line → IsSoundScoresheet g
    → length g.history.clocks ≡ length line.moves + 1
length-history g line same sound =
    let positions = positions_of g.start g.moves.items in
    let P : ScoresheetState → Type 0 = λ l. length g.history.clocks ≡ length l.moves + 1 in
    let here : P (scoresheet_of g) =
    ap (λ (ns : List ℕ). length ns) sound.history.clocks ∙ length-map positions (λ (p : Position). p.halfmove)
    ∙ length-positions_of g.start g.moves.items in
    subst P same here

pub IsSoundScoresheet-push : (g h : Inside) (m : Move) → IsSoundScoresheet g → h.start ≡ g.start → h.moves.items ≡ g.moves.items ++ m ∷ []
    → h.board ≡ next g.board m → IsHistoryOf h.history (positions_of g.start g.moves.items ++ h.board ∷ [])
    → IsSoundScoresheet h
IsSoundScoresheet-push g h m sound start moves moved history =
    let line : scoresheet_of h ≡ record { start = g.start; moves = g.moves.items ++ m ∷ [] } =
    ap (λ (s : Position). let l : ScoresheetState = record { start = s; moves = h.moves.items } in l) start
    ∙ ap (λ (ms : List Move). let l : ScoresheetState = record { start = g.start; moves = ms } in l) moves in
    let board : h.board ≡ position_after g.start (g.moves.items ++ m ∷ []) =
    moved_board g m h.board sound moved ∙ sym (position_after-push g.start g.moves.items m) in
    let positions : positions_of g.start g.moves.items ++ h.board ∷ [] ≡ positions_of h.start h.moves.items =
    ap (λ (p : Position). positions_of g.start g.moves.items ++ p ∷ []) (moved_board g m h.board sound moved)
    ∙ sym (positions_of-push g.start g.moves.items m)
    ∙ sym (ap (λ (l : ScoresheetState). positions_of l.start l.moves) line) in
    let P : List Position → Type 0 = λ ps. IsHistoryOf h.history ps in
    record {
      board = board ∙ sym (ap last_of line);
      history = subst P positions history;
    }
