-- A text is the coordinate text of one legal move, or of none.
use Rattle.std.proofs.Common.{◌≡◌, ℕ, Bool, true, false, List, [], ◌∷◌, ◌++◌, Option, Some, None, sym, refl, ap, ◌∙◌, inl, inr, arith}
use Rattle.std.specs.Prelude.{◌&&◌, Contains, suc}
use Rattle.std.specs.Bool.{Decides}
use Rattle.std.specs.Str.{bytes_eq}
use Rattle.std.specs.List.{All}
use Rattle.std.proofs.lemmas.Bool.{false≢true, cases_Bool}
use Rattle.std.proofs.lemmas.Bool.Decides.{Decides-and}
use Rattle.std.proofs.lemmas.List.Elements.{All-nil, All-cons, All-contains}
use Rattle.std.proofs.lemmas.Slice.Eq.{bytes_eq-Decides}
use Rattle.chess_bits.specs.declared.men.Kind.{Kind}
use Rattle.chess_bits.specs.declared.men.Kind.TheVariants.{Pawn, Knight, Bishop, Rook, Queen, King}
use Rattle.chess_board.specs.declared.moves.Move.{Move}
use Rattle.chess_board.specs.Position.{Position}
use Rattle.chess_board.specs.Legal.{IsLegal}
use Rattle.chess_board.specs.Computing.{legal_moves_of}
use Rattle.chess_board.proofs.LegalMoves.{legal_moves_of-legal, legal_moves_of-each}
use Rattle.chess_board.proofs.Candidates.{IsOnBoard-from_man}
use Rattle.chess_notation.specs.Name.{square_name}
use Rattle.chess_notation.specs.Coordinate.{IsPromotionText, IsCoordinateOf}
use Rattle.server_words.specs.BoardAnswer.{IsMoveText}

-- the letter of what a pawn becomes, and whether it can become that
letter_of : Option Kind → List ℕ
letter_of None = []
letter_of (Some Queen) = 113 ∷ []
letter_of (Some Rook) = 114 ∷ []
letter_of (Some Bishop) = 98 ∷ []
letter_of (Some Knight) = 110 ∷ []
letter_of (Some King) = []
letter_of (Some Pawn) = []

can_become : Option Kind → Bool
can_become (Some King) = false
can_become (Some Pawn) = false
can_become _ = true

letter-promotion : (promotion : Option Kind) → can_become promotion ≡ true →
    IsPromotionText (letter_of promotion) promotion
unfolding letter_of can_become
letter-promotion None h = refl
letter-promotion (Some Queen) h = refl
letter-promotion (Some Rook) h = refl
letter-promotion (Some Bishop) h = refl
letter-promotion (Some Knight) h = refl
letter-promotion (Some King) h = absurd (false≢true h)
letter-promotion (Some Pawn) h = absurd (false≢true h)

promotion-letter : (letter : List ℕ) (promotion : Option Kind) → IsPromotionText letter promotion →
    (can_become promotion ≡ true) × (letter_of promotion ≡ letter)
unfolding letter_of can_become
promotion-letter letter None h = (refl, sym h)
promotion-letter letter (Some Queen) h = (refl, sym h)
promotion-letter letter (Some Rook) h = (refl, sym h)
promotion-letter letter (Some Bishop) h = (refl, sym h)
promotion-letter letter (Some Knight) h = (refl, sym h)
promotion-letter letter (Some King) h = absurd h
promotion-letter letter (Some Pawn) h = absurd h

coordinate_text : Move → List ℕ
coordinate_text m = square_name m.from ++ (square_name m.to ++ letter_of m.promotion)

-- whether the text is the move's
is_text_of : List ℕ → Move → Bool
is_text_of text m = can_become m.promotion && bytes_eq (coordinate_text m) text

text_of-Decides : (text : List ℕ) (m : Move) →
    Decides (is_text_of text m) ((can_become m.promotion ≡ true) × (coordinate_text m ≡ text))
unfolding is_text_of
text_of-Decides text m = Decides-and _ _ (λ h. h, λ h. h) (bytes_eq-Decides (coordinate_text m) text)

coordinate-text_of : (text : List ℕ) (m : Move) → IsCoordinateOf text m → is_text_of text m ≡ true
unfolding coordinate_text
coordinate-text_of text m h =
    let p = promotion-letter h.letter m.promotion h.promotion in
    (text_of-Decides text m).1 (p.0, ap (λ l. square_name m.from ++ (square_name m.to ++ l)) p.1 ∙ sym h.joined)

text_of-move : (p : Position) (text : List ℕ) (m : Move) → IsLegal p m → is_text_of text m ≡ true → IsMoveText p text m
unfolding coordinate_text
text_of-move p text m legal t =
    let h = (text_of-Decides text m).0 t in
    let c = legal.candidate in
    record {
      legal = legal;
      coordinate = record {
        letter = letter_of m.promotion;
        from_on_board = IsOnBoard-from_man p.placement m.from (p.side, c.kind) c.own;
        to_on_board = c.on_board;
        promotion = letter-promotion m.promotion h.0;
        joined = sym h.1;
      };
    }

-- an element that passes a test, or none
data Search (test : Move → Bool) (moves : List Move) : Type 0 where
  Found : (m : Move) → Contains moves m → test m ≡ true → Search test moves
  Missing : All (λ m. test m ≡ false) moves → Search test moves

later : (test : Move → Bool) (m : Move) (moves : List Move) → test m ≡ false → Search test moves →
    Search test (m ∷ moves)
later test m moves f (Found n at passes) = Found n (suc at.0, omega (arith, at.1), at.2) passes
later test m moves f (Missing none) = Missing (All-cons (λ x. test x ≡ false) m moves f none)

search_moves : (test : Move → Bool) (moves : List Move) → Search test moves
search_moves test [] = Missing (All-nil (λ x. test x ≡ false))
search_moves test (m ∷ moves) =
    let rest = search_moves test moves in
    elim (cases_Bool (test m)) [
      | inl t ↦ Found m (0, omega arith, refl) t
      | inr f ↦ later test m moves f rest
    ]

-- the two ways of a text
pub data MovesBy (p : Position) (text : List ℕ) : Type 0 where
  Moves_one : (m : Move) → IsMoveText p text m → MovesBy p text
  Moves_none : ((m : Move) → ¬ IsMoveText p text m) → MovesBy p text

moves_by_search : (p : Position) (text : List ℕ) → Search (is_text_of text) (legal_moves_of p) → MovesBy p text
moves_by_search p text (Found m at passes) = Moves_one m (text_of-move p text m (legal_moves_of-legal p m at) passes)
moves_by_search p text (Missing none) =
    Moves_none (λ m h.
    false≢true (sym
    (All-contains (λ x. is_text_of text x ≡ false) (legal_moves_of p) m none (legal_moves_of-each p m h.legal))
    ∙ coordinate-text_of text m h.coordinate))

pub moves_by : (p : Position) (text : List ℕ) → MovesBy p text
moves_by p text = moves_by_search p text (search_moves (is_text_of text) (legal_moves_of p))
