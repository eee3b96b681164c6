-- The coordinate texts of legal moves.
use Rattle.std.proofs.Common.{ℕ, ◌≡◌, ◌↔◌, ◌+◌, ◌<◌, Bool, IsTrue, codes, length, take, get_or, inl, inr, List, [], ◌∷◌}
use Rattle.std.proofs.Common.{◌++◌, Option, Some, None, refl, sym, ap, ◌∙◌, subst, append_assoc, append-nil, map}
use Rattle.std.specs.List.{All, AllZip, Contains, AllByRecursion}
use Rattle.std.proofs.lemmas.List.Elements.{All-contains_itself, All-weaker, recursion_from_All}
use Rattle.chess_bits.specs.declared.men.Kind.{Kind}
use Rattle.chess_bits.specs.declared.men.Kind.TheVariants.{Pawn, Knight, Bishop, Rook, Queen, King}
use Rattle.chess_bits.specs.declared.men.Colour.{Colour}
use Rattle.chess_bits.specs.Square.{Square}
use Rattle.chess_board.specs.declared.moves.Move.{Move}
use Rattle.chess_board.specs.Position.{Position, IsInCheck}
use Rattle.chess_board.specs.Legal.{IsLegal, IsMoveOf, IsPromotion, IsPromotionKind}
use Rattle.chess_moves.specs.Moves.{IsListOfLegalMoves}
use Rattle.chess_notation.specs.Coordinate.{IsPromotionText, IsCoordinateOf}
use Rattle.std.proofs.lemmas.List.{take_more, map-append}
use Rattle.text_pgn.specs.Telling.{spaced, check_sign, TellsMoves, promotion_letter, small_letter, coordinate_of}
use Rattle.text_pgn.specs.Telling.{IsBetweenSquares}

-- one text more at the end
pub spaced-push : (texts : List (List ℕ)) (text : List ℕ) → spaced (texts ++ text ∷ []) ≡ spaced texts ++ (32 ∷ text)
spaced-push [] text = ap (λ (t : List ℕ). 32 ∷ t) (append-nil text)
spaced-push (t ∷ ts) text =
    ap (λ (rest : List ℕ). 32 ∷ (t ++ rest)) (spaced-push ts text)
    ∙ ap (λ (rest : List ℕ). 32 ∷ rest) (sym (append_assoc t (spaced ts) (32 ∷ text)))

kind_letter : (kind : Kind) → IsPromotionKind kind → IsPromotionText (small_letter kind ∷ []) (Some kind)
kind_letter Queen h = refl
kind_letter Rook h = refl
kind_letter Bishop h = refl
kind_letter Knight h = refl
kind_letter King h = elim h [ inl a ↦ cc | inr b ↦ elim b [ inl c ↦ cc | inr d ↦ elim d [ inl e ↦ cc | inr f ↦ cc ] ] ]
kind_letter Pawn h = elim h [ inl a ↦ cc | inr b ↦ elim b [ inl c ↦ cc | inr d ↦ elim d [ inl e ↦ cc | inr f ↦ cc ] ] ]

promotion_spelled : (side : Colour) (to : Square) (promotion : Option Kind) → IsPromotion side to promotion →
    IsPromotionText (promotion_letter promotion) promotion
promotion_spelled side to None h = refl
promotion_spelled side to (Some kind) h = kind_letter kind h.1

none_spelled : (promotion : Option Kind) → promotion ≡ None → IsPromotionText (promotion_letter promotion) promotion
none_spelled promotion none = subst (λ (o : Option Kind). IsPromotionText (promotion_letter o) o) (sym none) refl

-- a move by the rules of its man has a coordinate text
move_spelled : (p : Position) (m : Move) (kind : Kind) → IsMoveOf p m kind →
    IsPromotionText (promotion_letter m.promotion) m.promotion
move_spelled p m Pawn h = promotion_spelled p.side m.to m.promotion h.promotion
move_spelled p m Knight h = none_spelled m.promotion h.no_promotion
move_spelled p m Bishop h = none_spelled m.promotion h.no_promotion
move_spelled p m Rook h = none_spelled m.promotion h.no_promotion
move_spelled p m Queen h = none_spelled m.promotion h.no_promotion
move_spelled p m King h =
    elim h [
      | inl piece ↦ none_spelled m.promotion piece.no_promotion
      | inr castles ↦ elim castles [
        | inl short ↦ none_spelled m.promotion short.no_promotion
        | inr long ↦ none_spelled m.promotion long.no_promotion
      ]
    ]

named : (p : Position) (m : Move) → IsLegal p m → IsBetweenSquares m → IsCoordinateOf (coordinate_of m) m
named p m legal squares = record {
  letter = promotion_letter m.promotion;
  from_on_board = squares.from;
  to_on_board = squares.to;
  promotion = move_spelled p m legal.candidate.kind legal.candidate.rule;
  joined = refl;
}

each_named : (p : Position) (moves : List Move) → AllByRecursion (IsLegal p) moves →
    AllByRecursion IsBetweenSquares moves →
    AllZip IsCoordinateOf (map coordinate_of moves) moves
each_named p [] legal squares = tt
each_named p (m ∷ ms) legal squares = (named p m legal.0 squares.0, each_named p ms legal.1 squares.1)

-- the texts of a list of the legal moves
pub all_named : (p : Position) (moves : List Move) → IsListOfLegalMoves p moves → All IsBetweenSquares moves →
    AllZip IsCoordinateOf (map coordinate_of moves) moves
all_named p moves list squares =
    each_named p moves
    (recursion_from_All (IsLegal p) moves
    (All-weaker (Contains moves) (IsLegal p) (λ m here. (list.exact m).0 here) moves (All-contains_itself moves)))
    (recursion_from_All IsBetweenSquares moves squares)

-- the texts of one move more of a list
pub spaced_more : (moves : List Move) (i : ℕ) (m : Move) → i < length moves → m ≡ get_or moves i m →
    spaced (map coordinate_of (take (i + 1) moves))
    ≡ spaced (map coordinate_of (take i moves)) ++ (32 ∷ coordinate_of m)
spaced_more moves i m below is =
    ap (λ (ms : List Move). spaced (map coordinate_of ms))
    (take_more moves i m below ∙ ap (λ (n : Move). take i moves ++ n ∷ []) (sym is))
    ∙ (ap spaced (map-append coordinate_of (take i moves) (m ∷ []))
    ∙ spaced-push (map coordinate_of (take i moves)) (coordinate_of m))

-- text behind which a text more is put
pub put_more : (old front text now more : List ℕ) → text ≡ old ++ front → now ≡ text ++ more →
    now ≡ old ++ (front ++ more)
put_more old front text now more before after =
    after ∙ (ap (λ (t : List ℕ). t ++ more) before ∙ append_assoc old front more)

-- the line of a position
pub tells : (line sign : List ℕ) (p : Position) (moves : List Move) (check : Bool) →
    (IsTrue check ↔ IsInCheck p.placement p.side) →
    IsListOfLegalMoves p moves → All IsBetweenSquares moves → sign ≡ check_sign check →
    line ≡ (codes "moves " ++ sign) ++ spaced (map coordinate_of moves) → TellsMoves line p
tells line sign p moves check is_check list squares signed spelled = record {
  check = check;
  is_check = is_check;
  moves = moves;
  exact = list;
  texts = map coordinate_of moves;
  named = all_named p moves list squares;
  spelled = spelled ∙ ap (λ (s : List ℕ). (codes "moves " ++ s) ++ spaced (map coordinate_of moves)) signed;
}
