-- The tokens of a game's moves, one move after the other.
use Rattle.std.specs.Prelude.{ℕ, Bool, true, false, ◌≡◌, ◌<◌, List, [], ◌∷◌, ◌++◌, length, take, get_or}
use Rattle.std.proofs.Common.{arith, refl, ap, sym, ◌∙◌, zero, suc, append_assoc}
use Rattle.chess_board.specs.declared.moves.Move.{Move}
use Rattle.chess_board.specs.Position.{Position}
use Rattle.chess_board.specs.Next.{next}
use Rattle.chess_board.specs.Legal.{IsLegal}
use Rattle.chess_board.specs.Line.{position_after, IsLegalLine}
use Rattle.chess_notation.specs.San.{IsSan}
use Rattle.chess_san.proofs.OneText.{IsSan-one}
use Rattle.chess_text.specs.Game.{numbers_before, AreMoveTokens, HasRoom, IsGameText}
use Rattle.chess_text.specs.Pgn.{Heading}
use Rattle.chess_text.proofs.TagLemmas.{IsPgnOf-unique}

-- whether the next move is the first
abbrev pub is_first_after : Bool → List Move → Bool
is_first_after is_first [] = is_first
is_first_after is_first (m ∷ moves) = false

pub is_first_after-more : (is_first : Bool) (moves : List Move) (m : Move) →
    is_first_after is_first (moves ++ m ∷ []) ≡ false
is_first_after-more is_first [] m = refl
is_first_after-more is_first (x ∷ moves) m = refl

pub legal_at : (p : Position) (moves : List Move) (i : ℕ) (d : Move) → IsLegalLine p moves → i < length moves →
    IsLegal (position_after p (take i moves)) (get_or moves i d)
legal_at p [] i d legal below = absurd (omega arith)
legal_at p (m ∷ moves) zero d legal below = legal.0
legal_at p (m ∷ moves) (suc i) d legal below = legal_at (next p m) moves i d legal.1 (omega arith)

pub room_more : (p : Position) (moves : List Move) (m : Move) → HasRoom p moves →
    (position_after p moves).halfmove < 65535 → (position_after p moves).fullmove < 65535 → HasRoom p (moves ++ m ∷ [])
room_more p [] m room half full = (half, full, tt)
room_more p (x ∷ moves) m room half full = (room.0, room.1, room_more (next p x) moves m room.2 half full)

pub room_at : (p : Position) (moves : List Move) (i : ℕ) → HasRoom p moves → i < length moves →
    ((position_after p (take i moves)).halfmove < 65535) × ((position_after p (take i moves)).fullmove < 65535)
room_at p [] i room below = absurd (omega arith)
room_at p (m ∷ moves) zero room below = (room.0, room.1)
room_at p (m ∷ moves) (suc i) room below = room_at (next p m) moves i room.2 (omega arith)

not_first : (moves : List Move) → is_first_after false moves ≡ false
not_first [] = refl
not_first (m ∷ moves) = refl

pub tokens_more : (p : Position) (is_first : Bool) (moves : List Move) (tokens : List (List ℕ)) (m : Move)
    (san : List ℕ) → AreMoveTokens p is_first moves tokens → IsSan (position_after p moves) m san →
    AreMoveTokens p is_first (moves ++ m ∷ []) (tokens
    ++ (numbers_before (position_after p moves).side (is_first_after is_first moves) (position_after p moves).fullmove
    ++ san ∷ []))
tokens_more p is_first [] tokens m san none told = record {
  san = san;
  is_san = told;
  rest = [];
  are = refl;
  joined = ap (λ (front : List (List ℕ)). front ++ (numbers_before p.side is_first p.fullmove ++ san ∷ [])) none;
}
tokens_more p is_first (x ∷ moves) tokens m san h told =
    let q = position_after (next p x) moves in
    record {
      san = h.san;
      is_san = h.is_san;
      rest = h.rest ++ (numbers_before q.side (is_first_after is_first (x ∷ moves)) q.fullmove ++ san ∷ []);
      are = rw (not_first moves) at (tokens_more (next p x) false moves h.rest m san h.are told);
      joined = ap (λ (front : List (List ℕ)). front
          ++ (numbers_before q.side (is_first_after is_first (x ∷ moves)) q.fullmove ++ san ∷ [])) h.joined
          ∙ append_assoc (numbers_before p.side is_first p.fullmove) (h.san ∷ h.rest)
          (numbers_before q.side (is_first_after is_first (x ∷ moves)) q.fullmove ++ san ∷ []);
    }

pub tokens_one : (p : Position) (is_first : Bool) (moves : List Move) (a b : List (List ℕ)) →
    AreMoveTokens p is_first moves a → AreMoveTokens p is_first moves b → a ≡ b
tokens_one p is_first [] a b h k = h ∙ sym k
tokens_one p is_first (m ∷ moves) a b h k =
    let same_san : h.san ≡ k.san = IsSan-one p m h.san k.san h.is_san k.is_san in
    let same_rest : h.rest ≡ k.rest = tokens_one (next p m) false moves h.rest k.rest h.are k.are in
    let numbers = numbers_before p.side is_first p.fullmove in
    h.joined ∙ ap (λ (s : List ℕ). numbers ++ (s ∷ h.rest)) same_san
    ∙ ap (λ (r : List (List ℕ)). numbers ++ (k.san ∷ r)) same_rest ∙ sym k.joined

pub game_one : (h : Heading) (moves : List Move) (a b : List ℕ) → IsGameText a h moves → IsGameText b h moves → a ≡ b
game_one h moves a b x y =
    let same : x.tokens ≡ y.tokens = tokens_one h.start true moves x.tokens y.tokens x.are y.are in
    IsPgnOf-unique a b h y.tokens (rw same at x.pgn) y.pgn
