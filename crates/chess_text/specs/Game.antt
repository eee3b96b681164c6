use Rattle.std.specs.Prelude.{ℕ, Bool, true, false, ◌≡◌, ◌<◌, List, [], ◌∷◌, ◌++◌, codes, decimal}
use Rattle.chess_bits.specs.declared.men.Colour.{Colour}
use Rattle.chess_bits.specs.declared.men.Colour.TheVariants.{White, Black}
use Rattle.chess_board.specs.declared.moves.Move.{Move}
use Rattle.chess_board.specs.Position.{Position}
use Rattle.chess_board.specs.Next.{next}
use Rattle.chess_notation.specs.San.{IsSan}
use Rattle.chess_text.specs.Movetext.{IsMovetext, IsUnderWay}
use Rattle.chess_text.specs.Pgn.{Heading, IsPgnOf}

-- The number of the full move, before each move of White and before a first move of Black (PGN Standard, section
-- 8.2.2.2).
abbrev pub numbers_before : Colour → Bool → ℕ → List (List ℕ)
numbers_before White is_first n = (decimal n ++ codes ".") ∷ []
numbers_before Black true n = (decimal n ++ codes "...") ∷ []
numbers_before Black false n = []

-- tokens that begin with these numbers, then a move of which that is said, and go on with the rest, of which that is
-- said
pub record BeginWithMove (Says : List ℕ → Type 0) (Rest : List (List ℕ) → Type 0) (numbers tokens : List (List ℕ))
    : Type 0 where
  pub san : List ℕ
  pub is_san : Says san
  pub rest : List (List ℕ)
  pub are : Rest rest
  pub joined : tokens ≡ numbers ++ (san ∷ rest)

-- the tokens of moves from a position on: each move in SAN, with the numbers before it (PGN Standard, section 8.2)
abbrev pub AreMoveTokens : Position → Bool → List Move → List (List ℕ) → Type 0
AreMoveTokens p is_first [] tokens = tokens ≡ []
AreMoveTokens p is_first (m ∷ moves) tokens =
    BeginWithMove (IsSan p m) (AreMoveTokens (next p m) false moves) (numbers_before p.side is_first p.fullmove) tokens

-- The PGN of a game: that of its moves' tokens.
pub record IsGameText (text : List ℕ) (h : Heading) (moves : List Move) : Type 0 where
  pub tokens : List (List ℕ)
  pub are : AreMoveTokens h.start true moves tokens
  pub pgn : IsPgnOf text h tokens

-- each counter is below 65,535 before each move
abbrev pub HasRoom : Position → List Move → Type 0
HasRoom p [] = Unit {0}
HasRoom p (m ∷ moves) = (p.halfmove < 65535) × (p.fullmove < 65535) × HasRoom (next p m) moves

-- a move's tokens are written behind those before
pub record AddsMove (p : Position) (is_first : Bool) (m : Move) (front : List ℕ) (tokens : List (List ℕ))
    (text : List ℕ) (width : ℕ) : Type 0 where
  pub san : List ℕ
  pub is_san : IsSan p m san
  pub under_way : IsUnderWay front (tokens ++ (numbers_before p.side is_first p.fullmove ++ san ∷ [])) text width

-- the tokens of moves are written behind a text
pub record AddsMoves (p : Position) (moves : List Move) (front text : List ℕ) (width : ℕ) : Type 0 where
  pub tokens : List (List ℕ)
  pub are : AreMoveTokens p true moves tokens
  pub under_way : IsUnderWay front tokens text width

-- the new text is the old one with the moves' tokens and this last one in lines
pub record PutsMoves (old new : List ℕ) (p : Position) (moves : List Move) (last : List ℕ) : Type 0 where
  pub tokens : List (List ℕ)
  pub are : AreMoveTokens p true moves tokens
  pub movetext : List ℕ
  pub is_movetext : IsMovetext movetext (tokens ++ last ∷ [])
  pub put : new ≡ old ++ movetext
