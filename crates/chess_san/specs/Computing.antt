use Rattle.std.specs.Prelude.{ℕ, Bool, true, false, ◌&&◌, ◌==◌, not, List, [], ◌∷◌, ◌++◌, Option, Some, None}
use Rattle.std.specs.List.{list_any}
use Rattle.chess_bits.specs.declared.men.Kind.{Kind}
use Rattle.chess_bits.specs.declared.men.Kind.TheVariants.{Pawn, Knight, Bishop, Rook, Queen, King}
use Rattle.chess_bits.specs.Square.{Square, is_square}
use Rattle.chess_bits.specs.Man.{Man, is_man, holds}
use Rattle.chess_board.specs.declared.castling.Wing.{Wing}
use Rattle.chess_board.specs.declared.moves.Move.{Move}
use Rattle.chess_board.specs.Position.{Position, man_at, is_in_check}
use Rattle.chess_board.specs.Next.{next}
use Rattle.chess_board.specs.Computing.{legal_moves_of}
use Rattle.chess_notation.specs.declared.telling.Among.{Among}
use Rattle.chess_notation.specs.declared.telling.Among.TheVariants as among
use Rattle.chess_notation.specs.declared.telling.Origin.{Origin}
use Rattle.chess_notation.specs.declared.telling.Origin.TheVariants as origin
use Rattle.chess_notation.specs.declared.telling.Threat.{Threat}
use Rattle.chess_notation.specs.declared.telling.Threat.TheVariants as threat
use Rattle.chess_notation.specs.San.{piece_text, pawn_text, castling_text, castled_wing, threat_text}

-- The relations of `San` as tests over the list of legal moves, and the SAN as a function, which compute.

abbrev pub is_on : Among → Square → Square → Bool
is_on among.Board a b = true
is_on among.File a b = b.file == a.file
is_on among.Rank a b = b.rank == a.rank

-- a legal move is that of a rival of the man that makes the move
abbrev pub is_rival : Position → Move → Man → Among → Move → Bool
is_rival p m man along rival =
    holds (is_man man) (man_at p.placement rival.from)
    && (is_square rival.to m.to && (not (is_square rival.from m.from) && is_on along m.from rival.from))

abbrev pub has_rival : Position → Move → Man → Among → Bool
has_rival p m man along = list_any (is_rival p m man along) (legal_moves_of p)

-- what tells a move, where there is a rival somewhere, on the file, on the rank
abbrev pub origin_by : Bool → Bool → Bool → Origin
origin_by false on_file on_rank = origin.Nothing
origin_by true false on_rank = origin.File
origin_by true true false = origin.Rank
origin_by true true true = origin.Square

abbrev pub origin_told : Position → Move → Man → Origin
origin_told p m man =
    origin_by (has_rival p m man among.Board) (has_rival p m man among.File) (has_rival p m man among.Rank)

abbrev pub king_text : Position → Move → Man → Option Wing → List ℕ
king_text p m man (Some to) = castling_text to
king_text p m man None = piece_text p m King (origin_told p m man)

abbrev pub man_text : Position → Move → Man → Kind → List ℕ
man_text p m man Pawn = pawn_text p m
man_text p m man Knight = piece_text p m Knight (origin_told p m man)
man_text p m man Bishop = piece_text p m Bishop (origin_told p m man)
man_text p m man Rook = piece_text p m Rook (origin_told p m man)
man_text p m man Queen = piece_text p m Queen (origin_told p m man)
man_text p m man King = king_text p m man (castled_wing p m)

abbrev pub body_of : Position → Move → Option Man → List ℕ
body_of p m None = []
body_of p m (Some man) = man_text p m man man.1

abbrev pub has_some : List Move → Bool
has_some [] = false
has_some (m ∷ ms) = true

abbrev pub threat_by : Bool → Bool → Threat
threat_by false has_answer = threat.Nothing
threat_by true true = threat.Check
threat_by true false = threat.Mate

abbrev pub threat_told : Position → Move → Threat
threat_told p m =
    threat_by (is_in_check (next p m).placement (next p m).side) (has_some (legal_moves_of (next p m)))

-- the SAN of a legal move
abbrev pub san_of : Position → Move → List ℕ
san_of p m = body_of p m (man_at p.placement m.from) ++ threat_text (threat_told p m)
