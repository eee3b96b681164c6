-- No valid position has more than 512 legal moves: at most 16 men, and at most 32 moves of each.
use Rattle.std.specs.Prelude.{ℕ, ◌≡◌, ◌⊎◌, ◌+◌, ◌*◌, ◌≤◌, Bool, true, false, cond, ◌||◌, ◌==◌, nat_le, List, [], length, filter, Some}
use Rattle.std.specs.Bool.{Decides}
use Rattle.std.specs.List.{list_all}
use Rattle.std.proofs.Common.{arith, refl, sym, ◌∙◌, inl, inr}
use Rattle.std.proofs.lemmas.Bool.{cases_Bool, leb-true, le-leb}
use Rattle.std.proofs.lemmas.Bool.Decides.{Decides-eqb}
use Rattle.chess_bits.specs.declared.men.Colour.{Colour}
use Rattle.chess_bits.specs.declared.men.Colour.TheVariants.{White, Black}
use Rattle.chess_bits.specs.declared.men.Kind.{Kind}
use Rattle.chess_bits.specs.declared.men.Kind.TheVariants.{Pawn, Knight, Bishop, Rook, Queen, King}
use Rattle.chess_bits.specs.Square.{Square, IsOnBoard, is_square, squares}
use Rattle.chess_bits.specs.Man.{other, is_of, holds}
use Rattle.chess_bits.specs.Table.{has, members}
use Rattle.chess_bits.specs.Attack.{along, north, east, south, west, north_east, south_east, south_west, north_west, forward, straight, diagonal, adjoining, knight_steps, pawn_attacks, Reaches, Slides, reaches}
use Rattle.chess_bits.proofs.TableLemmas.{Decides-is_square}
use Rattle.chess_bits.proofs.Deciding.{or_decides, Decides-reaches, Decides-each_square, same_file, same_rank}
use Rattle.chess_bits.proofs.MemberLemmas.{length-members_map}
use Rattle.chess_board.specs.declared.castling.Wing.{Wing}
use Rattle.chess_board.specs.declared.castling.Wing.TheVariants as wing
use Rattle.chess_board.specs.declared.moves.Move.{Move}
use Rattle.chess_board.specs.Occupancy.{squares_with}
use Rattle.chess_board.specs.Position.{Position, man_at, occupied_of, home_rank, king_home, IsValid}
use Rattle.chess_board.specs.Next.{castled_king}
use Rattle.chess_board.specs.Computing.{is_legal, advances, advances_two, pawn_takes, takes_en_passant, is_piece_move, castles, moves_between, legal_moves_of}
use Rattle.chess_board.proofs.Candidates.{IsOnBoard-from_man}
use Rattle.chess_board.proofs.Deciding.{Decides-advances, Decides-advances_two, Decides-pawn_takes, Decides-takes_en_passant, Decides-is_piece_move, Decides-castles}
use Rattle.chess_moves.specs.Targets.{plain, GoesTo}
use Rattle.chess_moves.specs.Listing.{legal_from, choices}
use Rattle.chess_moves.proofs.ListLemmas.{filter-flat_map, length-parts, length-parts_passing, passes_there}
use Rattle.chess_moves.proofs.SquareLemmas.{colour-from_test}
use Rattle.chess_moves.proofs.Listed.{leaves_king_safe, safe_choices, between_choices, on_board-squares, legal_moves_of-parts}

-- ---- where a man can go on any board

-- on one file, rank or diagonal
abbrev OnLine : Square → Square → Type 0
OnLine a b =
    (a.file ≡ b.file) ⊎ ((a.rank ≡ b.rank) ⊎ ((a.file + b.rank ≡ b.file + a.rank) ⊎
    (a.file + a.rank ≡ b.file + b.rank)))

abbrev on_line : Square → Square → Bool
on_line a b =
    (a.file == b.file) || ((a.rank == b.rank) || ((a.file + b.rank == b.file + a.rank) ||
    (a.file + a.rank == b.file + b.rank)))

Decides-on_line : (a b : Square) → Decides (on_line a b) (OnLine a b)
Decides-on_line a b =
    or_decides (Decides-eqb a.file b.file) (or_decides (Decides-eqb a.rank b.rank)
    (or_decides (Decides-eqb (a.file + b.rank) (b.file + a.rank))
    (Decides-eqb (a.file + a.rank) (b.file + b.rank))))

-- whether a man of the kind can go from a square to another on some board
abbrev can_go : Colour → Kind → Square → Square → Bool
can_go side Pawn a b =
    is_square b (along 1 (forward side) a) || (is_square b (along 2 (forward side) a) ||
    reaches (pawn_attacks side) a b)
can_go side Knight a b = reaches knight_steps a b
can_go side Bishop a b = on_line a b
can_go side Rook a b = on_line a b
can_go side Queen a b = on_line a b
can_go side King a b = on_line a b

line-straight : (occupied : List Bool) (a b : Square) → IsOnBoard b → Slides occupied straight a b → OnLine a b
line-straight occupied a b on (inl s) = inl (omega (arith, same_file b (along s.distance _ a) s.there))
line-straight occupied a b on (inr (inl s)) = inr (inl (omega (arith, same_rank b (along s.distance _ a) s.there)))
line-straight occupied a b on (inr (inr (inl s))) = inl (omega (arith, same_file b (along s.distance _ a) s.there))
line-straight occupied a b on (inr (inr (inr (inl s)))) =
    inr (inl (omega (arith, same_rank b (along s.distance _ a) s.there)))
line-straight occupied a b on (inr (inr (inr (inr none)))) = absurd none

rising : (a b : Square) → a.file + b.rank ≡ b.file + a.rank → OnLine a b
rising a b e = inr (inr (inl e))

falling : (a b : Square) → a.file + a.rank ≡ b.file + b.rank → OnLine a b
falling a b e = inr (inr (inr e))

line-diagonal : (occupied : List Bool) (a b : Square) → IsOnBoard b → Slides occupied diagonal a b → OnLine a b
line-diagonal occupied a b on (inl s) =
    rising a b (omega (arith, same_file b (along s.distance _ a) s.there, same_rank b (along s.distance _ a) s.there))
line-diagonal occupied a b on (inr (inl s)) =
    falling a b (omega (arith, same_file b (along s.distance _ a) s.there, same_rank b (along s.distance _ a) s.there))
line-diagonal occupied a b on (inr (inr (inl s))) =
    rising a b (omega (arith, same_file b (along s.distance _ a) s.there, same_rank b (along s.distance _ a) s.there))
line-diagonal occupied a b on (inr (inr (inr (inl s)))) =
    falling a b (omega (arith, same_file b (along s.distance _ a) s.there, same_rank b (along s.distance _ a) s.there))
line-diagonal occupied a b on (inr (inr (inr (inr none)))) = absurd none

line-adjoining : (occupied : List Bool) (a b : Square) → IsOnBoard b → Slides occupied adjoining a b → OnLine a b
line-adjoining occupied a b on (inl s) = line-straight occupied a b on (inl s)
line-adjoining occupied a b on (inr (inl s)) = line-straight occupied a b on (inr (inl s))
line-adjoining occupied a b on (inr (inr (inl s))) = line-straight occupied a b on (inr (inr (inl s)))
line-adjoining occupied a b on (inr (inr (inr (inl s)))) = line-straight occupied a b on (inr (inr (inr (inl s))))
line-adjoining occupied a b on (inr (inr (inr (inr rest)))) = line-diagonal occupied a b on rest

line-beside : (a b : Square) → IsOnBoard b → Reaches adjoining a b → OnLine a b
line-beside a b on (inl e) = inl (omega (arith, same_file b (along 1 north a) e))
line-beside a b on (inr (inl e)) = inr (inl (omega (arith, same_rank b (along 1 east a) e)))
line-beside a b on (inr (inr (inl e))) = inl (omega (arith, same_file b (along 1 south a) e))
line-beside a b on (inr (inr (inr (inl e)))) = inr (inl (omega (arith, same_rank b (along 1 west a) e)))
line-beside a b on (inr (inr (inr (inr (inl e))))) =
    rising a b (omega (arith, same_file b (along 1 north_east a) e, same_rank b (along 1 north_east a) e))
line-beside a b on (inr (inr (inr (inr (inr (inl e)))))) =
    falling a b (omega (arith, same_file b (along 1 south_east a) e, same_rank b (along 1 south_east a) e))
line-beside a b on (inr (inr (inr (inr (inr (inr (inl e))))))) =
    rising a b (omega (arith, same_file b (along 1 south_west a) e, same_rank b (along 1 south_west a) e))
line-beside a b on (inr (inr (inr (inr (inr (inr (inr (inl e)))))))) =
    falling a b (omega (arith, same_file b (along 1 north_west a) e, same_rank b (along 1 north_west a) e))
line-beside a b on (inr (inr (inr (inr (inr (inr (inr (inr none)))))))) = absurd none

line-castling : (side : Colour) (w : Wing) (a b : Square) → a ≡ king_home side → b ≡ castled_king side w → OnLine a b
line-castling side wing.King a b from to =
    inr (inl (same_rank a (king_home side) from ∙ sym (same_rank b (castled_king side wing.King) to)))
line-castling side wing.Queen a b from to =
    inr (inl (same_rank a (king_home side) from ∙ sym (same_rank b (castled_king side wing.Queen) to)))

can_go-there : (p : Position) (kind : Kind) (a b : Square) → IsOnBoard b → GoesTo p kind a b →
    can_go p.side kind a b ≡ true
can_go-there p Pawn a b on goes =
    (or_decides (Decides-is_square b (along 1 (forward p.side) a))
    (or_decides (Decides-is_square b (along 2 (forward p.side) a)) (Decides-reaches (pawn_attacks p.side) a b))).1
    (elim goes [
      | inl one ↦ inl one.there
      | inr (inl two) ↦ inr (inl two.there)
      | inr (inr (inl takes)) ↦ inr (inr takes.attacked)
      | inr (inr (inr passes)) ↦ inr (inr passes.attacked)
    ])
can_go-there p Knight a b on goes = (Decides-reaches knight_steps a b).1 goes.attacked
can_go-there p Bishop a b on goes =
    (Decides-on_line a b).1 (line-diagonal (occupied_of p.placement) a b on goes.attacked)
can_go-there p Rook a b on goes =
    (Decides-on_line a b).1 (line-straight (occupied_of p.placement) a b on goes.attacked)
can_go-there p Queen a b on goes =
    (Decides-on_line a b).1 (line-adjoining (occupied_of p.placement) a b on goes.attacked)
can_go-there p King a b on goes = (Decides-on_line a b).1 (elim goes [
  | inl piece ↦ line-beside a b on piece.attacked
  | inr (inl castling) ↦ line-castling p.side wing.King a b castling.from castling.to
  | inr (inr castling) ↦ line-castling p.side wing.Queen a b castling.from castling.to
])

-- ---- how many squares these are, counted over the board

abbrev few : Kind → ℕ
few Pawn = 4
few Knight = 8
few Bishop = 28
few Rook = 28
few Queen = 28
few King = 28

abbrev goes_few : Colour → Kind → Square → Bool
goes_few side kind a = nat_le (length (filter (can_go side kind a) squares)) (few kind)

-- each of these is counted once, and kinds that go alike share what was counted
abbrev AreFew : (Square → Square → Bool) → ℕ → Type 0
AreFew goes most = list_all (λ a. nat_le (length (filter (goes a) squares)) most) squares ≡ true

few_on_lines : AreFew on_line 28
unfolding squares
few_on_lines = refl

few_for_knights : AreFew (reaches knight_steps) 8
unfolding squares
few_for_knights = refl

few_for_white_pawns : AreFew (can_go White Pawn) 4
unfolding squares
few_for_white_pawns = refl

few_for_black_pawns : AreFew (can_go Black Pawn) 4
unfolding squares
few_for_black_pawns = refl

few_everywhere : (side : Colour) (kind : Kind) → list_all (goes_few side kind) squares ≡ true
few_everywhere White Pawn = few_for_white_pawns
few_everywhere Black Pawn = few_for_black_pawns
few_everywhere side Knight = few_for_knights
few_everywhere side Bishop = few_on_lines
few_everywhere side Rook = few_on_lines
few_everywhere side Queen = few_on_lines
few_everywhere side King = few_on_lines

few_from : (side : Colour) (kind : Kind) (a : Square) → IsOnBoard a →
    length (filter (can_go side kind a) squares) ≤ few kind
few_from side kind a on =
    (Decides-each_square (goes_few side kind)
    (λ s. length (filter (can_go side kind s) squares) ≤ few kind)
    (λ s _. (
      leb-true (length (filter (can_go side kind s) squares)) (few kind),
      le-leb (length (filter (can_go side kind s) squares)) (few kind),
    ))).0 (few_everywhere side kind) a on

-- ---- how many moves a man has

-- to one square
abbrev most : Kind → ℕ
most Pawn = 4
most Knight = 1
most Bishop = 1
most Rook = 1
most Queen = 1
most King = 1

length-choices : (side : Colour) (kind : Kind) (from to : Square) → length (choices side kind from to) ≤ most kind
length-choices side Pawn from to = elim (cases_Bool (to.rank == home_rank (other side))) [
  | inl last ↦ rw last (omega arith)
  | inr inside ↦ rw inside (omega arith)
]
length-choices side Knight from to = omega arith
length-choices side Bishop from to = omega arith
length-choices side Rook from to = omega arith
length-choices side Queen from to = omega arith
length-choices side King from to = omega arith

length-safe_choices : (p : Position) (kind : Kind) (from to : Square) →
    length (safe_choices p kind from to) ≤ most kind
unfolding safe_choices
length-safe_choices p kind from to = elim (cases_Bool (leaves_king_safe p from to)) [
  | inl safe ↦ rw safe (length-choices p.side kind from to)
  | inr exposed ↦ rw exposed (omega arith)
]

-- the way of a man as a test
abbrev pub goes : Position → Kind → Square → Square → Bool
goes p Pawn from to =
    advances p (plain from to) || (advances_two p (plain from to) || (pawn_takes p (plain from to) ||
    takes_en_passant p (plain from to)))
goes p Knight from to = is_piece_move p (plain from to) Knight
goes p Bishop from to = is_piece_move p (plain from to) Bishop
goes p Rook from to = is_piece_move p (plain from to) Rook
goes p Queen from to = is_piece_move p (plain from to) Queen
goes p King from to =
    is_piece_move p (plain from to) King || (castles p (plain from to) wing.King ||
    castles p (plain from to) wing.Queen)

pub Decides-goes : (p : Position) (kind : Kind) (from to : Square) → IsOnBoard from → IsOnBoard to →
    Decides (goes p kind from to) (GoesTo p kind from to)
Decides-goes p Pawn from to on_from on =
    or_decides (Decides-advances p (plain from to)) (or_decides (Decides-advances_two p (plain from to))
    (or_decides (Decides-pawn_takes p (plain from to)) (Decides-takes_en_passant p (plain from to))))
Decides-goes p Knight from to on_from on = Decides-is_piece_move p (plain from to) Knight on_from on
Decides-goes p Bishop from to on_from on = Decides-is_piece_move p (plain from to) Bishop on_from on
Decides-goes p Rook from to on_from on = Decides-is_piece_move p (plain from to) Rook on_from on
Decides-goes p Queen from to on_from on = Decides-is_piece_move p (plain from to) Queen on_from on
Decides-goes p King from to on_from on =
    or_decides (Decides-is_piece_move p (plain from to) King on_from on)
    (or_decides (Decides-castles p (plain from to) wing.King) (Decides-castles p (plain from to) wing.Queen))

-- none where the man cannot go, else at most so many
short_part : (part all : List Move) (goes there : Bool) (n : ℕ) → part ≡ cond goes all [] → length all ≤ n →
    (goes ≡ true → there ≡ true) → length part ≤ cond there n 0
short_part part all true there n e most_n can =
    rw (can refl) (rw e most_n)
short_part part all false true n e most_n can = rw e (omega arith)
short_part part all false false n e most_n can = rw e (omega arith)

length-between : (p : Position) (kind : Kind) (from to : Square) → length p.placement ≡ 64 →
    man_at p.placement from ≡ Some (p.side, kind) → IsOnBoard from → IsOnBoard to →
    length (filter (is_legal p) (moves_between from to)) ≤ cond (can_go p.side kind from to) (most kind) 0
length-between p kind from to whole own on_from on =
    let decides = Decides-goes p kind from to on_from on in
    short_part (filter (is_legal p) (moves_between from to)) (safe_choices p kind from to) (goes p kind from to)
    (can_go p.side kind from to) (most kind)
    (between_choices p from to kind (goes p kind from to) whole on own decides)
    (length-safe_choices p kind from to) (λ e. can_go-there p kind from to on (decides.0 e))

moves_of_few : (kind : Kind) (n k : ℕ) → n ≤ most kind * k → k ≤ few kind → n ≤ 32
moves_of_few Pawn n k h few_k = omega arith
moves_of_few Knight n k h few_k = omega arith
moves_of_few Bishop n k h few_k = omega arith
moves_of_few Rook n k h few_k = omega arith
moves_of_few Queen n k h few_k = omega arith
moves_of_few King n k h few_k = omega arith

length-legal_from : (p : Position) (kind : Kind) (from : Square) → length p.placement ≡ 64 →
    man_at p.placement from ≡ Some (p.side, kind) → length (legal_from p from) ≤ 32
unfolding legal_from
length-legal_from p kind from whole own =
    let on = IsOnBoard-from_man p.placement from (p.side, kind) own in
    let parts = length-parts_passing (λ to. filter (is_legal p) (moves_between from to)) (can_go p.side kind from)
    (most kind) squares
    (λ to here. length-between p kind from to whole own on (on_board-squares to here)) in
    rw (filter-flat_map (is_legal p) (moves_between from) squares)
    (moves_of_few kind _ _ parts (few_from p.side kind from on))

-- ---- the whole position

pub length-legal_moves_of : (p : Position) → IsValid p → length (legal_moves_of p) ≤ 512
unfolding members
length-legal_moves_of p valid =
    let own : List Bool = squares_with (is_of p.side) p.placement in
    let each = length-parts (legal_from p) 32 (members own)
    (λ from here.
    let stands = colour-from_test p.placement p.side from (passes_there (has own) squares from here) in
    length-legal_from p stands.0 from valid.whole stands.1) in
    let men : length (members own) ≤ 16 =
    rw (length-members_map (holds (is_of p.side)) p.placement valid.whole) (valid.men p.side) in
    rw (legal_moves_of-parts p) (omega arith)
