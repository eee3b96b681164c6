-- The legal moves from a square, as its targets tell them.
use Rattle.std.specs.Prelude.{◌≡◌, ◌↔◌, ◌<◌, Bool, true, false, cond, ◌&&◌, ◌==◌, not, List, [], ◌∷◌, length, filter, flat_map, Contains, Option, Some, None, is_none}
use Rattle.std.specs.Bool.{Decides}
use Rattle.std.proofs.Common.{arith, refl, sym, ap, subst, ◌∙◌, inl, inr}
use Rattle.std.proofs.lemmas.Bool.{false≢true, cases_Bool, cases_eq, false_from_ne_true}
use Rattle.std.proofs.lemmas.List.FromFn.{get_or-map-range_with_len}
use Rattle.chess_bits.specs.declared.men.Colour.{Colour}
use Rattle.chess_bits.specs.declared.men.Kind.{Kind}
use Rattle.chess_bits.specs.declared.men.Kind.TheVariants.{Pawn, Knight, Bishop, Rook, Queen, King}
use Rattle.chess_bits.specs.Square.{Square, IsOnBoard, square_at, squares}
use Rattle.chess_bits.specs.Table.{has, members}
use Rattle.chess_bits.specs.Man.{is_of}
use Rattle.chess_bits.proofs.ManLemmas.{same_colour, none_is_no_man}
use Rattle.chess_bits.proofs.TableLemmas.{IsOnBoard-square_at}
use Rattle.chess_bits.proofs.Deciding.{and_decides, not_decides, like_decides}
use Rattle.chess_bits.proofs.AlongLemmas.{length-all_squares}
use Rattle.chess_board.specs.declared.moves.Move.{Move}
use Rattle.chess_board.specs.Position.{Position, man_at, IsInCheck, is_in_check}
use Rattle.chess_board.specs.Next.{placement_after}
use Rattle.chess_board.specs.Legal.{last_rank, IsLegal}
use Rattle.chess_board.specs.Computing.{holds_colour, is_promotion, is_legal, moves_between, moves_from, legal_moves_of}
use Rattle.chess_board.proofs.Deciding.{Decides-is_none, Decides-is_promotion, Decides-is_in_check, Decides-is_legal}
use Rattle.chess_board.specs.Occupancy.{squares_with}
use Rattle.chess_board.proofs.AttackLemmas.{has-squares_with}
use Rattle.chess_board.proofs.LegalMoves.{legal_moves_of-legal, legal_moves_of-each}
use Rattle.chess_board.proofs.DistinctMoves.{from_of_moves, legal_moves_of-distinct}
use Rattle.chess_moves.specs.Targets.{plain, GoesTo, Becomes, LeavesKingSafe, HasSafeTarget}
use Rattle.chess_moves.specs.Moves.{IsListOfLegalMoves, HasLegalFrom}
use Rattle.chess_moves.specs.Listing.{legal_from, promoted, promotions, choices}
use Rattle.chess_moves.proofs.ListLemmas.{filter-flat_map, filter-none, filter-same}
use Rattle.chess_moves.proofs.Parts.{move_of_parts, goes_of_move, becomes_of_move, candidate_kind}
use Rattle.chess_moves.proofs.Promoting.{promoted_check, plain_check}

-- ---- tests

-- tests of one fact agree
pub same_test : {P : Type 0} (a b : Bool) → Decides a P → Decides b P → a ≡ b
same_test a b decides_a decides_b = elim (cases_Bool a) [
  | inl passes ↦ passes ∙ sym (decides_b.1 (decides_a.0 passes))
  | inr fails ↦ fails ∙ sym (false_from_ne_true b (λ e. false≢true (sym fails ∙ decides_a.1 (decides_b.0 e))))
]

abbrev becomes : Colour → Kind → Square → Option Kind → Bool
becomes side Pawn to promotion = is_promotion side to promotion
becomes side Knight to promotion = is_none promotion
becomes side Bishop to promotion = is_none promotion
becomes side Rook to promotion = is_none promotion
becomes side Queen to promotion = is_none promotion
becomes side King to promotion = is_none promotion

Decides-becomes : (side : Colour) (kind : Kind) (to : Square) (promotion : Option Kind) →
    Decides (becomes side kind to promotion) (Becomes side kind to promotion)
Decides-becomes side Pawn to promotion = Decides-is_promotion side to promotion
Decides-becomes side Knight to promotion = Decides-is_none promotion
Decides-becomes side Bishop to promotion = Decides-is_none promotion
Decides-becomes side Rook to promotion = Decides-is_none promotion
Decides-becomes side Queen to promotion = Decides-is_none promotion
Decides-becomes side King to promotion = Decides-is_none promotion

-- whether the king is safe once a man has gone so
unfoldable pub leaves_king_safe : Position → Square → Square → Bool
leaves_king_safe p from to = not (is_in_check (placement_after p (plain from to)) p.side)

pub Decides-leaves_king_safe : (p : Position) (from to : Square) →
    Decides (leaves_king_safe p from to) (LeavesKingSafe p from to)
unfolding leaves_king_safe
Decides-leaves_king_safe p from to = not_decides (Decides-is_in_check (placement_after p (plain from to)) p.side)

-- ---- one move

abbrev pub with : Square → Square → Option Kind → Move
with from to promotion = record { from = from; to = to; promotion = promotion }

not_some : {A : Type 0} (x : A) → Some x ≡ None → ⊥
not_some x e = absurd (cc)

-- the safety of the king, whatever the man becomes
safe_alike : (p : Position) (from to : Square) (kind : Kind) (promotion : Option Kind) → length p.placement ≡ 64 →
    IsOnBoard to → man_at p.placement from ≡ Some (p.side, kind) → Becomes p.side kind to promotion →
    (IsInCheck (placement_after p (with from to promotion)) p.side ↔
    IsInCheck (placement_after p (plain from to)) p.side)
safe_alike p from to kind None whole on own becomes = (λ check. check, λ check. check)
safe_alike p from to Pawn (Some new) whole on own becomes = (
  promoted_check p from to new whole on own becomes.1,
  plain_check p from to new whole on own,
)
safe_alike p from to Knight (Some new) whole on own becomes = absurd (not_some new becomes)
safe_alike p from to Bishop (Some new) whole on own becomes = absurd (not_some new becomes)
safe_alike p from to Rook (Some new) whole on own becomes = absurd (not_some new becomes)
safe_alike p from to Queen (Some new) whole on own becomes = absurd (not_some new becomes)
safe_alike p from to King (Some new) whole on own becomes = absurd (not_some new becomes)

-- a legal move of a man of the kind, in parts
pub legal_of_parts : (p : Position) (from to : Square) (kind : Kind) (promotion : Option Kind) →
    length p.placement ≡ 64 → IsOnBoard to → man_at p.placement from ≡ Some (p.side, kind) → GoesTo p kind from to →
    Becomes p.side kind to promotion → LeavesKingSafe p from to → IsLegal p (with from to promotion)
legal_of_parts p from to kind promotion whole on own goes becomes safe = record {
  candidate = record {
    kind = kind;
    own = own;
    on_board = on;
    rule = move_of_parts p (with from to promotion) kind goes becomes;
  };
  safe = λ check. safe ((safe_alike p from to kind promotion whole on own becomes).0 check);
}

pub parts_of_legal : (p : Position) (from to : Square) (kind : Kind) (promotion : Option Kind) →
    length p.placement ≡ 64 → IsOnBoard to → man_at p.placement from ≡ Some (p.side, kind) →
    IsLegal p (with from to promotion) →
    GoesTo p kind from to × (Becomes p.side kind to promotion × LeavesKingSafe p from to)
parts_of_legal p from to kind promotion whole on own legal =
    let rule = candidate_kind p (with from to promotion) kind own legal.candidate in
    let becomes = becomes_of_move p (with from to promotion) kind rule in (
      goes_of_move p (with from to promotion) kind rule,
      (becomes, λ check. legal.safe ((safe_alike p from to kind promotion whole on own becomes).1 check)),
    )

is_legal-parts : (p : Position) (from to : Square) (kind : Kind) (goes : Bool) (promotion : Option Kind) →
    length p.placement ≡ 64 → IsOnBoard to → man_at p.placement from ≡ Some (p.side, kind) →
    Decides goes (GoesTo p kind from to) →
    is_legal p (with from to promotion) ≡ (goes && (becomes p.side kind to promotion && leaves_king_safe p from to))
is_legal-parts p from to kind goes promotion whole on own decides =
    same_test (is_legal p (with from to promotion))
    (goes && (becomes p.side kind to promotion && leaves_king_safe p from to))
    (Decides-is_legal p (with from to promotion))
    (like_decides
    (λ parts. legal_of_parts p from to kind promotion whole on own parts.0 parts.1.0 parts.1.1)
    (parts_of_legal p from to kind promotion whole on own)
    (and_decides decides
    (and_decides (Decides-becomes p.side kind to promotion) (Decides-leaves_king_safe p from to))))

-- ---- the moves between two squares

abbrev five : (Move → Bool) → Square → Square → List Move
five test from to = filter test (moves_between from to)

five_piece : (test : Move → Bool) (from to : Square) (goes safe : Bool) →
    ((promotion : Option Kind) → test (with from to promotion) ≡ (goes && (is_none promotion && safe))) →
    five test from to ≡ cond goes (cond safe (plain from to ∷ []) []) []
five_piece test from to true true each =
    rw (each None, each (Some Queen), each (Some Rook), each (Some Bishop), each (Some Knight)) refl
five_piece test from to true false each =
    rw (each None, each (Some Queen), each (Some Rook), each (Some Bishop), each (Some Knight)) refl
five_piece test from to false safe each =
    rw (each None, each (Some Queen), each (Some Rook), each (Some Bishop), each (Some Knight)) refl

five_pawn : (test : Move → Bool) (from to : Square) (goes last safe : Bool) →
    (test (with from to None) ≡ (goes && (not last && safe))) →
    (test (promoted from to Queen) ≡ (goes && ((last && true) && safe))) →
    (test (promoted from to Rook) ≡ (goes && ((last && true) && safe))) →
    (test (promoted from to Bishop) ≡ (goes && ((last && true) && safe))) →
    (test (promoted from to Knight) ≡ (goes && ((last && true) && safe))) →
    five test from to ≡ cond goes (cond safe (cond last (promotions from to) (plain from to ∷ [])) []) []
five_pawn test from to true true true none queen rook bishop knight = rw (none, queen, rook, bishop, knight) refl
five_pawn test from to true true false none queen rook bishop knight = rw (none, queen, rook, bishop, knight) refl
five_pawn test from to true false true none queen rook bishop knight = rw (none, queen, rook, bishop, knight) refl
five_pawn test from to true false false none queen rook bishop knight = rw (none, queen, rook, bishop, knight) refl
five_pawn test from to false last safe none queen rook bishop knight = rw (none, queen, rook, bishop, knight) refl

five_choices : (test : Move → Bool) (side : Colour) (kind : Kind) (from to : Square) (goes safe : Bool) →
    ((promotion : Option Kind) →
    test (with from to promotion) ≡ (goes && (becomes side kind to promotion && safe))) →
    five test from to ≡ cond goes (cond safe (choices side kind from to) []) []
five_choices test side Pawn from to goes safe each =
    five_pawn test from to goes (to.rank == last_rank side) safe (each None) (each (Some Queen)) (each (Some Rook))
    (each (Some Bishop)) (each (Some Knight))
five_choices test side Knight from to goes safe each = five_piece test from to goes safe each
five_choices test side Bishop from to goes safe each = five_piece test from to goes safe each
five_choices test side Rook from to goes safe each = five_piece test from to goes safe each
five_choices test side Queen from to goes safe each = five_piece test from to goes safe each
five_choices test side King from to goes safe each = five_piece test from to goes safe each

-- what is listed for a target
unfoldable pub safe_choices : Position → Kind → Square → Square → List Move
safe_choices p kind from to = cond (leaves_king_safe p from to) (choices p.side kind from to) []

pub between_choices : (p : Position) (from to : Square) (kind : Kind) (goes : Bool) → length p.placement ≡ 64 →
    IsOnBoard to → man_at p.placement from ≡ Some (p.side, kind) → Decides goes (GoesTo p kind from to) →
    filter (is_legal p) (moves_between from to) ≡ cond goes (safe_choices p kind from to) []
unfolding safe_choices
between_choices p from to kind goes whole on own decides =
    five_choices (is_legal p) p.side kind from to goes (leaves_king_safe p from to)
    (λ promotion. is_legal-parts p from to kind goes promotion whole on own decides)

-- ---- all moves from a square

pub on_board-squares : (s : Square) → Contains squares s → IsOnBoard s
unfolding squares
on_board-squares s here =
    let below : here.0 < 64 = omega (arith, here.1, length-all_squares) in
    subst IsOnBoard
    (sym (get_or-map-range_with_len square_at 0 64 here.0 here.0 s below (omega arith)) ∙ here.2)
    (IsOnBoard-square_at here.0 below)

-- ---- whether there is one

becomes_something : (side : Colour) (kind : Kind) (to : Square) →
    (promotion : Option Kind) × Becomes side kind to promotion
becomes_something side Pawn to = elim (cases_eq to.rank (last_rank side)) [
  | inl last ↦ (Some Queen, (last, inl refl))
  | inr inside ↦ (None, inside)
]
becomes_something side Knight to = (None, refl)
becomes_something side Bishop to = (None, refl)
becomes_something side Rook to = (None, refl)
becomes_something side Queen to = (None, refl)
becomes_something side King to = (None, refl)

pub legal_from_target : (p : Position) (from : Square) (kind : Kind) → length p.placement ≡ 64 →
    man_at p.placement from ≡ Some (p.side, kind) → HasSafeTarget p kind from → HasLegalFrom p from
legal_from_target p from kind whole own (to, on, goes, safe) =
    let (promotion, becomes) = becomes_something p.side kind to in
    (with from to promotion, refl, legal_of_parts p from to kind promotion whole on own goes becomes safe)

pub target_from_legal : (p : Position) (from : Square) (kind : Kind) → length p.placement ≡ 64 →
    man_at p.placement from ≡ Some (p.side, kind) → HasLegalFrom p from → HasSafeTarget p kind from
target_from_legal p from kind whole own (m, there, legal) =
    let own_m : man_at p.placement m.from ≡ Some (p.side, kind) = ap (man_at p.placement) there ∙ own in
    let parts = parts_of_legal p m.from m.to kind m.promotion whole legal.candidate.on_board own_m legal in
    let Goes' : Square → Type 0 = λ s. GoesTo p kind s m.to in
    let Safe' : Square → Type 0 = λ s. LeavesKingSafe p s m.to in
    (m.to, legal.candidate.on_board, subst Goes' there parts.0, subst Safe' there parts.1.1)

-- a square without a man of the side to move has no legal move
pub own_of_legal : (p : Position) (from : Square) (here : Colour × Kind) → man_at p.placement from ≡ Some here →
    HasLegalFrom p from → here.0 ≡ p.side
own_of_legal p from here stands (m, there, legal) =
    same_colour (man_at p.placement from) here (p.side, legal.candidate.kind) stands
    (ap (man_at p.placement) (sym there) ∙ legal.candidate.own)

pub some_of_legal : (p : Position) (from : Square) → man_at p.placement from ≡ None → ¬ HasLegalFrom p from
some_of_legal p from empty (m, there, legal) =
    none_is_no_man (man_at p.placement from) (p.side, legal.candidate.kind) empty
    (ap (man_at p.placement) (sym there) ∙ legal.candidate.own)

pub legal_from-empty : (p : Position) (from : Square) → ¬ HasLegalFrom p from → legal_from p from ≡ []
unfolding legal_from
legal_from-empty p from none =
    filter-none (is_legal p) (moves_from from)
    (λ m here. false_from_ne_true (is_legal p m)
    (λ e. none (m, from_of_moves from squares m here, (Decides-is_legal p m).0 e)))

-- ---- the list of the whole position

pub own_squares : (p : Position) →
    filter (λ s. holds_colour p s p.side) squares ≡ members (squares_with (is_of p.side) p.placement)
unfolding members
own_squares p =
    filter-same (λ s. holds_colour p s p.side) (has (squares_with (is_of p.side) p.placement)) squares
    (λ s. sym (has-squares_with (is_of p.side) p.placement s))

pub legal_moves_of-parts : (p : Position) →
    legal_moves_of p ≡ flat_map (legal_from p) (members (squares_with (is_of p.side) p.placement))
unfolding legal_from
legal_moves_of-parts p =
    filter-flat_map (is_legal p) moves_from (filter (λ s. holds_colour p s p.side) squares)
    ∙ ap (flat_map (λ from. filter (is_legal p) (moves_from from))) (own_squares p)

pub IsListOfLegalMoves-computed : (p : Position) (moves : List Move) → moves ≡ legal_moves_of p →
    IsListOfLegalMoves p moves
IsListOfLegalMoves-computed p moves e =
    let List' : List Move → Type 0 = IsListOfLegalMoves p in
    subst List' (sym e) (record {
      exact = λ m. (legal_moves_of-legal p m, legal_moves_of-each p m);
      distinct = legal_moves_of-distinct p;
    })
