-- What each candidate in a valid position does: where it goes, what it takes and what it puts there.
use Rattle.std.specs.Prelude.{ℕ, ◌≡◌, ◌≢◌, ◌⊎◌, ◌+◌, ◌≤◌, true, false, ◌&&◌, not, ◌==◌, List, Option, Some, None}
use Rattle.std.proofs.Common.{arith, inl, inr, ap}
use Rattle.std.proofs.lemmas.Bool.{and_from, and_left, and_right, false_from_ne_true, eq-eqb, ne_eqb, not_from_true, not_from_false}
use Rattle.chess_bits.specs.declared.men.Colour.{Colour}
use Rattle.chess_bits.specs.declared.men.Colour.TheVariants.{White, Black}
use Rattle.chess_bits.specs.declared.men.Kind.{Kind}
use Rattle.chess_bits.specs.declared.men.Kind.TheVariants.{Pawn, Knight, Bishop, Rook, Queen, King}
use Rattle.chess_bits.specs.Square.{Square, IsOnBoard, is_square}
use Rattle.chess_bits.specs.Man.{Man, other, is_kind}
use Rattle.chess_bits.specs.Attack.{along, forward, pawn_attacks, adjoining, Reaches, Attacks}
use Rattle.chess_bits.proofs.TableLemmas.{is_square-true, is_square-same, on_board-from_at, same_square}
use Rattle.chess_bits.proofs.ManLemmas.{none_is_no_man, not_of_both}
use Rattle.chess_board.specs.declared.castling.Wing.{Wing}
use Rattle.chess_board.specs.declared.castling.Wing.TheVariants as wing
use Rattle.chess_board.specs.declared.moves.Move.{Move}
use Rattle.chess_board.specs.Position.{Position, man_at, occupied_of, home_rank, king_home, rook_home, IsInCheck, IsTarget, IsValid}
use Rattle.chess_board.specs.Next.{moves_kind, is_en_passant, is_target, beside, castled_king, castles_to, castled_rook, became, became_of}
use Rattle.chess_board.proofs.PlacementAfter.{castles_to-true}
use Rattle.chess_board.specs.Legal.{last_rank, IsPromotionKind, IsPromotion, PawnTakes, TakesEnPassant, IsPawnMove, IsPieceMove, Castles, IsMoveOf, IsCandidate}

-- a square with a man is on the board
pub IsOnBoard-from_man : (t : List (Option Man)) (s : Square) (man : Man) → man_at t s ≡ Some man → IsOnBoard s
IsOnBoard-from_man t s man here = on_board-from_at None t s (λ e. absurd (cc))

-- A king that could be taken stands in check, and the side that is not to move does not.
pub takes_no_king : (t : List (Option Man)) (side : Colour) (kind : Kind) (from to : Square) →
    (IsInCheck t (other side) → ⊥) → man_at t from ≡ Some (side, kind) → Attacks (occupied_of t) side kind from to →
    man_at t to ≢ Some (other side, King)
takes_no_king t White kind from to unchecked own attacked king =
    unchecked (to, king, (from, record { kind = kind; stands = own; attacks = attacked }))
takes_no_king t Black kind from to unchecked own attacked king =
    unchecked (to, king, (from, record { kind = kind; stands = own; attacks = attacked }))

-- what is known of each candidate: `kind` moves, and what stands on the square reached is a `new`
pub record Goes (p : Position) (m : Move) (kind new : Kind) : Type 0 where
  pub own : man_at p.placement m.from ≡ Some (p.side, kind)
  pub from_on : IsOnBoard m.from
  pub to_on : IsOnBoard m.to
  pub free : (k : Kind) → man_at p.placement m.to ≢ Some (p.side, k)
  pub spared : man_at p.placement m.to ≢ Some (other p.side, King)
  pub becomes : became p m ≡ Some (p.side, new)
  pub same_king : is_kind King new ≡ is_kind King kind
  pub inside : new ≡ Pawn → (m.to.rank ≢ 1) × (m.to.rank ≢ 8)

pub record IsPlain (p : Position) (m : Move) : Type 0 where
  pub no_pawn : is_en_passant p m ≡ false
  pub no_king : castles_to p m wing.King ≡ false
  pub no_queen : castles_to p m wing.Queen ≡ false

pub record IsEnPassant (p : Position) (m : Move) : Type 0 where
  pub pawn : is_en_passant p m ≡ true
  pub empty : man_at p.placement m.to ≡ None
  pub taken : man_at p.placement (beside m) ≡ Some (other p.side, Pawn)

pub apart : (p : Position) (m : Move) (kind new : Kind) → Goes p m kind new → m.from ≢ m.to
apart p m kind new goes e = goes.free kind (rw (← e) goes.own)

pub moves_kind-own : (p : Position) (m : Move) (mover k : Kind) → man_at p.placement m.from ≡ Some (p.side, mover) →
    moves_kind p m k ≡ is_kind k mover
moves_kind-own p m mover k own = rw own

pub no_en_passant : (p : Position) (m : Move) (mover : Kind) → man_at p.placement m.from ≡ Some (p.side, mover) →
    is_kind Pawn mover ≡ false →
    is_en_passant p m ≡ false
no_en_passant p m mover own other_kind = rw (own, other_kind)

pub no_castling : (p : Position) (m : Move) (mover : Kind) (w : Wing) →
    man_at p.placement m.from ≡ Some (p.side, mover) →
    is_kind King mover ≡ false → castles_to p m w ≡ false
no_castling p m mover w own other_kind = rw (own, other_kind)

adjoining_files : (a b : Square) → IsOnBoard a → Reaches adjoining a b → (b.file ≤ a.file + 1) × (a.file ≤ b.file + 1)
adjoining_files a b on reached = grind arith

pub no_castling-near : (p : Position) (m : Move) (w : Wing) → IsOnBoard m.from → Reaches adjoining m.from m.to →
    castles_to p m w ≡ false
no_castling-near p m wing.King on reached = false_from_ne_true (castles_to p m wing.King) (λ e.
    let homes = castles_to-true p m wing.King e in
    let files = adjoining_files m.from m.to on reached in
    absurd (omega (arith, ap (λ (s : Square). s.file) homes.0, ap (λ (s : Square). s.file) homes.1)))
no_castling-near p m wing.Queen on reached = false_from_ne_true (castles_to p m wing.Queen) (λ e.
    let homes = castles_to-true p m wing.Queen e in
    let files = adjoining_files m.from m.to on reached in
    absurd (omega (arith, ap (λ (s : Square). s.file) homes.0, ap (λ (s : Square). s.file) homes.1)))

-- a piece other than a king
plain_piece : (p : Position) (m : Move) (kind : Kind) → man_at p.placement m.from ≡ Some (p.side, kind) →
    is_kind Pawn kind ≡ false → is_kind King kind ≡ false → IsPlain p m
plain_piece p m kind own no_pawn no_king = record {
  no_pawn = no_en_passant p m kind own no_pawn;
  no_king = no_castling p m kind wing.King own no_king;
  no_queen = no_castling p m kind wing.Queen own no_king;
}

goes_piece : (p : Position) (m : Move) (kind : Kind) → IsValid p → man_at p.placement m.from ≡ Some (p.side, kind) →
    IsOnBoard m.to → kind ≢ Pawn → IsPieceMove p m kind → Goes p m kind kind
goes_piece p m kind valid own to_on no_pawn piece = record {
  own = own;
  from_on = IsOnBoard-from_man p.placement m.from (p.side, kind) own;
  to_on = to_on;
  free = λ k here. piece.free (k, here);
  spared = takes_no_king p.placement p.side kind m.from m.to valid.check own piece.attacked;
  becomes = rw (piece.no_promotion, own);
  same_king = λ i. is_kind King kind;
  inside = λ e. absurd (no_pawn e);
}

-- Pawns.

pub between_ends : (side : Colour) (rank : ℕ) → rank ≢ home_rank side → rank ≢ last_rank side → (rank ≢ 1) × (rank ≢ 8)
between_ends White rank first last = (first, last)
between_ends Black rank first last = (last, first)

pub promotion_kinds : (kind : Kind) → IsPromotionKind kind → (is_kind King kind ≡ false) × (kind ≢ Pawn)
promotion_kinds Pawn is = absurd (grind arith)
promotion_kinds Knight is = (λ i. false, λ e. absurd (cc))
promotion_kinds Bishop is = (λ i. false, λ e. absurd (cc))
promotion_kinds Rook is = (λ i. false, λ e. absurd (cc))
promotion_kinds Queen is = (λ i. false, λ e. absurd (cc))
promotion_kinds King is = absurd (grind arith)

-- what a pawn becomes
pub record Becomes (side : Colour) (to : Square) (promotion : Option Kind) (new : Kind) : Type 0 where
  pub becomes : became_of side promotion (Some (side, Pawn)) ≡ Some (side, new)
  pub no_king : is_kind King new ≡ false
  pub inside : new ≡ Pawn → (to.rank ≢ 1) × (to.rank ≢ 8)

pub becomes_something : (side : Colour) (to : Square) (promotion : Option Kind) → IsPromotion side to promotion →
    to.rank ≢ home_rank side →
    (new : Kind) × Becomes side to promotion new
becomes_something side to None is on = (
  Pawn,
  record {
    becomes = λ i. Some (side, Pawn);
    no_king = λ i. false;
    inside = λ e. between_ends side to.rank on is;
  },
)
becomes_something side to (Some kind) is on = (
  kind,
  record {
    becomes = λ i. Some (side, kind);
    no_king = (promotion_kinds kind is.1).0;
    inside = λ e. absurd ((promotion_kinds kind is.1).1 e);
  },
)

-- which way a pawn goes
pub advances_from : (side : Colour) (a b : Square) → IsOnBoard a → IsOnBoard b → b ≡ along 1 (forward side) a →
    (a.file ≡ b.file) × (b.rank ≢ home_rank side)
advances_from White a b on_a on_b e =
    (omega (arith, ap (λ (s : Square). s.file) e), omega (arith, ap (λ (s : Square). s.rank) e))
advances_from Black a b on_a on_b e =
    (omega (arith, ap (λ (s : Square). s.file) e), omega (arith, ap (λ (s : Square). s.rank) e))

pub advances_two_from : (side : Colour) (a b : Square) → IsOnBoard a → IsOnBoard b → b ≡ along 2 (forward side) a →
    (a.file ≡ b.file) × (b.rank ≢ home_rank side)
advances_two_from White a b on_a on_b e =
    (omega (arith, ap (λ (s : Square). s.file) e), omega (arith, ap (λ (s : Square). s.rank) e))
advances_two_from Black a b on_a on_b e =
    (omega (arith, ap (λ (s : Square). s.file) e), omega (arith, ap (λ (s : Square). s.rank) e))

pub attacks_from : (side : Colour) (a b : Square) → IsOnBoard a → IsOnBoard b → Reaches (pawn_attacks side) a b →
    (a.file ≢ b.file) × (b.rank ≢ home_rank side) × (a.rank ≡ (along 1 (forward (other side)) b).rank)
attacks_from White a b on_a on_b reached = (grind arith, grind arith, grind arith)
attacks_from Black a b on_a on_b reached = (grind arith, grind arith, grind arith)

pub is_target-true : (target : Option Square) (s : Square) → is_target target s ≡ true → target ≡ Some s
is_target-true None s e = absurd (cc)
is_target-true (Some t) s e = ap Some (is_square-true t s e)

-- the square beside is the one that the pawn taken en passant has reached
pub beside-reached : (m : Move) (side : Colour) → m.from.rank ≡ (along 1 (forward (other side)) m.to).rank →
    beside m ≡ along 1 (forward (other side)) m.to
beside-reached m White e = same_square (beside m) (along 1 (forward Black) m.to) (omega arith) e
beside-reached m Black e = same_square (beside m) (along 1 (forward White) m.to) (omega arith) e

pub pawn_goes : (p : Position) (m : Move) (new : Kind) → man_at p.placement m.from ≡ Some (p.side, Pawn) →
    IsOnBoard m.to →
    ((k : Kind) → man_at p.placement m.to ≢ Some (p.side, k)) → man_at p.placement m.to ≢ Some (other p.side, King) →
    Becomes p.side m.to m.promotion new → Goes p m Pawn new
pawn_goes p m new own to_on free spared becomes = record {
  own = own;
  from_on = IsOnBoard-from_man p.placement m.from (p.side, Pawn) own;
  to_on = to_on;
  free = free;
  spared = spared;
  becomes = rw own becomes.becomes;
  same_king = becomes.no_king;
  inside = becomes.inside;
}

pub plain_pawn : (p : Position) (m : Move) → man_at p.placement m.from ≡ Some (p.side, Pawn) →
    is_en_passant p m ≡ false → IsPlain p m
plain_pawn p m own no_pawn = record {
  no_pawn = no_pawn;
  no_king = no_castling p m Pawn wing.King own (λ i. false);
  no_queen = no_castling p m Pawn wing.Queen own (λ i. false);
}

pub straight_is_plain : (p : Position) (m : Move) → m.from.file ≡ m.to.file → is_en_passant p m ≡ false
straight_is_plain p m e =
    and_left (moves_kind p m Pawn && not (m.from.file == m.to.file)) (is_target p.target m.to)
    (and_right (moves_kind p m Pawn) (not (m.from.file == m.to.file))
    (not_from_true (m.from.file == m.to.file) (eq-eqb m.from.file m.to.file e)))

pub no_target_is_plain : (p : Position) (m : Move) → is_target p.target m.to ≡ false → is_en_passant p m ≡ false
no_target_is_plain p m e =
    and_right (moves_kind p m Pawn && not (m.from.file == m.to.file)) (is_target p.target m.to) e

-- A candidate as a whole: what it does, and which kind of move it is.
pub record IsCastling (p : Position) (m : Move) (w : Wing) : Type 0 where
  pub castles : castles_to p m w ≡ true
  pub from : m.from ≡ king_home p.side
  pub to : m.to ≡ castled_king p.side w
  pub rook : man_at p.placement (rook_home p.side w) ≡ Some (p.side, Rook)
  pub empty : man_at p.placement m.to ≡ None
  pub crossed_empty : man_at p.placement (castled_rook p.side w) ≡ None
  pub goes : Goes p m King King

pub record IsMove (p : Position) (m : Move) (kind : Kind) : Type 0 where
  pub new : Kind
  pub goes : Goes p m kind new
  pub way : IsPlain p m ⊎ IsEnPassant p m ⊎ IsCastling p m wing.King ⊎ IsCastling p m wing.Queen

piece_move : (p : Position) (m : Move) (kind : Kind) → IsValid p → man_at p.placement m.from ≡ Some (p.side, kind) →
    IsOnBoard m.to → kind ≢ Pawn → is_kind Pawn kind ≡ false → is_kind King kind ≡ false → IsPieceMove p m kind →
    IsMove p m kind
piece_move p m kind valid own to_on not_pawn no_pawn no_king piece = record {
  new = kind;
  goes = goes_piece p m kind valid own to_on not_pawn piece;
  way = inl (plain_piece p m kind own no_pawn no_king);
}

king_move : (p : Position) (m : Move) → IsValid p → man_at p.placement m.from ≡ Some (p.side, King) →
    IsOnBoard m.to → IsPieceMove p m King → IsMove p m King
king_move p m valid own to_on piece =
    let goes = goes_piece p m King valid own to_on (λ e. absurd (cc)) piece in
    record {
      new = King;
      goes = goes;
      way = inl (record {
        no_pawn = no_en_passant p m King own (λ i. false);
        no_king = no_castling-near p m wing.King goes.from_on piece.attacked;
        no_queen = no_castling-near p m wing.Queen goes.from_on piece.attacked;
      });
    }

castling_move : (p : Position) (m : Move) (w : Wing) → IsValid p → man_at p.placement m.from ≡ Some (p.side, King) →
    IsOnBoard m.to →
    Castles p m w → man_at p.placement m.to ≡ None → man_at p.placement (castled_rook p.side w) ≡ None →
    IsCastling p m w
castling_move p m w valid own to_on castles empty crossed = record {
  castles = and_from (moves_kind p m King && is_square m.from (king_home p.side))
      (is_square m.to (castled_king p.side w))
      (and_from (moves_kind p m King) (is_square m.from (king_home p.side)) (moves_kind-own p m King King own)
      (is_square-same m.from (king_home p.side) castles.from))
      (is_square-same m.to (castled_king p.side w) castles.to);
  from = castles.from;
  to = castles.to;
  rook = (valid.rights p.side w castles.right).1;
  empty = empty;
  crossed_empty = crossed;
  goes = record {
    own = own;
    from_on = IsOnBoard-from_man p.placement m.from (p.side, King) own;
    to_on = to_on;
    free = λ k. none_is_no_man (man_at p.placement m.to) (p.side, k) empty;
    spared = none_is_no_man (man_at p.placement m.to) (other p.side, King) empty;
    becomes = rw (castles.no_promotion, own);
    same_king = λ i. true;
    inside = λ e. absurd (cc);
  };
}

castling_king : (p : Position) (m : Move) → IsValid p → man_at p.placement m.from ≡ Some (p.side, King) →
    IsOnBoard m.to →
    Castles p m wing.King → IsMove p m King
castling_king p m valid own to_on castles =
    let castling : IsCastling p m wing.King =
    castling_move p m wing.King valid own to_on castles (rw castles.to castles.empty.1.0) castles.empty.0 in
    record { new = King; goes = castling.goes; way = inr (inr (inl castling)) }

castling_queen : (p : Position) (m : Move) → IsValid p → man_at p.placement m.from ≡ Some (p.side, King) →
    IsOnBoard m.to →
    Castles p m wing.Queen → IsMove p m King
castling_queen p m valid own to_on castles =
    let castling : IsCastling p m wing.Queen =
    castling_move p m wing.Queen valid own to_on castles (rw castles.to castles.empty.1.0) castles.empty.1.1.0 in
    record { new = King; goes = castling.goes; way = inr (inr (inr castling)) }

-- a pawn's move to an empty square on its file
straight_pawn : (p : Position) (m : Move) → man_at p.placement m.from ≡ Some (p.side, Pawn) → IsOnBoard m.to →
    IsPromotion p.side m.to m.promotion → (m.from.file ≡ m.to.file) × (m.to.rank ≢ home_rank p.side) →
    man_at p.placement m.to ≡ None →
    IsMove p m Pawn
straight_pawn p m own to_on promotion ahead empty =
    let (new, becomes) = becomes_something p.side m.to m.promotion promotion ahead.1 in
    record {
      new = new;
      goes = pawn_goes p m new own to_on (λ k. none_is_no_man (man_at p.placement m.to) (p.side, k) empty)
          (none_is_no_man (man_at p.placement m.to) (other p.side, King) empty) becomes;
      way = inl (plain_pawn p m own (straight_is_plain p m ahead.0));
    }

taking_pawn : (p : Position) (m : Move) → IsValid p → man_at p.placement m.from ≡ Some (p.side, Pawn) →
    IsOnBoard m.to →
    IsPromotion p.side m.to m.promotion → PawnTakes p m → IsMove p m Pawn
taking_pawn p m valid own to_on promotion takes =
    let from_on : IsOnBoard m.from = IsOnBoard-from_man p.placement m.from (p.side, Pawn) own in
    let ahead = attacks_from p.side m.from m.to from_on to_on takes.attacked in
    let (new, becomes) = becomes_something p.side m.to m.promotion promotion ahead.1 in
    let (taken, there) = takes.taken in
    record {
      new = new;
      goes = pawn_goes p m new own to_on (λ k. not_of_both (man_at p.placement m.to) p.side taken k there)
          (takes_no_king p.placement p.side Pawn m.from m.to valid.check own takes.attacked) becomes;
      way = inl (plain_pawn p m own (no_target_is_plain p m (false_from_ne_true (is_target p.target m.to) (λ e.
          none_is_no_man (man_at p.placement m.to) (other p.side, taken)
          (valid.target m.to (is_target-true p.target m.to e)).crossed there))));
    }

en_passant_pawn : (p : Position) (m : Move) → IsValid p → man_at p.placement m.from ≡ Some (p.side, Pawn) →
    IsOnBoard m.to →
    IsPromotion p.side m.to m.promotion → TakesEnPassant p m → IsMove p m Pawn
en_passant_pawn p m valid own to_on promotion takes =
    let from_on : IsOnBoard m.from = IsOnBoard-from_man p.placement m.from (p.side, Pawn) own in
    let ahead = attacks_from p.side m.from m.to from_on to_on takes.attacked in
    let (new, becomes) = becomes_something p.side m.to m.promotion promotion ahead.1 in
    let target : IsTarget p m.to = valid.target m.to takes.crossed in
    record {
      new = new;
      goes = pawn_goes p m new own to_on (λ k. none_is_no_man (man_at p.placement m.to) (p.side, k) target.crossed)
          (none_is_no_man (man_at p.placement m.to) (other p.side, King) target.crossed) becomes;
      way = inr (inl (record {
        pawn = and_from (moves_kind p m Pawn && not (m.from.file == m.to.file)) (is_target p.target m.to)
            (and_from (moves_kind p m Pawn) (not (m.from.file == m.to.file)) (moves_kind-own p m Pawn Pawn own)
            (not_from_false (m.from.file == m.to.file) (ne_eqb m.from.file m.to.file ahead.0)))
            (rw takes.crossed (is_square-same m.to m.to (λ i. m.to)));
        empty = target.crossed;
        taken = rw (beside-reached m p.side ahead.2) target.pawn;
      }));
    }

pawn_move : (p : Position) (m : Move) → IsValid p → man_at p.placement m.from ≡ Some (p.side, Pawn) → IsOnBoard m.to →
    IsPawnMove p m → IsMove p m Pawn
pawn_move p m valid own to_on move =
    let from_on : IsOnBoard m.from = IsOnBoard-from_man p.placement m.from (p.side, Pawn) own in
    elim move.way [
      | inl one ↦ straight_pawn p m own to_on move.promotion
          (advances_from p.side m.from m.to from_on to_on one.there) one.empty
      | inr (inl two) ↦
          straight_pawn p m own to_on move.promotion (advances_two_from p.side m.from m.to from_on to_on two.there)
          two.empty
      | inr (inr (inl takes)) ↦ taking_pawn p m valid own to_on move.promotion takes
      | inr (inr (inr takes)) ↦ en_passant_pawn p m valid own to_on move.promotion takes
    ]

move_of : (p : Position) (m : Move) (kind : Kind) → IsValid p → man_at p.placement m.from ≡ Some (p.side, kind) →
    IsOnBoard m.to →
    IsMoveOf p m kind → IsMove p m kind
move_of p m Pawn valid own to_on rule = pawn_move p m valid own to_on rule
move_of p m Knight valid own to_on rule =
    piece_move p m Knight valid own to_on (λ e. absurd (cc)) (λ i. false) (λ i. false) rule
move_of p m Bishop valid own to_on rule =
    piece_move p m Bishop valid own to_on (λ e. absurd (cc)) (λ i. false) (λ i. false) rule
move_of p m Rook valid own to_on rule =
    piece_move p m Rook valid own to_on (λ e. absurd (cc)) (λ i. false) (λ i. false) rule
move_of p m Queen valid own to_on rule =
    piece_move p m Queen valid own to_on (λ e. absurd (cc)) (λ i. false) (λ i. false) rule
move_of p m King valid own to_on rule = elim rule [
  | inl piece ↦ king_move p m valid own to_on piece
  | inr (inl castles) ↦ castling_king p m valid own to_on castles
  | inr (inr castles) ↦ castling_queen p m valid own to_on castles
]

-- every candidate in a valid position is such a move
pub IsMove-candidate : (p : Position) (m : Move) → IsValid p → (candidate : IsCandidate p m) →
    IsMove p m candidate.kind
IsMove-candidate p m valid candidate = move_of p m candidate.kind valid candidate.own candidate.on_board candidate.rule
