-- After a legal move each side has one king and at most 16 men, and no pawn stands on rank 1 or 8.
use Rattle.std.specs.Prelude.{◌≡◌, ◌≢◌, ◌+◌, ◌≤◌, Bool, false, ◌&&◌, List, Option, Some, None}
use Rattle.std.proofs.Common.{arith, inl, inr, ap, ◌∙◌}
use Rattle.std.proofs.lemmas.Bool.{cond-false, and_right}
use Rattle.chess_bits.specs.declared.men.Colour.{Colour}
use Rattle.chess_bits.specs.declared.men.Kind.{Kind}
use Rattle.chess_bits.specs.declared.men.Kind.TheVariants.{Pawn, Rook, King}
use Rattle.chess_bits.specs.Square.{Square}
use Rattle.chess_bits.specs.Man.{Man, other, is_colour, is_man, is_of}
use Rattle.chess_bits.proofs.ManLemmas.{same_kind}
use Rattle.chess_board.specs.declared.castling.Wing.{Wing}
use Rattle.chess_board.specs.declared.castling.Wing.TheVariants as wing
use Rattle.chess_board.specs.declared.moves.Move.{Move}
use Rattle.chess_board.specs.Position.{Position, man_at, count_of, rook_home, IsValid}
use Rattle.chess_board.specs.Next.{beside, castled_rook, placement_after}
use Rattle.chess_board.proofs.Moved.{one_if, count_of-put, man_at-removed}
use Rattle.chess_board.proofs.Candidates.{IsEnPassant, IsCastling, IsMove, Goes}
use Rattle.chess_board.proofs.Steps.{IsStep, kings-step, men-step, stood-step}
use Rattle.chess_board.proofs.Ways.{IsStep-plain, IsStep-en_passant, IsStep-king, IsStep-rook, without_pawn, king_moved, IsOnBoard-beside}

counted_without_pawn : (is : Man → Bool) (p : Position) (m : Move) → IsValid p → IsEnPassant p m →
    count_of is (without_pawn p m) + one_if is (Some (other p.side, Pawn)) ≡ count_of is p.placement
counted_without_pawn is p m valid en_passant =
    let counted : count_of is (without_pawn p m) + one_if is (man_at p.placement (beside m)) ≡
    count_of is p.placement + 0 =
    count_of-put is p.placement (beside m) None valid.whole (IsOnBoard-beside p m en_passant) in
    omega (arith, ap (one_if is) en_passant.taken)

kings-castling : (p : Position) (m : Move) (w : Wing) (c : Colour) → IsValid p → IsCastling p m w →
    count_of (is_man (c, King)) (placement_after p m) ≡ count_of (is_man (c, King)) p.placement
kings-castling p m w c valid castling =
    kings-step (king_moved p m) (placement_after p m) p.side (rook_home p.side w) (castled_rook p.side w) Rook Rook c
    (IsStep-rook p m w valid castling) ∙
    kings-step p.placement (king_moved p m) p.side m.from m.to King King c (IsStep-king p m valid castling.goes)

kings-en_passant : (p : Position) (m : Move) (kind new : Kind) (c : Colour) → IsValid p → Goes p m kind new →
    IsEnPassant p m →
    count_of (is_man (c, King)) (placement_after p m) ≡ count_of (is_man (c, King)) p.placement
kings-en_passant p m kind new c valid goes en_passant =
    let stepped = kings-step (without_pawn p m) (placement_after p m) p.side m.from m.to kind new c
    (IsStep-en_passant p m kind new valid goes en_passant) in
    let counted = counted_without_pawn (is_man (c, King)) p m valid en_passant in
    let no_king : one_if (is_man (c, King)) (Some (other p.side, Pawn)) ≡ 0 =
    cond-false (is_colour c (other p.side) && false) 1 0 (and_right (is_colour c (other p.side)) false (λ i. false)) in
    omega arith

pub kings-after : (p : Position) (m : Move) (kind : Kind) (c : Colour) → IsValid p → IsMove p m kind →
    count_of (is_man (c, King)) (placement_after p m) ≡ count_of (is_man (c, King)) p.placement
kings-after p m kind c valid move = elim move.way [
  | inl plain ↦ kings-step p.placement (placement_after p m) p.side m.from m.to kind move.new c
      (IsStep-plain p m kind move.new valid move.goes plain)
  | inr (inl en_passant) ↦ kings-en_passant p m kind move.new c valid move.goes en_passant
  | inr (inr (inl castling)) ↦ kings-castling p m wing.King c valid castling
  | inr (inr (inr castling)) ↦ kings-castling p m wing.Queen c valid castling
]

men-castling : (p : Position) (m : Move) (w : Wing) (c : Colour) → IsValid p → IsCastling p m w →
    count_of (is_of c) (placement_after p m) ≤ count_of (is_of c) p.placement
men-castling p m w c valid castling =
    let rook = men-step (king_moved p m) (placement_after p m) p.side (rook_home p.side w) (castled_rook p.side w)
    Rook Rook c (IsStep-rook p m w valid castling) in
    let king = men-step p.placement (king_moved p m) p.side m.from m.to King King c
    (IsStep-king p m valid castling.goes) in
    omega arith

men-en_passant : (p : Position) (m : Move) (kind new : Kind) (c : Colour) → IsValid p → Goes p m kind new →
    IsEnPassant p m →
    count_of (is_of c) (placement_after p m) ≤ count_of (is_of c) p.placement
men-en_passant p m kind new c valid goes en_passant =
    let stepped = men-step (without_pawn p m) (placement_after p m) p.side m.from m.to kind new c
    (IsStep-en_passant p m kind new valid goes en_passant) in
    let counted = counted_without_pawn (is_of c) p m valid en_passant in
    omega arith

pub men-after : (p : Position) (m : Move) (kind : Kind) (c : Colour) → IsValid p → IsMove p m kind →
    count_of (is_of c) (placement_after p m) ≤ count_of (is_of c) p.placement
men-after p m kind c valid move = elim move.way [
  | inl plain ↦ men-step p.placement (placement_after p m) p.side m.from m.to kind move.new c
      (IsStep-plain p m kind move.new valid move.goes plain)
  | inr (inl en_passant) ↦ men-en_passant p m kind move.new c valid move.goes en_passant
  | inr (inr (inl castling)) ↦ men-castling p m wing.King c valid castling
  | inr (inr (inr castling)) ↦ men-castling p m wing.Queen c valid castling
]

-- no pawn on rank 1 or 8
abbrev pub ArePawnsInside : List (Option Man) → Type 0
ArePawnsInside t = (s : Square) (c : Colour) → man_at t s ≡ Some (c, Pawn) → (s.rank ≢ 1) × (s.rank ≢ 8)

pawns-step : (t u : List (Option Man)) (side : Colour) (a b : Square) (old new : Kind) → IsStep t u side a b old new →
    (new ≡ Pawn → (b.rank ≢ 1) × (b.rank ≢ 8)) → ArePawnsInside t → ArePawnsInside u
pawns-step t u side a b old new step inside before s c here =
    elim (stood-step t u side a b old new s (c, Pawn) step here) [
      | inl put_here ↦
          let reached : s ≡ b = put_here.0 in
          rw reached (inside (same_kind (Some (side, new)) (side, new) (c, Pawn) (λ i. Some (side, new)) put_here.1))
      | inr stood ↦ before s c stood
    ]

pawns-castling : (p : Position) (m : Move) (w : Wing) → IsValid p → IsCastling p m w →
    ArePawnsInside (placement_after p m)
pawns-castling p m w valid castling =
    pawns-step (king_moved p m) (placement_after p m) p.side (rook_home p.side w) (castled_rook p.side w) Rook Rook
    (IsStep-rook p m w valid castling)
    (λ e. absurd (cc))
    (pawns-step p.placement (king_moved p m) p.side m.from m.to King King (IsStep-king p m valid castling.goes)
    (λ e. absurd (cc)) valid.pawns)

pawns-en_passant : (p : Position) (m : Move) (kind new : Kind) → IsValid p → Goes p m kind new → IsEnPassant p m →
    ArePawnsInside (placement_after p m)
pawns-en_passant p m kind new valid goes en_passant =
    pawns-step (without_pawn p m) (placement_after p m) p.side m.from m.to kind new
    (IsStep-en_passant p m kind new valid goes en_passant) goes.inside
    (λ s c here. valid.pawns s c
    (man_at-removed p.placement (beside m) s (c, Pawn) valid.whole (IsOnBoard-beside p m en_passant) here))

pub pawns-after : (p : Position) (m : Move) (kind : Kind) → IsValid p → IsMove p m kind →
    ArePawnsInside (placement_after p m)
pawns-after p m kind valid move = elim move.way [
  | inl plain ↦
      pawns-step p.placement (placement_after p m) p.side m.from m.to kind move.new
      (IsStep-plain p m kind move.new valid move.goes plain)
      move.goes.inside valid.pawns
  | inr (inl en_passant) ↦ pawns-en_passant p m kind move.new valid move.goes en_passant
  | inr (inr (inl castling)) ↦ pawns-castling p m wing.King valid castling
  | inr (inr (inr castling)) ↦ pawns-castling p m wing.Queen valid castling
]
