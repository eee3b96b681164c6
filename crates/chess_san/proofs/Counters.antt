-- Positions that differ in their counters alone have the same legal moves.
use Rattle.std.proofs.Common.{ℕ, ◌≡◌, ◌<◌, ◌∙◌, length, get_or, Option, None, ap, sym, subst, refl, inl, inr, arith}
use Rattle.std.proofs.lemmas.List.{ext_get_or}
use Rattle.std.specs.Prelude.{◌↔◌, ◌⊎◌}
use Rattle.chess_bits.specs.declared.men.Colour.{Colour}
use Rattle.chess_bits.specs.declared.men.Kind.{Kind}
use Rattle.chess_bits.specs.declared.men.Kind.TheVariants.{Pawn, Knight, Bishop, Rook, Queen, King}
use Rattle.chess_bits.specs.Square.{Square}
use Rattle.chess_board.specs.declared.castling.Wing.{Wing}
use Rattle.chess_board.specs.declared.castling.Wing.TheVariants as wing
use Rattle.chess_board.specs.declared.moves.Move.{Move}
use Rattle.chess_board.specs.Position.{Position, Placement, Rights, HasCounters, IsValid, IsInCheck}
use Rattle.chess_board.specs.Next.{next, placement_after, rights_after, target_after}
use Rattle.chess_board.specs.Legal.{Advances, AdvancesTwo, PawnTakes, TakesEnPassant, IsPieceMove, Castles, IsMoveOf, IsLegal}
use Rattle.chess_moves.specs.Moves.{HasLegal}
use Rattle.chess_notation.specs.declared.telling.Threat.{Threat}
use Rattle.chess_notation.specs.declared.telling.Threat.TheVariants as threat
use Rattle.chess_notation.specs.San.{Threatens}
use Rattle.chess_san.specs.Boards.{DiffersInCounters, StandsUnder}

-- a position with other counters
abbrev pub recounted : Position → ℕ → ℕ → Position
recounted p h f = record p { halfmove = h; fullmove = f }

pub recounted-is : (a b : Position) → DiffersInCounters a b → b ≡ recounted a b.halfmove b.fullmove
recounted-is a b d =
    ap (λ (t : Placement). let q : Position = record b { placement = t } in q) d.placement
    ∙ ap (λ (s : Colour). let q : Position = record b { placement = a.placement; side = s } in q) d.side
    ∙ ap (λ (r : Rights). let q : Position = record b { placement = a.placement; side = a.side; rights = r } in q)
    d.rights
    ∙ ap (λ (t : Option Square). let q : Position = record b {
      placement = a.placement;
      side = a.side;
      rights = a.rights;
      target = t;
    } in q) d.target

pawn_way : (p : Position) (m : Move) (h f : ℕ) →
    (Advances p m ⊎ AdvancesTwo p m ⊎ PawnTakes p m ⊎ TakesEnPassant p m) →
    (Advances (recounted p h f) m ⊎ AdvancesTwo (recounted p h f) m ⊎ PawnTakes (recounted p h f) m ⊎
    TakesEnPassant (recounted p h f) m)
pawn_way p m h f (inl one) = inl (record { there = one.there; empty = one.empty })
pawn_way p m h f (inr (inl two)) = inr (inl (record {
  first = two.first;
  there = two.there;
  crossed_empty = two.crossed_empty;
  empty = two.empty;
}))
pawn_way p m h f (inr (inr (inl takes))) =
    inr (inr (inl (record { attacked = takes.attacked; taken = takes.taken })))
pawn_way p m h f (inr (inr (inr passes))) =
    inr (inr (inr (record { attacked = passes.attacked; crossed = passes.crossed })))

piece_move : (p : Position) (m : Move) (kind : Kind) (h f : ℕ) → IsPieceMove p m kind →
    IsPieceMove (recounted p h f) m kind
piece_move p m kind h f move =
    record { attacked = move.attacked; free = move.free; no_promotion = move.no_promotion }

castling : (p : Position) (m : Move) (w : Wing) (h f : ℕ) → Castles p m w → Castles (recounted p h f) m w
castling p m w h f castles = record {
  right = castles.right;
  from = castles.from;
  to = castles.to;
  empty = castles.empty;
  unattacked = castles.unattacked;
  no_promotion = castles.no_promotion;
}

move_of : (p : Position) (m : Move) (kind : Kind) (h f : ℕ) → IsMoveOf p m kind → IsMoveOf (recounted p h f) m kind
move_of p m Pawn h f move = record { way = pawn_way p m h f move.way; promotion = move.promotion }
move_of p m Knight h f move = piece_move p m Knight h f move
move_of p m Bishop h f move = piece_move p m Bishop h f move
move_of p m Rook h f move = piece_move p m Rook h f move
move_of p m Queen h f move = piece_move p m Queen h f move
move_of p m King h f (inl move) = inl (piece_move p m King h f move)
move_of p m King h f (inr (inl castles)) = inr (inl (castling p m wing.King h f castles))
move_of p m King h f (inr (inr castles)) = inr (inr (castling p m wing.Queen h f castles))

pub IsLegal-recounted : (p : Position) (m : Move) (h f : ℕ) → IsLegal p m → IsLegal (recounted p h f) m
unfolding placement_after
IsLegal-recounted p m h f legal = record {
  candidate = record {
    kind = legal.candidate.kind;
    own = legal.candidate.own;
    on_board = legal.candidate.on_board;
    rule = move_of p m legal.candidate.kind h f legal.candidate.rule;
  };
  safe = legal.safe;
}

pub HasLegal-recounted : (p : Position) (h f : ℕ) → HasLegal p → HasLegal (recounted p h f)
HasLegal-recounted p h f (m, legal) = (m, IsLegal-recounted p m h f legal)

pub HasLegal-like : (a b : Position) → DiffersInCounters a b → HasLegal a ↔ HasLegal b
HasLegal-like a b d =
    let Has' : Position → Type 0 = HasLegal in (
      λ has. subst Has' (sym (recounted-is a b d)) (HasLegal-recounted a b.halfmove b.fullmove has),
      λ has. HasLegal-recounted (recounted a b.halfmove b.fullmove) a.halfmove a.fullmove
          (subst Has' (recounted-is a b d) has),
    )

pub IsValid-recounted : (p : Position) (h f : ℕ) → IsValid p → HasCounters (recounted p h f) →
    IsValid (recounted p h f)
IsValid-recounted p h f valid counters = record {
  whole = valid.whole;
  kings = valid.kings;
  men = valid.men;
  pawns = valid.pawns;
  check = valid.check;
  rights = valid.rights;
  target = λ t is.
      let told = valid.target t is in
      record {
        on_board = told.on_board;
        rank = told.rank;
        crossed = told.crossed;
        pawn = told.pawn;
        left = told.left;
      };
  counters = counters;
}

pub next-recounted : (p : Position) (m : Move) (h f : ℕ) → DiffersInCounters (next p m) (next (recounted p h f) m)
unfolding placement_after rights_after target_after
next-recounted p m h f = record { placement = refl; side = refl; rights = refl; target = refl }

pub check-like : (a b : Position) → DiffersInCounters a b → IsInCheck a.placement a.side ↔ IsInCheck b.placement b.side
check-like a b d =
    let Check' : Position → Type 0 = λ q. IsInCheck q.placement q.side in
    (λ check. subst Check' (sym (recounted-is a b d)) check, λ check. subst Check' (recounted-is a b d) check)

-- tables of men that agree at each place are one
pub same_men : (men there : Placement) → length men ≡ 64 → length there ≡ 64 →
    ((k : ℕ) → k < 64 → get_or men k None ≡ get_or there k None) → men ≡ there
same_men men there whole all placed = ext_get_or None men there (whole ∙ sym all) (λ i within. placed i (omega arith))

pub IsValid-like : (a b : Position) → DiffersInCounters a b → IsValid a → HasCounters b → IsValid b
IsValid-like a b d valid counters =
    let Valid' : Position → Type 0 = IsValid in
    subst Valid' (sym (recounted-is a b d)) (IsValid-recounted a b.halfmove b.fullmove valid counters)

-- what a move threatens is what its opponent stands under after it
pub threatens-after : (p : Position) (m : Move) (q : Position) (t : Threat) → DiffersInCounters (next p m) q →
    StandsUnder q t → Threatens p m t
threatens-after p m q threat.Nothing d on = λ check. on ((check-like (next p m) q d).0 check)
threatens-after p m q threat.Check d on =
    ((check-like (next p m) q d).1 on.0, (HasLegal-like (next p m) q d).1 on.1)
threatens-after p m q threat.Mate d on =
    ((check-like (next p m) q d).1 on.0, λ has. on.1 ((HasLegal-like (next p m) q d).0 has))

pub threatens-made : (p : Position) (m : Move) (q : Position) (t : Threat) → q ≡ next p m → StandsUnder q t →
    Threatens p m t
threatens-made p m q t made on =
    threatens-after p m (next p m) t (record { placement = refl; side = refl; rights = refl; target = refl })
    (subst (λ (x : Position). StandsUnder x t) made on)
