-- The text of a position is the one that `fen_of` computes.
use Rattle.std.proofs.Common.{◌≡◌, ℕ, List, [], ◌∷◌, ◌++◌, length, map, Option, refl, ap, ◌∙◌, arith, append_assoc}
use Rattle.std.specs.List.{join_with_byte}
use Rattle.chess_bits.specs.Man.{Man}
use Rattle.chess_board.specs.Position.{Position}
use Rattle.chess_notation.specs.Fen.{rank_of, ranks_of, row_text, AreRowTexts, IsPlacementText, IsFenOf, placement_text, fields, fen_of}
use Rattle.chess_fen.proofs.Rows.{IsRowText-row_text, row_text-IsRowText}

pub length-rank_of : (placement : List (Option Man)) (rank : ℕ) → length (rank_of placement rank) ≡ 8
unfolding rank_of
length-rank_of placement rank = refl

-- texts of rows are what `row_text` computes
AreRowTexts-row_text : (texts : List (List ℕ)) (rows : List (List (Option Man))) → AreRowTexts texts rows →
    texts ≡ map row_text rows
AreRowTexts-row_text [] [] h = refl
AreRowTexts-row_text [] (row ∷ rows) h = elim h [ ]
AreRowTexts-row_text (text ∷ texts) [] h = elim h [ ]
AreRowTexts-row_text (text ∷ texts) (row ∷ rows) h =
    ap (λ t. t ∷ texts) (IsRowText-row_text h.0)
    ∙ ap (λ ts. row_text row ∷ ts) (AreRowTexts-row_text texts rows h.1)

row_text-AreRowTexts : (placement : List (Option Man)) (ranks : List ℕ) →
    AreRowTexts (map row_text (map (rank_of placement) ranks)) (map (rank_of placement) ranks)
row_text-AreRowTexts placement [] = tt
row_text-AreRowTexts placement (rank ∷ ranks) = (
  row_text-IsRowText (rank_of placement rank) (omega (arith, length-rank_of placement rank)),
  row_text-AreRowTexts placement ranks,
)

-- a placement's text
pub IsPlacementText-placement_text : (text : List ℕ) (placement : List (Option Man)) → IsPlacementText text placement →
    text ≡ placement_text placement
unfolding placement_text
IsPlacementText-placement_text text placement h =
    h.joined ∙ ap (join_with_byte 47) (AreRowTexts-row_text h.texts (ranks_of placement) h.ranks)

pub placement_text-IsPlacementText : (placement : List (Option Man)) →
    IsPlacementText (placement_text placement) placement
unfolding placement_text ranks_of
placement_text-IsPlacementText placement = record {
  texts = map row_text (ranks_of placement);
  ranks = row_text-AreRowTexts placement (8 ∷ 7 ∷ 6 ∷ 5 ∷ 4 ∷ 3 ∷ 2 ∷ 1 ∷ []);
  joined = refl;
}

-- a position has one text
pub IsFenOf-fen_of : (text : List ℕ) (p : Position) → IsFenOf text p → text ≡ fen_of p
unfolding fen_of
IsFenOf-fen_of text p h =
    h.joined
    ∙ ap (λ t. join_with_byte 32 (fields t p)) (IsPlacementText-placement_text h.placement p.placement h.is_placement)

pub fen_of-IsFenOf : (text : List ℕ) (p : Position) → text ≡ fen_of p → IsFenOf text p
unfolding fen_of
fen_of-IsFenOf text p e = record {
  placement = placement_text p.placement;
  is_placement = placement_text-IsPlacementText p.placement;
  joined = e;
}

-- six fields, written one after the other
pub join_six : (a b c d e f : List ℕ) →
    (((((((a ++ (32 ∷ [])) ++ b) ++ (32 ∷ [])) ++ c) ++ (32 ∷ [])) ++ d) ++ (32 ∷ e)) ++ (32 ∷ f) ≡
    join_with_byte 32 (a ∷ b ∷ c ∷ d ∷ e ∷ f ∷ [])
join_six a b c d e f = simp append_assoc
