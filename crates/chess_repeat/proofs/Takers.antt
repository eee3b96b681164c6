-- The pawns that attack a target are those that a pawn on the target would attack.
use Rattle.std.proofs.Common.{◌≡◌, Bool, true, false, ◌&&◌, List, replicate, ap, sym, ◌∙◌, filter, map, arith}
use Rattle.std.specs.List.{range_with_len}
use Rattle.std.specs.Cmp.{both_ways}
use Rattle.chess_bits.specs.declared.men.Colour.{Colour}
use Rattle.chess_bits.specs.declared.men.Kind.TheVariants.{Pawn}
use Rattle.chess_bits.specs.Square.{Square, IsOnBoard, squares, square_at}
use Rattle.chess_bits.specs.Man.{other, is_man, holds}
use Rattle.chess_bits.specs.Table.{has, meet, members, IsSetOf}
use Rattle.chess_bits.specs.Attack.{Reaches, pawn_attacks, reaches}
use Rattle.chess_bits.proofs.Deciding.{Decides-reaches}
use Rattle.chess_bits.proofs.ManLemmas.{other-other}
use Rattle.chess_bits.proofs.MemberLemmas.{filter_range-same, filter-map}
use Rattle.chess_bits.proofs.Reversal.{Attacks-back}
use Rattle.chess_bits.proofs.SetLemmas.{has-meet}
use Rattle.chess_bits.proofs.TableLemmas.{IsOnBoard-square_at}
use Rattle.chess_board.specs.Occupancy.{squares_with}
use Rattle.chess_board.specs.Position.{Position, man_at}
use Rattle.chess_board.proofs.AttackLemmas.{has-squares_with}
use Rattle.chess_repeat.specs.Key.{takers}

-- tests that agree on the board keep the same squares
pub filter_squares-same : (p q : Square → Bool) → ((s : Square) → IsOnBoard s → p s ≡ q s) →
    filter p squares ≡ filter q squares
unfolding squares
filter_squares-same p q same =
    filter-map p square_at (range_with_len 0 64)
    ∙ ap (map square_at) (filter_range-same (λ i. p (square_at i)) (λ i. q (square_at i)) 0 64
    (λ i h k. same (square_at i) (IsOnBoard-square_at i (omega arith))))
    ∙ sym (filter-map q square_at (range_with_len 0 64))

-- attacks of pawns turned round
pub pawn_attacks-back : (side : Colour) (a b : Square) → IsOnBoard b → Reaches (pawn_attacks side) a b →
    Reaches (pawn_attacks (other side)) b a
pawn_attacks-back side a b on r =
    let none : List Bool = replicate 64 false in
    Attacks-back none side Pawn a b on r

pub attacked_from : (side : Colour) (set : List Bool) (t s : Square) → IsOnBoard t → IsOnBoard s →
    IsSetOf set (Reaches (pawn_attacks (other side)) t) → has set s ≡ reaches (pawn_attacks side) s t
attacked_from side set t s on_t on_s of =
    both_ways (has set s) (reaches (pawn_attacks side) s t)
    (λ here. (Decides-reaches (pawn_attacks side) s t).1
    (let back = pawn_attacks-back (other side) t s on_s ((of.exact s on_s).0 here) in
    rw other-other at back))
    (λ here. (of.exact s on_s).1 (pawn_attacks-back side s t on_t ((Decides-reaches (pawn_attacks side) s t).0 here)))

pub members-takers : (p : Position) (t : Square) (set : List Bool) → IsOnBoard t →
    IsSetOf set (Reaches (pawn_attacks (other p.side)) t) →
    members (meet set (squares_with (is_man (p.side, Pawn)) p.placement)) ≡ takers p t
unfolding members
members-takers p t set on of =
    filter_squares-same (has (meet set (squares_with (is_man (p.side, Pawn)) p.placement)))
    (λ from. holds (is_man (p.side, Pawn)) (man_at p.placement from) && reaches (pawn_attacks p.side) from t)
    (λ s on_s. has-meet set (squares_with (is_man (p.side, Pawn)) p.placement) s
    ∙ ap (λ (b : Bool). b && has (squares_with (is_man (p.side, Pawn)) p.placement) s)
    (attacked_from p.side set t s on on_s of)
    ∙ ap (λ (b : Bool). reaches (pawn_attacks p.side) s t && b) (has-squares_with (is_man (p.side, Pawn)) p.placement s)
    ∙ swap (reaches (pawn_attacks p.side) s t) (holds (is_man (p.side, Pawn)) (man_at p.placement s)))
  where
    swap : (a b : Bool) → (a && b) ≡ (b && a)
    swap true true = λ i. true
    swap true false = λ i. false
    swap false true = λ i. false
    swap false false = λ i. false
