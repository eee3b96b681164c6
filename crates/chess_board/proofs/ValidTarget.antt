-- After a legal move the target, if there is one, is the square that a pawn has just crossed.
use Rattle.std.specs.Prelude.{◌≡◌, ◌≢◌, true, false, Option, Some, None}
use Rattle.std.proofs.Common.{arith, inl, inr, ap, sym, subst, ◌∙◌}
use Rattle.std.proofs.lemmas.Bool.{and_parts}
use Rattle.std.proofs.lemmas.Option.{cond_some}
use Rattle.chess_bits.specs.declared.men.Colour.{Colour}
use Rattle.chess_bits.specs.declared.men.Colour.TheVariants.{White, Black}
use Rattle.chess_bits.specs.declared.men.Kind.{Kind}
use Rattle.chess_bits.specs.declared.men.Kind.TheVariants.{Pawn, Knight, Bishop, Rook, Queen, King}
use Rattle.chess_bits.specs.Square.{Square, IsOnBoard, is_square}
use Rattle.chess_bits.specs.Man.{other}
use Rattle.chess_bits.specs.Attack.{along, forward}
use Rattle.chess_bits.proofs.TableLemmas.{is_square-true, same_square}
use Rattle.chess_bits.proofs.ManLemmas.{other-other, is_kind-true, none_is_no_man}
use Rattle.chess_board.specs.declared.moves.Move.{Move}
use Rattle.chess_board.specs.Position.{Position, man_at, target_rank, IsTarget, IsValid, HasTrueTarget}
use Rattle.chess_board.specs.Next.{moves_kind, is_double_advance, placement_after, target_after, next}
use Rattle.chess_board.specs.Legal.{last_rank, pawn_rank, IsPromotion, AdvancesTwo, IsPawnMove, IsMoveOf, IsCandidate}
use Rattle.chess_board.proofs.Candidates.{IsOnBoard-from_man, Becomes, between_ends, advances_two_from, attacks_from, pawn_goes, plain_pawn, straight_is_plain, moves_kind-own}
use Rattle.chess_board.proofs.Steps.{IsStep, others-step, left-step, reached-step}
use Rattle.chess_board.proofs.Ways.{IsStep-plain}

-- the squares of a two-square advance: the one left, the one crossed and the one reached
record IsCrossing (side : Colour) (a : Square) : Type 0 where
  on_board : IsOnBoard (along 1 (forward side) a)
  rank : (along 1 (forward side) a).rank ≡ target_rank (other side)
  onward : along 1 (forward side) (along 1 (forward side) a) ≡ along 2 (forward side) a
  back : along 1 (forward (other side)) (along 1 (forward side) a) ≡ a
  not_left : along 1 (forward side) a ≢ a
  not_reached : along 1 (forward side) a ≢ along 2 (forward side) a
  not_last : (along 2 (forward side) a).rank ≢ last_rank side

crossing : (side : Colour) (a : Square) → IsOnBoard a → a.rank ≡ pawn_rank side → IsCrossing side a
crossing White a on rank = record {
  on_board = record { file_from = omega arith; file_to = omega arith; rank_from = omega arith; rank_to = omega arith };
  rank = omega arith;
  onward = same_square (along 1 (forward White) (along 1 (forward White) a)) (along 2 (forward White) a) (omega arith)
      (omega arith);
  back = same_square (along 1 (forward Black) (along 1 (forward White) a)) a (omega arith) (omega arith);
  not_left = λ e. omega (arith, ap (λ (s : Square). s.rank) e);
  not_reached = λ e. omega (arith, ap (λ (s : Square). s.rank) e);
  not_last = omega arith;
}
crossing Black a on rank = record {
  on_board = record { file_from = omega arith; file_to = omega arith; rank_from = omega arith; rank_to = omega arith };
  rank = omega arith;
  onward = same_square (along 1 (forward Black) (along 1 (forward Black) a)) (along 2 (forward Black) a) (omega arith)
      (omega arith);
  back = same_square (along 1 (forward White) (along 1 (forward Black) a)) a (omega arith) (omega arith);
  not_left = λ e. omega (arith, ap (λ (s : Square). s.rank) e);
  not_reached = λ e. omega (arith, ap (λ (s : Square). s.rank) e);
  not_last = omega arith;
}

-- one square forward is not two
not_one : (side : Colour) (a b : Square) → IsOnBoard b → b ≡ along 1 (forward side) a → b ≢ along 2 (forward side) a
not_one White a b on one two = omega (arith, ap (λ (s : Square). s.rank) one, ap (λ (s : Square). s.rank) two)
not_one Black a b on one two = omega (arith, ap (λ (s : Square). s.rank) one, ap (λ (s : Square). s.rank) two)

pawn_rule : (p : Position) (m : Move) (kind : Kind) → Pawn ≡ kind → IsMoveOf p m kind → IsPawnMove p m
pawn_rule p m Pawn e rule = rule
pawn_rule p m Knight e rule = absurd (cc)
pawn_rule p m Bishop e rule = absurd (cc)
pawn_rule p m Rook e rule = absurd (cc)
pawn_rule p m Queen e rule = absurd (cc)
pawn_rule p m King e rule = absurd (cc)

advances_two_rule : (p : Position) (m : Move) → IsOnBoard m.from → IsOnBoard m.to → IsPawnMove p m →
    m.to ≡ along 2 (forward p.side) m.from →
    AdvancesTwo p m
advances_two_rule p m from_on to_on move there =
    let files = advances_two_from p.side m.from m.to from_on to_on there in
    elim move.way [
      | inl one ↦ absurd (not_one p.side m.from m.to to_on one.there there)
      | inr (inl two) ↦ two
      | inr (inr (inl takes)) ↦ absurd ((attacks_from p.side m.from m.to from_on to_on takes.attacked).0 files.0)
      | inr (inr (inr takes)) ↦ absurd ((attacks_from p.side m.from m.to from_on to_on takes.attacked).0 files.0)
    ]

pub no_promotion_before : (side : Colour) (to : Square) (promotion : Option Kind) → IsPromotion side to promotion →
    to.rank ≢ last_rank side →
    promotion ≡ None
no_promotion_before side to None is early = λ i. None
no_promotion_before side to (Some piece) is early = absurd (early is.0)

-- a two-square advance as a step of a pawn
IsStep-advance : (p : Position) (m : Move) → IsValid p → man_at p.placement m.from ≡ Some (p.side, Pawn) →
    IsOnBoard m.to →
    IsPromotion p.side m.to m.promotion → AdvancesTwo p m →
    IsStep p.placement (placement_after p m) p.side m.from m.to Pawn Pawn
IsStep-advance p m valid own to_on promotion two =
    let from_on = IsOnBoard-from_man p.placement m.from (p.side, Pawn) own in
    let ahead = advances_two_from p.side m.from m.to from_on to_on two.there in
    let early : m.to.rank ≢ last_rank p.side = rw two.there (crossing p.side m.from from_on two.first).not_last in
    let stays : m.promotion ≡ None = no_promotion_before p.side m.to m.promotion promotion early in
    let becomes : Becomes p.side m.to m.promotion Pawn = record {
      becomes = rw stays;
      no_king = λ i. false;
      inside = λ e. between_ends p.side m.to.rank ahead.1 early;
    } in
    let goes = pawn_goes p m Pawn own to_on (λ k. none_is_no_man (man_at p.placement m.to) (p.side, k) two.empty)
    (none_is_no_man (man_at p.placement m.to) (other p.side, King) two.empty) becomes in
    IsStep-plain p m Pawn Pawn valid goes (plain_pawn p m own (straight_is_plain p m ahead.0))

IsTarget-advance : (p : Position) (m : Move) → IsValid p → man_at p.placement m.from ≡ Some (p.side, Pawn) →
    IsOnBoard m.to →
    IsPromotion p.side m.to m.promotion → AdvancesTwo p m → IsTarget (next p m) (along 1 (forward p.side) m.from)
IsTarget-advance p m valid own to_on promotion two =
    let crossed : Square = along 1 (forward p.side) m.from in
    let from_on = IsOnBoard-from_man p.placement m.from (p.side, Pawn) own in
    let squares = crossing p.side m.from from_on two.first in
    let step = IsStep-advance p m valid own to_on promotion two in
    record {
      on_board = squares.on_board;
      rank = squares.rank;
      crossed = others-step p.placement (placement_after p m) p.side m.from m.to Pawn Pawn crossed step
          squares.not_left
          (λ e. squares.not_reached (e ∙ two.there)) ∙ two.crossed_empty;
      pawn = rw (other-other p.side)
          (ap (man_at (placement_after p m)) (squares.onward ∙ sym two.there) ∙
          reached-step p.placement (placement_after p m) p.side m.from m.to Pawn Pawn step);
      left = ap (man_at (placement_after p m)) squares.back ∙
          left-step p.placement (placement_after p m) p.side m.from m.to Pawn Pawn step;
    }

pub target_after-some : (p : Position) (m : Move) (t : Square) → target_after p m ≡ Some t →
    (is_double_advance p m ≡ true) × (along 1 (forward p.side) m.from ≡ t)
unfolding target_after
target_after-some p m t e = cond_some (is_double_advance p m) (along 1 (forward p.side) m.from) t e

pub HasTrueTarget-next : (p : Position) (m : Move) → IsValid p → IsCandidate p m → HasTrueTarget (next p m)
HasTrueTarget-next p m valid candidate t e =
    let (advances, crossed) = target_after-some p m t e in
    let (moves, there) = and_parts (moves_kind p m Pawn) (is_square m.to (along 2 (forward p.side) m.from)) advances in
    let pawn : Pawn ≡ candidate.kind =
    is_kind-true Pawn candidate.kind (sym (moves_kind-own p m candidate.kind Pawn candidate.own) ∙ moves) in
    let move = pawn_rule p m candidate.kind pawn candidate.rule in
    let own : man_at p.placement m.from ≡ Some (p.side, Pawn) = rw pawn candidate.own in
    let from_on = IsOnBoard-from_man p.placement m.from (p.side, Pawn) own in
    let two = advances_two_rule p m from_on candidate.on_board move
    (is_square-true m.to (along 2 (forward p.side) m.from) there) in
    subst (λ (s : Square). IsTarget (next p m) s) crossed
    (IsTarget-advance p m valid own candidate.on_board move.promotion two)
