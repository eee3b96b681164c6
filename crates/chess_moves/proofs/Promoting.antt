-- What a pawn becomes does not matter to the safety of its king.
use Rattle.std.specs.Prelude.{◌≡◌, ◌≢◌, Bool, cond, List, length, Option, Some, None, is_some}
use Rattle.std.proofs.Common.{refl, sym, ap, subst, ◌∙◌, inl, inr}
use Rattle.std.proofs.lemmas.Bool.{cases_Bool}
use Rattle.chess_bits.specs.declared.men.Colour.{Colour}
use Rattle.chess_bits.specs.declared.men.Kind.{Kind}
use Rattle.chess_bits.specs.declared.men.Kind.TheVariants.{Pawn, King}
use Rattle.chess_bits.specs.Square.{Square, IsOnBoard, is_square}
use Rattle.chess_bits.specs.Man.{Man, other}
use Rattle.chess_bits.specs.Table.{put}
use Rattle.chess_bits.specs.Attack.{Attacks}
use Rattle.chess_bits.proofs.TableLemmas.{length-put, at-put, map-put}
use Rattle.chess_board.specs.declared.castling.Wing.TheVariants as wing
use Rattle.chess_board.specs.declared.moves.Move.{Move}
use Rattle.chess_board.specs.Position.{Position, man_at, occupied_of, IsInCheck}
use Rattle.chess_board.specs.Next.{without_taken, became, placement_after}
use Rattle.chess_board.specs.Legal.{IsPromotionKind}
use Rattle.chess_board.proofs.PlacementAfter.{length-without_taken}
use Rattle.chess_board.proofs.Candidates.{no_castling}
use Rattle.chess_moves.specs.Targets.{plain}
use Rattle.chess_moves.specs.Listing.{promoted}
use Rattle.chess_moves.proofs.Exact.{king_of_kind, own_is_not}

-- the men that a check is made of stand in both placements
pub check_from : (a b : List (Option Man)) (side : Colour) → occupied_of a ≡ occupied_of b →
    ((s : Square) → man_at a s ≡ Some (side, King) → man_at b s ≡ Some (side, King)) →
    ((s : Square) (kind : Kind) → man_at a s ≡ Some (other side, kind) → man_at b s ≡ Some (other side, kind)) →
    IsInCheck a side → IsInCheck b side
check_from a b side occupied kings men (k, king, (s, attacker)) = (
  k,
  kings k king,
  (
    s,
    record {
      kind = attacker.kind;
      stands = men s attacker.kind attacker.stands;
      attacks = let Attacks' : List Bool → Type 0 = λ set. Attacks set (other side) attacker.kind s k in
          subst Attacks' occupied attacker.attacks;
    },
  ),
)

-- men other than the one put on a square stand there whatever is put
stays : (t : List (Option Man)) (to s : Square) (x y : Option Man) (man : Man) → length t ≡ 64 → IsOnBoard to →
    x ≢ Some man → man_at (put t to x) s ≡ Some man → man_at (put t to y) s ≡ Some man
stays t to s x y man whole on other_man here =
    let told_x = at-put None t to s x whole on in
    let told_y = at-put None t to s y whole on in
    elim (cases_Bool (is_square s to)) [
      | inl at ↦
          absurd (other_man (sym (told_x ∙ ap (λ (b : Bool). cond b x (man_at t s)) at) ∙ here))
      | inr away ↦
          told_y ∙ ap (λ (b : Bool). cond b y (man_at t s)) away
          ∙ sym (told_x ∙ ap (λ (b : Bool). cond b x (man_at t s)) away) ∙ here
    ]

same_occupied : (t : List (Option Man)) (to : Square) (a b : Man) →
    occupied_of (put t to (Some a)) ≡ occupied_of (put t to (Some b))
same_occupied t to a b = map-put is_some t to (Some a) ∙ sym (map-put is_some t to (Some b))

check_of_other : (t : List (Option Man)) (side : Colour) (to : Square) (a b : Kind) → length t ≡ 64 → IsOnBoard to →
    a ≢ King → IsInCheck (put t to (Some (side, a))) side → IsInCheck (put t to (Some (side, b))) side
check_of_other t side to a b whole on mover check =
    check_from (put t to (Some (side, a))) (put t to (Some (side, b))) side (same_occupied t to (side, a) (side, b))
    (λ s here. stays t to s (Some (side, a)) (Some (side, b)) (side, King) whole on (king_of_kind side a mover) here)
    (λ s kind here. stays t to s (Some (side, a)) (Some (side, b)) (other side, kind) whole on
    (own_is_not side kind a) here) check

-- a pawn's move brings no rook
after_pawn : (p : Position) (m : Move) → man_at p.placement m.from ≡ Some (p.side, Pawn) →
    placement_after p m ≡ put (without_taken p m (put p.placement m.from None)) m.to (became p m)
unfolding placement_after
after_pawn p m own =
    rw (
      no_castling p m Pawn wing.Queen own refl,
      no_castling p m Pawn wing.King own refl,
    ) refl

-- the placement of a pawn's move, but for the square reached
abbrev left_by : Position → Square → Square → List (Option Man)
left_by p from to = without_taken p (plain from to) (put p.placement from None)

after_plain : (p : Position) (from to : Square) → man_at p.placement from ≡ Some (p.side, Pawn) →
    placement_after p (plain from to) ≡ put (left_by p from to) to (Some (p.side, Pawn))
after_plain p from to own =
    after_pawn p (plain from to) own ∙ ap (λ (here : Option Man). put (left_by p from to) to here) own

whole_left : (p : Position) (from to : Square) → length p.placement ≡ 64 → length (left_by p from to) ≡ 64
whole_left p from to whole =
    length-without_taken p (plain from to) (put p.placement from None) ∙ length-put p.placement from None ∙ whole

pub promoted_check : (p : Position) (from to : Square) (kind : Kind) → length p.placement ≡ 64 → IsOnBoard to →
    man_at p.placement from ≡ Some (p.side, Pawn) → IsPromotionKind kind →
    IsInCheck (placement_after p (promoted from to kind)) p.side →
    IsInCheck (placement_after p (plain from to)) p.side
promoted_check p from to kind whole on own is check =
    let Check' : List (Option Man) → Type 0 = λ t. IsInCheck t p.side in
    let before : IsInCheck (put (left_by p from to) to (Some (p.side, kind))) p.side =
    subst Check' (after_pawn p (promoted from to kind) own) check in
    subst Check' (sym (after_plain p from to own))
    (check_of_other (left_by p from to) p.side to kind Pawn (whole_left p from to whole) on (not_king kind is) before)
  where
    not_king : (k : Kind) → IsPromotionKind k → k ≢ King
    not_king k (inl e) f = absurd (cc)
    not_king k (inr (inl e)) f = absurd (cc)
    not_king k (inr (inr (inl e))) f = absurd (cc)
    not_king k (inr (inr (inr e))) f = absurd (cc)

pub plain_check : (p : Position) (from to : Square) (kind : Kind) → length p.placement ≡ 64 → IsOnBoard to →
    man_at p.placement from ≡ Some (p.side, Pawn) →
    IsInCheck (placement_after p (plain from to)) p.side →
    IsInCheck (placement_after p (promoted from to kind)) p.side
plain_check p from to kind whole on own check =
    let Check' : List (Option Man) → Type 0 = λ t. IsInCheck t p.side in
    let before : IsInCheck (put (left_by p from to) to (Some (p.side, Pawn))) p.side =
    subst Check' (after_plain p from to own) check in
    subst Check' (sym (after_pawn p (promoted from to kind) own))
    (check_of_other (left_by p from to) p.side to Pawn kind (whole_left p from to whole) on (λ e. absurd (cc)) before)
