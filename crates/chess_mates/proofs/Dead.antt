-- With a king alone a side never mates, and with listed dead material neither does.
use Rattle.std.specs.Prelude.{◌≡◌, ◌≢◌, ◌⊎◌, Bool, true, false, not, List, Option, Some, None}
use Rattle.std.proofs.Common.{arith, ap, sym, subst, refl, ◌∙◌, inl, inr}
use Rattle.std.proofs.lemmas.Bool.{false≢true}
use Rattle.std.proofs.lemmas.Option.{same_Some}
use Rattle.chess_bits.specs.declared.men.Colour.{Colour}
use Rattle.chess_bits.specs.declared.men.Kind.{Kind}
use Rattle.chess_bits.specs.declared.men.Kind.TheVariants.{Pawn, Knight, Bishop, Rook, King}
use Rattle.chess_bits.specs.Square.{Square, IsOnBoard, is_square}
use Rattle.chess_bits.specs.Man.{Man, other, is_kind}
use Rattle.chess_bits.specs.Attack.{Attacks, diagonal, Slides, Reaches, knight_steps}
use Rattle.chess_bits.proofs.ManLemmas.{other-other, not_of_both, same_kind}
use Rattle.chess_bits.proofs.TableLemmas.{is_square-true, is_square-false}
use Rattle.std.proofs.lemmas.Bool.{cases_Bool}
use Rattle.chess_board.specs.declared.moves.Move.{Move}
use Rattle.chess_board.specs.declared.castling.Wing.TheVariants as wing
use Rattle.chess_board.specs.Position.{Position, Placement, man_at, occupied_of, IsValid}
use Rattle.chess_board.specs.Next.{placement_after}
use Rattle.chess_board.specs.Legal.{IsLegal, IsMoveOf}
use Rattle.chess_board.proofs.Candidates.{IsOnBoard-from_man, IsMove-candidate, IsMove, no_en_passant, no_castling}
use Rattle.chess_board.proofs.Steps.{left-step}
use Rattle.chess_board.proofs.Ways.{IsStep-plain}
use Rattle.chess_san.specs.Boards.{DiffersInCounters, rewound}
use Rattle.chess_end.specs.Ending.{IsCheckmate}
use Rattle.chess_end.specs.Material.{is_dark, EachMan, IsBishopOn, AreBishopsOn, AreKingsAlone, AreKingsAndKnight, AreKingsAndBishops, IsListedDead, HasKingAlone}
use Rattle.chess_mates.specs.Mates.{IsMatedBy, CanMate}
use Rattle.chess_mates.proofs.Coming.{Arrived, Castled, came, arrived_king, arrived_piece, rule_of}
use Rattle.chess_mates.proofs.Like.{from_rewound, turned, mated_like}
use Rattle.chess_mates.proofs.Never.{IsSound, IsSound-valid, IsKeptOfMen, kept_men, never}
use Rattle.chess_mates.proofs.Shaded.{king_or_not, checked_by, IsShaded, no_mate}
use Rattle.chess_mates.proofs.Steps.{diagonal_shade, knight_shade}

-- a property of the men that moves keep, with which no side is mated, is one with which none is ever mated
of_men : (side : Colour) (Q : Placement → Type 0) → IsKeptOfMen Q →
    ((p : Position) → IsValid p → Q p.placement → ¬ IsMatedBy side p) → (p : Position) → IsValid p → Q p.placement →
    ¬ CanMate side p
of_men side Q kept none p valid here =
    never side (λ q. IsSound q × Q q.placement) (kept_men Q kept)
    (λ q both mated. none (rewound q) both.0 both.1
    (mated_like side q (rewound q) (turned (rewound q) q (from_rewound q)) mated)) p (IsSound-valid p valid, here)

-- ---- the king alone

alone_kept : (side : Colour) → IsKeptOfMen (λ t. HasKingAlone t side)
alone_kept side p m valid legal alone s kind here = elim (came p m s (side, kind) valid legal here) [
  | inl stood ↦ alone s kind stood
  | inr (inl arrived) ↦ arrived_king p m s (side, kind) arrived
      (alone m.from arrived.old
      (subst (λ (c : Colour). man_at p.placement m.from ≡ Some (c, arrived.old)) (sym arrived.side) arrived.goes.own))
  | inr (inr castled) ↦ alone castled.home kind castled.stood
]

mated_side : (side : Colour) (p : Position) → IsMatedBy side p → other p.side ≡ side
mated_side side p mated = ap other mated.turn ∙ other-other side

alone_none : (side : Colour) (p : Position) → IsValid p → HasKingAlone p.placement side → ¬ IsMatedBy side p
alone_none side p valid alone mated =
    let (k, king, (a, attacker)) = mated.mate.check in
    checked_by p k a attacker.kind valid king attacker.stands attacker.attacks
    (alone a attacker.kind
    (subst (λ (c : Colour). man_at p.placement a ≡ Some (c, attacker.kind)) (mated_side side p mated) attacker.stands))

pub alone_never : (side : Colour) (p : Position) → IsValid p → HasKingAlone p.placement side → ¬ CanMate side p
alone_never side p valid alone =
    of_men side (λ t. HasKingAlone t side) (alone_kept side) (alone_none side) p valid alone

-- ---- bishops on squares of one shade

not_bishop : (man : Man) (kind : Kind) → man.1 ≡ kind → is_kind Bishop kind ≡ false → is_kind King kind ≡ false →
    (s : Square) (dark : Bool) → (man.1 ≡ King) ⊎ IsBishopOn dark s man → ⊥
not_bishop man kind is no_bishop no_king s dark (inl king) =
    false≢true (sym no_king ∙ ap (is_kind King) (sym is ∙ king))
not_bishop man kind is no_bishop no_king s dark (inr bishop) =
    false≢true (sym no_bishop ∙ ap (is_kind Bishop) (sym is ∙ bishop.0))

bishops_kept : (dark : Bool) → IsKeptOfMen (AreBishopsOn dark)
bishops_kept dark p m valid legal on s man here = elim (came p m s man valid legal here) [
  | inl stood ↦ on s man stood
  | inr (inl arrived) ↦ elim (on m.from (p.side, arrived.old) arrived.goes.own) [
    | inl king ↦ inl (arrived_king p m s man arrived king)
    | inr bishop ↦
        let rule : IsMoveOf p m Bishop = rule_of p m s man Bishop legal arrived bishop.0 in
        let to : is_dark m.to ≡ is_dark m.from =
        diagonal_shade (occupied_of p.placement) m.from m.to arrived.goes.to_on rule.attacked in
        inr (
          arrived_piece p m s man Bishop legal arrived bishop.0 (λ e. absurd (cc)),
          ap is_dark arrived.there ∙ to ∙ bishop.1,
        )
  ]
  | inr (inr castled) ↦
      absurd (not_bishop man Rook castled.rook refl refl castled.home dark (on castled.home man castled.stood))
]

bishops_shaded : (dark : Bool) (p : Position) → AreBishopsOn dark p.placement → IsShaded p dark
bishops_shaded dark p on = record {
  foes = λ occupied a b kind here piece on_b attack. elim (on a (other p.side, kind) here) [
    | inl king ↦ absurd (piece king)
    | inr bishop ↦
        diagonal_shade occupied a b on_b
        (subst (λ (x : Kind). Attacks occupied (other p.side) x a b) bishop.0 attack) ∙ bishop.1
  ];
  own = λ s kind here piece. elim (on s (p.side, kind) here) [
    | inl king ↦ absurd (piece king)
    | inr bishop ↦ bishop.1
  ];
}

bishops_never : (side : Colour) (dark : Bool) (p : Position) → IsValid p → AreBishopsOn dark p.placement →
    ¬ CanMate side p
bishops_never side dark p valid on =
    of_men side (AreBishopsOn dark) (bishops_kept dark)
    (λ q sound here mated. no_mate q dark sound (bishops_shaded dark q here) mated.mate) p valid on

-- ---- one knight

-- each man is a king, but for a knight on one square
abbrev IsKnightAt : Square → Square → Man → Type 0
IsKnightAt at s man = (man.1 ≡ King) ⊎ ((s ≡ at) × (man.1 ≡ Knight))

abbrev AreKnightAt : Square → Placement → Type 0
AreKnightAt at t = EachMan (IsKnightAt at) t

abbrev AreOneKnight : Placement → Type 0
AreOneKnight t = (at : Square) × AreKnightAt at t

-- the square that the knight leaves is empty
knight_left : (p : Position) (m : Move) → IsValid p → IsLegal p m → man_at p.placement m.from ≡ Some (p.side, Knight) →
    man_at (placement_after p m) m.from ≡ None
knight_left p m valid legal own =
    let move = IsMove-candidate p m valid legal.candidate in
    elim move.way [
      | inl plain ↦
          left-step p.placement (placement_after p m) p.side m.from m.to legal.candidate.kind move.new
          (IsStep-plain p m legal.candidate.kind move.new valid move.goes plain)
      | inr (inl passes) ↦ absurd (false≢true (sym (no_en_passant p m Knight own refl) ∙ passes.pawn))
      | inr (inr (inl castling)) ↦ absurd (false≢true (sym (no_castling p m Knight wing.King own refl) ∙ castling.castles))
      | inr (inr (inr castling)) ↦ absurd (false≢true (sym (no_castling p m Knight wing.Queen own refl) ∙ castling.castles))
    ]

neither : (at s : Square) (man : Man) (kind : Kind) → man.1 ≡ kind → is_kind Knight kind ≡ false →
    is_kind King kind ≡ false → IsKnightAt at s man → ⊥
neither at s man kind is no_knight no_king (inl king) = false≢true (sym no_king ∙ ap (is_kind King) (sym is ∙ king))
neither at s man kind is no_knight no_king (inr knight) =
    false≢true (sym no_knight ∙ ap (is_kind Knight) (sym is ∙ knight.1))

-- after the king's move the knight stands where it stood
king_went : (p : Position) (m : Move) (at : Square) → IsValid p → IsLegal p m → AreKnightAt at p.placement →
    man_at p.placement m.from ≡ Some (p.side, King) → AreKnightAt at (placement_after p m)
king_went p m at valid legal each own s man here = elim (came p m s man valid legal here) [
  | inl stood ↦ each s man stood
  | inr (inl arrived) ↦ inl (arrived_king p m s man arrived
      (same_kind (man_at p.placement m.from) (p.side, arrived.old) (p.side, King) arrived.goes.own own))
  | inr (inr castled) ↦
      absurd (neither at castled.home man Rook castled.rook refl refl (each castled.home man castled.stood))
]

-- after the knight's move it stands where it went to
knight_went : (p : Position) (m : Move) → IsValid p → IsLegal p m → AreKnightAt m.from p.placement →
    man_at p.placement m.from ≡ Some (p.side, Knight) → AreKnightAt m.to (placement_after p m)
knight_went p m valid legal each own s man here = elim (came p m s man valid legal here) [
  | inl stood ↦ elim (each s man stood) [
    | inl king ↦ inl king
    | inr knight ↦
        absurd (none_is_not man (sym (knight_left p m valid legal own)
        ∙ subst (λ (x : Square). man_at (placement_after p m) x ≡ Some man) knight.0 here))
  ]
  | inr (inl arrived) ↦ inr (
    arrived.there,
    arrived_piece p m s man Knight legal arrived
        (same_kind (man_at p.placement m.from) (p.side, arrived.old) (p.side, Knight) arrived.goes.own own)
        (λ e. absurd (cc)),
  )
  | inr (inr castled) ↦
      absurd (neither m.from castled.home man Rook castled.rook refl refl (each castled.home man castled.stood))
]
  where
    none_is_not : (man : Man) → None ≡ Some man → ⊥
    none_is_not man e = absurd (cc)

own_is : (p : Position) (from : Square) (kind to : Kind) → man_at p.placement from ≡ Some (p.side, kind) → kind ≡ to →
    man_at p.placement from ≡ Some (p.side, to)
own_is p from kind to own is = subst (λ (x : Kind). man_at p.placement from ≡ Some (p.side, x)) is own

knight_kept : IsKeptOfMen AreOneKnight
knight_kept p m valid legal (at, each) =
    let own = legal.candidate.own in
    elim (each m.from (p.side, legal.candidate.kind) own) [
      | inl king ↦ (at, king_went p m at valid legal each (own_is p m.from legal.candidate.kind King own king))
      | inr knight ↦ (
        m.to,
        knight_went p m valid legal
            (subst (λ (x : Square). AreKnightAt x p.placement) (sym knight.0) each)
            (own_is p m.from legal.candidate.kind Knight own knight.1),
      )
    ]

-- where the opponent has the knight
knight_shaded : (p : Position) (at : Square) → IsOnBoard at → AreKnightAt at p.placement →
    man_at p.placement at ≡ Some (other p.side, Knight) → IsShaded p (not (is_dark at))
knight_shaded p at on each knight = record {
  foes = λ occupied a b kind here piece on_b attack. elim (each a (other p.side, kind) here) [
    | inl king ↦ absurd (piece king)
    | inr is ↦
        knight_shade at b on on_b
        (subst (λ (x : Square). Reaches knight_steps x b) is.0
        (subst (λ (x : Kind). Attacks occupied (other p.side) x a b) is.1 attack))
  ];
  own = λ s kind here piece. elim (each s (p.side, kind) here) [
    | inl king ↦ absurd (piece king)
    | inr is ↦ absurd (not_of_both (man_at p.placement at) p.side Knight kind knight
        (subst (λ (x : Square). man_at p.placement x ≡ Some (p.side, kind)) is.0 here))
  ];
}

knight_none : (p : Position) → IsValid p → AreOneKnight p.placement → ¬ IsCheckmate p
knight_none p valid (at, each) mate =
    let (k, king, (a, attacker)) = mate.check in
    let piece = checked_by p k a attacker.kind valid king attacker.stands attacker.attacks in
    elim (each a (other p.side, attacker.kind) attacker.stands) [
      | inl is ↦ piece is
      | inr is ↦
          let here : man_at p.placement at ≡ Some (other p.side, Knight) =
          subst (λ (x : Square). man_at p.placement x ≡ Some (other p.side, Knight)) is.0
          (subst (λ (x : Kind). man_at p.placement a ≡ Some (other p.side, x)) is.1 attacker.stands) in
          no_mate p (not (is_dark at)) valid
          (knight_shaded p at (IsOnBoard-from_man p.placement at (other p.side, Knight) here) each here) mate
    ]

knight_never : (side : Colour) (p : Position) → IsValid p → AreOneKnight p.placement → ¬ CanMate side p
knight_never side p valid one =
    of_men side AreOneKnight knight_kept (λ q sound here mated. knight_none q sound here mated.mate) p valid one

-- ---- all of the list

one_knight : (t : Placement) → AreKingsAndKnight t → AreOneKnight t
one_knight t h = (
  h.square,
  λ s man here. elim (cases_Bool (is_square s h.square)) [
    | inl same ↦
        let at : s ≡ h.square = is_square-true s h.square same in
        inr (at, ap (λ (x : Man). x.1) (same_Some man (h.side, Knight) (sym here ∙ ap (man_at t) at ∙ h.knight)))
    | inr apart ↦ inl (h.others s man here (is_square-false s h.square apart))
  ],
)

pub dead_never : (side : Colour) (p : Position) → IsValid p → IsListedDead p.placement → ¬ CanMate side p
dead_never side p valid (inl kings) = bishops_never side true p valid (λ s man here. inl (kings s man here))
dead_never side p valid (inr (inl knight)) = knight_never side p valid (one_knight p.placement knight)
dead_never side p valid (inr (inr bishops)) = bishops_never side bishops.0 p valid bishops.1
