-- Where all that attacks, but for the king, attacks squares of one shade, the king steps to a square of the other.
use Rattle.std.specs.Prelude.{◌≡◌, ◌≢◌, ◌≤◌, ◌⊎◌, Bool, true, false, not, List, Some, None, count_by}
use Rattle.std.proofs.Common.{arith, ap, sym, subst, refl, ◌∙◌, inl, inr}
use Rattle.std.proofs.lemmas.Bool.{cases_Bool, false≢true}
use Rattle.chess_bits.specs.declared.men.Colour.{Colour}
use Rattle.chess_bits.specs.declared.men.Kind.{Kind}
use Rattle.chess_bits.specs.declared.men.Kind.TheVariants.{King}
use Rattle.chess_bits.specs.Square.{Square, IsOnBoard}
use Rattle.chess_bits.specs.Table.{put}
use Rattle.chess_bits.specs.Man.{other, is_kind, is_man, holds}
use Rattle.chess_bits.specs.Attack.{adjoining, reaches, Reaches, Attacks}
use Rattle.chess_bits.proofs.Deciding.{Decides-reaches}
use Rattle.chess_bits.proofs.ManLemmas.{is_kind-true, is_kind-same, holds-is_man, holds-is_man_same, other-other, not_of_both}
use Rattle.chess_bits.proofs.Reversal.{Attacks-back}
use Rattle.chess_bits.proofs.TableLemmas.{same_from_count_by, square_from_count_by}
use Rattle.chess_board.specs.Position.{Position, man_at, occupied_of, IsValid}
use Rattle.chess_board.specs.Legal.{HoldsColour}
use Rattle.chess_board.proofs.Candidates.{IsOnBoard-from_man}
use Rattle.chess_moves.specs.Masks.{IsAttackedWithout}
use Rattle.chess_moves.specs.Moves.{HasLegal}
use Rattle.chess_moves.specs.Targets.{plain}
use Rattle.chess_moves.proofs.Exact.{one_king, king_exact}
use Rattle.chess_end.specs.Ending.{IsCheckmate}
use Rattle.chess_end.specs.Material.{is_dark}
use Rattle.chess_mates.proofs.Steps.{IsNear, IsNear-reached, reached-IsNear, IsBeside, beside_on_rank, beside_on_file, other_shade}

-- a man is a king or none
pub king_or_not : (kind : Kind) → (kind ≡ King) ⊎ (kind ≢ King)
king_or_not kind = elim (cases_Bool (is_kind King kind)) [
  | inl is ↦ inl (sym (is_kind-true King kind is))
  | inr fails ↦ inr (λ e. false≢true (sym fails ∙ ap (is_kind King) e))
]

-- the kings are not beside each other
pub kings_apart : (p : Position) (k j : Square) → IsValid p → man_at p.placement k ≡ Some (p.side, King) →
    man_at p.placement j ≡ Some (other p.side, King) → ¬ Reaches adjoining j k
kings_apart p k j valid king foe reached =
    let on_k = IsOnBoard-from_man p.placement k (p.side, King) king in
    valid.check (
      j,
      foe,
      (
        k,
        record {
          kind = King;
          stands = rw (other-other p.side) king;
          attacks = Attacks-back (occupied_of p.placement) (other (other p.side)) King j k on_k reached;
        },
      ),
    )

-- who gives check is no king
pub checked_by : (p : Position) (k a : Square) (kind : Kind) → IsValid p →
    man_at p.placement k ≡ Some (p.side, King) → man_at p.placement a ≡ Some (other p.side, kind) →
    Attacks (occupied_of p.placement) (other p.side) kind a k → kind ≢ King
checked_by p k a kind valid king stands attacks is =
    kings_apart p k a valid king
    (subst (λ (x : Kind). man_at p.placement a ≡ Some (other p.side, x)) is stands)
    (subst (λ (x : Kind). Attacks (occupied_of p.placement) (other p.side) x a k) is attacks)

other_king : (p : Position) (a b : Square) → IsValid p → man_at p.placement a ≡ Some (other p.side, King) →
    man_at p.placement b ≡ Some (other p.side, King) → a ≡ b
other_king p a b valid at_a at_b =
    same_from_count_by (holds (is_man (other p.side, King))) None p.placement a b valid.whole
    (IsOnBoard-from_man p.placement a (other p.side, King) at_a)
    (IsOnBoard-from_man p.placement b (other p.side, King) at_b)
    (valid.kings (other p.side)) (holds-is_man_same (other p.side, King) (man_at p.placement a) at_a)
    (holds-is_man_same (other p.side, King) (man_at p.placement b) at_b)

find_king : (p : Position) → IsValid p → (j : Square) × (man_at p.placement j ≡ Some (other p.side, King))
find_king p valid =
    let one : count_by (holds (is_man (other p.side, King))) p.placement ≡ 1 = valid.kings (other p.side) in
    let (j, on, here) = square_from_count_by (holds (is_man (other p.side, King))) None p.placement valid.whole
    (omega (arith, one)) in
    (j, holds-is_man (other p.side, King) (man_at p.placement j) here)

-- The men of the opponent that are no kings attack squares of one shade alone, and the own stand on such squares.
pub record IsShaded (p : Position) (shade : Bool) : Type 0 where
  pub foes : (occupied : List Bool) (a b : Square) (kind : Kind) →
      man_at p.placement a ≡ Some (other p.side, kind) → kind ≢ King → IsOnBoard b →
      Attacks occupied (other p.side) kind a b → is_dark b ≡ shade
  pub own : (s : Square) (kind : Kind) → man_at p.placement s ≡ Some (p.side, kind) → kind ≢ King →
      is_dark s ≡ shade

king_steps : (p : Position) (k to : Square) → IsValid p → man_at p.placement k ≡ Some (p.side, King) →
    IsOnBoard to → Reaches adjoining k to → ¬ HoldsColour p to p.side → ¬ IsAttackedWithout p k to → HasLegal p
king_steps p k to valid king on near free unattacked = (
  plain k to,
  record {
    candidate = record {
      kind = King;
      own = king;
      on_board = on;
      rule = inl (record { attacked = near; free = free; no_promotion = refl });
    };
    safe = (king_exact p k to valid king on near).1 unattacked;
  },
)

-- A step to a square of the other shade fails only since the other king is near.
near_king : (p : Position) (shade : Bool) (k j to : Square) → IsValid p → IsShaded p shade → ¬ HasLegal p →
    man_at p.placement k ≡ Some (p.side, King) → man_at p.placement j ≡ Some (other p.side, King) →
    is_dark k ≡ shade → IsBeside k to → IsNear j to
near_king p shade k j to valid shaded stuck king foe dark beside =
    let on_j = IsOnBoard-from_man p.placement j (other p.side, King) foe in
    let off : is_dark to ≡ shade → ⊥ = λ e. other_shade k to beside.sum (dark ∙ sym e) in
    let free : ¬ HoldsColour p to p.side = λ (kind, here). elim (king_or_not kind) [
      | inl is ↦
          let same : to ≡ k = one_king p to k valid
          (subst (λ (x : Kind). man_at p.placement to ≡ Some (p.side, x)) is here) king in
          off (ap is_dark same ∙ dark)
      | inr piece ↦ off (shaded.own to kind here piece)
    ] in
    elim (cases_Bool (reaches adjoining j to)) [
      | inl here ↦ IsNear-reached j to on_j ((Decides-reaches adjoining j to).0 here)
      | inr fails ↦
          absurd (stuck (king_steps p k to valid king beside.on_board beside.reached free
          (λ (a, kind, stands, attack). elim (king_or_not kind) [
            | inl is ↦
                let at_a : man_at p.placement a ≡ Some (other p.side, King) =
                subst (λ (x : Kind). man_at p.placement a ≡ Some (other p.side, x)) is stands in
                let by_king : Reaches adjoining a to =
                subst (λ (x : Kind). Attacks (put (occupied_of p.placement) k false) (other p.side) x a to) is attack in
                let from_j : Reaches adjoining j to =
                subst (λ (x : Square). Reaches adjoining x to) (other_king p a j valid at_a foe) by_king in
                false≢true (sym fails ∙ (Decides-reaches adjoining j to).1 from_j)
            | inr piece ↦ off (shaded.foes (put (occupied_of p.placement) k false) a to kind stands piece beside.on_board attack)
          ])))
    ]

together : (j k a b : Square) → IsNear j a → IsNear j b → a.rank ≡ k.rank → b.file ≡ k.file → IsNear j k
together j k a b near_a near_b rank file =
    record { right = omega arith; left = omega arith; up = omega arith; down = omega arith }

pub no_mate : (p : Position) (shade : Bool) → IsValid p → IsShaded p shade → ¬ IsCheckmate p
no_mate p shade valid shaded mate =
    let (k, king, (a, attacker)) = mate.check in
    let on_k = IsOnBoard-from_man p.placement k (p.side, King) king in
    let dark : is_dark k ≡ shade = shaded.foes (occupied_of p.placement) a k attacker.kind attacker.stands
    (checked_by p k a attacker.kind valid king attacker.stands attacker.attacks) on_k attacker.attacks in
    let (j, foe) = find_king p valid in
    let (s, beside_s, rank) = beside_on_rank k on_k in
    let (t, beside_t, file) = beside_on_file k on_k in
    let near : IsNear j k = together j k s t
    (near_king p shade k j s valid shaded mate.stuck king foe dark beside_s)
    (near_king p shade k j t valid shaded mate.stuck king foe dark beside_t) rank file in
    elim (reached-IsNear j k (IsOnBoard-from_man p.placement j (other p.side, King) foe) near) [
      | inl same ↦ not_of_both (man_at p.placement k) p.side King King
          (subst (λ (x : Square). man_at p.placement x ≡ Some (other p.side, King)) same foe) king
      | inr reached ↦ kings_apart p k j valid king foe reached
    ]
