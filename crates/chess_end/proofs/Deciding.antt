-- The tests of `Computing` decide the relations of `Material` and `Ending`.
use Rattle.std.specs.Prelude.{◌≡◌, ◌≢◌, ◌⊎◌, Bool, true, false, not, ◌&&◌, ◌||◌, List, [], ◌∷◌, Option, Some, None, Contains}
use Rattle.std.specs.Bool.{Decides}
use Rattle.std.proofs.Common.{refl, sym, ap, ◌∙◌, subst, inl, inr, arith}
use Rattle.std.proofs.lemmas.Bool.{false≢true}
use Rattle.std.proofs.lemmas.Option.{same_Some}
use Rattle.chess_bits.specs.declared.men.Colour.{Colour}
use Rattle.chess_bits.specs.declared.men.Kind.{Kind}
use Rattle.chess_bits.specs.declared.men.Kind.TheVariants.{Knight, Bishop, King}
use Rattle.chess_bits.specs.Square.{Square, is_square}
use Rattle.chess_bits.specs.Man.{Man, is_of, is_kind, holds}
use Rattle.chess_bits.specs.Placement.{Placement, man_at}
use Rattle.chess_bits.proofs.ManLemmas.{same_man, is_kind-true}
use Rattle.chess_bits.proofs.TableLemmas.{Decides-is_square}
use Rattle.chess_bits.proofs.Deciding.{and_decides, or_decides, not_decides, like_decides, Decides-some_square, Decides-each_square}
use Rattle.chess_board.specs.declared.moves.Move.{Move}
use Rattle.chess_board.specs.Position.{Position}
use Rattle.chess_board.specs.Legal.{IsLegal}
use Rattle.chess_board.specs.Computing.{legal_moves_of}
use Rattle.chess_board.proofs.Deciding.{Decides-is_in_check}
use Rattle.chess_board.proofs.DistinctMoves.{Contains-none}
use Rattle.chess_board.proofs.LegalMoves.{legal_moves_of-legal, legal_moves_of-each}
use Rattle.chess_board.proofs.Candidates.{IsOnBoard-from_man}
use Rattle.chess_moves.specs.Moves.{HasLegal}
use Rattle.chess_end.specs.Material.{EachMan, AreKingsAlone, AreKingsAndKnight, IsBishopOn, AreBishopsOn, AreKingsAndBishops, IsListedDead, HasKingAlone}
use Rattle.chess_end.specs.Ending.{IsCheckmate, IsStalemate}
use Rattle.chess_end.specs.Computing.{fits, each_man, are_kings_alone, are_others_kings, are_kings_and_knight, is_shade, are_bishops_on, is_listed_dead, has_king_alone, is_stuck_of, is_checkmate, is_stalemate}
use Rattle.chess_end.proofs.EachManLemmas.{Decides-kind, Decides-colour}
use Rattle.chess_end.proofs.Shades.{Decides-is_shade}

no_man : {P : Type 0} (man : Man) → None ≡ Some man → P
no_man man e = absurd (cc)

Decides-fits : (good : Man → Bool) (P : Man → Type 0) → ((man : Man) → Decides (good man) (P man)) →
    (here : Option Man) → Decides (fits good here) ((man : Man) → here ≡ Some man → P man)
Decides-fits good P decides None = (λ _ man e. no_man man e, λ _. refl)
Decides-fits good P decides (Some man) = (
  λ e other same. subst P (same_Some man other same) ((decides man).0 e),
  λ each. (decides man).1 (each man refl),
)

pub Decides-each_man : (good : Square → Man → Bool) (P : Square → Man → Type 0) →
    ((s : Square) (man : Man) → Decides (good s man) (P s man)) → (placement : Placement) →
    Decides (each_man good placement) (EachMan P placement)
Decides-each_man good P decides placement =
    like_decides (λ each s man here. each s (IsOnBoard-from_man placement s man here) man here)
    (λ each s _ man here. each s man here)
    (Decides-each_square (λ s. fits (good s) (man_at placement s))
    (λ s. (man : Man) → man_at placement s ≡ Some man → P s man)
    (λ s _. Decides-fits (good s) (P s) (decides s) (man_at placement s)))

pub Decides-are_kings_alone : (placement : Placement) → Decides (are_kings_alone placement) (AreKingsAlone placement)
Decides-are_kings_alone placement =
    Decides-each_man (λ s man. is_kind King man.1) (λ s man. man.1 ≡ King) (λ s man. Decides-kind King man.1) placement

unless : (a b : Bool) {P Q : Type 0} → Decides a P → Decides b Q → Decides (a || b) (¬ P → Q)
unless true b d e = (λ _ none. absurd (none (d.0 refl)), λ _. refl)
unless false b d e = (λ told _. e.0 told, λ f. e.1 (f (λ p. false≢true (d.1 p))))

only_if : (a b : Bool) {P Q : Type 0} → Decides a P → Decides b Q → Decides (not a || b) (P → Q)
only_if true b d e = (λ told _. e.0 told, λ f. e.1 (f (d.0 refl)))
only_if false b d e = (λ _ p. absurd (false≢true (d.1 p)), λ _. refl)

abbrev KnightOn : Option Man → Type 0
KnightOn here = (side : Colour) × (here ≡ Some (side, Knight))

Decides-knight_on : (here : Option Man) → Decides (holds (λ man. is_kind Knight man.1) here) (KnightOn here)
Decides-knight_on None = (λ e. absurd (false≢true e), λ h. no_man (h.0, Knight) h.1)
Decides-knight_on (Some man) = (
  λ e. (man.0, ap Some (same_man man (man.0, Knight) refl (sym (is_kind-true Knight man.1 e)))),
  λ h. (Decides-kind Knight man.1).1 (ap (λ (m : Man). m.1) (same_Some man (h.0, Knight) h.1)),
)

abbrev OthersKings : Placement → Square → Type 0
OthersKings placement square = EachMan (λ s man. s ≢ square → man.1 ≡ King) placement

Decides-are_others_kings : (placement : Placement) (square : Square) →
    Decides (are_others_kings placement square) (OthersKings placement square)
Decides-are_others_kings placement square =
    Decides-each_man (λ s man. is_square s square || is_kind King man.1) (λ s man. s ≢ square → man.1 ≡ King)
    (λ s man. unless (is_square s square) (is_kind King man.1) (Decides-is_square s square) (Decides-kind King man.1))
    placement

pub Decides-are_kings_and_knight : (placement : Placement) →
    Decides (are_kings_and_knight placement) (AreKingsAndKnight placement)
Decides-are_kings_and_knight placement =
    like_decides
    (λ h. record { square = h.0; side = h.2.0.0; knight = h.2.0.1; others = h.2.1 })
    (λ h. (h.square, IsOnBoard-from_man placement h.square (h.side, Knight) h.knight, ((h.side, h.knight), h.others)))
    (Decides-some_square
    (λ s. holds (λ man. is_kind Knight man.1) (man_at placement s) && are_others_kings placement s)
    (λ s. KnightOn (man_at placement s) × OthersKings placement s)
    (λ s _. and_decides (Decides-knight_on (man_at placement s)) (Decides-are_others_kings placement s)))

pub Decides-are_bishops_on : (dark : Bool) (placement : Placement) →
    Decides (are_bishops_on dark placement) (AreBishopsOn dark placement)
Decides-are_bishops_on dark placement =
    Decides-each_man (λ s man. is_kind King man.1 || (is_kind Bishop man.1 && is_shade dark s))
    (λ s man. (man.1 ≡ King) ⊎ IsBishopOn dark s man)
    (λ s man. or_decides (Decides-kind King man.1)
    (and_decides (Decides-kind Bishop man.1) (Decides-is_shade dark s))) placement

of_shade : (placement : Placement) → AreBishopsOn true placement ⊎ AreBishopsOn false placement →
    AreKingsAndBishops placement
of_shade placement (inl dark) = (true, dark)
of_shade placement (inr light) = (false, light)

shade_of : (placement : Placement) (dark : Bool) → AreBishopsOn dark placement →
    AreBishopsOn true placement ⊎ AreBishopsOn false placement
shade_of placement true on = inl on
shade_of placement false on = inr on

pub Decides-is_listed_dead : (placement : Placement) → Decides (is_listed_dead placement) (IsListedDead placement)
Decides-is_listed_dead placement =
    let bishops = like_decides (of_shade placement) (λ h. shade_of placement h.0 h.1)
    (or_decides (Decides-are_bishops_on true placement) (Decides-are_bishops_on false placement)) in
    or_decides (Decides-are_kings_alone placement) (or_decides (Decides-are_kings_and_knight placement) bishops)

pub Decides-has_king_alone : (placement : Placement) (side : Colour) →
    Decides (has_king_alone placement side) (HasKingAlone placement side)
Decides-has_king_alone placement side =
    like_decides (λ each s kind here. each s (side, kind) here refl)
    (λ alone s man here same. alone s man.1 (here ∙ ap (λ (c : Colour). there c man.1) same))
    (Decides-each_man (λ s man. not (is_of side man) || is_kind King man.1) (λ s man. man.0 ≡ side → man.1 ≡ King)
    (λ s man. only_if (is_of side man) (is_kind King man.1) (Decides-colour side man.0) (Decides-kind King man.1))
    placement)
  where
    there : Colour → Kind → Option Man
    there colour kind = Some (colour, kind)

stuck : (p : Position) (ms : List Move) → ((m : Move) → Contains ms m → IsLegal p m) →
    ((m : Move) → IsLegal p m → Contains ms m) → Decides (is_stuck_of ms) (¬ HasLegal p)
stuck p [] from to = (λ _ h. Contains-none h.0 (to h.0 h.1), λ _. refl)
stuck p (m ∷ ms) from to = (λ e. absurd (false≢true e), λ none. absurd (none (m, from m (0, omega arith, refl))))

Decides-stuck : (p : Position) → Decides (is_stuck_of (legal_moves_of p)) (¬ HasLegal p)
Decides-stuck p = stuck p (legal_moves_of p) (legal_moves_of-legal p) (legal_moves_of-each p)

pub Decides-is_checkmate : (p : Position) → Decides (is_checkmate p) (IsCheckmate p)
Decides-is_checkmate p =
    like_decides (λ h. record { check = h.0; stuck = h.1 }) (λ h. (h.check, h.stuck))
    (and_decides (Decides-is_in_check p.placement p.side) (Decides-stuck p))

pub Decides-is_stalemate : (p : Position) → Decides (is_stalemate p) (IsStalemate p)
Decides-is_stalemate p =
    like_decides (λ h. record { no_check = h.0; stuck = h.1 }) (λ h. (h.no_check, h.stuck))
    (and_decides (not_decides (Decides-is_in_check p.placement p.side)) (Decides-stuck p))
