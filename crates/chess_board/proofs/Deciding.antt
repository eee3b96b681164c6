use Rattle.std.specs.Prelude.{ℕ, ◌≡◌, ◌≢◌, ◌≤◌, Bool, true, false, ◌&&◌, ◌||◌, ◌==◌, not, nat_le, List, [], ◌∷◌, length, Option, Some, None, is_none}
use Rattle.std.specs.Bool.{Decides}
use Rattle.std.specs.List.{list_all}
use Rattle.std.proofs.Common.{rules, ap, sym, subst, inl, inr, refl}
use Rattle.std.proofs.lemmas.Bool.{false≢true, and_parts, and_from, leb-true, le-leb}
use Rattle.std.proofs.lemmas.Bool.Decides.{Decides-eqb}
use Rattle.std.proofs.lemmas.Option.{same_Some}
use Rattle.chess_bits.specs.declared.men.Colour.{Colour}
use Rattle.chess_bits.specs.declared.men.Colour.TheVariants.{White, Black}
use Rattle.chess_bits.specs.declared.men.Kind.{Kind}
use Rattle.chess_bits.specs.declared.men.Kind.TheVariants.{Pawn, Knight, Bishop, Rook, Queen, King}
use Rattle.chess_bits.specs.Square.{Square, IsOnBoard, on_board, squares}
use Rattle.chess_bits.specs.Table.{at}
use Rattle.chess_bits.specs.Man.{Man, other, is_colour, is_kind, is_man, is_of, holds}
use Rattle.chess_bits.specs.Attack.{along, forward, pawn_attacks, Attacks, attacks}
use Rattle.chess_bits.proofs.ManLemmas.{Decides-is_colour, Decides-is_kind, same_man, Decides-holds_is_man}
use Rattle.chess_bits.proofs.TableLemmas.{Decides-is_square, Decides-on_board}
use Rattle.chess_bits.proofs.Deciding.{and_decides, or_decides, not_decides, like_decides, EachDecides, each_decides, Decides-reaches, Decides-attacks, Decides-some_square, Decides-each_square}
use Rattle.chess_board.specs.declared.castling.Wing.{Wing}
use Rattle.chess_board.specs.declared.castling.Wing.TheVariants as wing
use Rattle.chess_board.specs.declared.moves.Move.{Move}
use Rattle.chess_board.specs.Position.{Position, has_right, man_at, occupied_of, IsAttacker, IsAttacked, IsInCheck, is_attacker, is_attacked, is_in_check, king_home, rook_home, count_of, target_rank, IsTarget, HasKings, HasFewMen, HasPawnsInside, HasNoCheck, HasTrueRights, HasTrueTarget, HasCounters, IsValid}
use Rattle.chess_board.specs.Initial.{initial}
use Rattle.chess_board.specs.Next.{next, is_target, castled_king, castled_rook}
use Rattle.chess_board.specs.Legal.{last_rank, pawn_rank, IsPromotionKind, IsPromotion, HoldsColour, Advances, AdvancesTwo, PawnTakes, TakesEnPassant, IsPawnMove, IsPieceMove, between, EachOf, Castles, IsMoveOf, IsCandidate, IsLegal}
use Rattle.chess_board.specs.Computing.{holds_colour, is_empty, is_promotion_kind, is_promotion, advances, advances_two, pawn_takes, takes_en_passant, is_pawn_move, is_piece_move, is_unattacked, castles, is_move_of, is_candidate, is_legal, of_both, is_whole, has_kings, has_few_men, is_inside, has_pawns_inside, has_no_check, has_true_right, has_true_rights, is_true_target, has_true_target, has_counters, is_valid}
use Rattle.chess_board.proofs.Candidates.{IsOnBoard-from_man}

-- The tests of `Position` and `Computing` decide the relations of `Position` and `Legal`.

no_man : {P : Type 0} (man : Man) → None ≡ Some man → P
no_man man e = absurd (cc)

-- What stands on a square.

pub Decides-is_none : {A : Type 0} (here : Option A) → Decides (is_none here) (here ≡ None)
Decides-is_none None = (λ _. refl, λ _. refl)
Decides-is_none (Some x) = (λ e. absurd (false≢true e), λ e. absurd (cc))

pub Decides-is_empty : (p : Position) (s : Square) → Decides (is_empty p s) (man_at p.placement s ≡ None)
Decides-is_empty p s = Decides-is_none (man_at p.placement s)

-- a man of the side stands there, of a kind of which P holds
abbrev Holding : Colour → (Kind → Type 0) → Option Man → Type 0
Holding side P here = (kind : Kind) × (here ≡ Some (side, kind)) × P kind

own_kind : (side : Colour) (found : Man) (test : Kind → Bool) (P : Kind → Type 0) →
    ((kind : Kind) → Some found ≡ Some (side, kind) → Decides (test kind) (P kind)) →
    (is_colour side found.0 && test found.1) ≡ true → Holding side P (Some found)
own_kind side found test P decides e =
    let (own_colour, passes) = and_parts (is_colour side found.0) (test found.1) e in
    let colour = (Decides-is_colour side found.0).0 own_colour in
    let own : Some found ≡ Some (side, found.1) = ap Some (same_man found (side, found.1) (sym colour) refl) in
    (found.1, own, (decides found.1 own).0 passes)

own_kind-holds : (side : Colour) (found : Man) (test : Kind → Bool) (P : Kind → Type 0) →
    ((kind : Kind) → Some found ≡ Some (side, kind) → Decides (test kind) (P kind)) →
    (kind : Kind) → Some found ≡ Some (side, kind) → P kind → (is_colour side found.0 && test found.1) ≡ true
own_kind-holds side found test P decides kind own here =
    let same : found ≡ (side, kind) = same_Some found (side, kind) own in
    and_from (is_colour side found.0) (test found.1)
    ((Decides-is_colour side found.0).1 (sym (ap (λ (m : Man). m.0) same)))
    (subst (λ (k : Kind). test k ≡ true) (sym (ap (λ (m : Man). m.1) same)) ((decides kind own).1 here))

pub Decides-holds_own : (side : Colour) (here : Option Man) (test : Kind → Bool) (P : Kind → Type 0) →
    ((kind : Kind) → here ≡ Some (side, kind) → Decides (test kind) (P kind)) →
    Decides (holds (λ man. is_of side man && test man.1) here) (Holding side P here)
Decides-holds_own side None test P decides = (λ e. absurd (false≢true e), λ h. no_man (side, h.0) h.1)
Decides-holds_own side (Some found) test P decides =
    (own_kind side found test P decides, λ h. own_kind-holds side found test P decides h.0 h.1 h.2)

holds_of : (side : Colour) (here : Option Man) →
    Decides (holds (is_of side) here) ((kind : Kind) × (here ≡ Some (side, kind)))
holds_of side None = (λ e. absurd (false≢true e), λ h. no_man (side, h.0) h.1)
holds_of side (Some found) =
    like_decides (λ e. (found.1, ap Some (same_man found (side, found.1) (sym e) refl)))
    (λ h. sym (ap (λ (m : Man). m.0) (same_Some found (side, h.0) h.1))) (Decides-is_colour side found.0)

pub Decides-holds_colour : (p : Position) (s : Square) (side : Colour) →
    Decides (holds_colour p s side) (HoldsColour p s side)
Decides-holds_colour p s side = holds_of side (man_at p.placement s)

-- a pawn of either side stands there
Decides-holds_pawn : (here : Option Man) →
    Decides (holds (λ man. is_kind Pawn man.1) here) ((side : Colour) × (here ≡ Some (side, Pawn)))
Decides-holds_pawn None = (λ e. absurd (false≢true e), λ h. no_man (h.0, Pawn) h.1)
Decides-holds_pawn (Some found) =
    like_decides (λ e. (found.0, ap Some (same_man found (found.0, Pawn) refl (sym e))))
    (λ h. sym (ap (λ (m : Man). m.1) (same_Some found (h.0, Pawn) h.1))) (Decides-is_kind Pawn found.1)

-- Attacks.

is_attacker-holds : (placement : List (Option Man)) (side : Colour) (b a : Square) (here : Option Man) →
    holds (λ man. is_of side man && attacks (occupied_of placement) side man.1 a b) here ≡
    is_attacker placement side b here a
is_attacker-holds placement side b a None = refl
is_attacker-holds placement side b a (Some man) = refl

pub Decides-is_attacker : (placement : List (Option Man)) (side : Colour) (b a : Square) →
    IsOnBoard b → IsOnBoard a →
    Decides (is_attacker placement side b (man_at placement a) a) (IsAttacker placement side b a)
Decides-is_attacker placement side b a on_b on_a =
    let own = Decides-holds_own side (man_at placement a) (λ kind. attacks (occupied_of placement) side kind a b)
    (λ kind. Attacks (occupied_of placement) side kind a b)
    (λ kind _. Decides-attacks (occupied_of placement) side kind a b on_a on_b) in
    rw (← is_attacker-holds placement side b a (man_at placement a))
    (like_decides (λ h. record { kind = h.0; stands = h.1; attacks = h.2 }) (λ h. (h.kind, h.stands, h.attacks)) own)

pub Decides-is_attacked : (placement : List (Option Man)) (side : Colour) (b : Square) → IsOnBoard b →
    Decides (is_attacked placement side b) (IsAttacked placement side b)
Decides-is_attacked placement side b on_b =
    like_decides (λ h. (h.0, h.2)) (λ h. (h.0, IsOnBoard-from_man placement h.0 (side, h.1.kind) h.1.stands, h.1))
    (Decides-some_square (λ a. is_attacker placement side b (man_at placement a) a) (IsAttacker placement side b)
    (λ a on_a. Decides-is_attacker placement side b a on_b on_a))

pub Decides-is_in_check : (placement : List (Option Man)) (side : Colour) →
    Decides (is_in_check placement side) (IsInCheck placement side)
Decides-is_in_check placement side =
    like_decides (λ h. (h.0, h.2.0, h.2.1)) (λ h. (h.0, IsOnBoard-from_man placement h.0 (side, King) h.1, (h.1, h.2)))
    (Decides-some_square
    (λ k. holds (is_man (side, King)) (man_at placement k) && is_attacked placement (other side) k)
    (λ k. (man_at placement k ≡ Some (side, King)) × IsAttacked placement (other side) k)
    (λ k on. and_decides (Decides-holds_is_man (side, King) (man_at placement k))
    (Decides-is_attacked placement (other side) k on)))

-- Moves of pawns.

no_promotion_kind : {P : Type 0} (kind : Kind) → (kind ≡ Queen → P) → (kind ≡ Rook → P) → (kind ≡ Bishop → P) →
    (kind ≡ Knight → P) → IsPromotionKind kind → P
no_promotion_kind _ queen rook bishop knight (inl e) = queen e
no_promotion_kind _ queen rook bishop knight (inr (inl e)) = rook e
no_promotion_kind _ queen rook bishop knight (inr (inr (inl e))) = bishop e
no_promotion_kind _ queen rook bishop knight (inr (inr (inr e))) = knight e

pub Decides-is_promotion_kind : (kind : Kind) → Decides (is_promotion_kind kind) (IsPromotionKind kind)
Decides-is_promotion_kind Queen = (λ _. inl refl, λ _. refl)
Decides-is_promotion_kind Rook = (λ _. inr (inl refl), λ _. refl)
Decides-is_promotion_kind Bishop = (λ _. inr (inr (inl refl)), λ _. refl)
Decides-is_promotion_kind Knight = (λ _. inr (inr (inr refl)), λ _. refl)
Decides-is_promotion_kind Pawn =
    (λ e. absurd (false≢true e), no_promotion_kind Pawn (λ e. cc) (λ e. cc) (λ e. cc) (λ e. cc))
Decides-is_promotion_kind King =
    (λ e. absurd (false≢true e), no_promotion_kind King (λ e. cc) (λ e. cc) (λ e. cc) (λ e. cc))

pub Decides-is_promotion : (side : Colour) (to : Square) (promotion : Option Kind) →
    Decides (is_promotion side to promotion) (IsPromotion side to promotion)
Decides-is_promotion side to None = not_decides (Decides-eqb to.rank (last_rank side))
Decides-is_promotion side to (Some kind) =
    and_decides (Decides-eqb to.rank (last_rank side)) (Decides-is_promotion_kind kind)

pub Decides-advances : (p : Position) (m : Move) → Decides (advances p m) (Advances p m)
Decides-advances p m =
    like_decides (λ h. record { there = h.0; empty = h.1 }) (λ h. (h.there, h.empty))
    (and_decides (Decides-is_square m.to (along 1 (forward p.side) m.from)) (Decides-is_empty p m.to))

pub Decides-advances_two : (p : Position) (m : Move) → Decides (advances_two p m) (AdvancesTwo p m)
Decides-advances_two p m =
    like_decides (λ h. record { first = h.0; there = h.1.0; crossed_empty = h.1.1.0; empty = h.1.1.1 })
    (λ h. (h.first, (h.there, (h.crossed_empty, h.empty))))
    (and_decides (Decides-eqb m.from.rank (pawn_rank p.side))
    (and_decides (Decides-is_square m.to (along 2 (forward p.side) m.from))
    (and_decides (Decides-is_empty p (along 1 (forward p.side) m.from)) (Decides-is_empty p m.to))))

pub Decides-pawn_takes : (p : Position) (m : Move) → Decides (pawn_takes p m) (PawnTakes p m)
Decides-pawn_takes p m =
    like_decides (λ h. record { attacked = h.0; taken = h.1 }) (λ h. (h.attacked, h.taken))
    (and_decides (Decides-reaches (pawn_attacks p.side) m.from m.to) (Decides-holds_colour p m.to (other p.side)))

pub Decides-is_target : (target : Option Square) (s : Square) → Decides (is_target target s) (target ≡ Some s)
Decides-is_target None s = (λ e. absurd (false≢true e), λ e. absurd (cc))
Decides-is_target (Some t) s =
    like_decides (λ e. ap Some e) (λ e. same_Some t s e) (Decides-is_square t s)

pub Decides-takes_en_passant : (p : Position) (m : Move) → Decides (takes_en_passant p m) (TakesEnPassant p m)
Decides-takes_en_passant p m =
    like_decides (λ h. record { attacked = h.0; crossed = h.1 }) (λ h. (h.attacked, h.crossed))
    (and_decides (Decides-reaches (pawn_attacks p.side) m.from m.to) (Decides-is_target p.target m.to))

pub Decides-is_pawn_move : (p : Position) (m : Move) → Decides (is_pawn_move p m) (IsPawnMove p m)
Decides-is_pawn_move p m =
    like_decides (λ h. record { way = h.1; promotion = h.0 }) (λ h. (h.promotion, h.way))
    (and_decides (Decides-is_promotion p.side m.to m.promotion)
    (or_decides (Decides-advances p m) (or_decides (Decides-advances_two p m)
    (or_decides (Decides-pawn_takes p m) (Decides-takes_en_passant p m)))))

-- Moves of pieces.

pub Decides-is_piece_move : (p : Position) (m : Move) (kind : Kind) → IsOnBoard m.from → IsOnBoard m.to →
    Decides (is_piece_move p m kind) (IsPieceMove p m kind)
Decides-is_piece_move p m kind on_from on_to =
    like_decides (λ h. record { attacked = h.1.1; free = h.1.0; no_promotion = h.0 })
    (λ h. (h.no_promotion, (h.free, h.attacked)))
    (and_decides (Decides-is_none m.promotion) (and_decides (not_decides (Decides-holds_colour p m.to p.side))
    (Decides-attacks (occupied_of p.placement) p.side kind m.from m.to on_from on_to)))

Decides-each_of : {A : Type 0} (test : A → Bool) (P : A → Type 0) (xs : List A) → EachDecides test P xs →
    Decides (list_all test xs) (EachOf P xs)
Decides-each_of test P [] each = (λ _. tt, λ _. refl)
Decides-each_of test P (x ∷ xs) each = and_decides each.0 (Decides-each_of test P xs each.1)

Decides-is_true : (b : Bool) → Decides b (b ≡ true)
Decides-is_true b = (λ e. e, λ e. e)

castling_squares : (side : Colour) (wing : Wing) →
    IsOnBoard (king_home side) × IsOnBoard (castled_rook side wing) × IsOnBoard (castled_king side wing)
castling_squares White wing.King = search rules
castling_squares White wing.Queen = search rules
castling_squares Black wing.King = search rules
castling_squares Black wing.Queen = search rules

between_empty : (p : Position) (wing : Wing) →
    Decides (list_all (is_empty p) (between p.side wing))
    (EachOf (λ s. man_at p.placement s ≡ None) (between p.side wing))
between_empty p wing =
    Decides-each_of (is_empty p) (λ s. man_at p.placement s ≡ None) (between p.side wing)
    (each_decides (is_empty p) (λ s. man_at p.placement s ≡ None) (Decides-is_empty p) (between p.side wing))

-- the squares that the king leaves, crosses and reaches
abbrev way : Colour → Wing → List Square
way side wing = king_home side ∷ castled_rook side wing ∷ castled_king side wing ∷ []

pub Decides-is_unattacked : (p : Position) (s : Square) → IsOnBoard s →
    Decides (is_unattacked p s) (¬ IsAttacked p.placement (other p.side) s)
Decides-is_unattacked p s on = not_decides (Decides-is_attacked p.placement (other p.side) s on)

way_unattacked : (p : Position) (wing : Wing) →
    Decides (list_all (is_unattacked p) (way p.side wing))
    (EachOf (λ s. ¬ IsAttacked p.placement (other p.side) s) (way p.side wing))
way_unattacked p wing =
    let on = castling_squares p.side wing in
    let king = Decides-is_unattacked p (king_home p.side) on.0 in
    let rook = Decides-is_unattacked p (castled_rook p.side wing) on.1 in
    let castled = Decides-is_unattacked p (castled_king p.side wing) on.2 in
    Decides-each_of (is_unattacked p) (λ s. ¬ IsAttacked p.placement (other p.side) s) (way p.side wing)
    (king, (rook, (castled, tt)))

pub Decides-castles : (p : Position) (m : Move) (wing : Wing) → Decides (castles p m wing) (Castles p m wing)
Decides-castles p m wing =
    like_decides
    (λ h. record {
      right = h.0;
      from = h.1.0;
      to = h.1.1.0;
      empty = h.1.1.1.1.0;
      unattacked = h.1.1.1.1.1;
      no_promotion = h.1.1.1.0;
    })
    (λ h. (h.right, (h.from, (h.to, (h.no_promotion, (h.empty, h.unattacked))))))
    (and_decides (Decides-is_true (has_right p.rights p.side wing))
    (and_decides (Decides-is_square m.from (king_home p.side))
    (and_decides (Decides-is_square m.to (castled_king p.side wing))
    (and_decides (Decides-is_none m.promotion) (and_decides (between_empty p wing) (way_unattacked p wing))))))

-- Candidates and legal moves.

pub Decides-is_move_of : (p : Position) (m : Move) (kind : Kind) → IsOnBoard m.from → IsOnBoard m.to →
    Decides (is_move_of p m kind) (IsMoveOf p m kind)
Decides-is_move_of p m Pawn on_from on_to = Decides-is_pawn_move p m
Decides-is_move_of p m Knight on_from on_to = Decides-is_piece_move p m Knight on_from on_to
Decides-is_move_of p m Bishop on_from on_to = Decides-is_piece_move p m Bishop on_from on_to
Decides-is_move_of p m Rook on_from on_to = Decides-is_piece_move p m Rook on_from on_to
Decides-is_move_of p m Queen on_from on_to = Decides-is_piece_move p m Queen on_from on_to
Decides-is_move_of p m King on_from on_to =
    or_decides (Decides-is_piece_move p m King on_from on_to)
    (or_decides (Decides-castles p m wing.King) (Decides-castles p m wing.Queen))

-- a test that decides a fact where another passes, which follows from the fact
Decides-within : {P On : Type 0} (r on : Bool) → Decides on On → (On → Decides r P) → (P → On) →
    Decides (r && on) P
Decides-within r on on_decides decides follows = (
  λ e. let (passes, within) = and_parts r on e in (decides (on_decides.0 within)).0 passes,
  λ h. and_from r on ((decides (follows h)).1 h) (on_decides.1 (follows h)),
)

-- a man of the side to move makes the move by the rules of its kind
abbrev moves_by_kind : Position → Move → Bool
moves_by_kind p m = holds (λ man. is_of p.side man && is_move_of p m man.1) (man_at p.placement m.from)

Decides-moves_by_kind : (p : Position) (m : Move) → IsOnBoard m.to →
    Decides (moves_by_kind p m) (Holding p.side (IsMoveOf p m) (man_at p.placement m.from))
Decides-moves_by_kind p m on_to =
    Decides-holds_own p.side (man_at p.placement m.from) (is_move_of p m) (IsMoveOf p m)
    (λ kind own. Decides-is_move_of p m kind (IsOnBoard-from_man p.placement m.from (p.side, kind) own) on_to)

pub Decides-is_candidate : (p : Position) (m : Move) → Decides (is_candidate p m) (IsCandidate p m)
Decides-is_candidate p m =
    Decides-within (moves_by_kind p m) (on_board m.to) (Decides-on_board m.to)
    (λ on_to. like_decides (λ h. record { kind = h.0; own = h.1; on_board = on_to; rule = h.2 })
    (λ h. (h.kind, h.own, h.rule)) (Decides-moves_by_kind p m on_to))
    (λ h. h.on_board)

pub Decides-is_legal : (p : Position) (m : Move) → Decides (is_legal p m) (IsLegal p m)
Decides-is_legal p m =
    like_decides (λ h. record { candidate = h.0; safe = h.1 }) (λ h. (h.candidate, h.safe))
    (and_decides (Decides-is_candidate p m) (not_decides (Decides-is_in_check (next p m).placement p.side)))

-- Valid positions.

Decides-of_both : (test : Colour → Bool) (P : Colour → Type 0) → ((side : Colour) → Decides (test side) (P side)) →
    Decides (of_both test) ((side : Colour) → P side)
Decides-of_both test P decides =
    like_decides (λ h. elim [ White ↦ h.0 | Black ↦ h.1 ]) (λ each. (each White, each Black))
    (and_decides (decides White) (decides Black))

-- where a test passes, another decides a fact
Decides-implies : {P : Type 0} (r t : Bool) → Decides t P → Decides (not r || t) (r ≡ true → P)
Decides-implies true t decides = (λ e _. decides.0 e, λ h. decides.1 (h refl))
Decides-implies false t decides = (λ _ e. absurd (false≢true e), λ _. refl)

pub Decides-nat_le : (a b : ℕ) → Decides (nat_le a b) (a ≤ b)
Decides-nat_le a b = (leb-true a b, le-leb a b)

pub Decides-is_whole : (p : Position) → Decides (is_whole p) (length p.placement ≡ 64)
Decides-is_whole p = Decides-eqb (length p.placement) 64

pub Decides-has_kings : (p : Position) → Decides (has_kings p) (HasKings p)
Decides-has_kings p =
    Decides-of_both (λ side. count_of (is_man (side, King)) p.placement == 1)
    (λ side. count_of (is_man (side, King)) p.placement ≡ 1)
    (λ side. Decides-eqb (count_of (is_man (side, King)) p.placement) 1)

pub Decides-has_few_men : (p : Position) → Decides (has_few_men p) (HasFewMen p)
Decides-has_few_men p =
    Decides-of_both (λ side. nat_le (count_of (is_of side) p.placement) 16)
    (λ side. count_of (is_of side) p.placement ≤ 16) (λ side. Decides-nat_le (count_of (is_of side) p.placement) 16)

Decides-is_inside : (s : Square) → Decides (is_inside s) ((s.rank ≢ 1) × (s.rank ≢ 8))
Decides-is_inside s = and_decides (not_decides (Decides-eqb s.rank 1)) (not_decides (Decides-eqb s.rank 8))

abbrev is_pawn_inside : Position → Square → Bool
is_pawn_inside p s = not (holds (λ man. is_kind Pawn man.1) (man_at p.placement s)) || is_inside s

abbrev IsPawnInside : Position → Square → Type 0
IsPawnInside p s = (side : Colour) → man_at p.placement s ≡ Some (side, Pawn) → (s.rank ≢ 1) × (s.rank ≢ 8)

Decides-is_pawn_inside : (p : Position) (s : Square) → Decides (is_pawn_inside p s) (IsPawnInside p s)
Decides-is_pawn_inside p s =
    let pawn = Decides-holds_pawn (man_at p.placement s) in
    like_decides (λ h side stands. h (pawn.1 (side, stands))) (λ h e. h (pawn.0 e).0 (pawn.0 e).1)
    (Decides-implies (holds (λ man. is_kind Pawn man.1) (man_at p.placement s)) (is_inside s) (Decides-is_inside s))

pub Decides-has_pawns_inside : (p : Position) → Decides (has_pawns_inside p) (HasPawnsInside p)
Decides-has_pawns_inside p =
    like_decides (λ each s side stands. each s (IsOnBoard-from_man p.placement s (side, Pawn) stands) side stands)
    (λ each s _ side stands. each s side stands)
    (Decides-each_square (is_pawn_inside p) (IsPawnInside p) (λ s _. Decides-is_pawn_inside p s))

pub Decides-has_no_check : (p : Position) → Decides (has_no_check p) (HasNoCheck p)
Decides-has_no_check p = not_decides (Decides-is_in_check p.placement (other p.side))

abbrev IsTrueRight : Position → Colour → Wing → Type 0
IsTrueRight p side wing =
    has_right p.rights side wing ≡ true → (man_at p.placement (king_home side) ≡ Some (side, King))
    × (man_at p.placement (rook_home side wing) ≡ Some (side, Rook))

Decides-has_true_right : (p : Position) (side : Colour) (wing : Wing) →
    Decides (has_true_right p side wing) (IsTrueRight p side wing)
Decides-has_true_right p side wing =
    let king = Decides-holds_is_man (side, King) (man_at p.placement (king_home side)) in
    let rook = Decides-holds_is_man (side, Rook) (man_at p.placement (rook_home side wing)) in
    Decides-implies (has_right p.rights side wing) _ (and_decides king rook)

pub Decides-has_true_rights : (p : Position) → Decides (has_true_rights p) (HasTrueRights p)
Decides-has_true_rights p =
    Decides-of_both (λ side. has_true_right p side wing.King && has_true_right p side wing.Queen)
    (λ side. (wing : Wing) → IsTrueRight p side wing)
    (λ side. like_decides (λ h. elim [ wing.King ↦ h.0 | wing.Queen ↦ h.1 ]) (λ each. (each wing.King, each wing.Queen))
    (and_decides (Decides-has_true_right p side wing.King) (Decides-has_true_right p side wing.Queen)))

Decides-is_true_target : (p : Position) (target : Option Square) →
    Decides (is_true_target p target) ((t : Square) → target ≡ Some t → IsTarget p t)
Decides-is_true_target p None = (λ _ t e. absurd (cc), λ _. refl)
Decides-is_true_target p (Some t) =
    let pawn = man_at p.placement (along 1 (forward (other p.side)) t) in
    like_decides
    (λ h s e. subst (IsTarget p) (same_Some t s e)
    (record { on_board = h.0; rank = h.1.0; crossed = h.1.1.0; pawn = h.1.1.1.0; left = h.1.1.1.1 }))
    (λ each. let h = each t refl in (h.on_board, (h.rank, (h.crossed, (h.pawn, h.left)))))
    (and_decides (Decides-on_board t) (and_decides (Decides-eqb t.rank (target_rank p.side))
    (and_decides (Decides-is_empty p t) (and_decides (Decides-holds_is_man (other p.side, Pawn) pawn)
    (Decides-is_empty p (along 1 (forward p.side) t))))))

pub Decides-has_true_target : (p : Position) → Decides (has_true_target p) (HasTrueTarget p)
Decides-has_true_target p = Decides-is_true_target p p.target

pub Decides-has_counters : (p : Position) → Decides (has_counters p) (HasCounters p)
Decides-has_counters p =
    like_decides (λ h. (h.0, h.1.0, h.1.1)) (λ h. (h.0, (h.1, h.2)))
    (and_decides (Decides-nat_le p.halfmove 65535)
    (and_decides (Decides-nat_le 1 p.fullmove) (Decides-nat_le p.fullmove 65535)))

pub Decides-is_valid : (p : Position) → Decides (is_valid p) (IsValid p)
Decides-is_valid p =
    like_decides
    (λ h. record {
      whole = h.0;
      kings = h.1.0;
      men = h.1.1.0;
      pawns = h.1.1.1.0;
      check = h.1.1.1.1.0;
      rights = h.1.1.1.1.1.0;
      target = h.1.1.1.1.1.1.0;
      counters = h.1.1.1.1.1.1.1;
    })
    (λ h. (h.whole, (h.kings, (h.men, (h.pawns, (h.check, (h.rights, (h.target, h.counters))))))))
    (and_decides (Decides-is_whole p) (and_decides (Decides-has_kings p) (and_decides (Decides-has_few_men p)
    (and_decides (Decides-has_pawns_inside p) (and_decides (Decides-has_no_check p)
    (and_decides (Decides-has_true_rights p) (and_decides (Decides-has_true_target p) (Decides-has_counters p))))))))

pub IsValid-initial : IsValid initial
unfolding at squares
IsValid-initial = (Decides-is_valid initial).0 refl
