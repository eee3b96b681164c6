-- No text names two legal moves.
use Rattle.std.proofs.Common.{ℕ, ◌≡◌, ◌≢◌, ◌+◌, ◌≤◌, ◌∙◌, Bool, true, false, ◌||◌, ◌&&◌, not, List, ◌∷◌, ◌++◌, get_or, Option, Some, None, is_some, ap, sym, refl, inl, inr, arith}
use Rattle.std.specs.Prelude.{◌⊎◌, ◌==◌, if◌then◌else◌, drop}
use Rattle.std.proofs.lemmas.Option.{same_Some}
use Rattle.std.proofs.lemmas.Bool.{cases_Bool, both_ways, and_from, or_right, ne_eqb, not_from_false}
use Rattle.chess_bits.specs.declared.men.Colour.{Colour}
use Rattle.chess_bits.specs.declared.men.Colour.TheVariants.{White, Black}
use Rattle.chess_bits.specs.declared.men.Kind.{Kind}
use Rattle.chess_bits.specs.declared.men.Kind.TheVariants.{Pawn, Knight, Bishop, Rook, Queen, King}
use Rattle.chess_bits.specs.Square.{Square, IsOnBoard, is_square}
use Rattle.chess_bits.specs.Man.{Man, other}
use Rattle.chess_bits.specs.Attack.{along, forward, pawn_attacks, Reaches}
use Rattle.chess_bits.proofs.TableLemmas.{same_square, is_square-true, is_square-same, is_square-false}
use Rattle.chess_board.specs.declared.moves.Move.{Move}
use Rattle.chess_board.specs.declared.castling.Wing.{Wing}
use Rattle.chess_board.specs.declared.castling.Wing.TheVariants as wing
use Rattle.chess_board.specs.Position.{Position, man_at}
use Rattle.chess_board.specs.Next.{is_en_passant, moves_kind, is_target}
use Rattle.chess_board.specs.Legal.{IsPawnMove, Advances, AdvancesTwo}
use Rattle.chess_board.proofs.PlacementAfter.{castles_to-true}
use Rattle.chess_board.proofs.Candidates.{IsOnBoard-from_man, attacks_from, straight_is_plain, moves_kind-own}
use Rattle.chess_moves.proofs.Parts.{candidate_kind}
use Rattle.chess_notation.specs.declared.telling.Origin.{Origin}
use Rattle.chess_notation.specs.declared.telling.Origin.TheVariants as origin
use Rattle.chess_san.specs.declared.parsing.Asked.{Asked}
use Rattle.chess_notation.specs.declared.telling.Threat.{Threat}
use Rattle.chess_notation.specs.declared.telling.Threat.TheVariants as threat
use Rattle.chess_notation.specs.Name.{square_name, capital_of, promotion_text}
use Rattle.chess_notation.specs.San.{IsRival, Disambiguates, origin_text, is_capture, pawn_origin, castling_text, threat_text}
use Rattle.chess_notation.specs.Coordinate.{IsPromotionText, IsCoordinateOf}
use Rattle.chess_notation.specs.Naming.{IsSanOrBody, Names}
use Rattle.chess_san.proofs.SourceLemmas.{same_move}
use Rattle.chess_san.proofs.Shapes.{IsSpelled-from, IsCastlingShape, IsPieceShape, IsPawnShape, IsShape, IsShape-spelled}
use Rattle.chess_san.proofs.Arrivals.{capital_no_stroke, asked_for, kind_of, asked-shape}

-- ---- pieces

-- two men of a kind that go to the same square are told apart
apart : (p : Position) (a b : Move) (x y : Origin) (letter_a letter_b : ℕ) (rest_a rest_b : List ℕ) → IsOnBoard a.from →
    IsOnBoard b.from → Disambiguates p a x → Disambiguates p b y → IsRival p a b → IsRival p b a →
    letter_a ∷ (origin_text x a.from ++ rest_a) ≡ letter_b ∷ (origin_text y b.from ++ rest_b) → ⊥
apart p a b origin.Nothing y la lb ra rb on_a on_b of_a of_b ab ba e = of_a (b, ab, tt)
apart p a b x origin.Nothing la lb ra rb on_a on_b of_a of_b ab ba e = of_b (a, ba, tt)
apart p a b origin.File origin.File la lb ra rb on_a on_b of_a of_b ab ba e =
    let at_1 = ap (λ (t : List ℕ). get_or t 1 0) e in
    of_a.1 (b, ab, omega (arith, at_1))
apart p a b origin.File origin.Rank la lb ra rb on_a on_b of_a of_b ab ba e =
    let at_1 = ap (λ (t : List ℕ). get_or t 1 0) e in
    omega (arith, at_1, on_a.file_from, on_b.rank_to)
apart p a b origin.File origin.Square la lb ra rb on_a on_b of_a of_b ab ba e =
    let at_1 = ap (λ (t : List ℕ). get_or t 1 0) e in
    of_a.1 (b, ab, omega (arith, at_1))
apart p a b origin.Rank origin.File la lb ra rb on_a on_b of_a of_b ab ba e =
    let at_1 = ap (λ (t : List ℕ). get_or t 1 0) e in
    omega (arith, at_1, on_b.file_from, on_a.rank_to)
apart p a b origin.Rank origin.Rank la lb ra rb on_a on_b of_a of_b ab ba e =
    let at_1 = ap (λ (t : List ℕ). get_or t 1 0) e in
    of_a.1 (b, ab, omega (arith, at_1))
apart p a b origin.Rank origin.Square la lb ra rb on_a on_b of_a of_b ab ba e =
    let at_1 = ap (λ (t : List ℕ). get_or t 1 0) e in
    omega (arith, at_1, on_b.file_from, on_a.rank_to)
apart p a b origin.Square origin.File la lb ra rb on_a on_b of_a of_b ab ba e =
    let at_1 = ap (λ (t : List ℕ). get_or t 1 0) e in
    of_b.1 (a, ba, omega (arith, at_1))
apart p a b origin.Square origin.Rank la lb ra rb on_a on_b of_a of_b ab ba e =
    let at_1 = ap (λ (t : List ℕ). get_or t 1 0) e in
    omega (arith, at_1, on_a.file_from, on_b.rank_to)
apart p a b origin.Square origin.Square la lb ra rb on_a on_b of_a of_b ab ba e =
    let at_1 = ap (λ (t : List ℕ). get_or t 1 0) e in
    let at_2 = ap (λ (t : List ℕ). get_or t 2 0) e in
    ab.elsewhere (same_square b.from a.from (omega (arith, at_1)) (omega (arith, at_2)))

pieces_from : (p : Position) (a b : Move) (text : List ℕ) (x : IsPieceShape p a text) (y : IsPieceShape p b text) →
    x.kind ≡ y.kind → a.to ≡ b.to → a.from ≡ b.from
pieces_from p a b text x y same there = elim (cases_Bool (is_square a.from b.from)) [
  | inl here ↦ is_square-true a.from b.from here
  | inr away ↦
      let kinds : man_at p.placement b.from ≡ man_at p.placement a.from =
      y.own ∙ sym (x.own ∙ ap (λ (k : Kind). Some (p.side, k)) same) in
      let apart' : a.from ≢ b.from = is_square-false a.from b.from away in
      absurd (apart p a b x.origin y.origin (capital_of x.kind) (capital_of y.kind) _ _
      (IsOnBoard-from_man p.placement a.from (p.side, x.kind) x.own)
      (IsOnBoard-from_man p.placement b.from (p.side, y.kind) y.own) x.tells y.tells
      (record { legal = y.legal; same_man = kinds; same_target = sym there; elsewhere = λ e. apart' (sym e) })
      (record { legal = x.legal; same_man = sym kinds; same_target = there; elsewhere = apart' })
      (sym x.joined ∙ y.joined))
]

-- ---- pawns

passes_en_passant : (p : Position) (m : Move) → man_at p.placement m.from ≡ Some (p.side, Pawn) →
    m.from.file ≢ m.to.file → p.target ≡ Some m.to → is_en_passant p m ≡ true
passes_en_passant p m own away crossed =
    and_from (moves_kind p m Pawn && not (m.from.file == m.to.file)) (is_target p.target m.to)
    (and_from (moves_kind p m Pawn) (not (m.from.file == m.to.file)) (moves_kind-own p m Pawn Pawn own)
    (not_from_false (m.from.file == m.to.file) (ne_eqb m.from.file m.to.file away)))
    (ap (λ (t : Option Square). is_target t m.to) crossed ∙ is_square-same m.to m.to refl)

-- a pawn takes and attacks the square, or goes straight on
abbrev pub IsPawnWay : Position → Move → Type 0
IsPawnWay p m =
    ((is_capture p m ≡ true) × Reaches (pawn_attacks p.side) m.from m.to)
    ⊎ ((is_capture p m ≡ false) × (Advances p m ⊎ AdvancesTwo p m))

pub straight_file : (side : Colour) (n : ℕ) (a b : Square) → b ≡ along n (forward side) a → a.file ≡ b.file
straight_file White n a b e = omega (arith, ap (λ (s : Square). s.file) e)
straight_file Black n a b e = omega (arith, ap (λ (s : Square). s.file) e)

no_capture : (p : Position) (m : Move) → man_at p.placement m.to ≡ None → m.from.file ≡ m.to.file →
    is_capture p m ≡ false
no_capture p m empty same =
    ap (λ (o : Option Man). is_some o || is_en_passant p m) empty ∙ straight_is_plain p m same

pub pawn_way : (p : Position) (m : Move) → man_at p.placement m.from ≡ Some (p.side, Pawn) → IsOnBoard m.to →
    IsPawnMove p m → IsPawnWay p m
pawn_way p m own on_to move = elim move.way [
  | inl one ↦ inr (no_capture p m one.empty (straight_file p.side 1 m.from m.to one.there), inl one)
  | inr (inl two) ↦ inr (no_capture p m two.empty (straight_file p.side 2 m.from m.to two.there), inr two)
  | inr (inr (inl takes)) ↦
      inl (ap (λ (o : Option Man). is_some o || is_en_passant p m) takes.taken.1, takes.attacked)
  | inr (inr (inr passes)) ↦
      let on_from = IsOnBoard-from_man p.placement m.from (p.side, Pawn) own in
      inl (
        ap (λ (b : Bool). is_some (man_at p.placement m.to) || b)
            (passes_en_passant p m own (attacks_from p.side m.from m.to on_from on_to passes.attacked).0 passes.crossed)
            ∙ or_right (is_some (man_at p.placement m.to)) true refl,
        passes.attacked,
      )
]

one_back : (side : Colour) (a b to : Square) → IsOnBoard a → IsOnBoard b → to ≡ along 1 (forward side) a →
    to ≡ along 1 (forward side) b → a ≡ b
one_back White a b to on_a on_b x y =
    same_square a b (omega (arith, ap (λ (s : Square). s.file) (sym x ∙ y)))
    (omega (arith, ap (λ (s : Square). s.rank) (sym x ∙ y)))
one_back Black a b to on_a on_b x y =
    same_square a b (omega (arith, ap (λ (s : Square). s.file) (sym x ∙ y)))
    (omega (
      arith,
      ap (λ (s : Square). s.rank) (sym x ∙ y),
      on_a.rank_from,
      on_b.rank_from,
      ap (λ (s : Square). s.rank) x,
      ap (λ (s : Square). s.rank) y,
    ))

two_back : (side : Colour) (a b to : Square) → IsOnBoard a → IsOnBoard b → IsOnBoard to →
    to ≡ along 2 (forward side) a → to ≡ along 2 (forward side) b → a ≡ b
two_back White a b to on_a on_b on x y =
    same_square a b (omega (arith, ap (λ (s : Square). s.file) (sym x ∙ y)))
    (omega (arith, ap (λ (s : Square). s.rank) (sym x ∙ y)))
two_back Black a b to on_a on_b on x y =
    same_square a b (omega (arith, ap (λ (s : Square). s.file) (sym x ∙ y)))
    (omega (arith, ap (λ (s : Square). s.rank) x, ap (λ (s : Square). s.rank) y, on.rank_from))

-- the square that a two-square advance to a square crosses is the one from which a pawn goes there in one step
crossed_from : (side : Colour) (a b to : Square) → IsOnBoard a → IsOnBoard b → IsOnBoard to →
    to ≡ along 1 (forward side) a → to ≡ along 2 (forward side) b → along 1 (forward side) b ≡ a
crossed_from White a b to on_a on_b on x y =
    same_square (along 1 (forward White) b) a (omega (arith, ap (λ (s : Square). s.file) (sym x ∙ y)))
    (omega (arith, ap (λ (s : Square). s.rank) (sym x ∙ y)))
crossed_from Black a b to on_a on_b on x y =
    same_square (along 1 (forward Black) b) a (omega (arith, ap (λ (s : Square). s.file) (sym x ∙ y)))
    (omega (arith, ap (λ (s : Square). s.rank) x, ap (λ (s : Square). s.rank) y, on.rank_from))

-- a man stands where the other's advance would cross
crossed_full : (p : Position) (a b : Move) (to : Square) → man_at p.placement a.from ≡ Some (p.side, Pawn) →
    IsOnBoard a.from → IsOnBoard b.from → IsOnBoard to → to ≡ along 1 (forward p.side) a.from →
    to ≡ along 2 (forward p.side) b.from → man_at p.placement (along 1 (forward p.side) b.from) ≡ None → ⊥
crossed_full p a b to own on_a on_b on one two empty =
    let here : man_at p.placement a.from ≡ None =
    ap (λ (s : Square). man_at p.placement s) (sym (crossed_from p.side a.from b.from to on_a on_b on one two)) ∙ empty in
    absurd (cc (sym here ∙ own))

straight_from : (p : Position) (a b : Move) → man_at p.placement a.from ≡ Some (p.side, Pawn) →
    man_at p.placement b.from ≡ Some (p.side, Pawn) → IsOnBoard a.from → IsOnBoard b.from → IsOnBoard a.to →
    a.to ≡ b.to → (Advances p a ⊎ AdvancesTwo p a) → (Advances p b ⊎ AdvancesTwo p b) → a.from ≡ b.from
straight_from p a b own_a own_b on_a on_b on there (inl x) (inl y) =
    one_back p.side a.from b.from a.to on_a on_b x.there (there ∙ y.there)
straight_from p a b own_a own_b on_a on_b on there (inr x) (inr y) =
    two_back p.side a.from b.from a.to on_a on_b on x.there (there ∙ y.there)
straight_from p a b own_a own_b on_a on_b on there (inl x) (inr y) =
    absurd (crossed_full p a b a.to own_a on_a on_b on x.there (there ∙ y.there) y.crossed_empty)
straight_from p a b own_a own_b on_a on_b on there (inr x) (inl y) =
    absurd (crossed_full p b a a.to own_b on_b on_a on (there ∙ y.there) x.there x.crossed_empty)

-- what a pawn's text begins with tells whether it takes, and from which file
pawn_files : (x y : Bool) (from_a from_b to_a to_b : Square) (ra rb : List ℕ) → IsOnBoard to_a → IsOnBoard to_b →
    pawn_origin x from_a ++ (square_name to_a ++ ra) ≡ pawn_origin y from_b ++ (square_name to_b ++ rb) →
    ((x ≡ true) × (y ≡ true) × (from_a.file ≡ from_b.file)) ⊎ ((x ≡ false) × (y ≡ false))
pawn_files true true fa fb ta tb ra rb on_a on_b e =
    inl (refl, refl, omega (arith, ap (λ (t : List ℕ). get_or t 0 0) e))
pawn_files true false fa fb ta tb ra rb on_a on_b e =
    absurd (omega (arith, ap (λ (t : List ℕ). get_or t 1 0) e, on_b.rank_to))
pawn_files false true fa fb ta tb ra rb on_a on_b e =
    absurd (omega (arith, ap (λ (t : List ℕ). get_or t 1 0) e, on_a.rank_to))
pawn_files false false fa fb ta tb ra rb on_a on_b e = inr (refl, refl)

pawn_ways_from : (p : Position) (a b : Move) (text : List ℕ) → IsPawnShape p a text → IsPawnShape p b text →
    a.to ≡ b.to → IsPawnWay p a → IsPawnWay p b →
    ((is_capture p a ≡ true) × (is_capture p b ≡ true) × (a.from.file ≡ b.from.file)) ⊎
    ((is_capture p a ≡ false) × (is_capture p b ≡ false)) → a.from ≡ b.from
pawn_ways_from p a b text x y there (inl way_a) (inl way_b) (inl told) =
    let on_a = IsOnBoard-from_man p.placement a.from (p.side, Pawn) x.own in
    let on_b = IsOnBoard-from_man p.placement b.from (p.side, Pawn) y.own in
    let rank_a = (attacks_from p.side a.from a.to on_a x.legal.candidate.on_board way_a.1).2 in
    let rank_b = (attacks_from p.side b.from b.to on_b y.legal.candidate.on_board way_b.1).2 in
    same_square a.from b.from told.2
    (rank_a ∙ ap (λ (s : Square). (along 1 (forward (other p.side)) s).rank) there ∙ sym rank_b)
pawn_ways_from p a b text x y there (inr way_a) (inr way_b) told =
    straight_from p a b x.own y.own (IsOnBoard-from_man p.placement a.from (p.side, Pawn) x.own)
    (IsOnBoard-from_man p.placement b.from (p.side, Pawn) y.own) x.legal.candidate.on_board there way_a.1 way_b.1
pawn_ways_from p a b text x y there (inl way_a) way_b (inr told) =
    absurd (both_ways (is_capture p a) told.0 way_a.0)
pawn_ways_from p a b text x y there way_a (inl way_b) (inr told) =
    absurd (both_ways (is_capture p b) told.1 way_b.0)
pawn_ways_from p a b text x y there (inr way_a) way_b (inl told) =
    absurd (both_ways (is_capture p a) way_a.0 told.0)
pawn_ways_from p a b text x y there way_a (inr way_b) (inl told) =
    absurd (both_ways (is_capture p b) way_b.0 told.1)

pawns_from : (p : Position) (a b : Move) (text : List ℕ) → IsPawnShape p a text → IsPawnShape p b text → a.to ≡ b.to →
    a.from ≡ b.from
pawns_from p a b text x y there =
    pawn_ways_from p a b text x y there
    (pawn_way p a x.own x.legal.candidate.on_board (candidate_kind p a Pawn x.own x.legal.candidate))
    (pawn_way p b y.own y.legal.candidate.on_board (candidate_kind p b Pawn y.own y.legal.candidate))
    (pawn_files (is_capture p a) (is_capture p b) a.from b.from a.to b.to _ _ x.legal.candidate.on_board
    y.legal.candidate.on_board (sym x.joined ∙ y.joined))

-- ---- texts of any shape

castling_first : (w : Wing) (rest : List ℕ) → get_or (castling_text w ++ rest) 0 0 ≡ 79
castling_first wing.King rest = refl
castling_first wing.Queen rest = refl

first_of : (text rest : List ℕ) (w : Wing) → text ≡ castling_text w ++ rest → get_or text 0 0 ≡ 79
first_of text rest w joined = ap (λ (t : List ℕ). get_or t 0 0) joined ∙ castling_first w rest

no_stroke : (p : Position) (a b : Move) (text : List ℕ) → IsCastlingShape p a text → IsPieceShape p b text → ⊥
no_stroke p a b text x y =
    capital_no_stroke y.kind
    (ap (λ (t : List ℕ). get_or t 0 0) (sym y.joined) ∙ first_of text (threat_text x.threat) x.wing x.joined)

shapes_from : (p : Position) (a b : Move) (text : List ℕ) (x : IsShape p a text) (y : IsShape p b text) →
    kind_of p a text x ≡ kind_of p b text y → a.to ≡ b.to → a.from ≡ b.from
shapes_from p a b text (inl x) (inl y) same there =
    (castles_to-true p a x.wing x.castles).0 ∙ sym (castles_to-true p b y.wing y.castles).0
shapes_from p a b text (inl x) (inr (inl y)) same there = absurd (no_stroke p a b text x y)
shapes_from p a b text (inl x) (inr (inr y)) same there = absurd (cc)
shapes_from p a b text (inr (inl x)) (inl y) same there = absurd (no_stroke p b a text y x)
shapes_from p a b text (inr (inl x)) (inr (inl y)) same there = pieces_from p a b text x y same there
shapes_from p a b text (inr (inl x)) (inr (inr y)) same there = absurd (x.piece same)
shapes_from p a b text (inr (inr x)) (inl y) same there = absurd (cc)
shapes_from p a b text (inr (inr x)) (inr (inl y)) same there = absurd (y.piece (sym same))
shapes_from p a b text (inr (inr x)) (inr (inr y)) same there = pawns_from p a b text x y there

pub spelled_one : (p : Position) (a b : Move) (text : List ℕ) → IsSanOrBody p a text → IsSanOrBody p b text → a ≡ b
spelled_one p a b text of_a of_b =
    let x : IsShape p a text = IsShape-spelled p a text (IsSpelled-from p a text of_a) in
    let y : IsShape p b text = IsShape-spelled p b text (IsSpelled-from p b text of_b) in
    let asked : asked_for (kind_of p a text x) a ≡ asked_for (kind_of p b text y) b =
    same_Some (asked_for (kind_of p a text x) a) (asked_for (kind_of p b text y) b)
    (sym (asked-shape p a text x) ∙ asked-shape p b text y) in
    let there : a.to ≡ b.to = ap (λ (k : Asked). k.to) asked in
    same_move a b (shapes_from p a b text x y (ap (λ (k : Asked). k.kind) asked) there) there
    (ap (λ (k : Asked). k.promotion) asked)

-- ---- coordinate texts

small_named : ℕ → Option Kind
small_named letter =
    if letter == 113 then Some Queen
    else if letter == 114 then Some Rook
    else if letter == 98 then Some Bishop
    else if letter == 110 then Some Knight
    else None

letter_told : (letter : List ℕ) (promotion : Option Kind) → IsPromotionText letter promotion →
    small_named (get_or letter 0 0) ≡ promotion
unfolding small_named
letter_told letter None is = rw is refl
letter_told letter (Some Queen) is = rw is refl
letter_told letter (Some Rook) is = rw is refl
letter_told letter (Some Bishop) is = rw is refl
letter_told letter (Some Knight) is = rw is refl
letter_told letter (Some King) is = absurd is
letter_told letter (Some Pawn) is = absurd is

pub coordinate_one : (a b : Move) (text : List ℕ) → IsCoordinateOf text a → IsCoordinateOf text b → a ≡ b
coordinate_one a b text x y =
    let e = sym x.joined ∙ y.joined in
    let letters : x.letter ≡ y.letter = ap (λ (t : List ℕ). drop 4 t) e in
    same_move a b
    (same_square a.from b.from (omega (arith, ap (λ (t : List ℕ). get_or t 0 0) e))
    (omega (arith, ap (λ (t : List ℕ). get_or t 1 0) e)))
    (same_square a.to b.to (omega (arith, ap (λ (t : List ℕ). get_or t 2 0) e))
    (omega (arith, ap (λ (t : List ℕ). get_or t 3 0) e)))
    (sym (letter_told x.letter a.promotion x.promotion)
    ∙ ap (λ (l : List ℕ). small_named (get_or l 0 0)) letters ∙ letter_told y.letter b.promotion y.promotion)

capital_below : (kind : Kind) → capital_of kind ≤ 90
capital_below Pawn = omega arith
capital_below Knight = omega arith
capital_below Bishop = omega arith
capital_below Rook = omega arith
capital_below Queen = omega arith
capital_below King = omega arith

no_third : (promotion : Option Kind) (t : Threat) (n : ℕ) → 1 ≤ n →
    get_or (promotion_text promotion ++ threat_text t) 0 0 ≡ 96 + n → ⊥
no_third None threat.Nothing n from e = omega arith
no_third None threat.Check n from e = omega arith
no_third None threat.Mate n from e = omega arith
no_third (Some kind) t n from e = omega arith

no_pawn_coordinate : (takes : Bool) (from to : Square) (promotion : Option Kind) (t : Threat) (m : Move)
    (letter : List ℕ) → IsOnBoard m.from → IsOnBoard m.to →
    pawn_origin takes from ++ (square_name to ++ (promotion_text promotion ++ threat_text t)) ≡
    square_name m.from ++ (square_name m.to ++ letter) → ⊥
no_pawn_coordinate true from to promotion t m letter on_from on_to e =
    omega (arith, ap (λ (x : List ℕ). get_or x 1 0) e, on_from.rank_to)
no_pawn_coordinate false from to promotion t m letter on_from on_to e =
    no_third promotion t m.to.file on_to.file_from (ap (λ (x : List ℕ). get_or x 2 0) e)

no_coordinate : (p : Position) (a b : Move) (text : List ℕ) → IsShape p a text → IsCoordinateOf text b → ⊥
no_coordinate p a b text (inl x) y =
    omega (
      arith,
      sym (first_of text (threat_text x.threat) x.wing x.joined) ∙ ap (λ (t : List ℕ). get_or t 0 0) y.joined,
      y.from_on_board.file_from,
    )
no_coordinate p a b text (inr (inl x)) y =
    omega (
      arith,
      ap (λ (t : List ℕ). get_or t 0 0) (sym x.joined ∙ y.joined),
      capital_below x.kind,
      y.from_on_board.file_from,
    )
no_coordinate p a b text (inr (inr x)) y =
    no_pawn_coordinate (is_capture p a) a.from a.to a.promotion x.threat b y.letter y.from_on_board y.to_on_board
    (sym x.joined ∙ y.joined)

no_both : (p : Position) (a b : Move) (text : List ℕ) → IsSanOrBody p a text → IsCoordinateOf text b → ⊥
no_both p a b text x y = no_coordinate p a b text (IsShape-spelled p a text (IsSpelled-from p a text x)) y

names_told : (p : Position) (a b : Move) (text : List ℕ) → IsSanOrBody p a text ⊎ IsCoordinateOf text a →
    IsSanOrBody p b text ⊎ IsCoordinateOf text b → a ≡ b
names_told p a b text (inl x) (inl y) = spelled_one p a b text x y
names_told p a b text (inl x) (inr y) = absurd (no_both p a b text x y)
names_told p a b text (inr x) (inl y) = absurd (no_both p b a text y x)
names_told p a b text (inr x) (inr y) = coordinate_one a b text x y

-- a text names one legal move at most
pub Names-one : (p : Position) (a b : Move) (text : List ℕ) → Names p text a → Names p text b → a ≡ b
Names-one p a b text x y = names_told p a b text x.told y.told
