-- A legal move's text asks for what the move does.
use Rattle.std.proofs.Common.{ℕ, ◌≡◌, ◌≢◌, ◌+◌, ◌-◌, ◌<◌, ◌∙◌, Bool, true, false, List, ◌∷◌, ◌++◌, append_assoc, reverse, get_or, Option, Some, None, ap, sym, subst, refl, inl, inr, arith}
use Rattle.std.specs.Prelude.{◌⊎◌, unwrap_or}
use Rattle.std.proofs.lemmas.List.{reverse-append}
use Rattle.std.proofs.lemmas.Bool.{ne_eqb, le-leb}
use Rattle.chess_bits.specs.declared.men.Colour.{Colour}
use Rattle.chess_bits.specs.declared.men.Kind.{Kind}
use Rattle.chess_bits.specs.declared.men.Kind.TheVariants.{Pawn, Knight, Bishop, Rook, Queen, King}
use Rattle.chess_bits.specs.Square.{Square, IsOnBoard}
use Rattle.chess_bits.proofs.TableLemmas.{same_square}
use Rattle.chess_board.specs.declared.castling.Wing.{Wing}
use Rattle.chess_board.specs.declared.castling.Wing.TheVariants as wing
use Rattle.chess_board.specs.declared.moves.Move.{Move}
use Rattle.chess_board.specs.Position.{Position, man_at}
use Rattle.chess_board.specs.Next.{castled_king}
use Rattle.chess_board.specs.Legal.{IsPromotion}
use Rattle.chess_board.proofs.PlacementAfter.{castles_to-true}
use Rattle.chess_board.proofs.Candidates.{IsOnBoard-from_man}
use Rattle.chess_moves.proofs.Parts.{candidate_kind, becomes_of_move}
use Rattle.chess_san.specs.declared.parsing.Asked.{Asked}
use Rattle.chess_notation.specs.declared.telling.Threat.{Threat}
use Rattle.chess_notation.specs.declared.telling.Threat.TheVariants as threat
use Rattle.chess_notation.specs.Name.{square_name, square_named, capital_of, promotion_text}
use Rattle.chess_notation.specs.San.{threat_text, origin_text, capture_text, is_capture, pawn_origin, castling_text}
use Rattle.chess_san.specs.Asked.{piece_named, suffix_len, arrived, promoted_arrival, plain_arrival, arrival_of, asked_castling, asked_of}
use Rattle.chess_san.proofs.SourceLemmas.{no_promotion}
use Rattle.chess_san.proofs.Shapes.{IsCastlingShape, IsPieceShape, IsPawnShape, IsShape}

-- ---- letters

square_named-name : (s : Square) → IsOnBoard s → square_named (96 + s.file) (48 + s.rank) ≡ Some s
unfolding square_named
square_named-name s on =
    rw (
      le-leb 97 (96 + s.file) (omega (arith, on.file_from)),
      le-leb (96 + s.file) 104 (omega (arith, on.file_to)),
      le-leb 49 (48 + s.rank) (omega (arith, on.rank_from)),
      le-leb (48 + s.rank) 56 (omega (arith, on.rank_to)),
    )
    (ap Some (same_square (record { file = (96 + s.file) - 96; rank = (48 + s.rank) - 48 }) s (omega arith)
    (omega arith)))

pub piece_named-capital : (kind : Kind) → kind ≢ Pawn → piece_named (capital_of kind) ≡ Some kind
unfolding piece_named
piece_named-capital Pawn piece = absurd (piece refl)
piece_named-capital Knight piece = refl
piece_named-capital Bishop piece = refl
piece_named-capital Rook piece = refl
piece_named-capital Queen piece = refl
piece_named-capital King piece = refl

piece_named-small : (letter : ℕ) → 96 < letter → piece_named letter ≡ None
unfolding piece_named
piece_named-small letter small =
    rw (
      ne_eqb letter 78 (omega arith),
      ne_eqb letter 66 (omega arith),
      ne_eqb letter 82 (omega arith),
      ne_eqb letter 81 (omega arith),
      ne_eqb letter 75 (omega arith),
    )

-- ---- the suffix

no_suffix : (x : ℕ) (rest : List ℕ) → x ≢ 43 → x ≢ 35 → suffix_len (x ∷ rest) ≡ 0
unfolding suffix_len
no_suffix x rest plus hash = rw (ne_eqb x 43 plus, ne_eqb x 35 hash)

suffix : (x : ℕ) (rest : List ℕ) → (x ≡ 43) ⊎ (x ≡ 35) → suffix_len (x ∷ rest) ≡ 1
unfolding suffix_len
suffix x rest (inl e) = rw e refl
suffix x rest (inr e) = rw e refl

-- ---- the arrival, read from the end

plain_read : (text : List ℕ) (skip : ℕ) (to : Square) → IsOnBoard to → suffix_len text ≡ skip →
    get_or text (skip + 1) 0 ≡ 96 + to.file → get_or text skip 0 ≡ 48 + to.rank →
    arrival_of text ≡ Some (arrived None to)
unfolding arrival_of plain_arrival
plain_read text skip to on len file rank =
    rw (len, ne_eqb (get_or text (skip + 1) 0) 61 (omega (arith, on.file_from)), file, rank, square_named-name to on)

promoted_read : (text : List ℕ) (skip : ℕ) (to : Square) (kind : Kind) → IsOnBoard to → kind ≢ Pawn →
    suffix_len text ≡ skip → get_or text (skip + 1) 0 ≡ 61 → get_or text skip 0 ≡ capital_of kind →
    get_or text (skip + 3) 0 ≡ 96 + to.file → get_or text (skip + 2) 0 ≡ 48 + to.rank →
    arrival_of text ≡ Some (arrived (Some kind) to)
unfolding arrival_of promoted_arrival
promoted_read text skip to kind on piece len sign letter file rank =
    rw (len, sign, letter, piece_named-capital kind piece, file, rank, square_named-name to on)

letter_no_mark : (kind : Kind) → (capital_of kind ≢ 43) × (capital_of kind ≢ 35)
letter_no_mark Pawn = (λ e. omega arith, λ e. omega arith)
letter_no_mark Knight = (λ e. omega arith, λ e. omega arith)
letter_no_mark Bishop = (λ e. omega arith, λ e. omega arith)
letter_no_mark Rook = (λ e. omega arith, λ e. omega arith)
letter_no_mark Queen = (λ e. omega arith, λ e. omega arith)
letter_no_mark King = (λ e. omega arith, λ e. omega arith)

-- what a move to a square may have become
abbrev pub IsPieceOrNone : Option Kind → Type 0
IsPieceOrNone None = Unit {0}
IsPieceOrNone (Some kind) = kind ≢ Pawn

backward : (rest : List ℕ) (to : Square) (promotion : Option Kind) (t : Threat) → IsOnBoard to →
    IsPieceOrNone promotion →
    arrival_of (reverse (square_name to ++ (promotion_text promotion ++ threat_text t)) ++ rest) ≡ Some (arrived promotion to)
backward rest to None threat.Nothing on piece =
    plain_read _ 0 to on (no_suffix (48 + to.rank) _ (omega (arith, on.rank_from)) (omega (arith, on.rank_from))) refl refl
backward rest to None threat.Check on piece = plain_read _ 1 to on (suffix 43 _ (inl refl)) refl refl
backward rest to None threat.Mate on piece = plain_read _ 1 to on (suffix 35 _ (inr refl)) refl refl
backward rest to (Some kind) threat.Nothing on piece =
    promoted_read _ 0 to kind on piece (no_suffix (capital_of kind) _ (letter_no_mark kind).0 (letter_no_mark kind).1)
    refl refl refl refl
backward rest to (Some kind) threat.Check on piece =
    promoted_read _ 1 to kind on piece (suffix 43 _ (inl refl)) refl refl refl refl
backward rest to (Some kind) threat.Mate on piece =
    promoted_read _ 1 to kind on piece (suffix 35 _ (inr refl)) refl refl refl refl

pub arrival-read : (front text : List ℕ) (to : Square) (promotion : Option Kind) (t : Threat) → IsOnBoard to →
    IsPieceOrNone promotion → text ≡ front ++ (square_name to ++ (promotion_text promotion ++ threat_text t)) →
    arrival_of (reverse text) ≡ Some (arrived promotion to)
arrival-read front text to promotion t on piece joined =
    ap (λ (x : List ℕ). arrival_of (reverse x)) joined
    ∙ ap arrival_of (reverse-append front (square_name to ++ (promotion_text promotion ++ threat_text t)))
    ∙ backward (reverse front) to promotion t on piece

-- ---- what is asked for

-- what a move does
abbrev pub asked_for : Kind → Move → Asked
asked_for kind m = record { kind = kind; to = m.to; promotion = m.promotion }

asked_man : (side : Colour) (text : List ℕ) (kind : Kind) (m : Move) → get_or text 0 0 ≢ 79 →
    unwrap_or (piece_named (get_or text 0 0)) Pawn ≡ kind →
    arrival_of (reverse text) ≡ Some (arrived m.promotion m.to) → asked_of side text ≡ Some (asked_for kind m)
unfolding asked_of
asked_man side text kind m first named end = rw (ne_eqb (get_or text 0 0) 79 first, named, end)

pub capital_no_stroke : (kind : Kind) → capital_of kind ≢ 79
capital_no_stroke Pawn = λ e. omega arith
capital_no_stroke Knight = λ e. omega arith
capital_no_stroke Bishop = λ e. omega arith
capital_no_stroke Rook = λ e. omega arith
capital_no_stroke Queen = λ e. omega arith
capital_no_stroke King = λ e. omega arith

pub asked-piece : (p : Position) (m : Move) (text : List ℕ) (is : IsPieceShape p m text) →
    asked_of p.side text ≡ Some (asked_for is.kind m)
asked-piece p m text is =
    let first : get_or text 0 0 ≡ capital_of is.kind = ap (λ (t : List ℕ). get_or t 0 0) is.joined in
    let none : m.promotion ≡ None = no_promotion p m is.kind is.piece is.own is.legal in
    let May' : Option Kind → Type 0 = IsPieceOrNone in
    asked_man p.side text is.kind m (λ e. capital_no_stroke is.kind (sym first ∙ e))
    (ap (λ (x : ℕ). unwrap_or (piece_named x) Pawn) first
    ∙ ap (λ (o : Option Kind). unwrap_or o Pawn) (piece_named-capital is.kind is.piece))
    (arrival-read (capital_of is.kind ∷ (origin_text is.origin m.from ++ capture_text (is_capture p m))) text m.to
    m.promotion is.threat is.legal.candidate.on_board (subst May' (sym none) tt)
    (is.joined ∙ ap (λ (r : List ℕ). capital_of is.kind ∷ r)
    (sym (append_assoc (origin_text is.origin m.from) (capture_text (is_capture p m))
    (square_name m.to ++ threat_text is.threat)))
    ∙ ap (λ (o : Option Kind). capital_of is.kind ∷ ((origin_text is.origin m.from ++ capture_text (is_capture p m)) ++
    (square_name m.to ++ (promotion_text o ++ threat_text is.threat)))) (sym none)))

pawn_promotion : (side : Colour) (to : Square) (promotion : Option Kind) → IsPromotion side to promotion →
    IsPieceOrNone promotion
pawn_promotion side to None is = tt
pawn_promotion side to (Some Pawn) is = absurd (grind arith)
pawn_promotion side to (Some Knight) is = λ e. absurd (cc)
pawn_promotion side to (Some Bishop) is = λ e. absurd (cc)
pawn_promotion side to (Some Rook) is = λ e. absurd (cc)
pawn_promotion side to (Some Queen) is = λ e. absurd (cc)
pawn_promotion side to (Some King) is = λ e. absurd (cc)

pawn_first : (takes : Bool) (from to : Square) (rest : List ℕ) → IsOnBoard from → IsOnBoard to →
    96 < get_or (pawn_origin takes from ++ (square_name to ++ rest)) 0 0
pawn_first true from to rest on_from on_to = omega (arith, on_from.file_from)
pawn_first false from to rest on_from on_to = omega (arith, on_to.file_from)

pub asked-pawn : (p : Position) (m : Move) (text : List ℕ) → IsPawnShape p m text →
    asked_of p.side text ≡ Some (asked_for Pawn m)
asked-pawn p m text is =
    let After' : ℕ → Type 0 = λ x. 96 < x in
    let first : 96 < get_or text 0 0 = subst After' (ap (λ (t : List ℕ). get_or t 0 0) (sym is.joined))
    (pawn_first (is_capture p m) m.from m.to (promotion_text m.promotion ++ threat_text is.threat)
    (IsOnBoard-from_man p.placement m.from (p.side, Pawn) is.own) is.legal.candidate.on_board) in
    asked_man p.side text Pawn m (λ e. omega arith)
    (ap (λ (o : Option Kind). unwrap_or o Pawn) (piece_named-small (get_or text 0 0) first))
    (arrival-read (pawn_origin (is_capture p m) m.from) text m.to m.promotion is.threat is.legal.candidate.on_board
    (pawn_promotion p.side m.to m.promotion
    (becomes_of_move p m Pawn (candidate_kind p m Pawn is.own is.legal.candidate))) is.joined)

castling_asked : (side : Colour) (w : Wing) (t : Threat) →
    asked_of side (castling_text w ++ threat_text t) ≡
    Some (record { kind = King; to = castled_king side w; promotion = None })
unfolding asked_of asked_castling
castling_asked side wing.King threat.Nothing = refl
castling_asked side wing.King threat.Check = refl
castling_asked side wing.King threat.Mate = refl
castling_asked side wing.Queen t = refl

pub asked-castling : (p : Position) (m : Move) (text : List ℕ) → IsCastlingShape p m text →
    asked_of p.side text ≡ Some (asked_for King m)
asked-castling p m text is =
    let there = castles_to-true p m is.wing is.castles in
    let none : m.promotion ≡ None = no_promotion p m King (λ e. absurd (cc)) is.own is.legal in
    ap (asked_of p.side) is.joined ∙ castling_asked p.side is.wing is.threat
    ∙ ap (λ (s : Square). let a : Asked = record { kind = King; to = s; promotion = None } in Some a) (sym there.1)
    ∙ ap (λ (o : Option Kind). let a : Asked = record { kind = King; to = m.to; promotion = o } in Some a) (sym none)

-- the kind that makes a move of that shape
abbrev pub kind_of : (p : Position) (m : Move) (text : List ℕ) → IsShape p m text → Kind
kind_of p m text (inl is) = King
kind_of p m text (inr (inl is)) = is.kind
kind_of p m text (inr (inr is)) = Pawn

pub own-shape : (p : Position) (m : Move) (text : List ℕ) (is : IsShape p m text) →
    man_at p.placement m.from ≡ Some (p.side, kind_of p m text is)
own-shape p m text (inl is) = is.own
own-shape p m text (inr (inl is)) = is.own
own-shape p m text (inr (inr is)) = is.own

pub asked-shape : (p : Position) (m : Move) (text : List ℕ) (is : IsShape p m text) →
    asked_of p.side text ≡ Some (asked_for (kind_of p m text is) m)
asked-shape p m text (inl is) = asked-castling p m text is
asked-shape p m text (inr (inl is)) = asked-piece p m text is
asked-shape p m text (inr (inr is)) = asked-pawn p m text is
