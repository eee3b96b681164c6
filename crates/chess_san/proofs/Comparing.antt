-- What is found by comparing a text with a move's own.
use Rattle.std.proofs.Common.{ℕ, ◌≡◌, ◌≢◌, ◌+◌, ◌∙◌, Bool, true, false, ◌||◌, eqb, List, [], ◌∷◌, ◌++◌, length, take, drop, get_or, Option, Some, None, ap, sym, subst, refl, inl, inr, arith, length-append}
use Rattle.std.specs.Prelude.{◌⊎◌, ◌==◌, ◌↔◌, IfNone}
use Rattle.std.specs.Cmp.Lexicographic.{pointwise}
use Rattle.std.proofs.lemmas.Bool.{false≢true, or_left, or_right, eq-eqb}
use Rattle.std.proofs.lemmas.Bool.Decides.{Decides-eqb}
use Rattle.std.proofs.lemmas.List.{append-nil, nil_from_length}
use Rattle.std.proofs.lemmas.Slice.Eq.{starts_is, slice_eq-Decides}
use Rattle.std.proofs.lemmas.Option.{same_Some}
use Rattle.chess_bits.specs.declared.men.Kind.{Kind}
use Rattle.chess_bits.specs.declared.men.Kind.TheVariants.{Pawn, Knight, Bishop, Rook, Queen, King}
use Rattle.chess_bits.specs.Square.{Square}
use Rattle.chess_bits.proofs.ManLemmas.{same_kind}
use Rattle.chess_board.specs.declared.moves.Move.{Move}
use Rattle.chess_board.specs.Position.{Position, man_at}
use Rattle.chess_board.specs.Legal.{IsLegal}
use Rattle.chess_moves.proofs.Parts.{candidate_kind}
use Rattle.chess_notation.specs.declared.telling.Origin.{Origin}
use Rattle.chess_notation.specs.declared.telling.Origin.TheVariants as origin
use Rattle.chess_notation.specs.declared.telling.Threat.{Threat}
use Rattle.chess_san.specs.declared.parsing.Asked.{Asked}
use Rattle.chess_notation.specs.Name.{square_name, capital_of}
use Rattle.chess_notation.specs.San.{IsBody, IsSan, Threatens, threat_text, origin_text, capture_text, is_capture, pawn_origin}
use Rattle.chess_notation.specs.Coordinate.{IsCoordinateOf}
use Rattle.chess_notation.specs.Naming.{IsSanOrBody, Names}
use Rattle.chess_san.specs.Asked.{may_leave, is_second, asked_of}
use Rattle.chess_san.proofs.OneText.{IsBody-one, IsSan-one}
use Rattle.chess_san.proofs.Shapes.{IsSpelled-from, IsPawnShape, IsShape, IsShape-spelled}
use Rattle.chess_san.proofs.Arrivals.{asked_for, kind_of, own-shape, asked-shape}
use Rattle.chess_san.proofs.OneMove.{IsPawnWay, pawn_way, straight_file}

-- ---- comparing

pub legal_of : (p : Position) (m : Move) (text : List ℕ) → IsSanOrBody p m text → IsLegal p m
legal_of p m text (inl san) = san.is_body.legal
legal_of p m text (inr body) = body.legal

-- each text of a move begins with its body
begins : (p : Position) (m : Move) (own text : List ℕ) → IsBody p m own → IsSanOrBody p m text →
    (rest : List ℕ) × (text ≡ own ++ rest)
begins p m own text body (inl san) = (
  threat_text san.threat,
  san.joined ∙ ap (λ (b : List ℕ). b ++ threat_text san.threat)
      (IsBody-one p m san.body own san.is_body body),
)
begins p m own text body (inr is) = ([], IsBody-one p m text own is body ∙ sym (append-nil own))

pub not_started : (p : Position) (m : Move) (own bytes text : List ℕ) → IsBody p m own → bytes ≡ own →
    false ≡ pointwise eqb bytes (take (length bytes) text) → IsSanOrBody p m text → ⊥
not_started p m own bytes text body shown e told =
    let (rest, there) = begins p m own text body told in
    false≢true ((starts_is Decides-eqb text bytes false e).1 rest
    (there ∙ ap (λ (b : List ℕ). b ++ rest) (sym shown)))

pub started : (own bytes text : List ℕ) → bytes ≡ own → true ≡ pointwise eqb bytes (take (length bytes) text) →
    text ≡ own ++ drop (length own) text
started own bytes text shown e =
    (starts_is Decides-eqb text bytes true e).0 refl
    ∙ ap (λ (b : List ℕ). b ++ drop (length b) text) shown

pub whole_body : (p : Position) (m : Move) (own text : List ℕ) → IsBody p m own → text ≡ own ++ drop (length own) text →
    length own ≡ length text → IsSanOrBody p m text
whole_body p m own text body there len =
    let rest : List ℕ = drop (length own) text in
    let short : length rest ≡ 0 = omega (arith, ap length there, length-append own rest) in
    let same : own ≡ text = sym (there ∙ ap (λ (r : List ℕ). own ++ r) (nil_from_length rest short) ∙ append-nil own) in
    let Body' : List ℕ → Type 0 = IsBody p m in
    inr (subst Body' same body)

full_san : (p : Position) (m : Move) (own full : List ℕ) (t : Threat) → IsBody p m own → Threatens p m t →
    full ≡ own ++ threat_text t → IsSan p m full
full_san p m own full t body threatens joined =
    record { body = own; is_body = body; threat = t; threatens = threatens; joined = joined }

same_full : (p : Position) (m : Move) (own full text : List ℕ) → IsBody p m own → IsSan p m full →
    length own ≢ length text → IsSanOrBody p m text → full ≡ text
same_full p m own full text body san longer (inl is) = IsSan-one p m full text san is
same_full p m own full text body san longer (inr is) =
    absurd (longer (ap length (IsBody-one p m own text body is)))

pub compared : (p : Position) (m : Move) (own full bytes text : List ℕ) (t : Threat) (r : Bool) → IsBody p m own →
    Threatens p m t → full ≡ own ++ threat_text t → bytes ≡ full → length own ≢ length text →
    r ≡ pointwise eqb bytes text → (r ≡ true) ↔ IsSanOrBody p m text
compared p m own full bytes text t r body threatens joined shown longer e =
    let san = full_san p m own full t body threatens joined in
    let decides = slice_eq-Decides Decides-eqb bytes text r e in
    let San' : List ℕ → Type 0 = IsSan p m in (
      λ yes'. inl (subst San' (sym shown ∙ decides.0 yes') san),
      λ told. decides.1 (shown ∙ same_full p m own full text body san longer told),
    )

-- ---- what a text asks for

pub asked_told : (p : Position) (m : Move) (text : List ℕ) (kind : Kind) →
    man_at p.placement m.from ≡ Some (p.side, kind) → IsSanOrBody p m text →
    asked_of p.side text ≡ Some (asked_for kind m)
asked_told p m text kind own told =
    let is : IsShape p m text = IsShape-spelled p m text (IsSpelled-from p m text told) in
    asked-shape p m text is
    ∙ ap (λ (k : Kind). Some (asked_for k m))
    (same_kind (man_at p.placement m.from) (p.side, kind_of p m text is) (p.side, kind) (own-shape p m text is) own)

pub own_told : (p : Position) (m : Move) (text : List ℕ) → IsSanOrBody p m text →
    (kind : Kind) × (man_at p.placement m.from ≡ Some (p.side, kind))
own_told p m text told =
    let is : IsShape p m text = IsShape-spelled p m text (IsSpelled-from p m text told) in
    (kind_of p m text is, own-shape p m text is)

-- ---- what a text's beginning tells

second_is : (x : ℕ) (m : Move) →
    (x ≡ 120) ⊎ (x ≡ 96 + m.from.file) ⊎ (x ≡ 48 + m.from.rank) ⊎ (x ≡ 96 + m.to.file) → is_second x m ≡ true
second_is x m (inl e) =
    or_left _ (x == 96 + m.to.file) (or_left _ (x == 48 + m.from.rank) (or_left (x == 120) (x == 96 + m.from.file)
    (eq-eqb x 120 e)))
second_is x m (inr (inl e)) =
    or_left _ (x == 96 + m.to.file) (or_left _ (x == 48 + m.from.rank) (or_right (x == 120) (x == 96 + m.from.file)
    (eq-eqb x (96 + m.from.file) e)))
second_is x m (inr (inr (inl e))) =
    or_left _ (x == 96 + m.to.file) (or_right (x == 120 || x == 96 + m.from.file) (x == 48 + m.from.rank)
    (eq-eqb x (48 + m.from.rank) e))
second_is x m (inr (inr (inr e))) =
    or_right (x == 120 || x == 96 + m.from.file || x == 48 + m.from.rank) (x == 96 + m.to.file)
    (eq-eqb x (96 + m.to.file) e)

second_byte : (m : Move) (letter : ℕ) (o : Origin) (takes : Bool) (rest : List ℕ) →
    is_second (get_or (letter ∷ (origin_text o m.from ++ (capture_text takes ++ (square_name m.to ++ rest)))) 1 0) m ≡ true
second_byte m letter origin.Nothing true rest = second_is 120 m (inl refl)
second_byte m letter origin.Nothing false rest = second_is (96 + m.to.file) m (inr (inr (inr refl)))
second_byte m letter origin.File takes rest = second_is (96 + m.from.file) m (inr (inl refl))
second_byte m letter origin.Rank takes rest = second_is (48 + m.from.rank) m (inr (inr (inl refl)))
second_byte m letter origin.Square takes rest = second_is (96 + m.from.file) m (inr (inl refl))

piece_leaves : (text : List ℕ) (kind : Kind) (m : Move) → kind ≢ Pawn → is_second (get_or text 1 0) m ≡ true →
    may_leave text kind m ≡ true
unfolding may_leave
piece_leaves text Pawn m piece e = absurd (piece refl)
piece_leaves text Knight m piece e = e
piece_leaves text Bishop m piece e = e
piece_leaves text Rook m piece e = e
piece_leaves text Queen m piece e = e
piece_leaves text King m piece e = refl

pawn_first : (takes : Bool) (from to : Square) (rest : List ℕ) (takes' : Bool) → takes ≡ takes' →
    (takes' ≡ true) ⊎ (from.file ≡ to.file) →
    get_or (pawn_origin takes from ++ (square_name to ++ rest)) 0 0 ≡ 96 + from.file
pawn_first true from to rest told e way = refl
pawn_first false from to rest told e (inl yes') = absurd (false≢true (e ∙ yes'))
pawn_first false from to rest told e (inr same) = ap (λ (n : ℕ). 96 + n) (sym same)

pawn_files : (p : Position) (m : Move) → IsPawnWay p m → (is_capture p m ≡ true) ⊎ (m.from.file ≡ m.to.file)
pawn_files p m (inl way) = inl way.0
pawn_files p m (inr (none, inl one)) = inr (straight_file p.side 1 m.from m.to one.there)
pawn_files p m (inr (none, inr two)) = inr (straight_file p.side 2 m.from m.to two.there)

pawn_leaves : (p : Position) (m : Move) (text : List ℕ) → IsPawnShape p m text → may_leave text Pawn m ≡ true
unfolding may_leave
pawn_leaves p m text is =
    let way = pawn_way p m is.own is.legal.candidate.on_board (candidate_kind p m Pawn is.own is.legal.candidate) in
    eq-eqb (get_or text 0 0) (96 + m.from.file)
    (ap (λ (t : List ℕ). get_or t 0 0) is.joined
    ∙ pawn_first (is_capture p m) m.from m.to _ (is_capture p m) refl (pawn_files p m way))

shape_leaves : (p : Position) (m : Move) (text : List ℕ) (is : IsShape p m text) →
    may_leave text (kind_of p m text is) m ≡ true
unfolding may_leave
shape_leaves p m text (inl is) = refl
shape_leaves p m text (inr (inl is)) =
    piece_leaves text is.kind m is.piece
    (ap (λ (t : List ℕ). is_second (get_or t 1 0) m) is.joined
    ∙ second_byte m (capital_of is.kind) is.origin (is_capture p m) (threat_text is.threat))
shape_leaves p m text (inr (inr is)) = pawn_leaves p m text is

pub may_leave-told : (p : Position) (m : Move) (text : List ℕ) (kind : Kind) →
    man_at p.placement m.from ≡ Some (p.side, kind) → IsSanOrBody p m text → may_leave text kind m ≡ true
may_leave-told p m text kind own told =
    let is : IsShape p m text = IsShape-spelled p m text (IsSpelled-from p m text told) in
    let same : kind ≡ kind_of p m text is = same_kind (man_at p.placement m.from) (p.side, kind)
    (p.side, kind_of p m text is) own (own-shape p m text is) in
    ap (λ (k : Kind). may_leave text k m) same ∙ shape_leaves p m text is

-- ---- the end of a search

pub names_of : (p : Position) (m : Move) (text : List ℕ) → IsSanOrBody p m text → Names p text m
names_of p m text told = record { legal = legal_of p m text told; told = inl told }

-- where nothing is asked for, no move has the text
pub nothing_asked : (p : Position) (text : List ℕ) (asked : Option Asked) → asked ≡ asked_of p.side text →
    asked ≡ None → (m : Move) → IsSanOrBody p m text → ⊥
nothing_asked p text asked e none m told =
    let (kind, own) = own_told p m text told in
    let same : None ≡ Some (asked_for kind m) = sym none ∙ e ∙ asked_told p m text kind own told in
    absurd (cc)

-- where no move does what is asked for and has the text, none has it
pub none_asked : (p : Position) (text : List ℕ) (asked : Asked) → Some asked ≡ asked_of p.side text →
    ((m : Move) → man_at p.placement m.from ≡ Some (p.side, asked.kind) → m.to ≡ asked.to →
    m.promotion ≡ asked.promotion → IsSanOrBody p m text → ⊥) →
    (m : Move) → IsSanOrBody p m text → ⊥
none_asked p text asked e none m told =
    let (kind, own) = own_told p m text told in
    let same : asked ≡ asked_for kind m =
    same_Some asked (asked_for kind m) (e ∙ asked_told p m text kind own told) in
    none m (own ∙ ap (λ (a : Asked). Some (p.side, a.kind)) (sym same)) (ap (λ (a : Asked). a.to) (sym same))
    (ap (λ (a : Asked). a.promotion) (sym same)) told

-- a text that is neither a coordinate text nor a SAN names no move
pub names_none : (p : Position) (text : List ℕ) → ((m : Move) → IsLegal p m → IsCoordinateOf text m → ⊥) →
    ((m : Move) → IsSanOrBody p m text → ⊥) → (m : Move) → Names p text m → ⊥
names_none p text no_coordinates no_san m names = elim names.told [
  | inl told ↦ no_san m told
  | inr told ↦ no_coordinates m names.legal told
]

-- ---- answers that may be none

pub IfNone-any : {A : Type 0} (o : Option A) (P : Type 0) → P → IfNone o P
IfNone-any None P p = p
IfNone-any (Some x) P p = tt

pub IfNone-told : {A : Type 0} (o : Option A) (P : Type 0) → o ≡ None → IfNone o P → P
IfNone-told None P e p = p
IfNone-told (Some x) P e p = absurd (cc)

pub IfNone-map : {A : Type 0} (o : Option A) (P Q : Type 0) → (P → Q) → IfNone o P → IfNone o Q
IfNone-map None P Q f p = f p
IfNone-map (Some x) P Q f p = tt
