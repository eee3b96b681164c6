use Rattle.std.specs.Prelude.{ℕ, ◌≡◌, ◌<◌, Bool, true, List, [], ◌∷◌, length, filter, flat_map, Contains, slice_index_or, Option, Some, None}
use Rattle.std.specs.Bool.{Decides}
use Rattle.std.proofs.Common.{arith, sym, subst, inl, inr, refl, zero, suc}
use Rattle.std.proofs.lemmas.Bool.{cases_Bool}
use Rattle.std.proofs.lemmas.List.Elements.{Contains-append_left, Contains-append_right, All-contains, filter_passes}
use Rattle.std.proofs.lemmas.List.FromFn.{length-map-range_with_len, get_or-map-range_with_len}
use Rattle.chess_bits.specs.declared.men.Kind.{Kind}
use Rattle.chess_bits.specs.declared.men.Kind.TheVariants.{Pawn, Knight, Bishop, Rook, Queen, King}
use Rattle.chess_bits.specs.Square.{Square, IsOnBoard, number_of, square_at, squares}
use Rattle.chess_bits.proofs.TableLemmas.{number_of-below, square_at-number_of}
use Rattle.chess_bits.proofs.Deciding.{like_decides}
use Rattle.chess_board.specs.declared.moves.Move.{Move}
use Rattle.chess_board.specs.Position.{Position}
use Rattle.chess_board.specs.Legal.{IsPromotionKind, IsPromotion, IsMoveOf, IsCandidate, IsLegal}
use Rattle.chess_board.specs.Computing.{holds_colour, is_legal, moves_between, moves_from, legal_moves_of}
use Rattle.chess_board.proofs.Deciding.{Decides-holds_colour, Decides-is_legal}
use Rattle.chess_board.proofs.Candidates.{IsOnBoard-from_man}

-- `legal_moves_of` lists the legal moves, and nothing else.

Contains-later : {A : Type 0} (y x : A) (xs : List A) → Contains xs x → Contains (y ∷ xs) x
Contains-later y x xs here = (suc here.0, omega (arith, here.1), here.2)

filter-at : {A : Type 0} (test : A → Bool) (xs : List A) (k : ℕ) (x : A) →
    k < length xs → slice_index_or xs k x ≡ x → test x ≡ true → Contains (filter test xs) x
filter-at test [] k x below e passes = absurd (omega arith)
filter-at test (y ∷ xs) zero x below e passes = rw e (rw passes (0, omega arith, refl))
filter-at test (y ∷ xs) (suc k) x below e passes =
    let rest : Contains (filter test xs) x = filter-at test xs k x (omega arith) e passes in
    elim (cases_Bool (test y)) [ inl t ↦ rw t (Contains-later y x (filter test xs) rest) | inr f ↦ rw f rest ]

Contains-filter : {A : Type 0} (test : A → Bool) (xs : List A) (x : A) →
    Contains xs x → test x ≡ true → Contains (filter test xs) x
Contains-filter test xs x here passes = filter-at test xs here.0 x here.1 here.2 passes

flat_map-at : {A B : Type 0} (f : A → List B) (xs : List A) (k : ℕ) (x : A) (y : B) →
    k < length xs → slice_index_or xs k x ≡ x → Contains (f x) y → Contains (flat_map f xs) y
flat_map-at f [] k x y below e here = absurd (omega arith)
flat_map-at f (z ∷ xs) zero x y below e here = rw e (Contains-append_left (f x) (flat_map f xs) y here)
flat_map-at f (z ∷ xs) (suc k) x y below e here =
    Contains-append_right (f z) (flat_map f xs) y (flat_map-at f xs k x y (omega arith) e here)

Contains-flat_map : {A B : Type 0} (f : A → List B) (xs : List A) (x : A) (y : B) → Contains xs x → Contains (f x) y →
    Contains (flat_map f xs) y
Contains-flat_map f xs x y at here = flat_map-at f xs at.0 x y at.1 at.2 here

Contains-squares : (s : Square) → IsOnBoard s → Contains squares s
unfolding squares
Contains-squares s on =
    let below : number_of s < 64 = number_of-below s on in
    let found = get_or-map-range_with_len square_at 0 64 (number_of s) (number_of s) s below (omega arith) in
    (number_of s, rw (length-map-range_with_len square_at 0 64) below, rw found (square_at-number_of s on))

-- what a move's promotion can be
abbrev pub CanBecome : Option Kind → Type 0
CanBecome None = Unit {0}
CanBecome (Some kind) = IsPromotionKind kind

pawn_becomes : (p : Position) (to : Square) (promotion : Option Kind) →
    IsPromotion p.side to promotion → CanBecome promotion
pawn_becomes p to None h = tt
pawn_becomes p to (Some _) h = h.1

none_becomes : (promotion : Option Kind) → promotion ≡ None → CanBecome promotion
none_becomes promotion e = subst CanBecome (sym e) tt

pub becomes : (p : Position) (m : Move) (kind : Kind) → IsMoveOf p m kind → CanBecome m.promotion
becomes p m Pawn h = pawn_becomes p m.to m.promotion h.promotion
becomes p m Knight h = none_becomes m.promotion h.no_promotion
becomes p m Bishop h = none_becomes m.promotion h.no_promotion
becomes p m Rook h = none_becomes m.promotion h.no_promotion
becomes p m Queen h = none_becomes m.promotion h.no_promotion
becomes p m King (inl h) = none_becomes m.promotion h.no_promotion
becomes p m King (inr (inl h)) = none_becomes m.promotion h.no_promotion
becomes p m King (inr (inr h)) = none_becomes m.promotion h.no_promotion

abbrev IsAmong : Square → Square → Option Kind → Type 0
IsAmong from to promotion =
    Contains (moves_between from to) (let m : Move = record { from = from; to = to; promotion = promotion } in m)

among_kinds : (from to : Square) (kind : Kind) → IsPromotionKind kind → IsAmong from to (Some kind)
among_kinds from to _ (inl e) = subst (λ (k : Kind). IsAmong from to (Some k)) (sym e) (1, omega arith, refl)
among_kinds from to _ (inr (inl e)) = subst (λ (k : Kind). IsAmong from to (Some k)) (sym e) (2, omega arith, refl)
among_kinds from to _ (inr (inr (inl e))) =
    subst (λ (k : Kind). IsAmong from to (Some k)) (sym e) (3, omega arith, refl)
among_kinds from to _ (inr (inr (inr e))) =
    subst (λ (k : Kind). IsAmong from to (Some k)) (sym e) (4, omega arith, refl)

among : (from to : Square) (promotion : Option Kind) → CanBecome promotion → IsAmong from to promotion
among from to None h = (0, omega arith, refl)
among from to (Some k) h = among_kinds from to k h

among_between : (p : Position) (m : Move) → IsCandidate p m → Contains (moves_between m.from m.to) m
among_between p m c = among m.from m.to m.promotion (becomes p m c.kind c.rule)

pub legal_moves_of-legal : (p : Position) (m : Move) → Contains (legal_moves_of p) m → IsLegal p m
legal_moves_of-legal p m here =
    let passes = filter_passes (is_legal p) (flat_map moves_from (filter (λ s. holds_colour p s p.side) squares)) in
    (Decides-is_legal p m).0 (All-contains (λ x. is_legal p x ≡ true) (legal_moves_of p) m passes here)

pub legal_moves_of-each : (p : Position) (m : Move) → IsLegal p m → Contains (legal_moves_of p) m
legal_moves_of-each p m legal =
    let c : IsCandidate p m = legal.candidate in
    let on_from = IsOnBoard-from_man p.placement m.from (p.side, c.kind) c.own in
    let own = (Decides-holds_colour p m.from p.side).1 (c.kind, c.own) in
    let from = Contains-filter (λ s. holds_colour p s p.side) squares m.from (Contains-squares m.from on_from) own in
    let on_to = Contains-squares m.to c.on_board in
    let to = Contains-flat_map (moves_between m.from) squares m.to m on_to (among_between p m c) in
    Contains-filter (is_legal p) (flat_map moves_from (filter (λ s. holds_colour p s p.side) squares)) m
    (Contains-flat_map moves_from (filter (λ s. holds_colour p s p.side) squares) m.from m from to)
    ((Decides-is_legal p m).1 legal)

pub Decides-legal_moves_of : (p : Position) (m : Move) → Decides (is_legal p m) (Contains (legal_moves_of p) m)
Decides-legal_moves_of p m =
    like_decides (legal_moves_of-each p m) (legal_moves_of-legal p m) (Decides-is_legal p m)
