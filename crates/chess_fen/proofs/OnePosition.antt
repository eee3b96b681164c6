-- A text is the FEN of one position only.
use Rattle.std.proofs.Common.{◌≡◌, ℕ, zero, suc, ◌+◌, ◌-◌, ◌%◌, ◌^◌, ◌≤◌, ◌<◌, Bool, true, false, List, [], ◌∷◌, length, map, get_or, Option, Some, None, decimal, refl, ap, ◌∙◌, sym, subst, arith}
use Rattle.std.specs.List.{join_with_byte}
use Rattle.std.proofs.lemmas.List.FromFn.{get_or-map-range_with_len}
use Rattle.std.proofs.lemmas.Fmt.{decimal_by_steps, decimal_injective}
use Rattle.chess_bits.specs.declared.men.Colour.{Colour}
use Rattle.chess_bits.specs.declared.men.Colour.TheVariants.{White, Black}
use Rattle.chess_bits.specs.Man.{Man}
use Rattle.chess_bits.specs.Square.{Square}
use Rattle.chess_bits.proofs.TableLemmas.{same_table}
use Rattle.chess_board.specs.Position.{Position, Rights, man_at}
use Rattle.chess_board.proofs.SamePosition.{same_position}
use Rattle.chess_notation.specs.Fen.{rank_of, ranks_of, AreRowTexts, IsPlacementText, IsFenOf, fields, side_letter, letter_if, or_dash, rights_text, target_text}
use Rattle.chess_fen.proofs.Joined.{AllAbove, AllAbove-append, EachAbove, join_unique}
use Rattle.chess_fen.proofs.ReadBack.{row_in, IsRowText-row_in, IsRowText-above, rights_text-injective, side_letter-injective, target_text-injective}

-- What the texts of rows say.
AreRowTexts-row_in : (texts : List (List ℕ)) (rows : List (List (Option Man))) → AreRowTexts texts rows →
    rows ≡ map row_in texts
AreRowTexts-row_in [] [] h = refl
AreRowTexts-row_in [] (row ∷ rows) h = elim h [ ]
AreRowTexts-row_in (text ∷ texts) [] h = elim h [ ]
AreRowTexts-row_in (text ∷ texts) (row ∷ rows) h =
    ap (λ r. r ∷ rows) (IsRowText-row_in h.0) ∙ ap (λ rs. row_in text ∷ rs) (AreRowTexts-row_in texts rows h.1)

AreRowTexts-above : (texts : List (List ℕ)) (rows : List (List (Option Man))) → AreRowTexts texts rows →
    EachAbove 47 texts
AreRowTexts-above [] rows h = tt
AreRowTexts-above (text ∷ texts) [] h = elim h [ ]
AreRowTexts-above (text ∷ texts) (row ∷ rows) h = (IsRowText-above h.0, AreRowTexts-above texts rows h.1)

AreRowTexts-length : (texts : List (List ℕ)) (rows : List (List (Option Man))) → AreRowTexts texts rows →
    length texts ≡ length rows
AreRowTexts-length [] [] h = refl
AreRowTexts-length [] (row ∷ rows) h = elim h [ ]
AreRowTexts-length (text ∷ texts) [] h = elim h [ ]
AreRowTexts-length (text ∷ texts) (row ∷ rows) h = ap suc (AreRowTexts-length texts rows h.1)

length-ranks_of : (placement : List (Option Man)) → length (ranks_of placement) ≡ 8
unfolding ranks_of
length-ranks_of placement = refl

-- a placement's text says what its ranks are
IsPlacementText-ranks_of : (text : List ℕ) (p q : List (Option Man)) → IsPlacementText text p → IsPlacementText text q →
    ranks_of p ≡ ranks_of q
IsPlacementText-ranks_of text p q h k =
    let both : length h.texts ≡ length k.texts =
    AreRowTexts-length h.texts (ranks_of p) h.ranks ∙ (length-ranks_of p
    ∙ (sym (length-ranks_of q) ∙ sym (AreRowTexts-length k.texts (ranks_of q) k.ranks))) in
    let same = join_unique 47 h.texts k.texts (AreRowTexts-above h.texts (ranks_of p) h.ranks)
    (AreRowTexts-above k.texts (ranks_of q) k.ranks) both (sym h.joined ∙ k.joined) in
    AreRowTexts-row_in h.texts (ranks_of p) h.ranks
    ∙ (ap (map row_in) same ∙ sym (AreRowTexts-row_in k.texts (ranks_of q) k.ranks))

-- the ranks say what stands on each square
rank_at : {X : Type 0} (f : ℕ → X) (d : X) (r : ℕ) → 1 ≤ r → r ≤ 8 →
    get_or (map f (8 ∷ 7 ∷ 6 ∷ 5 ∷ 4 ∷ 3 ∷ 2 ∷ 1 ∷ [])) (8 - r) d ≡ f r
rank_at f d zero low high = absurd (omega arith)
rank_at f d (suc zero) low high = refl
rank_at f d (suc (suc zero)) low high = refl
rank_at f d (suc (suc (suc zero))) low high = refl
rank_at f d (suc (suc (suc (suc zero)))) low high = refl
rank_at f d (suc (suc (suc (suc (suc zero))))) low high = refl
rank_at f d (suc (suc (suc (suc (suc (suc zero)))))) low high = refl
rank_at f d (suc (suc (suc (suc (suc (suc (suc zero))))))) low high = refl
rank_at f d (suc (suc (suc (suc (suc (suc (suc (suc zero)))))))) low high = refl
rank_at f d (suc (suc (suc (suc (suc (suc (suc (suc (suc r))))))))) low high = absurd (omega arith)

same_man : (p q : List (Option Man)) → ranks_of p ≡ ranks_of q → (file rank : ℕ) →
    1 ≤ file → file ≤ 8 → 1 ≤ rank → rank ≤ 8 →
    man_at p (record { file = file; rank = rank }) ≡ man_at q (record { file = file; rank = rank })
unfolding ranks_of rank_of
same_man p q e file rank from to low high =
    let rows : rank_of p rank ≡ rank_of q rank =
    sym (rank_at (rank_of p) [] rank low high)
    ∙ (ap (λ rows. get_or rows (8 - rank) []) e ∙ rank_at (rank_of q) [] rank low high) in
    let on : List (Option Man) → ℕ → Option Man = λ men file. man_at men (record { file = file; rank = rank }) in
    sym (get_or-map-range_with_len (on p) 1 8 (file - 1) file None (omega arith) (omega arith))
    ∙ (ap (λ row. get_or row (file - 1) None) rows
    ∙ get_or-map-range_with_len (on q) 1 8 (file - 1) file None (omega arith) (omega arith))

same_placement : (p q : List (Option Man)) → length p ≡ 64 → length q ≡ 64 → ranks_of p ≡ ranks_of q → p ≡ q
same_placement p q whole_p whole_q e =
    same_table None p q whole_p whole_q
    (λ s on. same_man p q e s.file s.rank on.file_from on.file_to on.rank_from on.rank_to)

-- No field has a space.
AllAbove-less : (text : List ℕ) → AllAbove 47 text → AllAbove 32 text
AllAbove-less [] h = tt
AllAbove-less (c ∷ text) h = (omega (arith, h.0), AllAbove-less text h.1)

join-above : (texts : List (List ℕ)) → EachAbove 47 texts → AllAbove 32 (join_with_byte 47 texts)
join-above [] h = tt
join-above (text ∷ []) h = AllAbove-less text h.0
join-above (text ∷ text' ∷ texts) h =
    AllAbove-append 32 text (47 ∷ join_with_byte 47 (text' ∷ texts)) (AllAbove-less text h.0)
    (omega arith, join-above (text' ∷ texts) h.1)

pub IsPlacementText-above : (text : List ℕ) (p : List (Option Man)) → IsPlacementText text p → AllAbove 32 text
IsPlacementText-above text p h =
    subst (AllAbove 32) (sym h.joined) (join-above h.texts (AreRowTexts-above h.texts (ranks_of p) h.ranks))

pub side_letter-above : (side : Colour) → AllAbove 32 (side_letter side ∷ [])
side_letter-above White = (omega arith, tt)
side_letter-above Black = (omega arith, tt)

letter_if-above : (right : Bool) (letter : ℕ) → 32 < letter → AllAbove 32 (letter_if right letter)
letter_if-above true letter h = (h, tt)
letter_if-above false letter h = tt

or_dash-above : (text : List ℕ) → AllAbove 32 text → AllAbove 32 (or_dash text)
or_dash-above [] h = (omega arith, tt)
or_dash-above (c ∷ text) h = h

pub rights_text-above : (rights : Rights) → AllAbove 32 (rights_text rights)
rights_text-above rights =
    or_dash-above _ (AllAbove-append 32 _ _ (letter_if-above rights.white_king 75 (omega arith))
    (AllAbove-append 32 _ _ (letter_if-above rights.white_queen 81 (omega arith))
    (AllAbove-append 32 _ _ (letter_if-above rights.black_king 107 (omega arith))
    (letter_if-above rights.black_queen 113 (omega arith)))))

pub target_text-above : (target : Option Square) → AllAbove 32 (target_text target)
target_text-above None = (omega arith, tt)
target_text-above (Some square) = (omega arith, (omega arith, tt))

pub decimal-above : (n : ℕ) → n < 2 ^ 64 → AllAbove 32 (decimal n)
decimal-above n h =
    decimal_by_steps (λ _ text. AllAbove 32 text) (λ n low. (omega arith, tt))
    (λ n text high above. AllAbove-append 32 text ((48 + n % 10) ∷ []) above (omega arith, tt)) n h

fields-above : (text : List ℕ) (p : Position) → AllAbove 32 text → p.halfmove < 2 ^ 64 → p.fullmove < 2 ^ 64 →
    EachAbove 32 (fields text p)
fields-above text p h half full = (
  h,
  (
    side_letter-above p.side,
    (
      rights_text-above p.rights,
      (
        target_text-above p.target,
        (decimal-above p.halfmove half, (decimal-above p.fullmove full, tt)),
      ),
    ),
  ),
)

-- the ranges of what a board holds
pub record IsInRange (p : Position) : Type 0 where
  pub whole : length p.placement ≡ 64
  pub halfmove : p.halfmove < 2 ^ 64
  pub fullmove : p.fullmove < 2 ^ 64

-- two positions of which a text is the FEN are the same
pub IsFenOf-one_position : (text : List ℕ) (p q : Position) → IsFenOf text p → IsFenOf text q →
    IsInRange p → IsInRange q → p ≡ q
IsFenOf-one_position text p q h k in_p in_q =
    let same : fields h.placement p ≡ fields k.placement q =
    join_unique 32 (fields h.placement p) (fields k.placement q)
    (fields-above h.placement p (IsPlacementText-above h.placement p.placement h.is_placement)
    in_p.halfmove in_p.fullmove)
    (fields-above k.placement q (IsPlacementText-above k.placement q.placement k.is_placement)
    in_q.halfmove in_q.fullmove)
    refl (sym h.joined ∙ k.joined) in
    let text_same : h.placement ≡ k.placement = cc in
    let side_same : side_letter p.side ≡ side_letter q.side = cc in
    let rights_same : rights_text p.rights ≡ rights_text q.rights = cc in
    let target_same : target_text p.target ≡ target_text q.target = cc in
    let half_same : decimal p.halfmove ≡ decimal q.halfmove = cc in
    let full_same : decimal p.fullmove ≡ decimal q.fullmove = cc in
    let is_placement : IsPlacementText h.placement q.placement =
    subst (λ t. IsPlacementText t q.placement) (sym text_same) k.is_placement in
    let placement : p.placement ≡ q.placement = same_placement p.placement q.placement in_p.whole in_q.whole
    (IsPlacementText-ranks_of h.placement p.placement q.placement h.is_placement is_placement) in
    let side = side_letter-injective p.side q.side side_same in
    let rights = rights_text-injective p.rights q.rights rights_same in
    let target = target_text-injective p.target q.target target_same in
    let half = decimal_injective p.halfmove q.halfmove in_p.halfmove in_q.halfmove half_same in
    let full = decimal_injective p.fullmove q.fullmove in_p.fullmove in_q.fullmove full_same in
    same_position q p.placement p.side p.rights p.target p.halfmove p.fullmove placement side rights target half full
