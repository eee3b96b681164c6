-- Positions and their bytes.
use Rattle.std.proofs.Common.{◌≡◌, ℕ, ◌+◌, ◌*◌, ◌/◌, ◌%◌, ◌<◌, Bool, List, length, map, get_or, set, Option, Some, None, refl, sym, ap, ◌∙◌, subst, ⊎_elim, arith}
use Rattle.std.specs.Prelude.{IfSome}
use Rattle.std.specs.List.{range_with_len}
use Rattle.std.proofs.lemmas.Bool.{cases_eq}
use Rattle.std.proofs.lemmas.List.{get_or-set_same, get_or-set_other, length-set}
use Rattle.std.proofs.lemmas.List.FromFn.{get_or-map-range_with_len}
use Rattle.chess_bits.specs.declared.men.Colour.TheVariants.{White, Black}
use Rattle.chess_bits.specs.declared.men.Kind.TheVariants.{Pawn, Knight, Bishop, Rook, Queen, King}
use Rattle.chess_bits.specs.Man.{Man}
use Rattle.chess_bits.specs.Square.{Square, IsOnBoard, square_at}
use Rattle.chess_bits.proofs.TableLemmas.{at-square_at}
use Rattle.chess_board.specs.Position.{Position, IsValid, man_at}
use Rattle.chess_board.specs.Position.{Rights}
use Rattle.chess_bits.specs.declared.men.Colour.{Colour}
use Rattle.rec_codec.specs.Field.{AllStand}
use Rattle.rec_codec.specs.Flags.{is_black, colour_of}
use Rattle.rec_codec.specs.Position.{content_number, pair_byte, man_numbered, position_fields, position_bytes}
use Rattle.rec_codec.proofs.FieldLemmas.{laid-stand, length-laid}

pub man_numbered-content_number : (man : Option Man) → man_numbered (content_number man) ≡ man
man_numbered-content_number None = refl
man_numbered-content_number (Some (White, Pawn)) = refl
man_numbered-content_number (Some (White, Knight)) = refl
man_numbered-content_number (Some (White, Bishop)) = refl
man_numbered-content_number (Some (White, Rook)) = refl
man_numbered-content_number (Some (White, Queen)) = refl
man_numbered-content_number (Some (White, King)) = refl
man_numbered-content_number (Some (Black, Pawn)) = refl
man_numbered-content_number (Some (Black, Knight)) = refl
man_numbered-content_number (Some (Black, Bishop)) = refl
man_numbered-content_number (Some (Black, Rook)) = refl
man_numbered-content_number (Some (Black, Queen)) = refl
man_numbered-content_number (Some (Black, King)) = refl

content_number-below : (man : Option Man) → content_number man < 16
content_number-below None = omega arith
content_number-below (Some (White, Pawn)) = omega arith
content_number-below (Some (White, Knight)) = omega arith
content_number-below (Some (White, Bishop)) = omega arith
content_number-below (Some (White, Rook)) = omega arith
content_number-below (Some (White, Queen)) = omega arith
content_number-below (Some (White, King)) = omega arith
content_number-below (Some (Black, Pawn)) = omega arith
content_number-below (Some (Black, Knight)) = omega arith
content_number-below (Some (Black, Bishop)) = omega arith
content_number-below (Some (Black, Rook)) = omega arith
content_number-below (Some (Black, Queen)) = omega arith
content_number-below (Some (Black, King)) = omega arith

-- the two men of a byte
pair : (p : List (Option Man)) (bytes : List ℕ) (k : ℕ) → k < 32 → bytes ≡ map (pair_byte p) (range_with_len 0 32) →
    get_or bytes k 0 ≡ content_number (get_or p (2 * k) None) + 16 * content_number (get_or p (2 * k + 1) None)
pair p bytes k low e =
    ap (λ xs. get_or xs k 0) e
    ∙ (get_or-map-range_with_len (pair_byte p) 0 32 k k 0 low (omega arith)
    ∙ (ap (λ m. content_number m + 16 * content_number (man_at p (square_at (2 * k + 1))))
    (at-square_at None p (2 * k) (omega arith))
    ∙ ap (λ m. content_number (get_or p (2 * k) None) + 16 * content_number m)
    (at-square_at None p (2 * k + 1) (omega arith))))

pub low_man : (p : List (Option Man)) (bytes : List ℕ) (k : ℕ) → k < 32 →
    bytes ≡ map (pair_byte p) (range_with_len 0 32) →
    man_numbered (get_or bytes k 0 % 16) ≡ get_or p (2 * k) None
low_man p bytes k low e =
    let a = content_number-below (get_or p (2 * k) None) in
    let n : get_or bytes k 0 % 16 ≡ content_number (get_or p (2 * k) None) = omega (arith, pair p bytes k low e) in
    ap man_numbered n ∙ man_numbered-content_number (get_or p (2 * k) None)

pub high_man : (p : List (Option Man)) (bytes : List ℕ) (k : ℕ) → k < 32 →
    bytes ≡ map (pair_byte p) (range_with_len 0 32) →
    man_numbered (get_or bytes k 0 / 16) ≡ get_or p (2 * k + 1) None
high_man p bytes k low e =
    let a = content_number-below (get_or p (2 * k) None) in
    let n : get_or bytes k 0 / 16 ≡ content_number (get_or p (2 * k + 1) None) = omega (arith, pair p bytes k low e) in
    ap man_numbered n ∙ man_numbered-content_number (get_or p (2 * k + 1) None)

-- two more men in their places
pub next_pair : (p men : List (Option Man)) (k : ℕ) (a b : Option Man) → k < 32 → length men ≡ 64 →
    ((j : ℕ) → j < 2 * k → get_or men j None ≡ get_or p j None) → a ≡ get_or p (2 * k) None →
    b ≡ get_or p (2 * k + 1) None →
    (j : ℕ) → j < 2 * (k + 1) → get_or (set (set men (2 * k) a) (2 * k + 1) b) j None ≡ get_or p j None
next_pair p men k a b low whole before first second j h =
    ⊎_elim (λ e. subst (λ i. get_or (set (set men (2 * k) a) (2 * k + 1) b) i None ≡ get_or p i None) (sym e)
    (get_or-set_same (set men (2 * k) a) (2 * k + 1) b None (simp length-set (omega arith)) ∙ second))
    (λ other. get_or-set_other (set men (2 * k) a) (2 * k + 1) j b None other
    ∙ ⊎_elim (λ e. subst (λ i. get_or (set men (2 * k) a) i None ≡ get_or p i None) (sym e)
    (get_or-set_same men (2 * k) a None (omega arith) ∙ first))
    (λ third. get_or-set_other men (2 * k) j a None third ∙ before j (omega arith))
    (cases_eq j (2 * k)))
    (cases_eq j (2 * k + 1))

-- the fields of a position stand in its bytes
pub position-stands : (p : Position) (bytes : List ℕ) → bytes ≡ position_bytes (Some p) →
    AllStand bytes (position_fields p)
unfolding position_bytes
position-stands p bytes e =
    subst (λ xs. AllStand xs (position_fields p)) (sym e)
    (laid-stand 38 (position_fields p) (refl, (refl, (refl, (refl, (refl, tt))))) refl)

pub length-position_bytes : (p : Option Position) → length (position_bytes p) ≡ 38
unfolding position_bytes
length-position_bytes None = refl
length-position_bytes (Some p) = length-laid 38 (position_fields p) (refl, (refl, (refl, (refl, (refl, tt))))) refl

pub colour_of-is_black : (colour : Colour) → colour_of (is_black colour) ≡ colour
colour_of-is_black White = refl
colour_of-is_black Black = refl

-- rights by their parts
pub same_rights : (r : Rights) (a b c d : Bool) → a ≡ r.white_king → b ≡ r.white_queen → c ≡ r.black_king →
    d ≡ r.black_queen →
    (let made : Rights = record { white_king = a; white_queen = b; black_king = c; black_queen = d } in made) ≡ r
same_rights r a b c d e f g h =
    let make : Bool → Bool → Bool → Bool → Rights =
    λ a b c d. record { white_king = a; white_queen = b; black_king = c; black_queen = d } in
    ap (λ x. make x b c d) e ∙ (ap (λ x. make r.white_king x c d) f
    ∙ (ap (λ x. make r.white_king r.white_queen x d) g ∙ ap (λ x. make r.white_king r.white_queen r.black_king x) h))

-- the target of a valid position is a square of the board
pub target_on_board : (p : Position) → IsValid p → IfSome p.target IsOnBoard
target_on_board p v = of_target p.target (λ t e. (v.target t e).on_board)
  where
    of_target : (target : Option Square) → ((t : Square) → target ≡ Some t → IsOnBoard t) → IfSome target IsOnBoard
    of_target None h = tt
    of_target (Some t) h = h t refl
