-- The letters of the men by the numbers of their squares.
use Rattle.std.proofs.Common.{ℕ, ◌≡◌, ◌≢◌, ◌<◌, Bool, true, cond, List, get_or, set, Option, Some, None, refl, ap, ◌∙◌, arith, min}
use Rattle.std.specs.List.{list_any}
use Rattle.std.proofs.lemmas.List.{get_or-set_other}
use Rattle.chess_bits.specs.declared.men.Colour.TheVariants.{White, Black}
use Rattle.chess_bits.specs.declared.men.Kind.TheVariants.{Pawn, Knight, Bishop, Rook, Queen, King}
use Rattle.chess_bits.specs.Square.{Square, IsOnBoard, is_square, number_of}
use Rattle.chess_bits.specs.Man.{Man, is_man, holds}
use Rattle.chess_bits.specs.Table.{has, members}
use Rattle.chess_bits.proofs.TableLemmas.{Decides-is_square, number_of-injective}
use Rattle.chess_bits.proofs.Deciding.{Decides-some_of, each_decides}
use Rattle.chess_bits.proofs.AlongLemmas.{SomeOf-members}
use Rattle.chess_board.specs.Occupancy.{squares_with}
use Rattle.chess_board.specs.Position.{Placement, man_at}
use Rattle.chess_board.proofs.AttackLemmas.{has-squares_with}
use Rattle.chess_notation.specs.Letters.{letter_of}
use Rattle.chess_notation.specs.Fen.{letter_or_zero}

-- a square of a set is among its members
pub listed : (set' : List Bool) (s : Square) → IsOnBoard s → has set' s ≡ true →
    list_any (is_square s) (members set') ≡ true
listed set' s on here =
    (Decides-some_of (is_square s) (λ x. s ≡ x) (members set')
    (each_decides (is_square s) (λ x. s ≡ x) (Decides-is_square s) (members set'))).1
    (SomeOf-members (λ x. s ≡ x) set' s on here refl)

-- a square that is not the one marked keeps its letter
pub other_place : (letters : List ℕ) (q s : Square) (letter : ℕ) → IsOnBoard q → IsOnBoard s → s ≢ q →
    get_or (set letters (number_of q) letter) (number_of s) 0 ≡ get_or letters (number_of s) 0
other_place letters q s letter on_q on_s apart =
    get_or-set_other letters (number_of q) (number_of s) letter 0
    (λ e. apart (number_of-injective s q on_s on_q e))

-- one letter after the other, a man has the letter of its colour and kind
pub step : (placement : Placement) (s : Square) (man : Man) (squares : List Bool) (letter old new before : ℕ) →
    squares ≡ squares_with (is_man man) placement → new ≡ cond (has squares s) letter old → old ≡ before →
    new ≡ cond (holds (is_man man) (man_at placement s)) letter before
step placement s man squares letter old new before of e was =
    e ∙ ap (λ (x : ℕ). cond (has squares s) letter x) was
    ∙ ap (λ (b : Bool). cond b letter before)
    (ap (λ (bs : List Bool). has bs s) of ∙ has-squares_with (is_man man) placement s)

-- the twelve letters together
abbrev pub twelve : Option Man → ℕ
twelve m =
    cond (holds (is_man (Black, King)) m) 107 (cond (holds (is_man (Black, Queen)) m) 113
    (cond (holds (is_man (Black, Rook)) m) 114 (cond (holds (is_man (Black, Bishop)) m) 98
    (cond (holds (is_man (Black, Knight)) m) 110 (cond (holds (is_man (Black, Pawn)) m) 112
    (cond (holds (is_man (White, King)) m) 75 (cond (holds (is_man (White, Queen)) m) 81
    (cond (holds (is_man (White, Rook)) m) 82 (cond (holds (is_man (White, Bishop)) m) 66
    (cond (holds (is_man (White, Knight)) m) 78 (cond (holds (is_man (White, Pawn)) m) 80 0)))))))))))

pub twelve_letters : (m : Option Man) → twelve m ≡ letter_or_zero m
twelve_letters None = refl
twelve_letters (Some (White, Pawn)) = refl
twelve_letters (Some (White, Knight)) = refl
twelve_letters (Some (White, Bishop)) = refl
twelve_letters (Some (White, Rook)) = refl
twelve_letters (Some (White, Queen)) = refl
twelve_letters (Some (White, King)) = refl
twelve_letters (Some (Black, Pawn)) = refl
twelve_letters (Some (Black, Knight)) = refl
twelve_letters (Some (Black, Bishop)) = refl
twelve_letters (Some (Black, Rook)) = refl
twelve_letters (Some (Black, Queen)) = refl
twelve_letters (Some (Black, King)) = refl

-- what a letter tells of the man
pub none_there : (m : Option Man) → letter_or_zero m ≡ 0 → m ≡ None
none_there None e = refl
none_there (Some (White, Pawn)) e = absurd (omega arith)
none_there (Some (White, Knight)) e = absurd (omega arith)
none_there (Some (White, Bishop)) e = absurd (omega arith)
none_there (Some (White, Rook)) e = absurd (omega arith)
none_there (Some (White, Queen)) e = absurd (omega arith)
none_there (Some (White, King)) e = absurd (omega arith)
none_there (Some (Black, Pawn)) e = absurd (omega arith)
none_there (Some (Black, Knight)) e = absurd (omega arith)
none_there (Some (Black, Bishop)) e = absurd (omega arith)
none_there (Some (Black, Rook)) e = absurd (omega arith)
none_there (Some (Black, Queen)) e = absurd (omega arith)
none_there (Some (Black, King)) e = absurd (omega arith)

letter_is_ascii : (man : Man) → letter_of man < 128
letter_is_ascii (White, Pawn) = omega arith
letter_is_ascii (White, Knight) = omega arith
letter_is_ascii (White, Bishop) = omega arith
letter_is_ascii (White, Rook) = omega arith
letter_is_ascii (White, Queen) = omega arith
letter_is_ascii (White, King) = omega arith
letter_is_ascii (Black, Pawn) = omega arith
letter_is_ascii (Black, Knight) = omega arith
letter_is_ascii (Black, Bishop) = omega arith
letter_is_ascii (Black, Rook) = omega arith
letter_is_ascii (Black, Queen) = omega arith
letter_is_ascii (Black, King) = omega arith

pub some_there : (m : Option Man) (letter : ℕ) → letter ≡ letter_or_zero m → letter ≢ 0 →
    (man : Man) × (m ≡ Some man) × (min letter 127 ≡ letter_of man)
some_there None letter e other = absurd (other e)
some_there (Some man) letter e other =
    let ascii : letter_of man < 128 = letter_is_ascii man in (man, refl, omega arith)
