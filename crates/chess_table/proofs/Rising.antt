-- Games by rising number: what adding, changing and taking out a game keeps.
use Rattle.std.proofs.Common.{ℕ, zero, suc, ◌≡◌, ◌<◌, ◌≤◌, List, [], ◌∷◌, ◌++◌, length, get_or, refl, sym, ap, subst, arith}
use Rattle.std.specs.Prelude.{Bool, true, false, if◌then◌else◌, filter, map}
use Rattle.chess_board.specs.Legal.{EachOf}
use Rattle.chess_board.proofs.EachOfLemmas.{EachOf-push}
use Rattle.chess_entry.specs.State.{GameState}
use Rattle.chess_entry.specs.Table.{AreRising}

-- ---- each of a list

pub EachOf-of_parts : {A : Type 0} (P : A → Type 0) (xs : List A)
    → ((before rest : List A) (x : A) → xs ≡ before ++ x ∷ rest → P x) → EachOf P xs
EachOf-of_parts P [] at = tt
EachOf-of_parts P (x ∷ xs) at =
    (at [] xs x refl, EachOf-of_parts P xs (λ before rest y e. at (x ∷ before) rest y (ap (λ l. x ∷ l) e)))

pub EachOf-part : {A : Type 0} (P : A → Type 0) (before : List A) (x : A) (rest : List A)
    → EachOf P (before ++ x ∷ rest) → P x
EachOf-part P [] x rest each = each.0
EachOf-part P (y ∷ before) x rest each = EachOf-part P before x rest each.1

pub EachOf-at : {A : Type 0} (P : A → Type 0) (xs : List A) (i : ℕ) (d : A) → EachOf P xs → i < length xs → P (get_or xs i d)
EachOf-at P [] i d each within = absurd (omega arith)
EachOf-at P (x ∷ xs) zero d each within = each.0
EachOf-at P (x ∷ xs) (suc i) d each within = EachOf-at P xs i d each.1 (omega arith)

pub EachOf-weaker : {A : Type 0} (P Q : A → Type 0) (xs : List A) → ((x : A) → P x → Q x) → EachOf P xs → EachOf Q xs
EachOf-weaker P Q [] weaker each = tt
EachOf-weaker P Q (x ∷ xs) weaker each = (weaker x each.0, EachOf-weaker P Q xs weaker each.1)

pub EachOf-map : {A : Type 0} (P Q : A → Type 0) (f : A → A) (xs : List A) → ((x : A) → P x → Q (f x)) → EachOf P xs
    → EachOf Q (map f xs)
EachOf-map P Q f [] kept each = tt
EachOf-map P Q f (x ∷ xs) kept each = (kept x each.0, EachOf-map P Q f xs kept each.1)

pub EachOf-filter : {A : Type 0} (P : A → Type 0) (p : A → Bool) (xs : List A) → EachOf P xs → EachOf P (filter p xs)
EachOf-filter P p [] each = tt
EachOf-filter P p (x ∷ xs) each = either (p x) (EachOf-filter P p xs each.1)
  where
    either : (b : Bool) → EachOf P (filter p xs) → EachOf P (if b then x ∷ filter p xs else filter p xs)
    either true rest = (each.0, rest)
    either false rest = rest

-- ---- rising numbers, game by game

-- a game of a smaller number
abbrev pub IsBefore : GameState → GameState → Type 0
IsBefore game later = game.number < later.number

abbrev pub Rise : List GameState → Type 0
Rise [] = Unit {0}
Rise (game ∷ games) = EachOf (IsBefore game) games × Rise games

pub Rise-of : (games : List GameState) → AreRising games → Rise games
Rise-of [] rising = tt
Rise-of (game ∷ games) rising = (
  EachOf-of_parts (IsBefore game) games (λ between rest later e. rising [] between rest game later (ap (λ l. game ∷ l) e)),
  Rise-of games (λ before between rest g later e. rising (game ∷ before) between rest g later (ap (λ l. game ∷ l) e)),
)

rises_at : (before between rest : List GameState) (game later : GameState) → Rise (before ++ game ∷ (between ++ later ∷ rest))
    → game.number < later.number
rises_at [] between rest game later rise = EachOf-part (IsBefore game) between later rest rise.0
rises_at (g ∷ before) between rest game later rise = rises_at before between rest game later rise.1

pub AreRising-of : (games : List GameState) → Rise games → AreRising games
AreRising-of games rise before between rest game later e = rises_at before between rest game later (subst Rise e rise)

pub Rise-push : (games : List GameState) (last : GameState) → Rise games → EachOf (λ g. g.number < last.number) games
    → Rise (games ++ last ∷ [])
Rise-push [] last rise below = (tt, tt)
Rise-push (game ∷ games) last rise below =
    (EachOf-push (IsBefore game) games last rise.0 below.0, Rise-push games last rise.1 below.1)

pub Rise-map : (f : GameState → GameState) (games : List GameState) → ((g : GameState) → (f g).number ≡ g.number)
    → Rise games → Rise (map f games)
Rise-map f [] same rise = tt
Rise-map f (game ∷ games) same rise = (
  EachOf-map (IsBefore game) (IsBefore (f game)) f games
      (λ later below. subst (λ (n : ℕ). n < (f later).number) (sym (same game))
      (subst (λ (n : ℕ). game.number < n) (sym (same later)) below)) rise.0,
  Rise-map f games same rise.1,
)

pub Rise-filter : (p : GameState → Bool) (games : List GameState) → Rise games → Rise (filter p games)
Rise-filter p [] rise = tt
Rise-filter p (game ∷ games) rise = either (p game) (Rise-filter p games rise.1)
  where
    either : (b : Bool) → Rise (filter p games) → Rise (if b then game ∷ filter p games else filter p games)
    either true rest = (EachOf-filter (IsBefore game) p games rise.0, rest)
    either false rest = rest

-- the number at a place, which a greater place's is above
pub numbers_rise : (games : List GameState) (i j : ℕ) (d : GameState) → Rise games → i ≤ j → j < length games
    → (get_or games i d).number ≤ (get_or games j d).number
numbers_rise [] i j d rise le within = absurd (omega arith)
numbers_rise (game ∷ games) zero zero d rise le within = omega arith
numbers_rise (game ∷ games) zero (suc j) d rise le within =
    let below = EachOf-at (IsBefore game) games j d rise.0 (omega arith) in omega (arith, below)
numbers_rise (game ∷ games) (suc i) zero d rise le within = absurd (omega arith)
numbers_rise (game ∷ games) (suc i) (suc j) d rise le within = numbers_rise games i j d rise.1 (omega arith) (omega arith)
