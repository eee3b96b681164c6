-- Games under their numbers: what a look-up finds, and what adding, changing and taking out a game keeps.
use Rattle.std.proofs.Common.{ℕ, zero, suc, ◌≡◌, ◌+◌, ◌<◌, ◌≤◌, Bool, false, cond, nat_eq, List, [], ◌∷◌, ◌++◌, length, get_or, set, slice_get, is_some, take, Option, Some, None, refl, sym, ap, ◌∙◌, subst, inl, inr, arith}
use Rattle.std.specs.Prelude.{◌==◌, if◌then◌else◌, IfSome, IfNone, OnOk, OnErr, Result, Ok, Err}
use Rattle.std.specs.List.{remove}
use Rattle.std.specs.Map.{lookup, values_of}
use Rattle.std.proofs.lemmas.Bool.{cases_Bool, eqb-true, false≢true}
use Rattle.std.proofs.lemmas.Bool.Decides.{Decides-eqb, nat_tests}
use Rattle.std.proofs.lemmas.List.{map-append, take_all, append_assoc, append-nil}
use Rattle.std.proofs.lemmas.Option.{slice_get-get_or, get_or_from_slice_get}
use Rattle.chess_board.specs.Legal.{EachOf}
use Rattle.chess_board.proofs.EachOfLemmas.{EachOf-push}
use Rattle.rec_codec.specs.declared.record.Event.{Event}
use Rattle.chess_entry.specs.State.{GameState, find_game}
use Rattle.chess_entry.specs.Follow.{follow_game}
use Rattle.chess_entry.proofs.Entering.{find_game-number}
use Rattle.indexmap.specs.IndexMap.{IndexMap, values, insert_entry, set_value_at}
use Rattle.indexmap.proofs.CallerLemmas.{insert_entry-new}
use Rattle.chess_table.specs.Places.{AreNumbered, IsPlaceOf}
use Rattle.chess_table.proofs.Rising.{Rise, IsBefore, EachOf-part}
use Rattle.chess_table.proofs.GameKept.{number-follow}

-- ---- the look-up

pub length-values : (es : List (ℕ × GameState)) → length (values_of es) ≡ length es
length-values [] = refl
length-values (e ∷ es) = ap suc (length-values es)

-- the game under a number is the one that has it
pub get-find : (number : ℕ) (es : List (ℕ × GameState)) → AreNumbered es
    → lookup (nat_eq number) es ≡ find_game number (values_of es)
get-find number [] are = refl
get-find number (e ∷ es) are = elim (cases_Bool (nat_eq number e.0)) [
  | inl here ↦
      let same : e.1.number ≡ number = sym are.0 ∙ sym (eqb-true number e.0 here) in
      ap (λ (b : Bool). cond b (Some e.1) (lookup (nat_eq number) es)) here
      ∙ sym (ap (λ (b : Bool). if b then Some e.1 else find_game number (values_of es))
      ((Decides-eqb e.1.number number).1 same))
  | inr later ↦
      ap (λ (b : Bool). cond b (Some e.1) (lookup (nat_eq number) es)) later ∙ get-find number es are.1
      ∙ sym (ap (λ (b : Bool). if b then Some e.1 else find_game number (values_of es)) (other later))
]
  where
    other : nat_eq number e.0 ≡ false → (e.1.number == number) ≡ false
    other later = elim (cases_Bool (e.1.number == number)) [
      | inl so ↦
          absurd (false≢true (sym later
          ∙ (Decides-eqb number e.0).1 (sym (eqb-true e.1.number number so) ∙ sym are.0)))
      | inr differs ↦ differs
    ]

-- the place at which the game of a number is read
pub IsPlaceOf-read : (number place : ℕ) (games : List GameState) → place < length games
    → slice_get games place ≡ find_game number games → IsPlaceOf games number place
IsPlaceOf-read number place games within read = record {
  within = within;
  numbered = λ d.
      find_game-number number games (get_or games place d) (sym read ∙ slice_get-get_or games place d within);
}

-- The game is read at this place.
pub record IsReadAt (games : List GameState) (place : ℕ) (game : GameState) : Type 0 where
  pub within : place < length games
  pub here : game ≡ get_or games place game

pub read_at : (es : List (ℕ × GameState)) (games : List GameState) (end place : ℕ) (game : GameState)
    → values_of es ≡ games → end ≡ length es → place < end → slice_get (values_of es) place ≡ Some game
    → IsReadAt games place game
read_at es games end place game view many below read =
    subst (λ (l : List GameState). IsReadAt l place game) view (record {
      within = let size = length-values es in omega (arith, many, below, size);
      here = sym (get_or_from_slice_get (values_of es) place game game read);
    })

-- all games, of as many entries
pub all_read : (es : List (ℕ × GameState)) (games : List GameState) (end place : ℕ) → values_of es ≡ games
    → end ≡ length es → end ≤ place → take place games ≡ games
all_read es games end place view many past =
    take_all place games
    (subst (λ (l : List GameState). length l ≤ place) view
    (let size = length-values es in omega (arith, many, past, size)))

-- what a search of the place under a number finds
pub record IsPlaceRead (number : ℕ) (games : List GameState) (o : Option ℕ) : Type 0 where
  pub some : IfSome o (IsPlaceOf games number)
  pub none : IfNone o (find_game number games ≡ None)

pub place_read : (number : ℕ) (es : List (ℕ × GameState)) (o : Option ℕ)
    → lookup (nat_eq number) es ≡ find_game number (values_of es) → IfSome o (λ i. i < length es)
    → IfSome o (λ i. slice_get (values_of es) i ≡ lookup (nat_eq number) es)
    → is_some o ≡ is_some (lookup (nat_eq number) es) → IsPlaceRead number (values_of es) o
place_read number es None found within read there = record {
  some = tt;
  none = nothing (find_game number (values_of es)) (there ∙ ap is_some found);
}
  where
    nothing : (o : Option GameState) → false ≡ is_some o → o ≡ None
    nothing None is = refl
    nothing (Some game) is = absurd (false≢true is)
place_read number es (Some i) found within read there = record {
  some = IsPlaceOf-read number i (values_of es) (subst (λ (n : ℕ). i < n) (sym (length-values es)) within) (read ∙ found);
  none = tt;
}

-- ---- a change

pub values-set : (es : List (ℕ × GameState)) (place : ℕ) (game : GameState)
    → values_of (set_value_at es place game) ≡ set (values_of es) place game
values-set [] place game = refl
values-set (e ∷ es) zero game = refl
values-set (e ∷ es) (suc place) game = ap (λ (l : List GameState). e.1 ∷ l) (values-set es place game)

-- a game that keeps its number
pub AreNumbered-set : (es : List (ℕ × GameState)) (place : ℕ) (game : GameState) → AreNumbered es
    → ((d : GameState) → game.number ≡ (get_or (values_of es) place d).number) → AreNumbered (set_value_at es place game)
AreNumbered-set [] place game are same = tt
AreNumbered-set (e ∷ es) zero game are same = (are.0 ∙ sym (same e.1), are.1)
AreNumbered-set (e ∷ es) (suc place) game are same = (are.0, AreNumbered-set es place game are.1 same)

number_after : {T E : Type 0} (r : Result T E) (game new : GameState) (at : ℕ) (ev : Event)
    → OnOk r (new ≡ follow_game game at ev) → OnErr r (new ≡ game) → new.number ≡ game.number
number_after (Ok x) game new at ev followed same =
    ap (λ (g : GameState). g.number) followed ∙ number-follow game at ev
number_after (Err x) game new at ev followed same = ap (λ (g : GameState). g.number) same

-- a game that goes on at the place of its number, or stays as it is
pub AreNumbered-after : {T E : Type 0} (r : Result T E) (es : List (ℕ × GameState)) (number place : ℕ) (game new : GameState)
    (at : ℕ) (ev : Event) → AreNumbered es → IsPlaceOf (values_of es) number place
    → game ≡ get_or (values_of es) place game → OnOk r (new ≡ follow_game game at ev) → OnErr r (new ≡ game)
    → AreNumbered (set_value_at es place new)
AreNumbered-after r es number place game new at ev are stands here followed same =
    AreNumbered-set es place new are
    (λ d. number_after r game new at ev followed same ∙ ap (λ (g : GameState). g.number) here ∙ stands.numbered game
    ∙ sym (stands.numbered d))

-- ---- a game less

pub values-remove : (es : List (ℕ × GameState)) (place : ℕ) → values_of (remove es place) ≡ remove (values_of es) place
values-remove [] zero = refl
values-remove [] (suc place) = refl
values-remove (e ∷ es) zero = refl
values-remove (e ∷ es) (suc place) = ap (λ (l : List GameState). e.1 ∷ l) (values-remove es place)

pub AreNumbered-remove : (es : List (ℕ × GameState)) (place : ℕ) → AreNumbered es → AreNumbered (remove es place)
AreNumbered-remove [] zero are = tt
AreNumbered-remove [] (suc place) are = tt
AreNumbered-remove (e ∷ es) zero are = are.1
AreNumbered-remove (e ∷ es) (suc place) are = (are.0, AreNumbered-remove es place are.1)

-- ---- a game more

pub find_game-above : (number : ℕ) (games : List GameState) → EachOf (λ g. g.number < number) games
    → find_game number games ≡ None
find_game-above number [] below = refl
find_game-above number (game ∷ games) below =
    let less = below.0 in
    let other : (game.number == number) ≡ false = grind (arith, nat_tests) in
    ap (λ (b : Bool). if b then Some game else find_game number games) other ∙ find_game-above number games below.1

below_next : (before : List GameState) (game : GameState) (rest : List GameState) → Rise (before ++ game ∷ rest)
    → EachOf (λ g. g.number < game.number) before
below_next [] game rest rise = tt
below_next (g ∷ before) game rest rise =
    (EachOf-part (IsBefore g) before game rest rise.0, below_next before game rest rise.1)

-- of games by rising number none has the number of a later one
pub find_game-next : (before : List GameState) (game : GameState) (rest : List GameState) → Rise (before ++ game ∷ rest)
    → find_game game.number before ≡ None
find_game-next before game rest rise = find_game-above game.number before (below_next before game rest rise)

-- the games with one under a number that none has
pub record IsAdded (es new : List (ℕ × GameState)) (game : GameState) : Type 0 where
  pub values : values_of new ≡ values_of es ++ game ∷ []
  pub numbered : AreNumbered new

module _ {S : Type 0} (m : IndexMap ℕ GameState S) (number : ℕ) (game : GameState) where
  pub IsAdded-insert : (new : List (ℕ × GameState)) → AreNumbered m.entries
      → find_game number (values m) ≡ None → number ≡ game.number
      → new ≡ insert_entry nat_eq m.entries number game → IsAdded m.entries new game
  IsAdded-insert new are none same is =
      let last : new ≡ m.entries ++ (number, game) ∷ [] =
      is ∙ insert_entry-new nat_eq m number game (get-find number m.entries are ∙ none) in
      record {
        values = ap values_of last ∙ map-append (λ (e : ℕ × GameState). e.1) m.entries ((number, game) ∷ []);
        numbered = subst AreNumbered (sym last)
            (EachOf-push (λ (e : ℕ × GameState). e.0 ≡ e.1.number) m.entries (number, game) are same);
      }

-- ---- a game in memory of its own

-- it is put under its number as the game that it is
pub boxed_entries : (es : List (ℕ × GameState)) (number : ℕ) {new : List (ℕ × GameState)} {boxed game : GameState}
    → new ≡ insert_entry nat_eq es number boxed → boxed ≡ game → new ≡ insert_entry nat_eq es number game
boxed_entries es number is same =
    is ∙ ap (λ (g : GameState). insert_entry nat_eq es number g) same

-- and read as it
pub is_boxed : {o : Option GameState} {boxed game : GameState} → o ≡ Some boxed → game ≡ boxed → o ≡ Some game
is_boxed is same = is ∙ ap (λ (g : GameState). Some g) (sym same)

-- ---- games of a list, one after the other

-- So many of the games are still to be put under their numbers.
pub record AreUnder (games left : List GameState) (many : ℕ) (es : List (ℕ × GameState)) : Type 0 where
  pub numbered : AreNumbered es
  pub split : values_of es ++ left ≡ games
  pub count : many ≡ length left

pub AreUnder-none : (games left : List GameState) (many : ℕ) (es : List (ℕ × GameState)) → es ≡ [] → left ≡ games
    → many ≡ length games → AreUnder games left many es
AreUnder-none games left many es empty all count = record {
  numbered = subst AreNumbered (sym empty) tt;
  split = ap (λ (l : List (ℕ × GameState)). values_of l ++ left) empty ∙ all;
  count = count ∙ ap (λ (l : List GameState). length l) (sym all);
}

pub AreUnder-next : {S : Type 0} (m : IndexMap ℕ GameState S) (new : List (ℕ × GameState)) (games left rest : List GameState)
    (many less number : ℕ) (game : GameState) → Rise games → left ≡ game ∷ rest → less + 1 ≡ many → number ≡ game.number
    → new ≡ insert_entry nat_eq m.entries number game → AreUnder games left many m.entries
    → AreUnder games rest less new
AreUnder-next m new games left rest many less number game rise next fewer same is are =
    let split : values m ++ game ∷ rest ≡ games = ap (λ (l : List GameState). values m ++ l) (sym next) ∙ are.split in
    let rises : Rise (values m ++ game ∷ rest) = subst Rise (sym split) rise in
    let none : find_game number (values m) ≡ None =
    ap (λ (n : ℕ). find_game n (values m)) same ∙ find_game-next (values m) game rest rises in
    let added = IsAdded-insert m number game new are.numbered none same is in
    let length_left : many ≡ suc (length rest) = are.count ∙ ap (λ (l : List GameState). length l) next in
    record {
      numbered = added.numbered;
      split = ap (λ (l : List GameState). l ++ rest) added.values ∙ append_assoc (values m) (game ∷ []) rest ∙ split;
      count = omega (arith, length_left, fewer);
    }

pub AreUnder-all : (games left : List GameState) (many : ℕ) (es : List (ℕ × GameState)) → many ≡ 0
    → AreUnder games left many es → values_of es ≡ games
AreUnder-all games [] many es none are = sym (append-nil (values_of es)) ∙ are.split
AreUnder-all games (game ∷ left) many es none are = absurd (let count = are.count in omega (arith, count, none))
