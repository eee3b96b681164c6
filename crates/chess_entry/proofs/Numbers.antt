-- The games of a list of entries, number by number.
use Rattle.std.specs.Prelude.{ℕ, ◌≡◌, ◌⊎◌, ◌-◌, ◌+◌, ◌*◌, ◌<◌, ◌≤◌, ◌==◌, nat_le, ◌&&◌, ◌||◌, not, Bool, true, false, if◌then◌else◌, List, [], ◌∷◌, ◌++◌, filter, map, Option, Some, None}
use Rattle.std.specs.List.{flat_map, last_or, list_any, range_with_len}
use Rattle.std.proofs.Common.{arith, ap, sym, subst, ◌∙◌, refl, inl, inr, zero, suc}
use Rattle.std.proofs.lemmas.Bool.{cases_Bool, cases_eq, eq-eqb, ne_eqb, eqb-true, and_parts, or_right, leb-true, lt-leb}
use Rattle.std.proofs.lemmas.List.{append-nil, map-append}
use Rattle.std.proofs.Math.Bool.{or-false}
use Rattle.chess_bits.specs.declared.men.Colour.TheVariants.{White, Black}
use Rattle.chess_clock.specs.TimeControl.{time_control}
use Rattle.chess_clock.specs.Held.{given_for}
use Rattle.chess_moves.proofs.ListLemmas.{filter-flat_map}
use Rattle.rec_codec.specs.declared.record.Event.{Event}
use Rattle.rec_codec.specs.declared.record.Event.TheVariants as event
use Rattle.rec_codec.specs.declared.record.Entry.{Entry}
use Rattle.rec_codec.specs.declared.record.Opening.{Opening}
use Rattle.rec_codec.specs.Records.{entry}
use Rattle.chess_entry.specs.State.{GameState, find_game}
use Rattle.chess_entry.specs.Story.{entries_of, first_given, given_or, opening_of, is_open, is_drop}
use Rattle.chess_entry.specs.Games.{game_in, game_if, game_shown, number_of, last_number, games_shown}
use Rattle.chess_entry.specs.Verdict.{is_period}
use Rattle.chess_entry.specs.Follow.{follow_game, follow_if, last_after, new_game, fresh_seat}
use Rattle.chess_entry.proofs.OneMore.{filter-more, first_given-more, given_or-none, list_any-more, last_passing-more, flat_map-more, range-more}

-- ---- lists

map-flat_map : {A B C : Type 0} (h : B → C) (f : A → List B) (xs : List A) →
    map h (flat_map f xs) ≡ flat_map (λ x. map h (f x)) xs
map-flat_map h f [] = refl
map-flat_map {C = C} h f (x ∷ xs) =
    map-append h (f x) (flat_map f xs) ∙ ap (λ (rest : List C). map h (f x) ++ rest) (map-flat_map h f xs)

flat_map-same : {A B : Type 0} (f g : A → List B) (xs : List A) → ((x : A) → f x ≡ g x) → flat_map f xs ≡ flat_map g xs
flat_map-same f g [] same = refl
flat_map-same {B = B} f g (x ∷ xs) same =
    ap (λ (here : List B). here ++ flat_map f xs) (same x)
    ∙ ap (λ (rest : List B). g x ++ rest) (flat_map-same f g xs same)

flat_map-below : {B : Type 0} (f g : ℕ → List B) (a n : ℕ) → ((k : ℕ) → k < a + n → f k ≡ g k) →
    flat_map f (range_with_len a n) ≡ flat_map g (range_with_len a n)
flat_map-below f g a zero same = refl
flat_map-below {B = B} f g a (suc n) same =
    ap (λ (here : List B). here ++ flat_map f (range_with_len (a + 1) n)) (same a (omega arith))
    ∙ ap (λ (rest : List B). g a ++ rest) (flat_map-below f g (a + 1) n (λ k below. same k (omega arith)))

-- ---- the entries of a game, with one entry more

pub entries_of-own : (es : List Entry) (g at : ℕ) (ev : Event) →
    entries_of g (es ++ entry g at ev ∷ []) ≡ entries_of g es ++ entry g at ev ∷ []
entries_of-own es g at ev =
    filter-more (λ (e : Entry). e.game == g) es (entry g at ev)
    ∙ ap (λ (b : Bool). entries_of g es ++ (if b then entry g at ev ∷ [] else [])) (eq-eqb g g refl)

pub entries_of-other : (es : List Entry) (g n at : ℕ) (ev : Event) → (g ≡ n → ⊥) →
    entries_of n (es ++ entry g at ev ∷ []) ≡ entries_of n es
entries_of-other es g n at ev other =
    filter-more (λ (e : Entry). e.game == n) es (entry g at ev)
    ∙ ap (λ (b : Bool). entries_of n es ++ (if b then entry g at ev ∷ [] else [])) (ne_eqb g n other)
    ∙ append-nil (entries_of n es)

number-if : (b : Bool) (e : Entry) (o : Option Entry) →
    number_of (if b then Some e else o) ≡ (if b then e.game else number_of o)
number-if true e o = refl
number-if false e o = refl

pub last_number-more : (es : List Entry) (x : Entry) → last_number (es ++ x ∷ []) ≡ last_after (last_number es) x
last_number-more es x =
    ap number_of (last_passing-more (λ (e : Entry). is_open e.event) es x)
    ∙ number-if (is_open x.event) x (last_or None (filter (λ (e : Entry). is_open e.event) es))

pub last_number-same : (es : List Entry) (x : Entry) → is_open x.event ≡ false → last_number (es ++ x ∷ []) ≡ last_number es
last_number-same es x closed =
    last_number-more es x ∙ ap (λ (b : Bool). if b then x.game else last_number es) closed

-- ---- the game of a number

abbrev pub dropped_in : List Entry → Bool
dropped_in xs = list_any (λ (e : Entry). is_drop e.event) xs

abbrev pub opened_in : List Entry → Option Opening
opened_in xs = first_given (λ (e : Entry). opening_of e.event) xs

abbrev shown_if : Bool → Option Opening → ℕ → List Entry → List GameState
shown_if dropped opened number xs = if dropped then [] else game_if number opened xs

opening_of-none : (ev : Event) → is_open ev ≡ false → opening_of ev ≡ None
opening_of-none (event.Open opening) h = absurd (cc)
opening_of-none (event.Join name) h = refl
opening_of-none (event.Move made) h = refl
opening_of-none (event.Offer by) h = refl
opening_of-none (event.Accept by) h = refl
opening_of-none (event.Decline by) h = refl
opening_of-none (event.Resign by) h = refl
opening_of-none (event.Claim claim) h = refl
opening_of-none event.Fallen h = refl
opening_of-none event.Drop h = refl

pub opened_in-same : (xs : List Entry) (x : Entry) → is_open x.event ≡ false → opened_in (xs ++ x ∷ []) ≡ opened_in xs
opened_in-same xs x closed =
    first_given-more (λ (e : Entry). opening_of e.event) xs x
    ∙ ap (given_or (opened_in xs)) (opening_of-none x.event closed)
    ∙ given_or-none (opened_in xs)

dropped_in-more : (xs : List Entry) (x : Entry) → dropped_in (xs ++ x ∷ []) ≡ (dropped_in xs || is_drop x.event)
dropped_in-more xs x = list_any-more (λ (e : Entry). is_drop e.event) xs x

-- ---- an entry that changes its game

-- What the law of a game says of each opening that the game may have.
abbrev pub FollowsIn : List Entry → ℕ → ℕ → Event → Type 0
FollowsIn xs g at ev = (opening : Opening) → dropped_in xs ≡ false → opened_in xs ≡ Some opening →
    game_in g opening (xs ++ entry g at ev ∷ []) ≡ follow_game (game_in g opening xs) at ev

own-shown : (g at : ℕ) (ev : Event) (dropped : Bool) (opened : Option Opening) (xs : List Entry) →
    ((opening : Opening) → dropped ≡ false → opened ≡ Some opening →
    game_in g opening (xs ++ entry g at ev ∷ []) ≡ follow_game (game_in g opening xs) at ev) →
    shown_if dropped opened g (xs ++ entry g at ev ∷ [])
    ≡ map (follow_if (entry g at ev)) (shown_if dropped opened g xs)
own-shown g at ev true opened xs each = refl
own-shown g at ev false None xs each = refl
own-shown g at ev false (Some opening) xs each =
    ap (λ (game : GameState). game ∷ []) (each opening refl refl)
    ∙ sym (ap (λ (b : Bool). (if b then follow_game (game_in g opening xs) at ev else game_in g opening xs) ∷ [])
    (eq-eqb g g refl))

other-shown : (x : Entry) (n : ℕ) (dropped : Bool) (opened : Option Opening) (xs : List Entry) → (n == x.game) ≡ false →
    map (follow_if x) (shown_if dropped opened n xs) ≡ shown_if dropped opened n xs
other-shown x n true opened xs other = refl
other-shown x n false None xs other = refl
other-shown x n false (Some opening) xs other =
    ap (λ (b : Bool). (if b then follow_game (game_in n opening xs) x.moment x.event else game_in n opening xs) ∷ [])
    other

own-changed : (xs : List Entry) (g at : ℕ) (ev : Event) → is_open ev ≡ false → is_drop ev ≡ false → FollowsIn xs g at ev →
    game_shown g (xs ++ entry g at ev ∷ []) ≡ map (follow_if (entry g at ev)) (game_shown g xs)
own-changed xs g at ev closed kept each =
    ap (λ (b : Bool). shown_if b (opened_in (xs ++ entry g at ev ∷ [])) g (xs ++ entry g at ev ∷ []))
    (dropped_in-more xs (entry g at ev) ∙ ap (λ (b : Bool). dropped_in xs || b) kept ∙ or-false (dropped_in xs))
    ∙ ap (λ (o : Option Opening). shown_if (dropped_in xs) o g (xs ++ entry g at ev ∷ []))
    (opened_in-same xs (entry g at ev) closed)
    ∙ own-shown g at ev (dropped_in xs) (opened_in xs) xs each

pub games-changed : (es : List Entry) (g at : ℕ) (ev : Event) → is_open ev ≡ false → is_drop ev ≡ false →
    FollowsIn (entries_of g es) g at ev →
    games_shown (es ++ entry g at ev ∷ []) ≡ map (follow_if (entry g at ev)) (games_shown es)
games-changed es g at ev closed kept each =
    ap (λ (k : ℕ). flat_map (λ (n : ℕ). game_shown n (entries_of n (es ++ entry g at ev ∷ []))) (range_with_len 1 k))
    (last_number-same es (entry g at ev) closed)
    ∙ flat_map-same (λ (n : ℕ). game_shown n (entries_of n (es ++ entry g at ev ∷ [])))
    (λ (n : ℕ). map (follow_if (entry g at ev)) (game_shown n (entries_of n es))) (range_with_len 1 (last_number es)) at_number
    ∙ sym (map-flat_map (follow_if (entry g at ev)) (λ (n : ℕ). game_shown n (entries_of n es))
    (range_with_len 1 (last_number es)))
  where
    at_number : (n : ℕ) → game_shown n (entries_of n (es ++ entry g at ev ∷ []))
        ≡ map (follow_if (entry g at ev)) (game_shown n (entries_of n es))
    at_number n = elim (cases_eq g n) [
      | inl same ↦ subst (λ (n : ℕ). game_shown n (entries_of n (es ++ entry g at ev ∷ []))
          ≡ map (follow_if (entry g at ev)) (game_shown n (entries_of n es))) same
          (ap (game_shown g) (entries_of-own es g at ev) ∙ own-changed (entries_of g es) g at ev closed kept each)
      | inr other ↦ ap (game_shown n) (entries_of-other es g n at ev other)
          ∙ sym (other-shown (entry g at ev) n (dropped_in (entries_of n es)) (opened_in (entries_of n es)) (entries_of n es)
          (ne_eqb n g (λ e. other (sym e))))
    ]

-- ---- an entry that drops its game

own-dropped : (g : ℕ) (dropped : Bool) (opened : Option Opening) (xs : List Entry) →
    filter (λ (game : GameState). not (game.number == g)) (shown_if dropped opened g xs) ≡ []
own-dropped g true opened xs = refl
own-dropped g false None xs = refl
own-dropped g false (Some opening) xs =
    ap (λ (b : Bool). if not b then game_in g opening xs ∷ [] else []) (eq-eqb g g refl)

other-kept : (g n : ℕ) (dropped : Bool) (opened : Option Opening) (xs : List Entry) → (n == g) ≡ false →
    filter (λ (game : GameState). not (game.number == g)) (shown_if dropped opened n xs) ≡ shown_if dropped opened n xs
other-kept g n true opened xs other = refl
other-kept g n false None xs other = refl
other-kept g n false (Some opening) xs other =
    ap (λ (b : Bool). if not b then game_in n opening xs ∷ [] else []) other

own-gone : (xs : List Entry) (g at : ℕ) →
    game_shown g (xs ++ entry g at event.Drop ∷ [])
    ≡ filter (λ (game : GameState). not (game.number == g)) (game_shown g xs)
own-gone xs g at =
    ap (λ (b : Bool). shown_if b (opened_in (xs ++ entry g at event.Drop ∷ [])) g (xs ++ entry g at event.Drop ∷ []))
    (dropped_in-more xs (entry g at event.Drop) ∙ or_right (dropped_in xs) true refl)
    ∙ sym (own-dropped g (dropped_in xs) (opened_in xs) xs)

pub games-dropped : (es : List Entry) (g at : ℕ) →
    games_shown (es ++ entry g at event.Drop ∷ []) ≡ filter (λ (game : GameState). not (game.number == g)) (games_shown es)
games-dropped es g at =
    ap (λ (k : ℕ). flat_map (λ (n : ℕ). game_shown n (entries_of n (es ++ entry g at event.Drop ∷ []))) (range_with_len 1 k))
    (last_number-same es (entry g at event.Drop) refl)
    ∙ flat_map-same (λ (n : ℕ). game_shown n (entries_of n (es ++ entry g at event.Drop ∷ [])))
    (λ (n : ℕ). filter (λ (game : GameState). not (game.number == g)) (game_shown n (entries_of n es))) (range_with_len 1 (last_number es))
    at_number
    ∙ sym (filter-flat_map (λ (game : GameState). not (game.number == g)) (λ (n : ℕ). game_shown n (entries_of n es))
    (range_with_len 1 (last_number es)))
  where
    at_number : (n : ℕ) → game_shown n (entries_of n (es ++ entry g at event.Drop ∷ []))
        ≡ filter (λ (game : GameState). not (game.number == g)) (game_shown n (entries_of n es))
    at_number n = elim (cases_eq g n) [
      | inl same ↦ subst (λ (n : ℕ). game_shown n (entries_of n (es ++ entry g at event.Drop ∷ []))
          ≡ filter (λ (game : GameState). not (game.number == g)) (game_shown n (entries_of n es))) same
          (ap (game_shown g) (entries_of-own es g at event.Drop) ∙ own-gone (entries_of g es) g at)
      | inr other ↦ ap (game_shown n) (entries_of-other es g n at event.Drop other)
          ∙ sym (other-kept g n (dropped_in (entries_of n es)) (opened_in (entries_of n es)) (entries_of n es)
          (ne_eqb n g (λ e. other (sym e))))
    ]

-- ---- an entry that opens a game

-- a side's time before its first move, since a second period begins after a move at least
first_held : (initial increment : ℕ) (period : Option (ℕ × ℕ)) → is_period period ≡ true →
    given_for (time_control initial increment period) 0 0 - 0 ≡ 1000 * initial
first_held initial increment None ranges = omega arith
first_held initial increment (Some period) ranges =
    let front = and_parts (nat_le 1 period.0 && nat_le period.0 255 && nat_le 1 period.1) (nat_le period.1 86400) ranges in
    let next = and_parts (nat_le 1 period.0 && nat_le period.0 255) (nat_le 1 period.1) front.0 in
    let first = and_parts (nat_le 1 period.0) (nat_le period.0 255) next.0 in
    let some = leb-true 1 period.0 first.0 in
    let later : nat_le period.0 0 ≡ false = lt-leb period.0 0 (omega arith) in
    ap (λ (b : Bool). 1000 * initial + 1000 * increment * 0 + 120000 * 0 + (if b then 1000 * period.1 else 0) - 0) later
    ∙ omega arith

game-opened : (g at : ℕ) (opening : Opening) → is_period opening.period ≡ true →
    game_in g opening (entry g at (event.Open opening) ∷ []) ≡ new_game g opening
game-opened g at opening ranges =
    ap (λ (time : ℕ). record (new_game g opening) {
      white = record (fresh_seat opening White) { held = time };
      black = record (fresh_seat opening Black) { held = time };
    }) (first_held opening.initial opening.increment opening.period ranges)

-- the game of a number, with this entry more
abbrev shown_after : List Entry → Entry → ℕ → List GameState
shown_after es x n = game_shown n (entries_of n (es ++ x ∷ []))

opened-shown : (es : List Entry) (g at : ℕ) (opening : Opening) → entries_of g es ≡ [] →
    is_period opening.period ≡ true →
    shown_after es (entry g at (event.Open opening)) g ≡ new_game g opening ∷ []
opened-shown es g at opening none ranges =
    ap (game_shown g) (entries_of-own es g at (event.Open opening)
    ∙ ap (λ (xs : List Entry). xs ++ entry g at (event.Open opening) ∷ []) none)
    ∙ ap (λ (game : GameState). game ∷ []) (game-opened g at opening ranges)

pub games-opened : (es : List Entry) (g at : ℕ) (opening : Opening) → g ≡ last_number es + 1 → entries_of g es ≡ [] →
    is_period opening.period ≡ true →
    games_shown (es ++ entry g at (event.Open opening) ∷ []) ≡ games_shown es ++ new_game g opening ∷ []
games-opened es g at opening next none ranges =
    let x = entry g at (event.Open opening) in
    let is_last : 1 + last_number es ≡ g = omega arith in
    ap (λ (k : ℕ). flat_map (shown_after es x) (range_with_len 1 k)) (last_number-more es x ∙ next)
    ∙ ap (flat_map (shown_after es x)) (range-more 1 (last_number es))
    ∙ flat_map-more (shown_after es x) (range_with_len 1 (last_number es)) (1 + last_number es)
    ∙ ap (λ (front : List GameState). front ++ shown_after es x (1 + last_number es))
    (flat_map-below (shown_after es x) (λ (n : ℕ). game_shown n (entries_of n es)) 1 (last_number es)
    (λ k below. ap (game_shown k) (entries_of-other es g k at (event.Open opening) (λ same. omega arith))))
    ∙ ap (λ (back : List GameState). games_shown es ++ back)
    (ap (shown_after es x) is_last ∙ opened-shown es g at opening none ranges)

-- ---- a game that is found

-- a game that stands on the table of a list of entries
pub record Stands (es : List Entry) (g : ℕ) (game : GameState) : Type 0 where
  pub opening : Opening
  pub opened : opened_in (entries_of g es) ≡ Some opening
  pub is : game ≡ game_in g opening (entries_of g es)

found-shown : (g : ℕ) (dropped : Bool) (opened : Option Opening) (xs : List Entry) (game : GameState) →
    find_game g (shown_if dropped opened g xs) ≡ Some game →
    (opening : Opening) × (opened ≡ Some opening) × (game ≡ game_in g opening xs)
found-shown g true opened xs game h = absurd (cc)
found-shown g false None xs game h = absurd (cc)
found-shown g false (Some opening) xs game h =
    let is : Some (game_in g opening xs) ≡ Some game =
    sym (ap (λ (b : Bool). if b then Some (game_in g opening xs) else None) (eq-eqb g g refl)) ∙ h in
    (opening, refl, some-same (game_in g opening xs) game is)
  where
    some-same : (a b : GameState) → Some a ≡ Some b → b ≡ a
    some-same a b e = cc

find-here_or_later : (g n : ℕ) (dropped : Bool) (opened : Option Opening) (xs : List Entry) (rest : List GameState)
    (game : GameState) → find_game g (shown_if dropped opened n xs ++ rest) ≡ Some game →
    ((n ≡ g) × (find_game g (shown_if dropped opened n xs) ≡ Some game)) ⊎ (find_game g rest ≡ Some game)
find-here_or_later g n true opened xs rest game h = inr h
find-here_or_later g n false None xs rest game h = inr h
find-here_or_later g n false (Some opening) xs rest game h = elim (cases_Bool (n == g)) [
  | inl here ↦ inl (
    eqb-true n g here,
    ap (λ (b : Bool). if b then Some (game_in n opening xs) else None) here
        ∙ sym (ap (λ (b : Bool). if b then Some (game_in n opening xs) else find_game g rest) here) ∙ h,
  )
  | inr later ↦ inr (sym (ap (λ (b : Bool). if b then Some (game_in n opening xs) else find_game g rest) later) ∙ h)
]

find-in_range : (es : List Entry) (g a k : ℕ) (game : GameState) →
    find_game g (flat_map (λ (n : ℕ). game_shown n (entries_of n es)) (range_with_len a k)) ≡ Some game →
    (g < a + k) × (find_game g (game_shown g (entries_of g es)) ≡ Some game)
find-in_range es g a zero game h = absurd (cc)
find-in_range es g a (suc k) game h =
    elim (find-here_or_later g a (dropped_in (entries_of a es)) (opened_in (entries_of a es)) (entries_of a es)
    (flat_map (λ (n : ℕ). game_shown n (entries_of n es)) (range_with_len (a + 1) k)) game h) [
      | inl here ↦
          let same : a ≡ g = here.0 in (
            omega arith,
            subst (λ (n : ℕ). find_game g (game_shown n (entries_of n es)) ≡ Some game) same here.1,
          )
      | inr later ↦
          let rest = find-in_range es g (a + 1) k game later in
          (omega arith, rest.1)
    ]

pub found-stands : (es : List Entry) (g : ℕ) (game : GameState) → find_game g (games_shown es) ≡ Some game →
    (g ≤ last_number es) × Stands es g game
found-stands es g game h =
    let here = find-in_range es g 1 (last_number es) game h in
    let found = found-shown g (dropped_in (entries_of g es)) (opened_in (entries_of g es)) (entries_of g es) game here.1 in
    (omega arith, record { opening = found.0; opened = found.1; is = found.2 })
