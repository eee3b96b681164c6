-- What holds of a board from the first call on, whatever happens.
use Rattle.std.proofs.Common.{ℕ, ◌≡◌, ◌≤◌, ◌==◌, ◌&&◌, ◌||◌, Bool, true, false, not, List, [], ◌∷◌, ◌++◌, length, filter, Option, Some, None, refl, sym, ap, ◌∙◌, subst, arith, inl, inr, ◌⊎◌, if◌then◌else◌}
use Rattle.std.specs.List.{list_any}
use Rattle.std.specs.Str.{bytes_eq}
use Rattle.std.proofs.lemmas.Bool.{false≢true, and_from, and_parts, or_right}
use Rattle.std.proofs.lemmas.Bool.Decides.{Decides-eqb}
use Rattle.std.proofs.lemmas.List.{map-append}
use Rattle.std.proofs.lemmas.List.Folds.{list_all-append}
use Rattle.std.proofs.lemmas.Slice.Eq.{bytes_eq-Decides}
use Rattle.std.proofs.Math.Bool.{and-true, and-false, or-false}
use Rattle.night_rounds.specs.declared.steps.Seats.{Seats}
use Rattle.night_rounds.specs.declared.steps.Step.{Step}
use Rattle.night_rounds.specs.declared.steps.Step.TheVariants as steps
use Rattle.night_rounds.specs.declared.steps.Row.{Row}
use Rattle.night_rounds.specs.Newer.{is_newer, is_newest}
use Rattle.night_rounds.specs.Notes.{Reached, Opening, Opened, Joined}
use Rattle.night_rounds.specs.Steps.{sits, is_free_for, may_be, candidates_in, numbers_of, step_of_games, step_of_seats}
use Rattle.night_rounds.specs.Runs.{Board, Standing, RunStep, Looks, Acts, Dies, Passes, step_at, noted, row_of, acted, happened, TellNewer, IsNoNewer, IsDone, has_game, Stays, IsAllowed, after_all, AreAllowed, IsBeginning, game_noted, HasOneGame}
use Rattle.std.specs.Prelude.{nat_lt}

-- ---- the games that may be the board's

-- the table has this game, which may be the board's
abbrev is_there : Board → Option ℕ → ℕ → Row → Bool
is_there b noted game row = (row.game == game) && (may_be noted b.white row && b.fits row.game)

abbrev has_found : Board → Option ℕ → ℕ → List Row → Bool
has_found b noted game rows = list_any (is_there b noted game) rows

-- one row more
one_more : (game n : ℕ) (fits : ℕ → Bool) (m f : Bool) (more : List ℕ) (rest : Bool) → fits n ≡ f →
    list_any (λ x. x == game) (filter fits more) ≡ rest →
    list_any (λ x. x == game) (filter fits ((if m then n ∷ [] else []) ++ more)) ≡ (((n == game) && (m && fits n)) || rest)
one_more game n fits true true more rest e r = rw e (rw r (ap (λ (b : Bool). b || rest) (sym (and-true (n == game)))))
one_more game n fits true false more rest e r = rw e (rw r (ap (λ (b : Bool). b || rest) (sym (and-false (n == game)))))
one_more game n fits false f more rest e r = rw r (ap (λ (b : Bool). b || rest) (sym (and-false (n == game))))

-- a game that may be the board's is among those that `start` finds
found : (b : Board) (noted : Option ℕ) (game : ℕ) (rows : List Row) →
    list_any (λ x. x == game) (filter b.fits (candidates_in noted b.white rows)) ≡ has_found b noted game rows
found b noted game [] = refl
found b noted game (row ∷ rows) =
    one_more game row.game b.fits (may_be noted b.white row) (b.fits row.game) (candidates_in noted b.white rows) (has_found b noted game rows) refl
    (found b noted game rows)

not_none : (b : Board) (noted : Option ℕ) (game : ℕ) (rows : List Row) → filter b.fits (candidates_in noted b.white rows) ≡ [] →
    has_found b noted game rows ≡ true → ⊥
not_none b noted game rows none there =
    false≢true (ap (list_any (λ x. x == game)) (sym none) ∙ (found b noted game rows ∙ there))

the_one : (b : Board) (noted : Option ℕ) (game one : ℕ) (rows : List Row) → filter b.fits (candidates_in noted b.white rows) ≡ one ∷ [] →
    has_found b noted game rows ≡ true → game ≡ one
the_one b noted game one rows alone there =
    let among : list_any (λ x. x == game) (one ∷ []) ≡ true = ap (list_any (λ x. x == game)) (sym alone) ∙ (found b noted game rows ∙ there) in
    sym ((Decides-eqb one game).0 (sym (or-false (one == game)) ∙ among))

any_append : {A : Type 0} (p : A → Bool) (xs : List A) (x : A) → p x ≡ true → list_any p (xs ++ x ∷ []) ≡ true
any_append p [] x h = or-false (p x) ∙ h
any_append p (y ∷ ys) x h = or_right (p y) (list_any p (ys ++ x ∷ [])) (any_append p ys x h)

-- a game that is newer than was noted, and has the board's times, may be the board's where White sits in it
there_by : (b : Board) (noted : Option ℕ) (game n : ℕ) (s : Bool) → is_newer noted game ≡ true → b.fits game ≡ true → ((n == game) && s) ≡ true →
    ((n == game) && ((is_newer noted n && s) && b.fits n)) ≡ true
there_by b noted game n s new fits h =
    subst (λ (m : ℕ). ((m == game) && ((is_newer noted m && s) && b.fits m)) ≡ true)
    (sym ((Decides-eqb n game).0 (and_parts (n == game) s h).0))
    (and_from (game == game) ((is_newer noted game && s) && b.fits game) ((Decides-eqb game game).1 refl)
    (and_from (is_newer noted game && s) (b.fits game) (and_from (is_newer noted game) s new (and_parts (n == game) s h).1) fits))

or_more : (a b c d : Bool) → (a ≡ true → c ≡ true) → (b ≡ true → d ≡ true) → (a || b) ≡ true → (c || d) ≡ true
or_more true b c d f g h = ap (λ (x : Bool). x || d) (f refl)
or_more false b c d f g h = or_right c d (g h)

found_by : (b : Board) (noted : Option ℕ) (game : ℕ) (rows : List Row) → is_newer noted game ≡ true → b.fits game ≡ true →
    has_game b.white game rows ≡ true → has_found b noted game rows ≡ true
found_by b noted game [] new fits h = absurd (false≢true h)
found_by b noted game (row ∷ rows) new fits h =
    or_more ((row.game == game) && sits b.white row.white) (has_game b.white game rows) (is_there b noted game row) (has_found b noted game rows)
    (there_by b noted game row.game (sits b.white row.white) new fits) (found_by b noted game rows new fits) h

-- ---- what always holds

abbrev IsNoneOr : List ℕ → ℕ → Type 0
IsNoneOr opened game = (opened ≡ []) ⊎ (opened ≡ game ∷ [])

record IsThere (b : Board) (noted : Option ℕ) (rows : List Row) (opened : List ℕ) : Type 0 where
  game : ℕ
  one : opened ≡ game ∷ []
  new : is_newer noted game ≡ true
  fits : b.fits game ≡ true
  there : has_game b.white game rows ≡ true

abbrev NoteHolds : Board → Option Reached → List ℕ → List Row → List ℕ → Type 0
NoteHolds b None given rows opened = opened ≡ []
NoteHolds b (Some (Opening noted)) given rows opened = IsNoNewer given noted × ((opened ≡ []) ⊎ IsThere b noted rows opened)
NoteHolds b (Some (Opened game)) given rows opened = IsNoneOr opened game
NoteHolds b (Some (Joined game)) given rows opened = IsNoneOr opened game

record IsOpening (note : Option Reached) : Type 0 where
  noted : Option ℕ
  is : note ≡ Some (Opening noted)

abbrev DoesHold : Option Step → Option Reached → List ℕ → List Row → List ℕ → Type 0
DoesHold None note given seen opened = Unit {0}
DoesHold (Some steps.Begin) note given seen opened = (note ≡ None) × TellNewer given (numbers_of seen)
DoesHold (Some steps.Pair) note given seen opened = IsOpening note × (opened ≡ [])
DoesHold (Some (steps.Take game)) note given seen opened = IsNoneOr opened game
DoesHold (Some (steps.Join game)) note given seen opened = Unit {0}
DoesHold (Some (steps.Note game)) note given seen opened = IsNoneOr opened game
DoesHold (Some (steps.Has game)) note given seen opened = Unit {0}
DoesHold (Some steps.Ask) note given seen opened = Unit {0}

record IsSound (b : Board) (s : Standing) : Type 0 where
  given : TellNewer s.given (numbers_of s.rows)
  note : NoteHolds b s.note s.given s.rows s.opened
  does : DoesHold s.does s.note s.given s.seen s.opened

-- ---- it looks

-- the game that was opened is among those that `start` finds
is_found : (b : Board) (noted : Option ℕ) (rows : List Row) (opened : List ℕ) (t : IsThere b noted rows opened) → has_found b noted t.game rows ≡ true
is_found b noted rows opened t = found_by b noted t.game rows t.new t.fits t.there

games_hold : (b : Board) (noted : Option ℕ) (given : List ℕ) (rows : List Row) (opened games : List ℕ) →
    filter b.fits (candidates_in noted b.white rows) ≡ games → NoteHolds b (Some (Opening noted)) given rows opened →
    DoesHold (Some (step_of_games games)) (Some (Opening noted)) given rows opened
games_hold b noted given rows opened [] e holds = (
  record { noted = noted; is = refl },
  elim holds.1 [ inl none ↦ none | inr there ↦ absurd (not_none b noted there.game rows e (is_found b noted rows opened there)) ],
)
games_hold b noted given rows opened (one ∷ []) e holds =
    elim holds.1 [
      | inl none ↦ inl none
      | inr there ↦ inr (there.one ∙ ap (λ (n : ℕ). n ∷ []) (the_one b noted there.game one rows e (is_found b noted rows opened there)))
    ]
games_hold b noted given rows opened (one ∷ two ∷ more) e holds = tt

if_holds : (game : ℕ) (note : Option Reached) (given : List ℕ) (rows : List Row) (opened : List ℕ) (x y z : Bool) → IsNoneOr opened game →
    DoesHold (Some (if x then steps.Ask else (if y then steps.Note game else (if z then steps.Join game else steps.Ask)))) note given rows opened
if_holds game note given rows opened true y z h = tt
if_holds game note given rows opened false true z h = h
if_holds game note given rows opened false false true h = tt
if_holds game note given rows opened false false false h = tt

seats_hold : (white black : List ℕ) (game : ℕ) (note : Option Reached) (given : List ℕ) (rows : List Row) (opened : List ℕ) (seats : Option Seats) →
    IsNoneOr opened game → DoesHold (Some (step_of_seats game white black seats)) note given rows opened
seats_hold white black game note given rows opened None h = tt
seats_hold white black game note given rows opened (Some seats) h =
    if_holds game note given rows opened (not (sits white seats.white)) (sits black seats.black) (is_free_for black seats.black) h

look_holds : (b : Board) (note : Option Reached) (given : List ℕ) (rows : List Row) (opened : List ℕ) (seats : Option Seats) →
    TellNewer given (numbers_of rows) → NoteHolds b note given rows opened →
    DoesHold (Some (step_at b note rows seats)) note given rows opened
look_holds b None given rows opened seats tell holds = (refl, tell)
look_holds b (Some (Opening noted)) given rows opened seats tell holds =
    games_hold b noted given rows opened (filter b.fits (candidates_in noted b.white rows)) refl holds
look_holds b (Some (Opened game)) given rows opened seats tell holds =
    seats_hold b.white b.black game (Some (Opened game)) given rows opened seats holds
look_holds b (Some (Joined game)) given rows opened seats tell holds = tt

-- ---- it does

more_given : (given more these : List ℕ) → TellNewer given these → TellNewer (given ++ more) these
more_given given more these tell n h =
    tell n (and_parts (is_newest given n) (is_newest more n) (sym (list_all-append (λ one. nat_lt one n) given more) ∙ h)).0

-- the same of one game
more_past : (given more : List ℕ) (this : Option ℕ) → IsNoNewer given this → IsNoNewer (given ++ more) this
more_past given more this tell n h =
    tell n (and_parts (is_newest given n) (is_newest more n) (sym (list_all-append (λ one. nat_lt one n) given more) ∙ h)).0

one_given : (given : List ℕ) (rows : List Row) (row : Row) → TellNewer given (numbers_of rows) →
    TellNewer (given ++ row.game ∷ []) (numbers_of (rows ++ row ∷ []))
one_given given rows row tell n h =
    let both = sym (list_all-append (λ one. nat_lt one n) given (row.game ∷ [])) ∙ h in
    ap (λ ns. is_newest ns n) (map-append (λ (r : Row). r.game) rows (row ∷ []))
    ∙ (list_all-append (λ one. nat_lt one n) (numbers_of rows) (row.game ∷ [])
    ∙ and_from (is_newest (numbers_of rows) n) (is_newest (row.game ∷ []) n)
    (tell n (and_parts (is_newest given n) (is_newest (row.game ∷ []) n) both).0)
    (and_parts (is_newest given n) (is_newest (row.game ∷ []) n) both).1)

row_there : (white : List ℕ) (game : ℕ) → ((game == game) && bytes_eq white white) ≡ true
row_there white game =
    and_from (game == game) (bytes_eq white white) ((Decides-eqb game game).1 refl) ((bytes_eq-Decides white white).1 refl)

one_opened : (opened : List ℕ) (game : ℕ) → opened ≡ [] → opened ++ game ∷ [] ≡ game ∷ []
one_opened opened game none = ap (λ (xs : List ℕ). xs ++ game ∷ []) none

-- the game is opened, and the note stays
open_holds : (b : Board) (note : Option Reached) (given : List ℕ) (rows : List Row) (opened : List ℕ) (game : ℕ) (is : IsOpening note) →
    opened ≡ [] → NoteHolds b note given rows opened → is_newest given game ≡ true → b.fits game ≡ true →
    NoteHolds b note (given ++ game ∷ []) (rows ++ row_of b game ∷ []) (opened ++ game ∷ [])
open_holds b note given rows opened game is none holds new fits =
    let at : NoteHolds b (Some (Opening is.noted)) given rows opened = subst (λ (n : Option Reached). NoteHolds b n given rows opened) is.is holds in
    subst (λ (n : Option Reached). NoteHolds b n (given ++ game ∷ []) (rows ++ row_of b game ∷ []) (opened ++ game ∷ [])) (sym is.is) (
      more_past given (game ∷ []) is.noted at.0,
      inr (record {
        game = game;
        one = one_opened opened game none;
        new = at.0 game new;
        fits = fits;
        there = any_append (λ (r : Row). (r.game == game) && sits b.white r.white) rows (row_of b game) (row_there b.white game);
      }),
    )

none_opened : (b : Board) (note : Option Reached) (given : List ℕ) (rows : List Row) (opened : List ℕ) → note ≡ None →
    NoteHolds b note given rows opened → opened ≡ []
none_opened b note given rows opened none holds = subst (λ (n : Option Reached). NoteHolds b n given rows opened) none holds

acted_sound : (b : Board) (s : Standing) (older : Option ℕ) (game : ℕ) (is_noted : Bool) (does : Option Step) → IsSound b s →
    DoesHold does s.note s.given s.seen s.opened → IsDone b older game does s → IsSound b (acted b older game is_noted does s)
acted_sound b s older game is_noted None sound holds done = sound
acted_sound b s older game is_noted (Some steps.Begin) sound holds done =
    let none = none_opened b s.note s.given s.rows s.opened holds.0 sound.note in
    record {
      given = sound.given;
      note = (λ n h. done n (holds.1 n h), inl none);
      does = (record { noted = older; is = refl }, none);
    }
acted_sound b s older game true (Some steps.Pair) sound holds done = record {
  given = one_given s.given s.rows (row_of b game) sound.given;
  note = inr (one_opened s.opened game holds.1);
  does = tt;
}
acted_sound b s older game false (Some steps.Pair) sound holds done = record {
  given = one_given s.given s.rows (row_of b game) sound.given;
  note = open_holds b s.note s.given s.rows s.opened game holds.0 holds.1 sound.note done.0 done.1;
  does = tt;
}
acted_sound b s older game is_noted (Some (steps.Take one)) sound holds done = record { given = sound.given; note = holds; does = tt }
acted_sound b s older game is_noted (Some (steps.Join one)) sound holds done = record { given = sound.given; note = sound.note; does = tt }
acted_sound b s older game is_noted (Some (steps.Note one)) sound holds done = record { given = sound.given; note = holds; does = tt }
acted_sound b s older game is_noted (Some (steps.Has one)) sound holds done = record { given = sound.given; note = sound.note; does = tt }
acted_sound b s older game is_noted (Some steps.Ask) sound holds done = record { given = sound.given; note = sound.note; does = tt }

-- ---- the table changes

is_opened : (opened : List ℕ) (game : ℕ) → opened ≡ game ∷ [] → list_any (λ one. one == game) opened ≡ true
is_opened opened game one =
    subst (λ (xs : List ℕ). list_any (λ x. x == game) xs ≡ true) (sym one) (or-false (game == game) ∙ (Decides-eqb game game).1 refl)

pass_note : (b : Board) (note : Option Reached) (given more : List ℕ) (old new : List Row) (opened : List ℕ) → Stays b note opened old new →
    NoteHolds b note given old opened → NoteHolds b note (given ++ more) new opened
pass_note b None given more old new opened stays holds = holds
pass_note b (Some (Opening noted)) given more old new opened stays holds = (
  more_past given more noted holds.0,
  elim holds.1 [
    | inl none ↦ inl none
    | inr there ↦ inr (record {
      game = there.game;
      one = there.one;
      new = there.new;
      fits = there.fits;
      there = stays there.game (is_opened opened there.game there.one) there.there;
    })
  ],
)
pass_note b (Some (Opened game)) given more old new opened stays holds = holds
pass_note b (Some (Joined game)) given more old new opened stays holds = holds

pass_does : (does : Option Step) (note : Option Reached) (given more : List ℕ) (seen : List Row) (opened : List ℕ) →
    DoesHold does note given seen opened → DoesHold does note (given ++ more) seen opened
pass_does None note given more seen opened holds = tt
pass_does (Some steps.Begin) note given more seen opened holds = (holds.0, more_given given more (numbers_of seen) holds.1)
pass_does (Some steps.Pair) note given more seen opened holds = holds
pass_does (Some (steps.Take game)) note given more seen opened holds = holds
pass_does (Some (steps.Join game)) note given more seen opened holds = tt
pass_does (Some (steps.Note game)) note given more seen opened holds = holds
pass_does (Some (steps.Has game)) note given more seen opened holds = tt
pass_does (Some steps.Ask) note given more seen opened holds = tt

-- ---- all of it

sound_more : (b : Board) (event : RunStep) (s : Standing) → IsSound b s → IsAllowed b event s → IsSound b (happened b event s)
sound_more b (Looks seats) s sound allowed = record {
  given = sound.given;
  note = sound.note;
  does = look_holds b s.note s.given s.rows s.opened seats sound.given sound.note;
}
sound_more b (Acts older game is_noted) s sound allowed = acted_sound b s older game is_noted s.does sound sound.does allowed
sound_more b Dies s sound allowed = record { given = sound.given; note = sound.note; does = tt }
sound_more b (Passes rows more) s sound allowed = record {
  given = allowed.0;
  note = pass_note b s.note s.given more s.rows rows s.opened allowed.1 sound.note;
  does = pass_does s.does s.note s.given more s.seen s.opened sound.does;
}

sound_all : (b : Board) (events : List RunStep) (s : Standing) → IsSound b s → AreAllowed b events s → IsSound b (after_all b events s)
sound_all b [] s sound allowed = sound
sound_all b (event ∷ events) s sound allowed = sound_all b events (happened b event s) (sound_more b event s sound allowed.0) allowed.1

sound_first : (b : Board) (s : Standing) → IsBeginning s → IsSound b s
sound_first b s is = record {
  given = is.given;
  note = subst (λ (n : Option Reached). NoteHolds b n s.given s.rows s.opened) (sym is.note) is.opened;
  does = subst (λ (d : Option Step). DoesHold d s.note s.given s.seen s.opened) (sym is.does) tt;
}

-- ---- what is promised

short_none : (opened : List ℕ) → opened ≡ [] → length opened ≤ 1
short_none opened none = subst (λ (xs : List ℕ). length xs ≤ 1) (sym none) (omega arith)

short_one : (opened : List ℕ) (game : ℕ) → opened ≡ game ∷ [] → length opened ≤ 1
short_one opened game one = subst (λ (xs : List ℕ). length xs ≤ 1) (sym one) (omega arith)

short : (opened : List ℕ) (game : ℕ) → IsNoneOr opened game → length opened ≤ 1
short opened game holds = elim holds [ inl none ↦ short_none opened none | inr one ↦ short_one opened game one ]

once_by : (b : Board) (note : Option Reached) (given : List ℕ) (rows : List Row) (opened : List ℕ) → NoteHolds b note given rows opened → length opened ≤ 1
once_by b None given rows opened holds = short_none opened holds
once_by b (Some (Opening noted)) given rows opened holds =
    elim holds.1 [ inl none ↦ short_none opened none | inr there ↦ short_one opened there.game there.one ]
once_by b (Some (Opened game)) given rows opened holds = short opened game holds
once_by b (Some (Joined game)) given rows opened holds = short opened game holds

no_other : (opened : List ℕ) (game : ℕ) → IsNoneOr opened game → list_any (λ one. not (one == game)) opened ≡ false
no_other opened game holds =
    let P : List ℕ → Type 0 = λ xs. list_any (λ one. not (one == game)) xs ≡ false in
    elim holds [
      | inl none ↦ subst P (sym none) refl
      | inr one ↦ subst P (sym one) (or-false (not (game == game)) ∙ ap not ((Decides-eqb game game).1 refl))
    ]

noted_by : (b : Board) (note : Option Reached) (given : List ℕ) (rows : List Row) (opened : List ℕ) → NoteHolds b note given rows opened →
    (game : ℕ) → game_noted note ≡ Some game → list_any (λ one. not (one == game)) opened ≡ false
noted_by b None given rows opened holds game e = cc
noted_by b (Some (Opening noted)) given rows opened holds game e = cc
noted_by b (Some (Opened one)) given rows opened holds game e =
    let same : one ≡ game = cc in
    subst (λ (g : ℕ). list_any (λ x. not (x == g)) opened ≡ false) same (no_other opened one holds)
noted_by b (Some (Joined one)) given rows opened holds game e =
    let same : one ≡ game = cc in
    subst (λ (g : ℕ). list_any (λ x. not (x == g)) opened ≡ false) same (no_other opened one holds)

pub one_game : (b : Board) (s : Standing) (events : List RunStep) → IsBeginning s → AreAllowed b events s → HasOneGame (after_all b events s)
one_game b s events is allowed =
    let end = after_all b events s in
    let sound = sound_all b events s (sound_first b s is) allowed in
    record {
      once = once_by b end.note end.given end.rows end.opened sound.note;
      noted = noted_by b end.note end.given end.rows end.opened sound.note;
    }
