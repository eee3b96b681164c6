-- How many acts were refused in a game: what the desk keeps is what the answers say.
use Rattle.std.proofs.Common.{ℕ, suc, ◌≡◌, ◌+◌, ◌==◌, ◌&&◌, Bool, true, false, not, List, [], ◌∷◌, ◌++◌, length, filter, cond, Option, None, Some, refl, sym, ap, ◌∙◌, subst, append-nil, arith}
use Rattle.std.specs.Prelude.{if◌then◌else◌}
use Rattle.std.proofs.lemmas.Bool.{false≢true}
use Rattle.std.proofs.lemmas.Bool.Decides.{Decides-eqb}
use Rattle.server_answers.proofs.Apart.{refusal_none}
use Rattle.lobby_words.specs.Answers.{act_game, first_line, is_table_act, answer, is_entered}
use Rattle.lobby_words.specs.declared.players.Player.{Player}
use Rattle.lobby_table.specs.declared.refusals.RefusedActs.{RefusedActs}
use Rattle.lobby_desk.specs.Events.{DeskInput, Opened, Closed, Said, Hurried, Heard, ServerTurned, Renewed, Linked, Found}
use Rattle.lobby_table.specs.Owed.{ForItself, ForPositions, ForTable, ForGame, ForAct, Owed, Nobody, Naming, Asker}
use Rattle.lobby_table.specs.Owed.{Dropper, Pairer, Followers, Behind}
use Rattle.lobby_table.specs.Refusals.{is_of_seated, is_refusal, game_named, refused_game, count_in, count_of}
use Rattle.lobby_table.specs.Refusals.{without, cleared, one_more}
use Rattle.lobby_desk.specs.Tellings.{Known, is_counted, refused_heard, refused_next, refused_now}
use Rattle.lobby_table.specs.Owed.{is_number}
use Rattle.lobby_desk.specs.History.{Step, known_in, Acted, acted_for, acted_next, acted_now, acted_in, refuses, since, refused_since}

-- ---- what is kept of games

-- who is one is not another
not_other : (a g h : ℕ) (t : Bool) → (a == g) ≡ t → (a == h) ≡ true → (g == h) ≡ false → (a == g) ≡ false
not_other a g h true e same other =
    absurd (false≢true (sym other ∙ (Decides-eqb g h).1 (sym ((Decides-eqb a g).0 e) ∙ (Decides-eqb a h).0 same)))
not_other a g h false e same other = e

-- of a game that is taken off, what stands behind counts
gone_at : (r : RefusedActs) (kept more : List RefusedActs) (game n : ℕ) (t : Bool) → (r.game == game) ≡ t → count_in game (kept ++ more) ≡ n →
    count_in game (cond (not t) (r ∷ kept) kept ++ more) ≡ n
gone_at r kept more game n true e is = is
gone_at r kept more game n false e is = ap (λ (b : Bool). if b then r.count else count_in game (kept ++ more)) e ∙ is

gone : (game : ℕ) (refused more : List RefusedActs) → count_in game (without game refused ++ more) ≡ count_in game more
gone game [] more = refl
gone game (r ∷ refused) more =
    gone_at r (without game refused) more game (count_in game more) (r.game == game) refl (gone game refused more)

-- of another it is the same
kept_at : (r : RefusedActs) (kept more refused : List RefusedActs) (game other : ℕ) (t : Bool) → (r.game == other) ≡ t → (game == other) ≡ false →
    count_in game (kept ++ more) ≡ count_in game refused →
    count_in game (cond (not t) (r ∷ kept) kept ++ more) ≡ count_in game (r ∷ refused)
kept_at r kept more refused game other true e h is =
    is ∙ sym (ap (λ (b : Bool). if b then r.count else count_in game refused) (not_other r.game game other (r.game == game) refl e h))
kept_at r kept more refused game other false e h is = ap (λ (n : ℕ). if r.game == game then r.count else n) is

kept : (game other : ℕ) (refused more : List RefusedActs) → (game == other) ≡ false → count_in game more ≡ 0 →
    count_in game (without other refused ++ more) ≡ count_in game refused
kept game other [] more h none = none
kept game other (r ∷ refused) more h none =
    kept_at r (without other refused) more refused game other (r.game == other) refl h (kept game other refused more h none)

same_turned : (a b : ℕ) (t : Bool) → (b == a) ≡ t → (a == b) ≡ false → (b == a) ≡ false
same_turned a b true e h = absurd (false≢true (sym h ∙ (Decides-eqb a b).1 (sym ((Decides-eqb b a).0 e))))
same_turned a b false e h = e

-- ---- an answer to an act

-- what is accepted is not refused
not_refused : (now : List ℕ) → is_entered now ≡ true → is_refusal now ≡ false
not_refused now h = ap is_of_seated (refusal_none (first_line now) h)

none_refused : (text now : List ℕ) → is_entered now ≡ true → refused_game text now ≡ None
none_refused text now h = ap (λ (b : Bool). if b && not (is_table_act text) then game_named text else None) (not_refused now h)

-- one more was refused, or none
refused_at : (t : Bool) (game other : ℕ) (refused : List RefusedActs) (n : ℕ) → (game == other) ≡ t → count_in game refused ≡ n →
    count_in game (one_more (Some other) refused) ≡ (if t then suc n else n)
refused_at true game other refused n e is =
    let same : game ≡ other = (Decides-eqb game other).0 e in
    let own : (other == other) ≡ true = (Decides-eqb other other).1 refl in
    let found : count_in other refused ≡ n = ap (λ (g : ℕ). count_in g refused) (sym same) ∙ is in
    let counted : count_in other refused + 1 ≡ suc n = omega (arith, found) in
    ap (λ (g : ℕ). count_in g (without other refused ++ record { game = other; count = count_in other refused + 1 } ∷ [])) same
    ∙ (gone other refused (record { game = other; count = count_in other refused + 1 } ∷ [])
    ∙ (ap (λ (b : Bool). if b then count_in other refused + 1 else 0) own ∙ counted))
refused_at false game other refused n e is =
    kept game other refused (record { game = other; count = count_in other refused + 1 } ∷ []) e
    (ap (λ (b : Bool). if b then count_in other refused + 1 else 0) (same_turned game other (other == game) refl e))
    ∙ is

counted_if : (t : Bool) (act : Acted) (acts : List Acted) → length (cond t (act ∷ acts) acts) ≡ (if t then suc (length acts) else length acts)
counted_if true act acts = refl
counted_if false act acts = refl

refused_more : (o : Option ℕ) (act : Acted) (acts : List Acted) (game : ℕ) (refused : List RefusedActs) → count_in game refused ≡ length acts →
    count_in game (one_more o refused) ≡ length (cond (is_number game o) (act ∷ acts) acts)
refused_more None act acts game refused is = is
refused_more (Some other) act acts game refused is =
    refused_at (game == other) game other refused (length acts) refl is ∙ sym (counted_if (game == other) act acts)

-- an act was accepted in a game, or in another
accepted_at : (t : Bool) (game other : ℕ) (act : Acted) (acts : List Acted) (refused : List RefusedActs) → (game == other) ≡ t →
    refuses game act ≡ false → count_in game refused ≡ length (filter (refuses game) acts) →
    count_in game (without other refused) ≡ length (filter (refuses game) (if t then [] else act ∷ acts))
accepted_at true game other act acts refused e h is =
    ap (λ (g : ℕ). count_in game (without g refused)) (sym ((Decides-eqb game other).0 e))
    ∙ (ap (count_in game) (sym (append-nil (without game refused))) ∙ gone game refused [])
accepted_at false game other act acts refused e h is =
    ap (count_in game) (sym (append-nil (without other refused)))
    ∙ (kept game other refused [] e refl
    ∙ (is ∙ sym (ap (λ (b : Bool). length (cond b (act ∷ filter (refuses game) acts) (filter (refuses game) acts))) h)))

accepted_more : (o : Option ℕ) (game : ℕ) (act : Acted) (acts : List Acted) (refused : List RefusedActs) → refuses game act ≡ false →
    count_in game refused ≡ length (filter (refuses game) acts) →
    count_in game (cleared o refused) ≡ length (filter (refuses game) (if is_number game o then [] else act ∷ acts))
accepted_more None game act acts refused h is =
    is ∙ sym (ap (λ (b : Bool). length (cond b (act ∷ filter (refuses game) acts) (filter (refuses game) acts))) h)
accepted_more (Some other) game act acts refused h is = accepted_at (game == other) game other act acts refused refl h is

told_at : (t : Bool) (text now : List ℕ) (game : ℕ) (acts : List Acted) (refused : List RefusedActs) → is_entered now ≡ t →
    count_in game refused ≡ length (filter (refuses game) (since game acts)) →
    count_in game (if t then cleared (act_game now) refused else one_more (refused_game text now) refused)
    ≡ length (filter (refuses game) (if t && is_number game (act_game now) then [] else record { text = text; answer = now } ∷ since game acts))
told_at true text now game acts refused e is =
    accepted_more (act_game now) game (record { text = text; answer = now }) (since game acts) refused
    (ap (is_number game) (none_refused text now e)) is
told_at false text now game acts refused e is =
    refused_more (refused_game text now) (record { text = text; answer = now }) (filter (refuses game) (since game acts)) game refused is

-- ---- over a whole run

-- these are as many as are kept
abbrev pub AreCounted : List RefusedActs → List Acted → Type 0
AreCounted refused acts = (game : ℕ) → count_in game refused ≡ refused_since (Some game) acts

heard_counted : (o : Owed) (now : List ℕ) (refused : List RefusedActs) (acts : List Acted) → AreCounted refused acts →
    AreCounted (refused_heard o now refused) (acted_for o now ++ acts)
heard_counted Nobody now refused acts h = h
heard_counted (Naming name) now refused acts h = h
heard_counted (Asker c ForItself) now refused acts h = h
heard_counted (Asker c ForPositions) now refused acts h = h
heard_counted (Asker c ForTable) now refused acts h = h
heard_counted (Asker c (ForGame watched)) now refused acts h = h
heard_counted (Asker c (ForAct by text)) now refused acts h = λ game. told_at (is_entered now) text now game acts refused refl (h game)
heard_counted (Dropper c by text) now refused acts h = h
heard_counted (Pairer c by black text) now refused acts h = λ game. told_at (is_entered now) text now game acts refused refl (h game)
heard_counted (Followers noticed act is_table) now refused acts h = h
heard_counted Behind now refused acts h = h

next_counted : (owed : List Owed) (now : List ℕ) (refused : List RefusedActs) (acts : List Acted) → AreCounted refused acts →
    AreCounted (refused_next owed now refused) (acted_next owed now ++ acts)
next_counted [] now refused acts h = h
next_counted (o ∷ owed) now refused acts h = heard_counted o now refused acts h

now_counted : (event : DeskInput) (k : Known) (acts : List Acted) → AreCounted k.refused acts →
    AreCounted (refused_now event k) (acted_now event k ++ acts)
now_counted (Opened c) k acts h = h
now_counted (Closed c) k acts h = h
now_counted (Said c text at) k acts h = h
now_counted (Hurried c) k acts h = h
now_counted (Heard line) k acts h =
    elim (is_counted k line) as (λ b. AreCounted (if b then refused_next k.owed (answer k.begun line) k.refused else k.refused)
    ((if b then acted_next k.owed (answer k.begun line) else []) ++ acts)) [
      | true ↦ next_counted k.owed (answer k.begun line) k.refused acts h
      | false ↦ h
    ]
now_counted (Renewed later) k acts h = h
now_counted (Linked c text later token) k acts h = h
now_counted (ServerTurned is_here) k acts h = h
now_counted (Found finding) k acts h = h

are_counted : (players : List Player) (past : List Step) → AreCounted (known_in players past).refused (acted_in players past)
are_counted players [] = λ game. refl
are_counted players (s ∷ past) = now_counted s.event (known_in players past) (acted_in players past) (are_counted players past)

pub all_counted : (players : List Player) (past : List Step) (o : Option ℕ) →
    count_of o (known_in players past).refused ≡ refused_since o (acted_in players past)
all_counted players past None = refl
all_counted players past (Some game) = are_counted players past game
