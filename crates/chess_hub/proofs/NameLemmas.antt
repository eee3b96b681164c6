-- Names and commands over several lines.
use Rattle.std.proofs.Common.{◌≡◌, ◌≤◌, ℕ, suc, Bool, true, false, length, arith, ◌+◌, List, [], ◌∷◌, ◌++◌, take, drop, refl, ap, sym, ◌∙◌, append_assoc, Option}
use Rattle.std.specs.Prelude.{if◌then◌else◌, is_none}
use Rattle.chess_entry.specs.declared.commands.Command.{Command}
use Rattle.chess_hub.specs.declared.turn.TurnLine.{TurnLine}
use Rattle.chess_hub.specs.Answers.{names_after, names_over, asked, commands_of, own_answer}
use Rattle.chess_hub.specs.Delivery.{asking_count}

pub names_over-push : (at : ℕ) (names : ℕ → Option (List ℕ)) (xs : List TurnLine) (t : TurnLine) →
    names_over at names (xs ++ t ∷ []) ≡ names_after at (names_over at names xs) t
names_over-push at names [] t = refl
names_over-push at names (x ∷ xs) t = names_over-push at (names_after at names x) xs t

-- the name of a session after one line more
pub name-step : (at : ℕ) (names : ℕ → Option (List ℕ)) (lines : List TurnLine) (i sid : ℕ) (t : TurnLine)
    (name : Option (List ℕ)) → take (i + 1) lines ≡ take i lines ++ t ∷ [] →
    name ≡ names_over at names (take i lines) sid →
    names_over at names (take (i + 1) lines) sid ≡ names_after at (λ _. name) t sid
name-step at names lines i sid t name more is =
    ap (λ xs. names_over at names xs sid) more
    ∙ ap (λ (f : ℕ → Option (List ℕ)). f sid) (names_over-push at names (take i lines) t)
    ∙ ap (λ n. names_after at (λ _. n) t sid) (sym is)

pub commands-step : (at : ℕ) (names : ℕ → Option (List ℕ)) (lines : List TurnLine) (i : ℕ) (t : TurnLine)
    (done : List Command) →
    drop i lines ≡ t ∷ drop (i + 1) lines → take (i + 1) lines ≡ take i lines ++ t ∷ [] →
    commands_of at names lines ≡ done ++ commands_of at (names_over at names (take i lines)) (drop i lines) →
    commands_of at names lines ≡ (done ++ asked at (names_over at names (take i lines) t.sid) t.line)
    ++ commands_of at (names_over at names (take (i + 1) lines)) (drop (i + 1) lines)
commands-step at names lines i t done split more h =
    let before = names_over at names (take i lines) in
    h ∙ ap (λ xs. done ++ commands_of at before xs) split
    ∙ sym (append_assoc done (asked at (before t.sid) t.line) (commands_of at (names_after at before t) (drop (i + 1) lines)))
    ∙ ap (λ (ns : ℕ → Option (List ℕ)). (done ++ asked at (before t.sid) t.line) ++ commands_of at ns (drop (i + 1) lines))
    (sym (names_over-push at names (take i lines) t) ∙ ap (names_over at names) (sym more))

one-few : (b : Bool) (n m : ℕ) → n ≤ m → (if b then 1 else 0) + n ≤ suc m
one-few true n m h = omega arith
one-few false n m h = omega arith

pub asking-few : (at : ℕ) (lines : List TurnLine) → asking_count at lines ≤ length lines
asking-few at [] = omega arith
asking-few at (t ∷ lines) =
    let rest : asking_count at lines ≤ length lines = asking-few at lines in
    one-few (is_none (own_answer at t.line)) (asking_count at lines) (length lines) rest
