-- Lines as bytes.
use Rattle.std.proofs.Common.{ℕ, ◌≡◌, Bool, true, false, List, [], ◌∷◌, ◌++◌, Option, Some, None, refl, ap, sym, ◌∙◌, append_assoc, append-nil}
use Rattle.std.proofs.lemmas.Bool.{false≢true}
use Rattle.std.proofs.lemmas.Slice.Eq.{bytes_eq-Decides}
use Rattle.std.specs.Prelude.{if◌then◌else◌}
use Rattle.lobby_words.specs.Answers.{ended}
use Rattle.lobby_words.specs.Lines.{bytes_of}
use Rattle.lobby_words.specs.Naming.{is_said}
use Rattle.lobby_table.specs.Sending.{name_line, name_lines, notice_lines, act_lines}
use Rattle.lobby_table.specs.Owed.{ForAct, Owed, Nobody, Naming, Asker, Pairer, Behind, owed_last, owed_acted}
use Rattle.lobby_table.specs.Owed.{owed_lines}

pub one_line : (line : List ℕ) → bytes_of (line ∷ []) ≡ ended line
one_line line = append-nil (ended line)

pub two_lines : (first second : List ℕ) → bytes_of (first ∷ second ∷ []) ≡ ended first ++ ended second
two_lines first second = ap (λ (t : List ℕ). ended first ++ t) (append-nil (ended second))

-- bytes behind which a line more is put
pub after_one : (old mid new first : List ℕ) → mid ≡ old ++ ended first → new ≡ mid → new ≡ old ++ bytes_of (first ∷ [])
after_one old mid new first a b = b ∙ (a ∙ ap (λ (t : List ℕ). old ++ t) (sym (one_line first)))

pub after_two : (old mid new first second : List ℕ) → mid ≡ old ++ ended first → new ≡ mid ++ ended second →
    new ≡ old ++ bytes_of (first ∷ second ∷ [])
after_two old mid new first second a b =
    b ∙ (ap (λ (t : List ℕ). t ++ ended second) a
    ∙ (append_assoc old (ended first) (ended second) ∙ ap (λ (t : List ℕ). old ++ t) (sym (two_lines first second))))

pub is_said_same : (said : Option (List ℕ)) (name : List ℕ) → is_said said name ≡ true → said ≡ Some name
is_said_same None name h = absurd (false≢true h)
is_said_same (Some before) name h = ap Some ((bytes_eq-Decides before name).0 h)

-- the lines of an act, put together
bytes_if : (b : Bool) (old name line : List ℕ) (rest : List (List ℕ)) →
    ((old ++ bytes_of (if b then [] else name_line name ∷ [])) ++ ended line) ++ bytes_of rest
    ≡ old ++ bytes_of (if b then line ∷ rest else name_line name ∷ line ∷ rest)
bytes_if true old name line rest =
    ap (λ (t : List ℕ). (t ++ ended line) ++ bytes_of rest) (append-nil old) ∙ append_assoc old (ended line) (bytes_of rest)
bytes_if false old name line rest =
    append_assoc (old ++ bytes_of (name_line name ∷ [])) (ended line) (bytes_of rest)
    ∙ (append_assoc old (bytes_of (name_line name ∷ [])) (ended line ++ bytes_of rest)
    ∙ ap (λ (t : List ℕ). old ++ (t ++ (ended line ++ bytes_of rest))) (one_line (name_line name)))

pub act_bytes : (said : Option (List ℕ)) (name line : List ℕ) (game : Option ℕ) (old mid next new : List ℕ) →
    mid ≡ old ++ bytes_of (name_lines said name) → next ≡ mid ++ ended line → new ≡ next ++ bytes_of (notice_lines game) →
    new ≡ old ++ bytes_of (act_lines said name line game)
act_bytes said name line game old mid next new a b c =
    c ∙ (ap (λ (t : List ℕ). t ++ bytes_of (notice_lines game)) (b ∙ ap (λ (t : List ℕ). t ++ ended line) a)
    ∙ bytes_if (is_said said name) old name line (notice_lines game))

-- for whom the answers to them are
owed_if : (b : Bool) (who : Owed) (name line : List ℕ) (game : Option ℕ) (old : List Owed) →
    ((old ++ owed_last (Naming name) (if b then [] else name_line name ∷ [])) ++ who ∷ []) ++ owed_last Behind (notice_lines game)
    ≡ old ++ owed_acted who (if b then line ∷ notice_lines game else name_line name ∷ line ∷ notice_lines game)
owed_if true who name line None old = append-nil _ ∙ ap (λ (t : List Owed). t ++ who ∷ []) (append-nil old)
owed_if true who name line (Some game) old =
    ap (λ (t : List Owed). (t ++ who ∷ []) ++ Nobody ∷ Behind ∷ []) (append-nil old) ∙ append_assoc old (who ∷ []) (Nobody ∷ Behind ∷ [])
owed_if false who name line None old = append-nil _ ∙ append_assoc old (Naming name ∷ []) (who ∷ [])
owed_if false who name line (Some game) old =
    append_assoc (old ++ Naming name ∷ []) (who ∷ []) (Nobody ∷ Behind ∷ []) ∙ append_assoc old (Naming name ∷ []) (who ∷ Nobody ∷ Behind ∷ [])

of_act : (c : ℕ) (by text : List ℕ) (lines : List (List ℕ)) → owed_acted (Asker c (ForAct by text)) lines ≡ owed_lines (Asker c (ForAct by text)) lines
of_act c by text [] = refl
of_act c by text (line ∷ lines) = refl

pub act_owed : (said : Option (List ℕ)) (c : ℕ) (by text name line : List ℕ) (game : Option ℕ) (old mid next new : List Owed) →
    mid ≡ old ++ owed_last (Naming name) (name_lines said name) → next ≡ mid ++ Asker c (ForAct by text) ∷ [] →
    new ≡ next ++ owed_last Behind (notice_lines game) → new ≡ old ++ owed_lines (Asker c (ForAct by text)) (act_lines said name line game)
act_owed said c by text name line game old mid next new a b d =
    d ∙ (ap (λ (t : List Owed). t ++ owed_last Behind (notice_lines game)) (b ∙ ap (λ (t : List Owed). t ++ Asker c (ForAct by text) ∷ []) a)
    ∙ (owed_if (is_said said name) (Asker c (ForAct by text)) name line game old
    ∙ ap (λ (t : List Owed). old ++ t) (of_act c by text (act_lines said name line game))))

-- the same, where nothing is asked behind it
pub alone_bytes : (said : Option (List ℕ)) (name line : List ℕ) (old mid new : List ℕ) → mid ≡ old ++ bytes_of (name_lines said name) →
    new ≡ mid ++ ended line → new ≡ old ++ bytes_of (act_lines said name line None)
alone_bytes said name line old mid new a b = act_bytes said name line None old mid new new a b (sym (append-nil new))

pub alone_owed : (said : Option (List ℕ)) (c : ℕ) (by text name line : List ℕ) (old mid new : List Owed) →
    mid ≡ old ++ owed_last (Naming name) (name_lines said name) → new ≡ mid ++ Asker c (ForAct by text) ∷ [] →
    new ≡ old ++ owed_lines (Asker c (ForAct by text)) (act_lines said name line None)
alone_owed said c by text name line old mid new a b = act_owed said c by text name line None old mid new new a b (sym (append-nil new))

pair_if : (b : Bool) (c : ℕ) (by black text name line : List ℕ) (old : List Owed) →
    (old ++ owed_last (Naming name) (if b then [] else name_line name ∷ [])) ++ Pairer c by black text ∷ []
    ≡ old ++ owed_lines (Pairer c by black text) (if b then line ∷ [] else name_line name ∷ line ∷ [])
pair_if true c by black text name line old = ap (λ (t : List Owed). t ++ Pairer c by black text ∷ []) (append-nil old)
pair_if false c by black text name line old = append_assoc old (Naming name ∷ []) (Pairer c by black text ∷ [])

pub pair_owed : (said : Option (List ℕ)) (c : ℕ) (by black text name line : List ℕ) (old mid new : List Owed) →
    mid ≡ old ++ owed_last (Naming name) (name_lines said name) → new ≡ mid ++ Pairer c by black text ∷ [] →
    new ≡ old ++ owed_lines (Pairer c by black text) (act_lines said name line None)
pair_owed said c by black text name line old mid new a b =
    b ∙ (ap (λ (t : List Owed). t ++ Pairer c by black text ∷ []) a ∙ pair_if (is_said said name) c by black text name line old)
