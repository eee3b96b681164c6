-- The full name of a player, as it is told.
use Rattle.std.specs.Prelude.{ℕ, Bool, true, false, ◌==◌, List, [], ◌∷◌, ◌++◌, codes, chars, encode_utf8, if◌then◌else◌}
use Rattle.lobby_words.specs.declared.initials.NameForm.{NameForm}
use Rattle.lobby_words.specs.declared.initials.NameForm.TheVariants as forms

-- the form in which full names are told, where initials are asked for or not
abbrev pub form_asked : Bool → NameForm
form_asked true = forms.Initials
form_asked false = forms.Full

-- what is told of a character of a name: a space, and one that begins a word, with a full stop
abbrev pub initial_at : Bool → ℕ → List ℕ
initial_at begins c = if c == 32 then codes " " else (if begins then encode_utf8 c ++ codes "." else [])

abbrev pub initials_from : Bool → List ℕ → List ℕ
initials_from begins [] = []
initials_from begins (c ∷ cs) = initial_at begins c ++ initials_from (c == 32) cs

-- The initials of a full name: of each of its words, which spaces part, the first character with a full stop, and the
-- spaces. Those of `Anna Maria Lee` are `A. M. L.`
abbrev pub initials : List ℕ → List ℕ
initials full_name = initials_from true (chars full_name)

-- a full name as it is told in this form
abbrev pub name_told : NameForm → List ℕ → List ℕ
name_told forms.Full full_name = full_name
name_told forms.Initials full_name = initials full_name
