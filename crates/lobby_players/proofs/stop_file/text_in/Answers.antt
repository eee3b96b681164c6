use Rattle.std.proofs.Common.{◌≡◌, Bool, true, false, ℕ, List, [], Bor, Result, Ok, Err, refl, sym, ap, ◌∙◌}
use Rattle.std.specs.Prelude.{IsUtf8, if◌then◌else◌}
use Rattle.std.specs.Str.{is_utf8}
use Rattle.std.specs.Result.{MatchResult, result_unwrap_or}
use Rattle.std.proofs.lemmas.Str.{IsUtf8-from_is_utf8, is_utf8-from_IsUtf8}
use Rattle.lobby_players.specs.Stopping.{text_in}
use Rattle.lobby_players.proofs.stop_file.text_in.Goals as goal

is_none : (text : List ℕ) (b : Bool) → is_utf8 text ≡ b → ¬ IsUtf8 text → is_utf8 text ≡ false
is_none text true is other = absurd (other (IsUtf8-from_is_utf8 text is))
is_none text false is other = is

chosen : (text : List ℕ) (b : Bool) → is_utf8 text ≡ b → (if b then text else []) ≡ text_in text
chosen text b is = ap (λ c. if c then text else []) (sym is)

-- what is shown of bytes: the text, or nothing where they are none
shown_of : {E : Type 0} (P : E → Type 0) (text : List ℕ) (read : Result (Bor (List ℕ)) E) (none shown : Bor (List ℕ)) →
    MatchResult read (λ s. (s.now ≡ text) × IsUtf8 text) (λ e. (¬ IsUtf8 text) × P e) → none.now ≡ [] →
    shown ≡ result_unwrap_or read none → shown.now ≡ text_in text
shown_of P text (Ok s) none shown cases empty is =
    ap (λ (b : Bor (List ℕ)). b.now) is ∙ (cases.0 ∙ chosen text true (is_utf8-from_IsUtf8 text cases.1))
shown_of P text (Err e) none shown cases empty is =
    ap (λ (b : Bor (List ℕ)). b.now) is ∙ (empty ∙ chosen text false (is_none text (is_utf8 text) refl cases.0))

pub returns : goal.returns
returns c =
    shown_of _ c.args.bytes.now c.from_utf8.result _ c.unwrap_or.result c.from_utf8.ensures.cases refl c.unwrap_or.ensures
