use Rattle.std.proofs.Common.{ℕ, ◌≡◌, List, [], Bor, Result, Ok, Err, refl, ap, ◌∙◌}
use Rattle.std.specs.Prelude.{IsUtf8}
use Rattle.std.proofs.lemmas.Result.{on_ok_weaker}
use Rattle.std.specs.Result.{MatchResult, result_unwrap_or}
use Rattle.lobby_talk.proofs.said.say_to_desk.Goals as goal

-- what is shown of a text: the text, or nothing where it is none
shown_of : {E : Type 0} (P : E → Type 0) (text : List ℕ) (read : Result (Bor (List ℕ)) E) (none shown : Bor (List ℕ)) →
    MatchResult read (λ s. (s.now ≡ text) × IsUtf8 text) (λ e. (¬ IsUtf8 text) × P e) → none.now ≡ [] →
    shown ≡ result_unwrap_or read none → (IsUtf8 text → shown.now ≡ text) × (¬ IsUtf8 text → shown.now ≡ [])
shown_of P text (Ok s) none shown cases empty is =
    (λ _. ap (λ (b : Bor (List ℕ)). b.now) is ∙ cases.0, λ no. absurd (no cases.1))
shown_of P text (Err e) none shown cases empty is =
    (λ yes. absurd (cases.0 yes), λ _. ap (λ (b : Bor (List ℕ)). b.now) is ∙ empty)

pub returns-clause-said : goal.returns-clause-said
returns-clause-said g c =
    let text = c.args.text.now in
    let shown = c.unwrap_or-shown.result.now in
    let both = shown_of _ text c.from_utf8.result _ c.unwrap_or-shown.result c.from_utf8.ensures.cases refl c.unwrap_or-shown.ensures in
    on_ok_weaker c.say.result (λ says. (shown, both.0, both.1, says)) c.say.ensures.says

pub returns-clause-decided : goal.returns-clause-decided
returns-clause-decided g c =
    let text = c.args.text.now in
    let shown = c.unwrap_or-shown.result.now in
    let both = shown_of _ text c.from_utf8.result _ c.unwrap_or-shown.result c.from_utf8.ensures.cases refl c.unwrap_or-shown.ensures in
    on_ok_weaker c.say.result (λ is. (shown, both.0, both.1, is)) c.say.ensures.decided

pub returns-clause-changed : goal.returns-clause-changed
returns-clause-changed g c =
    let text = c.args.text.now in
    let shown = c.unwrap_or-shown.result.now in
    let both = shown_of _ text c.from_utf8.result _ c.unwrap_or-shown.result c.from_utf8.ensures.cases refl c.unwrap_or-shown.ensures in
    on_ok_weaker c.say.result (λ is. (shown, both.0, both.1, is)) c.say.ensures.changed
