-- Tokens that fit into lines.
use Rattle.std.proofs.Common.{◌≡◌, ◌≢◌, ℕ, Bool, true, false, ◌==◌, get_or, ◌<◌, List, [], ◌∷◌, length, refl, sym, ◌∙◌}
use Rattle.std.proofs.Common.{arith}
use Rattle.std.proofs.lemmas.Bool.{false≢true}
use Rattle.std.proofs.lemmas.List.Sums.{AllPass-from_list_all}
use Rattle.chess_text.specs.Movetext.{IsToken, is_token, are_tokens}
use Rattle.chess_text.proofs.Lines.{IsToken-from_test}
use Rattle.text_pgn.specs.Archived.{is_laid}

pub token_at : (tokens : List (List ℕ)) (i : ℕ) (d : List ℕ) → is_laid tokens ≡ true → i < length tokens →
    IsToken (get_or tokens i d)
token_at [] i d e within = absurd (omega arith)
token_at (token ∷ tokens) i d e within =
    IsToken-from_test (get_or (token ∷ tokens) i d) (AllPass-from_list_all is_token (token ∷ tokens) e i d within)

pub laid_some : (tokens : List (List ℕ)) → is_laid tokens ≡ true → tokens ≢ []
laid_some [] e = absurd (false≢true e)
laid_some (token ∷ tokens) e = λ k. cc

-- where there is a token, it is asked of each whether it fits
pub laid_each : (tokens : List (List ℕ)) (empty : Bool) → empty ≡ (length tokens == 0) → empty ≡ false →
    are_tokens tokens ≡ is_laid tokens
laid_each [] empty e h = absurd (false≢true (sym h ∙ e))
laid_each (token ∷ tokens) empty e h = refl
