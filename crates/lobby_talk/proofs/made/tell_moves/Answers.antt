-- There is a line just where the message names the position of a FEN.
use Rattle.std.proofs.Common.{List, ℕ, [], ◌∷◌, ◌++◌, codes, ap, sym, ◌∙◌, subst}
use Rattle.std.proofs.lemmas.Result.{on_ok_weaker}
use Rattle.std.specs.String.{string_bytes}
use Rattle.chess_notation.specs.Fen.{IsFenOf}
use Rattle.lobby_words.specs.Words.{rest_of}
use Rattle.lobby_talk.proofs.made.tell_moves.Goals as goal

pub returns-in-None : goal.returns-in-None
returns-in-None c =
    let fen = c.rest_of.ensures ∙ ap rest_of c.as_str.ensures.value in
    on_ok_weaker c.put.result (λ put. record {
      told = λ p valid is.
          let told = c.in_ok-line.ensures.told p valid (subst (λ (l : List ℕ). IsFenOf l p) (sym fen) is) in
          absurd (rw c.in-None.is at told);
      none = λ nothing. put ∙ c.line.ensures;
    }) c.put.ensures

pub returns-in-Some : goal.returns-in-Some
returns-in-Some c =
    let fen = c.rest_of.ensures ∙ ap rest_of c.as_str.ensures.value in
    on_ok_weaker c.put_moves.result (λ put. record {
      told = λ p valid is.
          let told = c.in_ok-line.ensures.told p valid (subst (λ (l : List ℕ). IsFenOf l p) (sym fen) is) in (
            string_bytes c.in-Some.line,
            rw c.in-Some.is at told,
            put ∙ ap (λ (l : List ℕ). codes "ok " ++ l ++ 10 ∷ []) c.as_str-in-Some.ensures.value,
          );
      none = λ nothing.
          let some = rw c.in-Some.is at c.in_ok-line.ensures.valid in
          absurd (nothing some.0 some.1 (subst (λ (l : List ℕ). IsFenOf l some.0) fen some.2));
    }) c.put_moves.ensures
