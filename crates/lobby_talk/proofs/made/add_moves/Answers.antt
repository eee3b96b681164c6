-- There is a line just where the text ends with the position of a FEN.
use Rattle.std.proofs.Common.{List, ℕ, [], ◌∷◌, ◌++◌, ap, sym, ◌∙◌, subst}
use Rattle.std.proofs.lemmas.Result.{on_ok_weaker}
use Rattle.std.specs.String.{string_bytes}
use Rattle.chess_notation.specs.Fen.{IsFenOf}
use Rattle.lobby_talk.specs.Making.{fen_in}
use Rattle.lobby_talk.proofs.made.add_moves.Goals as goal

pub returns-in-Some : goal.returns-in-Some
returns-in-Some c =
    let text = string_bytes c.args.text.now in
    let fen = c.fen_in.ensures ∙ ap fen_in c.as_str.ensures.value in
    on_ok_weaker c.push_line.result (λ pushed. record {
      told = λ p valid is.
          let told = c.in_ok-line.ensures.told p valid (subst (λ (l : List ℕ). IsFenOf l p) (sym fen) is) in (
            string_bytes c.in-Some.line,
            rw c.in-Some.is at told,
            pushed ∙ ap (λ (l : List ℕ). text ++ l ++ 10 ∷ []) c.as_str-in-Some.ensures.value,
          );
      none = λ nothing.
          let some = rw c.in-Some.is at c.in_ok-line.ensures.valid in
          absurd (nothing some.0 some.1 (subst (λ (l : List ℕ). IsFenOf l some.0) fen some.2));
    }) c.push_line.ensures
