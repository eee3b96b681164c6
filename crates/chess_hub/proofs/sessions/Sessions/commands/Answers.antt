use Rattle.std.proofs.Common.{◌≡◌, ◌∙◌, sym, ap, take, drop, ◌++◌, ◌∷◌, [], ◌+◌, arith}
use Rattle.std.specs.Prelude.{if◌then◌else◌, is_none}
use Rattle.std.proofs.lemmas.List.{take_more}
use Rattle.chess_entry.proofs.Places.{drop_at}
use Rattle.chess_hub.specs.Answers.{name_at, names_over, commands_of, asked, own_answer}
use Rattle.chess_hub.specs.Delivery.{asking_count}
use Rattle.chess_hub.proofs.NameLemmas.{commands-step, asking-few}
use Rattle.chess_hub.proofs.sessions.Sessions.commands.Goals as goal

pub returns-clause-few : goal.returns-clause-few
returns-clause-few c = omega (arith, asking-few c.args.at c.args.lines.now)

pub loop-place-preserved : goal.loop-place-preserved
loop-place-preserved c =
    let lines = c.args.lines.now in
    let i = c.loop-place.place in
    let t = c.index-lines-place.result in
    let names = name_at c.args.self.now in
    let done = c.loop-place.commands.items in
    let split = drop_at lines i t c.loop-place-test.true c.index-lines-place.is in
    let rest = commands_of c.args.at (names_over c.args.at names (take (i + 1) lines)) (drop (i + 1) lines) in
    let e : asking_count c.args.at (drop i lines)
    ≡ (if is_none (own_answer c.args.at t.line) then 1 else 0) + asking_count c.args.at (drop (i + 1) lines) =
    ap (asking_count c.args.at) split in (
      commands-step c.args.at names lines i t done split
          (take_more lines i t c.loop-place-test.true ∙ ap (λ x. take i lines ++ x ∷ []) (sym c.index-lines-place.is))
          c.loop-place.invariant.0
          ∙ ap (λ xs. xs ++ rest) (ap (λ w. done ++ asked c.args.at w t.line)
          (sym (c.name_over-who.ensures names (sym c.name.ensures))) ∙ sym c.in_ok-push_command.ensures.commands),
      omega (arith, c.in_ok-push_command.ensures.len),
    )
