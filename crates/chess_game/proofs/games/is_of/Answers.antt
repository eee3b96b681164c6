use Rattle.std.proofs.Common.{List, ℕ, Option, sym, ap, ◌∙◌}
use Rattle.chess_entry.specs.Verdict.{is_named}
use Rattle.chess_game.proofs.Acts.{named-told}
use Rattle.chess_game.proofs.games.is_of.Goals as goal

pub returns-in-Some : goal.returns-in-Some
returns-in-Some c =
    c.eq.ensures ∙ named-told c.in-Some.player c.args.name.now
    ∙ ap (λ (seat : Option (List ℕ)). is_named c.args.name.now seat) (sym c.in-Some.is)
