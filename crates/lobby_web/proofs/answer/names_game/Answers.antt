use Rattle.std.proofs.Common.{Bool, ap, sym, ◌∙◌, drop}
use Rattle.std.specs.Prelude.{◌&&◌}
use Rattle.lobby_web.specs.Requests.{is_number}
use Rattle.lobby_web.proofs.answer.names_game.Goals as goal

pub returns-in-Some : goal.returns-in-Some
returns-in-Some c =
    let e = c.in-Some.ensures.cases in
    c.is_number.ensures ∙ ap is_number e.1 ∙ sym (ap (λ (b : Bool). b && is_number (drop 7 c.args.path.now)) e.0)

pub returns-in-None : goal.returns-in-None
returns-in-None c = sym (ap (λ (b : Bool). b && is_number (drop 7 c.args.path.now)) c.in-None.ensures.cases)
