use Rattle.lobby_words.specs.declared.players.Player.{Player}
use Rattle.lobby_players.specs.File.{Entry, TellsOf, IsLineOf, entry_of, role_text}
use Rattle.lobby_players.proofs.Told.{fields_told, line_told, line_tells, some_weaker, none_weaker}
use Rattle.lobby_players.proofs.line.player_of.Goals as goal

pub returns-in-None-clause-none : goal.returns-in-None-clause-none
returns-in-None-clause-none c =
    λ e h. c.in-None.ensures.none e.name (role_text e.is_arbiter) h.digits e.full_name (fields_told c.args.line.now e h)

pub returns-in-Some-clause-some : goal.returns-in-Some-clause-some
returns-in-Some-clause-some c =
    let f = c.in-Some.fields in
    some_weaker c.player_told.result (λ (p : Player). TellsOf f.name.now f.role.now f.sum.now f.full_name.now (entry_of p))
    (λ (p : Player). IsLineOf c.args.line.now (entry_of p))
    (λ p told. line_told c.args.line.now f.name.now f.role.now f.sum.now f.full_name.now (entry_of p) c.in-Some.ensures.some told)
    c.player_told.ensures.some

pub returns-in-Some-clause-none : goal.returns-in-Some-clause-none
returns-in-Some-clause-none c =
    let f = c.in-Some.fields in
    none_weaker c.player_told.result ((e : Entry) → ¬ TellsOf f.name.now f.role.now f.sum.now f.full_name.now e)
    ((e : Entry) → ¬ IsLineOf c.args.line.now e)
    (λ none e is. none e (line_tells c.args.line.now f.name.now f.role.now f.sum.now f.full_name.now e c.in-Some.ensures.some is))
    c.player_told.ensures.none
