-- Nobody came, or who came is greeted.
use Rattle.std.proofs.Common.{◌∙◌, refl, sym, rules}
use Rattle.std.proofs.lemmas.Bool.{false≢true}
use Rattle.chess_sockets.specs.Serving.{IsAskedFor}
use Rattle.chess_sockets.proofs.ServingLemmas.{away_counted, client_counted, nobody_came}
use Rattle.chess_sockets.proofs.server.Server.welcome.Given.{Over}
use Rattle.chess_sockets.proofs.server.Server.welcome.Goals.{After-next_connection}
use Rattle.chess_sockets.proofs.server.Server.welcome.Goals as goal
use Rattle.chess_hub.specs.Law.{hub_state}

pub returns-then-not-asks_for_one-clause-welcomes : goal.returns-then-not-asks_for_one-clause-welcomes
returns-then-not-asks_for_one-clause-welcomes g c =
    let s = c.args.self.now in
    nobody_came g.S.From.from_gives c.args.at s.listener.given s.listener.given s.turned_away s.clients.items
    (hub_state s.hub) refl

pub returns-in-None-clause-welcomes : goal.returns-in-None-clause-welcomes
returns-in-None-clause-welcomes g c =
    let s = c.args.self.now in
    nobody_came g.S.From.from_gives c.args.at s.listener.given c.next_connection.new.listener.given s.turned_away s.clients.items
    (hub_state s.hub) c.in-None.ensures.none

pub returns-then-admit-clause-welcomes : goal.returns-then-admit-clause-welcomes
returns-then-admit-clause-welcomes g c =
    client_counted g.S.From.from_gives c.args.at c.args.self.now.listener.given _ _ _ _ _ _ _ c.in-Some.ensures.one
    c.admit.ensures.welcomes c.if-admit.ensures.came refl

pub returns-else-admit-clause-welcomes : goal.returns-else-admit-clause-welcomes
returns-else-admit-clause-welcomes g c =
    away_counted g.S.From.from_gives c.args.at c.args.self.now.listener.given _ _ _ _ _ _ _ c.in-Some.ensures.one
    c.admit.ensures.welcomes c.if-admit.ensures.dropped (search rules)

-- ---- who is asked for

pub returns-then-not-asks_for_one-clause-asked : goal.returns-then-not-asks_for_one-clause-asked
returns-then-not-asks_for_one-clause-asked g c =
    let both = c.asks_for_one.ensures.0 c.if-not-asks_for_one.true in
    record { asked = λ not. absurd (not (both.0, sym c.outcome.ensures ∙ both.1)); alone = λ is. refl }

is_asked : (g : Over) (c : After-next_connection g)
    → IsAskedFor c.args.self.now.rested c.args.self.now.listener c.next_connection.new.listener
is_asked g c = record {
  asked = λ not. c.next_connection.ensures.asked;
  alone = λ is. absurd (false≢true (sym (c.asks_for_one.ensures.1 (is.0, c.outcome.ensures ∙ is.1))
      ∙ c.if-not-asks_for_one.false));
}

pub returns-in-None-clause-asked : goal.returns-in-None-clause-asked
returns-in-None-clause-asked g c = is_asked g (goal.at.returns-in-None-clause-asked g c).After-next_connection

pub returns-then-admit-clause-asked : goal.returns-then-admit-clause-asked
returns-then-admit-clause-asked g c = is_asked g (goal.at.returns-then-admit-clause-asked g c).After-next_connection

pub returns-else-admit-clause-asked : goal.returns-else-admit-clause-asked
returns-else-admit-clause-asked g c = is_asked g (goal.at.returns-else-admit-clause-asked g c).After-next_connection
