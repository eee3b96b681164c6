-- What begins is under way, of the lines behind the first.
use Rattle.std.proofs.Common.{List, ℕ, ap, subst, sym, ◌∙◌}
use Rattle.std.specs.String.{string_bytes}
use Rattle.text_pgn.specs.Game.{NoStart}
use Rattle.text_pgn.specs.Replaying.{IsUnderWay}
use Rattle.lobby_talk.specs.Making.{lines_behind}
use Rattle.lobby_talk.specs.Replays.{IsNumberIn, IsReplayOf}
use Rattle.lobby_talk.proofs.Replaying.{no_game}
use Rattle.lobby_talk.proofs.under_way.UnderWay.begin.Goals as goal

pub lost-requires-clause-none : goal.lost-requires-clause-none
lost-requires-clause-none c =
    no_game (lines_behind (string_bytes c.in_ok-pgn.pgn))
    (subst (λ (l : List ℕ). NoStart (lines_behind l)) (sym c.in_ok-pgn.ensures.ok)
    (subst (λ (l : List ℕ). NoStart l) c.behind.ensures (rw c.in-None.is at c.in_ok-begin.ensures.none)))

pub lost-requires-clause-named : goal.lost-requires-clause-named
lost-requires-clause-named c =
    ∣ subst (λ (l : List ℕ). IsNumberIn l c.args.game) (sym c.in_ok-pgn.ensures.ok) c.requires ∣₁

pub invariant_of-result : goal.invariant_of-result
invariant_of-result c =
    let game = c.args.game in
    let replay = c.in-Some.replay in
    let begun = rw c.in-Some.is at c.in_ok-begin.ensures.some in
    let under : IsUnderWay game (lines_behind c.args.text.now) replay =
    subst (λ (l : List ℕ). IsUnderWay game l replay) c.behind.ensures begun in
    record {
      under_way = ∣ subst (λ (l : List ℕ). IsReplayOf l game replay) (sym c.in_ok-pgn.ensures.ok)
          (record { named = c.requires; under_way = under }) ∣₁;
    }

pub returns-in_ok-lost-in-None : goal.returns-in_ok-lost-in-None
returns-in_ok-lost-in-None c = (
  ap string_bytes c.in_ok-lost-in-None.ensures ∙ c.in_ok-pgn.ensures.ok,
  subst (λ (l : List ℕ). NoStart l) c.behind.ensures (rw c.in-None.is at c.in_ok-begin.ensures.none),
)
