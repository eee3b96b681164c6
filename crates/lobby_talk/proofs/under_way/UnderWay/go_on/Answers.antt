-- What a part brings, whatever the start and the moves so far.
use Rattle.std.proofs.Common.{inl, inr, refl, ap}
use Rattle.std.proofs.Math.Logic.{∥∥₁_map}
use Rattle.std.proofs.lemmas.Grind.{not_there}
use Rattle.std.specs.String.{string_bytes}
use Rattle.lobby_talk.specs.Making.{lines_behind}
use Rattle.lobby_talk.proofs.Replaying.{whole_of_line}
use Rattle.lobby_talk.proofs.under_way.UnderWay.go_on.Goals as goal

pub invariant_of-result : goal.invariant_of-result
invariant_of-result c =
    let text = string_bytes c.args.self.pgn in
    record {
      under_way = ∥∥₁_map c.args.self.under_way (λ u. record {
        named = u.named;
        under_way = (rw c.in-More.is at c.in_ok-replay.ensures c.args.self.game (lines_behind text) u.under_way).0;
      });
    }

pub new-requires-clause-made : goal.new-requires-clause-made
new-requires-clause-made c =
    let text = string_bytes c.args.self.pgn in
    ∥∥₁_map c.args.self.under_way (λ u. whole_of_line text (string_bytes c.in-Whole.text) c.args.self.game u.named
    (rw c.in-Whole.is at c.in_ok-replay.ensures c.args.self.game (lines_behind text) u.under_way).1)

pub new-requires-clause-named : goal.new-requires-clause-named
new-requires-clause-named c = ∥∥₁_map c.args.self.under_way (λ u. u.named)

pub lost-requires-clause-named : goal.lost-requires-clause-named
lost-requires-clause-named c = ∥∥₁_map c.args.self.under_way (λ u. u.named)

pub lost-requires-clause-none : goal.lost-requires-clause-none
lost-requires-clause-none c =
    let text = string_bytes c.args.self.pgn in
    λ start moves tells. not_there c.args.self.under_way (λ u.
    (rw c.in-NoGame.is at c.in_ok-replay.ensures c.args.self.game (lines_behind text) u.under_way).0 start moves tells)

pub returns-in-More : goal.returns-in-More
returns-in-More c =
    let text = string_bytes c.args.self.pgn in
    ∥∥₁_map c.args.self.under_way (λ u.
    let part = rw c.in-More.is at c.in_ok-replay.ensures c.args.self.game (lines_behind text) u.under_way in
    (refl, part.1, part.2))

pub returns-in-Whole : goal.returns-in-Whole
returns-in-Whole c =
    let text = string_bytes c.args.self.pgn in
    ∥∥₁_map c.args.self.under_way (λ u.
    (ap string_bytes c.new.ensures.pgn, inl (rw c.in-Whole.is at c.in_ok-replay.ensures c.args.self.game (lines_behind text) u.under_way).0))

pub returns-in_ok-lost-in-NoGame : goal.returns-in_ok-lost-in-NoGame
returns-in_ok-lost-in-NoGame c =
    let text = string_bytes c.args.self.pgn in
    ∥∥₁_map c.args.self.under_way (λ u. (
      ap string_bytes c.in_ok-lost-in-NoGame.ensures,
      inr (rw c.in-NoGame.is at c.in_ok-replay.ensures c.args.self.game (lines_behind text) u.under_way).1,
    ))
