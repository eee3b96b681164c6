use Rattle.std.proofs.Common.{◌<◌, ◌^◌, arith}
use Rattle.chess_table.proofs.StandLemmas.{IsStanding-of, AreWell-of}
use Rattle.chess_table.proofs.standing.is_standing.Goals as goal

pub returns : goal.returns
returns c =
    let limits = c.args.limits in
    let games = c.args.games.now in
    let meta = c.args.meta.now in
    let last : meta.last < 2 ^ 32 = omega arith in
    let entries : meta.entries < 2 ^ 64 = omega arith in (
      λ yes. IsStanding-of limits games meta c.requires last entries (record {
        count = c.if-meta-games.false;
        few = c.if-games-limits.false;
        moment = c.if-meta-gt-GREATEST_MOMENT.false;
        stand = c.may_stand.ensures.0 yes;
      }),
      λ is. c.may_stand.ensures.1 (AreWell-of limits games meta is).stand,
    )
