use Rattle.std.proofs.Common.{[], length, arith}
use Rattle.sector_journal.specs.Stands.{content}
use Rattle.sector_journal.specs.Switches.{widened_header}
use Rattle.chess_store.proofs.WidenLemmas.{records_within, widen_lasts, widened_by}
use Rattle.chess_store.proofs.store.widening.widen_once.Goals as goal

pub widen-requires-clause-can : goal.widen-requires-clause-can
widen-requires-clause-can g c =
    let can = c.requires.can in
    record {
      half = c.requires.half;
      range = can.range;
      games = can.games;
      plies = can.plies;
      few = omega (arith, can.few, records_within c.args.journal.now.header.limits c.args.limits can.games can.plies);
    }

pub returns-clause-lasts : goal.returns-clause-lasts
returns-clause-lasts g c =
    let can = c.requires.can in
    widen_lasts c.args.journal.now c.widen.new.self c.widen.result c.args.limits c.args.snapshot.now can.range
    can.games can.plies c.widen.ensures

pub returns-clause-tried : goal.returns-clause-tried
returns-clause-tried g c =
    let j = c.args.journal.now in
    let snapshot = c.args.snapshot.now in
    widened_by j c.widen.new.self (content (widened_header j.header c.args.limits (length snapshot)) snapshot [])
    c.widen.result c.widen.ensures c.requires.works c.requires.number
