-- What a table keeps.
use Rattle.indexmap.specs.IndexMap.{values}
use Rattle.chess_entry.specs.State.{TableState}
use Rattle.chess_entry.specs.Table.{IsTable}
use Rattle.chess_table.specs.declared.table.Table.TheInside.{Inside}
use Rattle.chess_table.specs.Places.{AreNumbered}

-- what the players see of it
abbrev pub table_seen : Inside → TableState
table_seen t = record {
  limits = t.limits;
  games = values t.games;
  moment = t.moment;
  last = t.last;
  entries = t.entries;
}

-- It is a table that there may be, and each game stands under its number.
pub record IsSound (t : Inside) : Type 0 where
  pub table : IsTable (table_seen t)
  pub numbered : AreNumbered t.games.entries
