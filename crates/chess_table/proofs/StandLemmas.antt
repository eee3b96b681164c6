-- Games that may stand on a table, checked one after the other, and the table that has them.
use Rattle.std.proofs.Common.{ℕ, ◌≡◌, ◌+◌, ◌≤◌, ◌<◌, ◌^◌, List, [], ◌∷◌, length, get_or, drop, arith, sym, subst}
use Rattle.chess_board.specs.Legal.{EachOf}
use Rattle.rec_codec.specs.declared.limits.Limits.{Limits}
use Rattle.rec_codec.specs.declared.limits.Version.TheVariants.{Two}
use Rattle.rec_codec.specs.Limits.{IsInRange}
use Rattle.rec_codec.specs.declared.record.Meta.{Meta}
use Rattle.chess_entry.specs.State.{GameState, TableState}
use Rattle.chess_entry.specs.Table.{IsOnTable}
use Rattle.chess_entry.proofs.Places.{drop_at}
use Rattle.chess_table.specs.Stored.{table_from, StandFrom, IsStanding}
use Rattle.chess_table.proofs.Rising.{EachOf-weaker, Rise, Rise-of, AreRising-of}

StandFrom-each : (table : TableState) (before : ℕ) (games : List GameState) → StandFrom table before games →
    EachOf (IsOnTable table) games
StandFrom-each table before [] stand = tt
StandFrom-each table before (game ∷ games) stand = (stand.1, StandFrom-each table game.number games stand.2)

StandFrom-above : (table : TableState) (low before : ℕ) (games : List GameState) → low ≤ before →
    StandFrom table before games → EachOf (λ g. low < g.number) games
StandFrom-above table low before [] most stand = tt
StandFrom-above table low before (game ∷ games) most stand =
    let first = stand.0 in
    (omega (arith, first), StandFrom-above table low game.number games (omega (arith, first)) stand.2)

StandFrom-rise : (table : TableState) (before : ℕ) (games : List GameState) → StandFrom table before games → Rise games
StandFrom-rise table before [] stand = tt
StandFrom-rise table before (game ∷ games) stand = (
  StandFrom-above table game.number game.number games (omega arith) stand.2,
  StandFrom-rise table game.number games stand.2,
)

StandFrom-of : (table : TableState) (before : ℕ) (games : List GameState) → EachOf (λ g. before < g.number) games →
    Rise games → EachOf (IsOnTable table) games → StandFrom table before games
StandFrom-of table before [] above rise each = tt
StandFrom-of table before (game ∷ games) above rise each =
    (above.0, each.0, StandFrom-of table game.number games rise.0 rise.1 each.1)

-- what is checked of a snapshot's first record and of the games with it
pub record AreWell (limits : Limits) (games : List GameState) (meta : Meta) : Type 0 where
  pub count : meta.games ≡ length games
  pub few : length games ≤ limits.games
  pub moment : meta.moment ≤ 4611686018427387903
  pub stand : StandFrom (table_from limits games meta) 0 games

pub IsStanding-of : (limits : Limits) (games : List GameState) (meta : Meta) → IsInRange Two limits →
    meta.last < 2 ^ 32 → meta.entries < 2 ^ 64 → AreWell limits games meta → IsStanding limits games meta
IsStanding-of limits games meta in_range last entries are =
    let table = table_from limits games meta in
    record {
      count = are.count;
      bounds = record {
        limits = in_range;
        moment = are.moment;
        last = last;
        entries = entries;
        few = are.few;
        rising = AreRising-of games (StandFrom-rise table 0 games are.stand);
        games = StandFrom-each table 0 games are.stand;
      };
    }

pub AreWell-of : (limits : Limits) (games : List GameState) (meta : Meta) → IsStanding limits games meta →
    AreWell limits games meta
AreWell-of limits games meta is =
    let table = table_from limits games meta in
    record {
      count = is.count;
      few = is.bounds.few;
      moment = is.bounds.moment;
      stand = StandFrom-of table 0 games
          (EachOf-weaker (IsOnTable table) (λ g. 0 < g.number) games
          (λ g on. let low = on.game.numbered in omega (arith, low)) is.bounds.games)
          (Rise-of games is.bounds.rising) is.bounds.games;
    }

-- ---- one game after the other

-- All games may stand just where those from a place on do.
pub record GoesOn (table : TableState) (games : List GameState) (before i : ℕ) : Type 0 where
  pub forth : StandFrom table 0 games → StandFrom table before (drop i games)
  pub back : StandFrom table before (drop i games) → StandFrom table 0 games

-- the game at the place may not stand
pub stands_not : (table : TableState) (games : List GameState) (before i : ℕ) (game : GameState) →
    GoesOn table games before i → i < length games → game ≡ get_or games i game →
    (before < game.number → IsOnTable table game → ⊥) → StandFrom table 0 games → ⊥
stands_not table games before i game goes below here not_here all =
    let stand = subst (StandFrom table before) (drop_at games i game below here) (goes.forth all) in
    not_here stand.0 stand.1

pub GoesOn-more : (table : TableState) (games : List GameState) (before i : ℕ) (game : GameState) →
    GoesOn table games before i → i < length games → game ≡ get_or games i game → before < game.number →
    IsOnTable table game → GoesOn table games game.number (i + 1)
GoesOn-more table games before i game goes below here rises on =
    let first = drop_at games i game below here in
    record {
      forth = λ all. (subst (StandFrom table before) first (goes.forth all)).2;
      back = λ rest. goes.back (subst (StandFrom table before) (sym first) (rises, on, rest));
    }
