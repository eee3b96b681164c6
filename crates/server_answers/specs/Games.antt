-- How a game stands, as the answer to `show` tells, and a row of that to `list`.
use Rattle.std.specs.Prelude.{ℕ, ◌^◌, ◌<◌, ◌&&◌, List, [], ◌∷◌, codes, decimal, Option, None, Some, IfSome}
use Rattle.std.specs.Prelude.{if◌then◌else◌}
use Rattle.std.specs.Str.{bytes_eq}
use Rattle.player_name.specs.Name.{IsName}
use Rattle.server_answers.specs.declared.values.Seats.{Seats}
use Rattle.server_answers.specs.declared.values.Side.{Side}
use Rattle.server_answers.specs.declared.values.Clocks.{Clocks}
use Rattle.server_answers.specs.declared.values.Offers.{Offers}
use Rattle.server_answers.specs.declared.values.GameResult.{GameResult}
use Rattle.server_answers.specs.declared.values.Ending.{Ending}
use Rattle.server_answers.specs.declared.games.Shown.{Shown}
use Rattle.server_answers.specs.declared.games.Row.{Row}
use Rattle.server_answers.specs.Fields.{first_fields, has_fields, line_of}
use Rattle.server_answers.specs.Values.{seat_text, side_text, offers_text, result_text, ending_result, ending_article}
use Rattle.server_answers.specs.Values.{u32_in, seats_in, side_in, clocks_in, offers_in, result_in, ending_in}

-- ---- the forms

-- In each seat sits a player with a name, or nobody.
pub record AreSeats (seats : Seats) : Type 0 where
  pub white : IfSome seats.white IsName
  pub black : IfSome seats.black IsName

pub record AreClocks (clocks : Clocks) : Type 0 where
  pub white : clocks.white_ms < 2 ^ 64
  pub black : clocks.black_ms < 2 ^ 64

-- Its numbers are such as there may be, and its players have names.
pub record IsShown (shown : Shown) : Type 0 where
  pub game : shown.game < 2 ^ 32
  pub seats : AreSeats shown.seats
  pub ply : shown.ply < 2 ^ 32
  pub clocks : AreClocks shown.clocks

-- `ok show G WHITE BLACK PLY SIDE WLEFT BLEFT OFFER RESULT ARTICLE`
abbrev pub shown_fields : Shown → List (List ℕ)
shown_fields shown =
    codes "ok" ∷ codes "show" ∷ decimal shown.game ∷ seat_text shown.seats.white ∷ seat_text shown.seats.black ∷
    decimal shown.ply ∷ side_text shown.side ∷ decimal shown.clocks.white_ms ∷ decimal shown.clocks.black_ms ∷
    offers_text shown.offers ∷ ending_result shown.ending ∷ ending_article shown.ending ∷ []

abbrev pub shown_line : Shown → List ℕ
shown_line shown = line_of (shown_fields shown)

pub record IsRow (row : Row) : Type 0 where
  pub game : row.game < 2 ^ 32
  pub seats : AreSeats row.seats
  pub ply : row.ply < 2 ^ 32

-- `G WHITE BLACK PLY RESULT`
abbrev pub row_fields : Row → List (List ℕ)
row_fields row =
    decimal row.game ∷ seat_text row.seats.white ∷ seat_text row.seats.black ∷ decimal row.ply ∷
    result_text row.result ∷ []

abbrev pub row_line : Row → List ℕ
row_line row = line_of (row_fields row)

-- ---- as they are read

abbrev pub shown_with : Option ℕ → Option Seats → Option ℕ → Option Side → Option Clocks → Option Offers →
    Option (Option Ending) → Option Shown
shown_with None seats ply side clocks offers ending = None
shown_with (Some game) None ply side clocks offers ending = None
shown_with (Some game) (Some seats) None side clocks offers ending = None
shown_with (Some game) (Some seats) (Some ply) None clocks offers ending = None
shown_with (Some game) (Some seats) (Some ply) (Some side) None offers ending = None
shown_with (Some game) (Some seats) (Some ply) (Some side) (Some clocks) None ending = None
shown_with (Some game) (Some seats) (Some ply) (Some side) (Some clocks) (Some offers) None = None
shown_with (Some game) (Some seats) (Some ply) (Some side) (Some clocks) (Some offers) (Some ending) =
    Some (record {
      game = game;
      seats = seats;
      ply = ply;
      side = side;
      clocks = clocks;
      offers = offers;
      ending = ending;
    })

abbrev pub shown_by : List (List ℕ) → Option Shown
shown_by (ok ∷ show ∷ game ∷ white ∷ black ∷ ply ∷ side ∷ white_ms ∷ black_ms ∷ offers ∷ result ∷ article ∷ []) =
    if bytes_eq ok (codes "ok") && bytes_eq show (codes "show")
    then shown_with (u32_in game) (seats_in white black) (u32_in ply) (side_in side) (clocks_in white_ms black_ms)
    (offers_in offers) (ending_in result article)
    else None
shown_by _ = None

-- how a game stands, as a line of twelve fields tells
unfoldable pub shown_in : List ℕ → Option Shown
shown_in line = if has_fields 12 line then shown_by (first_fields 12 line) else None

abbrev pub row_with : Option ℕ → Option Seats → Option ℕ → Option (Option GameResult) → Option Row
row_with None seats ply result = None
row_with (Some game) None ply result = None
row_with (Some game) (Some seats) None result = None
row_with (Some game) (Some seats) (Some ply) None = None
row_with (Some game) (Some seats) (Some ply) (Some result) =
    Some (record { game = game; seats = seats; ply = ply; result = result })

abbrev pub row_by : List (List ℕ) → Option Row
row_by (game ∷ white ∷ black ∷ ply ∷ result ∷ []) =
    row_with (u32_in game) (seats_in white black) (u32_in ply) (result_in result)
row_by _ = None

-- a game of the table, as a line of five fields tells
unfoldable pub row_in : List ℕ → Option Row
row_in line = if has_fields 5 line then row_by (first_fields 5 line) else None
