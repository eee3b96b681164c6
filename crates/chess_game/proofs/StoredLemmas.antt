-- The endings that games have are those of the format, and what is kept of a game tells them.
use Rattle.std.proofs.Common.{ℕ, ◌≡◌, Bool, true, false, List, Option, Some, None, refl, sym, ap, ◌∙◌, subst}
use Rattle.std.specs.Prelude.{is_some, nat_le, if◌then◌else◌, [], ◌∷◌}
use Rattle.chess_bits.specs.declared.men.Colour.{Colour}
use Rattle.chess_bits.specs.declared.men.Colour.TheVariants.{White, Black}
use Rattle.chess_bits.specs.Man.{other}
use Rattle.chess_board.specs.declared.moves.Move.{Move}
use Rattle.chess_board.specs.Position.{Position}
use Rattle.chess_board.specs.Line.{positions_of}
use Rattle.chess_repeat.specs.QuietRun.{quiet_run}
use Rattle.chess_end.specs.declared.ending.GameResult.{GameResult}
use Rattle.chess_end.specs.declared.ending.GameResult.TheVariants as results
use Rattle.chess_end.specs.declared.ending.Article.{Article}
use Rattle.chess_end.specs.declared.ending.Article.TheVariants as articles
use Rattle.chess_end.specs.declared.ending.Ending.{Ending}
use Rattle.chess_end.specs.Ending.{won_by}
use Rattle.chess_end.specs.Computing.{is_checkmate, is_stalemate, is_listed_dead}
use Rattle.rec_codec.specs.declared.record.StoredEnding.{StoredEnding}
use Rattle.rec_codec.specs.declared.record.Seat.{Seat as StoredSeat}
use Rattle.chess_entry.specs.State.{SeatState, GameState, position_after}
use Rattle.chess_entry.specs.Outcome.{times, ending}
use Rattle.chess_entry.specs.Bounds.{IsByAct, Agrees, ending_by_last, IsGame}
use Rattle.chess_entry.specs.Snapshot.{ending_stored, ending_told, IsSeatOf}
use Rattle.chess_game.specs.declared.sides.Seat.{Seat}
use Rattle.chess_game.specs.ClockFor.{seat_for}
use Rattle.chess_game.specs.Stored.{stored_by, seat_stored}

pub IsSeatOf-stored : (seat : Seat) (state : SeatState) (stored : StoredSeat) (held : ℕ)
    → stored ≡ seat_stored seat held → seat ≡ seat_for state → held ≡ state.held → IsSeatOf state stored
IsSeatOf-stored seat state stored held is same holds = record {
  taken = ap (λ (s : StoredSeat). s.taken) is ∙ ap (λ (s : Seat). is_some s.name) same;
  name = ap (λ (s : StoredSeat). s.name) is ∙ ap (λ (s : Seat). s.name) same;
  offers = ap (λ (s : StoredSeat). s.offers) is ∙ ap (λ (s : Seat). s.offers) same;
  held = ap (λ (s : StoredSeat). s.held) is ∙ holds;
}

-- the format has the ending
abbrev IsStored : Ending → Type 0
IsStored e = ending_stored (stored_by e.article e.result) ≡ e

IsStored-act : (article : Article) (result : GameResult) → IsByAct article result → IsStored (ending result article)
IsStored-act articles.A511 result act = absurd act
IsStored-act articles.A512 results.White act = refl
IsStored-act articles.A512 results.Black act = refl
IsStored-act articles.A512 results.Draw act = absurd (act refl)
IsStored-act articles.A521 result act = absurd act
IsStored-act articles.A522 result act = absurd act
IsStored-act articles.A523 result act =
    ap (λ (r : GameResult). ending r articles.A523) (sym act)
IsStored-act articles.A69 results.White act = refl
IsStored-act articles.A69 results.Black act = refl
IsStored-act articles.A69 results.Draw act = refl
IsStored-act articles.A92 result act = ap (λ (r : GameResult). ending r articles.A92) (sym act)
IsStored-act articles.A93 result act = ap (λ (r : GameResult). ending r articles.A93) (sym act)
IsStored-act articles.A961 result act = absurd act
IsStored-act articles.A962 result act = absurd act

IsStored-mate : (side : Colour) → IsStored (ending (won_by side) articles.A511)
IsStored-mate White = refl
IsStored-mate Black = refl

IsStored-tests : (mate stale dead five seventy_five : Bool) (side : Colour) (e : Ending)
    → (if mate then Some (ending (won_by side) articles.A511)
    else if stale then Some (ending results.Draw articles.A521)
    else if dead then Some (ending results.Draw articles.A522)
    else if five then Some (ending results.Draw articles.A961)
    else if seventy_five then Some (ending results.Draw articles.A962)
    else None) ≡ Some e → IsStored e
IsStored-tests true stale dead five q side e same =
    let P : Ending → Type 0 = λ x. IsStored x in
    let is : ending (won_by side) articles.A511 ≡ e = cc in subst P is (IsStored-mate side)
IsStored-tests false true dead five q side e same =
    let P : Ending → Type 0 = λ x. IsStored x in
    let is : ending results.Draw articles.A521 ≡ e = cc in subst P is refl
IsStored-tests false false true five q side e same =
    let P : Ending → Type 0 = λ x. IsStored x in
    let is : ending results.Draw articles.A522 ≡ e = cc in subst P is refl
IsStored-tests false false false true q side e same =
    let P : Ending → Type 0 = λ x. IsStored x in
    let is : ending results.Draw articles.A961 ≡ e = cc in subst P is refl
IsStored-tests false false false false true side e same =
    let P : Ending → Type 0 = λ x. IsStored x in
    let is : ending results.Draw articles.A962 ≡ e = cc in subst P is refl
IsStored-tests false false false false false side e same = absurd cc

IsStored-line : (start : Position) (moves : List Move) (e : Ending) → ending_by_last start moves ≡ Some e → IsStored e
IsStored-line start [] e same = absurd cc
IsStored-line start (m ∷ moves) e same =
    let p = position_after start (m ∷ moves) in
    let line = positions_of start (m ∷ moves) in
    IsStored-tests (is_checkmate p) (is_stalemate p) (is_listed_dead p.placement) (nat_le 5 (times p line))
    (nat_le 150 (quiet_run line)) (other p.side) e same

IsStored-agreed : (by_line ends : Option Ending) (e : Ending) → Agrees by_line ends → ends ≡ Some e
    → ((f : Ending) → by_line ≡ Some f → IsStored f) → IsStored e
IsStored-agreed (Some f) ends e agrees is line = line e (sym agrees ∙ is)
IsStored-agreed None None e agrees is line = absurd cc
IsStored-agreed None (Some d) e agrees is line =
    let P : Ending → Type 0 = λ x. IsStored x in
    let same : d ≡ e = cc in
    subst P same (IsStored-act d.article d.result agrees)

pub told-none : (stored : Option StoredEnding) (kept ends : Option Ending) → stored ≡ None → kept ≡ None
    → kept ≡ ends → ending_told stored ≡ ends
told-none stored kept ends is none same = ap ending_told is ∙ sym none ∙ same

-- what is kept of a game's ending tells it
pub told-some : (game : GameState) → IsGame 20000 game → (stored : Option StoredEnding) (kept : Option Ending)
    (e : Ending) (by_format : StoredEnding) → stored ≡ Some by_format → by_format ≡ stored_by e.article e.result
    → kept ≡ Some e → kept ≡ game.ending → ending_told stored ≡ game.ending
told-some game is stored kept e by_format is_stored by some same =
    let format : IsStored e =
    IsStored-agreed (ending_by_last game.start game.moves) game.ending e is.played.ending (sym same ∙ some)
    (IsStored-line game.start game.moves) in
    ap ending_told is_stored
    ∙ ap (λ (x : Ending). let o : Option Ending = Some x in o) (ap ending_stored by ∙ format)
    ∙ sym some ∙ same
