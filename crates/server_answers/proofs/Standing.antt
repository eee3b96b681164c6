-- How a game stands and a row of the table are read as they were meant, and nothing else is read so.
use Rattle.std.proofs.Common.{ℕ, ◌≡◌, Bool, true, false, ◌&&◌, List, [], ◌∷◌, Option, Some, None, codes, decimal, refl, ap, ◌∙◌}
use Rattle.std.specs.Prelude.{if◌then◌else◌}
use Rattle.std.specs.Str.{bytes_eq}
use Rattle.std.proofs.lemmas.Option.{none-some, same_Some}
use Rattle.std.proofs.lemmas.Slice.Eq.{bytes_eq-Decides}
use Rattle.server_answers.specs.declared.values.Seats.{Seats}
use Rattle.server_answers.specs.declared.values.Side.{Side}
use Rattle.server_answers.specs.declared.values.Clocks.{Clocks}
use Rattle.server_answers.specs.declared.values.Offers.{Offers}
use Rattle.server_answers.specs.declared.values.GameResult.{GameResult}
use Rattle.server_answers.specs.declared.values.Ending.{Ending}
use Rattle.server_answers.specs.declared.games.Shown.{Shown}
use Rattle.server_answers.specs.declared.games.Row.{Row}
use Rattle.server_answers.specs.Fields.{first_fields, has_fields, line_of}
use Rattle.server_answers.specs.Values.{seat_text, side_text, offers_text, result_text, ending_result, ending_article, u32_in, seats_in, side_in, clocks_in, offers_in, result_in, ending_in}
use Rattle.server_answers.specs.Games.{IsShown, shown_fields, shown_line, IsRow, row_fields, row_line, shown_with, shown_by, shown_in, row_with, row_by, row_in}
use Rattle.server_answers.proofs.Joined.{EachLacks, joined, has_joined, fields_joined}
use Rattle.server_answers.proofs.Spelled.{u32_only, u32_read, u32_lacks, number_lacks, seats_read, seats_only, seat_lacks, side_read, side_only, side_lacks, clocks_read, clocks_only, offers_read, offers_only, offers_lack, result_read, result_only, result_lacks, ending_read, ending_only, ending_result_lacks, ending_article_lacks}

-- ---- what is spelled is read

shown_with_read : (s : Shown) → IsShown s →
    shown_with (u32_in (decimal s.game)) (seats_in (seat_text s.seats.white) (seat_text s.seats.black)) (u32_in (decimal s.ply))
    (side_in (side_text s.side)) (clocks_in (decimal s.clocks.white_ms) (decimal s.clocks.black_ms)) (offers_in (offers_text s.offers))
    (ending_in (ending_result s.ending) (ending_article s.ending)) ≡ Some s
shown_with_read s is =
    rw (u32_read s.game is.game) (rw (seats_read s.seats is.seats.white is.seats.black) (rw (u32_read s.ply is.ply)
    (rw (side_read s.side) (rw (clocks_read s.clocks is.clocks.white is.clocks.black) (rw (offers_read s.offers)
    (rw (ending_read s.ending) refl))))))

-- the fields behind the first
abbrev shown_rest : Shown → List (List ℕ)
shown_rest s =
    codes "show" ∷ decimal s.game ∷ seat_text s.seats.white ∷ seat_text s.seats.black ∷ decimal s.ply ∷ side_text s.side ∷
    decimal s.clocks.white_ms ∷ decimal s.clocks.black_ms ∷ offers_text s.offers ∷ ending_result s.ending ∷ ending_article s.ending ∷ []

abbrev row_rest : Row → List (List ℕ)
row_rest r = seat_text r.seats.white ∷ seat_text r.seats.black ∷ decimal r.ply ∷ result_text r.result ∷ []

shown_lack : (s : Shown) → IsShown s → EachLacks (shown_fields s)
shown_lack s is = (
  refl,
  (
    refl,
    (
      u32_lacks s.game is.game,
      (
        seat_lacks s.seats.white is.seats.white,
        (
          seat_lacks s.seats.black is.seats.black,
          (
            u32_lacks s.ply is.ply,
            (
              side_lacks s.side,
              (
                number_lacks s.clocks.white_ms is.clocks.white,
                (
                  number_lacks s.clocks.black_ms is.clocks.black,
                  (
                    offers_lack s.offers,
                    (
                      ending_result_lacks s.ending,
                      (ending_article_lacks s.ending, tt),
                    ),
                  ),
                ),
              ),
            ),
          ),
        ),
      ),
    ),
  ),
)

pub if_has : {A : Type 0} (b : Bool) (o : Option A) → b ≡ true → (if b then o else None) ≡ o
if_has b o e = rw e refl

pub shown_read : (s : Shown) → IsShown s → shown_in (shown_line s) ≡ Some s
unfolding shown_in
shown_read s is =
    let lack = shown_lack s is in
    if_has (has_fields 12 (shown_line s)) (shown_by (first_fields 12 (shown_line s))) (has_joined (codes "ok") (shown_rest s) lack)
    ∙ (ap shown_by (fields_joined (codes "ok") (shown_rest s) lack) ∙ shown_with_read s is)

row_with_read : (r : Row) → IsRow r →
    row_with (u32_in (decimal r.game)) (seats_in (seat_text r.seats.white) (seat_text r.seats.black)) (u32_in (decimal r.ply))
    (result_in (result_text r.result)) ≡ Some r
row_with_read r is =
    rw (u32_read r.game is.game) (rw (seats_read r.seats is.seats.white is.seats.black) (rw (u32_read r.ply is.ply)
    (rw (result_read r.result) refl)))

row_lack : (r : Row) → IsRow r → EachLacks (row_fields r)
row_lack r is = (
  u32_lacks r.game is.game,
  (
    seat_lacks r.seats.white is.seats.white,
    (
      seat_lacks r.seats.black is.seats.black,
      (u32_lacks r.ply is.ply, (result_lacks r.result, tt)),
    ),
  ),
)

pub row_read : (r : Row) → IsRow r → row_in (row_line r) ≡ Some r
unfolding row_in
row_read r is =
    let lack = row_lack r is in
    if_has (has_fields 5 (row_line r)) (row_by (first_fields 5 (row_line r))) (has_joined (decimal r.game) (row_rest r) lack)
    ∙ (ap row_by (fields_joined (decimal r.game) (row_rest r) lack) ∙ row_with_read r is)

-- ---- nothing else is read

pub then_some : {A : Type 0} (b : Bool) (o : Option A) (a : A) → (if b then o else None) ≡ Some a → (b ≡ true) × (o ≡ Some a)
then_some true o a e = (refl, e)
then_some false o a e = absurd (none-some a e)

record Words (ok show : List ℕ) (o : Option Shown) (s : Shown) : Type 0 where
  ok_is : ok ≡ codes "ok"
  show_is : show ≡ codes "show"
  rest : o ≡ Some s

words_at : (ok show : List ℕ) (o : Option Shown) (s : Shown) (a b : Bool) → bytes_eq ok (codes "ok") ≡ a → bytes_eq show (codes "show") ≡ b →
    (if a && b then o else None) ≡ Some s → Words ok show o s
words_at ok show o s true true e f h =
    record { ok_is = (bytes_eq-Decides ok (codes "ok")).0 e; show_is = (bytes_eq-Decides show (codes "show")).0 f; rest = h }
words_at ok show o s true false e f h = absurd (none-some s h)
words_at ok show o s false b e f h = absurd (none-some s h)

record ShownParts (game : Option ℕ) (seats : Option Seats) (ply : Option ℕ) (side : Option Side) (clocks : Option Clocks)
    (offers : Option Offers) (ending : Option (Option Ending)) (s : Shown) : Type 0 where
  game_is : game ≡ Some s.game
  seats_are : seats ≡ Some s.seats
  ply_is : ply ≡ Some s.ply
  side_is : side ≡ Some s.side
  clocks_are : clocks ≡ Some s.clocks
  offers_are : offers ≡ Some s.offers
  ending_is : ending ≡ Some s.ending

shown_parts : (game : Option ℕ) (seats : Option Seats) (ply : Option ℕ) (side : Option Side) (clocks : Option Clocks)
    (offers : Option Offers) (ending : Option (Option Ending)) (s : Shown) →
    shown_with game seats ply side clocks offers ending ≡ Some s → ShownParts game seats ply side clocks offers ending s
shown_parts None seats ply side clocks offers ending s h = absurd (none-some s h)
shown_parts (Some game) None ply side clocks offers ending s h = absurd (none-some s h)
shown_parts (Some game) (Some seats) None side clocks offers ending s h = absurd (none-some s h)
shown_parts (Some game) (Some seats) (Some ply) None clocks offers ending s h = absurd (none-some s h)
shown_parts (Some game) (Some seats) (Some ply) (Some side) None offers ending s h = absurd (none-some s h)
shown_parts (Some game) (Some seats) (Some ply) (Some side) (Some clocks) None ending s h = absurd (none-some s h)
shown_parts (Some game) (Some seats) (Some ply) (Some side) (Some clocks) (Some offers) None s h = absurd (none-some s h)
shown_parts (Some game) (Some seats) (Some ply) (Some side) (Some clocks) (Some offers) (Some ending) s h =
    let same = same_Some _ s h in record {
      game_is = ap (λ (t : Shown). Some t.game) same;
      seats_are = ap (λ (t : Shown). Some t.seats) same;
      ply_is = ap (λ (t : Shown). Some t.ply) same;
      side_is = ap (λ (t : Shown). Some t.side) same;
      clocks_are = ap (λ (t : Shown). Some t.clocks) same;
      offers_are = ap (λ (t : Shown). Some t.offers) same;
      ending_is = ap (λ (t : Shown). Some t.ending) same;
    }

pub record IsShownAs (fields : List (List ℕ)) (s : Shown) : Type 0 where
  pub spelled : fields ≡ shown_fields s
  pub sound : IsShown s

shown_by_only : (ok show game white black ply side white_ms black_ms offers score article : List ℕ) (s : Shown) →
    shown_by (ok ∷ show ∷ game ∷ white ∷ black ∷ ply ∷ side ∷ white_ms ∷ black_ms ∷ offers ∷ score ∷ article ∷ []) ≡ Some s →
    IsShownAs (ok ∷ show ∷ game ∷ white ∷ black ∷ ply ∷ side ∷ white_ms ∷ black_ms ∷ offers ∷ score ∷ article ∷ []) s
shown_by_only ok show game white black ply side white_ms black_ms offers score article s h =
    let words = words_at ok show _ s (bytes_eq ok (codes "ok")) (bytes_eq show (codes "show")) refl refl h in
    let parts = shown_parts (u32_in game) (seats_in white black) (u32_in ply) (side_in side) (clocks_in white_ms black_ms)
    (offers_in offers) (ending_in score article) s words.rest in
    let number = u32_only game s.game parts.game_is in
    let seats = seats_only white black s.seats parts.seats_are in
    let made = u32_only ply s.ply parts.ply_is in
    let clocks = clocks_only white_ms black_ms s.clocks parts.clocks_are in
    let ending = ending_only score article s.ending parts.ending_is in record {
      spelled =
          rw words.ok_is (rw words.show_is (rw number.spelled (rw seats.0.spelled (rw seats.1.spelled (rw made.spelled
          (rw (side_only side s.side parts.side_is) (rw clocks.0.spelled (rw clocks.1.spelled
          (rw (offers_only offers s.offers parts.offers_are) (rw ending.score (rw ending.article refl)))))))))));
      sound = record {
        game = number.small;
        seats = record { white = seats.0.named; black = seats.1.named };
        ply = made.small;
        clocks = record { white = clocks.0.small; black = clocks.1.small };
      };
    }

pub shown_only : (line : List ℕ) (s : Shown) → shown_in line ≡ Some s → (line ≡ shown_line s) × IsShown s
unfolding shown_in
shown_only line s h =
    let is = then_some (has_fields 12 line) (shown_by (first_fields 12 line)) s h in
    let only = shown_by_only _ _ _ _ _ _ _ _ _ _ _ _ s is.1 in
    (joined 11 line is.0 ∙ ap line_of only.spelled, only.sound)

record RowParts (game : Option ℕ) (seats : Option Seats) (ply : Option ℕ) (score : Option (Option GameResult)) (r : Row) : Type 0 where
  game_is : game ≡ Some r.game
  seats_are : seats ≡ Some r.seats
  ply_is : ply ≡ Some r.ply
  score_is : score ≡ Some r.result

row_parts : (game : Option ℕ) (seats : Option Seats) (ply : Option ℕ) (score : Option (Option GameResult)) (r : Row) →
    row_with game seats ply score ≡ Some r → RowParts game seats ply score r
row_parts None seats ply score r h = absurd (none-some r h)
row_parts (Some game) None ply score r h = absurd (none-some r h)
row_parts (Some game) (Some seats) None score r h = absurd (none-some r h)
row_parts (Some game) (Some seats) (Some ply) None r h = absurd (none-some r h)
row_parts (Some game) (Some seats) (Some ply) (Some score) r h =
    let same = same_Some _ r h in record {
      game_is = ap (λ (t : Row). Some t.game) same;
      seats_are = ap (λ (t : Row). Some t.seats) same;
      ply_is = ap (λ (t : Row). Some t.ply) same;
      score_is = ap (λ (t : Row). Some t.result) same;
    }

pub record IsRowAs (fields : List (List ℕ)) (r : Row) : Type 0 where
  pub spelled : fields ≡ row_fields r
  pub sound : IsRow r

row_by_only : (game white black ply score : List ℕ) (r : Row) → row_by (game ∷ white ∷ black ∷ ply ∷ score ∷ []) ≡ Some r →
    IsRowAs (game ∷ white ∷ black ∷ ply ∷ score ∷ []) r
row_by_only game white black ply score r h =
    let parts = row_parts (u32_in game) (seats_in white black) (u32_in ply) (result_in score) r h in
    let number = u32_only game r.game parts.game_is in
    let seats = seats_only white black r.seats parts.seats_are in
    let made = u32_only ply r.ply parts.ply_is in record {
      spelled =
          rw number.spelled (rw seats.0.spelled (rw seats.1.spelled (rw made.spelled (rw (result_only score r.result parts.score_is) refl))));
      sound = record {
        game = number.small;
        seats = record { white = seats.0.named; black = seats.1.named };
        ply = made.small;
      };
    }

pub row_only : (line : List ℕ) (r : Row) → row_in line ≡ Some r → (line ≡ row_line r) × IsRow r
unfolding row_in
row_only line r h =
    let is = then_some (has_fields 5 line) (row_by (first_fields 5 line)) r h in
    let only = row_by_only _ _ _ _ _ r is.1 in
    (joined 4 line is.0 ∙ ap line_of only.spelled, only.sound)
