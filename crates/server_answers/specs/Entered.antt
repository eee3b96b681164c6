-- The acts that were entered, as their answers tell.
use Rattle.std.specs.Prelude.{ℕ, ◌^◌, ◌<◌, ◌≡◌, ◌==◌, ◌&&◌, false, List, [], ◌∷◌, length, codes, decimal, Option, None}
use Rattle.std.specs.Prelude.{Some, IfSome, if◌then◌else◌}
use Rattle.std.specs.List.{list_any}
use Rattle.std.specs.Str.{bytes_eq}
use Rattle.server_answers.specs.declared.values.Side.{Side}
use Rattle.server_answers.specs.declared.values.Side.TheVariants as sides
use Rattle.server_answers.specs.declared.values.Ending.{Ending}
use Rattle.server_answers.specs.declared.entered.Made as read_made
use Rattle.server_answers.specs.declared.entered.Done as read_done
use Rattle.server_answers.specs.declared.entered.Done.TheVariants as dones
use Rattle.server_answers.specs.declared.entered.Entered as read_entered
use Rattle.server_answers.specs.Fields.{first_fields, field_count, line_of}
use Rattle.server_answers.specs.Values.{score_text, article_text, u32_in, told, end_in}

-- ---- the forms

-- a move that was made: how many were made with it, its SAN, and how the game ended with it, if it did
pub record Made : Type 0 where
  pub ply : ℕ
  pub san : List ℕ
  pub ending : Option Ending

pub data Done : Type 0 where
  Opened : Done
  Joined : Side → Done
  Moved : Made → Done
  Offered : Done
  Accepted : Ending → Done
  Declined : Done
  Resigned : Ending → Done
  Claimed : Ending → Done
  ClaimedWrongly : Option Made → Done
  Fallen : Ending → Done
  Dropped : Done

pub record Entered : Type 0 where
  pub game : ℕ
  pub done : Done

-- how the game ended with it, if it did
abbrev pub end_of : Done → Option Ending
end_of Opened = None
end_of (Joined side) = None
end_of (Moved made) = made.ending
end_of Offered = None
end_of (Accepted ending) = Some ending
end_of Declined = None
end_of (Resigned ending) = Some ending
end_of (Claimed ending) = Some ending
end_of (ClaimedWrongly None) = None
end_of (ClaimedWrongly (Some made)) = made.ending
end_of (Fallen ending) = Some ending
end_of Dropped = None

-- Its number is one of 32 bits, and its SAN is one field.
pub record IsMade (made : Made) : Type 0 where
  pub ply : made.ply < 2 ^ 32
  pub some : (length made.san == 0) ≡ false
  pub field : list_any (λ b. b == 32) made.san ≡ false

abbrev pub IsDone : Done → Type 0
IsDone (Moved made) = IsMade made
IsDone (ClaimedWrongly made) = IfSome made IsMade
IsDone _ = Unit {0}

pub record IsEntered (entered : Entered) : Type 0 where
  pub game : entered.game < 2 ^ 32
  pub done : IsDone entered.done

-- END of a game that is over
abbrev pub end_fields : Ending → List (List ℕ)
end_fields ending = score_text ending.result ∷ article_text ending.article ∷ []

-- END
abbrev pub ending_fields : Option Ending → List (List ℕ)
ending_fields None = []
ending_fields (Some ending) = end_fields ending

-- `N SAN` END
abbrev pub made_fields : Made → List (List ℕ)
made_fields made = decimal made.ply ∷ made.san ∷ ending_fields made.ending

abbrev pub seat_word : Side → List ℕ
seat_word sides.White = codes "white"
seat_word sides.Black = codes "black"

-- `ok WORD G` and more
abbrev pub ok_fields : List ℕ → ℕ → List (List ℕ) → List (List ℕ)
ok_fields word game more = codes "ok" ∷ word ∷ decimal game ∷ more

abbrev pub wrong_fields : Option Made → List (List ℕ)
wrong_fields None = codes "wrong" ∷ []
wrong_fields (Some made) = codes "wrong" ∷ made_fields made

abbrev pub done_fields : ℕ → Done → List (List ℕ)
done_fields game Opened = ok_fields (codes "open") game []
done_fields game (Joined side) = ok_fields (codes "join") game (seat_word side ∷ [])
done_fields game (Moved made) = ok_fields (codes "move") game (made_fields made)
done_fields game Offered = ok_fields (codes "offer") game []
done_fields game (Accepted ending) = ok_fields (codes "accept") game (end_fields ending)
done_fields game Declined = ok_fields (codes "decline") game []
done_fields game (Resigned ending) = ok_fields (codes "resign") game (end_fields ending)
done_fields game (Claimed ending) = ok_fields (codes "claim") game (end_fields ending)
done_fields game (ClaimedWrongly made) = ok_fields (codes "claim") game (wrong_fields made)
done_fields game (Fallen ending) = codes "fallen" ∷ decimal game ∷ end_fields ending
done_fields game Dropped = ok_fields (codes "drop") game []

abbrev pub entered_line : Entered → List ℕ
entered_line entered = line_of (done_fields entered.game entered.done)

-- ---- what a reader gives

abbrev pub made_of : read_made.Made → Made
made_of made = record { ply = made.ply; san = made.san.now; ending = made.ending }

abbrev pub claim_of : Option read_made.Made → Option Made
claim_of None = None
claim_of (Some made) = Some (made_of made)

abbrev pub done_of : read_done.Done → Done
done_of dones.Opened = Opened
done_of (dones.Joined side) = Joined side
done_of (dones.Moved made) = Moved (made_of made)
done_of dones.Offered = Offered
done_of (dones.Accepted ending) = Accepted ending
done_of dones.Declined = Declined
done_of (dones.Resigned ending) = Resigned ending
done_of (dones.Claimed ending) = Claimed ending
done_of (dones.ClaimedWrongly made) = ClaimedWrongly (claim_of made)
done_of (dones.Fallen ending) = Fallen ending
done_of dones.Dropped = Dropped

abbrev pub entered_of : read_entered.Entered → Entered
entered_of entered = record { game = entered.game; done = done_of entered.done }

-- ---- as they are read

abbrev pub done_by_word : List ℕ → Option Done
done_by_word word =
    if bytes_eq word (codes "open") then Some Opened
    else (if bytes_eq word (codes "offer") then Some Offered
    else (if bytes_eq word (codes "decline") then Some Declined
    else (if bytes_eq word (codes "drop") then Some Dropped else None)))

abbrev pub seat_side : List ℕ → Option Side
seat_side word =
    if bytes_eq word (codes "white") then Some sides.White
    else (if bytes_eq word (codes "black") then Some sides.Black else None)

abbrev pub joined : Option Side → Option Done
joined None = None
joined (Some side) = Some (Joined side)

abbrev pub done_with_word : List ℕ → List ℕ → Option Done
done_with_word word last =
    if bytes_eq word (codes "join") then joined (seat_side last)
    else (if bytes_eq word (codes "claim") && bytes_eq last (codes "wrong") then Some (ClaimedWrongly None) else None)

abbrev pub made_from : Option ℕ → List ℕ → Option (Option Ending) → Option Made
made_from None san ending = None
made_from (Some ply) san None = None
made_from (Some ply) san (Some ending) =
    if length san == 0 then None else Some (record { ply = ply; san = san; ending = ending })

abbrev pub made_with : List ℕ → List ℕ → Option (Option Ending) → Option Made
made_with ply san ending = made_from (u32_in ply) san ending

abbrev pub moved : Option Made → Option Done
moved None = None
moved (Some made) = Some (Moved made)

abbrev pub claimed_wrongly : Option Made → Option Done
claimed_wrongly None = None
claimed_wrongly (Some made) = Some (ClaimedWrongly (Some made))

abbrev pub fallen : Option Ending → Option Done
fallen None = None
fallen (Some ending) = Some (Fallen ending)

abbrev pub done_at_end : List ℕ → Option Ending → Option Done
done_at_end word None = None
done_at_end word (Some ending) =
    if bytes_eq word (codes "accept") then Some (Accepted ending)
    else (if bytes_eq word (codes "resign") then Some (Resigned ending)
    else (if bytes_eq word (codes "claim") then Some (Claimed ending) else None))

-- a move, or an act that ends the game
abbrev pub move_or_end : List ℕ → List ℕ → List ℕ → Option Done
move_or_end word first second =
    if bytes_eq word (codes "move") then moved (made_with first second (Some None))
    else done_at_end word (end_in first second)

abbrev pub if_move : List ℕ → Option Made → Option Done
if_move word made = if bytes_eq word (codes "move") then moved made else None

abbrev pub if_wrong : List ℕ → List ℕ → Option Made → Option Done
if_wrong word wrong made =
    if bytes_eq word (codes "claim") && bytes_eq wrong (codes "wrong") then claimed_wrongly made else None

abbrev pub entered_with : Option ℕ → Option Done → Option Entered
entered_with None what = None
entered_with (Some game) None = None
entered_with (Some game) (Some done) = Some (record { game = game; done = done })

abbrev pub if_ok : List ℕ → List ℕ → Option Done → Option Entered
if_ok first game done = if bytes_eq first (codes "ok") then entered_with (u32_in game) done else None

-- by the fields of a line
abbrev pub by_3 : List (List ℕ) → Option Entered
by_3 (first ∷ word ∷ game ∷ []) = if_ok first game (done_by_word word)
by_3 _ = None

abbrev pub by_4 : List (List ℕ) → Option Entered
by_4 (first ∷ word ∷ game ∷ last ∷ []) =
    if bytes_eq first (codes "fallen") then entered_with (u32_in word) (fallen (end_in game last))
    else if_ok first game (done_with_word word last)
by_4 _ = None

abbrev pub by_5 : List (List ℕ) → Option Entered
by_5 (first ∷ word ∷ game ∷ third ∷ fourth ∷ []) = if_ok first game (move_or_end word third fourth)
by_5 _ = None

abbrev pub by_6 : List (List ℕ) → Option Entered
by_6 (first ∷ word ∷ game ∷ wrong ∷ ply ∷ san ∷ []) =
    if_ok first game (if_wrong word wrong (made_with ply san (Some None)))
by_6 _ = None

abbrev pub by_7 : List (List ℕ) → Option Entered
by_7 (first ∷ word ∷ game ∷ ply ∷ san ∷ score ∷ article ∷ []) =
    if_ok first game (if_move word (made_with ply san (told (end_in score article))))
by_7 _ = None

abbrev pub by_8 : List (List ℕ) → Option Entered
by_8 (first ∷ word ∷ game ∷ wrong ∷ ply ∷ san ∷ score ∷ article ∷ []) =
    if_ok first game (if_wrong word wrong (made_with ply san (told (end_in score article))))
by_8 _ = None

-- by how many fields a line has
abbrev pub entered_at : ℕ → List ℕ → Option Entered
entered_at n line =
    if n == 3 then by_3 (first_fields 3 line)
    else (if n == 4 then by_4 (first_fields 4 line)
    else (if n == 5 then by_5 (first_fields 5 line)
    else (if n == 6 then by_6 (first_fields 6 line)
    else (if n == 7 then by_7 (first_fields 7 line)
    else (if n == 8 then by_8 (first_fields 8 line) else None)))))

-- the act that an answer tells
unfoldable pub entered_in : List ℕ → Option Entered
entered_in line = entered_at (field_count line) line
