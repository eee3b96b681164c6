-- The answers to acts that become entries, on the table before the entry.
use Rattle.std.specs.Prelude.{ℕ, ◌≡◌, ◌+◌, Bool, true, false, if◌then◌else◌, List, [], ◌∷◌, ◌++◌, Option, Some, None}
use Rattle.std.specs.Prelude.{is_none, codes, decimal}
use Rattle.std.specs.Option.{ForSome}
use Rattle.chess_bits.specs.declared.men.Colour.{Colour}
use Rattle.chess_bits.specs.declared.men.Colour.TheVariants.{White, Black}
use Rattle.chess_board.specs.declared.moves.Move.{Move}
use Rattle.chess_board.specs.Position.{Position}
use Rattle.chess_notation.specs.San.{IsSan}
use Rattle.chess_end.specs.declared.ending.Ending.{Ending}
use Rattle.rec_codec.specs.declared.record.Event.{Event}
use Rattle.rec_codec.specs.declared.record.Event.TheVariants as event
use Rattle.rec_codec.specs.declared.record.Entry.{Entry}
use Rattle.chess_entry.specs.State.{GameState, TableState, position_of, ply_of, find_game}
use Rattle.chess_entry.specs.Story.{stated}
use Rattle.chess_entry.specs.Table.{IsTable, IsEnteredOn}
use Rattle.chess_entry.specs.Outcome.{is_granted, claimed_draw, agreed, resigned, flag_fallen, ending_with}
use Rattle.chess_entry.specs.Words.{colour_word}
use Rattle.chess_game.specs.Turn.{IsPlayable}
use Rattle.chess_answer.specs.Fields.{with_fields, ok_text, end_fields}

-- `ok name NAME`, whatever the table
abbrev pub named_text : List ℕ → List ℕ
named_text name = with_fields (codes "ok") (codes "name" ∷ name ∷ [])

-- the colour of the seat that is empty before a join
abbrev pub free_side : GameState → Colour
free_side game = if is_none game.white.name then White else Black

-- Behind a text a move is told: how many moves were made with it, its SAN, and END.
pub record TellsMove (game : GameState) (m : Move) (before after : List ℕ) : Type 0 where
  pub san : List ℕ
  pub is_san : IsSan (position_of game) m san
  pub told : after ≡ with_fields before
      (decimal (ply_of game + 1) ∷ san ∷ end_fields (ending_with game.start game.moves (Some m)))

-- Behind a text a move is told that was made in a position: its SAN, and END for what the game has as its ending.
pub record TellsMade (p : Position) (m : Move) (by : Option Ending) (before after : List ℕ) : Type 0 where
  pub san : List ℕ
  pub is_san : IsSan p m san
  pub told : after ≡ with_fields before (san ∷ end_fields by)

-- a wrong claim, and the move that it states, if it states one
abbrev pub IsWrongClaimLine : GameState → Option Move → List ℕ → Type 0
IsWrongClaimLine game None text = text ≡ ok_text (codes "claim") game.number (codes "wrong" ∷ [])
IsWrongClaimLine game (Some m) text = TellsMove game m (ok_text (codes "claim") game.number (codes "wrong" ∷ [])) text

-- a claim, by whether it is correct: a correct one draws at once, and its stated move is not made
abbrev pub IsClaimLine : Bool → GameState → Bool → Option Move → List ℕ → Type 0
IsClaimLine true game fifty mv text =
    text ≡ ok_text (codes "claim") game.number (end_fields (Some (claimed_draw fifty)))
IsClaimLine false game fifty mv text = IsWrongClaimLine game mv text

-- the answer to an entry of a game that stands on the table
abbrev pub IsGameLine : GameState → Event → List ℕ → Type 0
IsGameLine game (event.Open opening) text = ⊥
IsGameLine game (event.Join name) text =
    text ≡ ok_text (codes "join") game.number (colour_word (free_side game) ∷ [])
IsGameLine game (event.Move made) text = TellsMove game made.mv (ok_text (codes "move") game.number []) text
IsGameLine game (event.Offer by) text = text ≡ ok_text (codes "offer") game.number []
IsGameLine game (event.Accept by) text = text ≡ ok_text (codes "accept") game.number (end_fields (Some agreed))
IsGameLine game (event.Decline by) text = text ≡ ok_text (codes "decline") game.number []
IsGameLine game (event.Resign by) text = text ≡ ok_text (codes "resign") game.number (end_fields (Some (resigned by)))
IsGameLine game (event.Claim claim) text =
    IsClaimLine (is_granted claim.fifty game.start (game.moves ++ stated claim.mv)) game claim.fifty claim.mv text
IsGameLine game event.Fallen text = text ≡ with_fields (codes "fallen")
    (decimal game.number ∷ end_fields (Some (flag_fallen (position_of game))))
IsGameLine game event.Drop text = text ≡ ok_text (codes "drop") game.number []

-- An opening is of no game that stands; each other entry is of one.
abbrev pub IsLineOn : ℕ → Option GameState → Event → List ℕ → Type 0
IsLineOn number None (event.Open opening) text = text ≡ ok_text (codes "open") number []
IsLineOn number None _ text = ⊥
IsLineOn number (Some game) event text = IsGameLine game event text

-- the answer to the act that becomes an entry, on the table before it
abbrev pub IsActLine : TableState → Entry → List ℕ → Type 0
IsActLine table e text = IsLineOn e.game (find_game e.game table.games) e.event text

-- What holds of an entry that may come in a game that stands: it is no opening, and a move that it tells may be made.
abbrev pub MayCome : GameState → Event → Type 0
MayCome game (event.Open opening) = ⊥
MayCome game (event.Move made) = IsPlayable game made.mv
MayCome game (event.Claim claim) = ForSome claim.mv (IsPlayable game)
MayCome game _ = Unit {0}

-- the same on a table: an opening is of no game that stands
abbrev pub MayComeOn : Option GameState → Event → Type 0
MayComeOn None (event.Open opening) = Unit {0}
MayComeOn None _ = ⊥
MayComeOn (Some game) event = MayCome game event

-- Every entry that may come on a table is so.
abbrev pub LawOfComing : Type 0
LawOfComing =
    (table : TableState) (e : Entry) → IsTable table → IsEnteredOn table e
    → MayComeOn (find_game e.game table.games) e.event
