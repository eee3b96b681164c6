-- What the entries of one game tell, each by itself or with the entries before it.
use Rattle.std.specs.Prelude.{ℕ, ◌==◌, ◌&&◌, Bool, true, false, List, [], ◌∷◌, ◌++◌, filter, Option, Some, None}
use Rattle.std.specs.Prelude.{is_some}
use Rattle.std.specs.List.{flat_map}
use Rattle.chess_bits.specs.declared.men.Colour.{Colour}
use Rattle.chess_bits.specs.Man.{is_colour}
use Rattle.chess_board.specs.declared.moves.Move.{Move}
use Rattle.chess_clock.specs.ClockState.{on_move_after}
use Rattle.rec_codec.specs.declared.record.Event.{Event}
use Rattle.rec_codec.specs.declared.record.Event.TheVariants as event
use Rattle.rec_codec.specs.declared.record.Entry.{Entry}
use Rattle.rec_codec.specs.declared.record.Opening.{Opening}

-- the entries of a game, in their order
abbrev pub entries_of : ℕ → List Entry → List Entry
entries_of number entries = filter (λ e. e.game == number) entries

-- an entry, and those of its game that came before it
pub record Placed : Type 0 where
  pub before : List Entry
  pub entry : Entry

abbrev pub placed : List Entry → Entry → Placed
placed before entry = record { before = before; entry = entry }

abbrev pub placed_after : List Entry → List Entry → List Placed
placed_after before [] = []
placed_after before (e ∷ entries) = placed before e ∷ placed_after (before ++ e ∷ []) entries

-- each entry of a list at its place
abbrev pub each_placed : List Entry → List Placed
each_placed entries = placed_after [] entries

abbrev pub given_or : {A : Type 0} → Option A → Option A → Option A
given_or None instead = instead
given_or (Some a) instead = Some a

-- what f gives of the first element of which it gives something
abbrev pub first_given : {A B : Type 0} → (A → Option B) → List A → Option B
first_given f [] = None
first_given f (x ∷ xs) = given_or (f x) (first_given f xs)

-- ---- single entries

abbrev pub opening_of : Event → Option Opening
opening_of (event.Open opening) = Some opening
opening_of _ = None

abbrev pub joiner_of : Event → Option (List ℕ)
joiner_of (event.Join name) = Some name
joiner_of _ = None

abbrev pub is_open : Event → Bool
is_open (event.Open _) = true
is_open _ = false

abbrev pub is_drop : Event → Bool
is_drop event.Drop = true
is_drop _ = false

abbrev pub is_claim : Event → Bool
is_claim (event.Claim _) = true
is_claim _ = false

-- a move that there may be, as a list
abbrev pub stated : Option Move → List Move
stated None = []
stated (Some m) = m ∷ []

-- the move that an entry tells: a move entry's, or that stated with a claim
abbrev pub move_told : Event → List Move
move_told (event.Move made) = made.mv ∷ []
move_told (event.Claim claim) = stated claim.mv
move_told _ = []

-- The moves told by a list of entries. Those before an entry are the moves made before it: a claim whose stated move is
-- not made is correct, and ends the game.
abbrev pub moves_told : List Entry → List Move
moves_told entries = flat_map (λ e. move_told e.event) entries

-- a move, or a claim with a move, which completes a move unless the claim is correct
abbrev pub tells_move : Event → Bool
tells_move (event.Move _) = true
tells_move (event.Claim claim) = is_some claim.mv
tells_move _ = false

-- It offers a draw for the side: an offer, or a claim, which counts as one where it is wrong (FIDE article 9.1).
abbrev pub offers_for : Colour → Event → Bool
offers_for side (event.Offer by) = is_colour side by
offers_for side (event.Claim claim) = is_colour side claim.by
offers_for side _ = false

-- Whether the side makes the move of an entry: in a game whose first move is `first`'s, a move after so many moves is
-- of the side on move then.
abbrev pub moves_for : Colour → Colour → Event → Bool
moves_for first side (event.Move made) = is_colour side (on_move_after first made.ply)
moves_for first side (event.Claim claim) = is_colour side claim.by && is_some claim.mv
moves_for first side _ = false

-- The side answers an offer of the other: it declines, or completes a move.
abbrev pub answers_for : Colour → Colour → Event → Bool
answers_for first side (event.Decline by) = is_colour side by
answers_for first side e = moves_for first side e
