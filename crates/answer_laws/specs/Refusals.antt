-- A refusal of the server, in the words of who reads its answers.
use Rattle.std.specs.Prelude.{◌^◌, ◌<◌}
use Rattle.chess_entry.specs.declared.refusals.Refusal as server
use Rattle.chess_entry.specs.declared.refusals.Refusal.TheVariants as server_refusals
use Rattle.server_answers.specs.declared.refusals.Refusal.{Refusal}
use Rattle.server_answers.specs.declared.refusals.Refusal.TheVariants as refusals

abbrev pub refusal_as : server.Refusal → Refusal
refusal_as (server_refusals.WrongPly ply) = refusals.WrongPly ply
refusal_as server_refusals.BadLine = refusals.BadLine
refusal_as server_refusals.NoName = refusals.NoName
refusal_as server_refusals.NoGame = refusals.NoGame
refusal_as server_refusals.NotSeated = refusals.NotSeated
refusal_as server_refusals.NotStarted = refusals.NotStarted
refusal_as server_refusals.Over = refusals.Over
refusal_as server_refusals.NotYourMove = refusals.NotYourMove
refusal_as server_refusals.BadMove = refusals.BadMove
refusal_as server_refusals.OfferStands = refusals.OfferStands
refusal_as server_refusals.NoOffer = refusals.NoOffer
refusal_as server_refusals.TooEarly = refusals.TooEarly
refusal_as server_refusals.AlreadyClaimed = refusals.AlreadyClaimed
refusal_as server_refusals.FlagUp = refusals.FlagUp
refusal_as server_refusals.Taken = refusals.Taken
refusal_as server_refusals.SamePlayer = refusals.SamePlayer
refusal_as server_refusals.BadFen = refusals.BadFen
refusal_as server_refusals.BadTime = refusals.BadTime
refusal_as server_refusals.TooManyGames = refusals.TooManyGames
refusal_as server_refusals.TooLong = refusals.TooLong
refusal_as server_refusals.NotOver = refusals.NotOver
refusal_as server_refusals.NoMemory = refusals.NoMemory
refusal_as server_refusals.BadMoment = refusals.BadMoment
refusal_as server_refusals.Finished = refusals.Finished

-- The number that it tells is one of 32 bits.
abbrev pub IsTold : server.Refusal → Type 0
IsTold (server_refusals.WrongPly ply) = ply < 2 ^ 32
IsTold _ = Unit {0}
