use Rattle.std.proofs.Common.{◌≡◌, ◌++◌, length, take, codes, decimal}
use Rattle.std.specs.List.{flat_map}
use Rattle.std.specs.String.{string_bytes}
use Rattle.lobby_words.specs.Answers.{ended}
use Rattle.lobby_words.specs.Players.{who_front}
use Rattle.lobby_words.proofs.rows.who_text.Given as goal

abbrev pub invariant-loop-name : goal.invariant-loop-name
invariant-loop-name l =
    string_bytes l.text ≡ (who_front l.is_paused ++ decimal (length l.names) ++ codes "\n") ++ flat_map ended (take l.name-index l.names)
