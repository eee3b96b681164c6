use Rattle.std.proofs.Common.{◌≡◌, map, drop}
use Rattle.night_games.specs.Roster.{stands_among}
use Rattle.night_games.proofs.roster.stands_among.Given as goal

abbrev pub invariant-loop-text : goal.invariant-loop-text
invariant-loop-text l =
    stands_among l.word (map (λ text. text.now) (drop l.text-index l.texts))
    ≡ stands_among l.word (map (λ text. text.now) l.texts)
