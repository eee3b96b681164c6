use Rattle.std.proofs.Common.{subst}
use Rattle.night_archive.specs.Archive.{AreLinesOf}
use Rattle.night_archive.proofs.archive.games_of_file.Goals as goal

pub returns-clause-of : goal.returns-clause-of
returns-clause-of c =
    subst (λ ls. AreLinesOf c.in_ok-games.games.items ls) c.cut_lines.ensures.lines c.in_ok-games.ensures.of
