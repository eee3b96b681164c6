use Rattle.std.proofs.Common.{Bool, true, ◌==◌, take, get_or, sym, ap, ◌∙◌, arith}
use Rattle.std.specs.Prelude.{if◌then◌else◌}
use Rattle.std.proofs.lemmas.List.{take_more}
use Rattle.night_archive.specs.Files.{contains}
use Rattle.night_archive.proofs.Lists.{contains_more}
use Rattle.night_archive.proofs.clerk.set_of.Goals as goal

pub loop-game-preserved : goal.loop-game-preserved
loop-game-preserved c = λ g.
    let i = c.loop-game.game-index in
    let xs = c.args.archive.now in
    c.in_ok-keep.ensures g
    ∙ (ap (λ (b : Bool). if get_or xs i 0 == g then true else b) (c.loop-game.invariant g)
    ∙ (sym (contains_more g (get_or xs i 0) (take i xs)) ∙ ap (contains g) (sym (take_more xs i 0 (omega arith)))))
