use Rattle.std.proofs.Common.{◌==◌, ◌&&◌, not, refl, sym, ◌∙◌}
use Rattle.std.proofs.lemmas.Bool.{eq-eqb, and_from, and_parts}
use Rattle.night_archive.specs.Files.{contains}
use Rattle.night_archive.specs.Clerk.{View, view, is_kept}
use Rattle.night_archive.proofs.night.let_go.Goals as goal

pub drop_game-requires : goal.drop_game-requires
drop_game-requires g c =
    let game = c.args.game in
    let old : View = view c.args.clerk.now in
    let may = sym c.may_go.ensures ∙ c.if-may_go.true in record {
      over = c.is_left.ensures.over game ∙ c.requires.over;
      safe = c.is_left.ensures.safe game ∙ c.requires.told.seen game c.requires.seen;
      drops = c.in_ok-is_left.ensures.drops c.if-branch.true ∙ c.requires.drops;
      matched = c.is_left.ensures.matched game
          ∙ c.requires.told.matched game (and_parts (is_kept (old.stage game)) (old.has game && not (contains game old.fresh)) may).0;
      unwatched = c.in_ok-is_left.ensures.unwatched game ∙ and_from (game == game) c.in_ok-is_left.field-0 (eq-eqb game game refl) c.if-branch.true;
    }
