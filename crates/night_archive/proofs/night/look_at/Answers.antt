use Rattle.std.proofs.Common.{sym, ◌∙◌}
use Rattle.night_archive.specs.Clerk.{View, view}
use Rattle.night_archive.proofs.Nights.{over_asking, over_settled_but}
use Rattle.night_archive.proofs.night.look_at.Goals as goal

pub take_in-requires : goal.take_in-requires
take_in-requires g c =
    let game = c.args.game in
    let night = c.args.night.now in
    let old : View = view c.args.clerk.now in
    let new : View = view c.over.new.self in
    let asked = sym c.in_ok-over.ensures.0 ∙ c.if-branch.true in record {
      over = c.requires.over;
      asking = over_asking game c.args.droppable old new asked c.in_ok-over.ensures.1 (g.N.Night.is_safe night)
          (g.N.Night.is_matched night) c.requires.told;
      settled = over_settled_but game c.args.droppable old new asked c.in_ok-over.ensures.1 (g.N.Night.drops_games night)
          (g.N.Night.is_settled night) c.requires.settled;
    }
