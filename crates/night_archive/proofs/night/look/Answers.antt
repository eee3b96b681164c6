use Rattle.std.proofs.Common.{ℕ, ◌≡◌, ◌+◌, ◌∙◌, List, take, get_or, subst, arith}
use Rattle.std.proofs.lemmas.List.{take_more, take_all}
use Rattle.std.proofs.lemmas.Bool.{false≢true}
use Rattle.night_archive.specs.Night.{AreDone, AreSettledOf}
use Rattle.night_archive.proofs.Nights.{done_more, settled_more, contains_at}
use Rattle.night_archive.proofs.night.look.Goals as goal

pub loop-game-preserved : goal.loop-game-preserved
loop-game-preserved g c =
    let i = c.loop-game.game-index in
    let xs = c.args.over.now in (
      c.in_ok-look_at.ensures.told,
      done_more _ _ _ _ (get_or xs i 0) (take i xs) (take (i + 1) xs) c.in_ok-look_at.ensures.safe c.in_ok-look_at.ensures.later
          c.loop-game.invariant.1 c.in_ok-look_at.ensures.done (take_more xs i 0 (omega arith)),
      λ n h. c.in_ok-look_at.ensures.over n ∙ c.loop-game.invariant.2 n h,
      c.in_ok-look_at.ensures.settled,
      λ d. settled_more _ _ _ _ (get_or xs i 0) (take i xs) (take (i + 1) xs) c.in_ok-look_at.ensures.others c.in_ok-look_at.ensures.later
          (c.loop-game.invariant.4 (c.in_ok-look_at.ensures.fewer d)) (c.in_ok-look_at.ensures.here d) (take_more xs i 0 (omega arith)),
    )

pub loop-game-init : goal.loop-game-init
loop-game-init g c = (
  c.in_ok-clerk.ensures.told,
  λ n h. absurd (false≢true h),
  c.requires,
  c.in_ok-clerk.ensures.settled,
  λ d n h. absurd (false≢true h),
)

pub look_at-requires : goal.look_at-requires
look_at-requires g c =
    let i = c.loop-game.game-index in
    let xs = c.args.over.now in record {
      over = c.loop-game.invariant.2 (get_or xs i 0) (contains_at xs i (omega arith));
      drops = c.drops-droppable.ensures;
      told = c.loop-game.invariant.0;
      settled = c.loop-game.invariant.3;
    }

pub returns : goal.returns
returns g c =
    let over = c.args.over.now in
    let night = c.loop-game.night in
    let whole : take c.loop-game.game-index over ≡ over = take_all c.loop-game.game-index over (omega arith) in record {
      done = subst (λ (games : List ℕ). AreDone (g.N.Night.is_safe night) (g.N.Night.has_left night) games) whole c.loop-game.invariant.1;
      settled = subst (λ (games : List ℕ).
          AreSettledOf (g.N.Night.drops_games night) (g.N.Night.is_settled night) (g.N.Night.has_left night) games)
          whole c.loop-game.invariant.4;
    }
