use Rattle.std.proofs.Common.{ℕ, ◌≡◌, ◌≤◌, ◌+◌, ◌-◌, suc, length, take, arith, refl, subst, ◌∙◌}
use Rattle.text_pgn.specs.Game.{ArePlayed}
use Rattle.text_pgn.specs.Replaying.{words_left}
use Rattle.text_pgn.proofs.Replaying.{stuck_behind, whole}
use Rattle.text_pgn.proofs.replay.Replay.play.Goals as goal

pub loop-init : goal.loop-init
loop-init c =
    let self = c.args.self in
    record {
      goes = λ game pgn u. u;
      words = refl;
      forth = λ n moves played.
          let none : n + 0 ≡ n = omega arith in
          (moves, subst (λ (k : ℕ). ArePlayed self.board (take k (words_left self)) moves) none played);
      at = omega arith;
    }

pub loop-preserved : goal.loop-preserved
loop-preserved c =
    let self = c.args.self in
    let was = c.loop.invariant in
    let goes = rw c.if-not-branch.false at c.in_ok-step.ensures.goes in
    record {
      goes = λ game pgn u. goes.goes game pgn (was.goes game pgn u);
      words = goes.words ∙ was.words;
      forth = λ n moves played.
          let more : n + (c.loop.counter + 1) ≡ suc n + c.loop.counter = omega arith in
          let behind = was.forth (suc n) moves
          (subst (λ (k : ℕ). ArePlayed self.board (take k (words_left self)) moves) more played) in
          goes.forth n behind.0 behind.1;
      at = omega (arith, goes.at, was.at);
    }

pub returns-then-not-branch : goal.returns-then-not-branch
returns-then-not-branch c = λ game pgn u.
    let left = c.args.most - suc c.loop.counter in
    let is : c.args.most ≡ suc left + c.loop.counter = omega (arith, c.loop-test.true, c.min-count.ensures) in (
      (rw c.if-not-branch.true at c.in_ok-step.ensures.stops) game pgn (c.loop.invariant.goes game pgn u),
      stuck_behind c.args.self c.loop.replay c.args.most c.loop.counter left is c.loop.invariant.forth
          ((rw c.if-not-branch.true at c.in_ok-step.ensures.stuck) left),
    )

pub returns-else-left-gt0 : goal.returns-else-left-gt0
returns-else-left-gt0 c = λ game pgn u.
    let same : length c.loop.replay.words.items ≡ length c.args.self.words.items = rw c.loop.invariant.words refl in
    let past : length c.loop.replay.words.items ≤ c.loop.replay.at =
    omega (arith, c.left-2.ensures, c.if-left-gt0.false) in (
      omega (
        arith,
        same,
        past,
        c.loop.invariant.at,
        c.loop-test.false,
        c.loop.auto.counter-end,
        c.min-count.ensures,
        c.left.ensures,
      ),
      whole game pgn c.loop.replay past (c.loop.invariant.goes game pgn u),
    )
