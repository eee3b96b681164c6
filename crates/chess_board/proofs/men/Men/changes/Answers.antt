use Rattle.chess_board.proofs.MenChanges.{AreChanges-differences}
use Rattle.chess_board.proofs.men.Men.changes.Goals as goal

pub returns : goal.returns
returns c =
    let changes = AreChanges-differences c.self.inside c.other.inside c.self.invariant c.other.invariant c.args.self.now
    c.args.other.now c.self.view_is c.other.view_is in
    λ s. rw (
      c.union-5.ensures,
      c.union-4.ensures,
      c.union-3.ensures,
      c.union-2.ensures,
      c.union-light.ensures,
      c.union.ensures,
      c.difference-white.ensures,
      c.difference-black.ensures,
      c.difference-pawns.ensures,
      c.difference-knights.ensures,
      c.difference-bishops.ensures,
      c.difference-rooks.ensures,
      c.difference-queens.ensures,
    ) (changes s)
