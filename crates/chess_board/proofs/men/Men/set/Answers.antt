use Rattle.std.proofs.Common.{◌≡◌, ◌∙◌, ap, sym, Option, Some, None}
use Rattle.chess_bits.specs.Man.{Man}
use Rattle.chess_bits.specs.Table.{put}
use Rattle.chess_board.specs.Position.{Placement, man_at}
use Rattle.chess_board.proofs.MenAssign.{man_at-emptied, put-empty, put-twice}
use Rattle.chess_board.proofs.men.Men.set.Goals as goal
use Rattle.chess_board.proofs.men.Men.set.Goals.{Joined-man_at, in-Some, in_default}

-- the square is empty once the man that stood there is taken away
emptied : (c : Joined-man_at) → c.match-man_at.self ≡ put c.args.self.now c.args.square None
emptied c = elim c.match-man_at.branch [
  | in-Some w ↦ w.self-is ∙ w.assign.ensures
  | in_default w ↦
      w.self-is ∙ sym (put-empty c.args.self.now c.args.square c.number-on_board.ensures.on_board
      (sym c.man_at.ensures ∙ w.in_default.is))
]

pub assign-requires-in-Some-man : goal.assign-requires-in-Some-man
assign-requires-in-Some-man c =
    ap (λ (p : Placement). man_at p c.args.square) (emptied (goal.at.assign-requires-in-Some-man c).Joined-man_at)
    ∙ man_at-emptied c.args.self.now c.args.square c.number-on_board.ensures.on_board

pub returns-in-Some-man : goal.returns-in-Some-man
returns-in-Some-man c =
    let here : Option Man = Some (c.in-Some-man.colour, c.in-Some-man.kind) in
    c.assign-in-Some-man.ensures ∙ ap (λ (p : Placement). put p c.args.square here)
    (emptied (goal.at.returns-in-Some-man c).Joined-man_at)
    ∙ put-twice c.args.self.now c.args.square None here ∙ ap (put c.args.self.now c.args.square) (sym c.in-Some-man.is)

pub returns-in_default-man : goal.returns-in_default-man
returns-in_default-man c =
    emptied (goal.at.returns-in_default-man c).Joined-man_at
    ∙ ap (put c.args.self.now c.args.square) (sym c.in_default-man.is)
