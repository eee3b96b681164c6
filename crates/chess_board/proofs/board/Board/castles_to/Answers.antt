use Rattle.std.proofs.Common.{◌≡◌, ◌∙◌, ◌&&◌, Bool, sym, ap}
use Rattle.chess_bits.specs.declared.men.Kind.TheVariants.{King}
use Rattle.chess_bits.specs.Square.{is_square}
use Rattle.chess_board.specs.Position.{Position, king_home}
use Rattle.chess_board.specs.Next.{moves_kind, castled_king}
use Rattle.chess_board.proofs.board.Board.castles_to.Goals as goal
use Rattle.chess_board.proofs.board.Board.castles_to.Goals.{Joined-holds_kind, then-holds_kind, else-holds_kind}

-- the king leaves its home
from_home : (c : Joined-holds_kind) →
    c.if-holds_kind.value ≡ (moves_kind c.args.self.now c.args.mv.now King
    && is_square c.args.mv.now.from (king_home c.args.self.now.side))
from_home c =
    let home : Bool = is_square c.args.mv.now.from (king_home c.args.self.now.side) in
    elim c.if-holds_kind.branch [
      | then-holds_kind w ↦
          w.value-is ∙ w.is_same_square.ensures.value
          ∙ ap (is_square c.args.mv.now.from) (w.king_home.ensures
          ∙ ap (λ (p : Position). king_home p.side) c.self.view_is)
          ∙ sym (ap (λ (b : Bool). b && home) (sym c.holds_kind.ensures ∙ w.if-holds_kind.true))
      | else-holds_kind w ↦
          w.value-is ∙ w.if-holds_kind.false
          ∙ sym (ap (λ (b : Bool). b && home) (sym c.holds_kind.ensures ∙ w.if-holds_kind.false))
    ]

pub returns-then-is_same_square : goal.returns-then-is_same_square
returns-then-is_same_square c =
    let p = c.args.self.now in
    let to = c.args.mv.now.to in
    c.is_same_square-then-is_same_square.ensures.value
    ∙ ap (is_square to) (c.castled_king.ensures ∙ ap (λ (q : Position). castled_king q.side c.args.wing) c.self.view_is)
    ∙ sym (ap (λ (b : Bool). b && is_square to (castled_king p.side c.args.wing))
    (sym (from_home (goal.at.returns-then-is_same_square c).Joined-holds_kind) ∙ c.if-is_same_square.true))

pub returns-else-is_same_square : goal.returns-else-is_same_square
returns-else-is_same_square c =
    let p = c.args.self.now in
    let to = c.args.mv.now.to in
    c.if-is_same_square.false
    ∙ sym (ap (λ (b : Bool). b && is_square to (castled_king p.side c.args.wing))
    (sym (from_home (goal.at.returns-else-is_same_square c).Joined-holds_kind) ∙ c.if-is_same_square.false))
