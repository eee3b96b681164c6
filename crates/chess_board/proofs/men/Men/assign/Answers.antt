use Rattle.std.proofs.Common.{◌≡◌, Bool, List}
use Rattle.chess_bits.specs.declared.men.Kind.{Kind}
use Rattle.chess_bits.specs.declared.men.Kind.TheVariants.{Pawn, Knight, Bishop, Rook, Queen, King}
use Rattle.chess_bits.specs.Square.{IsOnBoard}
use Rattle.chess_bits.specs.Table.{put}
use Rattle.chess_board.specs.Men.{placement_of, IsConsistent}
use Rattle.chess_board.specs.Occupancy.{there_if}
use Rattle.chess_board.proofs.MenAssign.{IsAssigned, colour_sets, IsConsistent-assigned, placement_of-assigned, white_set, black_set, with_kind_set, IsAssigned-kind}
use Rattle.chess_board.proofs.MenLemmas.{kind_set}
use Rattle.chess_board.proofs.men.Men.assign.Goals as goal
use Rattle.chess_board.proofs.men.Men.assign.Goals.{Joined-colour, in-White, in-Black}

coloured : (c : Joined-colour) →
    c.match-colour.self-inside ≡ colour_sets c.self.inside c.args.square c.args.colour c.args.stands
coloured c = elim c.match-colour.branch [
  | in-White w ↦ white_set c.self.inside c.match-colour.self-inside c.args.square c.args.colour c.args.stands
      w.assign.new.self w.in-White.is w.assign.ensures.assigned w.self-inside-is
  | in-Black w ↦ black_set c.self.inside c.match-colour.self-inside c.args.square c.args.colour c.args.stands
      w.assign-in-Black.new.self w.in-Black.is w.assign-in-Black.ensures.assigned w.self-inside-is
]

on_board : (c : Joined-colour) → IsOnBoard c.args.square
on_board c = elim c.match-colour.branch [
  | in-White w ↦ w.assign.ensures.on_board
  | in-Black w ↦ w.assign-in-Black.ensures.on_board
]

assigned : (c : Joined-colour) (one : Kind) (new : List Bool) → c.args.kind ≡ one →
    new ≡ put (kind_set one c.match-colour.self-inside) c.args.square c.args.stands →
    IsAssigned c.self.inside (with_kind_set c.match-colour.self-inside one new) c.args.square c.args.colour c.args.kind
    c.args.stands
assigned c one new is e =
    IsAssigned-kind c.self.inside c.match-colour.self-inside c.args.square c.args.colour c.args.kind one c.args.stands
    new is (coloured c) e

consistent : (c : Joined-colour) (one : Kind) (new : List Bool) → c.args.kind ≡ one →
    new ≡ put (kind_set one c.match-colour.self-inside) c.args.square c.args.stands →
    IsConsistent (with_kind_set c.match-colour.self-inside one new)
consistent c one new is e =
    IsConsistent-assigned c.self.inside _ c.args.square c.args.colour c.args.kind c.args.stands c.args.self.now
    c.self.invariant (on_board c) c.self.view_is c.requires (assigned c one new is e)

shown : (c : Joined-colour) (one : Kind) (new : List Bool) → c.args.kind ≡ one →
    new ≡ put (kind_set one c.match-colour.self-inside) c.args.square c.args.stands →
    placement_of (with_kind_set c.match-colour.self-inside one new)
    ≡ put c.args.self.now c.args.square (there_if c.args.stands (c.args.colour, c.args.kind))
shown c one new is e =
    placement_of-assigned c.self.inside _ c.args.square c.args.colour c.args.kind c.args.stands c.args.self.now
    c.self.invariant (on_board c) c.self.view_is c.requires (assigned c one new is e)

pub invariant_of-self : goal.invariant_of-self
invariant_of-self c = consistent (goal.at.invariant_of-self c).Joined-colour Pawn _ c.in-Pawn.is
    c.assign-in-Pawn.ensures.assigned

pub returns-in-Pawn : goal.returns-in-Pawn
returns-in-Pawn c = shown (goal.at.returns-in-Pawn c).Joined-colour Pawn _ c.in-Pawn.is
    c.assign-in-Pawn.ensures.assigned

pub invariant_of-self-in-Knight : goal.invariant_of-self-in-Knight
invariant_of-self-in-Knight c = consistent (goal.at.invariant_of-self-in-Knight c).Joined-colour Knight _ c.in-Knight.is
    c.assign-in-Knight.ensures.assigned

pub returns-in-Knight : goal.returns-in-Knight
returns-in-Knight c = shown (goal.at.returns-in-Knight c).Joined-colour Knight _ c.in-Knight.is
    c.assign-in-Knight.ensures.assigned

pub invariant_of-self-in-Bishop : goal.invariant_of-self-in-Bishop
invariant_of-self-in-Bishop c = consistent (goal.at.invariant_of-self-in-Bishop c).Joined-colour Bishop _ c.in-Bishop.is
    c.assign-in-Bishop.ensures.assigned

pub returns-in-Bishop : goal.returns-in-Bishop
returns-in-Bishop c = shown (goal.at.returns-in-Bishop c).Joined-colour Bishop _ c.in-Bishop.is
    c.assign-in-Bishop.ensures.assigned

pub invariant_of-self-in-Rook : goal.invariant_of-self-in-Rook
invariant_of-self-in-Rook c = consistent (goal.at.invariant_of-self-in-Rook c).Joined-colour Rook _ c.in-Rook.is
    c.assign-in-Rook.ensures.assigned

pub returns-in-Rook : goal.returns-in-Rook
returns-in-Rook c = shown (goal.at.returns-in-Rook c).Joined-colour Rook _ c.in-Rook.is
    c.assign-in-Rook.ensures.assigned

pub invariant_of-self-in-Queen : goal.invariant_of-self-in-Queen
invariant_of-self-in-Queen c = consistent (goal.at.invariant_of-self-in-Queen c).Joined-colour Queen _ c.in-Queen.is
    c.assign-in-Queen.ensures.assigned

pub returns-in-Queen : goal.returns-in-Queen
returns-in-Queen c = shown (goal.at.returns-in-Queen c).Joined-colour Queen _ c.in-Queen.is
    c.assign-in-Queen.ensures.assigned

pub invariant_of-self-in-King : goal.invariant_of-self-in-King
invariant_of-self-in-King c = consistent (goal.at.invariant_of-self-in-King c).Joined-colour King _ c.in-King.is
    c.assign-in-King.ensures.assigned

pub returns-in-King : goal.returns-in-King
returns-in-King c = shown (goal.at.returns-in-King c).Joined-colour King _ c.in-King.is
    c.assign-in-King.ensures.assigned
