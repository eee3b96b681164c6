use Rattle.std.proofs.Common.{◌≡◌, ◌∙◌, ap, sym}
use Rattle.chess_bits.specs.declared.men.Kind.{Kind}
use Rattle.chess_bits.specs.declared.men.Kind.TheVariants.{Pawn, Knight, Bishop, Rook, Queen, King}
use Rattle.chess_board.specs.Occupancy.{squares_with, is_a}
use Rattle.chess_board.specs.Position.{Placement}
use Rattle.chess_board.specs.Men.{placement_of, IsConsistent}
use Rattle.chess_board.specs.declared.men.Men.TheInside.{Inside}
use Rattle.chess_board.proofs.MenLemmas.{kind_set, squares_with-kind}
use Rattle.chess_board.proofs.men.Men.of_kind.Goals as goal

told : (sets : Inside) (now : Placement) (kind one : Kind) → IsConsistent sets → placement_of sets ≡ now →
    kind ≡ one → kind_set one sets ≡ squares_with (is_a kind) now
told sets now k one consistent view is =
    sym (squares_with-kind one sets consistent) ∙ ap (squares_with (is_a one)) view
    ∙ ap (λ (own : Kind). squares_with (is_a own) now) (sym is)

pub returns-in-Pawn : goal.returns-in-Pawn
returns-in-Pawn c = told c.self.inside c.args.self.now c.args.kind Pawn c.self.invariant c.self.view_is c.in-Pawn.is

pub returns-in-Knight : goal.returns-in-Knight
returns-in-Knight c = told c.self.inside c.args.self.now c.args.kind Knight c.self.invariant c.self.view_is c.in-Knight.is

pub returns-in-Bishop : goal.returns-in-Bishop
returns-in-Bishop c = told c.self.inside c.args.self.now c.args.kind Bishop c.self.invariant c.self.view_is c.in-Bishop.is

pub returns-in-Rook : goal.returns-in-Rook
returns-in-Rook c = told c.self.inside c.args.self.now c.args.kind Rook c.self.invariant c.self.view_is c.in-Rook.is

pub returns-in-Queen : goal.returns-in-Queen
returns-in-Queen c = told c.self.inside c.args.self.now c.args.kind Queen c.self.invariant c.self.view_is c.in-Queen.is

pub returns-in-King : goal.returns-in-King
returns-in-King c = told c.self.inside c.args.self.now c.args.kind King c.self.invariant c.self.view_is c.in-King.is
