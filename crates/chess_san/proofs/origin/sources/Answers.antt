use Rattle.std.proofs.Common.{◌≡◌, ◌∙◌, List, Bool, true, Some, ap, subst, refl}
use Rattle.chess_bits.specs.declared.men.Colour.{Colour}
use Rattle.chess_bits.specs.declared.men.Kind.{Kind}
use Rattle.chess_bits.specs.declared.men.Kind.TheVariants as kinds
use Rattle.chess_bits.specs.Square.{Square}
use Rattle.chess_bits.specs.Man.{is_man}
use Rattle.chess_bits.specs.Table.{has, meet, IsSetOf}
use Rattle.chess_bits.specs.Attack.{Attacks}
use Rattle.chess_bits.proofs.Reversal.{facing}
use Rattle.chess_board.specs.declared.moves.Move.{Move}
use Rattle.chess_board.specs.Occupancy.{squares_with}
use Rattle.chess_board.specs.Position.{man_at, occupied_of}
use Rattle.chess_board.specs.Legal.{IsMoveOf, IsLegal}
use Rattle.chess_san.proofs.SourceLemmas.{own_squares, own_source, met_source, each_own, each_source}
use Rattle.chess_san.proofs.origin.sources.Goals.{After-occupied-occupied}
use Rattle.chess_san.proofs.origin.sources.Goals as goal

-- the squares with men of the side to move and the kind
own : (c : After-occupied-occupied) →
    c.of_man-own.result ≡ squares_with (is_man (c.args.board.now.side, c.args.kind)) c.args.board.now.placement
own c =
    let p = c.args.board.now in
    own_squares c.men.result.now p.placement c.side.result p.side c.args.kind c.of_man-own.result c.of_man-own.ensures
    c.side.ensures c.men.ensures

-- the squares with men
occupied : (c : After-occupied-occupied) → c.occupied-occupied.result ≡ occupied_of c.args.board.now.placement
occupied c = c.occupied-occupied.ensures ∙ ap occupied_of c.men-2.ensures

pub returns-in-Pawn-clause-own : goal.returns-in-Pawn-clause-own
returns-in-Pawn-clause-own c = λ s here.
    let p = c.args.board.now in
    own_source p.placement p.side c.args.kind c.of_man-own.result s
    (own (goal.at.returns-in-Pawn-clause-own c).After-occupied-occupied) here

pub returns-in-Pawn-clause-all : goal.returns-in-Pawn-clause-all
returns-in-Pawn-clause-all c = λ m legal stands there.
    let p = c.args.board.now in
    each_own p.placement p.side c.args.kind c.of_man-own.result m.from
    (own (goal.at.returns-in-Pawn-clause-all c).After-occupied-occupied) stands

-- a man of those that are met stands there
met_own : (c : After-occupied-occupied) (reached met : List Bool) → met ≡ meet c.of_man-own.result reached →
    (s : Square) → has met s ≡ true → man_at c.args.board.now.placement s ≡ Some (c.args.board.now.side, c.args.kind)
met_own c reached met is s here =
    let p = c.args.board.now in
    met_source p.placement p.side c.args.kind c.of_man-own.result reached met s (own c) is here

-- each move of a piece that slides comes from one of those that are met
each_met : (c : After-occupied-occupied) (kind : Kind) (reached met : List Bool) →
    met ≡ meet c.of_man-own.result reached → c.args.kind ≡ kind →
    facing kind c.args.board.now.side ≡ c.args.board.now.side →
    ((side : Colour) → IsSetOf reached (Attacks c.occupied-occupied.result side kind c.args.to)) →
    ((m : Move) → IsMoveOf c.args.board.now m kind →
    Attacks (occupied_of c.args.board.now.placement) c.args.board.now.side kind m.from m.to) →
    (m : Move) → IsLegal c.args.board.now m →
    man_at c.args.board.now.placement m.from ≡ Some (c.args.board.now.side, c.args.kind) → m.to ≡ c.args.to →
    has met m.from ≡ true
each_met c kind reached met is same faces of attacks =
    let p = c.args.board.now in
    let Set' : List Bool → Type 0 = λ men. IsSetOf reached (Attacks men p.side kind c.args.to) in
    each_source p c.args.kind kind c.of_man-own.result reached met c.args.to (own c) is same faces
    (subst Set' (occupied c) (of p.side)) attacks

pub returns-in-Knight-clause-own : goal.returns-in-Knight-clause-own
returns-in-Knight-clause-own c =
    met_own (goal.at.returns-in-Knight-clause-own c).After-occupied-occupied c.knight.result _ c.meet.ensures

pub returns-in-Knight-clause-all : goal.returns-in-Knight-clause-all
returns-in-Knight-clause-all c =
    each_met (goal.at.returns-in-Knight-clause-all c).After-occupied-occupied kinds.Knight c.knight.result _
    c.meet.ensures c.in-Knight.is refl (c.knight.ensures c.occupied-occupied.result) (λ m rule. rule.attacked)

pub returns-in-Bishop-clause-own : goal.returns-in-Bishop-clause-own
returns-in-Bishop-clause-own c =
    met_own (goal.at.returns-in-Bishop-clause-own c).After-occupied-occupied c.bishop.result _ c.meet-in-Bishop.ensures

pub returns-in-Bishop-clause-all : goal.returns-in-Bishop-clause-all
returns-in-Bishop-clause-all c =
    each_met (goal.at.returns-in-Bishop-clause-all c).After-occupied-occupied kinds.Bishop c.bishop.result _
    c.meet-in-Bishop.ensures c.in-Bishop.is refl c.bishop.ensures (λ m rule. rule.attacked)

pub returns-in-Rook-clause-own : goal.returns-in-Rook-clause-own
returns-in-Rook-clause-own c =
    met_own (goal.at.returns-in-Rook-clause-own c).After-occupied-occupied c.rook.result _ c.meet-in-Rook.ensures

pub returns-in-Rook-clause-all : goal.returns-in-Rook-clause-all
returns-in-Rook-clause-all c =
    each_met (goal.at.returns-in-Rook-clause-all c).After-occupied-occupied kinds.Rook c.rook.result _
    c.meet-in-Rook.ensures c.in-Rook.is refl c.rook.ensures (λ m rule. rule.attacked)

pub returns-in-Queen-clause-own : goal.returns-in-Queen-clause-own
returns-in-Queen-clause-own c =
    met_own (goal.at.returns-in-Queen-clause-own c).After-occupied-occupied c.queen.result _ c.meet-in-Queen.ensures

pub returns-in-Queen-clause-all : goal.returns-in-Queen-clause-all
returns-in-Queen-clause-all c =
    each_met (goal.at.returns-in-Queen-clause-all c).After-occupied-occupied kinds.Queen c.queen.result _
    c.meet-in-Queen.ensures c.in-Queen.is refl c.queen.ensures (λ m rule. rule.attacked)
