use Rattle.std.proofs.Common.{◌≡◌, ◌∙◌, ap, sym, refl, inl, inr, List, Option, Some}
use Rattle.chess_bits.specs.declared.men.Kind.{Kind}
use Rattle.chess_bits.specs.declared.men.Kind.TheVariants.{Pawn, Knight, Bishop, Rook, Queen, King}
use Rattle.chess_bits.specs.Man.{Man}
use Rattle.chess_bits.specs.Square.{Square, IsOnBoard}
use Rattle.chess_board.specs.Position.{man_at}
use Rattle.chess_board.specs.declared.men.Men.TheInside.{Inside}
use Rattle.chess_board.specs.Men.{placement_of, man_on, kind_on}
use Rattle.chess_board.proofs.MenLemmas.{man_at-placement_of, man_on-told, man_on-none}
use Rattle.chess_board.proofs.men.Men.man_at.Goals as goal
use Rattle.chess_board.proofs.men.Men.man_at.Goals.{Joined-contains, then-contains, else-contains+then-contains-2}

shown : (sets : Inside) (s : Square) (here : Option Man) (placement : List (Option Man)) → IsOnBoard s →
    placement_of sets ≡ placement → here ≡ man_on sets s → here ≡ man_at placement s
shown sets s here placement on view e = e ∙ sym (man_at-placement_of sets s on)
    ∙ ap (λ (x : List (Option Man)). man_at x s) view

told : (c : Joined-contains) (k : Kind) → k ≡ kind_on c.self.inside c.args.square →
    Some (c.if-contains.colour, k) ≡ man_at c.args.self.now c.args.square
told c k e =
    shown c.self.inside c.args.square (Some (c.if-contains.colour, k)) c.args.self.now c.contains.ensures.on_board
    c.self.view_is (man_on-told c.self.inside c.args.square c.if-contains.colour k
    (elim c.if-contains.branch [
      | then-contains w ↦ inl (w.if-contains.ensures.member, w.colour-is)
      | else-contains+then-contains-2 w ↦ inr (
        w.if-contains.ensures.member,
        w.if-contains-2.ensures.member,
        w.colour-is,
      )
    ]) e)

pub returns-else-contains-2 : goal.returns-else-contains-2
returns-else-contains-2 c = shown c.self.inside c.args.square _ c.args.self.now c.contains.ensures.on_board
    c.self.view_is
    (man_on-none c.self.inside c.args.square c.if-contains.ensures.member c.if-contains-2.ensures.member)

pub returns-then-contains-3 : goal.returns-then-contains-3
returns-then-contains-3 c =
    told (goal.at.returns-then-contains-3 c).Joined-contains Pawn
    (rw (← c.if-contains-3.ensures.member) refl)

pub returns-then-contains-4 : goal.returns-then-contains-4
returns-then-contains-4 c =
    told (goal.at.returns-then-contains-4 c).Joined-contains Knight
    (rw (← c.if-contains-3.ensures.member, ← c.if-contains-4.ensures.member) refl)

pub returns-then-contains-5 : goal.returns-then-contains-5
returns-then-contains-5 c =
    told (goal.at.returns-then-contains-5 c).Joined-contains Bishop
    (rw (← c.if-contains-3.ensures.member, ← c.if-contains-4.ensures.member, ← c.if-contains-5.ensures.member) refl)

pub returns-then-contains-6 : goal.returns-then-contains-6
returns-then-contains-6 c =
    told (goal.at.returns-then-contains-6 c).Joined-contains Rook
    (rw (
      ← c.if-contains-3.ensures.member,
      ← c.if-contains-4.ensures.member,
      ← c.if-contains-5.ensures.member,
      ← c.if-contains-6.ensures.member,
    ) refl)

pub returns-then-contains-7 : goal.returns-then-contains-7
returns-then-contains-7 c =
    told (goal.at.returns-then-contains-7 c).Joined-contains Queen
    (rw (
      ← c.if-contains-3.ensures.member,
      ← c.if-contains-4.ensures.member,
      ← c.if-contains-5.ensures.member,
      ← c.if-contains-6.ensures.member,
      ← c.if-contains-7.ensures.member,
    ) refl)

pub returns-else-contains-7 : goal.returns-else-contains-7
returns-else-contains-7 c =
    told (goal.at.returns-else-contains-7 c).Joined-contains King
    (rw (
      ← c.if-contains-3.ensures.member,
      ← c.if-contains-4.ensures.member,
      ← c.if-contains-5.ensures.member,
      ← c.if-contains-6.ensures.member,
      ← c.if-contains-7.ensures.member,
    ) refl)
