-- The sets of squares that the targets of a man are made of.
use Rattle.std.specs.Prelude.{◌≡◌, ◌⊎◌, ◌↔◌, Bool, true, false, cond, not, List, length, Option, Some, None}
use Rattle.std.proofs.Common.{refl, sym, ap, ◌∙◌, inl, inr}
use Rattle.std.proofs.lemmas.Bool.{false≢true, both_ways, and_parts, and_from, not-true, not_from_false, false_from_ne_true}
use Rattle.std.proofs.lemmas.List.{length-map}
use Rattle.chess_bits.specs.declared.men.Colour.{Colour}
use Rattle.chess_bits.specs.declared.men.Kind.{Kind}
use Rattle.chess_bits.specs.declared.men.Kind.TheVariants.{Pawn}
use Rattle.chess_bits.specs.Square.{Square, IsOnBoard, is_square}
use Rattle.chess_bits.specs.Man.{other, is_of, holds}
use Rattle.chess_bits.specs.Table.{has, put, empty, union, meet, without, IsSetOf}
use Rattle.chess_bits.specs.Attack.{pawn_attacks, Reaches, Attacks}
use Rattle.chess_bits.proofs.TableLemmas.{length-put, at-put, is_square-true, is_square-same}
use Rattle.chess_bits.proofs.SetLemmas.{has-meet, has-without, length-without, length-meet, IsSetOf-union, IsSetOf-like}
use Rattle.chess_attacks.proofs.Listed.{length-empty, has-empty}
use Rattle.chess_board.specs.Occupancy.{squares_with}
use Rattle.chess_board.specs.Position.{Position, occupied_of}
use Rattle.chess_board.specs.Legal.{HoldsColour, Advances, AdvancesTwo, PawnTakes, TakesEnPassant, IsPieceMove}
use Rattle.chess_board.proofs.AttackLemmas.{has-own}
use Rattle.chess_moves.specs.Targets.{plain, GoesTo}
use Rattle.chess_moves.proofs.SquareLemmas.{colour-from_test}

-- ---- the empty set, and one square

pub none_set : (P : Square → Type 0) → ((s : Square) → IsOnBoard s → ¬ P s) → IsSetOf empty P
none_set P none = record {
  whole = length-empty;
  exact = λ s on. ((λ here. absurd (false≢true (sym (has-empty s on) ∙ here))), (λ is. absurd (none s on is)));
}

-- a set is that of its own squares
pub set_itself : (set : List Bool) → length set ≡ 64 → IsSetOf set (λ s. has set s ≡ true)
set_itself set whole = record { whole = whole; exact = λ s on. ((λ is. is), (λ is. is)) }

cond_parts : (b c : Bool) → cond b c false ≡ true → (b ≡ true) × (c ≡ true)
cond_parts true c e = (refl, e)
cond_parts false c e = absurd (false≢true e)

cond_from : (b c : Bool) → b ≡ true → c ≡ true → cond b c false ≡ true
cond_from true c e f = f
cond_from false c e f = absurd (false≢true e)

pub only_set : (square : Square) (b : Bool) → IsOnBoard square →
    IsSetOf (put empty square b) (λ s. (s ≡ square) × (b ≡ true))
only_set square b on_square = record {
  whole = length-put empty square b ∙ length-empty;
  exact = λ s on.
      let told : has (put empty square b) s ≡ cond (is_square s square) b false =
      at-put false empty square s b length-empty on_square
      ∙ ap (λ (x : Bool). cond (is_square s square) b x) (has-empty s on) in (
        (λ here.
            let both = cond_parts (is_square s square) b (sym told ∙ here) in
            (is_square-true s square both.0, both.1)),
        (λ is. told ∙ cond_from (is_square s square) b (is_square-same s square is.0) is.1),
      );
}

-- the one square at which something can be so
pub one_set : (set : List Bool) (to : Square) (b : Bool) (P : Square → Type 0) →
    IsSetOf set (λ s. (s ≡ to) × (b ≡ true)) → ((s : Square) → P s → s ≡ to) → (b ≡ true) ↔ P to → IsSetOf set P
one_set set to b P of there is = IsSetOf-like set (λ s. (s ≡ to) × (b ≡ true)) P of
    (λ s on here. rw here.0 (is.0 here.1))
    (λ s on holds. (there s holds, is.1 (let P' : Square → Type 0 = P in rw (there s holds) at holds)))

-- ---- pawns

-- the four ways of a pawn
pub pawn_set : (p : Position) (from : Square) (one two takes : List Bool) →
    IsSetOf one (λ to. Advances p (plain from to)) → IsSetOf two (λ to. AdvancesTwo p (plain from to)) →
    IsSetOf takes (λ to. PawnTakes p (plain from to) ⊎ TakesEnPassant p (plain from to)) →
    IsSetOf (union (union one two) takes) (GoesTo p Pawn from)
pawn_set p from one two takes of_one of_two of_takes =
    let Straight : Square → Type 0 = λ to. Advances p (plain from to) ⊎ AdvancesTwo p (plain from to) in
    let Taking : Square → Type 0 = λ to. PawnTakes p (plain from to) ⊎ TakesEnPassant p (plain from to) in
    IsSetOf-like (union (union one two) takes) (λ to. Straight to ⊎ Taking to) (GoesTo p Pawn from)
    (IsSetOf-union (union one two) takes Straight Taking
    (IsSetOf-union one two (λ to. Advances p (plain from to)) (λ to. AdvancesTwo p (plain from to)) of_one of_two)
    of_takes)
    (λ s on way. elim way [
      | inl (inl step) ↦ inl step
      | inl (inr steps) ↦ inr (inl steps)
      | inr taking ↦ inr (inr taking)
    ])
    (λ s on way. elim way [
      | inl step ↦ inl (inl step)
      | inr (inl steps) ↦ inl (inr steps)
      | inr (inr taking) ↦ inr taking
    ])

-- the squares with men of a colour
pub own_set : (p : Position) (colour : Colour) → length p.placement ≡ 64 →
    IsSetOf (squares_with (is_of colour) p.placement) (λ s. HoldsColour p s colour)
own_set p colour whole = record {
  whole = length-map p.placement (holds (is_of colour)) ∙ whole;
  exact = λ s on. (
    colour-from_test p.placement colour s,
    λ held. has-own p.placement colour held.0 s held.1,
  );
}

some_target : (target : Option Square) (t s : Square) → target ≡ Some t → s ≡ t → target ≡ Some s
some_target target t s e same = e ∙ ap Some (sym same)

pub target_there : (target : Option Square) (t s : Square) → target ≡ Some t → target ≡ Some s → s ≡ t
target_there target t s e f = cc

pub takable_set : (p : Position) (theirs mark : List Bool) (t : Square) →
    IsSetOf theirs (λ s. HoldsColour p s (other p.side)) → p.target ≡ Some t →
    IsSetOf mark (λ s. (s ≡ t) × (true ≡ true)) →
    IsSetOf (union theirs mark) (λ s. HoldsColour p s (other p.side) ⊎ (p.target ≡ Some s))
takable_set p theirs mark t of_theirs e of_mark =
    IsSetOf-like (union theirs mark) (λ s. HoldsColour p s (other p.side) ⊎ ((s ≡ t) × (true ≡ true)))
    (λ s. HoldsColour p s (other p.side) ⊎ (p.target ≡ Some s))
    (IsSetOf-union theirs mark (λ s. HoldsColour p s (other p.side)) (λ s. (s ≡ t) × (true ≡ true)) of_theirs of_mark)
    (λ s on some. elim some [ inl held ↦ inl held | inr at ↦ inr (some_target p.target t s e at.0) ])
    (λ s on some. elim some [ inl held ↦ inl held | inr is ↦ inr (target_there p.target t s e is, refl) ])

no_target : (target : Option Square) (s : Square) → target ≡ None → ¬ (target ≡ Some s)
no_target target s e f = absurd (cc)

pub takable_set_none : (p : Position) (theirs : List Bool) →
    IsSetOf theirs (λ s. HoldsColour p s (other p.side)) → p.target ≡ None →
    IsSetOf theirs (λ s. HoldsColour p s (other p.side) ⊎ (p.target ≡ Some s))
takable_set_none p theirs of e =
    IsSetOf-like theirs (λ s. HoldsColour p s (other p.side))
    (λ s. HoldsColour p s (other p.side) ⊎ (p.target ≡ Some s)) of
    (λ s on held. inl held)
    (λ s on some. elim some [ inl held ↦ held | inr is ↦ absurd (no_target p.target s e is) ])

-- the squares in both sets
pub both_set : (a b : List Bool) (P Q : Square → Type 0) → IsSetOf a P → IsSetOf b Q →
    IsSetOf (meet a b) (λ s. P s × Q s)
both_set a b P Q of_a of_b = record {
  whole = length-meet a b (of_a.whole ∙ sym of_b.whole) ∙ of_a.whole;
  exact = λ s on. (
    (λ here.
        let both = and_parts (has a s) (has b s) (sym (has-meet a b s) ∙ here) in
        ((of_a.exact s on).0 both.0, (of_b.exact s on).0 both.1)),
    (λ is. has-meet a b s ∙ and_from (has a s) (has b s) ((of_a.exact s on).1 is.0) ((of_b.exact s on).1 is.1)),
  );
}

pub takes_set : (p : Position) (from : Square) (set : List Bool) →
    IsSetOf set (λ s. Reaches (pawn_attacks p.side) from s ×
    (HoldsColour p s (other p.side) ⊎ (p.target ≡ Some s))) →
    IsSetOf set (λ to. PawnTakes p (plain from to) ⊎ TakesEnPassant p (plain from to))
takes_set p from set of =
    IsSetOf-like set
    (λ s. Reaches (pawn_attacks p.side) from s × (HoldsColour p s (other p.side) ⊎ (p.target ≡ Some s)))
    (λ to. PawnTakes p (plain from to) ⊎ TakesEnPassant p (plain from to)) of
    (λ s on is. elim (is.1) [
      | inl held ↦ inl (record { attacked = is.0; taken = held })
      | inr crossed ↦ inr (record { attacked = is.0; crossed = crossed })
    ])
    (λ s on way. elim way [
      | inl takes ↦ (takes.attacked, inl takes.taken)
      | inr passes ↦ (passes.attacked, inr passes.crossed)
    ])

-- ---- pieces

pub piece_set : (p : Position) (from : Square) (kind : Kind) (seen own : List Bool) →
    IsSetOf seen (Attacks (occupied_of p.placement) p.side kind from) →
    IsSetOf own (λ s. HoldsColour p s p.side) →
    IsSetOf (without seen own) (λ to. IsPieceMove p (plain from to) kind)
piece_set p from kind seen own of_seen of_own =
    let len : length seen ≡ length own = of_seen.whole ∙ sym of_own.whole in
    record {
      whole = length-without seen own len ∙ of_seen.whole;
      exact = λ s on. (
        (λ here.
            let both = and_parts (has seen s) (not (has own s)) (sym (has-without seen own s len) ∙ here) in
            record {
              attacked = (of_seen.exact s on).0 both.0;
              free = λ held. both_ways (has own s) (not-true (has own s) both.1) ((of_own.exact s on).1 held);
              no_promotion = refl;
            }),
        (λ move. has-without seen own s len
            ∙ and_from (has seen s) (not (has own s)) ((of_seen.exact s on).1 move.attacked)
            (not_from_false (has own s) (false_from_ne_true (has own s) (λ here.
            move.free ((of_own.exact s on).0 here))))),
      );
    }
