-- Just where no set of men tells two boards apart, the same stands on them.
use Rattle.std.proofs.Common.{◌≡◌, ◌∙◌, Bool, true, false, not, ◌||◌, ◌&&◌, List, length, None, refl, ap, sym, inl, inr}
use Rattle.std.specs.Prelude.{◌↔◌}
use Rattle.std.proofs.lemmas.Bool.{cases_Bool, false≢true, or_parts, or_from}
use Rattle.chess_bits.specs.declared.men.Colour.{Colour}
use Rattle.chess_bits.specs.declared.men.Colour.TheVariants.{White, Black}
use Rattle.chess_bits.specs.declared.men.Kind.{Kind}
use Rattle.chess_bits.specs.declared.men.Kind.TheVariants.{Pawn, Knight, Bishop, Rook, Queen}
use Rattle.chess_bits.specs.Square.{Square, IsOnBoard, on_board}
use Rattle.chess_bits.specs.Man.{Man, is_of, holds}
use Rattle.chess_bits.specs.Table.{has, union, without}
use Rattle.chess_bits.proofs.SetLemmas.{has-union, has-without, length-union, length-without}
use Rattle.chess_bits.proofs.TableLemmas.{at-off_board, IsOnBoard-from_test, on_board-true}
use Rattle.chess_board.specs.Occupancy.{squares_with, is_a, AreChanges}
use Rattle.chess_board.specs.Position.{Placement, man_at}
use Rattle.chess_board.specs.declared.men.Men.TheInside.{Inside}
use Rattle.chess_board.specs.Men.{man_on, placement_of, IsConsistent}
use Rattle.chess_board.proofs.AttackLemmas.{has-squares_with}
use Rattle.chess_board.proofs.MenLemmas.{colour_set, kind_set, squares_with-colour, squares_with-kind, length-squares_with, man_at-placement_of}

-- ---- sets that differ

-- a set that lacks just the squares that are so
record Lacks (set : List Bool) (P : Square → Type 0) : Type 0 where
  pub whole : length set ≡ 64
  pub exact : (s : Square) → has set s ≡ false ↔ P s

-- the squares that one of two sets has alone
abbrev pub difference : List Bool → List Bool → List Bool
difference a b = union (without a b) (without b a)

alone : Bool → Bool → Bool
alone a b = (a && not b) || (b && not a)

neither : (a b : Bool) → alone a b ≡ false ↔ a ≡ b
unfolding alone
neither true true = ((λ _. refl), (λ _. refl))
neither true false = ((λ e. absurd (false≢true (sym e))), (λ e. absurd (false≢true (sym e))))
neither false true = ((λ e. absurd (false≢true (sym e))), (λ e. absurd (false≢true e)))
neither false false = ((λ _. refl), (λ _. refl))

Lacks-difference : (a b : List Bool) → length a ≡ 64 → length b ≡ 64 →
    Lacks (difference a b) (λ s. has a s ≡ has b s)
unfolding alone
Lacks-difference a b whole_a whole_b =
    let there : length a ≡ length b = whole_a ∙ sym whole_b in
    let back : length b ≡ length a = sym there in
    let parts : length (without a b) ≡ length (without b a) =
    length-without a b there ∙ there ∙ sym (length-without b a back) in
    let is : (s : Square) → has (difference a b) s ≡ alone (has a s) (has b s) =
    λ s. has-union (without a b) (without b a) s parts
    ∙ ap (λ (x : Bool). x || has (without b a) s) (has-without a b s there)
    ∙ ap (λ (x : Bool). (has a s && not (has b s)) || x) (has-without b a s back) in
    record {
      whole = length-union (without a b) (without b a) parts ∙ length-without a b there ∙ whole_a;
      exact = λ s. (
        (λ out. (neither (has a s) (has b s)).0 (sym (is s) ∙ out)),
        (λ same. is s ∙ (neither (has a s) (has b s)).1 same),
      );
    }

Lacks-union : {a b : List Bool} {P Q : Square → Type 0} → Lacks a P → Lacks b Q → Lacks (union a b) (λ s. P s × Q s)
Lacks-union {a} {b} {P} {Q} of_a of_b =
    let same : length a ≡ length b = of_a.whole ∙ sym of_b.whole in
    record {
      whole = length-union a b same ∙ of_a.whole;
      exact = λ s. (
        (λ out.
            let parts = or_parts (has a s) (has b s) (sym (has-union a b s same) ∙ out) in
            ((of_a.exact s).0 parts.0, (of_b.exact s).0 parts.1)),
        (λ both. has-union a b s same
            ∙ or_from (has a s) (has b s) ((of_a.exact s).1 both.0) ((of_b.exact s).1 both.1)),
      );
    }

-- ---- the sets of men

-- a square that the sets of two boards tell alike has one man
man_on-same : (a b : Inside) (s : Square) → has a.white s ≡ has b.white s → has a.black s ≡ has b.black s →
    has a.pawns s ≡ has b.pawns s → has a.knights s ≡ has b.knights s → has a.bishops s ≡ has b.bishops s →
    has a.rooks s ≡ has b.rooks s → has a.queens s ≡ has b.queens s → man_on a s ≡ man_on b s
unfolding man_on
man_on-same a b s white black pawn knight bishop rook queen = rw (white, black, pawn, knight, bishop, rook, queen) refl

-- and where one man stands, a set of the men that are so tells alike
has-same : (is : Man → Bool) (old new : Placement) (a b : List Bool) (s : Square) → squares_with is old ≡ a →
    squares_with is new ≡ b → man_at old s ≡ man_at new s → has a s ≡ has b s
has-same is old new a b s is_old is_new same =
    ap (λ (set : List Bool). has set s) (sym is_old) ∙ has-squares_with is old s ∙ ap (holds is) same
    ∙ sym (has-squares_with is new s) ∙ ap (λ (set : List Bool). has set s) is_new

module _ (a b : Inside) (of_a : IsConsistent a) (of_b : IsConsistent b) where
  of_colour : (colour : Colour) → Lacks (difference (colour_set colour a) (colour_set colour b))
      (λ s. has (colour_set colour a) s ≡ has (colour_set colour b) s)
  of_colour colour = Lacks-difference (colour_set colour a) (colour_set colour b)
      (length-squares_with (is_of colour) a (colour_set colour a) (squares_with-colour colour a of_a))
      (length-squares_with (is_of colour) b (colour_set colour b) (squares_with-colour colour b of_b))

  of_kind : (kind : Kind) → Lacks (difference (kind_set kind a) (kind_set kind b))
      (λ s. has (kind_set kind a) s ≡ has (kind_set kind b) s)
  of_kind kind = Lacks-difference (kind_set kind a) (kind_set kind b)
      (length-squares_with (is_a kind) a (kind_set kind a) (squares_with-kind kind a of_a))
      (length-squares_with (is_a kind) b (kind_set kind b) (squares_with-kind kind b of_b))

  SameMan : Square → Type 0
  SameMan s = man_at (placement_of a) s ≡ man_at (placement_of b) s

  same_colour : (colour : Colour) (s : Square) → SameMan s → has (colour_set colour a) s ≡ has (colour_set colour b) s
  unfolding SameMan
  same_colour colour s = has-same (is_of colour) (placement_of a) (placement_of b) (colour_set colour a)
      (colour_set colour b) s (squares_with-colour colour a of_a) (squares_with-colour colour b of_b)

  same_kind : (kind : Kind) (s : Square) → SameMan s → has (kind_set kind a) s ≡ has (kind_set kind b) s
  unfolding SameMan
  same_kind kind s = has-same (is_a kind) (placement_of a) (placement_of b) (kind_set kind a) (kind_set kind b) s
      (squares_with-kind kind a of_a) (squares_with-kind kind b of_b)

  -- the squares that seven sets tell apart are those that changed
  pub AreChanges-differences : (old new : Placement) → placement_of a ≡ old → placement_of b ≡ new →
      AreChanges old new (union (difference a.white b.white) (union (difference a.black b.black)
      (union (difference a.queens b.queens) (union (difference a.rooks b.rooks) (union (difference a.bishops b.bishops)
      (union (difference a.knights b.knights) (difference a.pawns b.pawns)))))))
  unfolding SameMan
  AreChanges-differences old new is_old is_new = λ s.
      let seven = (Lacks-union (of_colour White) (Lacks-union (of_colour Black)
      (Lacks-union (of_kind Queen) (Lacks-union (of_kind Rook) (Lacks-union (of_kind Bishop)
      (Lacks-union (of_kind Knight) (of_kind Pawn))))))).exact s in
      let to_old : SameMan s → man_at old s ≡ man_at new s = λ same.
      ap (λ (p : Placement). man_at p s) (sym is_old) ∙ same ∙ ap (λ (p : Placement). man_at p s) is_new in
      let to_sets : man_at old s ≡ man_at new s → SameMan s = λ same.
      ap (λ (p : Placement). man_at p s) is_old ∙ same ∙ ap (λ (p : Placement). man_at p s) (sym is_new) in (
        (λ out.
            let (white, (black, (queen, (rook, (bishop, (knight, pawn)))))) = seven.0 out in
            to_old (elim (cases_Bool (on_board s)) [
              | inl on' ↦
                  let on = IsOnBoard-from_test s on' in
                  man_at-placement_of a s on ∙ man_on-same a b s white black pawn knight bishop rook queen
                  ∙ sym (man_at-placement_of b s on)
              | inr off' ↦
                  let off : (IsOnBoard s → ⊥) = λ (on : IsOnBoard s). false≢true (sym off' ∙ on_board-true s on) in
                  at-off_board None (placement_of a) s off ∙ sym (at-off_board None (placement_of b) s off)
            ])),
        (λ same.
            let here = to_sets same in
            seven.1 (
              same_colour White s here,
              (
                same_colour Black s here,
                (
                  same_kind Queen s here,
                  (same_kind Rook s here, (same_kind Bishop s here, (same_kind Knight s here, same_kind Pawn s here))),
                ),
              ),
            )),
      )
