-- From where the men of a position came by the last move.
use Rattle.std.specs.Prelude.{◌≡◌, ◌≢◌, ◌⊎◌, List, Option, Some, None}
use Rattle.std.proofs.Common.{ap, subst, sym, ◌∙◌, inl, inr}
use Rattle.std.proofs.lemmas.Option.{same_Some}
use Rattle.chess_bits.specs.declared.men.Colour.{Colour}
use Rattle.chess_bits.specs.declared.men.Kind.{Kind}
use Rattle.chess_bits.specs.declared.men.Kind.TheVariants.{Pawn, Knight, Bishop, Rook, Queen, King}
use Rattle.chess_bits.specs.Square.{Square}
use Rattle.chess_bits.specs.Man.{Man, is_kind}
use Rattle.chess_bits.proofs.ManLemmas.{same_kind, is_kind-true}
use Rattle.chess_board.specs.declared.castling.Wing.{Wing}
use Rattle.chess_board.specs.declared.castling.Wing.TheVariants as wing
use Rattle.chess_board.specs.declared.moves.Move.{Move}
use Rattle.chess_board.specs.Position.{Position, man_at, rook_home, IsValid}
use Rattle.chess_board.specs.Next.{beside, castled_rook, became_of, placement_after}
use Rattle.chess_board.specs.Legal.{IsMoveOf, IsLegal}
use Rattle.chess_board.proofs.Moved.{man_at-removed}
use Rattle.chess_board.proofs.Candidates.{IsEnPassant, IsCastling, IsMove, Goes, IsMove-candidate}
use Rattle.chess_board.proofs.Steps.{stood-step}
use Rattle.chess_board.proofs.Ways.{IsStep-plain, IsStep-en_passant, IsStep-king, IsStep-rook, without_pawn, king_moved, IsOnBoard-beside}

-- the man has just moved there, and was of the kind `old` before
pub record Arrived (p : Position) (m : Move) (q : Square) (man : Man) : Type 0 where
  pub old : Kind
  pub goes : Goes p m old man.1
  pub there : q ≡ m.to
  pub side : man.0 ≡ p.side

-- such a man stood somewhere, and is a rook
pub record Castled (p : Position) (man : Man) : Type 0 where
  pub home : Square
  pub stood : man_at p.placement home ≡ Some man
  pub rook : man.1 ≡ Rook

-- a man stood there before, or moved there, or is a rook that castled
abbrev pub Came : Position → Move → Square → Man → Type 0
Came p m q man = (man_at p.placement q ≡ Some man) ⊎ Arrived p m q man ⊎ Castled p man

arrived : (p : Position) (m : Move) (old new : Kind) (q : Square) (man : Man) → Goes p m old new → q ≡ m.to →
    Some (p.side, new) ≡ Some man → Arrived p m q man
arrived p m old new q man goes there same =
    let is : (p.side, new) ≡ man = same_Some (p.side, new) man same in
    record {
      old = old;
      goes = subst (λ (k : Kind). Goes p m old k) (ap (λ (x : Man). x.1) is) goes;
      there = there;
      side = sym (ap (λ (x : Man). x.0) is);
    }

castled : (p : Position) (m : Move) (w : Wing) (q : Square) (man : Man) → IsValid p → IsCastling p m w →
    man_at (placement_after p m) q ≡ Some man → Came p m q man
castled p m w q man valid castling here =
    elim (stood-step (king_moved p m) (placement_after p m) p.side (rook_home p.side w) (castled_rook p.side w)
    Rook Rook q man (IsStep-rook p m w valid castling) here) [
      | inl put ↦ inr (inr (record {
        home = rook_home p.side w;
        stood = castling.rook ∙ put.1;
        rook = sym (ap (λ (x : Man). x.1) (same_Some (p.side, Rook) man put.1));
      }))
      | inr stood ↦
          elim (stood-step p.placement (king_moved p m) p.side m.from m.to King King q man
          (IsStep-king p m valid castling.goes) stood) [
            | inl put ↦ inr (inl (arrived p m King King q man castling.goes put.0 put.1))
            | inr before ↦ inl before
          ]
    ]

moved_there : (p : Position) (m : Move) (kind : Kind) (q : Square) (man : Man) → IsValid p → IsMove p m kind →
    man_at (placement_after p m) q ≡ Some man → Came p m q man
moved_there p m kind q man valid move here = elim move.way [
  | inl plain ↦
      elim (stood-step p.placement (placement_after p m) p.side m.from m.to kind move.new q man
      (IsStep-plain p m kind move.new valid move.goes plain) here) [
        | inl put ↦ inr (inl (arrived p m kind move.new q man move.goes put.0 put.1))
        | inr before ↦ inl before
      ]
  | inr (inl passes) ↦
      elim (stood-step (without_pawn p m) (placement_after p m) p.side m.from m.to kind move.new q man
      (IsStep-en_passant p m kind move.new valid move.goes passes) here) [
        | inl put ↦ inr (inl (arrived p m kind move.new q man move.goes put.0 put.1))
        | inr before ↦
            inl (man_at-removed p.placement (beside m) q man valid.whole (IsOnBoard-beside p m passes) before)
      ]
  | inr (inr (inl castling)) ↦ castled p m wing.King q man valid castling here
  | inr (inr (inr castling)) ↦ castled p m wing.Queen q man valid castling here
]

pub came : (p : Position) (m : Move) (q : Square) (man : Man) → IsValid p → IsLegal p m →
    man_at (placement_after p m) q ≡ Some man → Came p m q man
came p m q man valid legal here =
    moved_there p m legal.candidate.kind q man valid (IsMove-candidate p m valid legal.candidate) here

-- a king is what was a king
pub arrived_king : (p : Position) (m : Move) (q : Square) (man : Man) → (a : Arrived p m q man) → a.old ≡ King →
    man.1 ≡ King
arrived_king p m q man a was =
    sym (is_kind-true King man.1 (a.goes.same_king ∙ ap (is_kind King) was))

none_becomes : (p : Position) (m : Move) (kind : Kind) → IsMoveOf p m kind → kind ≢ Pawn → m.promotion ≡ None
none_becomes p m Pawn rule piece = absurd (piece (λ i. Pawn))
none_becomes p m Knight rule piece = rule.no_promotion
none_becomes p m Bishop rule piece = rule.no_promotion
none_becomes p m Rook rule piece = rule.no_promotion
none_becomes p m Queen rule piece = rule.no_promotion
none_becomes p m King (inl rule) piece = rule.no_promotion
none_becomes p m King (inr (inl castles)) piece = castles.no_promotion
none_becomes p m King (inr (inr castles)) piece = castles.no_promotion

-- the rule by which a man went
pub rule_of : (p : Position) (m : Move) (q : Square) (man : Man) (kind : Kind) → IsLegal p m →
    (a : Arrived p m q man) → a.old ≡ kind → IsMoveOf p m kind
rule_of p m q man kind legal a was =
    subst (λ (k : Kind). IsMoveOf p m k)
    (same_kind (man_at p.placement m.from) (p.side, legal.candidate.kind) (p.side, a.old) legal.candidate.own
    a.goes.own ∙ was) legal.candidate.rule

-- and what was a piece still is
pub arrived_piece : (p : Position) (m : Move) (q : Square) (man : Man) (kind : Kind) → IsLegal p m →
    (a : Arrived p m q man) → a.old ≡ kind → kind ≢ Pawn → man.1 ≡ kind
arrived_piece p m q man kind legal a was piece =
    let none = none_becomes p m kind (rule_of p m q man kind legal a was) piece in
    same_kind (became_of p.side m.promotion (man_at p.placement m.from)) (p.side, man.1) (p.side, a.old)
    a.goes.becomes
    (ap (λ (k : Option Kind). became_of p.side k (man_at p.placement m.from)) none ∙ a.goes.own) ∙ was
