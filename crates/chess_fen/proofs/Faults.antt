-- A text that is a valid position's FEN has no fault.
use Rattle.std.proofs.Common.{◌≡◌, ℕ, List, [], ◌∷◌, length, decimal, Result, Ok, Err, refl, ap, ◌∙◌, subst, arith}
use Rattle.std.specs.Prelude.{IfOk, IfErr}
use Rattle.std.specs.List.{join_with_byte}
use Rattle.chess_board.specs.Position.{Position, IsValid, HasCounters}
use Rattle.chess_board.proofs.Broken.{none_broken}
use Rattle.chess_fen.specs.declared.fields.FenError.{FenError}
use Rattle.chess_fen.specs.declared.fields.FenError.TheVariants as faults
use Rattle.chess_notation.specs.Fen.{IsFenOf, fen_of, side_letter, rights_text, target_text}
use Rattle.chess_fen.specs.Reading.{FenFields, HasFields, TellsPlacement, TellsSide, TellsRights, TellsTarget, TellsNumber, IsTargetOnBoard, IsFenFault}
use Rattle.chess_fen.proofs.FieldLemmas.{fields_in, IsFenOf-HasFields, HasFields-unique}
use Rattle.chess_fen.proofs.OnePosition.{IsFenOf-one_position}
use Rattle.chess_fen.proofs.Positions.{fen_of-IsFenOf}

-- what the fields say of a position
pub record TellsAll (f : FenFields) (p : Position) : Type 0 where
  pub placement : TellsPlacement f.placement p.placement
  pub side : TellsSide f.side p.side
  pub rights : TellsRights f.castling p.rights
  pub target : TellsTarget f.target p.target
  pub halfmove : TellsNumber 0 f.halfmove p.halfmove
  pub fullmove : TellsNumber 1 f.fullmove p.fullmove

-- fields that tell a position are its FEN
pub TellsAll-IsFenOf : (text : List ℕ) (f : FenFields) (p : Position) → HasFields text f → TellsAll f p → IsFenOf text p
TellsAll-IsFenOf text f p h told =
    let join : List ℕ → List ℕ → List ℕ → List ℕ → List ℕ → List ℕ =
    λ side castling target halfmove fullmove.
    join_with_byte 32 (f.placement ∷ side ∷ castling ∷ target ∷ halfmove ∷ fullmove ∷ []) in
    record {
      placement = f.placement;
      is_placement = told.placement.spelled;
      joined =
          h.joined
          ∙ (ap (λ x. join x f.castling f.target f.halfmove f.fullmove) told.side
          ∙ (ap (λ x. join (side_letter p.side ∷ []) x f.target f.halfmove f.fullmove) told.rights
          ∙ (ap (λ x. join (side_letter p.side ∷ []) (rights_text p.rights) x f.halfmove f.fullmove) told.target.spelled
          ∙ (ap (λ x. join (side_letter p.side ∷ []) (rights_text p.rights) (target_text p.target) x f.fullmove)
          told.halfmove.spelled
          ∙ ap (λ x. join (side_letter p.side ∷ []) (rights_text p.rights) (target_text p.target) (decimal p.halfmove) x)
          told.fullmove.spelled))));
    }

-- a position that fields can tell, valid or not
pub record IsTellable (p : Position) : Type 0 where
  pub whole : length p.placement ≡ 64
  pub counters : HasCounters p
  pub target : IsTargetOnBoard p.target

valid_tellable : (p : Position) → IsValid p → IsTellable p
valid_tellable p valid = record {
  whole = valid.whole;
  counters = valid.counters;
  target = λ s e. (valid.target s e).on_board;
}

-- its FEN has fields, and they tell it
pub fen_fields : (text : List ℕ) (p : Position) (h : IsFenOf text p) → IsTellable p →
    HasFields text (fields_in h.placement p)
fen_fields text p h ranges =
    let counters = ranges.counters in
    IsFenOf-HasFields text p h (omega (arith, counters.0)) (omega (arith, counters.2))

pub fields_told : (text : List ℕ) (p : Position) (h : IsFenOf text p) → IsTellable p → TellsAll (fields_in h.placement p) p
fields_told text p h ranges = record {
  placement = record { whole = ranges.whole; spelled = h.is_placement };
  side = refl;
  rights = refl;
  target = record { on_board = ranges.target; spelled = refl };
  halfmove = record { from = omega arith; to = ranges.counters.0; spelled = refl };
  fullmove = record { from = ranges.counters.1; to = ranges.counters.2; spelled = refl };
}

fen_told : (text : List ℕ) (f : FenFields) (p : Position) → HasFields text f → IsFenOf text p → IsValid p → TellsAll f p
fen_told text f p split h valid =
    let ranges = valid_tellable p valid in
    subst (λ g. TellsAll g p) (HasFields-unique text (fields_in h.placement p) f (fen_fields text p h ranges) split)
    (fields_told text p h ranges)

pub no_fault : (text : List ℕ) (fault : FenError) (p : Position) → IsFenFault text fault → IsValid p → IsFenOf text p → ⊥
no_fault text faults.Shape p h valid fen =
    h (fields_in fen.placement p) (fen_fields text p fen (valid_tellable p valid))
no_fault text faults.Placement p h valid fen =
    let told = fen_told text h.0 p h.1 fen valid in h.2 (p.placement, told.placement)
no_fault text faults.Side p h valid fen =
    let told = fen_told text h.0 p h.1 fen valid in h.3 (p.side, told.side)
no_fault text faults.Castling p h valid fen =
    let told = fen_told text h.0 p h.1 fen valid in h.4 (p.rights, told.rights)
no_fault text faults.Target p h valid fen =
    let told = fen_told text h.0 p h.1 fen valid in h.5 (p.target, told.target)
no_fault text faults.Counter p h valid fen =
    let told = fen_told text h.0 p h.1 fen valid in
    h.6 ((p.halfmove, told.halfmove), (p.fullmove, told.fullmove))
no_fault text (faults.Board fault) p h valid fen =
    let counters = valid.counters in
    let others = h.2 in
    let same : p ≡ h.0 = IsFenOf-one_position text p h.0 fen h.3
    (record { whole = valid.whole; halfmove = omega (arith, counters.0); fullmove = omega (arith, counters.2) })
    (record { whole = h.1; halfmove = omega (arith, others.0); fullmove = omega (arith, others.2) }) in
    none_broken h.0 fault (subst IsValid same valid) h.4

-- What is read is exactly the one position of which the text is the FEN.
pub read_again : (text : List ℕ) (r : Result Position FenError) → IfOk r (IsFenOf text) → IfOk r IsValid →
    IfErr r (IsFenFault text) → (p : Position) → IsValid p → IsFenOf text p → r ≡ Ok p
read_again text (Ok q) fen sound fault p valid h =
    let counters = valid.counters in
    let others = sound.counters in
    ap Ok (IsFenOf-one_position text q p fen h
    (record { whole = sound.whole; halfmove = omega (arith, others.0); fullmove = omega (arith, others.2) })
    (record { whole = valid.whole; halfmove = omega (arith, counters.0); fullmove = omega (arith, counters.2) }))
read_again text (Err e) fen sound fault p valid h = absurd (no_fault text e p fault valid h)

pub written_again : (text : List ℕ) (r : Result Position FenError) → IfOk r (IsFenOf text) → IfOk r IsValid →
    IfErr r (IsFenFault text) → (p : Position) → IsValid p → text ≡ fen_of p → r ≡ Ok p
written_again text r fen sound fault p valid e = read_again text r fen sound fault p valid (fen_of-IsFenOf text p e)

-- valid positions with one FEN are one
pub fen_of-injective : (p q : Position) → IsValid p → IsValid q → fen_of p ≡ fen_of q → p ≡ q
fen_of-injective p q valid others e =
    let h = valid.counters in
    let k = others.counters in
    IsFenOf-one_position (fen_of p) p q (fen_of-IsFenOf (fen_of p) p refl) (fen_of-IsFenOf (fen_of p) q e)
    (record { whole = valid.whole; halfmove = omega (arith, h.0); fullmove = omega (arith, h.2) })
    (record { whole = others.whole; halfmove = omega (arith, k.0); fullmove = omega (arith, k.2) })
