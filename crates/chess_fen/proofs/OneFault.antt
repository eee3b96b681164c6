-- A text has one fault at most: each grants what the faults before it deny.
use Rattle.std.proofs.Common.{◌≡◌, ℕ, ◌<◌, List, refl, ap, subst, inl, inr, arith}
use Rattle.std.proofs.lemmas.Bool.{cases_lt, cases_eq}
use Rattle.chess_board.specs.declared.parts.BadBoard.{BadBoard}
use Rattle.chess_board.specs.Position.{Position}
use Rattle.chess_board.specs.Parts.{IsFirstBroken}
use Rattle.chess_board.proofs.Broken.{one_broken}
use Rattle.chess_fen.specs.declared.fields.FenError.{FenError}
use Rattle.chess_fen.specs.declared.fields.FenError.TheVariants as faults
use Rattle.chess_notation.specs.Fen.{IsFenOf}
use Rattle.chess_fen.specs.Reading.{FenFields, HasFields, HasPlacement, HasSide, HasRights, HasTarget, HasHalfmove, HasFullmove, IsFenFault}
use Rattle.chess_fen.proofs.FieldLemmas.{fields_in, HasFields-unique}
use Rattle.chess_fen.proofs.OnePosition.{IsFenOf-one_position}
use Rattle.chess_fen.proofs.Faults.{IsTellable, fen_fields, fields_told}

-- the order of the faults
abbrev order : FenError → ℕ
order faults.Shape = 0
order faults.Placement = 1
order faults.Side = 2
order faults.Castling = 3
order faults.Target = 4
order faults.Counter = 5
order (faults.Board broken) = 6

-- what a fault denies of a text's fields
abbrev Denied : FenError → FenFields → Type 0
Denied faults.Shape f = Unit {0}
Denied faults.Placement f = HasPlacement f
Denied faults.Side f = HasSide f
Denied faults.Castling f = HasRights f
Denied faults.Target f = HasTarget f
Denied faults.Counter f = HasHalfmove f × HasFullmove f
Denied (faults.Board broken) f = ⊥

-- a later fault grants it
abbrev IsGranted : List ℕ → FenError → Type 0
IsGranted text fault = (f : FenFields) × HasFields text f × Denied fault f

granted_of_fen : (text : List ℕ) (p : Position) (h : IsFenOf text p) → IsTellable p → (fault : FenError) → order fault < 6 →
    Denied fault (fields_in h.placement p)
granted_of_fen text p h ranges faults.Shape low = tt
granted_of_fen text p h ranges faults.Placement low = (p.placement, (fields_told text p h ranges).placement)
granted_of_fen text p h ranges faults.Side low = (p.side, (fields_told text p h ranges).side)
granted_of_fen text p h ranges faults.Castling low = (p.rights, (fields_told text p h ranges).rights)
granted_of_fen text p h ranges faults.Target low = (p.target, (fields_told text p h ranges).target)
granted_of_fen text p h ranges faults.Counter low =
    let told = fields_told text p h ranges in
    ((p.halfmove, told.halfmove), (p.fullmove, told.fullmove))
granted_of_fen text p h ranges (faults.Board broken) low = absurd (omega arith)

granted : (text : List ℕ) (a b : FenError) → order a < order b → IsFenFault text b → IsGranted text a
granted text a (faults.Board broken) low h =
    let ranges : IsTellable h.0 = record { whole = h.1; counters = h.2; target = h.5 } in
    (fields_in h.3.placement h.0, fen_fields text h.0 h.3 ranges, granted_of_fen text h.0 h.3 ranges a low)
granted text faults.Shape faults.Shape low h = absurd (omega arith)
granted text faults.Shape b low h = (h.0, h.1, tt)
granted text faults.Placement faults.Shape low h = absurd (omega arith)
granted text faults.Placement faults.Placement low h = absurd (omega arith)
granted text faults.Placement b low h = (h.0, h.1, h.2)
granted text faults.Side faults.Castling low h = (h.0, h.1, h.3)
granted text faults.Side faults.Target low h = (h.0, h.1, h.3)
granted text faults.Side faults.Counter low h = (h.0, h.1, h.3)
granted text faults.Side b low h = absurd (omega arith)
granted text faults.Castling faults.Target low h = (h.0, h.1, h.4)
granted text faults.Castling faults.Counter low h = (h.0, h.1, h.4)
granted text faults.Castling b low h = absurd (omega arith)
granted text faults.Target faults.Counter low h = (h.0, h.1, h.5)
granted text faults.Target b low h = absurd (omega arith)
granted text faults.Counter b low h = absurd (omega arith)
granted text (faults.Board broken) b low h = absurd (omega arith)

-- the fault itself does not
not_granted : (text : List ℕ) (fault : FenError) → IsFenFault text fault → ¬ IsGranted text fault
not_granted text faults.Shape h others = h others.0 others.1
not_granted text faults.Placement h others = h.2 (subst HasPlacement (HasFields-unique text others.0 h.0 others.1 h.1) others.2)
not_granted text faults.Side h others = h.3 (subst HasSide (HasFields-unique text others.0 h.0 others.1 h.1) others.2)
not_granted text faults.Castling h others = h.4 (subst HasRights (HasFields-unique text others.0 h.0 others.1 h.1) others.2)
not_granted text faults.Target h others = h.5 (subst HasTarget (HasFields-unique text others.0 h.0 others.1 h.1) others.2)
not_granted text faults.Counter h others =
    let Counters : FenFields → Type 0 = λ f. HasHalfmove f × HasFullmove f in
    h.6 (subst Counters (HasFields-unique text others.0 h.0 others.1 h.1) others.2)
not_granted text (faults.Board broken) h others = others.2

-- one text is the FEN of one position that fields can tell, which breaks one condition first
same_broken : (text : List ℕ) (a b : BadBoard) → IsFenFault text (faults.Board a) → IsFenFault text (faults.Board b) → a ≡ b
same_broken text a b h k =
    let counters = h.2 in
    let others = k.2 in
    let same : h.0 ≡ k.0 = IsFenOf-one_position text h.0 k.0 h.3 k.3
    (record { whole = h.1; halfmove = omega (arith, counters.0); fullmove = omega (arith, counters.2) })
    (record { whole = k.1; halfmove = omega (arith, others.0); fullmove = omega (arith, others.2) }) in
    one_broken k.0 a b (subst (λ (p : Position). IsFirstBroken p a) same h.4) k.4

same_order : (text : List ℕ) (a b : FenError) → IsFenFault text a → IsFenFault text b → order a ≡ order b → a ≡ b
same_order text faults.Shape faults.Shape h k e = refl
same_order text faults.Shape b h k e = absurd (omega arith)
same_order text faults.Placement faults.Placement h k e = refl
same_order text faults.Placement b h k e = absurd (omega arith)
same_order text faults.Side faults.Side h k e = refl
same_order text faults.Side b h k e = absurd (omega arith)
same_order text faults.Castling faults.Castling h k e = refl
same_order text faults.Castling b h k e = absurd (omega arith)
same_order text faults.Target faults.Target h k e = refl
same_order text faults.Target b h k e = absurd (omega arith)
same_order text faults.Counter faults.Counter h k e = refl
same_order text faults.Counter b h k e = absurd (omega arith)
same_order text (faults.Board a) (faults.Board b) h k e = ap faults.Board (same_broken text a b h k)
same_order text (faults.Board a) b h k e = absurd (omega arith)

pub one_fault : (text : List ℕ) (a b : FenError) → IsFenFault text a → IsFenFault text b → a ≡ b
one_fault text a b h k = elim (cases_eq (order a) (order b)) [
  | inl same ↦ same_order text a b h k same
  | inr other ↦ elim (cases_lt (order a) (order b)) [
    | inl low ↦ absurd (not_granted text a h (granted text a b low k))
    | inr high ↦ absurd (not_granted text b k (granted text b a (omega arith) h))
  ]
]
