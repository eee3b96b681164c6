use Rattle.std.proofs.Common.{◌≡◌, [], ◌∷◌, sym, subst}
use Rattle.std.specs.List.{join_with_byte}
use Rattle.std.proofs.lemmas.Result.{err_from_is_err_and}
use Rattle.chess_fen.specs.Reading.{FenFields, HasFields, IsFenField}
use Rattle.chess_fen.proofs.FieldLemmas.{first_field}
use Rattle.chess_fen.proofs.fields.Fields.of.Goals.{In_ok-placement, In_ok-side, In_ok-castling, In_ok-target, In_ok-halfmove}
use Rattle.chess_fen.proofs.fields.Fields.of.Goals as goal

-- what follows each field
after_placement : (c : In_ok-placement) (f : FenFields) → HasFields c.args.text.now f →
    c.in_ok-placement.rest.now ≡ join_with_byte 32 (f.side ∷ f.castling ∷ f.target ∷ f.halfmove ∷ f.fullmove ∷ [])
after_placement c f h =
    (first_field c.args.text.now c.in_ok-placement.placement.now c.in_ok-placement.rest.now f.placement _ c.in_ok-placement.ensures.field h.placement
    c.in_ok-placement.ensures.parts h.joined).rest

after_side : (c : In_ok-side) (f : FenFields) → HasFields c.args.text.now f →
    c.in_ok-placement.rest.now ≡ join_with_byte 32 (f.side ∷ f.castling ∷ f.target ∷ f.halfmove ∷ f.fullmove ∷ []) →
    c.in_ok-side.rest.now ≡ join_with_byte 32 (f.castling ∷ f.target ∷ f.halfmove ∷ f.fullmove ∷ [])
after_side c f h joined =
    (first_field c.in_ok-placement.rest.now c.in_ok-side.side.now c.in_ok-side.rest.now f.side _ c.in_ok-side.ensures.field h.side
    c.in_ok-side.ensures.parts joined).rest

after_castling : (c : In_ok-castling) (f : FenFields) → HasFields c.args.text.now f →
    c.in_ok-side.rest.now ≡ join_with_byte 32 (f.castling ∷ f.target ∷ f.halfmove ∷ f.fullmove ∷ []) →
    c.in_ok-castling.rest.now ≡ join_with_byte 32 (f.target ∷ f.halfmove ∷ f.fullmove ∷ [])
after_castling c f h joined =
    (first_field c.in_ok-side.rest.now c.in_ok-castling.castling.now c.in_ok-castling.rest.now f.castling _ c.in_ok-castling.ensures.field h.castling
    c.in_ok-castling.ensures.parts joined).rest

after_target : (c : In_ok-target) (f : FenFields) → HasFields c.args.text.now f →
    c.in_ok-castling.rest.now ≡ join_with_byte 32 (f.target ∷ f.halfmove ∷ f.fullmove ∷ []) →
    c.in_ok-target.rest.now ≡ join_with_byte 32 (f.halfmove ∷ f.fullmove ∷ [])
after_target c f h joined =
    (first_field c.in_ok-castling.rest.now c.in_ok-target.target.now c.in_ok-target.rest.now f.target _ c.in_ok-target.ensures.field h.target
    c.in_ok-target.ensures.parts joined).rest

after_halfmove : (c : In_ok-halfmove) (f : FenFields) → HasFields c.args.text.now f →
    c.in_ok-target.rest.now ≡ join_with_byte 32 (f.halfmove ∷ f.fullmove ∷ []) →
    c.in_ok-halfmove.rest.now ≡ f.fullmove
after_halfmove c f h joined =
    (first_field c.in_ok-target.rest.now c.in_ok-halfmove.halfmove.now c.in_ok-halfmove.rest.now f.halfmove _ c.in_ok-halfmove.ensures.field h.halfmove
    c.in_ok-halfmove.ensures.parts joined).rest

pub returns-in_err-side-clause-none : goal.returns-in_err-side-clause-none
returns-in_err-side-clause-none c =
    let p = err_from_is_err_and c.from_residual-in_err-side.result c.from_residual-in_err-side.ensures.1 in
    let at = goal.at.returns-in_err-side-clause-none c in
    rw (p.1) (λ f h.
    let placement = after_placement at.In_ok-placement f h in
    c.in_err-side.ensures.none f.side _ h.side placement)

pub returns-in_err-castling-clause-none : goal.returns-in_err-castling-clause-none
returns-in_err-castling-clause-none c =
    let p = err_from_is_err_and c.from_residual-in_err-castling.result c.from_residual-in_err-castling.ensures.1 in
    let at = goal.at.returns-in_err-castling-clause-none c in
    rw (p.1) (λ f h.
    let placement = after_placement at.In_ok-placement f h in
    let side = after_side at.In_ok-side f h placement in
    c.in_err-castling.ensures.none f.castling _ h.castling side)

pub returns-in_err-target-clause-none : goal.returns-in_err-target-clause-none
returns-in_err-target-clause-none c =
    let p = err_from_is_err_and c.from_residual-in_err-target.result c.from_residual-in_err-target.ensures.1 in
    let at = goal.at.returns-in_err-target-clause-none c in
    rw (p.1) (λ f h.
    let placement = after_placement at.In_ok-placement f h in
    let side = after_side at.In_ok-side f h placement in
    let castling = after_castling at.In_ok-castling f h side in
    c.in_err-target.ensures.none f.target _ h.target castling)

pub returns-in_err-halfmove-clause-none : goal.returns-in_err-halfmove-clause-none
returns-in_err-halfmove-clause-none c =
    let p = err_from_is_err_and c.from_residual-in_err-halfmove.result c.from_residual-in_err-halfmove.ensures.1 in
    let at = goal.at.returns-in_err-halfmove-clause-none c in
    rw (p.1) (λ f h.
    let placement = after_placement at.In_ok-placement f h in
    let side = after_side at.In_ok-side f h placement in
    let castling = after_castling at.In_ok-castling f h side in
    let target = after_target at.In_ok-target f h castling in
    c.in_err-halfmove.ensures.none f.halfmove _ h.halfmove target)

pub returns-in_err-fullmove-clause-none : goal.returns-in_err-fullmove-clause-none
returns-in_err-fullmove-clause-none c =
    let p = err_from_is_err_and c.from_residual-in_err-fullmove.result c.from_residual-in_err-fullmove.ensures.1 in
    let at = goal.at.returns-in_err-fullmove-clause-none c in
    rw (p.1) (λ f h.
    let placement = after_placement at.In_ok-placement f h in
    let side = after_side at.In_ok-side f h placement in
    let castling = after_castling at.In_ok-castling f h side in
    let target = after_target at.In_ok-target f h castling in
    let halfmove = after_halfmove at.In_ok-halfmove f h target in
    c.in_err-fullmove.ensures.none (subst IsFenField (sym halfmove) h.fullmove))
