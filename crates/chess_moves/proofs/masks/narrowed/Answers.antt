use Rattle.std.proofs.Common.{◌≡◌, ◌∙◌, ap, sym, subst, refl, List, Bool, length, true}
use Rattle.std.proofs.lemmas.Bool.{false≢true}
use Rattle.chess_bits.specs.Square.{Square, IsOnBoard}
use Rattle.chess_bits.specs.Table.{has, IsSetOf}
use Rattle.chess_board.specs.Position.{occupied_of}
use Rattle.chess_moves.proofs.Paths.{length-between}
use Rattle.chess_moves.proofs.Singles.{IsOne}
use Rattle.chess_moves.proofs.Watching.{sliders_set, length-occupied, own_on, line_none, line_free, line_pinned}
use Rattle.chess_moves.proofs.masks.narrowed.Goals as goal

-- the set of one square that has a square is that of this square
one_of : (set : List Bool) (s : Square) → IsOnBoard s → has set s ≡ true → IsOne set → IsSetOf set (λ q. q ≡ s)
one_of set s on here one =
    let Set' : Square → Type 0 = λ x. IsSetOf set (λ q. q ≡ x) in
    subst Set' (sym ((one.2.exact s on).0 here)) one.2

pub is_single-requires : goal.is_single-requires
is_single-requires c =
    let p = c.args.board.now in
    let seen = c.in-Some.ensures.some in
    let sliders = sliders_set p c.args.masks.now 8 c.args.way c.sliders_in.result c.requires.masks
    c.sliders_in.ensures.even c.sliders_in.ensures.odd in
    ap length seen.between
    ∙ length-between c.in-Some.seen.path (occupied_of p.placement) c.sliders_in.result seen.path.squares.whole
    (length-occupied p c.requires.masks.valid) sliders.whole

pub returns-in-None : goal.returns-in-None
returns-in-None c =
    let p = c.args.board.now in
    let sliders = sliders_set p c.args.masks.now 8 c.args.way c.sliders_in.result c.requires.masks
    c.sliders_in.ensures.even c.sliders_in.ensures.odd in
    line_none p c.args.masks.now c.args.way c.sliders_in.result c.args.line c.args.from c.requires.masks.valid
    c.requires.way sliders c.in-None.ensures.none c.requires.masks.king c.requires.line

pub returns-then-not-contains : goal.returns-then-not-contains
returns-then-not-contains c =
    let p = c.args.board.now in
    let seen = c.in-Some.ensures.some in
    let sliders = sliders_set p c.args.masks.now 8 c.args.way c.sliders_in.result c.requires.masks
    c.sliders_in.ensures.even c.sliders_in.ensures.odd in
    line_free p c.args.masks.now c.args.way c.sliders_in.result c.in-Some.seen.path c.args.line c.args.from
    c.requires.masks.valid c.requires.way sliders seen.path c.requires.own
    (λ alone. false≢true (c.if-not-contains.ensures.member ∙ ap (λ (set : List Bool). has set c.args.from) seen.between
    ∙ (alone.exact c.args.from (own_on p c.args.from c.requires.own)).1 refl))
    c.requires.masks.king c.requires.line

pub returns-then-is_single : goal.returns-then-is_single
returns-then-is_single c =
    let p = c.args.board.now in
    let seen = c.in-Some.ensures.some in
    let sliders = sliders_set p c.args.masks.now 8 c.args.way c.sliders_in.result c.requires.masks
    c.sliders_in.ensures.even c.sliders_in.ensures.odd in
    let Alone' : List Bool → Type 0 = λ set. IsSetOf set (λ q. q ≡ c.args.from) in
    rw c.meet.ensures
    (line_pinned p c.args.masks.now c.args.way c.sliders_in.result c.in-Some.seen.path c.args.line c.args.from
    c.requires.masks.valid c.requires.way sliders seen.path c.requires.own
    (subst Alone' seen.between
    (one_of c.in-Some.seen.between c.args.from (own_on p c.args.from c.requires.own)
    (sym c.if-not-contains.ensures.member) (c.if-is_single.ensures.0 refl)))
    c.requires.masks.king c.requires.line)

pub returns-else-is_single : goal.returns-else-is_single
returns-else-is_single c =
    let p = c.args.board.now in
    let seen = c.in-Some.ensures.some in
    let sliders = sliders_set p c.args.masks.now 8 c.args.way c.sliders_in.result c.requires.masks
    c.sliders_in.ensures.even c.sliders_in.ensures.odd in
    let on = own_on p c.args.from c.requires.own in
    let Alone' : List Bool → Type 0 = λ set. IsSetOf set (λ q. q ≡ c.args.from) in
    line_free p c.args.masks.now c.args.way c.sliders_in.result c.in-Some.seen.path c.args.line c.args.from
    c.requires.masks.valid c.requires.way sliders seen.path c.requires.own
    (λ alone. false≢true (c.if-is_single.ensures.1 (c.args.from, on, subst Alone' (sym seen.between) alone)))
    c.requires.masks.king c.requires.line
