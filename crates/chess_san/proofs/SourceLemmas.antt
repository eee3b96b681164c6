-- The squares from which a man of a kind may come.
use Rattle.std.proofs.Common.{◌≡◌, ◌≢◌, ◌∙◌, Bool, true, List, [], ◌∷◌, Option, Some, None, ap, sym, subst, refl}
use Rattle.std.proofs.lemmas.Bool.{and_parts, and_from}
use Rattle.chess_bits.specs.declared.men.Colour.{Colour}
use Rattle.chess_bits.specs.declared.men.Kind.{Kind}
use Rattle.chess_bits.specs.declared.men.Kind.TheVariants.{Pawn, Knight, Bishop, Rook, Queen, King}
use Rattle.chess_bits.specs.Square.{Square}
use Rattle.chess_bits.specs.Man.{is_man}
use Rattle.chess_bits.specs.Table.{has, meet, IsSetOf}
use Rattle.chess_bits.specs.Attack.{Attacks}
use Rattle.chess_bits.proofs.SetLemmas.{has-meet}
use Rattle.chess_bits.proofs.Reversal.{facing, Attacks-back}
use Rattle.chess_bits.proofs.AlongLemmas.{PassesEach}
use Rattle.chess_board.specs.declared.moves.Move.{Move}
use Rattle.chess_board.specs.Occupancy.{squares_with}
use Rattle.chess_board.specs.Position.{Position, Placement, man_at, occupied_of}
use Rattle.chess_board.specs.Legal.{IsMoveOf, IsLegal, EachOf}
use Rattle.chess_board.proofs.AttackLemmas.{has-man, man-has}
use Rattle.chess_board.proofs.Candidates.{IsOnBoard-from_man}
use Rattle.chess_moves.specs.Targets.{plain}
use Rattle.chess_moves.proofs.Parts.{candidate_kind, becomes_of_move}

pub own_squares : (men placement : Placement) (told side : Colour) (kind : Kind) (own : List Bool) →
    own ≡ squares_with (is_man (told, kind)) men → told ≡ side → men ≡ placement →
    own ≡ squares_with (is_man (side, kind)) placement
own_squares men placement told side kind own e same there =
    e ∙ ap (λ (c : Colour). squares_with (is_man (c, kind)) men) same
    ∙ ap (λ (t : Placement). squares_with (is_man (side, kind)) t) there

pub own_source : (placement : Placement) (side : Colour) (kind : Kind) (own : List Bool) (s : Square) →
    own ≡ squares_with (is_man (side, kind)) placement → has own s ≡ true → man_at placement s ≡ Some (side, kind)
own_source placement side kind own s e here =
    man-has placement side kind s (sym (ap (λ (b : List Bool). has b s) e) ∙ here)

pub met_source : (placement : Placement) (side : Colour) (kind : Kind) (own reach met : List Bool) (s : Square) →
    own ≡ squares_with (is_man (side, kind)) placement → met ≡ meet own reach → has met s ≡ true →
    man_at placement s ≡ Some (side, kind)
met_source placement side kind own reach met s e is here =
    own_source placement side kind own s e
    (and_parts (has own s) (has reach s)
    (sym (has-meet own reach s) ∙ sym (ap (λ (b : List Bool). has b s) is) ∙ here)).0

pub each_own : (placement : Placement) (side : Colour) (kind : Kind) (own : List Bool) (s : Square) →
    own ≡ squares_with (is_man (side, kind)) placement → man_at placement s ≡ Some (side, kind) → has own s ≡ true
each_own placement side kind own s e here =
    ap (λ (b : List Bool). has b s) e ∙ has-man placement side kind s here

-- A piece of the kind that moves to the square stands where a piece of that kind on the square would attack.
pub each_source : (p : Position) (kind k : Kind) (own reach met : List Bool) (to : Square) →
    own ≡ squares_with (is_man (p.side, kind)) p.placement → met ≡ meet own reach → kind ≡ k →
    facing k p.side ≡ p.side → IsSetOf reach (Attacks (occupied_of p.placement) p.side k to) →
    ((m : Move) → IsMoveOf p m k → Attacks (occupied_of p.placement) p.side k m.from m.to) →
    (m : Move) → IsLegal p m → man_at p.placement m.from ≡ Some (p.side, kind) → m.to ≡ to →
    has met m.from ≡ true
each_source p kind k own reach met to e is same faces of attacks m legal here there =
    let here' : man_at p.placement m.from ≡ Some (p.side, k) =
    here ∙ ap (λ (x : Kind). Some (p.side, x)) same in
    let attacked = attacks m (candidate_kind p m k here' legal.candidate) in
    let back = Attacks-back (occupied_of p.placement) p.side k m.from m.to legal.candidate.on_board attacked in
    let By' : Colour → Type 0 = λ side. Attacks (occupied_of p.placement) side k m.to m.from in
    let From' : Square → Type 0 = λ s. Attacks (occupied_of p.placement) p.side k s m.from in
    ap (λ (b : List Bool). has b m.from) is ∙ has-meet own reach m.from
    ∙ and_from (has own m.from) (has reach m.from) (each_own p.placement p.side kind own m.from e here)
    ((of.exact m.from (IsOnBoard-from_man p.placement m.from (p.side, kind) here)).1
    (subst From' there (subst By' faces back)))

-- what each member of a list passes holds of it
pub EachOf-passes : (test : Square → Bool) (P : Square → Type 0) (xs : List Square) →
    ((s : Square) → test s ≡ true → P s) → PassesEach test xs → EachOf P xs
EachOf-passes test P [] so passes = tt
EachOf-passes test P (x ∷ xs) so passes = (so x passes.0, EachOf-passes test P xs so passes.1)

none_becomes : (p : Position) (m : Move) (kind : Kind) → kind ≢ Pawn → IsMoveOf p m kind → m.promotion ≡ None
none_becomes p m Pawn piece rule = absurd (piece refl)
none_becomes p m Knight piece rule = becomes_of_move p m Knight rule
none_becomes p m Bishop piece rule = becomes_of_move p m Bishop rule
none_becomes p m Rook piece rule = becomes_of_move p m Rook rule
none_becomes p m Queen piece rule = becomes_of_move p m Queen rule
none_becomes p m King piece rule = becomes_of_move p m King rule

-- a piece's move has no promotion
pub no_promotion : (p : Position) (m : Move) (kind : Kind) → kind ≢ Pawn →
    man_at p.placement m.from ≡ Some (p.side, kind) → IsLegal p m → m.promotion ≡ None
no_promotion p m kind piece own legal = none_becomes p m kind piece (candidate_kind p m kind own legal.candidate)

pub same_move : (a b : Move) → a.from ≡ b.from → a.to ≡ b.to → a.promotion ≡ b.promotion → a ≡ b
same_move a b from to promotion =
    ap (λ (s : Square). let m : Move = record { from = s; to = a.to; promotion = a.promotion } in m) from
    ∙ ap (λ (s : Square). let m : Move = record { from = b.from; to = s; promotion = a.promotion } in m) to
    ∙ ap (λ (k : Option Kind). let m : Move = record { from = b.from; to = b.to; promotion = k } in m) promotion

pub plain_move : (m : Move) (to : Square) → m.to ≡ to → m.promotion ≡ None → m ≡ plain m.from to
plain_move m to there none = same_move m (plain m.from to) refl there none
