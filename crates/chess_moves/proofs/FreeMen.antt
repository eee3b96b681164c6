-- Where men go that no slider pins and that take nothing en passant.
use Rattle.std.specs.Prelude.{◌≡◌, ◌≢◌, ◌⊎◌, ◌+◌, ◌-◌, not, Bool, true, false, List, length, Option, Some, None}
use Rattle.std.proofs.Common.{arith, refl, sym, ap, subst, ◌∙◌, inl, inr}
use Rattle.std.proofs.lemmas.Bool.{false≢true, both_ways, and_parts, and_from, not-true, not_from_false, false_from_ne_true}
use Rattle.chess_bits.specs.declared.men.Colour.{Colour}
use Rattle.chess_bits.specs.declared.men.Colour.TheVariants.{White, Black}
use Rattle.chess_bits.specs.declared.men.Kind.{Kind}
use Rattle.chess_bits.specs.declared.men.Kind.TheVariants.{Pawn, Knight, Bishop, Rook, Queen, King}
use Rattle.chess_bits.specs.Square.{Square, IsOnBoard}
use Rattle.chess_bits.specs.Man.{other}
use Rattle.chess_bits.specs.Table.{has, union, meet, without, empty, IsSetOf}
use Rattle.chess_bits.specs.Attack.{along, forward, pawn_attacks, Reaches, Attacks}
use Rattle.chess_bits.proofs.TableLemmas.{same_square, on_board-from_at}
use Rattle.chess_bits.proofs.ManLemmas.{not_of_both, same_kind}
use Rattle.chess_bits.proofs.SetLemmas.{has-meet, has-without, length-without, length-meet, IsSetOf-like}
use Rattle.chess_bits.proofs.Reversal.{Attacks-back}
use Rattle.chess_board.specs.Occupancy.{squares_with, is_a}
use Rattle.chess_board.specs.Position.{Position, man_at, occupied_of, target_rank, IsValid}
use Rattle.chess_board.specs.Legal.{pawn_rank, HoldsColour, Advances, AdvancesTwo, PawnTakes, TakesEnPassant}
use Rattle.chess_board.proofs.Candidates.{IsOnBoard-from_man}
use Rattle.chess_moves.specs.declared.masks.Masks.{Masks}
use Rattle.chess_moves.specs.Targets.{plain, GoesTo, GoesSafely, IsPiece}
use Rattle.chess_moves.specs.Masks.{EndsChecks, KeepsLine, HoldsMasks}
use Rattle.chess_moves.specs.Counting.{IsFree, AreFree}
use Rattle.chess_moves.proofs.Watching.{own_on}
use Rattle.chess_moves.proofs.SetForms.{both_set, target_there, pawn_set}
use Rattle.chess_moves.proofs.Foes.{kind_set}
use Rattle.chess_moves.proofs.Safely.{piece_goes_set, pawn_set_none, pawn_set_away}

-- ---- a man that is not pinned

pub ends_allowed : (p : Position) (masks : Masks) (kind : Kind) (from : Square) → HoldsMasks p masks →
    IsFree p masks.pinned kind from →
    IsSetOf masks.ends (λ q. EndsChecks p masks.king q × KeepsLine p masks.king from q)
ends_allowed p masks kind from holds free =
    IsSetOf-like masks.ends (EndsChecks p masks.king)
    (λ q. EndsChecks p masks.king q × KeepsLine p masks.king from q) holds.ends
    (λ q on ends. (
      ends,
      λ way l below slider pin. absurd (false≢true (sym free.unpinned
          ∙ (holds.pinned.exact from (own_on p from (kind, free.own))).1
          ((kind, free.own), (way, l, below, slider, pin)))),
    ))
    (λ q on both. both.0)

-- ---- pieces

piece_goes : (p : Position) (kind : Kind) (from to : Square) → IsPiece kind →
    Attacks (occupied_of p.placement) p.side kind from to → ¬ HoldsColour p to p.side → GoesTo p kind from to
piece_goes p Pawn from to piece attacked free = absurd piece
piece_goes p Knight from to piece attacked free = record { attacked = attacked; free = free; no_promotion = refl }
piece_goes p Bishop from to piece attacked free = record { attacked = attacked; free = free; no_promotion = refl }
piece_goes p Rook from to piece attacked free = record { attacked = attacked; free = free; no_promotion = refl }
piece_goes p Queen from to piece attacked free = record { attacked = attacked; free = free; no_promotion = refl }
piece_goes p King from to piece attacked free = absurd piece

goes_piece : (p : Position) (kind : Kind) (from to : Square) → IsPiece kind → GoesTo p kind from to →
    Attacks (occupied_of p.placement) p.side kind from to × (¬ HoldsColour p to p.side)
goes_piece p Pawn from to piece goes = absurd piece
goes_piece p Knight from to piece goes = (goes.attacked, goes.free)
goes_piece p Bishop from to piece goes = (goes.attacked, goes.free)
goes_piece p Rook from to piece goes = (goes.attacked, goes.free)
goes_piece p Queen from to piece goes = (goes.attacked, goes.free)
goes_piece p King from to piece goes = absurd piece

-- the squares of one set that are not in another
without_set : (a b : List Bool) (P Q : Square → Type 0) → IsSetOf a P → IsSetOf b Q →
    IsSetOf (without a b) (λ s. P s × (¬ Q s))
without_set a b P Q of_a of_b =
    let len : length a ≡ length b = of_a.whole ∙ sym of_b.whole in
    record {
      whole = length-without a b len ∙ of_a.whole;
      exact = λ s on. (
        (λ here.
            let both = and_parts (has a s) (not (has b s)) (sym (has-without a b s len) ∙ here) in (
              (of_a.exact s on).0 both.0,
              λ q. both_ways (has b s) (not-true (has b s) both.1) ((of_b.exact s on).1 q),
            )),
        (λ is. has-without a b s len ∙ and_from (has a s) (not (has b s)) ((of_a.exact s on).1 is.0)
            (not_from_false (has b s) (false_from_ne_true (has b s) (λ here. is.1 ((of_b.exact s on).0 here))))),
      );
    }

pub free_piece_set : (p : Position) (masks : Masks) (kind : Kind) (from : Square) (seen own : List Bool) →
    HoldsMasks p masks → IsFree p masks.pinned kind from → IsPiece kind →
    IsSetOf seen (Attacks (occupied_of p.placement) p.side kind from) →
    IsSetOf own (λ s. HoldsColour p s p.side) →
    IsSetOf (meet seen (without masks.ends own)) (GoesSafely p kind from)
free_piece_set p masks kind from seen own holds free piece of_seen of_own =
    let Ends : Square → Type 0 = EndsChecks p masks.king in
    let Held : Square → Type 0 = λ s. HoldsColour p s p.side in
    let Seen : Square → Type 0 = Attacks (occupied_of p.placement) p.side kind from in
    let reached : List Bool = without seen own in
    let of_reached : IsSetOf reached (GoesTo p kind from) =
    IsSetOf-like reached (λ q. Seen q × (¬ Held q)) (GoesTo p kind from) (without_set seen own Seen Held of_seen of_own)
    (λ q on is. piece_goes p kind from q piece is.0 is.1) (λ q on goes. goes_piece p kind from q piece goes) in
    let safe : IsSetOf (meet reached masks.ends) (GoesSafely p kind from) =
    piece_goes_set p masks kind from reached masks.ends holds free.own piece of_reached
    (ends_allowed p masks kind from holds free) in
    let ends : IsSetOf (meet reached masks.ends) (λ q. GoesTo p kind from q × Ends q) =
    both_set reached masks.ends (GoesTo p kind from) Ends of_reached holds.ends in
    IsSetOf-like (meet seen (without masks.ends own)) (λ q. Seen q × (Ends q × (¬ Held q))) (GoesSafely p kind from)
    (both_set seen (without masks.ends own) Seen (λ q. Ends q × (¬ Held q)) of_seen
    (without_set masks.ends own Ends Held holds.ends of_own))
    (λ q on is. (safe.exact q on).0 ((ends.exact q on).1 (piece_goes p kind from q piece is.0 is.1.1, is.1.0)))
    (λ q on safely.
    let both = (ends.exact q on).0 ((safe.exact q on).1 safely) in
    let is = goes_piece p kind from q piece both.0 in
    (is.0, (both.1, is.1)))

-- ---- pawns

back_step : (side : Colour) (from t : Square) → IsOnBoard t → t ≡ along 1 (forward side) from →
    along 1 (forward (other side)) t ≡ from
back_step White from t on e =
    let file : t.file ≡ from.file + 0 - 0 = ap (λ (s : Square). s.file) e in
    let rank : t.rank ≡ from.rank + 1 - 0 = ap (λ (s : Square). s.rank) e in
    same_square (along 1 (forward Black) t) from (omega arith) (omega arith)
back_step Black from t on e =
    let file : t.file ≡ from.file + 0 - 0 = ap (λ (s : Square). s.file) e in
    let rank : t.rank ≡ from.rank + 0 - 1 = ap (λ (s : Square). s.rank) e in
    let low = on.rank_from in
    same_square (along 1 (forward White) t) from (omega arith) (omega arith)

not_from_first : (side : Colour) (from t : Square) → from.rank ≡ pawn_rank side → t ≡ along 2 (forward side) from →
    t.rank ≡ target_rank side → ⊥
not_from_first White from t first there rank =
    let at : t.rank ≡ from.rank + 2 - 0 = ap (λ (s : Square). s.rank) there in
    absurd (omega arith)
not_from_first Black from t first there rank =
    let at : t.rank ≡ from.rank + 0 - 2 = ap (λ (s : Square). s.rank) there in
    absurd (omega arith)

-- no pawn goes to the target but those that take en passant: behind it stands the pawn that has crossed it
not_to_target : (p : Position) (from t : Square) → IsValid p → man_at p.placement from ≡ Some (p.side, Pawn) →
    p.target ≡ Some t → ¬ Reaches (pawn_attacks p.side) from t → ¬ GoesTo p Pawn from t
not_to_target p from t valid own e away goes =
    let is = valid.target t e in
    elim goes [
      | inl one ↦
          not_of_both (man_at p.placement from) p.side Pawn Pawn
          (sym (ap (man_at p.placement) (back_step p.side from t is.on_board one.there)) ∙ is.pawn) own
      | inr (inl two) ↦ not_from_first p.side from t two.first two.there is.rank
      | inr (inr (inl takes)) ↦ away takes.attacked
      | inr (inr (inr passes)) ↦ away passes.attacked
    ]

by_target : (p : Position) (masks : Masks) (from : Square) (reached : List Bool) (target : Option Square) →
    p.target ≡ target → HoldsMasks p masks → IsFree p masks.pinned Pawn from → IsSetOf reached (GoesTo p Pawn from) →
    IsSetOf (meet reached masks.ends) (GoesSafely p Pawn from)
by_target p masks from reached None e holds free of =
    pawn_set_none p masks from reached masks.ends holds free.own of (ends_allowed p masks Pawn from holds free) e
by_target p masks from reached (Some t) e holds free of =
    let on = (holds.valid.target t e).on_board in
    pawn_set_away p masks from t reached masks.ends holds free.own of (ends_allowed p masks Pawn from holds free) e
    (false_from_ne_true (has reached t)
    (λ here. not_to_target p from t holds.valid free.own e (free.passes_none t refl e) ((of.exact t on).0 here)))

pub free_pawn_set : (p : Position) (masks : Masks) (from : Square) (one two seen theirs : List Bool) →
    HoldsMasks p masks → IsFree p masks.pinned Pawn from →
    IsSetOf one (λ to. Advances p (plain from to)) → IsSetOf two (λ to. AdvancesTwo p (plain from to)) →
    IsSetOf seen (Reaches (pawn_attacks p.side) from) → IsSetOf theirs (λ s. HoldsColour p s (other p.side)) →
    IsSetOf (meet (union (union one two) (meet seen theirs)) masks.ends) (GoesSafely p Pawn from)
free_pawn_set p masks from one two seen theirs holds free of_one of_two of_seen of_theirs =
    let Theirs : Square → Type 0 = λ s. HoldsColour p s (other p.side) in
    let takes : IsSetOf (meet seen theirs) (λ to. PawnTakes p (plain from to) ⊎ TakesEnPassant p (plain from to)) =
    IsSetOf-like (meet seen theirs) (λ s. Reaches (pawn_attacks p.side) from s × Theirs s)
    (λ to. PawnTakes p (plain from to) ⊎ TakesEnPassant p (plain from to))
    (both_set seen theirs (Reaches (pawn_attacks p.side) from) Theirs of_seen of_theirs)
    (λ s on is. inl (record { attacked = is.0; taken = is.1 }))
    (λ s on way. elim way [
      | inl takes ↦ (takes.attacked, takes.taken)
      | inr passes ↦ absurd (free.passes_none s refl passes.crossed passes.attacked)
    ]) in
    by_target p masks from (union (union one two) (meet seen theirs)) p.target refl holds free
    (pawn_set p from one two (meet seen theirs) of_one of_two takes)

-- ---- which men are free

pub passing_from : (p : Position) (seen : List Bool) (s t r : Square) → IsOnBoard s → IsOnBoard r →
    IsSetOf seen (Reaches (pawn_attacks (other p.side)) r) → p.target ≡ Some r → p.target ≡ Some t →
    Reaches (pawn_attacks p.side) s t → has seen s ≡ true
passing_from p seen s t r on on_r of is e reaches =
    let same : t ≡ r = target_there p.target r t is e in
    let Reaches' : Square → Type 0 = Reaches (pawn_attacks p.side) s in
    (of.exact s on).1 (Attacks-back empty p.side Pawn s r on_r (subst Reaches' same reaches))

pub no_passing : (p : Position) (t : Square) → p.target ≡ None → p.target ≡ Some t → ⊥
no_passing p t e f = clash p.target t e f
  where
    clash : (target : Option Square) (t : Square) → target ≡ None → target ≡ Some t → ⊥
    clash target t e f = absurd (cc)

of_kind_there : (here : Option (Colour × Kind)) (side c : Colour) (kind own : Kind) → here ≡ Some (side, own) →
    here ≡ Some (c, kind) → here ≡ Some (side, kind)
of_kind_there here side c kind own e f =
    e ∙ ap (λ (k : Kind). Some (side, k)) (sym (same_kind here (c, kind) (side, own) f e))

-- a man of the set, not pinned
unpinned_man : (p : Position) (pinned left : List Bool) (kind : Kind) (s : Square) → IsValid p → length left ≡ 64 →
    length pinned ≡ 64 → ((q : Square) → has left q ≡ true → HoldsColour p q p.side) →
    has (without (meet left (squares_with (is_a kind) p.placement)) pinned) s ≡ true →
    (has left s ≡ true) × (man_at p.placement s ≡ Some (p.side, kind)) × (has pinned s ≡ false)
unpinned_man p pinned left kind s valid whole whole_pinned own here =
    let kinds : List Bool = squares_with (is_a kind) p.placement in
    let of_kind = kind_set p kind valid.whole in
    let len : length (meet left kinds) ≡ length pinned =
    length-meet left kinds (whole ∙ sym of_kind.whole) ∙ whole ∙ sym whole_pinned in
    let outer = and_parts (has (meet left kinds) s) (not (has pinned s)) (sym (has-without (meet left kinds) pinned s len)
    ∙ here) in
    let inner = and_parts (has left s) (has kinds s) (sym (has-meet left kinds s) ∙ outer.0) in
    let stands = own s inner.0 in
    let on = IsOnBoard-from_man p.placement s (p.side, stands.0) stands.1 in
    let held = (of_kind.exact s on).0 inner.1 in (
      inner.0,
      of_kind_there (man_at p.placement s) p.side held.0 kind stands.0 stands.1 held.1,
      not-true (has pinned s) outer.1,
    )

length_unpinned : (p : Position) (pinned left : List Bool) (kind : Kind) → IsValid p → length left ≡ 64 →
    length pinned ≡ 64 → length (without (meet left (squares_with (is_a kind) p.placement)) pinned) ≡ 64
length_unpinned p pinned left kind valid whole whole_pinned =
    let kinds : List Bool = squares_with (is_a kind) p.placement in
    let len : length (meet left kinds) ≡ 64 =
    length-meet left kinds (whole ∙ sym (kind_set p kind valid.whole).whole) ∙ whole in
    length-without (meet left kinds) pinned (len ∙ sym whole_pinned) ∙ len

pub free_others : (p : Position) (pinned left : List Bool) (kind : Kind) → IsValid p → length left ≡ 64 →
    length pinned ≡ 64 → ((q : Square) → has left q ≡ true → HoldsColour p q p.side) → kind ≢ Pawn →
    AreFree p pinned kind left (without (meet left (squares_with (is_a kind) p.placement)) pinned)
free_others p pinned left kind valid whole whole_pinned own apart = record {
  whole = length_unpinned p pinned left kind valid whole whole_pinned;
  within = λ s here. (unpinned_man p pinned left kind s valid whole whole_pinned own here).0;
  free = λ s here.
      let is = unpinned_man p pinned left kind s valid whole whole_pinned own here in
      record { own = is.1; unpinned = is.2; passes_none = λ t pawn e reaches. apart pawn };
}

pub free_pawns : (p : Position) (pinned left passing : List Bool) → IsValid p → length left ≡ 64 →
    length pinned ≡ 64 → ((q : Square) → has left q ≡ true → HoldsColour p q p.side) → length passing ≡ 64 →
    ((s t : Square) → IsOnBoard s → p.target ≡ Some t → Reaches (pawn_attacks p.side) s t → has passing s ≡ true) →
    AreFree p pinned Pawn left (without (without (meet left (squares_with (is_a Pawn) p.placement)) pinned) passing)
free_pawns p pinned left passing valid whole whole_pinned own whole_passing passes =
    let unpinned : List Bool = without (meet left (squares_with (is_a Pawn) p.placement)) pinned in
    let len : length unpinned ≡ 64 = length_unpinned p pinned left Pawn valid whole whole_pinned in
    let same : length unpinned ≡ length passing = len ∙ sym whole_passing in
    let parts = λ (s : Square) (here : has (without unpinned passing) s ≡ true).
    and_parts (has unpinned s) (not (has passing s)) (sym (has-without unpinned passing s same) ∙ here) in
    record {
      whole = length-without unpinned passing same ∙ len;
      within = λ s here. (unpinned_man p pinned left Pawn s valid whole whole_pinned own (parts s here).0).0;
      free = λ s here.
          let both = parts s here in
          let is = unpinned_man p pinned left Pawn s valid whole whole_pinned own both.0 in
          let on = IsOnBoard-from_man p.placement s (p.side, Pawn) is.1 in
          record {
            own = is.1;
            unpinned = is.2;
            passes_none = λ t pawn e reaches.
                false≢true (sym (not-true (has passing s) both.1) ∙ passes s t on e reaches);
          };
    }

-- ---- kinds

pub some_piece : (kind : Kind) → (kind ≡ Knight) ⊎ ((kind ≡ Bishop) ⊎ ((kind ≡ Rook) ⊎ (kind ≡ Queen))) → IsPiece kind
some_piece kind (inl e) = rw e tt
some_piece kind (inr (inl e)) = rw e tt
some_piece kind (inr (inr (inl e))) = rw e tt
some_piece kind (inr (inr (inr e))) = rw e tt

pub piece_apart : (kind : Kind) → IsPiece kind → kind ≢ Pawn
piece_apart Pawn piece e = piece
piece_apart Knight piece e = absurd (cc)
piece_apart Bishop piece e = absurd (cc)
piece_apart Rook piece e = absurd (cc)
piece_apart Queen piece e = absurd (cc)
piece_apart King piece e = piece

-- what a set of the men of the side to move tells of its squares
pub own_men : (p : Position) (side : Colour) (set : List Bool) → side ≡ p.side →
    IsSetOf set (λ s. HoldsColour p s side) → (s : Square) → has set s ≡ true → HoldsColour p s p.side
own_men p side set same of s here =
    let Held' : Colour → Type 0 = HoldsColour p s in
    subst Held' same
    ((of.exact s (on_board-from_at false set s (λ none. false≢true (sym none ∙ here)))).0 here)
