-- The sets of squares to which a man may go.
use Rattle.std.specs.Prelude.{ℕ, ◌≡◌, ◌≢◌, ◌⊎◌, ◌↔◌, ◌%◌, Bool, true, false, cond, not, List, [], ◌∷◌, length, Option, Some, None, IsTrue}
use Rattle.std.proofs.Common.{refl, sym, ap, subst, ◌∙◌, inl, inr}
use Rattle.std.proofs.lemmas.Bool.{false≢true, both_ways, cases_Bool, not-true, not_from_false, false_from_ne_true}
use Rattle.chess_bits.specs.declared.men.Kind.{Kind}
use Rattle.chess_bits.specs.declared.men.Kind.TheVariants.{Pawn, Knight, Bishop, Rook, Queen, King}
use Rattle.chess_bits.specs.Square.{Square, IsOnBoard, is_square}
use Rattle.chess_bits.specs.Man.{other, is_kind}
use Rattle.chess_bits.specs.Table.{has, put, union, meet, members, IsSetOf}
use Rattle.chess_bits.specs.Attack.{SomeOf, Slides, SlidesAlong, straight, diagonal}
use Rattle.chess_bits.proofs.TableLemmas.{at-put, length-put, is_square-true, is_square-other, is_square-false, on_board-from_at}
use Rattle.chess_bits.proofs.ManLemmas.{none_is_no_man, not_of_both}
use Rattle.chess_bits.proofs.AlongLemmas.{SomeOf-members}
use Rattle.chess_bits.proofs.SetLemmas.{has-none, IsSetOf-union, IsSetOf-like}
use Rattle.chess_board.specs.Position.{Position, man_at, occupied_of, IsValid}
use Rattle.chess_board.specs.Next.{is_target, is_en_passant}
use Rattle.chess_board.proofs.Candidates.{IsOnBoard-from_man, no_en_passant, no_target_is_plain, is_target-true}
use Rattle.chess_board.proofs.Outward.{not_empty}
use Rattle.chess_moves.specs.declared.masks.Masks.{Masks}
use Rattle.chess_moves.specs.Targets.{plain, GoesTo, LeavesKingSafe, GoesSafely, IsPiece}
use Rattle.chess_moves.specs.Masks.{SlidesIn, IsSlider, IsLeaper, EndsChecks, KeepsLine, IsAttackedWithout, HoldsMasks}
use Rattle.chess_moves.proofs.Ways.{odd_or_even, straight_way, diagonal_way, way_straight, way_diagonal, attack_leap, attack_seen, seen_attack}
use Rattle.chess_moves.proofs.SetForms.{both_set, target_there}
use Rattle.chess_moves.proofs.Exact.{masks_exact}

-- ---- attacks once the king is taken off

-- a set that is not empty has a square of the board
pub some_square : (set : List Bool) → ¬ (members set ≡ []) → (s : Square) × IsOnBoard s × (has set s ≡ true)
some_square set some =
    let found = not_empty set some in
    (found.0, on_board-from_at false set found.0 (λ none. false≢true (sym none ∙ found.1)), found.1)

-- a kind slides alike in two ways of which both are straight or both diagonal
slides_alike : (kind : Kind) (a b : ℕ) → a % 2 ≡ b % 2 → SlidesIn kind a → SlidesIn kind b
slides_alike Pawn a b same slides = absurd slides
slides_alike Knight a b same slides = absurd slides
slides_alike King a b same slides = absurd slides
slides_alike Bishop a b same slides = sym same ∙ slides
slides_alike Rook a b same slides = sym same ∙ slides
slides_alike Queen a b same slides = tt

-- a man of the opponent that attacks q over the squares, as q sees it
abbrev pub IsSeenAttacker : Position → List Bool → Square → Square → Type 0
IsSeenAttacker p squares q c =
    IsLeaper p q c ⊎ ((Slides squares straight q c × IsSlider p 0 c) ⊎ (Slides squares diagonal q c × IsSlider p 1 c))

-- men of one set that are in another one too, by what the other's men are
like_set : (set men : List Bool) (P Q : Square → Type 0) → IsSetOf set (λ c. P c × (has men c ≡ true)) →
    IsSetOf men Q → IsSetOf set (λ c. P c × Q c)
like_set set men P Q of of_men =
    IsSetOf-like set (λ c. P c × (has men c ≡ true)) (λ c. P c × Q c) of
    (λ c on is. (is.0, (of_men.exact c on).0 is.1)) (λ c on is. (is.0, (of_men.exact c on).1 is.1))

pub seen_set : (p : Position) (q : Square) (squares leapers rooks bishops straights diagonals : List Bool) →
    IsSetOf leapers (IsLeaper p q) → IsSetOf rooks (λ c. Slides squares straight q c × (has straights c ≡ true)) →
    IsSetOf bishops (λ c. Slides squares diagonal q c × (has diagonals c ≡ true)) →
    IsSetOf straights (IsSlider p 0) → IsSetOf diagonals (IsSlider p 1) →
    IsSetOf (union leapers (union rooks bishops)) (IsSeenAttacker p squares q)
seen_set p q squares leapers rooks bishops straights diagonals of_leapers of_rooks of_bishops of_straights of_diagonals =
    IsSetOf-union leapers (union rooks bishops) (IsLeaper p q)
    (λ c. (Slides squares straight q c × IsSlider p 0 c) ⊎ (Slides squares diagonal q c × IsSlider p 1 c)) of_leapers
    (IsSetOf-union rooks bishops (λ c. Slides squares straight q c × IsSlider p 0 c)
    (λ c. Slides squares diagonal q c × IsSlider p 1 c)
    (like_set rooks straights (Slides squares straight q) (IsSlider p 0) of_rooks of_straights)
    (like_set bishops diagonals (Slides squares diagonal q) (IsSlider p 1) of_bishops of_diagonals))

attacked_from : (p : Position) (k q c : Square) → IsOnBoard c →
    IsSeenAttacker p (put (occupied_of p.placement) k false) q c → IsAttackedWithout p k q
attacked_from p k q c on (inl leaper) = (
  c,
  leaper.0,
  leaper.1,
  attack_leap (put (occupied_of p.placement) k false) (other p.side) leaper.0 c q leaper.2,
)
attacked_from p k q c on (inr (inl both)) =
    let squares : List Bool = put (occupied_of p.placement) k false in
    let w = straight_way (SlidesAlong squares q c) both.0 in (
      c,
      both.1.0,
      both.1.1,
      seen_attack squares (other p.side) both.1.0 c q w.0 on w.1 (slides_alike both.1.0 0 w.0 (sym w.2) both.1.2) w.3,
    )
attacked_from p k q c on (inr (inr both)) =
    let squares : List Bool = put (occupied_of p.placement) k false in
    let w = diagonal_way (SlidesAlong squares q c) both.0 in (
      c,
      both.1.0,
      both.1.1,
      seen_attack squares (other p.side) both.1.0 c q w.0 on w.1 (slides_alike both.1.0 1 w.0 (sym w.2) both.1.2) w.3,
    )

attacker_seen : (p : Position) (k q : Square) → IsOnBoard q → (attacked : IsAttackedWithout p k q) →
    IsSeenAttacker p (put (occupied_of p.placement) k false) q attacked.0
attacker_seen p k q on (c, kind, stands, attack) =
    let squares : List Bool = put (occupied_of p.placement) k false in
    elim (attack_seen squares (other p.side) kind c q on attack) [
      | inl leap ↦ inl (kind, stands, leap)
      | inr by ↦ elim (odd_or_even by.way) [
        | inl even ↦ inr (inl (
          way_straight (SlidesAlong squares q c) by.way by.below even by.slide,
          (kind, stands, slides_alike kind by.way 0 even by.slides_in),
        ))
        | inr odd ↦ inr (inr (
          way_diagonal (SlidesAlong squares q c) by.way by.below odd by.slide,
          (kind, stands, slides_alike kind by.way 1 odd by.slides_in),
        ))
      ]
    ]

pub attacked_told : (p : Position) (k q : Square) (attackers : List Bool) (none : Bool) → IsOnBoard q →
    IsSetOf attackers (IsSeenAttacker p (put (occupied_of p.placement) k false) q) →
    (IsTrue none ↔ (members attackers ≡ [])) → IsTrue (not none) ↔ IsAttackedWithout p k q
attacked_told p k q attackers none on of told = (
  λ some.
      let found = some_square attackers (λ empty. both_ways none (not-true none some) (told.1 empty)) in
      attacked_from p k q found.0 found.1 ((of.exact found.0 found.1).0 found.2),
  λ attacked. not_from_false none (false_from_ne_true none (λ empty.
      let on_c = IsOnBoard-from_man p.placement attacked.0 (other p.side, attacked.1) attacked.2 in
      false≢true (sym (has-none attackers attacked.0 on_c (told.0 empty))
      ∙ (of.exact attacked.0 on_c).1 (attacker_seen p k q on attacked)))),
)

-- ---- men that are not the king

-- no own man goes to the king's square
goes_free : (p : Position) (kind : Kind) (from to k : Square) → IsValid p →
    man_at p.placement k ≡ Some (p.side, King) → kind ≢ King → GoesTo p kind from to → to ≢ k
goes_free p Pawn from to k valid king apart goes e =
    let there : man_at p.placement to ≡ Some (p.side, King) = ap (man_at p.placement) e ∙ king in
    elim goes [
      | inl one ↦ none_is_no_man (man_at p.placement to) (p.side, King) one.empty there
      | inr (inl two) ↦ none_is_no_man (man_at p.placement to) (p.side, King) two.empty there
      | inr (inr (inl takes)) ↦ not_of_both (man_at p.placement to) p.side takes.taken.0 King takes.taken.1 there
      | inr (inr (inr passes)) ↦ none_is_no_man (man_at p.placement to) (p.side, King)
          (valid.target to passes.crossed).crossed there
    ]
goes_free p Knight from to k valid king apart goes e = goes.free (King, ap (man_at p.placement) e ∙ king)
goes_free p Bishop from to k valid king apart goes e = goes.free (King, ap (man_at p.placement) e ∙ king)
goes_free p Rook from to k valid king apart goes e = goes.free (King, ap (man_at p.placement) e ∙ king)
goes_free p Queen from to k valid king apart goes e = goes.free (King, ap (man_at p.placement) e ∙ king)
goes_free p King from to k valid king apart goes e = apart refl

-- where a man goes, the masks tell whether its king is safe
pub masks_tell : (p : Position) (masks : Masks) (kind : Kind) (from to : Square) → HoldsMasks p masks → IsOnBoard to →
    man_at p.placement from ≡ Some (p.side, kind) → kind ≢ King → is_en_passant p (plain from to) ≡ false →
    GoesTo p kind from to →
    LeavesKingSafe p from to ↔ (EndsChecks p masks.king to × KeepsLine p masks.king from to)
masks_tell p masks kind from to holds on own apart no_pawn goes =
    masks_exact p masks.king from to kind holds.valid holds.king on own apart
    (goes_free p kind from to masks.king holds.valid holds.king apart goes) no_pawn

piece_no_king : (kind : Kind) → IsPiece kind → kind ≢ King
piece_no_king Pawn piece e = piece
piece_no_king Knight piece e = absurd (cc)
piece_no_king Bishop piece e = absurd (cc)
piece_no_king Rook piece e = absurd (cc)
piece_no_king Queen piece e = absurd (cc)
piece_no_king King piece e = piece

piece_no_pawn : (kind : Kind) → IsPiece kind → is_kind Pawn kind ≡ false
piece_no_pawn Pawn piece = absurd piece
piece_no_pawn Knight piece = refl
piece_no_pawn Bishop piece = refl
piece_no_pawn Rook piece = refl
piece_no_pawn Queen piece = refl
piece_no_pawn King piece = absurd piece

pub piece_goes_set : (p : Position) (masks : Masks) (kind : Kind) (from : Square) (reached allowed : List Bool) →
    HoldsMasks p masks → man_at p.placement from ≡ Some (p.side, kind) → IsPiece kind →
    IsSetOf reached (GoesTo p kind from) →
    IsSetOf allowed (λ q. EndsChecks p masks.king q × KeepsLine p masks.king from q) →
    IsSetOf (meet reached allowed) (GoesSafely p kind from)
piece_goes_set p masks kind from reached allowed holds own piece of_reached of_allowed =
    let Allowed : Square → Type 0 = λ q. EndsChecks p masks.king q × KeepsLine p masks.king from q in
    let no_pawn = λ (q : Square). no_en_passant p (plain from q) kind own (piece_no_pawn kind piece) in
    IsSetOf-like (meet reached allowed) (λ q. GoesTo p kind from q × Allowed q) (GoesSafely p kind from)
    (both_set reached allowed (GoesTo p kind from) Allowed of_reached of_allowed)
    (λ q on both. (
      both.0,
      (masks_tell p masks kind from q holds on own (piece_no_king kind piece) (no_pawn q) both.0).1 both.1,
    ))
    (λ q on both. (
      both.0,
      (masks_tell p masks kind from q holds on own (piece_no_king kind piece) (no_pawn q) both.0).0 both.1,
    ))

-- ---- pawns

pub pawn_no_king : Pawn ≢ King
pawn_no_king e = absurd (cc)

pub no_pawn_taken : (p : Position) (from to : Square) → p.target ≢ Some to → is_en_passant p (plain from to) ≡ false
no_pawn_taken p from to apart =
    no_target_is_plain p (plain from to)
    (false_from_ne_true (is_target p.target to) (λ e. apart (is_target-true p.target to e)))

-- a square that is not the target
pawn_told : (p : Position) (masks : Masks) (from q : Square) (reached allowed : List Bool) → HoldsMasks p masks →
    man_at p.placement from ≡ Some (p.side, Pawn) → IsSetOf reached (GoesTo p Pawn from) →
    IsSetOf allowed (λ s. EndsChecks p masks.king s × KeepsLine p masks.king from s) → IsOnBoard q →
    p.target ≢ Some q → (has (meet reached allowed) q ≡ true) ↔ GoesSafely p Pawn from q
pawn_told p masks from q reached allowed holds own of_reached of_allowed on apart =
    let Allowed : Square → Type 0 = λ s. EndsChecks p masks.king s × KeepsLine p masks.king from s in
    let both = both_set reached allowed (GoesTo p Pawn from) Allowed of_reached of_allowed in (
      (λ here.
          let parts = (both.exact q on).0 here in (
            parts.0,
            (masks_tell p masks Pawn from q holds on own pawn_no_king (no_pawn_taken p from q apart)
                parts.0).1 parts.1,
          )),
      (λ safely. (both.exact q on).1 (
        safely.0,
        (masks_tell p masks Pawn from q holds on own pawn_no_king (no_pawn_taken p from q apart) safely.0).0 safely.1,
      )),
    )

not_none : (target : Option Square) (q : Square) → target ≡ None → target ≢ Some q
not_none target q e f = absurd (cc)

pub pawn_set_none : (p : Position) (masks : Masks) (from : Square) (reached allowed : List Bool) → HoldsMasks p masks →
    man_at p.placement from ≡ Some (p.side, Pawn) → IsSetOf reached (GoesTo p Pawn from) →
    IsSetOf allowed (λ s. EndsChecks p masks.king s × KeepsLine p masks.king from s) → p.target ≡ None →
    IsSetOf (meet reached allowed) (GoesSafely p Pawn from)
pawn_set_none p masks from reached allowed holds own of_reached of_allowed none = record {
  whole = (both_set reached allowed (GoesTo p Pawn from)
      (λ s. EndsChecks p masks.king s × KeepsLine p masks.king from s) of_reached of_allowed).whole;
  exact = λ q on. pawn_told p masks from q reached allowed holds own of_reached of_allowed on (not_none p.target q none);
}

pub pawn_set_away : (p : Position) (masks : Masks) (from t : Square) (reached allowed : List Bool) → HoldsMasks p masks →
    man_at p.placement from ≡ Some (p.side, Pawn) → IsSetOf reached (GoesTo p Pawn from) →
    IsSetOf allowed (λ s. EndsChecks p masks.king s × KeepsLine p masks.king from s) → p.target ≡ Some t →
    has reached t ≡ false → IsSetOf (meet reached allowed) (GoesSafely p Pawn from)
pawn_set_away p masks from t reached allowed holds own of_reached of_allowed is away =
    let both = both_set reached allowed (GoesTo p Pawn from)
    (λ s. EndsChecks p masks.king s × KeepsLine p masks.king from s) of_reached of_allowed in
    let apart = λ (q : Square) (on : IsOnBoard q) (goes : GoesTo p Pawn from q) (e : p.target ≡ Some q).
    false≢true (sym away ∙ ap (has reached) (sym (target_there p.target t q is e)) ∙ (of_reached.exact q on).1 goes) in
    record {
      whole = both.whole;
      exact = λ q on. (
        (λ here.
            let goes = ((both.exact q on).0 here).0 in
            (pawn_told p masks from q reached allowed holds own of_reached of_allowed on (apart q on goes)).0 here),
        (λ safely.
            (pawn_told p masks from q reached allowed holds own of_reached of_allowed on (apart q on safely.0)).1 safely),
      );
    }

pub pawn_set_target : (p : Position) (masks : Masks) (from t : Square) (reached allowed : List Bool) (b : Bool) →
    HoldsMasks p masks → man_at p.placement from ≡ Some (p.side, Pawn) → IsSetOf reached (GoesTo p Pawn from) →
    IsSetOf allowed (λ s. EndsChecks p masks.king s × KeepsLine p masks.king from s) → p.target ≡ Some t →
    IsOnBoard t → has reached t ≡ true → (b ≡ true) ↔ LeavesKingSafe p from t →
    IsSetOf (put (meet reached allowed) t b) (GoesSafely p Pawn from)
pawn_set_target p masks from t reached allowed b holds own of_reached of_allowed is on_t here_t told =
    let both = both_set reached allowed (GoesTo p Pawn from)
    (λ s. EndsChecks p masks.king s × KeepsLine p masks.king from s) of_reached of_allowed in
    let set : List Bool = meet reached allowed in
    let goes_t = (of_reached.exact t on_t).0 here_t in
    let Safe' : Square → Type 0 = GoesSafely p Pawn from in
    record {
      whole = length-put set t b ∙ both.whole;
      exact = λ q on. elim (cases_Bool (is_square q t)) [
        | inl same ↦
            let at : has (put set t b) q ≡ b = at-put false set t q b both.whole on_t
            ∙ ap (λ (x : Bool). cond x b (has set q)) same in
            let e = is_square-true q t same in (
              (λ here. subst Safe' (sym e) (goes_t, told.0 (sym at ∙ here))),
              (λ safely. at ∙ told.1 (subst Safe' e safely).1),
            )
        | inr apart ↦
            let at : has (put set t b) q ≡ has set q = at-put false set t q b both.whole on_t
            ∙ ap (λ (x : Bool). cond x b (has set q)) apart in
            let other_square : p.target ≢ Some q = λ e. is_square-false q t apart (target_there p.target t q is e) in
            let tell = pawn_told p masks from q reached allowed holds own of_reached of_allowed on other_square in (
              (λ here. tell.0 (sym at ∙ here)),
              (λ safely. at ∙ tell.1 safely),
            )
      ];
    }

-- ---- the king: squares are taken away one by one

-- what is left of a set, while some of its squares are still to be judged
pub record KeepsSafe (Goes Safe : Square → Type 0) (set : List Bool) (left : List Square) : Type 0 where
  pub whole : length set ≡ 64
  pub within : (q : Square) → IsOnBoard q → has set q ≡ true → Goes q × (SomeOf (λ s. q ≡ s) left ⊎ Safe q)
  pub kept : (q : Square) → IsOnBoard q → Goes q → Safe q → has set q ≡ true

pub keeps_start : (Goes Safe : Square → Type 0) (set : List Bool) (left : List Square) → IsSetOf set Goes →
    left ≡ members set → KeepsSafe Goes Safe set left
keeps_start Goes Safe set left of e =
    let Start' : List Square → Type 0 = KeepsSafe Goes Safe set in
    subst Start' (sym e) (record {
      whole = of.whole;
      within = λ q on here. ((of.exact q on).0 here, inl (SomeOf-members (λ s. q ≡ s) set q on here refl));
      kept = λ q on goes safe. (of.exact q on).1 goes;
    })

pub keeps_safe : (Goes Safe : Square → Type 0) (set : List Bool) (to : Square) (rest left : List Square) →
    KeepsSafe Goes Safe set left → left ≡ to ∷ rest → Safe to → KeepsSafe Goes Safe set rest
keeps_safe Goes Safe set to rest left keeps e safe =
    let Some' : Square → List Square → Type 0 = λ q ss. SomeOf (λ s. q ≡ s) ss in
    record {
      whole = keeps.whole;
      within = λ q on here.
          let both = keeps.within q on here in (
            both.0,
            elim (both.1) [
              | inr done ↦ inr done
              | inl some ↦ now q (subst (Some' q) e some)
            ],
          );
      kept = keeps.kept;
    }
  where
    now : (q : Square) → SomeOf (λ s. q ≡ s) (to ∷ rest) → SomeOf (λ s. q ≡ s) rest ⊎ Safe q
    now q (inl same) = let Safe' : Square → Type 0 = Safe in inr (subst Safe' (sym same) safe)
    now q (inr later) = inl later

pub keeps_exposed : (Goes Safe : Square → Type 0) (set : List Bool) (to : Square) (rest left : List Square) →
    KeepsSafe Goes Safe set left → left ≡ to ∷ rest → IsOnBoard to → ¬ Safe to →
    KeepsSafe Goes Safe (put set to false) rest
keeps_exposed Goes Safe set to rest left keeps e on_to exposed =
    let Some' : Square → List Square → Type 0 = λ q ss. SomeOf (λ s. q ≡ s) ss in
    let Safe' : Square → Type 0 = Safe in
    let told = λ (q : Square). at-put false set to q false keeps.whole on_to in
    record {
      whole = length-put set to false ∙ keeps.whole;
      within = λ q on here. elim (cases_Bool (is_square q to)) [
        | inl same ↦ absurd (false≢true
            (sym (told q ∙ ap (λ (x : Bool). cond x false (has set q)) same) ∙ here))
        | inr apart ↦
            let there : has set q ≡ true =
            sym (told q ∙ ap (λ (x : Bool). cond x false (has set q)) apart) ∙ here in
            let both = keeps.within q on there in (
              both.0,
              elim (both.1) [
                | inr done ↦ inr done
                | inl some ↦ inl (later q (is_square-false q to apart) (subst (Some' q) e some))
              ],
            )
      ];
      kept = λ q on goes safe.
          told q ∙ ap (λ (x : Bool). cond x false (has set q))
          (is_square-other q to (λ same. exposed (subst Safe' same safe))) ∙ keeps.kept q on goes safe;
    }
  where
    later : (q : Square) → q ≢ to → SomeOf (λ s. q ≡ s) (to ∷ rest) → SomeOf (λ s. q ≡ s) rest
    later q apart (inl same) = absurd (apart same)
    later q apart (inr some) = some

pub keeps_end : (Goes Safe : Square → Type 0) (set : List Bool) (left : List Square) → KeepsSafe Goes Safe set left →
    left ≡ [] → IsSetOf set (λ q. Goes q × Safe q)
keeps_end Goes Safe set left keeps e =
    let Some' : Square → List Square → Type 0 = λ q ss. SomeOf (λ s. q ≡ s) ss in
    record {
      whole = keeps.whole;
      exact = λ q on. (
        (λ here.
            let both = keeps.within q on here in (
              both.0,
              elim (both.1) [
                | inr done ↦ done
                | inl some ↦ absurd (subst (Some' q) e some)
              ],
            )),
        (λ both. keeps.kept q on both.0 both.1),
      );
    }

-- ---- answers turned round

pub not_told : {P Q : Type 0} (b : Bool) → ((b ≡ true) ↔ P) → (Q ↔ ¬ P) → (not b ≡ true) ↔ Q
not_told true told exact = (
  λ never. absurd (false≢true never),
  λ q. absurd (exact.0 q (told.0 refl)),
)
not_told false told exact = (
  λ _. exact.1 (λ p. false≢true (told.1 p)),
  λ q. refl,
)
