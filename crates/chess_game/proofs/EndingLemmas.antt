-- What the calls of `chess_end` answer is what the definitions of the entries name.
use Rattle.std.proofs.Common.{ℕ, ◌≡◌, ◌+◌, ◌≤◌, Bool, true, false, cond, List, [], ◌∷◌, ◌++◌, length, Option, Some, None, refl, sym, ap, ◌∙◌, subst, inl, inr, arith}
use Rattle.std.specs.Prelude.{IsTrue, ◌↔◌, ◌||◌, is_some, IfSome, IfNone, nat_le, count_by, if◌then◌else◌}
use Rattle.std.specs.Bool.{Decides}
use Rattle.std.specs.Cmp.Lexicographic.{bytes_decides}
use Rattle.std.proofs.lemmas.Bool.{false≢true}
use Rattle.std.proofs.lemmas.List.Sums.{count_by-le-length}
use Rattle.chess_bits.specs.declared.men.Colour.{Colour}
use Rattle.chess_bits.specs.Man.{other}
use Rattle.chess_board.specs.declared.moves.Move.{Move}
use Rattle.chess_board.specs.Position.{Position}
use Rattle.chess_board.specs.Next.{next}
use Rattle.chess_board.specs.Line.{positions_of}
use Rattle.chess_board.proofs.Deciding.{Decides-nat_le}
use Rattle.chess_moves.specs.Moves.{HasLegal}
use Rattle.chess_repeat.specs.Key.{key_of}
use Rattle.chess_repeat.specs.History.{is_key}
use Rattle.chess_repeat.proofs.Counting.{count_by-push}
use Rattle.chess_end.specs.declared.ending.GameResult.{GameResult}
use Rattle.chess_end.specs.declared.ending.GameResult.TheVariants as results
use Rattle.chess_end.specs.declared.ending.Article.{Article}
use Rattle.chess_end.specs.declared.ending.Article.TheVariants as articles
use Rattle.chess_end.specs.declared.ending.Ending.{Ending}
use Rattle.chess_end.specs.Ending.{won_by, IsCheckmate, IsStalemate, IsEnding, IsRunning, IsEndedBy, IsResultAfter, IsFlagResult}
use Rattle.chess_end.specs.Material.{IsListedDead}
use Rattle.chess_end.specs.Computing.{is_checkmate, is_stalemate, is_listed_dead, has_king_alone}
use Rattle.chess_end.proofs.Deciding.{Decides-is_checkmate, Decides-is_stalemate, Decides-is_listed_dead, Decides-has_king_alone}
use Rattle.chess_entry.specs.State.{position_after}
use Rattle.chess_entry.specs.Outcome.{times, ending, ending_after, is_granted, flag_result, flag_fallen}
use Rattle.chess_entry.specs.Verdict.{is_finished_at}
use Rattle.chess_game.proofs.LineLemmas.{position_after-push, positions_of-push, length-positions_of, quiet_run-positions_of}

-- who has a legal move is neither checkmated nor stalemated
pub no_mate : (p : Position) → HasLegal p → ¬ IsCheckmate p
no_mate p legal mate = mate.stuck legal

pub no_stalemate : (p : Position) → HasLegal p → ¬ IsStalemate p
no_stalemate p legal stale = stale.stuck legal

-- the ending by the tests, for any counts
abbrev ending_by_tests : Bool → Bool → Bool → Bool → Bool → GameResult → Option Ending
ending_by_tests mate stale dead five seventy_five won =
    if mate then Some (ending won articles.A511)
    else if stale then Some (ending results.Draw articles.A521)
    else if dead then Some (ending results.Draw articles.A522)
    else if five then Some (ending results.Draw articles.A961)
    else if seventy_five then Some (ending results.Draw articles.A962)
    else None

-- what an article says of the five tests
abbrev ArticleOf : Type 0 → Type 0 → Type 0 → Type 0 → Type 0 → Article → Type 0
ArticleOf M S D F Q articles.A511 = M
ArticleOf M S D F Q articles.A521 = ¬ M × S
ArticleOf M S D F Q articles.A522 = ¬ M × ¬ S × D
ArticleOf M S D F Q articles.A961 = ¬ M × ¬ S × ¬ D × F
ArticleOf M S D F Q articles.A962 = ¬ M × ¬ S × ¬ D × ¬ F × Q
ArticleOf M S D F Q articles.A512 = ⊥
ArticleOf M S D F Q articles.A523 = ⊥
ArticleOf M S D F Q articles.A69 = ⊥
ArticleOf M S D F Q articles.A92 = ⊥
ArticleOf M S D F Q articles.A93 = ⊥

abbrev ResultOf : GameResult → Article → GameResult → Type 0
ResultOf won articles.A511 result = result ≡ won
ResultOf won articles.A521 result = result ≡ results.Draw
ResultOf won articles.A522 result = result ≡ results.Draw
ResultOf won articles.A961 result = result ≡ results.Draw
ResultOf won articles.A962 result = result ≡ results.Draw
ResultOf won articles.A512 result = ⊥
ResultOf won articles.A523 result = ⊥
ResultOf won articles.A69 result = ⊥
ResultOf won articles.A92 result = ⊥
ResultOf won articles.A93 result = ⊥

refuted : (b : Bool) {P : Type 0} → Decides b P → ¬ P → b ≡ false
refuted true decides not_so = absurd (not_so (decides.0 refl))
refuted false decides not_so = refl

by_article : (mate stale dead five seventy_five : Bool) (won : GameResult) {M S D F Q : Type 0}
    → Decides mate M → Decides stale S → Decides dead D → Decides five F → Decides seventy_five Q
    → (result : GameResult) (article : Article)
    → ArticleOf M S D F Q article → ResultOf won article result
    → ending_by_tests mate stale dead five seventy_five won ≡ Some (ending result article)
by_article mate stale dead five q won dm ds dd df dq result articles.A511 is gives =
    rw (dm.1 is) (ap (λ (r : GameResult). let o : Option Ending = Some (ending r articles.A511) in o) (sym gives))
by_article mate stale dead five q won dm ds dd df dq result articles.A521 is gives =
    rw (refuted mate dm is.0, ds.1 is.1)
    (ap (λ (r : GameResult). let o : Option Ending = Some (ending r articles.A521) in o) (sym gives))
by_article mate stale dead five q won dm ds dd df dq result articles.A522 is gives =
    rw (refuted mate dm is.0, refuted stale ds is.1, dd.1 is.2)
    (ap (λ (r : GameResult). let o : Option Ending = Some (ending r articles.A522) in o) (sym gives))
by_article mate stale dead five q won dm ds dd df dq result articles.A961 is gives =
    rw (refuted mate dm is.0, refuted stale ds is.1, refuted dead dd is.2, df.1 is.3)
    (ap (λ (r : GameResult). let o : Option Ending = Some (ending r articles.A961) in o) (sym gives))
by_article mate stale dead five q won dm ds dd df dq result articles.A962 is gives =
    rw (refuted mate dm is.0, refuted stale ds is.1, refuted dead dd is.2, refuted five df is.3, dq.1 is.4)
    (ap (λ (r : GameResult). let o : Option Ending = Some (ending r articles.A962) in o) (sym gives))
by_article mate stale dead five q won dm ds dd df dq result articles.A512 is gives = absurd is
by_article mate stale dead five q won dm ds dd df dq result articles.A523 is gives = absurd is
by_article mate stale dead five q won dm ds dd df dq result articles.A69 is gives = absurd is
by_article mate stale dead five q won dm ds dd df dq result articles.A92 is gives = absurd is
by_article mate stale dead five q won dm ds dd df dq result articles.A93 is gives = absurd is

by_none : (mate stale dead five seventy_five : Bool) (won : GameResult) → mate ≡ false → stale ≡ false → dead ≡ false
    → five ≡ false → seventy_five ≡ false → ending_by_tests mate stale dead five seventy_five won ≡ None
by_none mate stale dead five q won m s d f r = rw (m, s, d, f, r) refl

article_is : (p : Position) (t q : ℕ) (article : Article) → IsEndedBy p t q article
    → ArticleOf (IsCheckmate p) (IsStalemate p) (IsListedDead p.placement) (5 ≤ t) (150 ≤ q) article
article_is p t q articles.A511 is = is
article_is p t q articles.A521 is = is
article_is p t q articles.A522 is = is
article_is p t q articles.A961 is = is
article_is p t q articles.A962 is = is
article_is p t q articles.A512 is = absurd is
article_is p t q articles.A523 is = absurd is
article_is p t q articles.A69 is = absurd is
article_is p t q articles.A92 is = absurd is
article_is p t q articles.A93 is = absurd is

result_is : (p : Position) (article : Article) (result : GameResult) → IsResultAfter p article result
    → ResultOf (won_by (other p.side)) article result
result_is p articles.A511 result is = is
result_is p articles.A521 result is = is
result_is p articles.A522 result is = is
result_is p articles.A961 result is = is
result_is p articles.A962 result is = is
result_is p articles.A512 result is = absurd is
result_is p articles.A523 result is = absurd is
result_is p articles.A69 result is = absurd is
result_is p articles.A92 result is = absurd is
result_is p articles.A93 result is = absurd is

-- the ending of a position by its counts
abbrev ending_counted : Position → ℕ → ℕ → Option Ending
ending_counted p t q =
    ending_by_tests (is_checkmate p) (is_stalemate p) (is_listed_dead p.placement) (nat_le 5 t) (nat_le 150 q)
    (won_by (other p.side))

ended_so : (p : Position) (t q : ℕ) (e : Ending) → IsEnding p t q e → ending_counted p t q ≡ Some e
ended_so p t q e is =
    by_article (is_checkmate p) (is_stalemate p) (is_listed_dead p.placement) (nat_le 5 t) (nat_le 150 q)
    (won_by (other p.side)) (Decides-is_checkmate p) (Decides-is_stalemate p) (Decides-is_listed_dead p.placement)
    (Decides-nat_le 5 t) (Decides-nat_le 150 q) e.result e.article
    (article_is p t q e.article is.article) (result_is p e.article e.result is.result)

goes_on : (p : Position) (t q : ℕ) → IsRunning p t q → ending_counted p t q ≡ None
goes_on p t q is =
    by_none (is_checkmate p) (is_stalemate p) (is_listed_dead p.placement) (nat_le 5 t) (nat_le 150 q)
    (won_by (other p.side))
    (refuted (is_checkmate p) (Decides-is_checkmate p) is.0)
    (refuted (is_stalemate p) (Decides-is_stalemate p) is.1)
    (refuted (is_listed_dead p.placement) (Decides-is_listed_dead p.placement) is.2)
    (refuted (nat_le 5 t) (Decides-nat_le 5 t) is.3)
    (refuted (nat_le 150 q) (Decides-nat_le 150 q) is.4)

answered : (p : Position) (t q : ℕ) (result : Option Ending) → IfSome result (IsEnding p t q)
    → IfNone result (IsRunning p t q) → result ≡ ending_counted p t q
answered p t q None some none = sym (goes_on p t q none)
answered p t q (Some e) some none = sym (ended_so p t q e some)

-- What `after_move` answers of a line's last position, with its counts, is the ending that the line's moves give.
pub ending_after-answered : (start : Position) (moves : List Move) (t q : ℕ) (result : Option Ending)
    → t ≡ times (position_after start moves) (positions_of start moves)
    → q ≡ (position_after start moves).halfmove
    → IfSome result (IsEnding (position_after start moves) t q)
    → IfNone result (IsRunning (position_after start moves) t q)
    → result ≡ ending_after start moves
ending_after-answered start moves t q result counted quiet some none =
    let p = position_after start moves in
    answered p t q result some none
    ∙ ap (λ (n : ℕ). ending_counted p n q) counted
    ∙ ap (λ (n : ℕ). ending_counted p (times p (positions_of start moves)) n)
    (quiet ∙ sym (quiet_run-positions_of start moves))

pub told_le : (b : Bool) (k n : ℕ) → IsTrue b ↔ (k ≤ n) → b ≡ nat_le k n
told_le true k n told = sym ((Decides-nat_le k n).1 (told.0 refl))
told_le false k n told = sym (refuted (nat_le k n) (Decides-nat_le k n) (λ le. false≢true (told.1 le)))

-- a claim by the fifty-move rule
pub granted_fifty : (start : Position) (moves : List Move) (b : Bool) (n : ℕ)
    → IsTrue b ↔ (100 ≤ n) → n ≡ (position_after start moves).halfmove → b ≡ is_granted true start moves
granted_fifty start moves b n told quiet =
    told_le b 100 n told ∙ ap (nat_le 100) (quiet ∙ sym (quiet_run-positions_of start moves))

-- a claim by a third occurrence
pub granted_three : (start : Position) (moves : List Move) (b : Bool) (n : ℕ)
    → IsTrue b ↔ (3 ≤ n) → n ≡ times (position_after start moves) (positions_of start moves)
    → b ≡ is_granted false start moves
granted_three start moves b n told counted = told_le b 3 n told ∙ ap (nat_le 3) counted

-- a position that comes once more
pub times-push : (start : Position) (moves : List Move) (m : Move)
    → times (next (position_after start moves) m) (positions_of start moves) + 1
    ≡ times (position_after start (moves ++ m ∷ [])) (positions_of start (moves ++ m ∷ []))
times-push start moves m =
    let p = next (position_after start moves) m in
    let test : Position → Bool = λ q. is_key (key_of q) (key_of p) in
    let same : test p ≡ true = (bytes_decides (key_of p) (key_of p)).1 refl in
    let one : cond (test p) 1 0 ≡ 1 = ap (λ (b : Bool). let x : ℕ = cond b 1 0 in x) same in
    sym (ap (λ (x : Position). times x (positions_of start (moves ++ m ∷ []))) (position_after-push start moves m)
    ∙ ap (count_by test) (positions_of-push start moves m)
    ∙ count_by-push test (positions_of start moves) p
    ∙ ap (λ (n : ℕ). count_by test (positions_of start moves) + n) one)

pub times-at_most : (p : Position) (start : Position) (moves : List Move)
    → times p (positions_of start moves) ≤ length moves + 1
times-at_most p start moves =
    let most = count_by-le-length (λ q. is_key (key_of q) (key_of p)) (positions_of start moves) in
    let long = length-positions_of start moves in
    omega arith

-- what a fallen flag gives
pub flag_fallen-answered : (p : Position) (result : GameResult) → IsFlagResult p.placement p.side result
    → result ≡ flag_result p
flag_fallen-answered p result (inl h) =
    h.1 ∙ sym (ap (λ (b : Bool). let r : GameResult = if b then results.Draw else won_by (other p.side) in r)
    ((Decides-has_king_alone p.placement (other p.side)).1 h.0))
flag_fallen-answered p result (inr h) =
    h.1 ∙ sym (ap (λ (b : Bool). let r : GameResult = if b then results.Draw else won_by (other p.side) in r)
    (refuted (has_king_alone p.placement (other p.side)) (Decides-has_king_alone p.placement (other p.side)) h.0))

-- the ending of a fallen flag, for the board that stands
pub flag_ending-answered : (p board : Position) (side : Colour) (answered : Ending) → board ≡ p → side ≡ board.side
    → IsFlagResult board.placement side answered.result → answered.article ≡ articles.A69
    → answered ≡ flag_fallen p
flag_ending-answered p board side answered stands moves result article =
    let P : Colour → Type 0 = λ c. IsFlagResult board.placement c answered.result in
    let Q : Position → Type 0 = λ b. IsFlagResult b.placement b.side answered.result in
    let won : answered.result ≡ flag_result p =
    flag_fallen-answered p answered.result (subst Q stands (subst P moves result)) in
    ap (λ (a : Article). ending answered.result a) article ∙ ap (λ (r : GameResult). ending r articles.A69) won

some_ending : (mate stale dead q : Bool) (won : GameResult)
    → is_some (ending_by_tests mate stale dead false q won) ≡ (mate || stale || dead || q)
some_ending true stale dead q won = refl
some_ending false true dead q won = refl
some_ending false false true q won = refl
some_ending false false false true won = refl
some_ending false false false false won = refl

-- a position that comes once is an end where one of the other tests says so
pub finished-answered : (p : Position) (q : ℕ) (answered : Option Ending) → q ≡ p.halfmove
    → IfSome answered (IsEnding p 1 q) → IfNone answered (IsRunning p 1 q)
    → is_some answered ≡ is_finished_at p
finished-answered p q told quiet some none =
    ap (λ (o : Option Ending). is_some o) (answered p 1 q told some none)
    ∙ ap (λ (n : ℕ). is_some (ending_counted p 1 n)) quiet
    ∙ some_ending (is_checkmate p) (is_stalemate p) (is_listed_dead p.placement) (nat_le 150 p.halfmove)
    (won_by (other p.side))
