-- The ending of a line is that of the articles: by the tests that decide them.
use Rattle.std.specs.Prelude.{ℕ, ◌≤◌, Bool, true, false, if◌then◌else◌, Some, None}
use Rattle.std.specs.Bool.{Decides}
use Rattle.std.proofs.Common.{refl, inl, inr}
use Rattle.std.proofs.lemmas.Bool.{false≢true}
use Rattle.chess_bits.specs.Man.{other}
use Rattle.chess_board.specs.Position.{Position}
use Rattle.chess_board.proofs.Deciding.{Decides-nat_le}
use Rattle.chess_end.specs.declared.ending.GameResult.TheVariants as results
use Rattle.chess_end.specs.declared.ending.Article.TheVariants as articles
use Rattle.chess_end.specs.Ending.{won_by, IsCheckmate, IsStalemate, IsFlagResult}
use Rattle.chess_end.specs.Material.{IsListedDead, HasKingAlone}
use Rattle.chess_end.proofs.Deciding.{Decides-is_checkmate, Decides-is_stalemate, Decides-is_listed_dead, Decides-has_king_alone}
use Rattle.chess_repeat.specs.QuietRun.{quiet_run}
use Rattle.chess_entry.specs.Outcome.{times, ending, IsEndingOrNone, LawOfEndings}

by_tests : (p : Position) (n q : ℕ) (mate stale dead five quiet : Bool) → Decides mate (IsCheckmate p)
    → Decides stale (IsStalemate p) → Decides dead (IsListedDead p.placement) → Decides five (5 ≤ n) → Decides quiet (150 ≤ q)
    → IsEndingOrNone p n q
    (if mate then Some (ending (won_by (other p.side)) articles.A511)
    else if stale then Some (ending results.Draw articles.A521)
    else if dead then Some (ending results.Draw articles.A522)
    else if five then Some (ending results.Draw articles.A961)
    else if quiet then Some (ending results.Draw articles.A962)
    else None)
by_tests p n q true stale dead five quiet m s d f r = record { article = m.0 refl; result = refl }
by_tests p n q false true dead five quiet m s d f r = record {
  article = (λ h. false≢true (m.1 h), s.0 refl);
  result = refl;
}
by_tests p n q false false true five quiet m s d f r = record {
  article = (λ h. false≢true (m.1 h), λ h. false≢true (s.1 h), d.0 refl);
  result = refl;
}
by_tests p n q false false false true quiet m s d f r = record {
  article = (λ h. false≢true (m.1 h), λ h. false≢true (s.1 h), λ h. false≢true (d.1 h), f.0 refl);
  result = refl;
}
by_tests p n q false false false false true m s d f r = record {
  article = (λ h. false≢true (m.1 h), λ h. false≢true (s.1 h), λ h. false≢true (d.1 h), λ h. false≢true (f.1 h), r.0 refl);
  result = refl;
}
by_tests p n q false false false false false m s d f r = (
  λ h. false≢true (m.1 h),
  λ h. false≢true (s.1 h),
  λ h. false≢true (d.1 h),
  λ h. false≢true (f.1 h),
  λ h. false≢true (r.1 h),
)

flag_by_test : (p : Position) (alone : Bool) → Decides alone (HasKingAlone p.placement (other p.side))
    → IsFlagResult p.placement p.side (if alone then results.Draw else won_by (other p.side))
flag_by_test p true d = inl (d.0 refl, refl)
flag_by_test p false d = inr (λ h. false≢true (d.1 h), refl)

pub law_of_endings : LawOfEndings
law_of_endings = record {
  line = λ p line. by_tests p (times p line) (quiet_run line) _ _ _ _ _ (Decides-is_checkmate p) (Decides-is_stalemate p)
      (Decides-is_listed_dead p.placement) (Decides-nat_le 5 (times p line)) (Decides-nat_le 150 (quiet_run line));
  flag = λ p. flag_by_test p _ (Decides-has_king_alone p.placement (other p.side));
}
