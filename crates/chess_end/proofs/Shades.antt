-- The words of the dark and of the light squares, computed.
use Rattle.std.specs.Prelude.{◌≡◌, Bool, true, false, not, List, length}
use Rattle.std.specs.Bool.{Decides}
use Rattle.std.specs.List.{list_all}
use Rattle.std.proofs.Common.{refl, sym, ◌∙◌}
use Rattle.std.proofs.lemmas.Bool.{false≢true}
use Rattle.chess_bits.specs.Square.{Square, IsOnBoard, squares}
use Rattle.chess_bits.specs.Table.{at, has, IsSetOf}
use Rattle.chess_bits.specs.Word.{bools_of}
use Rattle.chess_bits.proofs.Deciding.{Decides-each_square, Decides-is_false}
use Rattle.chess_end.specs.Material.{is_dark}
use Rattle.chess_end.specs.Computing.{is_shade}

same : Bool → Bool → Bool
same true b = b
same false b = not b

Decides-same : (a b : Bool) → Decides (same a b) (a ≡ b)
unfolding same
Decides-same true true = (λ _. refl, λ _. refl)
Decides-same true false = (λ e. absurd (false≢true e), λ e. absurd (false≢true (sym e)))
Decides-same false true = (λ e. absurd (false≢true e), λ e. absurd (false≢true e))
Decides-same false false = (λ _. refl, λ _. refl)

shows : List Bool → (Square → Bool) → Bool
shows set test = list_all (λ s. same (has set s) (test s)) squares

shown : (set : List Bool) (test : Square → Bool) → shows set test ≡ true → (s : Square) → IsOnBoard s →
    has set s ≡ test s
unfolding shows
shown set test e s on =
    (Decides-each_square (λ s. same (has set s) (test s)) (λ s. has set s ≡ test s)
    (λ s _. Decides-same (has set s) (test s))).0 e s on

dark_shows : shows (bools_of 64 12273903644374837845) is_dark ≡ true
unfolding shows same squares at bools_of
dark_shows = refl

light_shows : shows (bools_of 64 6172840429334713770) (λ s. not (is_dark s)) ≡ true
unfolding shows same squares at bools_of
light_shows = refl

dark_whole : length (bools_of 64 12273903644374837845) ≡ 64
unfolding bools_of
dark_whole = refl

light_whole : length (bools_of 64 6172840429334713770) ≡ 64
unfolding bools_of
light_whole = refl

pub Decides-is_shade : (dark : Bool) (s : Square) → Decides (is_shade dark s) (is_dark s ≡ dark)
Decides-is_shade true s = (λ e. e, λ e. e)
Decides-is_shade false s = Decides-is_false (is_dark s)

pub dark_set : IsSetOf (bools_of 64 12273903644374837845) (λ s. is_dark s ≡ true)
dark_set = record {
  whole = dark_whole;
  exact = λ s on.
      let told = shown (bools_of 64 12273903644374837845) is_dark dark_shows s on in
      (λ e. sym told ∙ e, λ e. told ∙ e);
}

pub light_set : IsSetOf (bools_of 64 6172840429334713770) (λ s. is_dark s ≡ false)
light_set = record {
  whole = light_whole;
  exact = λ s on.
      let told = shown (bools_of 64 6172840429334713770) (λ s. not (is_dark s)) light_shows s on in
      let d = Decides-is_false (is_dark s) in
      (λ e. d.0 (sym told ∙ e), λ e. told ∙ d.1 e);
}
