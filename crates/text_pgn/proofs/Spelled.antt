-- The rows of moves, one after another.
use Rattle.std.proofs.Common.{ℕ, suc, ◌≡◌, ◌+◌, List, [], ◌∷◌, ◌++◌, length, refl, sym, ap, ◌∙◌, append_assoc}
use Rattle.std.proofs.Common.{append-nil, arith, codes, decimal}
use Rattle.chess_board.specs.declared.moves.Move.{Move}
use Rattle.chess_board.specs.Position.{Position}
use Rattle.chess_board.specs.Next.{next}
use Rattle.chess_board.specs.Line.{position_after}
use Rattle.chess_notation.specs.San.{IsSan}
use Rattle.chess_notation.specs.Fen.{fen_of}
use Rattle.text_pgn.specs.Telling.{coordinate_of}
use Rattle.text_pgn.specs.Answer.{row, rows, AreSans, PutsRow, PutsRows}

sans_more : (p : Position) (moves : List Move) (sans : List (List ℕ)) (m : Move) (san : List ℕ) → AreSans p moves sans →
    IsSan (position_after p moves) m san → AreSans p (moves ++ m ∷ []) (sans ++ san ∷ [])
sans_more p [] [] m san are is = (is, tt)
sans_more p [] (s ∷ ss) m san are is = absurd are
sans_more p (x ∷ xs) [] m san are is = absurd are
sans_more p (x ∷ xs) (s ∷ ss) m san are is = (are.0, sans_more (next p x) xs ss m san are.1 is)

first_number : (n : ℕ) → n + 0 ≡ n
first_number n = omega arith

next_number : (n k : ℕ) → suc n + k ≡ n + suc k
next_number n k = omega arith

rows_more : (n : ℕ) (p : Position) (moves : List Move) (sans : List (List ℕ)) (m : Move) (san : List ℕ) →
    AreSans p moves sans →
    rows n p (moves ++ m ∷ []) (sans ++ san ∷ [])
    ≡ rows n p moves sans ++ row (n + length moves) san (coordinate_of m) (next (position_after p moves) m)
rows_more n p [] [] m san are =
    append-nil (row n san (coordinate_of m) (next p m))
    ∙ ap (λ (k : ℕ). row k san (coordinate_of m) (next p m)) (sym (first_number n))
rows_more n p [] (s ∷ ss) m san are = absurd are
rows_more n p (x ∷ xs) [] m san are = absurd are
rows_more n p (x ∷ xs) (s ∷ ss) m san are =
    let here = row n s (coordinate_of x) (next p x) in
    let behind = next (position_after (next p x) xs) m in
    ap (λ (t : List ℕ). here ++ t) (rows_more (suc n) (next p x) xs ss m san are.1)
    ∙ (sym (append_assoc here (rows (suc n) (next p x) xs ss) (row (suc n + length xs) san (coordinate_of m) behind))
    ∙ ap (λ (k : ℕ). (here ++ rows (suc n) (next p x) xs ss) ++ row k san (coordinate_of m) behind)
    (next_number n (length xs)))

pub rows_none : (start : Position) (text : List ℕ) → PutsRows start [] text text
rows_none start text = record {
  behind = [];
  are = record { sans = []; are = tt; spelled = refl };
  put = sym (append-nil text);
}

pub rows_put : (start before after : Position) (moves more : List Move) (m : Move) (number : ℕ)
    (old text new : List ℕ) → PutsRows start moves old text →
    PutsRow number before m after text new → before ≡ position_after start moves → after ≡ next before m →
    number ≡ 1 + length moves →
    more ≡ moves ++ m ∷ [] → PutsRows start more old new
rows_put start before after moves more m number old text new rows_so_far put_row at made counted grown =
    let here = row number put_row.san (coordinate_of m) after in
    let there = row (1 + length moves) put_row.san (coordinate_of m) (next (position_after start moves) m) in
    let same : row number put_row.san (coordinate_of m) after
    ≡ row (1 + length moves) put_row.san (coordinate_of m) (next (position_after start moves) m) =
    ap (λ (k : ℕ). row k put_row.san (coordinate_of m) after) counted
    ∙ ap (λ (q : Position). row (1 + length moves) put_row.san (coordinate_of m) q)
    (made ∙ ap (λ (q : Position). next q m) at) in
    rw grown (record {
      behind = rows_so_far.behind ++ here;
      are = record {
        sans = rows_so_far.are.sans ++ put_row.san ∷ [];
        are = sans_more start moves rows_so_far.are.sans m put_row.san rows_so_far.are.are
            (let h : IsSan (position_after start moves) m put_row.san = rw at at put_row.is_san in h);
        spelled = ap (λ (t : List ℕ). t ++ here) rows_so_far.are.spelled
            ∙ (ap (λ (t : List ℕ). rows 1 start moves rows_so_far.are.sans ++ t) same
            ∙ sym (rows_more 1 start moves rows_so_far.are.sans m put_row.san rows_so_far.are.are));
      };
      put = put_row.put ∙ (ap (λ (t : List ℕ). t ++ here) rows_so_far.put ∙ append_assoc old rows_so_far.behind here);
    })

pub start_put : (old a b new : List ℕ) (p : Position) → a ≡ old ++ decimal 0 → b ≡ a ++ codes " - -" →
    new ≡ b ++ (32 ∷ (fen_of p ++ (10 ∷ []))) →
    new ≡ old ++ row 0 (codes "-") (codes "-") p
start_put old a b new p one two three =
    let fen = 32 ∷ (fen_of p ++ (10 ∷ [])) in
    three ∙ (ap (λ (t : List ℕ). t ++ fen) two
    ∙ (append_assoc a (codes " - -") fen
    ∙ (ap (λ (t : List ℕ). t ++ (codes " - -" ++ fen)) one ∙ append_assoc old (decimal 0) (codes " - -" ++ fen))))

pub row_put : (number : ℕ) (p q : Position) (m : Move) (old a b s c new : List ℕ) (san : List ℕ) → IsSan p m san →
    a ≡ old ++ decimal number → b ≡ a ++ (32 ∷ []) → s ≡ b ++ san → c ≡ s ++ (32 ∷ coordinate_of m) →
    new ≡ c ++ (32 ∷ (fen_of q ++ (10 ∷ []))) → PutsRow number p m q old new
row_put number p q m old a b s c new san is one two three four five =
    let fen = 32 ∷ (fen_of q ++ (10 ∷ [])) in
    let move = 32 ∷ (coordinate_of m ++ fen) in
    record {
      san = san;
      is_san = is;
      put = five ∙ (ap (λ (t : List ℕ). t ++ fen) four
          ∙ (append_assoc s (32 ∷ coordinate_of m) fen
          ∙ (ap (λ (t : List ℕ). t ++ move) three
          ∙ (append_assoc b san move
          ∙ (ap (λ (t : List ℕ). t ++ (san ++ move)) two
          ∙ (append_assoc a (32 ∷ []) (san ++ move)
          ∙ (ap (λ (t : List ℕ). t ++ (32 ∷ (san ++ move))) one
          ∙ append_assoc old (decimal number) (32 ∷ (san ++ move)))))))));
    }
