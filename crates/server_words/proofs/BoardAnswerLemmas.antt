-- Each line has one answer.
use Rattle.std.proofs.Common.{◌≡◌, ℕ, ◌<◌, ◌≤◌, Bool, ◌⊎◌, List, sym, refl, ap, ◌∙◌, inl, inr, subst, arith, codes}
use Rattle.std.specs.Prelude.{◌==◌, ◌||◌}
use Rattle.std.specs.Bool.{Decides}
use Rattle.std.proofs.lemmas.Bool.{false≢true, cases_Bool}
use Rattle.std.proofs.lemmas.Bool.Decides.{Decides-eqb, Decides-or}
use Rattle.chess_board.specs.declared.moves.Move.{Move}
use Rattle.chess_board.specs.Position.{Position, IsValid}
use Rattle.chess_board.specs.Next.{next}
use Rattle.chess_board.specs.Legal.{IsLegal}
use Rattle.chess_notation.specs.Coordinate.{IsCoordinateOf}
use Rattle.chess_san.proofs.OneMove.{coordinate_one}
use Rattle.chess_board.proofs.ValidNext.{IsValid-next}
use Rattle.chess_notation.specs.Fen.{IsFenOf, fen_of}
use Rattle.chess_fen.proofs.Positions.{IsFenOf-fen_of, fen_of-IsFenOf}
use Rattle.server_words.specs.BoardLine.{AsksMove}
use Rattle.server_words.specs.BoardAnswer.{IsMoveText, IsAtLimit, MakesMove, StopsAtLimit, RefusesMove, AnswersText, IsAnswer, as_line}
use Rattle.server_words.proofs.BoardLineLemmas.{Asks, asks, asked_text}
use Rattle.server_words.proofs.BoardLineLemmas.Asks.{Asks_one, Asks_none}
use Rattle.server_words.proofs.MoveTexts.{MovesBy, moves_by}
use Rattle.server_words.proofs.MoveTexts.MovesBy.{Moves_one, Moves_none}

-- an answer, and the position after it
pub record HasAnswer (before : Position) (line : List ℕ) : Type 0 where
  pub answer : List ℕ
  pub after : Position
  pub is : IsAnswer before line answer after

-- a position at the limit, or not
at_limit : Position → Bool
at_limit p = (p.halfmove == 65535) || (p.fullmove == 65535)

limit-Decides : (p : Position) → Decides (at_limit p) (IsAtLimit p)
unfolding at_limit
limit-Decides p = Decides-or _ _ (Decides-eqb p.halfmove 65535) (Decides-eqb p.fullmove 65535)

pub limited : (p : Position) → IsAtLimit p ⊎ ¬ IsAtLimit p
limited p = elim (cases_Bool (at_limit p)) [
  | inl t ↦ inl ((limit-Decides p).0 t)
  | inr f ↦ inr (λ h. false≢true (sym f ∙ (limit-Decides p).1 h))
]

-- ---- there is an answer

answers_legal : (before : Position) (line text : List ℕ) (m : Move) → AsksMove line text →
    IsMoveText before text m → IsAtLimit before ⊎ ¬ IsAtLimit before → HasAnswer before line
answers_legal before line text m h t (inl limit) =
    record {
      answer = as_line (codes "no 20 TooLong");
      after = before;
      is = inl (record {
        text = text;
        asks = h;
        way = inr
            (inl (record { move = m; is_text = t; limit = limit; says = refl; stays = refl }));
      });
    }
answers_legal before line text m h t (inr room) =
    record {
      answer = as_line (fen_of (next before m));
      after = next before m;
      is = inl (record {
        text = text;
        asks = h;
        way = inl (record {
          move = m;
          is_text = t;
          room = room;
          goes = refl;
          fen = fen_of
              (next before m);
          is_fen = fen_of-IsFenOf _ (next before m) refl;
          says = refl;
        });
      });
    }

answers_text : (before : Position) (line text : List ℕ) → AsksMove line text → MovesBy before text →
    HasAnswer before line
answers_text before line text h (Moves_one m t) = answers_legal before line text m h t (limited before)
answers_text before line text h (Moves_none illegal) =
    record {
      answer = as_line (codes "no 9 BadMove");
      after = before;
      is = inl (record
          { text = text; asks = h; way = inr (inr (record { illegal = illegal; says = refl; stays = refl })) });
    }

answers_by : (before : Position) (line : List ℕ) → Asks line → HasAnswer before line
answers_by before line (Asks_one text h) = answers_text before line text h (moves_by before text)
answers_by before line (Asks_none bad) =
    record {
      answer = as_line (codes "no 1 BadLine");
      after = before;
      is = inr
          (record { bad = bad; says = refl; stays = refl });
    }

pub answers : (before : Position) (line : List ℕ) → IsValid before → HasAnswer before line
answers before line valid = answers_by before line (asks line)

-- ---- the position after it is valid

below : (n : ℕ) → n ≤ 65535 → ¬ (n ≡ 65535) → n < 65535
below n l h = omega arith

next_valid : (before : Position) (text : List ℕ) (m : Move) → IsValid before → IsMoveText before text m →
    ¬ IsAtLimit before → IsValid (next before m)
next_valid before text m valid t room =
    IsValid-next before m valid t.legal (below before.halfmove valid.counters.0 (λ e. room (inl e)))
    (below before.fullmove valid.counters.2 (λ e. room (inr e)))

valid_by : (before : Position) (text answer : List ℕ) (after : Position) → IsValid before
    → MakesMove before text answer after ⊎ StopsAtLimit before text answer after ⊎ RefusesMove before text answer
    after → IsValid after
valid_by before text answer after valid (inl h) = subst IsValid (sym h.goes)
    (next_valid before text h.move valid h.is_text h.room)
valid_by before text answer after valid (inr (inl h)) = subst IsValid (sym h.stays) valid
valid_by before text answer after valid (inr (inr h)) = subst IsValid (sym h.stays) valid

pub valid_after : (before : Position) (line answer : List ℕ) (after : Position) → IsValid before →
    IsAnswer before line answer after → IsValid after
valid_after before line answer after valid (inl h) = valid_by before h.text answer after valid h.way
valid_after before line answer after valid (inr h) = subst IsValid (sym h.stays) valid

-- ---- and it is one

one_made : (before : Position) (text a : List ℕ) (p : Position) (b : List ℕ) (q : Position) →
    MakesMove before text a p → MakesMove before text b q → (a ≡ b) × (p ≡ q)
one_made before text a p b q h k =
    let move = coordinate_one h.move k.move text h.is_text.coordinate k.is_text.coordinate in
    let same = h.goes ∙ ap (next before) move ∙ sym k.goes in
    let fens = IsFenOf-fen_of h.fen p h.is_fen ∙ ap fen_of same ∙ sym (IsFenOf-fen_of k.fen q k.is_fen) in
    (h.says ∙ ap as_line fens ∙ sym k.says, same)

one_way : (before : Position) (text a : List ℕ) (p : Position) (b : List ℕ) (q : Position)
    → MakesMove before text a p ⊎ StopsAtLimit before text a p ⊎ RefusesMove before text a p
    → MakesMove before text b q ⊎ StopsAtLimit before text b q ⊎ RefusesMove before text b q → (a ≡ b) × (p ≡ q)
one_way before text a p b q (inl h) (inl k) = one_made before text a p b q h k
one_way before text a p b q (inl h) (inr (inl k)) = absurd (h.room k.limit)
one_way before text a p b q (inl h) (inr (inr k)) = absurd (k.illegal h.move h.is_text)
one_way before text a p b q (inr (inl h)) (inl k) = absurd (k.room h.limit)
one_way before text a p b q (inr (inl h)) (inr (inl k)) = (h.says ∙ sym k.says, h.stays ∙ sym k.stays)
one_way before text a p b q (inr (inl h)) (inr (inr k)) = absurd (k.illegal h.move h.is_text)
one_way before text a p b q (inr (inr h)) (inl k) = absurd (h.illegal k.move k.is_text)
one_way before text a p b q (inr (inr h)) (inr (inl k)) = absurd (h.illegal k.move k.is_text)
one_way before text a p b q (inr (inr h)) (inr (inr k)) = (h.says ∙ sym k.says, h.stays ∙ sym k.stays)

pub one_answer : (before : Position) (line a : List ℕ) (p : Position) (b : List ℕ) (q : Position) →
    IsAnswer before line a p → IsAnswer before line b q → (a ≡ b) × (p ≡ q)
one_answer before line a p b q (inl h) (inl k) =
    let same = asked_text line h.text h.asks ∙ sym (asked_text line k.text k.asks) in
    one_way before k.text a p b q
    (subst (λ t. MakesMove before t a p ⊎ StopsAtLimit before t a p ⊎ RefusesMove before t a p) same h.way) k.way
one_answer before line a p b q (inl h) (inr k) = absurd (k.bad h.text h.asks)
one_answer before line a p b q (inr h) (inl k) = absurd (h.bad k.text k.asks)
one_answer before line a p b q (inr h) (inr k) = (h.says ∙ sym k.says, h.stays ∙ sym k.stays)

-- ---- what the code does is an answer

pub text-made : (p : Position) (text said : List ℕ) (m : Move) (q : Position) → IsLegal p m → IsCoordinateOf text m →
    (¬ IsAtLimit p → q ≡ next p m) → (¬ IsAtLimit p → IsFenOf said q) →
    (IsAtLimit p → (q ≡ p) × (said ≡ codes "no 20 TooLong")) → AnswersText p text (as_line said) q
text-made p text said m q legal coordinate made shown stopped = elim (limited p) [
  | inl limit ↦ inr (inl (record {
    move = m;
    is_text = record { legal = legal; coordinate = coordinate };
    limit = limit;
    says = ap as_line (stopped limit).1;
    stays = (stopped limit).0;
  }))
  | inr room ↦ inl (record {
    move = m;
    is_text = record { legal = legal; coordinate = coordinate };
    room = room;
    goes = made room;
    fen = said;
    is_fen = shown room;
    says = refl;
  })
]

pub text-illegal : (p : Position) (text said : List ℕ) (m : Move) → ¬ IsLegal p m → IsCoordinateOf text m →
    said ≡ codes "no 9 BadMove" → AnswersText p text (as_line said) p
text-illegal p text said m illegal coordinate says = inr (inr (record {
  illegal = λ n t. illegal (subst (IsLegal p) (coordinate_one n m text t.coordinate coordinate) t.legal);
  says = ap as_line says;
  stays = refl;
}))

pub text-no_move : (p : Position) (text said : List ℕ) → ((m : Move) → ¬ IsCoordinateOf text m) →
    said ≡ codes "no 9 BadMove" → AnswersText p text (as_line said) p
text-no_move p text said none says =
    inr (inr (record { illegal = λ m t. none m t.coordinate; says = ap as_line says; stays = refl }))
