-- The moves that words name, one after another.
use Rattle.std.proofs.Common.{ℕ, zero, suc, ◌≡◌, List, [], ◌∷◌, ◌++◌, length, take, drop, refl, sym, ap, ◌∙◌, subst, append_assoc, append-nil, arith, Option}
use Rattle.std.proofs.Common.{Some, None}
use Rattle.std.specs.Prelude.{IfSome, IfNone}
use Rattle.chess_board.specs.declared.moves.Move.{Move}
use Rattle.chess_board.specs.Position.{Position}
use Rattle.chess_board.specs.Next.{next}
use Rattle.chess_board.specs.Line.{position_after}
use Rattle.chess_notation.specs.Naming.{Names}
use Rattle.text_pgn.specs.Game.{Plays, ArePlayed}
use Rattle.text_pgn.specs.Replaying.{Continued, Runs}

-- the words up to one, and that one
take_one : (words : List (List ℕ)) (at : ℕ) (word : List ℕ) (left : List (List ℕ)) → drop at words ≡ word ∷ left →
    take (suc at) words ≡ take at words ++ word ∷ []
take_one [] zero word left cut =
    let none : 0 ≡ suc (length left) = ap (λ (l : List (List ℕ)). length l) cut in
    absurd (omega (arith, none))
take_one [] (suc n) word left cut =
    let none : 0 ≡ suc (length left) = ap (λ (l : List (List ℕ)). length l) cut in
    absurd (omega (arith, none))
take_one (x ∷ xs) zero word left cut = ap (λ (l : List (List ℕ)). take 1 l) cut
take_one (x ∷ xs) (suc n) word left cut = ap (λ (l : List (List ℕ)). x ∷ l) (take_one xs n word left cut)

played_more : (p : Position) (words : List (List ℕ)) (done : List Move) (word : List ℕ) (m : Move) →
    ArePlayed p words done → Plays (position_after p done) word m → ArePlayed p (words ++ word ∷ []) (done ++ m ∷ [])
played_more p [] [] word m played plays = (plays, tt)
played_more p [] (d ∷ ds) word m played plays = absurd played
played_more p (w ∷ ws) [] word m played plays = absurd played
played_more p (w ∷ ws) (d ∷ ds) word m played plays =
    (played.0, played_more (next p d) ws ds word m played.1 plays)

-- the next word names one move more
pub played_on : (start : Position) (words : List (List ℕ)) (at : ℕ) (word : List ℕ) (left : List (List ℕ))
    (done : List Move) (m : Move) → drop at words ≡ word ∷ left → ArePlayed start (take at words) done →
    Plays (position_after start done) word m → ArePlayed start (take (suc at) words) (done ++ m ∷ [])
played_on start words at word left done m cut played plays =
    subst (λ (ws : List (List ℕ)). ArePlayed start ws (done ++ m ∷ [])) (sym (take_one words at word left cut))
    (played_more start (take at words) done word m played plays)

more_by : (p after : Position) (word : List ℕ) (left : List (List ℕ)) (done more all : List Move) (m : Move)
    (rest : List Move) →
    ((other : Move) → Plays p word other → other ≡ m) → after ≡ next p m → more ≡ done ++ (m ∷ []) →
    all ≡ done ++ rest →
    ArePlayed p (word ∷ left) rest → Continued after left more all
more_by p after word left done more all m [] one board put joined played = absurd played
more_by p after word left done more all m (n ∷ ns) one board put joined played =
    let same = one n played.0 in
    record {
      rest = ns;
      joined = joined ∙ (ap (λ (x : Move). done ++ (x ∷ ns)) same
          ∙ (sym (append_assoc done (m ∷ []) ns) ∙ ap (λ (ms : List Move). ms ++ ns) (sym put)));
      played = subst (λ (q : Position). ArePlayed q left ns) (ap (next p) same ∙ sym board) played.1;
    }

pub runs_more : (start p after : Position) (words left : List (List ℕ)) (word : List ℕ) (done : List Move) (m : Move) →
    Runs start p words (word ∷ left) done → Plays p word m → ((other : Move) → Plays p word other → other ≡ m) →
    after ≡ next p m →
    Runs start after words left (done ++ m ∷ [])
runs_more start p after words left word done m runs plays one board = record {
  back = λ rest h.
      subst (λ (ms : List Move). ArePlayed start words ms) (sym (append_assoc done (m ∷ []) rest))
      (runs.back (m ∷ rest) (plays, subst (λ (q : Position). ArePlayed q left rest) board h));
  forth = λ all h.
      let so_far = runs.forth all h in
      more_by p after word left done (done ++ m ∷ []) all m so_far.rest one board refl so_far.joined so_far.played;
}

pub runs_end : (start p : Position) (words : List (List ℕ)) (done : List Move) → Runs start p words [] done →
    ArePlayed start words done
runs_end start p words done runs = subst (λ (ms : List Move). ArePlayed start words ms) (append-nil done)
    (runs.back [] tt)

end_by : (p : Position) (done all rest : List Move) → all ≡ done ++ rest → ArePlayed p [] rest → all ≡ done
end_by p done all [] joined played = joined ∙ append-nil done
end_by p done all (m ∷ ms) joined played = absurd played

pub runs_one : (start p : Position) (words : List (List ℕ)) (done : List Move) → Runs start p words [] done →
    (all : List Move) →
    ArePlayed start words all → all ≡ done
runs_one start p words done runs all h =
    let so_far = runs.forth all h in
    end_by p done all so_far.rest so_far.joined so_far.played

stop_by : (p : Position) (word : List ℕ) (left : List (List ℕ)) (rest : List Move) → ((m : Move) → ¬ Plays p word m) →
    ArePlayed p (word ∷ left) rest → ⊥
stop_by p word left [] none played = played
stop_by p word left (m ∷ ms) none played = none m played.0

pub runs_stop : (start p : Position) (words left : List (List ℕ)) (word : List ℕ) (done : List Move) →
    Runs start p words (word ∷ left) done →
    ((m : Move) → ¬ Plays p word m) → (all : List Move) → ¬ ArePlayed start words all
runs_stop start p words left word done runs none all h =
    let so_far = runs.forth all h in
    stop_by p word left so_far.rest none so_far.played

-- what a reader says of names it says of plays
pub one_named : (r : Option Move) (p : Position) (word : List ℕ) →
    IfSome r (λ m. (other : Move) → Names p word other → other ≡ m) →
    IfSome r (λ m. (other : Move) → Plays p word other → other ≡ m)
one_named None p word h = tt
one_named (Some m) p word h = λ other plays. h other plays.named

pub none_named : (r : Option Move) (p : Position) (word : List ℕ) → IfNone r ((m : Move) → ¬ Names p word m) →
    IfNone r ((m : Move) → ¬ Plays p word m)
none_named None p word h = λ m plays. h m plays.named
none_named (Some m) p word h = tt
