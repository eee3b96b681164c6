-- The lines that begin with one of the moves that are done.
use Rattle.std.specs.Prelude.{ℕ, ◌≡◌, ◌≢◌, ◌+◌, ◌-◌, ◌^◌, ◌<◌, List, [], ◌∷◌, ◌++◌, length, map, take, Contains, min, slice_index_or}
use Rattle.std.specs.List.{AllPairs}
use Rattle.std.proofs.Common.{arith, sym, ap, ◌∙◌, inl, inr, refl, suc, length-append}
use Rattle.std.proofs.lemmas.List.{length-map, length-take, get_or-take}
use Rattle.std.proofs.lemmas.List.Elements.{Contains-append_left, Contains-append_right, Contains-append_cases}
use Rattle.chess_board.specs.declared.moves.Move.{Move}
use Rattle.chess_board.specs.Position.{Position}
use Rattle.chess_board.specs.Next.{next}
use Rattle.chess_board.specs.Line.{IsLegalLine}
use Rattle.chess_board.proofs.DistinctMoves.{IsApart, IsApart-append, IsApart-from_pairs, AllPairs-from_apart, Contains-here, Contains-later, Contains-cases, Contains-none}
use Rattle.chess_moves.specs.Moves.{IsListOfLegalMoves}
use Rattle.perft.specs.Lines.{IsNumberOfLines}

-- ---- lists with an item before each

pub record Starts {A : Type 0} (x : A) (xss : List (List A)) (ys : List A) : Type 0 where
  pub rest : List A
  pub whole : ys ≡ x ∷ rest
  pub there : Contains xss rest

pub Starts-from : {A : Type 0} (x : A) (xss : List (List A)) (ys : List A) → Contains (map (λ xs. x ∷ xs) xss) ys →
    Starts x xss ys
Starts-from x [] ys here = absurd (Contains-none ys here)
Starts-from {A} x (xs ∷ xss) ys here = elim (Contains-cases ys (x ∷ xs) (map (λ (zs : List A). x ∷ zs) xss) here) [
  | inl e ↦ record { rest = xs; whole = sym e; there = Contains-here xs xs xss refl }
  | inr later ↦
      let found = Starts-from x xss ys later in
      record { rest = found.rest; whole = found.whole; there = Contains-later found.rest xs xss found.there }
]

pub Starts-to : {A : Type 0} (x : A) (xss : List (List A)) (xs : List A) → Contains xss xs →
    Contains (map (λ ys. x ∷ ys) xss) (x ∷ xs)
Starts-to x [] xs here = absurd (Contains-none xs here)
Starts-to {A} x (ys ∷ xss) xs here = elim (Contains-cases xs ys xss here) [
  | inl e ↦ Contains-here (x ∷ xs) (x ∷ ys) (map (λ (zs : List A). x ∷ zs) xss) (ap (λ (zs : List A). x ∷ zs) e)
  | inr later ↦
      Contains-later (x ∷ xs) (x ∷ ys) (map (λ (zs : List A). x ∷ zs) xss) (Starts-to x xss xs later)
]

abbrev rest_of : {A : Type 0} → List A → List A → List A
rest_of d [] = d
rest_of d (x ∷ xs) = xs

abbrev first_of_list : {A : Type 0} → A → List A → A
first_of_list d [] = d
first_of_list d (x ∷ xs) = x

pub IsApart-started : {A : Type 0} (x : A) (xss : List (List A)) → IsApart xss → IsApart (map (λ xs. x ∷ xs) xss)
IsApart-started x [] apart = tt
IsApart-started {A} x (xs ∷ xss) apart = (
  λ here.
      let found = Starts-from x xss (x ∷ xs) here in
      let same : xs ≡ found.rest = ap (rest_of xs) found.whole in
      apart.0 (rw same found.there),
  IsApart-started x xss apart.1,
)

-- ---- the lines that begin with one of some moves

pub record IsThrough (p : Position) (done : List Move) (depth : ℕ) (line : List Move) : Type 0 where
  pub first : Move
  pub rest : List Move
  pub whole : line ≡ first ∷ rest
  pub there : Contains done first
  pub legal : IsLegalLine (next p first) rest
  pub long : length rest ≡ depth

pub record HasLinesThrough (p : Position) (done : List Move) (depth count : ℕ) : Type 0 where
  pub lines : List (List Move)
  pub begins : (line : List Move) → Contains lines line → IsThrough p done depth line
  pub all : (m : Move) (rest : List Move) → Contains done m → IsLegalLine (next p m) rest → length rest ≡ depth →
      Contains lines (m ∷ rest)
  pub apart : IsApart lines
  pub number : count ≡ min (length lines) (2 ^ 64 - 1)

pub through_more : (p : Position) (done : List Move) (m : Move) (depth count more n : ℕ) →
    HasLinesThrough p done depth count → IsNumberOfLines (next p m) depth n → more ≡ min n (2 ^ 64 - 1) →
    ¬ Contains done m → HasLinesThrough p (done ++ m ∷ []) depth (min (count + more) (2 ^ 64 - 1))
through_more p done m depth count more n before after same new =
    let started = map (λ (xs : List Move). m ∷ xs) after.lines in
    record {
      lines = before.lines ++ started;
      begins = λ line here. elim (Contains-append_cases before.lines started line here) [
        | inl front ↦
            let b = before.begins line front in
            record {
              first = b.first;
              rest = b.rest;
              whole = b.whole;
              there = Contains-append_left done (m ∷ []) b.first b.there;
              legal = b.legal;
              long = b.long;
            }
        | inr back ↦
            let found = Starts-from m after.lines line back in
            let good = (after.are.exact found.rest).0 found.there in
            record {
              first = m;
              rest = found.rest;
              whole = found.whole;
              there = Contains-append_right done (m ∷ []) m (Contains-here m m [] refl);
              legal = good.0;
              long = good.1;
            }
      ];
      all = λ x rest here legal long. elim (Contains-append_cases done (m ∷ []) x here) [
        | inl front ↦ Contains-append_left before.lines started (x ∷ rest) (before.all x rest front legal long)
        | inr back ↦ elim (Contains-cases x m [] back) [
          | inl e ↦
              let legal_too : IsLegalLine (next p m) rest = rw e legal in
              let there = Starts-to m after.lines rest ((after.are.exact rest).1 (legal_too, long)) in
              Contains-append_right before.lines started (x ∷ rest) (rw (sym e) there)
          | inr none ↦ absurd (Contains-none x none)
        ]
      ];
      apart = IsApart-append before.lines started before.apart
          (IsApart-started m after.lines (IsApart-from_pairs after.lines after.are.distinct))
          (λ line front back.
          let b = before.begins line front in
          let found = Starts-from m after.lines line back in
          let same_first : b.first ≡ m = ap (first_of_list m) (sym b.whole ∙ found.whole) in
          new (rw same_first at b.there));
      number = omega (arith, before.number, same, after.number, length-append before.lines started, length-map after.lines (λ (xs : List Move). m ∷ xs));
    }

-- with all legal moves done, they are all legal lines
pub through_all : (p : Position) (moves : List Move) (depth count : ℕ) → IsListOfLegalMoves p moves →
    HasLinesThrough p moves depth count →
    (n : ℕ) × IsNumberOfLines p (suc depth) n × (count ≡ min n (2 ^ 64 - 1))
through_all p moves depth count listed h = (
  length h.lines,
  record {
    lines = h.lines;
    are = record {
      exact = λ line. (from_line line, whole_line line);
      distinct = AllPairs-from_apart h.lines h.apart;
    };
    number = refl;
  },
  h.number,
)
  where
    from_line : (line : List Move) → Contains h.lines line → IsLegalLine p line × (length line ≡ suc depth)
    from_line line here =
        let b = h.begins line here in
        rw b.whole (((listed.exact b.first).0 b.there, b.legal), ap suc b.long)

    whole_line : (line : List Move) → IsLegalLine p line × (length line ≡ suc depth) → Contains h.lines line
    whole_line [] good = absurd (omega (arith, good.1))
    whole_line (m ∷ rest) good =
        h.all m rest ((listed.exact m).1 good.0.0) good.0.1 (omega (arith, good.1))

-- there is one line of no move
pub one_line : (p : Position) → IsNumberOfLines p 0 1
one_line p = record {
  lines = [] ∷ [];
  are = record {
    exact = λ line. (from_line line, no_move line);
    distinct = AllPairs-from_apart ([] ∷ []) (Contains-none [], tt);
  };
  number = refl;
}
  where
    from_line : (line : List Move) → Contains ([] ∷ []) line → IsLegalLine p line × (length line ≡ 0)
    from_line [] here = (tt, refl)
    from_line (m ∷ rest) here = elim (Contains-cases (m ∷ rest) [] [] here) [
      | inl e ↦ absurd (omega (arith, ap length e))
      | inr none ↦ absurd (Contains-none (m ∷ rest) none)
    ]

    no_move : (line : List Move) → IsLegalLine p line × (length line ≡ 0) → Contains ([] ∷ []) line
    no_move [] good = Contains-here [] [] [] refl
    no_move (m ∷ rest) good = absurd (omega (arith, good.1))

-- a line of one of the moves alone
record IsAlone (moves : List Move) (line : List Move) : Type 0 where
  move : Move
  there : Contains moves move
  whole : line ≡ move ∷ []

-- the lines of one move are the legal moves
pub moves_alone : (p : Position) (moves : List Move) → IsListOfLegalMoves p moves → IsNumberOfLines p 1 (length moves)
moves_alone p moves listed = record {
  lines = map (λ (m : Move). m ∷ []) moves;
  are = record {
    exact = λ line. (from_line line, alone line);
    distinct = AllPairs-from_apart (map (λ (m : Move). m ∷ []) moves)
        (apart_alone moves (IsApart-from_pairs moves listed.distinct));
  };
  number = length-map moves (λ (m : Move). m ∷ []);
}
  where
    found : (ms : List Move) (line : List Move) → Contains (map (λ (m : Move). m ∷ []) ms) line → IsAlone ms line
    found [] line here = absurd (Contains-none line here)
    found (m ∷ ms) line here = elim (Contains-cases line (m ∷ []) (map (λ (x : Move). x ∷ []) ms) here) [
      | inl e ↦ record { move = m; there = Contains-here m m ms refl; whole = sym e }
      | inr later ↦
          let f = found ms line later in
          record { move = f.move; there = Contains-later f.move m ms f.there; whole = f.whole }
    ]

    there : (ms : List Move) (m : Move) → Contains ms m → Contains (map (λ (x : Move). x ∷ []) ms) (m ∷ [])
    there [] m here = absurd (Contains-none m here)
    there (x ∷ ms) m here = elim (Contains-cases m x ms here) [
      | inl e ↦ Contains-here (m ∷ []) (x ∷ []) (map (λ (y : Move). y ∷ []) ms) (ap (λ (y : Move). y ∷ []) e)
      | inr later ↦ Contains-later (m ∷ []) (x ∷ []) (map (λ (y : Move). y ∷ []) ms) (there ms m later)
    ]

    apart_alone : (ms : List Move) → IsApart ms → IsApart (map (λ (m : Move). m ∷ []) ms)
    apart_alone [] apart = tt
    apart_alone (m ∷ ms) apart = (
      λ here.
          let f = found ms (m ∷ []) here in
          let same : m ≡ f.move = ap (first_of_list m) f.whole in
          apart.0 (rw same f.there),
      apart_alone ms apart.1,
    )

    from_line : (line : List Move) → Contains (map (λ (m : Move). m ∷ []) moves) line →
        IsLegalLine p line × (length line ≡ 1)
    from_line line here =
        let f = found moves line here in
        rw f.whole (((listed.exact f.move).0 f.there, tt), refl)

    alone : (line : List Move) → IsLegalLine p line × (length line ≡ 1) →
        Contains (map (λ (m : Move). m ∷ []) moves) line
    alone [] good = absurd (omega (arith, good.1))
    alone (m ∷ []) good = there moves m ((listed.exact m).1 good.0.0)
    alone (m ∷ n ∷ rest) good = absurd (omega (arith, good.1))

-- an item of a list without repetition is not among those before it
pub not_yet : (moves : List Move) (i : ℕ) (m : Move) → AllPairs (λ a b. a ≢ b) moves → i < length moves →
    slice_index_or moves i m ≡ m → ¬ Contains (take i moves) m
not_yet moves i m distinct below is here =
    let early : here.0 < i = omega (arith, here.1, length-take i moves) in
    let same : slice_index_or moves here.0 m ≡ m = sym (get_or-take i moves here.0 m early) ∙ here.2 in
    distinct here.0 i m early below (same ∙ sym is)
