-- The answers of a run are those to the merged list of its lines.
use Rattle.std.proofs.Common.{◌≡◌, ◌∙◌, ◌<◌, ℕ, suc, ◌+◌, Bool, true, false, List, [], ◌∷◌, ◌++◌, length, drop, Option, None, refl, sym, ap, subst, append_assoc, append-nil, arith}
use Rattle.std.proofs.Math.Bool.{or-false}
use Rattle.std.proofs.Math.Seq.{drop-length}
use Rattle.std.proofs.lemmas.Bool.Decides.{Decides-eqb}
use Rattle.std.proofs.lemmas.List.{drop-drop}
use Rattle.std.proofs.lemmas.List.Sums.{sum_by-cons, sum_by-append}
use Rattle.std.specs.Prelude.{cond, map, ◌==◌, ◌&&◌, if◌then◌else◌, slice_index, slice_index_or}
use Rattle.std.specs.List.{AllZip, concat}
use Rattle.text_lines.specs.Lines.{lines_of, has_long_line}
use Rattle.sector_dev.specs.Device.{State, measures}
use Rattle.chess_entry.specs.State.{TableState}
use Rattle.chess_hub.specs.Session.{Said, farewell, is_none_waiting}
use Rattle.chess_hub.specs.Turn.{SessionLine, session_line, turn_lines, IsReading}
use Rattle.chess_hub.specs.Answers.{given_name, renamed}
use Rattle.text_lines.specs.Texts.{IsRun, IsText}
use Rattle.text_lines.specs.Texts as loop
use Rattle.chess_hub.specs.Calls.{Call, Connected, Fed, Turned, which, input_of}
use Rattle.chess_hub.specs.Sessions.{Merged, taken_count, lines_left, AreOpenIn, IsMergedAs, AreMerged, name_from, IsLineAnswered, AreAnsweredAfter, answers_to}
use Rattle.chess_hub.specs.Running.{Standing, stands, written, AnswersLine}
use Rattle.chess_hub.specs.RunLaw.{written_all, IsOfTheFirst, GiveAll, sent_after, turns_after, AreTold, IsSessionText}
use Rattle.chess_hub.specs.Turning.{Kept}

name-behind : (session : ℕ) (name : Option (List ℕ)) (before : List Merged) (m : Merged) →
    name_from session name (before ++ m ∷ []) ≡ name_from session (name_from session name before) (m ∷ [])
name-behind session name [] m = refl
name-behind session name (x ∷ before) m =
    name-behind session (if x.session == session then renamed (given_name x.at x.line) name else name) before m

one-more : (k n : ℕ) → k ≡ n → 1 + k ≡ suc n
one-more k n e = omega (arith, e)

-- ---- a turn for each line

-- The first session is the only one that is open, and it has the number 1.
record IsOnly (calls : List Call) : Type 0 where
  pub opens : AreOpenIn calls (1 ∷ [])
  pub own : which 1 calls ≡ 1

none-rises : (k : ℕ) → k + 1 < 1 → slice_index (1 ∷ []) k < slice_index (1 ∷ []) (k + 1)
none-rises k lt = omega (arith, lt)

it_is_one : (sid k : ℕ) → k < 1 → slice_index_or (1 ∷ []) k sid ≡ sid → 1 ≡ sid
it_is_one sid k lt is =
    let first : k ≡ 0 = omega (arith, lt) in
    subst (λ (n : ℕ). slice_index_or (1 ∷ []) n sid ≡ sid) first is

only_at_first : IsOnly (Connected 1 ∷ [])
only_at_first = record {
  opens = record {
    rising = none-rises;
    each = λ sid. (
      λ has. or-false (1 == sid) ∙ (Decides-eqb 1 sid).1 (it_is_one sid has.0 has.1 has.2),
      λ opens. (0, omega arith, (Decides-eqb 1 sid).0 (sym (or-false (1 == sid)) ∙ opens)),
    );
  };
  own = refl;
}

-- It sends a piece.
only_sent : (calls : List Call) (piece : List ℕ) → IsOnly calls → IsOnly (Fed 1 piece ∷ calls)
only_sent calls piece only = record {
  opens = record { rising = only.opens.rising; each = only.opens.each };
  own = only.own;
}

input_sent : (calls : List Call) (piece : List ℕ) → IsOnly calls →
    input_of 1 (Fed 1 piece ∷ calls) ≡ input_of 1 calls ++ piece
input_sent calls piece only =
    ap (λ (n : ℕ). if n == 1 then input_of 1 calls ++ piece else input_of 1 calls) only.own

-- It has sent pieces, and nothing was taken.
record HasSent (calls : List Call) (input : List ℕ) : Type 0 where
  pub only : IsOnly calls
  pub none : AreMerged calls []
  pub all : input_of 1 calls ≡ input

has_sent : (calls : List Call) (input : List ℕ) (pieces : List (List ℕ)) → HasSent calls input →
    HasSent (sent_after calls pieces) (input ++ concat pieces)
has_sent calls input [] sent = subst (HasSent calls) (sym (append-nil input)) sent
has_sent calls input (piece ∷ pieces) sent =
    subst (HasSent (sent_after calls (piece ∷ pieces))) (append_assoc input piece (concat pieces))
    (has_sent (Fed 1 piece ∷ calls) (input ++ piece) pieces (record {
      only = only_sent calls piece sent.only;
      none = sent.none;
      all = input_sent calls piece sent.only ∙ ap (λ (l : List ℕ). l ++ piece) sent.all;
    }))

all_sent : (pieces : List (List ℕ)) → HasSent (sent_after (Connected 1 ∷ []) pieces) (concat pieces)
all_sent pieces = has_sent (Connected 1 ∷ []) [] pieces (record { only = only_at_first; none = refl; all = refl })

-- what a turn for one line takes of a session
one_line : (sid : ℕ) (lines : List (List ℕ)) (line : List ℕ) (left : List (List ℕ)) → lines ≡ line ∷ left →
    turn_lines 1 (record { sid = sid; lines = lines } ∷ []) ≡ session_line sid line ∷ []
one_line sid lines line left is =
    ap (λ (ls : List (List ℕ)). turn_lines 1 (record { sid = sid; lines = ls } ∷ [])) is

-- a turn for the next line
next_turn : (calls : List Call) (before : List Merged) (at : ℕ) (m : Merged) (line : List ℕ) (left : List (List ℕ)) →
    IsOnly calls → AreMerged calls before → lines_left calls before 1 ≡ line ∷ left → m.session ≡ 1 → m.at ≡ at →
    IsReading line m.line → AreMerged (Turned at 1 ∷ calls) (before ++ m ∷ [])
next_turn calls before at m line left only were is session moment reads = record {
  before = before;
  was = were;
  sids = 1 ∷ [];
  opens = only.opens;
  lines = m ∷ [];
  are = subst (λ (ls : List SessionLine). AllZip (IsMergedAs calls at) ls (m ∷ []))
      (sym (one_line 1 (lines_left calls before (which 1 calls)) line left
      (ap (lines_left calls before) only.own ∙ is)))
      (record { session = session ∙ sym only.own; moment = moment; reads = reads }, tt);
  whole = refl;
}

-- and which lines are left behind it
left_behind : (input : List ℕ) (before : List Merged) (m : Merged) (line : List ℕ) (left : List (List ℕ)) →
    m.session ≡ 1 → drop (taken_count 1 before) (lines_of input) ≡ line ∷ left →
    drop (taken_count 1 (before ++ m ∷ [])) (lines_of input) ≡ left
left_behind input before m line left session is =
    let both : taken_count 1 (before ++ m ∷ []) ≡ taken_count 1 before + taken_count 1 (m ∷ []) =
    sum_by-append (λ (x : Merged). cond (x.session == 1) 1 0) before (m ∷ []) in
    let last : taken_count 1 (m ∷ []) ≡ cond (m.session == 1) 1 0 + 0 =
    sum_by-cons (λ (x : Merged). cond (x.session == 1) 1 0) m [] in
    let own : ◌≡◌ {A = ℕ} (cond (m.session == 1) 1 0) 1 = ap (λ (n : ℕ). cond (n == 1) 1 0) session in
    let more : taken_count 1 (before ++ m ∷ []) ≡ taken_count 1 before + 1 = omega (arith, both, last, own) in
    ap (λ (n : ℕ). drop n (lines_of input)) more ∙ sym (drop-drop 1 (taken_count 1 before) (lines_of input))
    ∙ ap (drop 1) is

turns_send : (calls : List Call) (ats : List ℕ) → input_of 1 (turns_after calls ats) ≡ input_of 1 calls
turns_send calls [] = refl
turns_send calls (at ∷ ats) = turns_send (Turned at 1 ∷ calls) ats

-- ---- the lines of a run

-- the lines of a run as a turn's, behind others of the session
record Told {M : Type 0} (gives : M → ℕ → M → Type 0) (from to : M) (before : List Merged) (table after : TableState) (lines : List (List ℕ)) (told : List ℕ) : Type 0 where
  pub merged : List Merged
  pub are : AllZip IsOfTheFirst lines merged
  pub moments : GiveAll gives from (map (λ m. m.at) merged) to
  pub merges : (calls : List Call) (left : List (List ℕ)) → IsOnly calls → AreMerged calls before
      → lines_left calls before 1 ≡ lines ++ left
      → AreMerged (turns_after calls (map (λ m. m.at) merged)) (before ++ merged)
  pub answers : List Said
  pub answered : AreAnsweredAfter before table merged answers after
  pub is : told ≡ written_all answers
  pub own : answers_to 1 merged answers ≡ answers
  pub count : taken_count 1 merged ≡ length lines

module _ {D M : Type 0} (state : D → State) (sector_count failures : D → ℕ) (gives : M → ℕ → M → Type 0) where
  run-told : (s end : Standing D M) (before : List Merged) (lines : List (List ℕ)) (text : List ℕ) →
      name_from 1 None before ≡ s.name → IsRun (AnswersLine (measures state sector_count failures) gives) s lines text end →
      Told gives s.moments end.moments before s.store.table end.store.table lines text
  run-told s end before [] text named (none, same) = record {
    merged = [];
    are = tt;
    moments = ap (λ (t : Standing D M). t.moments) same;
    merges = λ calls left only were is. subst (AreMerged calls) (sym (append-nil before)) were;
    answers = [];
    answered = (refl, ap (λ (t : Standing D M). t.store.table) same);
    is = none;
    own = refl;
    count = refl;
  }
  run-told s end before (line ∷ lines) text named (answer, between, more, told, run, is) =
      let m : Merged = record { session = 1; at = told.at; line = told.read } in
      let next : name_from 1 None (before ++ m ∷ []) ≡ between.name = name-behind 1 None before m
      ∙ ap (renamed (given_name told.at told.read)) named ∙ sym told.named in
      let rest = run-told between end (before ++ m ∷ []) lines more next run in
      record {
        merged = m ∷ rest.merged;
        are = (record { session = refl; reads = told.reads }, rest.are);
        moments = (between.moments, told.next, rest.moments);
        merges = λ calls left only were is.
            subst (AreMerged (turns_after calls (told.at ∷ map (λ x. x.at) rest.merged)))
            (append_assoc before (m ∷ []) rest.merged)
            (rest.merges (Turned told.at 1 ∷ calls) left
            (record { opens = record { rising = only.opens.rising; each = only.opens.each }; own = only.own })
            (next_turn calls before told.at m line (lines ++ left) only were is refl refl told.reads)
            (left_behind (input_of 1 calls) before m line (lines ++ left) refl is));
        answers = told.answer ∷ rest.answers;
        answered = (
          told.answer,
          rest.answers,
          between.store.table,
          refl,
          subst (λ (n : Option (List ℕ)). IsLineAnswered s.store.table n told.at told.read told.answer
              between.store.table) (sym named) told.answered,
          rest.answered,
        );
        is = is ∙ ap (λ (x : List ℕ). x ++ more) told.says
            ∙ ap (λ (x : List ℕ). written told.answer ++ x) rest.is;
        own = ap (λ (xs : List Said). told.answer ∷ xs) rest.own;
        count = sum_by-cons (λ (x : Merged). cond (x.session == 1) 1 0) m rest.merged
            ∙ one-more (taken_count 1 rest.merged) (length lines) rest.count;
      }

-- ---- the text

written-behind : (xs ys : List Said) → written_all (xs ++ ys) ≡ written_all xs ++ written_all ys
written-behind [] ys = refl
written-behind (x ∷ xs) ys = ap (λ (l : List ℕ). written x ++ l) (written-behind xs ys)
    ∙ sym (append_assoc (written x) (written_all xs) (written_all ys))

abbrev ends : Bool → List Said
ends done = if done then farewell ∷ [] else []

written-end : (answers : List Said) (long : Bool) →
    written_all (answers ++ ends (long && true)) ≡ written_all answers ++ loop.farewell long
written-end answers true = written-behind answers (farewell ∷ [])
    ∙ ap (λ (l : List ℕ). written_all answers ++ l) (append-nil (written farewell))
written-end answers false = ap written_all (append-nil answers) ∙ sym (append-nil (written_all answers))

abbrev text_of : List ℕ → List Merged → List Said → List Said
text_of input merged answers = answers_to 1 merged answers
    ++ ends (has_long_line input && is_none_waiting (drop (taken_count 1 merged) (lines_of input)))

text-is : (input : List ℕ) (merged : List Merged) (answers : List Said) → answers_to 1 merged answers ≡ answers →
    taken_count 1 merged ≡ length (lines_of input) →
    written_all (text_of input merged answers) ≡ written_all answers ++ loop.farewell (has_long_line input)
text-is input merged answers own count =
    let none : drop (taken_count 1 merged) (lines_of input) ≡ [] =
    ap (λ (n : ℕ). drop n (lines_of input)) count ∙ drop-length (lines_of input) in
    ap (λ (xs : List Said). written_all (xs ++ ends (has_long_line input
    && is_none_waiting (drop (taken_count 1 merged) (lines_of input))))) own
    ∙ ap (λ (left : List (List ℕ)). written_all (answers ++ ends (has_long_line input && is_none_waiting left))) none
    ∙ written-end answers (has_long_line input)

-- the lines of a run from its beginning
abbrev as_told : {M : Type 0} (gives : M → ℕ → M → Type 0) (from to : M) (table after : TableState)
    (lines : List (List ℕ)) (text : List ℕ) → Told gives from to [] table after lines text →
    AreTold gives from to table after lines text
as_told gives from to table after lines text told = record {
  merged = told.merged;
  are = told.are;
  moments = told.moments;
  merges = λ pieces left is.
      let sent = all_sent pieces in
      told.merges (sent_after (Connected 1 ∷ []) pieces) left sent.only sent.none (ap lines_of sent.all ∙ is);
  answers = told.answers;
  answered = told.answered;
  is = told.is ∙ ap written_all (sym told.own);
}

module _ {D M : Type 0} (state : D → State) (sector_count failures : D → ℕ) (gives : M → ℕ → M → Type 0) where
  pub run-front : (store : Kept D) (moments : M) (lines : List (List ℕ)) (text : List ℕ) (end : Standing D M) →
      IsRun (AnswersLine (measures state sector_count failures) gives) (stands store None moments) lines text end →
      AreTold gives moments end.moments store.table end.store.table lines text
  run-front store moments lines text end run = as_told gives moments end.moments store.table end.store.table lines text
      (run-told state sector_count failures gives (stands store None moments) end [] lines text refl run)

  pub run-is : (store : Kept D) (moments : M) (input text : List ℕ) (end : Standing D M) →
      IsText (AnswersLine (measures state sector_count failures) gives) (stands store None moments) input text end →
      IsSessionText gives moments end.moments store.table end.store.table input text
  run-is store moments input text end is =
      let told = run-told state sector_count failures gives (stands store None moments) end [] (lines_of input)
      is.answers refl is.run in
      record {
        told = is.answers;
        lines = as_told gives moments end.moments store.table end.store.table (lines_of input) is.answers told;
        is = λ pieces whole.
            let sent = turns_send (sent_after (Connected 1 ∷ []) pieces) (map (λ m. m.at) told.merged)
            ∙ (all_sent pieces).all ∙ whole in
            is.whole ∙ ap (λ (l : List ℕ). l ++ loop.farewell (has_long_line input)) told.is
            ∙ sym (text-is input told.merged told.answers told.own told.count)
            ∙ sym (ap (λ (i : List ℕ). written_all (text_of i told.merged told.answers)) sent);
      }
