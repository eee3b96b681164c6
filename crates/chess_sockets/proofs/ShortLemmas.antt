-- A line whose answer has a body begins as one that asks for much.
use Rattle.std.proofs.Common.{◌≡◌, ◌∙◌, ℕ, List, [], ◌∷◌, ◌++◌, Bool, true, false, Option, Some, None, inl, inr, take, drop, sym, ap, subst, refl, append-nil}
use Rattle.std.specs.Prelude.{if◌then◌else◌, length, ◌-◌, decimal, string_bytes, IsSomeAnd}
use Rattle.std.specs.Io.BufRead.{strip_last, ends_with_byte}
use Rattle.std.proofs.lemmas.List.{take-append-drop}
use Rattle.chess_entry.specs.declared.commands.Act.{Act}
use Rattle.chess_entry.specs.declared.commands.Act.TheVariants as acts
use Rattle.chess_entry.specs.declared.verdicts.Verdict.{Verdict}
use Rattle.chess_entry.specs.declared.verdicts.Verdict.TheVariants.{Refuse, Enter, Read}
use Rattle.chess_entry.specs.State.{TableState, find_game}
use Rattle.chess_entry.specs.Verdict.{effective}
use Rattle.rec_codec.specs.declared.record.Entry.{Entry}
use Rattle.chess_line.specs.declared.lines.Line.TheVariants as lines
use Rattle.chess_line.specs.Line.{HasForm}
use Rattle.chess_answer.specs.declared.reads.Reply.{Reply}
use Rattle.chess_answer.specs.Reads.{IsReadReply, IsFenLine, show_text}
use Rattle.chess_store.specs.Batch.{Becomes}
use Rattle.chess_hub.specs.Session.{Said}
use Rattle.chess_sockets.specs.Portions.{is_dear}
use Rattle.chess_sockets.specs.Laws.{LawOfShortAnswers}

front_of : (cut : Bool) (n : ℕ) (line front : List ℕ) → (if cut then take n line else line) ≡ front
    → (more : List ℕ) × (line ≡ front ++ more)
front_of true n line front is =
    (drop n line, sym (take-append-drop n line) ∙ ap (λ (l : List ℕ). l ++ drop n line) is)
front_of false n line front is = ([], is ∙ sym (append-nil front))

dear_list : (line : List ℕ) → strip_last 13 line ≡ 108 ∷ 105 ∷ 115 ∷ 116 ∷ [] → is_dear line ≡ true
dear_list line is =
    let front = front_of (ends_with_byte 13 line) (length line - 1) line (108 ∷ 105 ∷ 115 ∷ 116 ∷ []) is in
    subst (λ (l : List ℕ). is_dear l ≡ true) (sym front.1) refl

dear_pgn : (line rest : List ℕ) → strip_last 13 line ≡ 112 ∷ 103 ∷ 110 ∷ 32 ∷ rest → is_dear line ≡ true
dear_pgn line rest is =
    let front = front_of (ends_with_byte 13 line) (length line - 1) line (112 ∷ 103 ∷ 110 ∷ 32 ∷ rest) is in
    subst (λ (l : List ℕ). is_dear l ≡ true) (sym front.1) refl

-- of the reads only those that ask for much are answered by a body

some_alone : {A : Type 0} (m : Option A) (P : A → Type 0) (body : List ℕ) → IsSomeAnd m (λ x. P x × (body ≡ [])) →
    body ≡ []
some_alone None P body h = absurd h
some_alone (Some x) P body h = h.1

none_dear : {P : Type 0} (line : List ℕ) → is_dear line ≡ false → is_dear line ≡ true → P
none_dear line cheap dear = absurd (let bad : true ≡ false = sym dear ∙ cheap in cc)

read_alone : (line : List ℕ) (act : Act) (table : TableState) (at : ℕ) (told body : List ℕ) → is_dear line ≡ false →
    HasForm (strip_last 13 line) (lines.Act act) → IsReadReply table at act told body → body ≡ []
read_alone line (acts.NewGame colour initial increment fen period) table at told body cheap form reply = absurd reply
read_alone line (acts.Join game) table at told body cheap form reply = absurd reply
read_alone line (acts.Play game ply text) table at told body cheap form reply = absurd reply
read_alone line (acts.Offer game) table at told body cheap form reply = absurd reply
read_alone line (acts.Accept game) table at told body cheap form reply = absurd reply
read_alone line (acts.Decline game) table at told body cheap form reply = absurd reply
read_alone line (acts.Resign game) table at told body cheap form reply = absurd reply
read_alone line (acts.Claim game ply fifty text) table at told body cheap form reply = absurd reply
read_alone line (acts.Flag game) table at told body cheap form reply = absurd reply
read_alone line (acts.Remove game) table at told body cheap form reply = absurd reply
read_alone line (acts.Show number) table at told body cheap form reply =
    some_alone (find_game number table.games) (λ game. told ≡ show_text game at) body reply
read_alone line (acts.Fen number) table at told body cheap form reply =
    some_alone (find_game number table.games) (λ game. IsFenLine game told) body reply
read_alone line (acts.Pgn number) table at told body cheap form reply =
    none_dear line cheap (dear_pgn line (decimal number) form.spelled)
read_alone line acts.List table at told body cheap form reply = none_dear line cheap (dear_list line form.spelled)

-- what becomes of an act
becomes_alone : (line : List ℕ) (verdict : Verdict) (table after : TableState) (at : ℕ) (name : Option (List ℕ))
    (act : Act) (reply : Reply) (entries : List Entry) → is_dear line ≡ false →
    HasForm (strip_last 13 line) (lines.Act act) →
    Becomes verdict table (record { at = at; who = name; act = act }) reply entries after → string_bytes reply.body ≡ []
becomes_alone line (Refuse refusal) table after at name act reply entries cheap form becomes = becomes.0.alone
becomes_alone line (Enter e) table after at name act reply entries cheap form becomes = elim becomes [
  | inl taken ↦ taken.alone
  | inr (may, refused, nothing) ↦ refused.alone
]
becomes_alone line Read table after at name act reply entries cheap form becomes = elim becomes.0 [
  | inl told ↦
      read_alone line act table (effective table at) reply.line.bytes (string_bytes reply.body) cheap form told
  | inr (body, refused) ↦ refused.alone
]

pub short_answers : LawOfShortAnswers
short_answers line None table after name at answer cheap reads answered = answered.1
short_answers line (Some (lines.Called given)) table after name at answer cheap reads answered = answered.1
short_answers line (Some (lines.Act act)) table after name at answer cheap reads (reply, entries, outcome, is) =
    ap (λ (a : Said). a.body) is
    ∙ becomes_alone line outcome.verdict table after at name act reply entries cheap reads.form outcome.becomes
