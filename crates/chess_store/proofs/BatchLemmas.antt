-- What a batch that is answered makes of a table.
use Rattle.std.proofs.Common.{◌≡◌, ◌∙◌, ◌+◌, ◌≤◌, ◌&&◌, not, nat_lt, ℕ, Bool, true, false, if◌then◌else◌, Option, Some, None, is_none, List, [], ◌∷◌, ◌++◌, length, refl, sym, ap, subst, inl, inr, arith, cond, append_assoc, ◌<◌, suc, take, drop, get_or, map, add-one, length-append}
use Rattle.std.proofs.lemmas.Bool.{false≢true, false_from_ne_true}
use Rattle.std.proofs.lemmas.List.{append-nil, map-append, length-map}
use Rattle.std.proofs.lemmas.List.Sums.{sum_by-cons}
use Rattle.std.proofs.Math.Seq.{drop-cons, take-suc}
use Rattle.rec_codec.specs.declared.record.Entry.{Entry}
use Rattle.rec_codec.specs.declared.record.Record.{Record}
use Rattle.rec_codec.specs.declared.record.Record.TheVariants as kind
use Rattle.chess_entry.specs.declared.commands.Act.{Act}
use Rattle.chess_entry.specs.declared.commands.Act.TheVariants as act
use Rattle.chess_entry.specs.declared.refusals.Refusal.{Refusal}
use Rattle.chess_entry.specs.declared.refusals.Refusal.TheVariants.{NoName, BadMoment}
use Rattle.chess_entry.specs.declared.commands.Command.{Command}
use Rattle.chess_entry.specs.declared.verdicts.Verdict.{Verdict}
use Rattle.chess_entry.specs.declared.verdicts.Verdict.TheVariants.{Refuse, Enter, Read}
use Rattle.chess_entry.specs.State.{GameState, TableState, find_game}
use Rattle.chess_entry.specs.Parsed.{Parsed}
use Rattle.chess_entry.specs.Follow.{follow}
use Rattle.chess_entry.specs.Verdict.{IsVerdict, is_read, in_game, player_verdict, effective, name_or_none}
use Rattle.chess_entry.specs.Table.{IsEnteredOn, AreEnteredOn, followed}
use Rattle.chess_entry.proofs.MeaningMore.{AreEnteredOn-none, AreEnteredOn-cons, AreEnteredOn-append, followed-append}
use Rattle.chess_answer.specs.declared.reads.Reply.{Reply}
use Rattle.chess_store.specs.Batch.{IsNothing, Becomes, IsOutcome, IsAnswered, AreRecorded, change_count}

-- entries that may come, and the table with them
pub record Come (before : TableState) (entries : List Entry) (after : TableState) : Type 0 where
  pub entered : AreEnteredOn before entries
  pub is : after ≡ followed before entries

nothing_comes : (before : TableState) (entries : List Entry) (after : TableState) → IsNothing before entries after
    → Come before entries after
nothing_comes before entries after nothing = record {
  entered = subst (λ (es : List Entry). AreEnteredOn before es) (sym nothing.none) (AreEnteredOn-none before);
  is = nothing.same ∙ ap (λ (es : List Entry). followed before es) (sym nothing.none);
}

one_comes : (before : TableState) (e : Entry) (entries : List Entry) (after : TableState) → IsEnteredOn before e
    → entries ≡ e ∷ [] → after ≡ follow before e → Come before entries after
one_comes before e entries after may one is_follow = record {
  entered = subst (λ (es : List Entry). AreEnteredOn before es) (sym one)
      (AreEnteredOn-cons before e [] may (AreEnteredOn-none (follow before e)));
  is = is_follow ∙ ap (λ (es : List Entry). followed before es) (sym one);
}

becomes_come : (verdict : Verdict) (before : TableState) (command : Command) (reply : Reply) (entries : List Entry)
    (after : TableState) → ((e : Entry) → verdict ≡ Enter e → IsEnteredOn before e)
    → Becomes verdict before command reply entries after → Come before entries after
becomes_come (Refuse refusal) before command reply entries after may is = nothing_comes before entries after is.1
becomes_come Read before command reply entries after may is = nothing_comes before entries after is.1
becomes_come (Enter e) before command reply entries after may (inl taken) =
    one_comes before e entries after (may e refl) taken.one taken.follows
becomes_come (Enter e) before command reply entries after may (inr none) = nothing_comes before entries after none.2

pub outcome_comes : (before : TableState) (command : Command) (reply : Reply) (entries : List Entry)
    (after : TableState) → IsOutcome before command reply entries after → Come before entries after
outcome_comes before command reply entries after is =
    becomes_come is.verdict before command reply entries after
    (λ e same. record {
      command = command;
      named = is.named;
      entered = subst (λ (v : Verdict). IsVerdict before command v) same is.is;
    }) is.becomes

come_then : (before between after : TableState) (first others entries : List Entry) → Come before first between
    → Come between others after → entries ≡ first ++ others → Come before entries after
come_then before between after first others entries one more whole = record {
  entered = subst (λ (es : List Entry). AreEnteredOn before es) (sym whole)
      (AreEnteredOn-append before first others one.entered
      (subst (λ (t : TableState). AreEnteredOn t others) one.is more.entered));
  is = more.is ∙ ap (λ (t : TableState). followed t others) one.is
      ∙ sym (followed-append before first others)
      ∙ ap (λ (es : List Entry). followed before es) (sym whole);
}

-- The entries of a batch may come at their places, and the table after it is that with them.
pub answered_comes : (commands : List Command) (before : TableState) (replies : List Reply) (entries : List Entry)
    (after : TableState) → IsAnswered before commands replies entries after → Come before entries after
answered_comes [] before [] entries after is = nothing_comes before entries after is
answered_comes [] before (reply ∷ replies) entries after is = absurd is
answered_comes (command ∷ commands) before [] entries after is = absurd is
answered_comes (command ∷ commands) before (reply ∷ replies) entries after is =
    come_then before is.between after is.first is.others entries
    (outcome_comes before command reply is.first is.between is.outcome)
    (answered_comes commands is.between replies is.others after is.rest) is.whole

-- ---- how many entries

abbrev IsNoEntry : Verdict → Type 0
IsNoEntry (Refuse refusal) = Unit {0}
IsNoEntry (Enter e) = ⊥
IsNoEntry Read = Unit {0}

refused_or : (b : Bool) (refusal : Refusal) (v : Verdict) → IsNoEntry v
    → IsNoEntry (if b then Refuse refusal else v)
refused_or true refusal v none = tt
refused_or false refusal v none = none

of_game : (o : Option GameState) → IsNoEntry (in_game (λ _. Read) o)
of_game None = tt
of_game (Some game) = tt

read_none : (table : TableState) (at : ℕ) (name : List ℕ) (parsed : Parsed) (a : Act) → is_read a ≡ true
    → IsNoEntry (player_verdict table at name parsed a)
read_none table at name parsed (act.Show game) is = of_game (find_game game table.games)
read_none table at name parsed (act.Fen game) is = of_game (find_game game table.games)
read_none table at name parsed (act.Pgn game) is = of_game (find_game game table.games)
read_none table at name parsed act.List is = tt
read_none table at name parsed a is = absurd (false≢true is)

-- A read becomes no entry.
pub read_enters_none : (table : TableState) (command : Command) (e : Entry) → IsVerdict table command (Enter e)
    → is_read command.act ≡ false
read_enters_none table command e is =
    let no_entry : is_read command.act ≡ true → ⊥ = λ read.
    subst IsNoEntry (sym is.is)
    (refused_or (nat_lt 4611686018427387903 command.at) BadMoment
    (if not (is_read command.act) && is_none command.who then Refuse NoName
    else player_verdict table (effective table command.at) (name_or_none command.who) is.parsed command.act)
    (refused_or (not (is_read command.act) && is_none command.who) NoName
    (player_verdict table (effective table command.at) (name_or_none command.who) is.parsed command.act)
    (read_none table (effective table command.at) (name_or_none command.who) is.parsed command.act read))) in
    false_from_ne_true (is_read command.act) no_entry

-- The entries of a command are one at most, and none of a read.
becomes_few : (verdict : Verdict) (before : TableState) (command : Command) (reply : Reply) (entries : List Entry)
    (after : TableState) → ((e : Entry) → verdict ≡ Enter e → is_read command.act ≡ false)
    → Becomes verdict before command reply entries after → length entries ≤ change_count (command ∷ [])
becomes_few (Refuse refusal) before command reply entries after act is = omega (arith, ap length is.1.none)
becomes_few Read before command reply entries after act is = omega (arith, ap length is.1.none)
becomes_few (Enter e) before command reply entries after act (inl taken) =
    let one : length entries ≡ 1 = ap length taken.one in
    let counted : cond {A = ℕ} (not (is_read command.act)) 1 0 ≡ 1 =
    ap (λ (b : Bool). cond {A = ℕ} (not b) 1 0) (act e refl) in
    omega arith
becomes_few (Enter e) before command reply entries after act (inr none) = omega (arith, ap length none.2.none)

pub outcome_few : (before : TableState) (command : Command) (reply : Reply) (entries : List Entry)
    (after : TableState) → IsOutcome before command reply entries after
    → length entries ≤ change_count (command ∷ [])
outcome_few before command reply entries after is =
    becomes_few is.verdict before command reply entries after
    (λ e same. read_enters_none before command e (subst (λ (v : Verdict). IsVerdict before command v) same is.is))
    is.becomes

-- each entry is counted
pub followed_counts : (t : TableState) (entries : List Entry)
    → (followed t entries).entries ≡ t.entries + length entries
followed_counts t [] = omega arith
followed_counts t (e ∷ entries) = followed_counts (follow t e) entries ∙ omega arith

pub outcome_counts : (before : TableState) (command : Command) (reply : Reply) (entries : List Entry)
    (after : TableState) → IsOutcome before command reply entries after
    → after.entries ≡ before.entries + length entries
outcome_counts before command reply entries after is =
    ap (λ (t : TableState). t.entries) (outcome_comes before command reply entries after is).is
    ∙ followed_counts before entries

-- ---- one command more

pub answered_more : (commands : List Command) (before : TableState) (replies : List Reply) (entries : List Entry)
    (between : TableState) (command : Command) (reply : Reply) (more : List Entry) (after : TableState)
    → IsAnswered before commands replies entries between → IsOutcome between command reply more after
    → IsAnswered before (commands ++ command ∷ []) (replies ++ reply ∷ []) (entries ++ more) after
answered_more [] before [] entries between command reply more after is outcome = record {
  first = more;
  between = after;
  outcome = subst (λ (t : TableState). IsOutcome t command reply more after) is.same outcome;
  others = [];
  rest = record { none = refl; same = refl };
  whole = ap (λ (es : List Entry). es ++ more) is.none ∙ sym (append-nil more);
}
answered_more [] before (other ∷ replies) entries between command reply more after is outcome = absurd is
answered_more (other ∷ commands) before [] entries between command reply more after is outcome = absurd is
answered_more (other ∷ commands) before (given ∷ replies) entries between command reply more after is outcome = record {
  first = is.first;
  between = is.between;
  outcome = is.outcome;
  others = is.others ++ more;
  rest = answered_more commands is.between replies is.others between command reply more after is.rest outcome;
  whole = ap (λ (es : List Entry). es ++ more) is.whole ∙ append_assoc is.first is.others more;
}

-- the changes of a batch are those of its first command and of the rest
pub change_count-cons : (command : Command) (commands : List Command)
    → change_count (command ∷ commands) ≡ change_count (command ∷ []) + change_count commands
change_count-cons command commands =
    let f : Command → ℕ = λ c. cond {A = ℕ} (not (is_read c.act)) 1 0 in
    omega (arith, sum_by-cons f command commands)

-- the length of records more
pub recorded_length : (old new : List Record) (entries : List Entry) → new ≡ old ++ map kind.Entry entries
    → length new ≡ length old + length entries
recorded_length old new entries is =
    ap length is ∙ omega (arith, length-append old (map kind.Entry entries), length-map entries kind.Entry)

-- a command more of a list, with the records of its entries
pub recorded_more : (before : TableState) (commands : List Command) (i : ℕ) (command : Command)
    (replies : List Reply) (records new : List Record) (between after : TableState) (reply : Reply)
    → i < length commands → command ≡ get_or commands i command
    → AreRecorded [] records (λ es. IsAnswered before (take i commands) replies es between)
    → AreRecorded records new (λ es. IsOutcome between command reply es after)
    → AreRecorded [] new (λ es. IsAnswered before (take (i + 1) commands) (replies ++ reply ∷ []) es after)
recorded_more before commands i command replies records new between after reply within is front one =
    let taken : take (i + 1) commands ≡ take i commands ++ command ∷ [] =
    ap (λ (k : ℕ). take k commands) (add-one i) ∙ take-suc commands i command within
    ∙ ap (λ (x : Command). take i commands ++ x ∷ []) (sym is) in
    record {
      entries = front.entries ++ one.entries;
      appended = one.appended ∙ ap (λ (rs : List Record). rs ++ map kind.Entry one.entries) front.appended
          ∙ sym (map-append kind.Entry front.entries one.entries);
      are = subst (λ (cs : List Command). IsAnswered before cs (replies ++ reply ∷ []) (front.entries ++ one.entries) after)
          (sym taken)
          (answered_more (take i commands) before replies front.entries between command reply one.entries after
          front.are one.are);
    }

-- the changes of the commands from one on
pub changes_from : (commands : List Command) (i : ℕ) (command : Command) → i < length commands
    → command ≡ get_or commands i command
    → change_count (drop i commands) ≡ change_count (command ∷ []) + change_count (drop (i + 1) commands)
changes_from commands i command within is =
    let all : drop i commands ≡ command ∷ drop (i + 1) commands =
    drop-cons commands i command within ∙ ap (λ (x : Command). x ∷ drop (suc i) commands) (sym is)
    ∙ ap (λ (k : ℕ). command ∷ drop k commands) (sym (add-one i)) in
    ap (λ (cs : List Command). change_count cs) all ∙ change_count-cons command (drop (i + 1) commands)
