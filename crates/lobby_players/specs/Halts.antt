-- What an arbiter has halted, entries and all clocks, what he announces, and whether there is room for the log.
use Rattle.std.specs.Prelude.{ℕ, Bool, true, false, not, ◌&&◌, ◌||◌, nat_le, List, [], ◌∷◌, ◌++◌, length, codes}
use Rattle.std.specs.Prelude.{Option, None, Some, if◌then◌else◌}
use Rattle.std.specs.String.{string_bytes}
use Rattle.lobby_words.specs.declared.planning.Plan.{Plan}
use Rattle.lobby_words.specs.declared.planning.Plan.TheVariants as plans
use Rattle.lobby_words.specs.declared.refusals.Refusal.{Refusal}
use Rattle.lobby_words.specs.declared.refusals.Refusal.TheVariants as refusals
use Rattle.lobby_words.specs.declared.words.Call.TheVariants as calls
use Rattle.lobby_words.specs.Words.{rest_of, as_line, is_decision, is_of_clocks, is_pair}
use Rattle.lobby_words.specs.Waiting.{opens_game, joins_game}
use Rattle.lobby_players.specs.declared.halts.Halts.{Halts}
use Rattle.lobby_players.specs.declared.halts.Finding.{Finding}
use Rattle.lobby_players.specs.declared.halts.Finding.TheVariants as findings

-- whether entries are paused, whether clocks can be stopped, and the reason for which all are: none where they run;
-- what is announced, if anything is; and whether there is no room for the log
pub record Halted : Type 0 where
  pub paused : Bool
  pub can_stop : Bool
  pub reason : List ℕ
  pub announced : List ℕ
  pub full : Bool

abbrev pub halted : Halts → Halted
halted halts = record {
  paused = halts.is_paused;
  can_stop = halts.can_stop;
  reason = string_bytes halts.reason;
  announced = string_bytes halts.announced;
  full = halts.is_full;
}

abbrev pub is_stopped : Halted → Bool
is_stopped halts = nat_le 1 (length halts.reason)

-- after the plan for a message
abbrev pub paused_after : Plan → Bool → Bool
paused_after plans.Pause before = true
paused_after plans.Resume before = false
paused_after _ before = before

abbrev pub reason_after : Plan → List ℕ → List ℕ → List ℕ
reason_after (plans.Call calls.StopClocks) text before = as_line text
reason_after (plans.Call calls.StartClocks) text before = []
reason_after _ text before = before

abbrev pub announced_after : Plan → List ℕ → List ℕ → List ℕ
announced_after (plans.Call calls.Announce) text before = rest_of text
announced_after _ text before = before

abbrev pub halted_after : Plan → List ℕ → Halted → Halted
halted_after plan text before = record {
  paused = paused_after plan before.paused;
  can_stop = before.can_stop;
  reason = reason_after plan text before.reason;
  announced = announced_after plan text before.announced;
  full = before.full;
}

-- behind what is found
abbrev pub halted_found : Finding → Halted → Halted
halted_found (findings.LogFull is_full) before = record before { full = is_full }
halted_found (findings.Clocks reason) before = record before { reason = string_bytes reason }

-- what everybody is told of it
abbrev pub full_line : Bool → List ℕ
full_line true = codes "log full\n"
full_line false = codes "log goes on\n"

abbrev pub with_reason : List ℕ → List ℕ → List ℕ → List ℕ
with_reason front reason none = if nat_le 1 (length reason) then front ++ reason ++ codes "\n" else none

abbrev pub found_line : Finding → List ℕ
found_line (findings.LogFull is_full) = full_line is_full
found_line (findings.Clocks reason) = with_reason (codes "clocks stopped ") (string_bytes reason) (codes "clocks run\n")

-- What the log is told of it, before everybody is told: that clocks were stopped by hand, or have to run, with `-` in
-- the place of an arbiter's name. Where it is full it has lines of its own.
abbrev pub hand_text : List ℕ → List ℕ
hand_text reason = with_reason (codes "clocks by - stop clocks ") reason (codes "clocks by - start clocks\n")

abbrev pub found_texts : Finding → List (List ℕ)
found_texts (findings.LogFull is_full) = []
found_texts (findings.Clocks reason) = hand_text (string_bytes reason) ∷ []

-- Whether a message begins no game now, but an arbiter's. While entries are paused, and while there is no room for the
-- log, no game is opened, and no two agree on one; while there is none, no game that waits is joined either.
abbrev pub shuts : Halted → List ℕ → Bool
shuts halts text =
    ((opens_game text || is_pair text) && (halts.paused || halts.full)) || (joins_game text && halts.full)

-- While all clocks are stopped nobody acts but an arbiter.
abbrev pub stop_bar : Halted → Bool → Option Refusal
stop_bar halts is_arbiter = if is_stopped halts && not is_arbiter then Some refusals.ClocksStopped else None

-- Nothing is done of a decision that has not been put to those of its round, or of a message that asks for the clocks,
-- where none can be stopped.
abbrev pub halts_bar : Halted → Bool → Bool → List ℕ → Option Refusal
halts_bar halts put is_arbiter text =
    if is_decision text && not put then Some refusals.NotDecided
    else (if is_of_clocks text && not halts.can_stop then Some refusals.NoClocks else stop_bar halts is_arbiter)

-- the line that tells that all clocks are stopped, and why; none where they run
abbrev pub line_if : List ℕ → List ℕ → List ℕ
line_if front what = if nat_le 1 (length what) then front ++ what ++ codes "\n" else []

abbrev pub stopped_line : Halted → List ℕ
stopped_line halts = line_if (codes "clocks stopped ") halts.reason

-- the line that tells what is announced; none where nothing is
abbrev pub announced_line : Halted → List ℕ
announced_line halts = line_if (codes "announced ") halts.announced

-- the line that tells that there is no room for the log; none where there is
abbrev pub full_word : Bool → List ℕ
full_word true = codes "full"
full_word false = []

abbrev pub log_line : Halted → List ℕ
log_line halts = line_if (codes "log ") (full_word halts.full)

-- what who comes is told of all that, behind a text
abbrev pub told_behind : List ℕ → Halted → List ℕ
told_behind text halts = ((text ++ stopped_line halts) ++ announced_line halts) ++ log_line halts
