-- Worked lists of calls, computed: which lines the turns take, whose they are, and what the texts are.
use Rattle.std.specs.Prelude.{ℕ, ◌≡◌, true, false, List, [], ◌∷◌, ◌++◌, Option, Some, None, map, codes, refl}
use Rattle.std.proofs.Common.{replicate}
use Rattle.chess_line.specs.declared.lines.Line.{Line}
use Rattle.chess_line.specs.declared.lines.Line.TheVariants.{Called}
use Rattle.chess_hub.specs.Session.{Said, farewell}
use Rattle.chess_hub.specs.Turn.{SessionLine, session_line, turn_lines}
use Rattle.chess_hub.specs.Answers.{alone}
use Rattle.chess_hub.specs.Calls.{Call, Connected, Closed, Fed, Turned, Given, is_open, which, given_to}
use Rattle.chess_hub.specs.Sessions.{Merged, waiting_lines, name_from, is_done_in, session_text}

-- text and a line feed
ended : List ℕ → List ℕ
ended text = text ++ 10 ∷ []

-- a line of the merged list
line : ℕ → ℕ → Option Line → Merged
line session at read = record { session = session; at = at; line = read }

-- what a turn takes of the sessions with these numbers
takes : ℕ → List Call → List Merged → List ℕ → List SessionLine
takes most calls merged sids = turn_lines most (map (waiting_lines calls merged) sids)

-- ---- lines cut anywhere among two sessions

two : List Call
two = Connected 1 ∷ Connected 0 ∷ []

-- 0 sends `name ann`, `open white 300 0`; 1 sends `name bob`, `join 1`
pieces : List Call
pieces = Fed 1 (ended (codes "in 1")) ∷ Fed 0 (ended (codes "ite 300 0"))
    ∷ Fed 1 (ended (codes "name bob") ++ codes "jo") ∷ Fed 0 (ended (codes "name ann") ++ codes "open wh") ∷ two

whole_lines : takes 64 pieces [] (0 ∷ 1 ∷ [])
    ≡ session_line 0 (codes "name ann") ∷ session_line 1 (codes "name bob")
    ∷ session_line 0 (codes "open white 300 0") ∷ session_line 1 (codes "join 1") ∷ []
unfolding takes pieces two ended
whole_lines = refl

-- the lines before their last pieces came
first_lines : takes 64 (Fed 1 (ended (codes "name bob") ++ codes "jo") ∷ two) [] (0 ∷ 1 ∷ [])
    ≡ session_line 1 (codes "name bob") ∷ []
unfolding takes two ended
first_lines = refl

-- a turn that may take three, and the turn after it
three_lines : takes 3 pieces [] (0 ∷ 1 ∷ []) ≡ session_line 0 (codes "name ann") ∷ session_line 1 (codes "name bob")
    ∷ session_line 0 (codes "open white 300 0") ∷ []
unfolding takes pieces two ended
three_lines = refl

taken_three : List Merged
taken_three =
    line 1 1000 (Some (Called (codes "ann"))) ∷ line 2 1000 (Some (Called (codes "bob"))) ∷ line 1 1000 None ∷ []

fourth_line : takes 3 (Turned 1000 3 ∷ pieces) taken_three (0 ∷ 1 ∷ []) ≡ session_line 1 (codes "join 1") ∷ []
unfolding takes pieces two ended taken_three line
fourth_line = refl

-- each session has the answers at its own places
said_three : List Said
said_three = alone (codes "ok name ann") ∷ alone (codes "ok name bob") ∷ alone (codes "no 1 BadLine") ∷ []

text_of_first : session_text (Turned 1000 3 ∷ pieces) taken_three said_three 1
    ≡ alone (codes "ok name ann") ∷ alone (codes "no 1 BadLine") ∷ []
unfolding pieces two ended taken_three line said_three
text_of_first = refl

text_of_second : session_text (Turned 1000 3 ∷ pieces) taken_three said_three 2 ≡ alone (codes "ok name bob") ∷ []
unfolding pieces two ended taken_three line said_three
text_of_second = refl

-- ---- names

-- A line has the name that was accepted last before it.
name_before : name_from 1 None [] ≡ None
name_before = refl

name_after : name_from 1 None taken_three ≡ Some (codes "ann")
unfolding taken_three line
name_after = refl

name_again : name_from 1 None (taken_three ++ line 1 1001 (Some (Called (codes "eve"))) ∷ []) ≡ Some (codes "eve")
unfolding taken_three line
name_again = refl

-- another session's name line changes nothing
name_of_other : name_from 2 None (taken_three ++ line 1 1001 (Some (Called (codes "eve"))) ∷ []) ≡ Some (codes "bob")
unfolding taken_three line
name_of_other = refl

-- a `name` line at a moment that no command may have is not accepted
name_late : name_from 1 None (taken_three ++ line 1 4611686018427387904 (Some (Called (codes "eve"))) ∷ [])
    ≡ Some (codes "ann")
unfolding taken_three line
name_late = refl

name_in_time : name_from 1 None (taken_three ++ line 1 4611686018427387903 (Some (Called (codes "eve"))) ∷ [])
    ≡ Some (codes "eve")
unfolding taken_three line
name_in_time = refl

-- ---- a number that is given again

-- Session 1 sent two lines, of which one was taken; its number is then session 3's.
again : List Call
again = Fed 0 (ended (codes "list")) ∷ Connected 0 ∷ Closed 0 ∷ Given 0 (alone (codes "ok name ann"))
    ∷ Turned 1000 1 ∷ Fed 0 (ended (codes "name ann") ++ ended (codes "legal 1")) ∷ two

taken_first : List Merged
taken_first = line 1 1000 (Some (Called (codes "ann"))) ∷ []

which_again : which 0 again ≡ 3
unfolding again two
which_again = refl

which_other : which 1 again ≡ 2
unfolding again two
which_other = refl

-- the second line of session 1 is in no turn
takes_again : takes 64 again taken_first (0 ∷ 1 ∷ []) ≡ session_line 0 (codes "list") ∷ []
unfolding takes again two ended taken_first line
takes_again = refl

-- the new session has no name, no answer, and was given nothing
name_of_new : name_from (which 0 again) None taken_first ≡ None
unfolding again two taken_first line
name_of_new = refl

text_of_new : session_text again taken_first (alone (codes "ok name ann") ∷ []) 3 ≡ []
unfolding again two ended taken_first line
text_of_new = refl

given_new : given_to 3 again ≡ []
unfolding again two
given_new = refl

-- and the one that was closed keeps what it was given
text_of_closed : session_text again taken_first (alone (codes "ok name ann") ∷ []) 1 ≡ alone (codes "ok name ann") ∷ []
unfolding again two ended taken_first line
text_of_closed = refl

given_closed : given_to 1 again ≡ alone (codes "ok name ann") ∷ []
unfolding again two
given_closed = refl

-- between the two none is open
shut : is_open 0 (Closed 0 ∷ two) ≡ false
unfolding two
shut = refl

open_other : is_open 1 (Closed 0 ∷ two) ≡ true
unfolding two
open_other = refl

open_again : is_open 0 again ≡ true
unfolding again two
open_again = refl

-- ---- a line that is too long

-- a whole line, then 256 bytes without a line feed, and a line that comes too late
long : List Call
long = Fed 0 (ended (codes "list") ++ ended (replicate 256 120) ++ ended (codes "list")) ∷ two

takes_before_long : takes 64 long [] (0 ∷ 1 ∷ []) ≡ session_line 0 (codes "list") ∷ []
unfolding takes long two ended
takes_before_long = refl

-- the farewell waits for the line before it
not_yet : session_text long [] [] 1 ≡ []
unfolding long two ended
not_yet = refl

after_long : session_text (Turned 1000 64 ∷ long) (line 1 1000 None ∷ []) (alone (codes "no 1 BadLine") ∷ []) 1
    ≡ alone (codes "no 1 BadLine") ∷ farewell ∷ []
unfolding long two ended line
after_long = refl

-- 255 bytes are not too long, and the other session is not ended
short_enough : is_done_in (Fed 0 (ended (replicate 255 120)) ∷ two) (line 1 1000 None ∷ []) 1 ≡ false
unfolding two ended line
short_enough = refl

other_goes_on : is_done_in long [] 2 ≡ false
unfolding long two ended
other_goes_on = refl

-- 256 bytes in two pieces, before a line feed came
long_in_pieces : session_text (Fed 0 (replicate 56 120) ∷ Fed 0 (replicate 200 120) ∷ two) [] [] 1 ≡ farewell ∷ []
unfolding two
long_in_pieces = refl
