use Rattle.std.proofs.Common.{◌≡◌, ◌++◌, map, drop}
use Rattle.night_standings.specs.Breaks as spec
use Rattle.night_standings.proofs.breaks.round_in.Given as goal

abbrev pub invariant-loop-meeting : goal.invariant-loop-meeting
invariant-loop-meeting l =
    l.seen.items ++ map (spec.meeting_in l.system) (drop l.meeting-index l.round) ≡ map (spec.meeting_in l.system) l.round
