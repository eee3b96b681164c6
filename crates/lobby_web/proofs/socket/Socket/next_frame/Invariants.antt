use Rattle.std.proofs.Common.{◌≡◌, ◌++◌, [], length}
use Rattle.lobby_web.specs.Frames.{Run, Runs, texts, replies}
use Rattle.lobby_web.proofs.socket.Socket.next_frame.Given as goal

abbrev pub invariant-loop-self : goal.invariant-loop-self
invariant-loop-self l =
    (frames : Run) × Runs l.fn.self.context l.fn.self.input.items frames l.self.context l.self.input.items × (texts frames ≡ [])
    × (l.self.output.items ≡ l.fn.self.output.items ++ replies frames) × (l.self.is_over ≡ l.fn.self.is_over)

abbrev pub decreases-loop-self : goal.decreases-loop-self
decreases-loop-self l = length l.self.input.items
