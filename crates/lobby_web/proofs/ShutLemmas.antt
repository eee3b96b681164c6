-- A socket on which nothing more may be said stays so.
use Rattle.std.proofs.Common.{ℕ, ◌≡◌, inl, inr, List, [], ◌∷◌, drop, Option, None, Some, Ok, Err, true, false, not, ◌&&◌, sym, ap, ◌∙◌}
use Rattle.std.proofs.lemmas.Bool.{cases_Bool, both_ways}
use Rattle.websocket.specs.Content.{Content}
use Rattle.websocket.specs.Connection.{Connection, can_write}
use Rattle.lobby_web.specs.declared.socket.Socket.{Socket}
use Rattle.lobby_web.specs.declared.socket.Heard.TheVariants.{Opened, Text as Words}
use Rattle.lobby_web.specs.declared.socket.Unsaid.{Unsaid}
use Rattle.lobby_web.specs.declared.socket.Unsaid.TheVariants.{NotOpen, NotText, Slow, Memory}
use Rattle.lobby_web.specs.Frames.{Run, Runs}
use Rattle.lobby_web.specs.Talking.{Gives, may_say}
use Rattle.lobby_web.specs.Happening.{SocketStep, came, asked, said, wrote, Does}
use Rattle.lobby_web.proofs.FrameLemmas.{next-shut}

-- ---- what frames do

runs-shut : (conn after : Connection) (input rest : List ℕ) (frames : Run) → Runs conn input frames after rest
    → can_write conn.state ≡ false → can_write after.state ≡ false
runs-shut conn after input rest [] runs shut = ap (λ (c : Connection). can_write c.state) runs.0 ∙ shut
runs-shut conn after input rest (frame ∷ frames) runs shut =
    runs-shut frame.1.next after (drop frame.0 input) rest frames runs.1 (next-shut conn input frame runs.0 shut)

-- ---- a socket

over-shut : (s : Socket) → s.is_over ≡ true → may_say s ≡ false
over-shut s over = ap (λ b. not b && can_write s.context.state) over

kept-shut : (old new : Socket) → new.context ≡ old.context → new.is_over ≡ old.is_over → may_say old ≡ false → may_say new ≡ false
kept-shut old new state over shut =
    ap (λ (c : Connection). not new.is_over && can_write c.state) state ∙ ap (λ b. not b && can_write old.context.state) over ∙ shut

still-shut : (s : Socket) → s.is_over ≡ false → may_say s ≡ false → can_write s.context.state ≡ false
still-shut s still shut = sym (ap (λ b. not b && can_write s.context.state) still) ∙ shut

gives-shut : (old new : Socket) (words : Option (List ℕ)) → Gives old new words → may_say old ≡ false → may_say new ≡ false
gives-shut old new words gives shut =
    elim (cases_Bool old.is_over) [
      | inl was ↦ over-shut new ((gives.ended was).1.3 ∙ was)
      | inr was ↦
          elim (cases_Bool new.is_over) [
            | inl now ↦ over-shut new now
            | inr now ↦
                ap (λ b. not b && can_write new.context.state) now
                ∙ ap (λ (c : Connection). can_write c.state) (gives.stands now).0
                ∙ runs-shut old.context gives.conn old.input.items gives.rest gives.frames gives.runs (still-shut old was shut)
          ]
    ]

-- where nothing may be said, nothing may be said later
pub stays-shut : (event : SocketStep) (old new : Socket) → Does event old new → may_say old ≡ false → may_say new ≡ false
stays-shut (came bytes) old new does shut =
    elim does.1 [
      | inl over ↦ over-shut new over
      | inr taken ↦ kept-shut old new taken.1 taken.3 shut
    ]
stays-shut (asked None) old new does shut = gives-shut old new None does.1 shut
stays-shut (asked (Some Opened)) old new does shut = kept-shut old new does.1.0 does.1.3 shut
stays-shut (asked (Some (Words found))) old new does shut = gives-shut old new (Some found.items) does.1 shut
stays-shut (said content (Ok x)) old new does shut = absurd (both_ways (may_say old) shut does.0)
stays-shut (said content (Err NotOpen)) old new does shut = kept-shut old new does.1.0 does.1.3 shut
stays-shut (said content (Err NotText)) old new does shut = absurd does
stays-shut (said content (Err Slow)) old new does shut = over-shut new does.2
stays-shut (said content (Err Memory)) old new does shut = over-shut new does.1
stays-shut (wrote bytes) old new does shut = kept-shut old new does.1.0 does.1.2 shut

-- what was to be said and was not leaves it shut
pub unsaid-shut : (content : Content) (old new : Socket) (why : Unsaid) → Does (said content (Err why)) old new → may_say new ≡ false
unsaid-shut content old new NotOpen does = kept-shut old new does.1.0 does.1.3 does.0
unsaid-shut content old new NotText does = absurd does
unsaid-shut content old new Slow does = over-shut new does.2
unsaid-shut content old new Memory does = over-shut new does.1
