-- Runs of frames grow at their end, and more bytes behind them change nothing.
use Rattle.std.proofs.Common.{ℕ, ◌≡◌, List, [], ◌∷◌, ◌++◌, drop, Ok, refl, sym, ap, ◌∙◌, append_assoc, append-nil}
use Rattle.std.proofs.lemmas.List.{drop-append-le}
use Rattle.websocket.specs.declared.protocol.frame.codec.FrameStatus.TheVariants.{Complete}
use Rattle.websocket.specs.Connection.{Connection, Effect, read_step}
use Rattle.websocket.proofs.StreamLemmas.{TookFrame_from_read, read_step-append}
use Rattle.lobby_web.specs.Frames.{Run, Runs, texts, text_in, replies, reply_bytes}

-- one frame more
pub runs-snoc : (conn after : Connection) (input rest : List ℕ) (frames : Run) (frame : ℕ × Effect) → Runs conn input frames after rest
    → read_step after rest ≡ Ok (Complete frame) → Runs conn input (frames ++ frame ∷ []) frame.1.next (drop frame.0 rest)
runs-snoc conn after input rest [] frame runs read = rw (← runs.0, ← runs.1) (read, (refl, refl))
runs-snoc conn after input rest (first ∷ frames) frame runs read =
    (runs.0, runs-snoc first.1.next after (drop first.0 input) rest frames frame runs.1 read)

-- more bytes behind what came
pub runs-more : (conn after : Connection) (input rest more : List ℕ) (frames : Run) → Runs conn input frames after rest
    → Runs conn (input ++ more) frames after (rest ++ more)
runs-more conn after input rest more [] runs = (runs.0, ap (λ bytes. bytes ++ more) runs.1)
runs-more conn after input rest more (frame ∷ frames) runs =
    let took = TookFrame_from_read conn input frame runs.0 in (
      read_step-append conn input more (λ k. cc (runs.0, k.1)) ∙ runs.0,
      rw (drop-append-le frame.0 input more took.inside) (runs-more frame.1.next after (drop frame.0 input) rest more frames runs.1),
    )

-- one run behind another
pub runs-join : (conn mid after : Connection) (input left rest : List ℕ) (frames more : Run) → Runs conn input frames mid left
    → Runs mid left more after rest → Runs conn input (frames ++ more) after rest
runs-join conn mid after input left rest [] more runs next = rw (← runs.0, ← runs.1) next
runs-join conn mid after input left rest (frame ∷ frames) more runs next =
    (runs.0, runs-join frame.1.next mid after (drop frame.0 input) left rest frames more runs.1 next)

pub texts-append : (frames more : Run) → texts (frames ++ more) ≡ texts frames ++ texts more
texts-append [] more = refl
texts-append (frame ∷ frames) more =
    ap (λ given. text_in frame.1.message ++ given) (texts-append frames more)
    ∙ sym (append_assoc (text_in frame.1.message) (texts frames) (texts more))

pub replies-append : (frames more : Run) → replies (frames ++ more) ≡ replies frames ++ replies more
replies-append [] more = refl
replies-append (frame ∷ frames) more =
    ap (λ bytes. reply_bytes frame.1.reply ++ bytes) (replies-append frames more)
    ∙ sym (append_assoc (reply_bytes frame.1.reply) (replies frames) (replies more))

pub texts-snoc : (frames : Run) (frame : ℕ × Effect) → texts (frames ++ frame ∷ []) ≡ texts frames ++ text_in frame.1.message
texts-snoc frames frame =
    texts-append frames (frame ∷ []) ∙ ap (λ given. texts frames ++ given) (append-nil (text_in frame.1.message))

pub replies-snoc : (frames : Run) (frame : ℕ × Effect) → replies (frames ++ frame ∷ []) ≡ replies frames ++ reply_bytes frame.1.reply
replies-snoc frames frame =
    replies-append frames (frame ∷ []) ∙ ap (λ bytes. replies frames ++ bytes) (append-nil (reply_bytes frame.1.reply))
