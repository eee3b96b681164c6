-- Lines that are taken, one after the other.
use Rattle.std.proofs.Common.{◌≡◌, ◌<◌, ◌+◌, ℕ, false, List, [], ◌∷◌, ◌++◌, length, get_or, take, drop, take-append-drop, sym, ap, ◌∙◌, append_assoc, add-one}
use Rattle.std.specs.Prelude.{IsUtf8}
use Rattle.std.proofs.Math.Seq.{drop-cons}
use Rattle.text_lines.specs.Lines.{HasNoFeed}
use Rattle.lobby_desk.specs.Events.{Heard}
use Rattle.lobby_talk.specs.declared.talk.Talk.{Talk}
use Rattle.lobby_talk.specs.Talking.{Moves}
use Rattle.lobby_talk.specs.Lines.{bytes_of, AreTaken, IsLeft}

-- a line feed in bytes
pub cut_at : (bytes : List ℕ) (at : ℕ) → at < length bytes → get_or bytes at 0 ≡ 10 →
    bytes ≡ take at bytes ++ 10 ∷ drop (at + 1) bytes
cut_at bytes at lt feed =
    sym (take-append-drop at bytes) ∙ ap (λ (l : List ℕ). take at bytes ++ l)
    (drop-cons bytes at 0 lt ∙ (ap (λ (n : ℕ). get_or bytes at 0 ∷ drop n bytes) (sym (add-one at))
    ∙ ap (λ (b : ℕ). b ∷ drop (at + 1) bytes) feed))

pub taken_more : (bytes rest line next : List ℕ) (s t u : Talk) → AreTaken bytes rest s t → rest ≡ line ++ 10 ∷ next →
    HasNoFeed line → Moves t (Heard line) u → AreTaken bytes next s u
taken_more bytes rest line next s t u so_far cut whole heard = record {
  lines = line ∷ so_far.lines;
  cut = so_far.cut ∙ (ap (λ (r : List ℕ). bytes_of so_far.lines ++ r) cut ∙ sym (append_assoc (bytes_of so_far.lines) (line ++ 10 ∷ []) next
      ∙ ap (λ (r : List ℕ). bytes_of so_far.lines ++ r) (append_assoc line (10 ∷ []) next)));
  heard = (t, so_far.heard, whole, heard);
}

-- a line that is no text stands behind the lines that were told
pub left_at : (bytes : List ℕ) (at : ℕ) → at < length bytes → get_or bytes at 0 ≡ 10 → HasNoFeed (take at bytes) →
    ¬ IsUtf8 (take at bytes) → IsLeft false bytes
left_at bytes at lt feed none no_text = (
  take at bytes,
  drop (at + 1) bytes,
  cut_at bytes at lt feed ∙ sym (append_assoc (take at bytes) (10 ∷ []) (drop (at + 1) bytes)),
  none,
  no_text,
)
