-- What goes in several writes.
use Rattle.std.proofs.Common.{ℕ, List, ◌++◌, Option, ◌∙◌, sym, ap, append_assoc}
use Rattle.std.proofs.KnownBytes.{Appends-trans}
use Rattle.chess_sockets.specs.Sending.{HandsOn}

-- more waits behind what was written
pub hands-behind : (b c : Option (List ℕ)) (old new more : List ℕ) → HandsOn b c old new →
    HandsOn b c (old ++ more) (new ++ more)
hands-behind b c old new more h = record {
  front = h.front;
  appended = h.appended;
  split = ap (λ l. l ++ more) h.split ∙ append_assoc h.front new more;
}

-- one write after the other
pub hands-trans : (b c d : Option (List ℕ)) (old mid new : List ℕ) → HandsOn b c old mid → HandsOn c d mid new →
    HandsOn b d old new
hands-trans b c d old mid new h k = record {
  front = h.front ++ k.front;
  appended = Appends-trans b c d h.front k.front h.appended k.appended;
  split = h.split ∙ ap (λ l. h.front ++ l) k.split ∙ sym (append_assoc h.front k.front new);
}
