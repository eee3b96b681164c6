use Rattle.std.proofs.Common.{◌≡◌, ◌∙◌, ℕ, List, take, ap, subst}
use Rattle.std.specs.Prelude.{IsTrue, ◌↔◌, All}
use Rattle.std.specs.Option.{option_map}
use Rattle.std.specs.Io.Take.{take_remaining}
use Rattle.server_words.proofs.BlankLemmas.{blank_of}
use Rattle.server_words.proofs.journals.is_blank.Goals as goal

pub returns : goal.returns
returns g c =
    let remaining = g.R.Read.remaining in
    blank_of (remaining c.args.reader) (take_remaining remaining c.take.result) c.new-front.result.items
    c.read_to_end.new.buf.items c.are_zeros.result
    (ap (λ (n : ℕ). option_map (λ (xs : List ℕ). take n xs) (remaining c.take.result.inner)) c.take.ensures.limit
    ∙ ap (λ reader. option_map (λ (xs : List ℕ). take 1024 xs) (remaining reader)) c.take.ensures.inner)
    c.new-front.ensures.items c.in_ok-read_to_end.ensures.bytes
    (subst (λ (xs : List ℕ). IsTrue c.are_zeros.result ↔ All (λ (b : ℕ). b ≡ 0) xs) c.deref.ensures.value c.are_zeros.ensures)
