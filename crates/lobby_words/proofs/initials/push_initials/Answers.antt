use Rattle.std.proofs.Common.{ℕ, ◌==◌, List, ◌++◌, chars, sym, ap, ◌∙◌, append-nil, append_assoc}
use Rattle.std.proofs.lemmas.List.{nil_from_length}
use Rattle.std.proofs.lemmas.Str.{chars-nil, chars_past_char, IsUtf8-past_char}
use Rattle.std.specs.Str.Iter.{chars_rest}
use Rattle.std.specs.String.{string_bytes}
use Rattle.lobby_words.specs.Initials.{initial_at, initials_from}
use Rattle.lobby_words.proofs.initials.push_initials.Goals as goal

pub loop-c-preserved : goal.loop-c-preserved
loop-c-preserved c =
    let step = c.in-Some.ensures.steps.0 in
    let begins = c.loop-c.begins in
    let text = string_bytes c.loop-c.text in
    let later = initials_from (c.in-Some.c == 32) (chars (chars_rest c.next.new.self)) in (
      IsUtf8-past_char _ _ _ c.loop-c.invariant.0 step,
      ap (λ (t : List ℕ). t ++ later) c.in_ok-push_initial.ensures
          ∙ (append_assoc text (initial_at begins c.in-Some.c) later
          ∙ (ap (λ (cs : List ℕ). text ++ initials_from begins cs) (sym (chars_past_char _ _ _ c.loop-c.invariant.0 step))
          ∙ c.loop-c.invariant.1)),
    )

pub returns : goal.returns
returns c =
    let begins = c.loop-c.begins in
    let text = string_bytes c.loop-c.text in
    let none = ap chars (nil_from_length _ c.in-None.ensures.steps.0.0) ∙ chars-nil in
    sym (append-nil text) ∙ (ap (λ (cs : List ℕ). text ++ initials_from begins cs) (sym none) ∙ c.loop-c.invariant.1)
