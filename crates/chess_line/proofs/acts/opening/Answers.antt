use Rattle.std.proofs.Common.{◌≡◌, ℕ, Option, Some, None, List, ◌∷◌, decimal, ap, sym, ◌∙◌, arith}
use Rattle.std.specs.List.{join_with_byte}
use Rattle.std.specs.Prelude.{option_map}
use Rattle.std.proofs.lemmas.Str.Pattern.{split_after}
use Rattle.chess_bits.specs.declared.men.Colour.{Colour}
use Rattle.chess_entry.specs.declared.commands.Act.{Act}
use Rattle.chess_entry.specs.declared.commands.Act.TheVariants as acts
use Rattle.chess_entry.specs.Parsed.{bytes_of}
use Rattle.chess_entry.specs.Words.{colour_word}
use Rattle.chess_line.specs.Fields.{times_text, optional}
use Rattle.chess_line.specs.Line.{shown_act}
use Rattle.chess_line.specs.Text.{shown}
use Rattle.chess_line.specs.Cut.{rest_of}
use Rattle.chess_line.proofs.Cuts.{SameCut, same_cut, same_pair, decimal_without}
use Rattle.chess_line.proofs.Cases.{Opening, opening_after, colour_without, times_without, optional_joined}
use Rattle.chess_line.proofs.acts.opening.Goals.{After-cut_word, In_ok-colour, In_ok-times}
use Rattle.chess_line.proofs.acts.opening.Goals as goal

-- what follows the colour, and what follows the times
abbrev after_colour : {rest : List ℕ} {act : Act} → Opening rest act → List ℕ
after_colour o = join_with_byte 32 (times_text o.initial o.period ∷ decimal o.increment ∷ optional o.fen)

abbrev after_times : {rest : List ℕ} {act : Act} → Opening rest act → List ℕ
after_times o = join_with_byte 32 (decimal o.increment ∷ optional o.fen)

-- where the text is cut: at the colour, at the times, and at the increment
colour_cut : (c : In_ok-colour) (act : Act) (o : Opening c.args.rest.now act) →
    (c.in_ok-colour.colour.now ≡ colour_word o.colour) × (c.in_ok-colour.rest.now ≡ after_colour o)
colour_cut c act o =
    split_after 32 c.args.rest.now (colour_word o.colour) (after_colour o)
    (Some (c.in_ok-colour.colour, c.in_ok-colour.rest)) c.in_ok-colour.ensures.cases (omega arith) o.spelled
    (colour_without o.colour)

times_cut : (c : In_ok-times) (act : Act) (o : Opening c.args.rest.now act) → c.in_ok-colour.rest.now ≡ after_colour o →
    (c.in_ok-times.times.now ≡ times_text o.initial o.period) × (c.in_ok-times.rest.now ≡ after_times o)
times_cut c act o rest =
    split_after 32 c.in_ok-colour.rest.now (times_text o.initial o.period) (after_times o)
    (Some (c.in_ok-times.times, c.in_ok-times.rest)) c.in_ok-times.ensures.cases (omega arith) rest
    (times_without o.initial o.period o.times)

increment_cut : (c : After-cut_word) (act : Act) (o : Opening c.args.rest.now act) →
    c.in_ok-times.rest.now ≡ after_times o →
    SameCut c.cut_word.result.0.now (decimal o.increment) (rest_of c.cut_word.result.1) (bytes_of o.fen)
increment_cut c act o rest =
    same_cut c.cut_word.result.0.now (decimal o.increment) (rest_of c.cut_word.result.1) (bytes_of o.fen)
    c.cut_word.ensures.unspaced
    (decimal_without 32 o.increment (omega arith) o.number)
    (sym c.cut_word.ensures.joined ∙ (rest ∙ optional_joined (decimal o.increment) o.fen))

pub returns-in_err-times-clause-every : goal.returns-in_err-times-clause-every
returns-in_err-times-clause-every c = λ act h.
    let o = opening_after c.args.rest.now act h in
    let first = colour_cut (goal.at.returns-in_err-times-clause-every c).In_ok-colour act o in
    absurd (split_after 32 c.in_ok-colour.rest.now (times_text o.initial o.period) (after_times o) None
    c.in_err-times.ensures.cases (omega arith) first.1 (times_without o.initial o.period o.times))

pub returns-in_err-initial-clause-every : goal.returns-in_err-initial-clause-every
returns-in_err-initial-clause-every c = λ act h.
    let o = opening_after c.args.rest.now act h in
    let at = goal.at.returns-in_err-initial-clause-every c in
    let first = colour_cut at.In_ok-colour act o in
    let second = times_cut at.In_ok-times act o first.1 in
    let no : ◌≡◌ {A = Option (ℕ × Option (ℕ × ℕ))} None (Some (o.initial, o.period)) =
    c.in_err-initial.ensures.every o.initial o.period o.times second.0 in
    absurd (cc)

pub returns-in_err-increment-clause-every : goal.returns-in_err-increment-clause-every
returns-in_err-increment-clause-every c = λ act h.
    let o = opening_after c.args.rest.now act h in
    let at = goal.at.returns-in_err-increment-clause-every c in
    let first = colour_cut at.In_ok-colour act o in
    let second = times_cut at.In_ok-times act o first.1 in
    let parts = increment_cut at.After-cut_word act o second.1 in
    let no : ◌≡◌ {A = Option ℕ} None (Some o.increment) = c.in_err-increment.ensures.every o.increment o.number parts.front in
    absurd (cc)

pub returns-in_err-fen-clause-every : goal.returns-in_err-fen-clause-every
returns-in_err-fen-clause-every c = λ act h.
    let o = opening_after c.args.rest.now act h in
    let at = goal.at.returns-in_err-fen-clause-every c in
    let first = colour_cut at.In_ok-colour act o in
    let second = times_cut at.In_ok-times act o first.1 in
    let parts = increment_cut at.After-cut_word act o second.1 in
    absurd (c.in_err-fen.ensures.every o.fen o.text parts.rest)

pub returns-clause-every : goal.returns-clause-every
returns-clause-every c = λ act h.
    let o = opening_after c.args.rest.now act h in
    let at = goal.at.returns-clause-every c in
    let first = colour_cut at.In_ok-colour act o in
    let second = times_cut at.In_ok-times act o first.1 in
    let parts = increment_cut at.After-cut_word act o second.1 in
    let colours : ◌≡◌ {A = Option Colour} (Some c.in_ok-colour-2.colour) (Some o.colour) =
    c.in_ok-colour-2.ensures.every o.colour first.0 in
    let colour : c.in_ok-colour-2.colour ≡ o.colour = cc in
    let times = same_pair c.in_ok-initial.initial o.initial c.in_ok-initial.period o.period
    (c.in_ok-initial.ensures.every o.initial o.period o.times second.0) in
    let numbers : ◌≡◌ {A = Option ℕ} (Some c.in_ok-increment.increment) (Some o.increment) =
    c.in_ok-increment.ensures.every o.increment o.number parts.front in
    let number : c.in_ok-increment.increment ≡ o.increment = cc in
    let fen : option_map shown c.in_ok-fen.fen ≡ option_map shown o.fen = c.in_ok-fen.ensures.every o.fen o.text parts.rest in
    let fens = option_map shown o.fen in
    ap shown_act o.is
    ∙ (ap (λ x. acts.NewGame x o.initial o.increment fens o.period) (sym colour)
    ∙ (ap (λ x. acts.NewGame c.in_ok-colour-2.colour x o.increment fens o.period) (sym times.first)
    ∙ (ap (λ x. acts.NewGame c.in_ok-colour-2.colour c.in_ok-initial.initial x fens o.period) (sym number)
    ∙ (ap (λ x. acts.NewGame c.in_ok-colour-2.colour c.in_ok-initial.initial c.in_ok-increment.increment x o.period) (sym fen)
    ∙ ap (λ x. acts.NewGame c.in_ok-colour-2.colour c.in_ok-initial.initial c.in_ok-increment.increment
    (option_map shown c.in_ok-fen.fen) x) (sym times.second)))))
