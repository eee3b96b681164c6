use Rattle.std.proofs.Common.{◌∙◌, ◌++◌, ◌∷◌, [], List, ℕ, ap}
use Rattle.std.specs.Prelude.{codes}
use Rattle.std.specs.Option.{option_copied}
use Rattle.std.specs.String.{string_bytes}
use Rattle.std.proofs.lemmas.Result.{on_ok_weaker}
use Rattle.chess_text.specs.Pgn.{Tag, tag, tag_text, player_text, result_text}
use Rattle.chess_text.proofs.TagLemmas.{no_tags, tag_then}
use Rattle.chess_text.proofs.export.push_roster.Goals as goal

pub returns : goal.returns
returns c =
    let old : List ℕ = string_bytes c.args.text.now in
    let a : Tag = tag (codes "Event") (codes "?") in
    let b : Tag = tag (codes "Site") (codes "?") in
    let d : Tag = tag (codes "Date") (codes "????.??.??") in
    let e : Tag = tag (codes "Round") (codes "?") in
    let f : Tag = tag (codes "White") (player_text (option_copied c.args.white)) in
    let g : Tag = tag (codes "Black") (player_text (option_copied c.args.black)) in
    let h : Tag = tag (codes "Result") (result_text c.args.ending) in
    let one = tag_then old old (string_bytes c.push_tag.new.text) [] a (no_tags old) c.in_ok-push_tag.ensures in
    let two = tag_then old (string_bytes c.push_tag.new.text) (string_bytes c.push_tag-2.new.text) (a ∷ []) b one
    c.in_ok-push_tag-2.ensures in
    let three = tag_then old (string_bytes c.push_tag-2.new.text) (string_bytes c.push_tag-3.new.text) (a ∷ b ∷ []) d two
    c.in_ok-push_tag-3.ensures in
    let four = tag_then old (string_bytes c.push_tag-3.new.text) (string_bytes c.push_tag-4.new.text) (a ∷ b ∷ d ∷ []) e
    three c.in_ok-push_tag-4.ensures in
    let five = tag_then old (string_bytes c.push_tag-4.new.text) (string_bytes c.push_tag-5.new.text) (a ∷ b ∷ d ∷ e ∷ [])
    f four (c.in_ok-push_tag-5.ensures
    ∙ ap (λ v. string_bytes c.push_tag-4.new.text ++ tag_text (tag (codes "White") v)) c.player.ensures) in
    let six = tag_then old (string_bytes c.push_tag-5.new.text) (string_bytes c.push_tag-6.new.text)
    (a ∷ b ∷ d ∷ e ∷ f ∷ []) g five (c.in_ok-push_tag-6.ensures
    ∙ ap (λ v. string_bytes c.push_tag-5.new.text ++ tag_text (tag (codes "Black") v)) c.player-2.ensures) in
    on_ok_weaker c.push_tag-7.result (λ last. tag_then old (string_bytes c.push_tag-6.new.text)
    (string_bytes c.push_tag-7.new.text) (a ∷ b ∷ d ∷ e ∷ f ∷ g ∷ []) h six (last
    ∙ ap (λ v. string_bytes c.push_tag-6.new.text ++ tag_text (tag (codes "Result") v)) c.result_code.ensures))
    c.push_tag-7.ensures
