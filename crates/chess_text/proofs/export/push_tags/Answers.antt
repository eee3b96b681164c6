use Rattle.std.proofs.Common.{◌∙◌, ◌++◌, ◌∷◌, [], List, ℕ, ap}
use Rattle.std.specs.Prelude.{codes}
use Rattle.std.specs.Option.{option_copied}
use Rattle.std.specs.String.{string_bytes}
use Rattle.std.proofs.lemmas.Result.{on_ok_weaker}
use Rattle.chess_text.specs.Pgn.{Tag, tag, tag_text, tags_text, roster, article_tags, termination_text, time_control_text}
use Rattle.chess_text.proofs.TagLemmas.{tag_then, tags_then, regroup_two}
use Rattle.chess_text.proofs.export.push_tags.Goals as goal

pub returns : goal.returns
returns c =
    let game = c.args.game.now in
    let old : List ℕ = string_bytes c.args.text.now in
    let first : List Tag = roster (option_copied game.white) (option_copied game.black) game.ending in
    let article : List Tag = article_tags game.ending in
    let set_up = c.in_ok-push_set_up.ensures in
    let t : Tag = tag (codes "Termination") (termination_text game.ending) in
    let u : Tag = tag (codes "TimeControl") (time_control_text game.initial game.increment game.period) in
    let one = tags_then old (string_bytes c.push_roster.new.text) (string_bytes c.push_article.new.text) first article
    c.in_ok-push_roster.ensures c.in_ok-push_article.ensures in
    let two = tags_then old (string_bytes c.push_article.new.text) (string_bytes c.push_set_up.new.text)
    (first ++ article) set_up.tags one set_up.written in
    let three = tag_then old (string_bytes c.push_set_up.new.text) (string_bytes c.push_tag.new.text)
    ((first ++ article) ++ set_up.tags) t two (c.in_ok-push_tag.ensures
    ∙ ap (λ v. string_bytes c.push_set_up.new.text ++ tag_text (tag (codes "Termination") v)) c.termination.ensures) in
    on_ok_weaker c.push_tag-2.result (λ last. record {
      set_up = set_up.tags;
      are = set_up.are;
      put = tag_then old (string_bytes c.push_tag.new.text) (string_bytes c.push_tag-2.new.text)
          (((first ++ article) ++ set_up.tags) ++ (t ∷ [])) u three (last
          ∙ ap (λ v. string_bytes c.push_tag.new.text ++ tag_text (tag (codes "TimeControl") v))
          (c.as_str.ensures.value ∙ c.time_control-control.ensures))
          ∙ ap (λ tags. old ++ tags_text tags) (regroup_two first article set_up.tags t u);
    }) c.push_tag-2.ensures
