use Rattle.std.proofs.Common.{◌≡◌, ◌∙◌, ◌++◌, List, ℕ, [], ◌∷◌, ap, sym, refl, append-nil, append_assoc}
use Rattle.std.specs.Prelude.{codes}
use Rattle.std.specs.String.{string_bytes}
use Rattle.std.proofs.lemmas.Bool.{false≢true}
use Rattle.std.proofs.lemmas.Slice.Eq.{bytes_eq-Decides}
use Rattle.chess_board.specs.Initial.{initial}
use Rattle.chess_notation.specs.Fen.{fen_of}
use Rattle.chess_text.specs.Pgn.{tag, tag_text}
use Rattle.chess_fen.proofs.Faults.{fen_of-injective}
use Rattle.chess_text.proofs.tags.push_set_up.Goals as goal

pub returns-then-eq : goal.returns-then-eq
returns-then-eq c =
    let start = c.args.start.now in
    let first : c.as_str.result.now ≡ fen_of start = c.as_str.ensures.value ∙ c.fen_write-fen.ensures.text in
    let second : c.as_str-2.result.now ≡ fen_of c.initial-initial.result =
    c.as_str-2.ensures.value ∙ c.fen_write.ensures.text in
    let texts : c.as_str.result.now ≡ c.as_str-2.result.now =
    (bytes_eq-Decides c.as_str.result.now c.as_str-2.result.now).0 (sym c.eq.ensures ∙ c.if-eq.true) in
    let same : start ≡ initial =
    fen_of-injective start c.initial-initial.result c.rights-valid.ensures.valid c.initial-initial.ensures.valid
    (sym first ∙ (texts ∙ second)) ∙ c.initial-initial.ensures.initial in
    record {
      tags = [];
      are = record { usual = λ _. refl; other = λ other. absurd (other same) };
      written = sym (append-nil (string_bytes c.args.text.now));
    }

pub returns : goal.returns
returns c =
    let start = c.args.start.now in
    let old : List ℕ = string_bytes c.args.text.now in
    let first : c.as_str.result.now ≡ fen_of start = c.as_str.ensures.value ∙ c.fen_write-fen.ensures.text in
    let second : c.as_str-2.result.now ≡ fen_of c.initial-initial.result =
    c.as_str-2.ensures.value ∙ c.fen_write.ensures.text in
    let third : c.as_str-3.result.now ≡ fen_of start = c.as_str-3.ensures.value ∙ c.fen_write-fen.ensures.text in
    let fen : List ℕ = tag_text (tag (codes "FEN") (fen_of start)) in
    let set_up : List ℕ = tag_text (tag (codes "SetUp") (codes "1")) in
    let wrote : string_bytes c.push_tag.new.text ≡ old ++ fen =
    c.in_ok-push_tag.ensures ∙ ap (λ v. old ++ tag_text (tag (codes "FEN") v)) third in
    record {
      tags = tag (codes "FEN") (fen_of start) ∷ tag (codes "SetUp") (codes "1") ∷ [];
      are = record {
        usual = λ e. absurd (false≢true (sym c.if-eq.false ∙ (c.eq.ensures
            ∙ (bytes_eq-Decides c.as_str.result.now c.as_str-2.result.now).1
            (first ∙ (ap fen_of (e ∙ sym c.initial-initial.ensures.initial) ∙ sym second)))));
        other = λ _. refl;
      };
      written = c.in_ok-push_tag-2.ensures ∙ (ap (λ t. t ++ set_up) wrote
          ∙ (append_assoc old fen set_up ∙ ap (λ t. old ++ (fen ++ t)) (sym (append-nil set_up))));
    }
