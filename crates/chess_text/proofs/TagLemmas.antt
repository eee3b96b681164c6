-- Tags that are written one after the other, and that a game has one PGN.
use Rattle.std.proofs.Common.{◌≡◌, ◌≢◌, ℕ, List, [], ◌∷◌, ◌++◌, refl, ap, ◌∙◌, sym, inl, inr, append_assoc, append-nil}
use Rattle.std.specs.Str.{bytes_eq}
use Rattle.std.proofs.lemmas.Bool.{cases_Bool, false≢true}
use Rattle.std.proofs.lemmas.Slice.Eq.{bytes_eq-Decides}
use Rattle.chess_board.specs.Initial.{initial}
use Rattle.chess_text.specs.Pgn.{Tag, tag_text, tags_text, result_text, Heading, game_tags, IsPgnOf}
use Rattle.chess_text.proofs.Lines.{IsMovetext-unique}

tags_text-append : (a b : List Tag) → tags_text (a ++ b) ≡ tags_text a ++ tags_text b
tags_text-append [] b = refl
tags_text-append (t ∷ a) b =
    ap (λ x. tag_text t ++ x) (tags_text-append a b) ∙ sym (append_assoc (tag_text t) (tags_text a) (tags_text b))

-- after the tags so far, more tags
pub tags_then : (old text new : List ℕ) (tags more : List Tag) → text ≡ old ++ tags_text tags →
    new ≡ text ++ tags_text more → new ≡ old ++ tags_text (tags ++ more)
tags_then old text new tags more e k =
    k ∙ (ap (λ t. t ++ tags_text more) e ∙ (append_assoc old (tags_text tags) (tags_text more)
    ∙ ap (λ t. old ++ t) (sym (tags_text-append tags more))))

-- after the tags so far, one tag
pub tag_then : (old text new : List ℕ) (tags : List Tag) (t : Tag) → text ≡ old ++ tags_text tags →
    new ≡ text ++ tag_text t → new ≡ old ++ tags_text (tags ++ (t ∷ []))
tag_then old text new tags t e k =
    tags_then old text new tags (t ∷ []) e (k ∙ ap (λ x. text ++ x) (sym (append-nil (tag_text t))))

-- no tag yet
pub no_tags : (old : List ℕ) → old ≡ old ++ tags_text []
no_tags old = sym (append-nil old)

same_set_up : (text other : List ℕ) (h : Heading) (tokens : List (List ℕ)) (a : IsPgnOf text h tokens)
    (b : IsPgnOf other h tokens) → a.set_up ≡ b.set_up → text ≡ other
same_set_up text other h tokens a b e =
    a.joined
    ∙ (ap (λ tags. tags_text (game_tags h tags) ++ (10 ∷ (a.movetext ++ (10 ∷ [])))) e
    ∙ (ap (λ movetext. tags_text (game_tags h b.set_up) ++ (10 ∷ (movetext ++ (10 ∷ []))))
    (IsMovetext-unique a.movetext b.movetext (tokens ++ (result_text h.ending ∷ [])) a.is_movetext b.is_movetext)
    ∙ sym b.joined))

-- A game has one PGN. Whether it starts from the initial position need not be known for this.
pub IsPgnOf-unique : (text other : List ℕ) (h : Heading) (tokens : List (List ℕ)) → IsPgnOf text h tokens →
    IsPgnOf other h tokens → text ≡ other
IsPgnOf-unique text other h tokens a b =
    let same = same_set_up text other h tokens a b in
    elim (cases_Bool (bytes_eq text other)) [
      | inl equal ↦ (bytes_eq-Decides text other).0 equal
      | inr differ ↦
          let apart : text ≢ other = λ e. false≢true (sym differ ∙ (bytes_eq-Decides text other).1 e) in
          let elsewhere : h.start ≢ initial = λ e. apart (same (a.are.usual e ∙ sym (b.are.usual e))) in
          absurd (apart (same (a.are.other elsewhere ∙ sym (b.are.other elsewhere))))
    ]

-- the parts of a game's tags
pub regroup_two : (a b c : List Tag) (t u : Tag) →
    (((a ++ b) ++ c) ++ (t ∷ [])) ++ (u ∷ []) ≡ a ++ (b ++ (c ++ (t ∷ u ∷ [])))
regroup_two a b c t u = simp append_assoc
