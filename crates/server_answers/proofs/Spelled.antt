-- What a field says is spelled by that field alone, and what is spelled is read.
use Rattle.std.proofs.Common.{ℕ, ◌≡◌, ◌<◌, ◌^◌, ◌==◌, Bool, true, false, ◌&&◌, List, [], ◌∷◌, Option, Some, None, IfSome, codes, decimal, refl, sym, ap, subst, ◌∙◌, arith}
use Rattle.std.specs.Prelude.{if◌then◌else◌}
use Rattle.std.specs.List.{list_all}
use Rattle.std.specs.Str.{bytes_eq}
use Rattle.std.proofs.lemmas.Bool.{false≢true, and_parts}
use Rattle.std.proofs.lemmas.Bool.Decides.{nat_tests}
use Rattle.std.proofs.lemmas.Option.{none-some, same_Some}
use Rattle.std.proofs.lemmas.Slice.Eq.{bytes_eq-Decides}
use Rattle.text_parts.specs.Numbers.{u64_in}
use Rattle.text_parts.proofs.Cuts.{Lacks}
use Rattle.text_parts.proofs.Digits.{lacks_below}
use Rattle.text_parts.proofs.Spelled.{Spells, found, number_spelled}
use Rattle.player_name.specs.Name.{IsName, is_name_byte}
use Rattle.server_answers.specs.declared.values.Seats.{Seats}
use Rattle.server_answers.specs.declared.values.Side.{Side}
use Rattle.server_answers.specs.declared.values.Side.TheVariants as sides
use Rattle.server_answers.specs.declared.values.Clocks.{Clocks}
use Rattle.server_answers.specs.declared.values.Offers.{Offers}
use Rattle.server_answers.specs.declared.values.GameResult.{GameResult}
use Rattle.server_answers.specs.declared.values.GameResult.TheVariants as results
use Rattle.server_answers.specs.declared.values.Article.{Article}
use Rattle.server_answers.specs.declared.values.Article.TheVariants as articles
use Rattle.server_answers.specs.declared.values.Ending.{Ending}
use Rattle.server_answers.specs.Values.{seat_text, side_text, offers_by, offers_text, score_text, result_text, article_text, ending_result, ending_article, u32_in, is_name, seat_in, seats_with, seats_in, side_in, clocks_with, clocks_in, offers, offers_in, score_in, told, result_in, article_in, end_with, end_in, ending_in}
use Rattle.server_answers.proofs.Names.{name_is, name_from}

-- ---- a choice by the text of a field

pick_at : {A : Type 0} (text_of : A → List ℕ) (field : List ℕ) (x y : A) (more : Option A) (b : Bool) → bytes_eq field (text_of x) ≡ b →
    (more ≡ Some y → field ≡ text_of y) → (if b then Some x else more) ≡ Some y → field ≡ text_of y
pick_at text_of field x y more true same else_ e = (bytes_eq-Decides field (text_of x)).0 same ∙ ap text_of (same_Some x y e)
pick_at text_of field x y more false same else_ e = else_ e

pub pick : {A : Type 0} (text_of : A → List ℕ) (field : List ℕ) (x y : A) (more : Option A) →
    (more ≡ Some y → field ≡ text_of y) → (if bytes_eq field (text_of x) then Some x else more) ≡ Some y → field ≡ text_of y
pick text_of field x y more else_ e = pick_at text_of field x y more (bytes_eq field (text_of x)) refl else_ e

-- ---- numbers

pub u32_only : (field : List ℕ) (n : ℕ) → u32_in field ≡ Some n → Spells (2 ^ 32) field n
u32_only field n e = subst (λ (o : Option ℕ). IfSome o (Spells (2 ^ 32) field)) e (found (2 ^ 32) field)

pub u64_only : (field : List ℕ) (n : ℕ) → u64_in field ≡ Some n → Spells (2 ^ 64) field n
u64_only field n e = subst (λ (o : Option ℕ). IfSome o (Spells (2 ^ 64) field)) e (found (2 ^ 64) field)

pub u32_read : (n : ℕ) → n < 2 ^ 32 → u32_in (decimal n) ≡ Some n
u32_read n small = number_spelled (2 ^ 32) n small (omega (arith, small))

pub u64_read : (n : ℕ) → n < 2 ^ 64 → u64_in (decimal n) ≡ Some n
u64_read n small = number_spelled (2 ^ 64) n small small

pub number_lacks : (n : ℕ) → n < 2 ^ 64 → Lacks 32 (decimal n)
number_lacks n small = lacks_below 32 n (omega arith) small

pub u32_lacks : (n : ℕ) → n < 2 ^ 32 → Lacks 32 (decimal n)
u32_lacks n small = number_lacks n (omega (arith, small))

-- ---- seats

no_dash : (name : List ℕ) (b : Bool) → bytes_eq name (codes "-") ≡ b → IsName name → bytes_eq name (codes "-") ≡ false
no_dash name true same is =
    absurd (false≢true (sym (ap (list_all is_name_byte) ((bytes_eq-Decides name (codes "-")).0 same)) ∙ is.bytes))
no_dash name false same is = same

seat_read : (seat : Option (List ℕ)) → IfSome seat IsName → seat_in (seat_text seat) ≡ Some seat
seat_read None is = refl
seat_read (Some name) is = rw (no_dash name (bytes_eq name (codes "-")) refl is) (rw (name_is name is) refl)

pub seats_read : (seats : Seats) → IfSome seats.white IsName → IfSome seats.black IsName →
    seats_in (seat_text seats.white) (seat_text seats.black) ≡ Some seats
seats_read seats white black =
    ap (λ (o : Option (Option (List ℕ))). seats_with o (seat_in (seat_text seats.black))) (seat_read seats.white white)
    ∙ ap (seats_with (Some seats.white)) (seat_read seats.black black)

pub record IsSeat (field : List ℕ) (seat : Option (List ℕ)) : Type 0 where
  pub spelled : field ≡ seat_text seat
  pub named : IfSome seat IsName

seat_named : (field : List ℕ) (seat : Option (List ℕ)) (b : Bool) → is_name field ≡ b → (if b then Some (Some field) else None) ≡ Some seat → IsSeat field seat
seat_named field seat true is e =
    subst (IsSeat field) (same_Some (Some field) seat e) (record { spelled = refl; named = name_from field is })
seat_named field seat false is e = absurd (none-some seat e)

seat_at : (field : List ℕ) (seat : Option (List ℕ)) (b : Bool) → bytes_eq field (codes "-") ≡ b →
    (if b then Some None else (if is_name field then Some (Some field) else None)) ≡ Some seat → IsSeat field seat
seat_at field seat true same e =
    subst (IsSeat field) (same_Some None seat e) (record { spelled = (bytes_eq-Decides field (codes "-")).0 same; named = tt })
seat_at field seat false same e = seat_named field seat (is_name field) refl e

seat_only : (field : List ℕ) (seat : Option (List ℕ)) → seat_in field ≡ Some seat → IsSeat field seat
seat_only field seat e = seat_at field seat (bytes_eq field (codes "-")) refl e

seats_at : (white black : List ℕ) (w b : Option (Option (List ℕ))) (seats : Seats) → seat_in white ≡ w → seat_in black ≡ b →
    seats_with w b ≡ Some seats → IsSeat white seats.white × IsSeat black seats.black
seats_at white black None b seats e f h = absurd (none-some seats h)
seats_at white black (Some w) None seats e f h = absurd (none-some seats h)
seats_at white black (Some w) (Some b) seats e f h =
    let same = same_Some _ seats h in
    (seat_only white seats.white (e ∙ ap (λ (s : Seats). Some s.white) same), seat_only black seats.black (f ∙ ap (λ (s : Seats). Some s.black) same))

pub seats_only : (white black : List ℕ) (seats : Seats) → seats_in white black ≡ Some seats → IsSeat white seats.white × IsSeat black seats.black
seats_only white black seats e = seats_at white black (seat_in white) (seat_in black) seats refl refl e

name_byte_lacks : (b : ℕ) → is_name_byte b ≡ true → (b == 32) ≡ false
name_byte_lacks b h = grind (arith, nat_tests)

bytes_lack : (text : List ℕ) → list_all is_name_byte text ≡ true → Lacks 32 text
bytes_lack [] h = refl
bytes_lack (b ∷ bs) h =
    let parts = and_parts (is_name_byte b) (list_all is_name_byte bs) h in
    rw (name_byte_lacks b parts.0) (bytes_lack bs parts.1)

pub seat_lacks : (seat : Option (List ℕ)) → IfSome seat IsName → Lacks 32 (seat_text seat)
seat_lacks None is = refl
seat_lacks (Some name) is = bytes_lack name is.bytes

-- ---- the side on move, the clocks, the offers

pub side_read : (side : Side) → side_in (side_text side) ≡ Some side
side_read sides.White = refl
side_read sides.Black = refl

pub side_only : (field : List ℕ) (side : Side) → side_in field ≡ Some side → field ≡ side_text side
side_only field side e =
    pick side_text field sides.White side (if bytes_eq field (codes "b") then Some sides.Black else None)
    (λ f. pick side_text field sides.Black side None (λ g. absurd (none-some side g)) f) e

pub side_lacks : (side : Side) → Lacks 32 (side_text side)
side_lacks sides.White = refl
side_lacks sides.Black = refl

pub clocks_read : (clocks : Clocks) → clocks.white_ms < 2 ^ 64 → clocks.black_ms < 2 ^ 64 →
    clocks_in (decimal clocks.white_ms) (decimal clocks.black_ms) ≡ Some clocks
clocks_read clocks white black =
    ap (λ (o : Option ℕ). clocks_with o (u64_in (decimal clocks.black_ms))) (u64_read clocks.white_ms white)
    ∙ ap (clocks_with (Some clocks.white_ms)) (u64_read clocks.black_ms black)

clocks_at : (white black : List ℕ) (w b : Option ℕ) (clocks : Clocks) → u64_in white ≡ w → u64_in black ≡ b → clocks_with w b ≡ Some clocks →
    Spells (2 ^ 64) white clocks.white_ms × Spells (2 ^ 64) black clocks.black_ms
clocks_at white black None b clocks e f h = absurd (none-some clocks h)
clocks_at white black (Some w) None clocks e f h = absurd (none-some clocks h)
clocks_at white black (Some w) (Some b) clocks e f h =
    let same = same_Some _ clocks h in
    (u64_only white clocks.white_ms (e ∙ ap (λ (s : Clocks). Some s.white_ms) same), u64_only black clocks.black_ms (f ∙ ap (λ (s : Clocks). Some s.black_ms) same))

pub clocks_only : (white black : List ℕ) (clocks : Clocks) → clocks_in white black ≡ Some clocks →
    Spells (2 ^ 64) white clocks.white_ms × Spells (2 ^ 64) black clocks.black_ms
clocks_only white black clocks e = clocks_at white black (u64_in white) (u64_in black) clocks refl refl e

offers_spelled : (white black : Bool) → offers_in (offers_by white black) ≡ Some (offers white black)
offers_spelled true true = refl
offers_spelled true false = refl
offers_spelled false true = refl
offers_spelled false false = refl

pub offers_read : (o : Offers) → offers_in (offers_text o) ≡ Some o
offers_read o = offers_spelled o.white o.black

pub offers_only : (field : List ℕ) (o : Offers) → offers_in field ≡ Some o → field ≡ offers_text o
offers_only field o e =
    pick offers_text field (offers false false) o _ (λ f.
    pick offers_text field (offers true false) o _ (λ g.
    pick offers_text field (offers false true) o _ (λ h.
    pick offers_text field (offers true true) o None (λ i. absurd (none-some o i)) h) g) f) e

offers_by_lack : (white black : Bool) → Lacks 32 (offers_by white black)
offers_by_lack true true = refl
offers_by_lack true false = refl
offers_by_lack false true = refl
offers_by_lack false false = refl

pub offers_lack : (o : Offers) → Lacks 32 (offers_text o)
offers_lack o = offers_by_lack o.white o.black

-- ---- the end

score_read : (score : GameResult) → score_in (score_text score) ≡ Some score
score_read results.White = refl
score_read results.Black = refl
score_read results.Draw = refl

score_only : (field : List ℕ) (score : GameResult) → score_in field ≡ Some score → field ≡ score_text score
score_only field score e =
    pick score_text field results.White score _ (λ f.
    pick score_text field results.Black score _ (λ g.
    pick score_text field results.Draw score None (λ h. absurd (none-some score h)) g) f) e

pub score_lacks : (score : GameResult) → Lacks 32 (score_text score)
score_lacks results.White = refl
score_lacks results.Black = refl
score_lacks results.Draw = refl

no_star : (score : GameResult) → bytes_eq (score_text score) (codes "*") ≡ false
no_star results.White = refl
no_star results.Black = refl
no_star results.Draw = refl

pub result_read : (r : Option GameResult) → result_in (result_text r) ≡ Some r
result_read None = refl
result_read (Some score) = rw (no_star score) (ap told (score_read score))

pub told_some : {A : Type 0} (o p : Option A) → told o ≡ Some p → o ≡ p
told_some None p e = absurd (none-some p e)
told_some (Some a) p e = same_Some (Some a) p e

result_told : (field : List ℕ) (r : Option GameResult) → score_in field ≡ r → told (score_in field) ≡ Some r → field ≡ result_text r
result_told field None e h = absurd (none-some {A = Option GameResult} None (sym (ap told e) ∙ h))
result_told field (Some score) e h = score_only field score e

result_at : (field : List ℕ) (r : Option GameResult) (b : Bool) → bytes_eq field (codes "*") ≡ b →
    (if b then Some None else told (score_in field)) ≡ Some r → field ≡ result_text r
result_at field r true same e = (bytes_eq-Decides field (codes "*")).0 same ∙ ap result_text (same_Some None r e)
result_at field r false same e = result_told field r (told_some (score_in field) r e) e

pub result_only : (field : List ℕ) (r : Option GameResult) → result_in field ≡ Some r → field ≡ result_text r
result_only field r e = result_at field r (bytes_eq field (codes "*")) refl e

pub result_lacks : (r : Option GameResult) → Lacks 32 (result_text r)
result_lacks None = refl
result_lacks (Some score) = score_lacks score

article_read : (article : Article) → article_in (article_text article) ≡ Some article
article_read articles.A511 = refl
article_read articles.A512 = refl
article_read articles.A521 = refl
article_read articles.A522 = refl
article_read articles.A523 = refl
article_read articles.A69 = refl
article_read articles.A92 = refl
article_read articles.A93 = refl
article_read articles.A961 = refl
article_read articles.A962 = refl

pub article_lacks : (article : Article) → Lacks 32 (article_text article)
article_lacks articles.A511 = refl
article_lacks articles.A512 = refl
article_lacks articles.A521 = refl
article_lacks articles.A522 = refl
article_lacks articles.A523 = refl
article_lacks articles.A69 = refl
article_lacks articles.A92 = refl
article_lacks articles.A93 = refl
article_lacks articles.A961 = refl
article_lacks articles.A962 = refl

article_only : (field : List ℕ) (article : Article) → article_in field ≡ Some article → field ≡ article_text article
article_only field article e =
    pick article_text field articles.A511 article _ (λ e2.
    pick article_text field articles.A512 article _ (λ e3.
    pick article_text field articles.A521 article _ (λ e4.
    pick article_text field articles.A522 article _ (λ e5.
    pick article_text field articles.A523 article _ (λ e6.
    pick article_text field articles.A69 article _ (λ e7.
    pick article_text field articles.A92 article _ (λ e8.
    pick article_text field articles.A93 article _ (λ e9.
    pick article_text field articles.A961 article _ (λ e10.
    pick article_text field articles.A962 article None (λ none. absurd (none-some article none)) e10) e9) e8) e7) e6) e5) e4) e3) e2) e

pub end_read : (ending : Ending) → end_in (score_text ending.result) (article_text ending.article) ≡ Some ending
end_read ending =
    ap (λ (o : Option GameResult). end_with o (article_in (article_text ending.article))) (score_read ending.result)
    ∙ ap (end_with (Some ending.result)) (article_read ending.article)

end_at : (first second : List ℕ) (r : Option GameResult) (a : Option Article) (ending : Ending) → score_in first ≡ r → article_in second ≡ a →
    end_with r a ≡ Some ending → (first ≡ score_text ending.result) × (second ≡ article_text ending.article)
end_at first second None a ending e f h = absurd (none-some ending h)
end_at first second (Some r) None ending e f h = absurd (none-some ending h)
end_at first second (Some r) (Some a) ending e f h =
    let same = same_Some _ ending h in
    (score_only first ending.result (e ∙ ap (λ (s : Ending). Some s.result) same), article_only second ending.article (f ∙ ap (λ (s : Ending). Some s.article) same))

pub end_only : (first second : List ℕ) (ending : Ending) → end_in first second ≡ Some ending →
    (first ≡ score_text ending.result) × (second ≡ article_text ending.article)
end_only first second ending e = end_at first second (score_in first) (article_in second) ending refl refl e

pub ending_read : (ending : Option Ending) → ending_in (ending_result ending) (ending_article ending) ≡ Some ending
ending_read None = refl
ending_read (Some ending) = rw (no_star ending.result) (ap told (end_read ending))

pub record IsEnding (first second : List ℕ) (ending : Option Ending) : Type 0 where
  pub score : first ≡ ending_result ending
  pub article : second ≡ ending_article ending

ending_told : (first second : List ℕ) (ending : Option Ending) → end_in first second ≡ ending → told (end_in first second) ≡ Some ending →
    IsEnding first second ending
ending_told first second None e h = absurd (none-some {A = Option Ending} None (sym (ap told e) ∙ h))
ending_told first second (Some ending) e h =
    let both = end_only first second ending e in record { score = both.0; article = both.1 }

ending_at : (first second : List ℕ) (ending : Option Ending) (a b : Bool) → bytes_eq first (codes "*") ≡ a → bytes_eq second (codes "-") ≡ b →
    (if a && b then Some None else told (end_in first second)) ≡ Some ending → IsEnding first second ending
ending_at first second ending true true same none e =
    subst (IsEnding first second) (same_Some None ending e)
    (record { score = (bytes_eq-Decides first (codes "*")).0 same; article = (bytes_eq-Decides second (codes "-")).0 none })
ending_at first second ending true false same none e = ending_told first second ending (told_some (end_in first second) ending e) e
ending_at first second ending false b same none e = ending_told first second ending (told_some (end_in first second) ending e) e

pub ending_only : (first second : List ℕ) (ending : Option Ending) → ending_in first second ≡ Some ending → IsEnding first second ending
ending_only first second ending e =
    ending_at first second ending (bytes_eq first (codes "*")) (bytes_eq second (codes "-")) refl refl e

pub ending_result_lacks : (ending : Option Ending) → Lacks 32 (ending_result ending)
ending_result_lacks None = refl
ending_result_lacks (Some ending) = score_lacks ending.result

pub ending_article_lacks : (ending : Option Ending) → Lacks 32 (ending_article ending)
ending_article_lacks None = refl
ending_article_lacks (Some ending) = article_lacks ending.article
