-- The head of a request has an end.
use Rattle.std.proofs.Common.{ℕ, ◌≡◌, ◌+◌, ◌||◌, ◌==◌, ◌⊎◌, Bool, true, false, List, [], ◌∷◌, ◌++◌, All, IsTrue, refl, sym, ap, ◌∙◌, subst, inl, inr, arith}
use Rattle.std.proofs.lemmas.Bool.Decides.{nat_tests}
use Rattle.std.proofs.lemmas.List.Elements.{All-head, All-tail}
use Rattle.std.specs.List.{flat_map}
use Rattle.httparse.specs.Grammar.{LineEnd, crlf, lf, AllPass, IsToken, is_token_byte, is_uri_byte, is_value_byte, print_end, print_blank, print_version, Field, print_field, IsField, print_section, RequestHead, IsRequestHead, print_request}
use Rattle.lobby_web.specs.declared.heading.Line.{Line}
use Rattle.lobby_web.specs.declared.heading.Line.TheVariants.{Blank, Within, Whole}
use Rattle.lobby_web.specs.declared.heading.Heading.{Heading}
use Rattle.lobby_web.specs.Heading.{line_after, ends_head, is_foreign, further, heading_after, has_end, HeadsEnd}

-- lines alone
abbrev line_run : Line → List ℕ → Line
line_run line [] = line
line_run line (b ∷ bytes) = line_run (line_after line b) bytes

abbrev ends_run : Line → List ℕ → Bool
ends_run line [] = false
ends_run line (b ∷ bytes) = (ends_head line b || is_foreign b) || ends_run (line_after line b) bytes

line_is : (h : Heading) (bytes : List ℕ) → (heading_after h bytes).line ≡ line_run h.line bytes
line_is h [] = refl
line_is h (b ∷ bytes) = line_is (further h b) bytes

end_is : (h : Heading) (bytes : List ℕ) → has_end h bytes ≡ ends_run h.line bytes
end_is h [] = refl
end_is h (b ∷ bytes) = ap (λ (e : Bool). (ends_head h.line b || is_foreign b) || e) (end_is (further h b) bytes)

-- a head ends in the text, and behind it the next begins
abbrev Ends : Line → List ℕ → Type 0
Ends line bytes = (ends_run line bytes ≡ true) × (line_run line bytes ≡ Blank)

or_true : (a : Bool) → (a || true) ≡ true
or_true true = refl
or_true false = refl

later : (line : Line) (b : ℕ) (bytes : List ℕ) → Ends (line_after line b) bytes → Ends line (b ∷ bytes)
later line b bytes (ends, blank) =
    (ap (λ (e : Bool). (ends_head line b || is_foreign b) || e) ends ∙ or_true (ends_head line b || is_foreign b), blank)

behind : (line next : Line) (front bytes : List ℕ) → line_run line front ≡ next → Ends next bytes → Ends line (front ++ bytes)
behind line next [] bytes is ends = subst (λ (l : Line). Ends l bytes) (sym is) ends
behind line next (b ∷ front) bytes is ends = later line b (front ++ bytes) (behind (line_after line b) next front bytes is ends)

-- ---- bytes within a line

within_one : (b : ℕ) → b == 10 ≡ false → line_after Within b ≡ Within
within_one b is = rw is refl

cases : (b : Bool) → (b ≡ true) ⊎ (b ≡ false)
cases true = inl refl
cases false = inr refl

-- a byte that passes a test which this one does not is another
is_other : (test : ℕ → Bool) (never b : ℕ) → test never ≡ false → test b ≡ true → (b == never) ≡ false
is_other test never b fails is = elim (cases (b == never)) [
  | inl same ↦
      let so : b ≡ never = grind (arith, nat_tests, same) in
      absurd (cc (subst (λ (n : ℕ). test n ≡ true) so is, fails))
  | inr other ↦ other
]

within : (test : ℕ → Bool) (bytes : List ℕ) → test 10 ≡ false → AllPass test bytes → line_run Within bytes ≡ Within
within test [] fails pass = refl
within test (b ∷ bytes) fails pass =
    ap (λ (l : Line). line_run l bytes)
    (within_one b (is_other test 10 b fails (All-head (λ (x : ℕ). IsTrue (test x)) b bytes pass)))
    ∙ within test bytes fails (All-tail (λ (x : ℕ). IsTrue (test x)) b bytes pass)

-- the first byte of a line that is not empty
begins_blank : (b : ℕ) → (b == 10) ≡ false → (b == 13) ≡ false → line_after Blank b ≡ Within
begins_blank b feed return = rw (feed, return) refl

begins_whole : (b : ℕ) → (b == 10) ≡ false → (b == 13) ≡ false → line_after Whole b ≡ Within
begins_whole b feed return = rw (feed, return) refl

token_feed : is_token_byte 10 ≡ false
unfolding is_token_byte
token_feed = refl

token_return : is_token_byte 13 ≡ false
unfolding is_token_byte
token_return = refl

token : (line : Line) (name : List ℕ) → ((b : ℕ) → (b == 10) ≡ false → (b == 13) ≡ false → line_after line b ≡ Within) →
    IsToken name → line_run line name ≡ Within
token line [] begins is = absurd (omega (arith, is.0))
token line (b ∷ name) begins is =
    let here : is_token_byte b ≡ true = All-head (λ (x : ℕ). IsTrue (is_token_byte x)) b name is.1 in
    ap (λ (l : Line). line_run l name)
    (begins b (is_other is_token_byte 10 b token_feed here) (is_other is_token_byte 13 b token_return here))
    ∙ within is_token_byte name token_feed (All-tail (λ (x : ℕ). IsTrue (is_token_byte x)) b name is.1)

-- ---- lines

run_more : (line : Line) (front bytes : List ℕ) → line_run line (front ++ bytes) ≡ line_run (line_run line front) bytes
run_more line [] bytes = refl
run_more line (b ∷ front) bytes = run_more (line_after line b) front bytes

ended : (end : LineEnd) → line_run Within (print_end end) ≡ Whole
ended crlf = refl
ended lf = refl

last : (end : LineEnd) → Ends Whole (print_end end)
last crlf = (refl, refl)
last lf = (refl, refl)

blank : (ends : List LineEnd) → line_run Blank (print_blank ends) ≡ Blank
blank [] = refl
blank (crlf ∷ ends) = blank ends
blank (lf ∷ ends) = blank ends

run_on : (line between next : Line) (front bytes : List ℕ) → line_run line front ≡ between → line_run between bytes ≡ next →
    line_run line (front ++ bytes) ≡ next
run_on line between next front bytes first second =
    run_more line front bytes ∙ ap (λ (l : Line). line_run l bytes) first ∙ second

field : (f : Field) → IsField f → line_run Whole (print_field f) ≡ Whole
field f is =
    run_on Whole Within Whole (f.name ++ (58 ∷ f.raw)) (print_end f.end)
    (run_on Whole Within Within f.name (58 ∷ f.raw) (token Whole f.name begins_whole is.name)
    (within is_value_byte f.raw refl is.raw)) (ended f.end)

fields_ended : (fields : List Field) → All IsField fields → line_run Whole (flat_map print_field fields) ≡ Whole
fields_ended [] are = refl
fields_ended (f ∷ fields) are =
    run_on Whole Whole Whole (print_field f) (flat_map print_field fields) (field f (All-head IsField f fields are))
    (fields_ended fields (All-tail IsField f fields are))

version : (minor : ℕ) → line_run Within (print_version minor) ≡ Within
version minor =
    let other : (48 + minor == 10) ≡ false = grind (arith, nat_tests) in
    within_one (48 + minor) other

-- ---- a head

head_ends : (h : RequestHead) → IsRequestHead h → Ends Blank (print_request h)
unfolding print_request
head_ends h is =
    let named : line_run Blank (print_blank h.blank ++ h.method) ≡ Within =
    run_on Blank Blank Within (print_blank h.blank) h.method (blank h.blank) (token Blank h.method begins_blank is.method) in
    let aimed : line_run Blank (print_blank h.blank ++ h.method ++ (32 ∷ h.target)) ≡ Within =
    run_on Blank Within Within (print_blank h.blank ++ h.method) (32 ∷ h.target) named
    (within is_uri_byte h.target refl is.target.1) in
    let told : line_run Blank (print_blank h.blank ++ h.method ++ (32 ∷ h.target) ++ (32 ∷ print_version h.minor)) ≡ Within =
    run_on Blank Within Within (print_blank h.blank ++ h.method ++ (32 ∷ h.target)) (32 ∷ print_version h.minor) aimed
    (version h.minor) in
    behind Blank Whole
    (print_blank h.blank ++ h.method ++ (32 ∷ h.target) ++ (32 ∷ print_version h.minor) ++ print_end h.line_end)
    (print_section h.fields h.last)
    (run_on Blank Within Whole (print_blank h.blank ++ h.method ++ (32 ∷ h.target) ++ (32 ∷ print_version h.minor))
    (print_end h.line_end) told (ended h.line_end))
    (behind Whole Whole (flat_map print_field h.fields) (print_end h.last) (fields_ended h.fields is.fields) (last h.last))

pub heads_end : HeadsEnd
heads_end h is heading begins =
    let ends : Ends heading.line (print_request h) =
    subst (λ (l : Line). Ends l (print_request h)) (sym begins) (head_ends h is) in
    (end_is heading (print_request h) ∙ ends.0, line_is heading (print_request h) ∙ ends.1)
