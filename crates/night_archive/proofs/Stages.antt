-- How far games are.
use Rattle.std.proofs.Common.{◌≡◌, Bool, true, false, not, ◌&&◌, ◌||◌, Option, None, Some, refl, sym, ap, ◌∙◌}
use Rattle.std.specs.Prelude.{if◌then◌else◌, is_some, is_none}
use Rattle.std.proofs.lemmas.Bool.{false≢true}
use Rattle.night_archive.specs.declared.clerk.Stage.{Stage}
use Rattle.night_archive.specs.declared.clerk.Stage.TheVariants.{Asked, Found, Kept, Dropped}
use Rattle.night_archive.specs.Clerk.{is_asked, is_kept}

-- a game is not waited for any more
abbrev pub is_settled : Option Stage → Bool
is_settled None = false
is_settled (Some Asked) = false
is_settled (Some Found) = true
is_settled (Some Kept) = true
is_settled (Some Dropped) = true

pub not_settled : (stage : Option Stage) → stage ≡ None → is_settled stage ≡ true → ⊥
not_settled stage h k = false≢true (sym (ap is_settled h) ∙ k)

-- a game that was seen is waited for, or it is settled
pub waits_or_settled : (stage : Option Stage) → is_some stage ≡ true → is_asked stage ≡ false → is_settled stage ≡ true
waits_or_settled None h k = h
waits_or_settled (Some Asked) h k = sym k
waits_or_settled (Some Found) h k = refl
waits_or_settled (Some Kept) h k = refl
waits_or_settled (Some Dropped) h k = refl

-- a drop was sent for a game
abbrev pub has_left : Option Stage → Bool
has_left (Some Dropped) = true
has_left _ = false

-- the table's PGN of a game was handed to the archive, or is the one that stands there
abbrev pub has_matched : Option Stage → Bool
has_matched (Some Kept) = true
has_matched (Some Dropped) = true
has_matched _ = false

-- a game may go that was matched, and for which no drop was sent
pub kept_is : (stage : Option Stage) → is_kept stage ≡ (has_matched stage && not (has_left stage))
kept_is None = refl
kept_is (Some Asked) = refl
kept_is (Some Found) = refl
kept_is (Some Kept) = refl
kept_is (Some Dropped) = refl

pub kept_matched : (stage : Option Stage) → is_kept stage ≡ true → has_matched stage ≡ true
kept_matched None h = h
kept_matched (Some Asked) h = h
kept_matched (Some Found) h = h
kept_matched (Some Kept) h = refl
kept_matched (Some Dropped) h = refl

pub none_not : (stage : Option Stage) → is_none stage ≡ not (is_some stage)
none_not None = refl
none_not (Some x) = refl

pub asked_some : (stage : Option Stage) → is_asked stage ≡ true → is_some stage ≡ true
asked_some None h = h
asked_some (Some x) h = refl

pub and_both : (a b c d : Bool) → a ≡ b → c ≡ d → (a && c) ≡ (b && d)
and_both a b c d e f = ap (λ (x : Bool). x && c) e ∙ ap (λ (x : Bool). b && x) f

-- what is so on both ways
pub pick : (P : Option Stage → Type 0) (b : Bool) (x y : Option Stage) → (b ≡ true → P x) → P y → P (if b then x else y)
pick P true x y f p = f refl
pick P false x y f p = p

-- a game is seen to be over
pub over_some : (stage : Option Stage) (t : Bool) → is_some (if is_none stage then (if t then Some Asked else Some Found) else stage) ≡ true
over_some None true = refl
over_some None false = refl
over_some (Some x) t = refl

pub over_waits : (stage : Option Stage) (t : Bool) →
    ((is_none stage && t) || is_asked stage) ≡ is_asked (if is_none stage then (if t then Some Asked else Some Found) else stage)
over_waits None true = refl
over_waits None false = refl
over_waits (Some x) t = refl

pub over_settled : (stage : Option Stage) (d has : Bool) → (is_settled stage ≡ true → has ≡ true) →
    is_settled (if is_none stage then (if d || not has then Some Asked else Some Found) else stage) ≡ true → has ≡ true
over_settled None true has f h = absurd (false≢true h)
over_settled None false true f h = refl
over_settled None false false f h = h
over_settled (Some x) d has f h = f h

-- which it tells nothing of
pub over_keeps : (f : Option Stage → Bool) → f None ≡ f (Some Asked) → f None ≡ f (Some Found) → (stage : Option Stage) (t : Bool) →
    f stage ≡ f (if is_none stage then (if t then Some Asked else Some Found) else stage)
over_keeps f asked found None true = asked
over_keeps f asked found None false = found
over_keeps f asked found (Some x) t = refl

pub seen_over : (b before : Bool) (x y : Option Stage) → is_some x ≡ true → before ≡ is_some y → (b || before) ≡ is_some (if b then x else y)
seen_over true before x y h k = sym h
seen_over false before x y h k = k

-- what was said of a game is so from then on
pub said_keeps : (f : Option Stage → Bool) (b says before : Bool) (x y : Option Stage) → (b ≡ true → (says || before) ≡ f x) → before ≡ f y →
    ((b && says) || before) ≡ f (if b then x else y)
said_keeps f true says before x y g k = g refl
said_keeps f false says before x y g k = k

-- its PGN comes
pub come_keeps : (f : Option Stage → Bool) → f (Some Asked) ≡ f (Some Found) → f (Some Asked) ≡ f (Some Kept) → (stage : Option Stage) (u : Bool) →
    f stage ≡ f (if is_asked stage then (if u then Some Found else Some Kept) else stage)
come_keeps f found kept None u = refl
come_keeps f found kept (Some Asked) true = found
come_keeps f found kept (Some Asked) false = kept
come_keeps f found kept (Some Found) u = refl
come_keeps f found kept (Some Kept) u = refl
come_keeps f found kept (Some Dropped) u = refl

come_asked : (stage : Option Stage) (u : Bool) → false ≡ is_asked (if is_asked stage then (if u then Some Found else Some Kept) else stage)
come_asked None u = refl
come_asked (Some Asked) true = refl
come_asked (Some Asked) false = refl
come_asked (Some Found) u = refl
come_asked (Some Kept) u = refl
come_asked (Some Dropped) u = refl

pub waits_come : (b before u : Bool) (stage y : Option Stage) → before ≡ is_asked y →
    (if b then false else before) ≡ is_asked (if b then (if is_asked stage then (if u then Some Found else Some Kept) else stage) else y)
waits_come true before u stage y h = come_asked stage u
waits_come false before u stage y h = h

pub come_settled : (stage : Option Stage) (has same b : Bool) → b ≡ true → (is_settled stage ≡ true → has ≡ true) →
    is_settled (if is_asked stage then (if has && not same then Some Found else Some Kept) else stage) ≡ true →
    (if (is_asked stage && not has) && b then true else has) ≡ true
come_settled None has same b s f h = absurd (false≢true h)
come_settled (Some Asked) true same b s f h = refl
come_settled (Some Asked) false same b s f h = ap (λ (c : Bool). if c then true else false) s
come_settled (Some Found) has same b s f h = f h
come_settled (Some Kept) has same b s f h = f h
come_settled (Some Dropped) has same b s f h = f h

come_matched : (stage : Option Stage) (has same : Bool) →
    ((is_asked stage && ((is_asked stage && not has) || same)) || has_matched stage)
    ≡ has_matched (if is_asked stage then (if has && not same then Some Found else Some Kept) else stage)
come_matched None has same = refl
come_matched (Some Asked) true true = refl
come_matched (Some Asked) true false = refl
come_matched (Some Asked) false same = refl
come_matched (Some Found) has same = refl
come_matched (Some Kept) has same = refl
come_matched (Some Dropped) has same = refl

pub matched_come : (b waits puts has same before : Bool) (stage y : Option Stage) → (b ≡ true → waits ≡ is_asked stage) → puts ≡ (is_asked stage && not has) →
    (b ≡ true → before ≡ has_matched stage) → before ≡ has_matched y →
    ((b && (waits && (puts || same))) || before)
    ≡ has_matched (if b then (if is_asked stage then (if has && not same then Some Found else Some Kept) else stage) else y)
matched_come true waits puts has same before stage y w p f k =
    ap (λ (c : Bool). (c && (puts || same)) || before) (w refl)
    ∙ (ap (λ (c : Bool). (is_asked stage && (c || same)) || before) p
    ∙ (ap (λ (c : Bool). (is_asked stage && ((is_asked stage && not has) || same)) || c) (f refl) ∙ come_matched stage has same))
matched_come false waits puts has same before stage y w p f k = k

pub stays : (t has : Bool) → has ≡ true → (if t then true else has) ≡ true
stays true has h = refl
stays false has h = h

-- what was asked is refused
pub refused_keeps : (f : Option Stage → Bool) → false ≡ f None → (b before : Bool) (y : Option Stage) → before ≡ f y →
    (if b then false else before) ≡ f (if b then None else y)
refused_keeps f none true before y h = none
refused_keeps f none false before y h = h

-- nobody looks at it
pub left_keeps : (f : Option Stage → Bool) → f (Some Kept) ≡ f (Some Dropped) → (stage : Option Stage) (t : Bool) →
    f stage ≡ f (if is_kept stage && t then Some Dropped else stage)
left_keeps f dropped None t = refl
left_keeps f dropped (Some Asked) t = refl
left_keeps f dropped (Some Found) t = refl
left_keeps f dropped (Some Kept) true = dropped
left_keeps f dropped (Some Kept) false = refl
left_keeps f dropped (Some Dropped) t = refl

pub left_settled : (stage : Option Stage) (t : Bool) → is_settled (if is_kept stage && t then Some Dropped else stage) ≡ true → is_settled stage ≡ true
left_settled None t h = h
left_settled (Some Asked) t h = h
left_settled (Some Found) t h = h
left_settled (Some Kept) t h = refl
left_settled (Some Dropped) t h = refl

pub kept_some : (stage : Option Stage) → is_kept stage ≡ true → is_some stage ≡ true
kept_some None h = h
kept_some (Some x) h = refl

pub left_left : (d : Bool) (stage : Option Stage) → (d || has_left stage) ≡ has_left (if d then Some Dropped else stage)
left_left true stage = refl
left_left false stage = refl
