-- What is promised holds of each run.
use Rattle.std.proofs.Common.{ℕ, ◌≡◌, ◌⊎◌, inl, inr, Bool, true, false, not, ◌&&◌, ◌||◌, ◌==◌, List, [], ◌∷◌, ◌++◌, Option, None, refl, sym, ap, ◌∙◌, append_assoc, append-nil}
use Rattle.std.specs.Prelude.{if◌then◌else◌, is_some, is_none}
use Rattle.std.proofs.lemmas.Bool.{false≢true, and_parts, or_right, not-true}
use Rattle.std.proofs.lemmas.Bool.Decides.{Decides-eqb}
use Rattle.night_archive.specs.declared.clerk.Stage.{Stage}
use Rattle.night_archive.specs.Steps.{Step, Begun, Over, Came, Refused, Synced, Left}
use Rattle.night_files.specs.File.{IsFront}
use Rattle.night_files.proofs.Records.{front_self, front_wider, front_through}
use Rattle.night_archive.specs.Files.{contains, archive_in, safe_in, fresh_in, IsHonestStep, IsHonest}
use Rattle.night_archive.specs.Clerk.{View, is_asked, is_kept, asks, puts, drops, seen, come, left, Begins, IsStep, IsNothing, IsRun}
use Rattle.night_archive.specs.Laws.{IsOnce, is_seen, is_waiting, is_matched, is_sent, is_dropped, was_over, was_put, IsHanded, IsDropStep, IsHandedStep, AllHanded, AllRight, AllDrops}
use Rattle.night_archive.proofs.Lists.{contains-append, contains_more, front_contains, once_front, once_more}
use Rattle.night_archive.proofs.Stages.{is_settled, not_settled, waits_or_settled, pick, over_some, over_waits, over_settled, over_keeps, seen_over, said_keeps, come_keeps, waits_come, come_settled, matched_come, stays, refused_keeps, left_keeps, left_settled, kept_some, kept_matched, has_left, has_matched, kept_is, none_not, asked_some, and_both, left_left}

-- what is so behind a past, by what the clerk knows then
pub record Good (steps : List Step) (now : View) : Type 0 where
  pub has : (g : ℕ) → now.has g ≡ contains g (archive_in steps)
  pub front : List ℕ
  pub joined : archive_in steps ≡ front ++ now.fresh
  pub safe : (g : ℕ) → contains g front ≡ true → contains g (safe_in steps) ≡ true
  pub seen_is : (g : ℕ) → is_seen steps g ≡ is_some (now.stage g)
  pub waits : (g : ℕ) → is_waiting steps g ≡ is_asked (now.stage g)
  pub settled : (g : ℕ) → is_settled (now.stage g) ≡ true → now.has g ≡ true
  pub drops_right : AllDrops steps
  pub fresh_is : fresh_in steps ≡ now.fresh
  pub matched_is : (g : ℕ) → is_matched steps g ≡ has_matched (now.stage g)
  pub sent_is : (g : ℕ) → is_sent steps g ≡ has_left (now.stage g)
  pub decided : AllRight steps

-- a clerk that begins knows of no game
begins_good : (steps : List Step) (now : View) → Begins (archive_in steps) now → fresh_in steps ≡ archive_in steps →
    ((g : ℕ) → is_seen steps g ≡ false) → ((g : ℕ) → is_waiting steps g ≡ false) → ((g : ℕ) → is_matched steps g ≡ false) →
    ((g : ℕ) → is_sent steps g ≡ false) → AllDrops steps → AllRight steps → Good steps now
begins_good steps now h fresh seen waiting matched sent drops right = record {
  has = h.has;
  front = [];
  joined = sym h.fresh;
  safe = λ g k. absurd (false≢true k);
  seen_is = λ g. seen g ∙ sym (ap is_some (h.stage_is g));
  waits = λ g. waiting g ∙ sym (ap is_asked (h.stage_is g));
  settled = λ g k. absurd (not_settled (now.stage g) (h.stage_is g) k);
  drops_right = drops;
  fresh_is = fresh ∙ sym h.fresh;
  matched_is = λ g. matched g ∙ sym (ap has_matched (h.stage_is g));
  sent_is = λ g. sent g ∙ sym (ap has_left (h.stage_is g));
  decided = right;
}

nothing_good : (now : View) → IsNothing now → Good [] now
nothing_good now h =
    begins_good [] now (record { has = h.has; fresh = h.fresh; stage_is = h.stage_is }) refl (λ g. refl) (λ g. refl)
    (λ g. refl) (λ g. refl) tt tt

begun_good : (archive : List ℕ) (past : List Step) (old new : View) → Good past old → IsStep old (Begun archive) new → Good (Begun archive ∷ past) new
begun_good archive past old new G h =
    begins_good (Begun archive ∷ past) new h refl (λ g. refl) (λ g. refl) (λ g. refl) (λ g. refl) (tt, G.drops_right)
    (tt, G.decided)

-- a game that is the same
pub same_game : (game g : ℕ) → (game == g) ≡ true → game ≡ g
same_game game g h = (Decides-eqb game g).0 h

-- what is so of a game stays so, where its new stage says the same
still : (f : Option Stage → Bool) (before : Bool) (game g : ℕ) (old : View) (stage : Option Stage) → before ≡ f (old.stage g) →
    f (old.stage game) ≡ f stage → before ≡ f (if game == g then stage else old.stage g)
still f before game g old stage is same =
    pick (λ (s : Option Stage). before ≡ f s) (game == g) stage (old.stage g)
    (λ here. is ∙ (ap (λ (n : ℕ). f (old.stage n)) (sym (same_game game g here)) ∙ same)) is

over_good : (game : ℕ) (d says : Bool) (past : List Step) (old new : View) → Good past old → IsStep old (Over game d says) new → Good (Over game d says ∷ past) new
over_good game d says past old new G h = record {
  has = λ g. h.1.has g ∙ G.has g;
  front = G.front;
  joined = G.joined ∙ ap (λ (xs : List ℕ). G.front ++ xs) (sym h.1.fresh);
  safe = G.safe;
  seen_is = λ g.
      seen_over (game == g) (is_seen past g) (seen old game d) (old.stage g) (over_some (old.stage game) (d || not (old.has game))) (G.seen_is g)
      ∙ sym (ap is_some (h.1.stage_is g));
  waits = λ g.
      said_keeps is_asked (game == g) says (is_waiting past g) (seen old game d) (old.stage g)
      (λ k. ap (λ (b : Bool). b || is_waiting past g) h.0
      ∙ (ap (λ (b : Bool). asks old game d || b) (G.waits g ∙ ap (λ (n : ℕ). is_asked (old.stage n)) (sym (same_game game g k)))
      ∙ over_waits (old.stage game) (d || not (old.has game))))
      (G.waits g)
      ∙ sym (ap is_asked (h.1.stage_is g));
  settled = λ g k.
      h.1.has g
      ∙ pick (λ (stage : Option Stage). is_settled stage ≡ true → old.has g ≡ true) (game == g) (seen old game d) (old.stage g)
      (λ same m. ap (λ (n : ℕ). old.has n) (sym (same_game game g same)) ∙ over_settled (old.stage game) d (old.has game) (G.settled game) m)
      (G.settled g) (sym (ap is_settled (h.1.stage_is g)) ∙ k);
  drops_right = (tt, G.drops_right);
  fresh_is = G.fresh_is ∙ sym h.1.fresh;
  matched_is = λ g.
      still has_matched (is_matched past g) game g old (seen old game d) (G.matched_is g)
      (over_keeps has_matched refl refl (old.stage game) (d || not (old.has game)))
      ∙ sym (ap has_matched (h.1.stage_is g));
  sent_is = λ g.
      still has_left (is_sent past g) game g old (seen old game d) (G.sent_is g)
      (over_keeps has_left refl refl (old.stage game) (d || not (old.has game)))
      ∙ sym (ap has_left (h.1.stage_is g));
  decided = (
    h.0
        ∙ and_both (is_none (old.stage game)) (not (is_seen past game)) (d || not (old.has game)) (d || not (contains game (archive_in past)))
        (none_not (old.stage game) ∙ ap not (sym (G.seen_is game))) (ap (λ (b : Bool). d || not b) (G.has game)),
    G.decided,
  );
}

came_has : (says : Bool) (game g : ℕ) (archive : List ℕ) (has : Bool) → has ≡ contains g archive →
    (if says && game == g then true else has) ≡ contains g (if says then archive ++ game ∷ [] else archive)
came_has true game g archive has h = ap (λ (b : Bool). if game == g then true else b) h ∙ sym (contains_more g game archive)
came_has false game g archive has h = h

came_joined : (says : Bool) (game : ℕ) (archive front fresh : List ℕ) → archive ≡ front ++ fresh →
    (if says then archive ++ game ∷ [] else archive) ≡ front ++ (if says then fresh ++ game ∷ [] else fresh)
came_joined true game archive front fresh h = ap (λ (xs : List ℕ). xs ++ game ∷ []) h ∙ append_assoc front fresh (game ∷ [])
came_joined false game archive front fresh h = h

clean_before : (says before : Bool) → (if says then false else before) ≡ true → before ≡ true
clean_before true before h = absurd (false≢true h)
clean_before false before h = h

came_good : (game : ℕ) (same says : Bool) (past : List Step) (old new : View) → Good past old → IsStep old (Came game same says) new → Good (Came game same says ∷ past) new
came_good game same says past old new G h = record {
  has = λ g. h.1.has g ∙ came_has says game g (archive_in past) (old.has g) (G.has g);
  front = G.front;
  joined = came_joined says game (archive_in past) G.front old.fresh G.joined ∙ ap (λ (xs : List ℕ). G.front ++ xs) (sym h.1.fresh);
  safe = G.safe;
  seen_is = λ g.
      still is_some (is_seen past g) game g old (come old game same) (G.seen_is g)
      (come_keeps is_some refl refl (old.stage game) (old.has game && not same))
      ∙ sym (ap is_some (h.1.stage_is g));
  waits = λ g.
      waits_come (game == g) (is_waiting past g) (old.has game && not same) (old.stage game) (old.stage g) (G.waits g)
      ∙ sym (ap is_asked (h.1.stage_is g));
  settled = λ g k.
      h.1.has g
      ∙ (ap (λ (b : Bool). if b && game == g then true else old.has g) h.0
      ∙ pick (λ (stage : Option Stage). is_settled stage ≡ true → (if puts old game && game == g then true else old.has g) ≡ true)
      (game == g) (come old game same) (old.stage g)
      (λ here m. ap (λ (n : ℕ). if puts old game && game == g then true else old.has n) (sym (same_game game g here))
      ∙ come_settled (old.stage game) (old.has game) same (game == g) here (G.settled game) m)
      (λ m. stays (puts old game && game == g) (old.has g) (G.settled g m))
      (sym (ap is_settled (h.1.stage_is g)) ∙ k));
  drops_right = (tt, G.drops_right);
  fresh_is = ap (λ (xs : List ℕ). if says then xs ++ game ∷ [] else xs) G.fresh_is ∙ sym h.1.fresh;
  matched_is = λ g.
      matched_come (game == g) (is_waiting past g) says (old.has game) same (is_matched past g) (old.stage game) (old.stage g)
      (λ here. G.waits g ∙ ap (λ (n : ℕ). is_asked (old.stage n)) (sym (same_game game g here))) h.0
      (λ here. G.matched_is g ∙ ap (λ (n : ℕ). has_matched (old.stage n)) (sym (same_game game g here)))
      (G.matched_is g)
      ∙ sym (ap has_matched (h.1.stage_is g));
  sent_is = λ g.
      still has_left (is_sent past g) game g old (come old game same) (G.sent_is g)
      (come_keeps has_left refl refl (old.stage game) (old.has game && not same))
      ∙ sym (ap has_left (h.1.stage_is g));
  decided = (
    h.0
        ∙ and_both (is_asked (old.stage game)) (is_waiting past game) (not (old.has game)) (not (contains game (archive_in past)))
        (sym (G.waits game)) (ap not (G.has game)),
    G.decided,
  );
}

refused_good : (game : ℕ) (past : List Step) (old new : View) → Good past old → IsStep old (Refused game) new → Good (Refused game ∷ past) new
refused_good game past old new G h = record {
  has = λ g. h.has g ∙ G.has g;
  front = G.front;
  joined = G.joined ∙ ap (λ (xs : List ℕ). G.front ++ xs) (sym h.fresh);
  safe = G.safe;
  seen_is = λ g. refused_keeps is_some refl (game == g) (is_seen past g) (old.stage g) (G.seen_is g) ∙ sym (ap is_some (h.stage_is g));
  waits = λ g. refused_keeps is_asked refl (game == g) (is_waiting past g) (old.stage g) (G.waits g) ∙ sym (ap is_asked (h.stage_is g));
  settled = λ g k.
      h.has g
      ∙ pick (λ (stage : Option Stage). is_settled stage ≡ true → old.has g ≡ true) (game == g) None (old.stage g)
      (λ same m. absurd (false≢true m)) (G.settled g) (sym (ap is_settled (h.stage_is g)) ∙ k);
  drops_right = (tt, G.drops_right);
  fresh_is = G.fresh_is ∙ sym h.fresh;
  matched_is = λ g. refused_keeps has_matched refl (game == g) (is_matched past g) (old.stage g) (G.matched_is g) ∙ sym (ap has_matched (h.stage_is g));
  sent_is = λ g. refused_keeps has_left refl (game == g) (is_sent past g) (old.stage g) (G.sent_is g) ∙ sym (ap has_left (h.stage_is g));
  decided = (tt, G.decided);
}

synced_good : (past : List Step) (old new : View) → Good past old → IsStep old Synced new → Good (Synced ∷ past) new
synced_good past old new G h = record {
  has = λ g. h.has g ∙ G.has g;
  front = archive_in past;
  joined = sym (append-nil (archive_in past)) ∙ ap (λ (xs : List ℕ). archive_in past ++ xs) (sym h.fresh);
  safe = λ g k. k;
  seen_is = λ g. G.seen_is g ∙ sym (ap is_some (h.stage_is g));
  waits = λ g. G.waits g ∙ sym (ap is_asked (h.stage_is g));
  settled = λ g k. h.has g ∙ G.settled g (sym (ap is_settled (h.stage_is g)) ∙ k);
  drops_right = (tt, G.drops_right);
  fresh_is = sym h.fresh;
  matched_is = λ g. G.matched_is g ∙ sym (ap has_matched (h.stage_is g));
  sent_is = λ g. G.sent_is g ∙ sym (ap has_left (h.stage_is g));
  decided = (tt, G.decided);
}

-- a game that stands in the archive and was not handed to it since the last sync is safe
or_rest : (a b : Bool) → (a || b) ≡ true → b ≡ false → a ≡ true
or_rest true b h k = refl
or_rest false b h k = absurd (false≢true (sym k ∙ h))

is_safe_now : (past : List Step) (old : View) → Good past old → (game : ℕ) → (old.has game && not (contains game old.fresh)) ≡ true →
    contains game (safe_in past) ≡ true
is_safe_now past old G game h =
    G.safe game (or_rest (contains game G.front) (contains game old.fresh)
    (sym (contains-append game G.front old.fresh) ∙ (ap (contains game) (sym G.joined) ∙ (sym (G.has game) ∙ (and_parts (old.has game) (not (contains game old.fresh)) h).0)))
    (not-true (contains game old.fresh) (and_parts (old.has game) (not (contains game old.fresh)) h).1))

left_good : (game : ℕ) (says : Bool) (past : List Step) (old new : View) → Good past old → IsStep old (Left game says) new → Good (Left game says ∷ past) new
left_good game says past old new G h =
    let t : Bool = old.has game && not (contains game old.fresh) in record {
      has = λ g. h.1.has g ∙ G.has g;
      front = G.front;
      joined = G.joined ∙ ap (λ (xs : List ℕ). G.front ++ xs) (sym h.1.fresh);
      safe = G.safe;
      seen_is = λ g.
          still is_some (is_seen past g) game g old (left old game) (G.seen_is g) (left_keeps is_some refl (old.stage game) t)
          ∙ sym (ap is_some (h.1.stage_is g));
      waits = λ g.
          still is_asked (is_waiting past g) game g old (left old game) (G.waits g) (left_keeps is_asked refl (old.stage game) t)
          ∙ sym (ap is_asked (h.1.stage_is g));
      settled = λ g k.
          h.1.has g
          ∙ pick (λ (stage : Option Stage). is_settled stage ≡ true → old.has g ≡ true) (game == g) (left old game) (old.stage g)
          (λ same m. ap (λ (n : ℕ). old.has n) (sym (same_game game g same)) ∙ G.settled game (left_settled (old.stage game) t m))
          (G.settled g) (sym (ap is_settled (h.1.stage_is g)) ∙ k);
      drops_right = (
        λ k.
            let goes : drops old game ≡ true = sym h.0 ∙ k in (
              G.seen_is game ∙ kept_some (old.stage game) (and_parts (is_kept (old.stage game)) t goes).0,
              G.matched_is game ∙ kept_matched (old.stage game) (and_parts (is_kept (old.stage game)) t goes).0,
              is_safe_now past old G game (and_parts (is_kept (old.stage game)) t goes).1,
            ),
        G.drops_right,
      );
      fresh_is = G.fresh_is ∙ sym h.1.fresh;
      matched_is = λ g.
          still has_matched (is_matched past g) game g old (left old game) (G.matched_is g) (left_keeps has_matched refl (old.stage game) t)
          ∙ sym (ap has_matched (h.1.stage_is g));
      sent_is = λ g.
          said_keeps has_left (game == g) says (is_sent past g) (left old game) (old.stage g)
          (λ same. ap (λ (b : Bool). b || is_sent past g) h.0
          ∙ (ap (λ (b : Bool). drops old game || b) (G.sent_is g ∙ ap (λ (n : ℕ). has_left (old.stage n)) (sym (same_game game g same)))
          ∙ left_left (drops old game) (old.stage game)))
          (G.sent_is g)
          ∙ sym (ap has_left (h.1.stage_is g));
      decided = (
        h.0
            ∙ and_both (is_kept (old.stage game)) (is_matched past game && not (is_sent past game))
            t (contains game (archive_in past) && not (contains game (fresh_in past)))
            (kept_is (old.stage game)
            ∙ and_both (has_matched (old.stage game)) (is_matched past game) (not (has_left (old.stage game))) (not (is_sent past game))
            (sym (G.matched_is game)) (ap not (sym (G.sent_is game))))
            (and_both (old.has game) (contains game (archive_in past)) (not (contains game old.fresh)) (not (contains game (fresh_in past)))
            (G.has game) (ap (λ (xs : List ℕ). not (contains game xs)) (sym G.fresh_is))),
        G.decided,
      );
    }

step_good : (s : Step) (past : List Step) (old new : View) → Good past old → IsStep old s new → Good (s ∷ past) new
step_good (Begun archive) past old new G h = begun_good archive past old new G h
step_good (Over game d says) past old new G h = over_good game d says past old new G h
step_good (Came game same says) past old new G h = came_good game same says past old new G h
step_good (Refused game) past old new G h = refused_good game past old new G h
step_good Synced past old new G h = synced_good past old new G h
step_good (Left game says) past old new G h = left_good game says past old new G h

pub run_good : (steps : List Step) (now : View) → IsRun steps now → Good steps now
run_good [] now run = nothing_good now run
run_good (s ∷ past) now run = step_good s past run.0 now (run_good past run.0 run.1) run.2

-- each game that was seen is in the archive, or waited for
out_at : (stage : Option Stage) (a w : Bool) → is_some stage ≡ true → w ≡ is_asked stage → (is_settled stage ≡ true → a ≡ true) →
    (b : Bool) → is_asked stage ≡ b → (a ≡ true) ⊎ (w ≡ true)
out_at stage a w h k f true is = inr (k ∙ is)
out_at stage a w h k f false is = inl (f (waits_or_settled stage h is))

pub none_out : (steps : List Step) (now : View) → Good steps now → (game : ℕ) → is_seen steps game ≡ true →
    (contains game (archive_in steps) ≡ true) ⊎ (is_waiting steps game ≡ true)
none_out steps now G game h =
    out_at (now.stage game) (contains game (archive_in steps)) (is_waiting steps game) (sym (G.seen_is game) ∙ h) (G.waits game)
    (λ m. sym (G.has game) ∙ G.settled game m) (is_asked (now.stage game)) refl

-- what is safe stands in front
put_front : (says : Bool) (a xs : List ℕ) (game : ℕ) → IsFront a xs → IsFront a (if says then xs ++ game ∷ [] else xs)
put_front true a xs game h = front_wider a xs (game ∷ []) h
put_front false a xs game h = h

step_front : (s : Step) (past : List Step) → IsHonestStep s past → IsFront (safe_in past) (archive_in past) → IsFront (safe_in (s ∷ past)) (archive_in (s ∷ past))
step_front (Begun archive) past h f = h.0
step_front (Over game d says) past h f = f
step_front (Came game same says) past h f = put_front says (safe_in past) (archive_in past) game f
step_front (Refused game) past h f = f
step_front Synced past h f = front_self (archive_in past)
step_front (Left game says) past h f = f

pub fronts : (steps : List Step) → IsHonest steps → IsFront (safe_in steps) (archive_in steps)
fronts [] h = front_self []
fronts (s ∷ past) h = step_front s past h.0 (fronts past h.1)

-- what is safe stays
step_safe : (s : Step) (past : List Step) → IsHonest past → IsFront (safe_in past) (safe_in (s ∷ past))
step_safe Synced past h = fronts past h
step_safe (Begun archive) past h = front_self (safe_in past)
step_safe (Over game d says) past h = front_self (safe_in past)
step_safe (Came game same says) past h = front_self (safe_in past)
step_safe (Refused game) past h = front_self (safe_in past)
step_safe (Left game says) past h = front_self (safe_in past)

safe_stays : (later earlier : List Step) → IsHonest (later ++ earlier) → IsFront (safe_in earlier) (safe_in (later ++ earlier))
safe_stays [] earlier h = front_self (safe_in earlier)
safe_stays (s ∷ later) earlier h =
    front_through (safe_in earlier) (safe_in (later ++ earlier)) (safe_in (s ∷ (later ++ earlier)))
    (safe_stays later earlier h.1) (step_safe s (later ++ earlier) h.1)

pub kept_ever : (later earlier : List Step) → IsHonest (later ++ earlier) → IsFront (safe_in earlier) (archive_in (later ++ earlier))
kept_ever later earlier h =
    front_through (safe_in earlier) (safe_in (later ++ earlier)) (archive_in (later ++ earlier)) (safe_stays later earlier h) (fronts (later ++ earlier) h)

-- no game stands in the archive twice
once_put : (says : Bool) (game : ℕ) (archive : List ℕ) → (says ≡ true → contains game archive ≡ false) → IsOnce archive →
    IsOnce (if says then archive ++ game ∷ [] else archive)
once_put true game archive f h = once_more game archive h (f refl)
once_put false game archive f h = h

put_new : (past : List Step) (old : View) (game : ℕ) → Good past old → puts old game ≡ true → contains game (archive_in past) ≡ false
put_new past old game G h =
    sym (G.has game) ∙ not-true (old.has game) (and_parts (is_asked (old.stage game)) (not (old.has game)) h).1

step_once : (s : Step) (past : List Step) (old new : View) → Good past old → IsStep old s new → IsHonestStep s past → IsOnce (archive_in past) → IsOnce (archive_in (s ∷ past))
step_once (Begun archive) past old new G h k f = once_front archive (archive_in past) k.1 f
step_once (Over game d says) past old new G h k f = f
step_once (Came game same says) past old new G h k f =
    once_put says game (archive_in past) (λ m. put_new past old game G (sym h.0 ∙ m)) f
step_once (Refused game) past old new G h k f = f
step_once Synced past old new G h k f = f
step_once (Left game says) past old new G h k f = f

pub once : (steps : List Step) (now : View) → IsRun steps now → IsHonest steps → IsOnce (archive_in steps)
once [] now run h = tt
once (s ∷ past) now run h = step_once s past run.0 now (run_good past run.0 run.1) run.2 h.0 (once past run.0 run.1 h.1)

-- a game for which a drop was sent is safe from then on
dropped_at : (b says before safe : Bool) → (b ≡ true → says ≡ true → safe ≡ true) → (before ≡ true → safe ≡ true) → ((b && says) || before) ≡ true → safe ≡ true
dropped_at true true before safe f k h = f refl refl
dropped_at true false before safe f k h = k h
dropped_at false says before safe f k h = k h

step_dropped : (s : Step) (past : List Step) → AllDrops (s ∷ past) → (game : ℕ) → (is_dropped past game ≡ true → contains game (safe_in past) ≡ true) →
    is_dropped (s ∷ past) game ≡ true → contains game (safe_in past) ≡ true
step_dropped (Begun archive) past d game f h = f h
step_dropped (Over g b says) past d game f h = f h
step_dropped (Came g same says) past d game f h = f h
step_dropped (Refused g) past d game f h = f h
step_dropped Synced past d game f h = f h
step_dropped (Left g says) past d game f h =
    dropped_at (g == game) says (is_dropped past game) (contains game (safe_in past))
    (λ same m. ap (λ (n : ℕ). contains n (safe_in past)) (sym (same_game g game same)) ∙ (d.0 m).2) f h

pub dropped_safe : (steps : List Step) → IsHonest steps → AllDrops steps → (game : ℕ) → is_dropped steps game ≡ true → contains game (safe_in steps) ≡ true
dropped_safe [] h d game k = absurd (false≢true k)
dropped_safe (s ∷ past) h d game k =
    front_contains game (safe_in past) (safe_in (s ∷ past)) (step_safe s past h.1)
    (step_dropped s past d game (dropped_safe past h.1 d.1 game) k)

-- a game stands in the archive since its PGN was handed to it
put_by : (says : Bool) (g game : ℕ) (archive : List ℕ) (w : Bool) → (contains game archive ≡ true → w ≡ true) →
    contains game (if says then archive ++ g ∷ [] else archive) ≡ true → ((g == game && says) || w) ≡ true
put_by true g game archive w f h = by_game (g == game) (contains game archive) w f (sym (contains_more game g archive) ∙ h)
  where
    by_game : (b c w : Bool) → (c ≡ true → w ≡ true) → (if b then true else c) ≡ true → ((b && true) || w) ≡ true
    by_game true c w f h = refl
    by_game false c w f h = f h
put_by false g game archive w f h = not_put (g == game) w (f h)
  where
    not_put : (b w : Bool) → w ≡ true → ((b && false) || w) ≡ true
    not_put true w h = h
    not_put false w h = h

step_put : (s : Step) (past : List Step) → IsHonestStep s past → (game : ℕ) → (contains game (archive_in past) ≡ true → was_put past game ≡ true) →
    contains game (archive_in (s ∷ past)) ≡ true → was_put (s ∷ past) game ≡ true
step_put (Begun archive) past k game f m = f (front_contains game archive (archive_in past) k.1 m)
step_put (Over g d says) past k game f m = f m
step_put (Came g same says) past k game f m = put_by says g game (archive_in past) (was_put past game) f m
step_put (Refused g) past k game f m = f m
step_put Synced past k game f m = f m
step_put (Left g says) past k game f m = f m

put_once : (steps : List Step) → IsHonest steps → (game : ℕ) → contains game (archive_in steps) ≡ true → was_put steps game ≡ true
put_once [] h game m = m
put_once (s ∷ past) h game m = step_put s past h.0 game (put_once past h.1 game) m

-- what is safe was handed over, and synced then
handed_before : (s : Step) (past : List Step) (game : ℕ) → IsHanded past game → IsHanded (s ∷ past) game
handed_before s past game h =
    record { since = s ∷ h.since; before = h.before; synced = ap (λ (xs : List Step). s ∷ xs) h.synced; put = h.put; stands = h.stands }

step_handed : (s : Step) (past : List Step) (game : ℕ) → IsHonest past → (contains game (safe_in past) ≡ true → IsHanded past game) →
    contains game (safe_in (s ∷ past)) ≡ true → IsHanded (s ∷ past) game
step_handed Synced past game h f m = record { since = []; before = past; synced = refl; put = put_once past h game m; stands = m }
step_handed (Begun archive) past game h f m = handed_before (Begun archive) past game (f m)
step_handed (Over g d says) past game h f m = handed_before (Over g d says) past game (f m)
step_handed (Came g same says) past game h f m = handed_before (Came g same says) past game (f m)
step_handed (Refused g) past game h f m = handed_before (Refused g) past game (f m)
step_handed (Left g says) past game h f m = handed_before (Left g says) past game (f m)

handed : (past : List Step) → IsHonest past → (game : ℕ) → contains game (safe_in past) ≡ true → IsHanded past game
handed [] h game m = absurd (false≢true m)
handed (s ∷ past) h game m = step_handed s past game h.1 (handed past h.1 game) m

drop_handed : (s : Step) (past : List Step) → IsHonest past → IsDropStep s past → IsHandedStep s past
drop_handed (Begun archive) past h d = tt
drop_handed (Over g b says) past h d = tt
drop_handed (Came g same says) past h d = tt
drop_handed (Refused g) past h d = tt
drop_handed Synced past h d = tt
drop_handed (Left g says) past h d = λ m. handed past h g (d m).2

pub all_handed : (steps : List Step) → IsHonest steps → AllDrops steps → AllHanded steps
all_handed [] h d = tt
all_handed (s ∷ past) h d = (drop_handed s past h.1 d.0, all_handed past h.1 d.1)

-- what was seen to be over was over at some time
or_weaker : (a b c : Bool) → (b ≡ true → c ≡ true) → (a || b) ≡ true → (a || c) ≡ true
or_weaker true b c f h = refl
or_weaker false b c f h = f h

step_ever : (s : Step) (past : List Step) (game : ℕ) → (is_seen past game ≡ true → was_over past game ≡ true) →
    is_seen (s ∷ past) game ≡ true → was_over (s ∷ past) game ≡ true
step_ever (Begun archive) past game f h = absurd (false≢true h)
step_ever (Over g d says) past game f h = or_weaker (g == game) (is_seen past game) (was_over past game) f h
step_ever (Came g same says) past game f h = f h
step_ever (Refused g) past game f h = f (clean_before (g == game) (is_seen past game) h)
step_ever Synced past game f h = f h
step_ever (Left g says) past game f h = f h

seen_ever : (steps : List Step) (game : ℕ) → is_seen steps game ≡ true → was_over steps game ≡ true
seen_ever [] game h = h
seen_ever (s ∷ past) game h = step_ever s past game (seen_ever past game) h

-- none stands in the archive that was never over
pub either : (b c w : Bool) → (b ≡ true → w ≡ true) → (c ≡ true → w ≡ true) → (if b then true else c) ≡ true → w ≡ true
either true c w f k h = f refl
either false c w f k h = k h

put_ever : (says : Bool) (g game : ℕ) (archive : List ℕ) (w : Bool) → (says ≡ true → (g == game) ≡ true → w ≡ true) →
    (contains game archive ≡ true → w ≡ true) → contains game (if says then archive ++ g ∷ [] else archive) ≡ true → w ≡ true
put_ever true g game archive w f k h =
    either (g == game) (contains game archive) w (f refl) k (sym (contains_more game g archive) ∙ h)
put_ever false g game archive w f k h = k h

asked_ever : (past : List Step) (old : View) (g : ℕ) → Good past old → puts old g ≡ true → was_over past g ≡ true
asked_ever past old g G h =
    seen_ever past g (G.seen_is g ∙ asked_some (old.stage g) (and_parts (is_asked (old.stage g)) (not (old.has g)) h).0)

step_finished : (s : Step) (past : List Step) (old new : View) → Good past old → IsStep old s new → IsHonestStep s past → (game : ℕ) →
    (contains game (archive_in past) ≡ true → was_over past game ≡ true) →
    contains game (archive_in (s ∷ past)) ≡ true → was_over (s ∷ past) game ≡ true
step_finished (Begun archive) past old new G h k game f m = f (front_contains game archive (archive_in past) k.1 m)
step_finished (Over g d says) past old new G h k game f m = or_right (g == game) (was_over past game) (f m)
step_finished (Came g same says) past old new G h k game f m =
    put_ever says g game (archive_in past) (was_over past game)
    (λ e same. ap (λ (n : ℕ). was_over past n) (sym (same_game g game same)) ∙ asked_ever past old g G (sym h.0 ∙ e)) f m
step_finished (Refused g) past old new G h k game f m = f m
step_finished Synced past old new G h k game f m = f m
step_finished (Left g says) past old new G h k game f m = f m

pub finished : (steps : List Step) (now : View) → IsRun steps now → IsHonest steps → (game : ℕ) → contains game (archive_in steps) ≡ true →
    was_over steps game ≡ true
finished [] now run h game m = m
finished (s ∷ past) now run h game m =
    step_finished s past run.0 now (run_good past run.0 run.1) run.2 h.0 game (finished past run.0 run.1 h.1 game) m
