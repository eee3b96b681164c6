use Rattle.std.proofs.Common.{◌≡◌, true, false, inr, List, ap, sym, ◌∙◌, ◌∷◌, []}
use Rattle.std.proofs.lemmas.List.{map-append}
use Rattle.lobby_players.specs.File.{has_name, entry_of, entries_of}
use Rattle.lobby_players.proofs.EachLine.{any_of}
use Rattle.lobby_players.proofs.SeenOf.{name_held, name_new, sum_held, sum_new}
use Rattle.lobby_players.proofs.reading.take.Goals as goal

pub returns-then-has_name-clause-taken : goal.returns-then-has_name-clause-taken
returns-then-has_name-clause-taken c =
    let player = c.in-Some.player in (
      sym c.is_silent.ensures ∙ c.if-is_silent.false,
      record {
        entry = entry_of player;
        told = rw c.in-Some.is at c.in_ok-player.ensures.some;
        again = any_of (has_name player.name) c.has_name.result true c.as_slice.result.now c.args.players.now.items c.has_name.ensures
            c.as_slice.ensures.value c.if-has_name.true;
      },
    )

pub returns-then-not-is_name_new-clause-taken : goal.returns-then-not-is_name_new-clause-taken
returns-then-not-is_name_new-clause-taken c =
    let player = c.in-Some.player in
    let seen = c.args.seen.now in (
      sym c.is_silent.ensures ∙ c.if-is_silent.false,
      record {
        entry = entry_of player;
        told = rw c.in-Some.is at c.in_ok-player.ensures.some;
        named = any_of (has_name player.name) c.has_name.result false c.as_slice.result.now c.args.players.now.items c.has_name.ensures
            c.as_slice.ensures.value c.if-has_name.false;
        alike = name_held seen.names.keys seen.sums.keys c.args.players.now.items c.requires player.name c.in_ok-is_name_new.is_name_new
            c.in_ok-is_name_new.ensures.new c.if-not-is_name_new.true;
      },
    )

pub returns-then-not-is_sum_new-clause-taken : goal.returns-then-not-is_sum_new-clause-taken
returns-then-not-is_sum_new-clause-taken c =
    let player = c.in-Some.player in
    let seen = c.args.seen.now in (
      sym c.is_silent.ensures ∙ c.if-is_silent.false,
      record {
        entry = entry_of player;
        told = rw c.in-Some.is at c.in_ok-player.ensures.some;
        named = name_new seen.names.keys seen.sums.keys c.args.players.now.items c.requires player.name c.in_ok-is_name_new.is_name_new
            c.in_ok-is_name_new.ensures.new c.if-not-is_name_new.false;
        again = sum_held seen.names.keys seen.sums.keys c.args.players.now.items c.requires c.put_name.new.self.sums.keys player.sum
            c.in_ok-is_sum_new.is_sum_new c.in_ok-is_name_new.ensures.sums c.in_ok-is_sum_new.ensures.new c.if-not-is_sum_new.true;
      },
    )

pub returns-clause-taken : goal.returns-clause-taken
returns-clause-taken c =
    let player = c.in-Some.player in
    let seen = c.args.seen.now in
    inr (record {
      spoken = sym c.is_silent.ensures ∙ c.if-is_silent.false;
      entry = entry_of player;
      told = rw c.in-Some.is at c.in_ok-player.ensures.some;
      named = name_new seen.names.keys seen.sums.keys c.args.players.now.items c.requires player.name c.in_ok-is_name_new.is_name_new
          c.in_ok-is_name_new.ensures.new c.if-not-is_name_new.false;
      shown = sum_new seen.names.keys seen.sums.keys c.args.players.now.items c.requires c.put_name.new.self.sums.keys player.sum
          c.in_ok-is_sum_new.is_sum_new c.in_ok-is_name_new.ensures.sums c.in_ok-is_sum_new.ensures.new c.if-not-is_sum_new.false;
      put = ap entries_of c.in_ok-push.ensures.items ∙ map-append entry_of c.args.players.now.items (player ∷ []);
    })
