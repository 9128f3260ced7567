use Rattle.std.proofs.Common.{◌≡◌, ◌∙◌, [], sym, arith}
use Rattle.line_player.specs.Journal.{journal_by}
use Rattle.line_player.specs.declared.playing.TurnEnd.TheVariants.{Next, Over, Stop}
use Rattle.l2_io.proofs.Written.{risen_from}
use Rattle.line_player.proofs.Gathering.{gathers-first, gathers-put, gathers-on, gathers-over, fails, runs-out, stops}
use Rattle.line_player.proofs.Gathering.{never-risen, puts-by, puts-failed, puts-none, past-on, past-over, past-stops}
use Rattle.line_player.proofs.playing.play_lines.Goals as goal
use Rattle.line_player.proofs.playing.play_lines.Goals.{then-goes_past, else-goes_past}

pub loop-number-init : goal.loop-number-init
loop-number-init g c = record {
  gathers = rw (c.requires.kept, c.requires.empty, c.requires.fresh) (gathers-first g.P.Player.machine _ _);
  few = omega arith;
  longest = c.requires.longest;
  open_ = c.requires.open;
  source_count = omega arith;
  out_count = omega arith;
}

pub returns-in-Err-Failed-clause-played : goal.returns-in-Err-Failed-clause-played
returns-in-Err-Failed-clause-played g c =
    let put = puts-failed _ c.make_room.new.gathered.octets _ _ _ _ c.in-Err-Failed.field-0-is
    c.in-Err-Failed.ensures.put in
    fails g.P.Player.machine (journal_by g.P.Player.machine) _ _ _ _ _ _ _
    _ _ _ _ c.loop-number.invariant.gathers put.0 (risen_from _ _ _ c.loop-number.invariant.out_count put.1)

pub returns-in-Err-NoMemory-clause-played : goal.returns-in-Err-NoMemory-clause-played
returns-in-Err-NoMemory-clause-played g c =
    runs-out g.P.Player.machine (journal_by g.P.Player.machine) _ _ _ _ _
    _ _ _ _ _ _ c.loop-number.invariant.gathers
    (puts-none _ c.make_room.new.gathered.octets _ _ _ _ c.in-Err-NoMemory.field-0-is c.in-Err-NoMemory.ensures.put)

pub returns-in-Over-clause-played : goal.returns-in-Over-clause-played
returns-in-Over-clause-played g c =
    let m = g.P.Player.machine in
    let room = c.in-Ok.ensures.put in
    let gathers =
    gathers-put m (journal_by m) _ _ _ _ _ _ room.0 _ _ _ _ c.loop-number.invariant.gathers
    room.1 room.2 in
    elim c.if-goes_past.branch [
      | then-goes_past w ↦
          let ends : w.turn-end.result ≡ Over = sym w.end-is ∙ c.in-Over.is in
          let none = c.in-Ok.ensures.empty w.if-goes_past.true in
          rw (w.player-is, w.gathered-is, w.source-is, w.out-is)
          (past-over m (journal_by m) _ _ _ _ _ _ _ _ _ _ _ none gathers
          (rw ends at w.turn-end.ensures.turn))
      | else-goes_past w ↦
          let ends : w.turn-end-else-goes_past.result ≡ Over = sym w.end-is ∙ c.in-Over.is in
          rw (w.player-is, w.gathered-is, w.source-is, w.out-is)
          (gathers-over m (journal_by m) _ _ _ _ _ _ _ _ _ _ _ gathers
          (rw ends at w.turn-end-else-goes_past.ensures.turn))
    ]

pub returns-in-Stop-clause-played : goal.returns-in-Stop-clause-played
returns-in-Stop-clause-played g c =
    let m = g.P.Player.machine in
    let room = c.in-Ok.ensures.put in
    let gathers =
    gathers-put m (journal_by m) _ _ _ _ _ _ room.0 _ _ _ _ c.loop-number.invariant.gathers
    room.1 room.2 in
    elim c.if-goes_past.branch [
      | then-goes_past w ↦
          let ends : w.turn-end.result ≡ Stop c.in-Stop.ending = sym w.end-is ∙ c.in-Stop.is in
          let none = c.in-Ok.ensures.empty w.if-goes_past.true in
          let held : c.if-goes_past.gathered.octets ≡ [] = rw w.gathered-is none in
          let same = c.put_rest.ensures.empty held in
          rw (same.0, same.1, w.source-is, w.out-is)
          (past-stops m (journal_by m) _ _ _ _ _ _ _ _ _ _ _ _ _ _ _ none gathers
          (risen_from _ _ _ c.loop-number.invariant.source_count) (risen_from _ _ _ (omega arith))
          (rw ends at w.turn-end.ensures.turn))
      | else-goes_past w ↦
          let ends : w.turn-end-else-goes_past.result ≡ Stop c.in-Stop.ending = sym w.end-is ∙ c.in-Stop.is in
          let put = rw (w.gathered-is, w.out-is) at c.put_rest.ensures.put in
          rw w.source-is
          (stops m (journal_by m) _ _ _ _ _ _ _ _ _ _ _ _ _ _ _ _ _ gathers
          (risen_from _ _ _ c.loop-number.invariant.source_count) never-risen
          (rw ends at w.turn-end-else-goes_past.ensures.turn)
          (puts-by _ _ _ _ _ _ _ (risen_from _ _ _ (omega arith)) put))
    ]

pub loop-number-preserved : goal.loop-number-preserved
loop-number-preserved g c =
    let m = g.P.Player.machine in
    let room = c.in-Ok.ensures.put in
    let gathers =
    gathers-put m (journal_by m) _ _ _ _ _ _ room.0 _ _ _ _ c.loop-number.invariant.gathers
    room.1 room.2 in
    elim c.if-goes_past.branch [
      | then-goes_past w ↦
          let ends : w.turn-end.result ≡ Next = sym w.end-is ∙ c.in-Next.is in
          let none = c.in-Ok.ensures.empty w.if-goes_past.true in
          rw (w.lines-is, w.player-is, w.gathered-is, w.source-is, w.out-is)
          (record {
            gathers = past-on m (journal_by m) _ _ _ _ _ _ _ _ _ _ _ _ _ none gathers
                (rw ends at w.turn-end.ensures.turn);
            few = omega (arith, w.turn-end.ensures.few ends);
            longest = w.turn-end.ensures.longest;
            open_ = w.turn-end.ensures.open ends;
            source_count = omega (arith, w.turn-end.ensures.source_count);
            out_count = omega (arith, w.turn-end.ensures.out_count);
          })
      | else-goes_past w ↦
          let ends : w.turn-end-else-goes_past.result ≡ Next = sym w.end-is ∙ c.in-Next.is in
          rw (w.lines-is, w.player-is, w.gathered-is, w.source-is, w.out-is)
          (record {
            gathers = gathers-on m (journal_by m) _ _ _ _ _ _ _ _ _ _ _ _ _ gathers
                (rw ends at w.turn-end-else-goes_past.ensures.turn);
            few = omega (arith, w.turn-end-else-goes_past.ensures.few ends);
            longest = w.turn-end-else-goes_past.ensures.longest;
            open_ = w.turn-end-else-goes_past.ensures.open ends;
            source_count = omega (arith, w.turn-end-else-goes_past.ensures.source_count);
            out_count = omega arith;
          })
    ]
