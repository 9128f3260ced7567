-- A handover: both ends move, and nothing is under way behind it.
use Rattle.std.proofs.Common.{◌≡◌, ◌≤◌, ℕ, zero, suc, Bool, None, List, [], ◌∷◌, ◌++◌, map, get_or, replicate}
use Rattle.std.proofs.Common.{append_assoc, append-nil, refl, ap, sym, subst, ◌∙◌}
use Rattle.air_link.specs.Lines.{moves, hands_over}
use Rattle.air_link.specs.Link.{Link}
use Rattle.air_link.specs.Loops.{loops}
use Rattle.air_link.specs.Telling.{tells_all}
use Rattle.air_record.specs.declared.record.Record.{Record}
use Rattle.air_record.specs.declared.record.Record.TheVariants as records
use Rattle.eps_sec.specs.declared.Keys.{Keys}
use Rattle.harq.specs.Sending.{Sending, SendProcess, empty, fresh}
use Rattle.l2_node.specs.End.{End, reset}
use Rattle.bearer_types.specs.Sides.{sent_by}
use Rattle.l2_node.specs.Moving.{left_cell, joined, leaving}
use Rattle.l2_types.specs.declared.side.Side.{Side}
use Rattle.l2_types.specs.declared.side.Side.TheVariants.{Nb, Ue}
use Rattle.law_node.specs.Calls.{Move, after as after_call}
use Rattle.law_node.proofs.Looping.{tells_no_loop}
use Rattle.promises.specs.Records.{events_of}
use Rattle.law_run.proofs.AnyCalls.Going.{told_both, own_told, other_told, Seen, seen, behind, told_seen}
use Rattle.um_losses.specs.declared.cursor.Cursor.{Cursor}
use Rattle.um_losses.specs.declared.flow.Happening.{Happening}
use Rattle.um_losses.specs.declared.flow.Happening.TheVariants.{LifeRestarted}
use Rattle.um_losses.specs.Told.{told_in, place_behind}
use Rattle.law_deliver.specs.UmGaps.Whats.{expiries}
use Rattle.law_deliver.specs.AmFlow.Air.{Station, Air, begins, outset, HasCome}
use Rattle.law_deliver.proofs.AmFlow.Stations.{come_more}
use Rattle.promises.specs.Flows.{loops_in}
use Rattle.law_run.specs.TwoEnds.Shown.{IsShown}
use Rattle.law_run.specs.TwoEnds.Logs.{LogEntry, all_tell, Flight, logged, last_in, flight_in}
use Rattle.law_run.specs.TwoEnds.On.{until, block_at, IsStation}
use Rattle.law_words.specs.Arrivals.{AccountEntry}
use Rattle.law_node.proofs.Silences.{writes_nothing}
use Rattle.promises.specs.Arrival.{entries_in}
use Rattle.law_run.proofs.TwoEnds.Along.{logged_more, looped_more}
use Rattle.law_run.proofs.TwoEnds.Going.{moving, Any, Renewed, TellNoAir, tells_more}
use Rattle.law_run.proofs.TwoEnds.Steps.{goes_move, move_whats}
use Rattle.law_run.proofs.TwoEnds.Showing.{in_both, events_own, events_hidden}
use Rattle.law_run.proofs.TwoEnds.Resting.{loops_rests}
use Rattle.law_run.proofs.TwoEnds.Stages.{Both, StageBehind, stages_then, Stands, events_unlooped}
use Rattle.law_run.proofs.TwoEnds.QuietEvents.{quiet_events}
use Rattle.law_run.proofs.TwoEnds.Stages.{unlooped_goes, own_logged, StayShown}
use Rattle.law_run.proofs.TwoEnds.Stations.{Waits}

-- ---- processes that hold nothing, with 1 to 28 visits of a block

empty_at : (n p : ℕ) → get_or (replicate n empty) p empty ≡ empty
empty_at zero p = refl
empty_at (suc n) zero = refl
empty_at (suc n) (suc p) = empty_at n p

pub fresh_at : (maximum p : ℕ) → block_at (fresh maximum) p ≡ None
unfolding fresh
fresh_at maximum p = ap (λ (x : SendProcess). x.held) (empty_at 8 p)

pub record IsEmpty (s : Sending) : Type 0 where
  pub some : 1 ≤ s.maximum
  pub few : s.maximum ≤ 28
  pub none : (p : ℕ) → block_at s p ≡ None

pub fresh_empty : (maximum : ℕ) → 1 ≤ maximum → maximum ≤ 28 → IsEmpty (fresh maximum)
unfolding fresh
fresh_empty maximum some few = record { some = some; few = few; none = λ p. fresh_at maximum p }

pub begun : (side : Side) (w : ℕ → ℕ) (e : End) → HasCome side e → IsEmpty e.sender → IsStation side w (begins e)
begun side w e come h = record {
  come = come;
  some = h.some;
  few = h.few;
  held = tt;
  flying = λ p n. absurd (n (h.none p));
}

-- ---- both ends move

moved_empty : (e : End) (keys : Keys) → 1 ≤ e.sender.maximum → e.sender.maximum ≤ 28
    → IsEmpty (after_call e (Move keys)).sender
unfolding joined left_cell reset
moved_empty e keys some few = fresh_empty e.sender.maximum some few

moved_stands : (side : Side) (w : ℕ → ℕ) (t : ℕ) (s : Station) (keys : Keys) → IsStation side w s
    → Stands side (Waits t) (begins (after_call s.end (Move keys)))
moved_stands side w t s keys h =
    record {
      is = begun side (until t) (after_call s.end (Move keys)) (come_more side s.end (Move keys) h.come tt)
          (moved_empty s.end keys h.some h.few);
      idle = refl;
    }

both_quiet : (f g : List Record) → TellNoAir f → TellNoAir g → TellNoAir (f ++ g)
both_quiet f g p q bits l from sent = tells_more bits l from sent f g
    ∙ (ap (λ (hs : List AccountEntry). hs ++ entries_in bits l from (last_in f sent) g) (p bits l from sent)
    ∙ q bits l from (last_in f sent))

-- what they hand up as they leave is told
abbrev pub left_told : Link → List Record
left_told k = map (records.Of Nb) (leaving k.nb) ++ map (records.Of Ue) (leaving k.ue)

abbrev pub moved_link : Keys → Link → Link
moved_link keys k = tells_all Ue (leaving k.ue) (tells_all Nb (leaving k.nb) (moves keys k))

pub record Moved (keys : Keys) (k : Link) (t : ℕ) (a : Air) : Type 0 where
  pub out_is : (moved_link keys k).out ≡ k.out ++ left_told k
  pub nb_told : events_of Nb (left_told k) ≡ leaving a.nb.end
  pub ue_told : events_of Ue (left_told k) ≡ leaving a.ue.end
  pub unlooped : (i : ℕ) → loops_in i (left_told k) ≡ []
  pub unflown : TellNoAir (left_told k)
  pub logged_are : (sent : Flight)
      → logged sent (left_told k) ≡ all_tell Nb (leaving a.nb.end) ++ all_tell Ue (leaving a.ue.end)
  pub stays : (l : ℕ) → StayShown l k (moved_link keys k)
  pub both : Both (Stands Nb (Waits t)) (Stands Ue (Waits t)) (moved_link keys k)
      (outset (after_call a.nb.end (Move keys)) (after_call a.ue.end (Move keys)))

pub moved_so : (keys : Keys) (k : Link) (t : ℕ) (a : Air) → Both (Stands Nb (Waits t)) (Stands Ue (Waits t)) k a
    → Moved keys k t a
moved_so keys k t a h =
    let j = moves keys k in
    let xs = map (records.Of Nb) (leaving k.nb) in
    let ys = map (records.Of Ue) (leaving k.ue) in
    let m = tells_all Nb (leaving k.nb) j in
    let n = tells_all Ue (leaving k.ue) m in
    let nb = after_call k.nb (Move keys) in
    let ue = after_call k.ue (Move keys) in
    let n_seen : seen n ≡ behind k nb ue (xs ++ ys) =
    told_seen Ue (leaving k.ue) m
    ∙ ap (λ (s : Seen). record { nb = s.nb; ue = s.ue; out = s.out ++ ys; kinds = s.kinds })
    (told_seen Nb (leaving k.nb) j)
    ∙ ap (λ (o : List Record). record { nb = nb; ue = ue; out = o; kinds = k.kinds }) (append_assoc k.out xs ys) in
    record {
      out_is = ap (λ (s : Seen). s.out) n_seen;
      nb_told = told_both Nb xs ys (leaving k.nb) [] (own_told Nb (leaving k.nb) (tells_no_loop k.nb (Move keys)))
          (other_told Ue (leaving k.ue)) ∙ append-nil (leaving k.nb) ∙ ap leaving (sym h.nb_is);
      ue_told = told_both Ue xs ys [] (leaving k.ue) (other_told Nb (leaving k.nb))
          (own_told Ue (leaving k.ue) (tells_no_loop k.ue (Move keys))) ∙ ap leaving (sym h.ue_is);
      unlooped = λ i. sym (looped_more Ue i xs ys)
          ∙ ap (λ (x : List (List ℕ)). x ++ loops_in i ys) (events_unlooped i Nb (leaving k.nb))
          ∙ events_unlooped i Ue (leaving k.ue);
      unflown = both_quiet xs ys (quiet_events Nb (leaving k.nb) (writes_nothing k.nb).moving)
          (quiet_events Ue (leaving k.ue) (writes_nothing k.ue).moving);
      logged_are = λ sent.
          logged_more sent xs ys
          ∙ (ap (λ (hs : List LogEntry). hs ++ logged (flight_in xs sent) ys)
          (own_logged Nb (leaving k.nb) (tells_no_loop k.nb (Move keys)) sent)
          ∙ (ap (λ (hs : List LogEntry). all_tell Nb (leaving k.nb) ++ hs)
          (own_logged Ue (leaving k.ue) (tells_no_loop k.ue (Move keys)) (flight_in xs sent))
          ∙ (ap (λ (e : End). all_tell Nb (leaving e) ++ all_tell Ue (leaving k.ue)) (sym h.nb_is)
          ∙ ap (λ (e : End). all_tell Nb (leaving a.nb.end) ++ all_tell Ue (leaving e)) (sym h.ue_is))));
      stays = λ l bits. subst (IsShown l bits) (sym (ap (λ (s : Seen). s.kinds) n_seen));
      both = record {
        nb_is = ap (λ (e : End). after_call e (Move keys)) h.nb_is ∙ sym (ap (λ (s : Seen). s.nb) n_seen);
        ue_is = ap (λ (e : End). after_call e (Move keys)) h.ue_is ∙ sym (ap (λ (s : Seen). s.ue) n_seen);
        nb = moved_stands Nb (until t) t a.nb keys h.nb.is;
        ue = moved_stands Ue (until t) t a.ue keys h.ue.is;
      };
    }

moves_show : (l : ℕ) (keys : Keys) (k : Link) (a : Air) → a.nb.end ≡ k.nb → a.ue.end ≡ k.ue
    → (bits : ℕ) (from : Side) (c : Cursor)
    → LifeRestarted ∷ told_in (sent_by from) l c (left_told k) ≡ move_whats l a keys bits from
moves_show l keys k a nb ue bits Nb c =
    let xs = map (records.Of Nb) (leaving k.nb) in
    let ys = map (records.Of Ue) (leaving k.ue) in
    ap (λ (ws : List Happening). LifeRestarted ∷ ws)
    (in_both (sent_by Nb) l c xs ys [] (expiries l (leaving k.ue)) (events_hidden Nb l c (leaving k.nb))
    (events_own Nb l (place_behind c xs) (leaving k.ue)) ∙ ap (λ (e : End). expiries l (leaving e)) (sym ue))
moves_show l keys k a nb ue bits Ue c =
    let xs = map (records.Of Nb) (leaving k.nb) in
    let ys = map (records.Of Ue) (leaving k.ue) in
    ap (λ (ws : List Happening). LifeRestarted ∷ ws)
    (in_both (sent_by Ue) l c xs ys (expiries l (leaving k.nb)) [] (events_own Ue l c (leaving k.nb))
    (events_hidden Ue l (place_behind c xs) (leaving k.ue))
    ∙ append-nil (expiries l (leaving k.nb)) ∙ ap (λ (e : End). expiries l (leaving e)) (sym nb))

move_stage : (l : ℕ) (set : Bool) (keys : Keys) (k : Link) (t : ℕ)
    → StageBehind l (moving set) Renewed Any (Stands Nb (Waits t)) (Stands Ue (Waits t)) (Stands Nb (Waits t))
    (Stands Ue (Waits t)) k (moved_link keys k)
move_stage l set keys k t a h =
    let m = moved_so keys k t a h in
    let b = outset (after_call a.nb.end (Move keys)) (after_call a.ue.end (Move keys)) in
    record {
      air = b;
      more = left_told k;
      out_is = m.out_is;
      goes = unlooped_goes l (moving set) (left_told k) a b m.unlooped
          (goes_move l set (left_told k) keys a m.unflown m.nb_told m.ue_told m.logged_are m.unlooped);
      ws = move_whats l a keys;
      left = λ sent fits. tt;
      stands = λ p at. tt;
      stays = m.stays l;
      shown = λ bits s from p at. moves_show l keys k a h.nb_is h.ue_is bits from p;
      both = m.both;
    }

pub handover_stage : (l : ℕ) (set : Bool) (keys : Keys) (k : Link) (t : ℕ)
    → StageBehind l (moving set) Renewed Any (Stands Nb (Waits t)) (Stands Ue (Waits t)) (Stands Nb (Waits t))
    (Stands Ue (Waits t)) k (hands_over keys k)
unfolding hands_over
handover_stage l set keys k t =
    let n = moved_link keys k in
    let P = Stands Nb (Waits t) in
    let Q = Stands Ue (Waits t) in
    stages_then l (moving set) Renewed Any Any refl P Q P Q P Q k n (loops n) (move_stage l set keys k t)
    (loops_rests l (moving set) n (Waits t) (Waits t))
