-- What the test loop returns through every line.
use Rattle.std.proofs.Common.{◌≡◌, ℕ, ◌+◌, zero, suc, Bool, true, false, List, [], ◌∷◌, ◌++◌, take, append-nil}
use Rattle.std.proofs.Common.{append_assoc, refl, ap, sym, subst, ◌∙◌, arith}
use Rattle.std.specs.Prelude.{Option}
use Rattle.air_link.specs.Draining.{drain_tti, carried, receivers_expire, is_drained}
use Rattle.air_link.specs.Link.{Link, fresh as fresh_link}
use Rattle.air_record.specs.declared.line.Line.{Line}
use Rattle.air_record.specs.declared.line.Line.TheVariants as lines
use Rattle.air_record.specs.declared.record.Record.{Record}
use Rattle.air_run.specs.Draining.{shown, Drained, at_once, behind, ttis, senders_unless, round, left_by, done_by}
use Rattle.air_run.specs.Draining.{round_told, rounds, budget, drained}
use Rattle.air_record.specs.declared.record.Record.TheVariants as records
use Rattle.air_run.specs.Playing.{keys_or_none, acted, played}
use Rattle.air_record.specs.Cells.{next_keys}
use Rattle.air_run.specs.Run.{fresh, behind_line}
use Rattle.air_text.specs.Groups.{Group, group_records, history}
use Rattle.eps_sec.specs.declared.Keys.{Keys}
use Rattle.law_run.specs.AnyCalls.Calls as calls
use Rattle.law_run.specs.AnyCalls.Loops.{ComeBack, IsAtRest, LoopsBack}
use Rattle.promises.specs.Loops.{ArePart, gone_up, returned, item_count, is_dropped, drop_count, mode_by, mode_in_force}
use Rattle.promises.specs.Loops.{all_gone_up}
use Rattle.promises.specs.Loops.{all_returned, AreReturned, ReturnInOrder}
use Rattle.law_run.proofs.AnyCalls.Adding.{count_then}
use Rattle.law_run.proofs.AnyCalls.Returning.{part_on, on_both, back_none, back_then, IsSilent, back_silent}
use Rattle.law_run.proofs.AnyCalls.Settling.{loops_back_then, first_rests, calls_loop_back, submissions_loop_back}
use Rattle.law_run.proofs.AnyCalls.Settling.{ttis_loop_back, drains_loop_back}
use Rattle.test_loop.specs.declared.Mode.{Mode}
use Rattle.test_loop.specs.declared.Mode.TheVariants.{Off, A, B}
use Rattle.test_loop.specs.Items.{Item}
use Rattle.test_loop.specs.Loops.{fresh as no_loop, is_keeping}
use Rattle.law_run.specs.Order.{state_behind, KeepsOrder}
use Rattle.law_run.proofs.Past.{behind as all_behind, link_behind}

-- the records are written
shown_rests : (l : Link) → IsAtRest l → IsAtRest (shown l)
shown_rests l r = record { none_waits = r.none_waits; none_kept = r.none_kept }

still_back : (l : Link) → IsAtRest l → LoopsBack l.looping.mode l l
still_back l r = record {
  more = [];
  out_is = sym (append-nil l.out);
  mode_is = refl;
  rests = r;
  come_back = back_none l.looping.mode l.looping.kept l.looping.kept refl;
}

more_only : (mode' : Mode) (l m : Link) → l.out ≡ [] → (p : LoopsBack mode' l m) → m.out ≡ p.more
more_only mode' l m nothing p = p.out_is ∙ ap (λ (x : List Record). x ++ p.more) nothing

-- ---- a TTI of a drain

senders_back : (b : Bool) (l : Link) → IsAtRest l → LoopsBack l.looping.mode l (senders_unless b l)
senders_back true l r = still_back l r
senders_back false l r = calls_loop_back calls.SendersExpire l r

round_back : (grant : ℕ) (l : Link) → IsAtRest l → LoopsBack l.looping.mode l (round grant l)
round_back grant l r =
    let mode' = l.looping.mode in
    let m = drain_tti grant l in
    let n = receivers_expire m in
    let o = senders_unless (carried m) n in
    let p = drains_loop_back grant l r in
    let q : LoopsBack mode' m n =
    subst (λ (x : Mode). LoopsBack x m n) p.mode_is (calls_loop_back calls.ReceiversExpire m p.rests) in
    let s : LoopsBack mode' n o =
    subst (λ (x : Mode). LoopsBack x n o) q.mode_is (senders_back (carried m) n q.rests) in
    loops_back_then mode' l n o (loops_back_then mode' l m n p q) s

-- ---- a part of a drain

record DrainLoops (mode' : Mode) (l : Link) (d : Drained) : Type 0 where
  nothing : d.link.out ≡ []
  mode_is : d.link.looping.mode ≡ mode'
  rests : IsAtRest d.link
  come_back : ComeBack mode' l.looping.kept d.link.looping.kept d.journal

none_loops : (mode' : Mode) (l : Link) → l.out ≡ [] → l.looping.mode ≡ mode' → IsAtRest l
    → DrainLoops mode' l (at_once l)
none_loops mode' l nothing e r =
    record {
      nothing = nothing;
      mode_is = e;
      rests = r;
      come_back = back_none mode' l.looping.kept l.looping.kept refl;
    }

-- a TTI before others
first_loops : (mode' : Mode) (done : ℕ) (l m : Link) (d : Drained) → l.out ≡ [] → LoopsBack mode' l m
    → DrainLoops mode' (shown m) d → DrainLoops mode' l (behind m.out done d)
first_loops mode' done l m d nothing p q = record {
  nothing = q.nothing;
  mode_is = q.mode_is;
  rests = q.rests;
  come_back = back_then mode' l.looping.kept m.looping.kept d.link.looping.kept m.out d.journal
      (subst (λ (x : List Record). ComeBack mode' l.looping.kept m.looping.kept x)
      (sym (more_only mode' l m nothing p)) p.come_back) q.come_back;
}

ttis_loop : (n grant : ℕ) (mode' : Mode) (l : Link) → l.out ≡ [] → l.looping.mode ≡ mode' → IsAtRest l
    → DrainLoops mode' l (ttis n grant l)
ttis_loop zero grant mode' l nothing e r = none_loops mode' l nothing e r
ttis_loop (suc n) grant mode' l nothing e r =
    let m = drain_tti grant l in
    let p : LoopsBack mode' l m = subst (λ (x : Mode). LoopsBack x l m) e (drains_loop_back grant l r) in
    first_loops mode' 0 l m (ttis n grant (shown m)) nothing p
    (ttis_loop n grant mode' (shown m) refl p.mode_is (shown_rests m p.rests))

round_by : (n grant : ℕ) (mode' : Mode) (l : Link) → l.out ≡ [] → l.looping.mode ≡ mode' → IsAtRest l → (b : Bool)
    → ((m : Link) → m.out ≡ [] → m.looping.mode ≡ mode' → IsAtRest m → DrainLoops mode' m (rounds n grant m))
    → DrainLoops mode' l (behind (round_told b grant l) (done_by b) (rounds n grant (left_by b grant l)))
round_by n grant mode' l nothing e r true rest = let q = rest l nothing e r in
    record { nothing = q.nothing; mode_is = q.mode_is; rests = q.rests; come_back = q.come_back }
round_by n grant mode' l nothing e r false rest =
    let m = round grant l in
    let p : LoopsBack mode' l m = subst (λ (x : Mode). LoopsBack x l m) e (round_back grant l r) in
    first_loops mode' 1 l m (rounds n grant (shown m)) nothing p (rest (shown m) refl p.mode_is (shown_rests m p.rests))

rounds_loop : (n grant : ℕ) (mode' : Mode) (l : Link) → l.out ≡ [] → l.looping.mode ≡ mode' → IsAtRest l
    → DrainLoops mode' l (rounds n grant l)
rounds_loop zero grant mode' l nothing e r = none_loops mode' l nothing e r
rounds_loop (suc n) grant mode' l nothing e r =
    round_by n grant mode' l nothing e r (is_drained l) (λ m none f q. rounds_loop n grant mode' m none f q)

end_is_silent : (done : ℕ) → IsSilent (records.Drained done)
end_is_silent done = record { none_back = refl; none_due = λ mode. refl; none_lost = λ k. refl }

drained_back : (grant : ℕ) (l : Link) → l.out ≡ [] → IsAtRest l
    → LoopsBack l.looping.mode l (record (drained grant l).link { out = (drained grant l).journal })
unfolding drained
drained_back grant l nothing r =
    let mode' = l.looping.mode in
    let d = ttis 8 grant l in
    let e = rounds (budget l) grant d.link in
    let p = ttis_loop 8 grant mode' l nothing refl r in
    let q = rounds_loop (budget l) grant mode' d.link p.nothing p.mode_is p.rests in
    let whole = behind d.journal 0 e in
    let last = records.Drained whole.done ∷ [] in
    let kept = e.link.looping.kept in
    record {
      more = whole.journal ++ last;
      out_is = ap (λ (x : List Record). x ++ (whole.journal ++ last)) (sym nothing);
      mode_is = q.mode_is;
      rests = record { none_waits = q.rests.none_waits; none_kept = q.rests.none_kept };
      come_back = back_then mode' l.looping.kept kept kept whole.journal last
          (back_then mode' l.looping.kept d.link.looping.kept kept d.journal e.journal p.come_back q.come_back)
          (back_silent mode' kept last (end_is_silent whole.done, tt));
    }

-- ---- every line

line_back : (line : Line) (keys : Option Keys) (l : Link) → l.out ≡ [] → IsAtRest l
    → LoopsBack (mode_by line l.looping.mode) l (played line keys l)
unfolding acted
line_back (lines.Harq maximum) keys l nothing r = calls_loop_back (calls.Visits maximum) l r
line_back lines.Bsr keys l nothing r = calls_loop_back calls.Reports l r
line_back (lines.Keys ks) keys l nothing r = still_back l r
line_back (lines.Bearer config options) keys l nothing r = calls_loop_back (calls.Bears config (keys_or_none keys)) l r
line_back (lines.Submit side lcid octets) keys l nothing r = submissions_loop_back side lcid octets l r
line_back (lines.Tti up_grant up down_grant down) keys l nothing r = ttis_loop_back up_grant up down_grant down l r
line_back (lines.Expire side lcid clock) keys l nothing r = calls_loop_back (calls.Expires side lcid clock) l r
line_back (lines.Handover user rrc integrity) keys l nothing r =
    calls_loop_back (calls.HandsOver (next_keys user rrc integrity (keys_or_none keys))) l r
line_back lines.LoopOff keys l nothing r = calls_loop_back (calls.Loops Off) l r
line_back (lines.LoopA size) keys l nothing r = calls_loop_back (calls.Loops (A size)) l r
line_back (lines.LoopB delay) keys l nothing r = calls_loop_back (calls.Loops (B delay)) l r
line_back (lines.Drain grant) keys l nothing r = drained_back grant l nothing r
line_back (lines.Forge side octets) keys l nothing r = calls_loop_back (calls.Forges side octets) l r
line_back (lines.Discard lcid count) keys l nothing r = calls_loop_back (calls.Discards lcid count) l r
line_back (lines.Drx config) keys l nothing r = calls_loop_back (calls.Listens config) l r
line_back lines.End keys l nothing r = still_back l r

-- ---- behind groups

record LoopsBehind (past : List Group) : Type 0 where
  mode_is : (link_behind past).looping.mode ≡ mode_in_force past
  rests : IsAtRest (link_behind past)
  part : ArePart (all_returned past ++ (link_behind past).looping.kept) (all_gone_up past)
  all : (lcid : ℕ) → item_count lcid (all_gone_up past)
      ≡ (item_count lcid (all_returned past) + drop_count lcid (history past))
      + item_count lcid (link_behind past).looping.kept
  in_order : ReturnInOrder past

first_loop : LoopsBehind []
unfolding fresh fresh_link no_loop
first_loop = record { mode_is = refl; rests = first_rests; part = tt; all = λ lcid. refl; in_order = tt }

-- what a line leaves of all that
record NextLoops (past : List Group) (g : Group) (m : Link) : Type 0 where
  returned' : AreReturned past g
  part : ArePart (all_returned (g ∷ past) ++ m.looping.kept) (all_gone_up (g ∷ past))
  all : (lcid : ℕ) → item_count lcid (all_gone_up (g ∷ past))
      ≡ (item_count lcid (all_returned (g ∷ past)) + drop_count lcid (history (g ∷ past))) + item_count lcid
      m.looping.kept

next_loops : (past : List Group) (g : Group) (m : Link) → (link_behind past).out ≡ [] → LoopsBehind past
    → LoopsBack (mode_in_force (g ∷ past)) (link_behind past) m → g.events ≡ m.out → NextLoops past g m
next_loops past g m nothing b p events_are =
    let new = mode_in_force (g ∷ past) in
    let kept = (link_behind past).looping.kept in
    let told : g.events ≡ p.more = events_are ∙ more_only new (link_behind past) m nothing p in
    let back : ComeBack new kept m.looping.kept g.events =
    subst (λ (x : List Record). ComeBack new kept m.looping.kept x) (sym told) p.come_back in
    let whole : ArePart (all_returned past ++ (returned g.events ++ m.looping.kept)) (all_gone_up (g ∷ past)) =
    part_on (all_returned past) kept (all_gone_up past) (returned g.events ++ m.looping.kept) (gone_up new g.events)
    b.part back.whole in
    let all : (lcid : ℕ) → item_count lcid (all_gone_up (g ∷ past))
    ≡ (item_count lcid (all_returned (g ∷ past)) + drop_count lcid (history (g ∷ past))) + item_count lcid
    m.looping.kept =
    λ lcid.
    let went = on_both lcid (all_gone_up past) (gone_up new g.events) in
    let came = on_both lcid (all_returned past) (returned g.events) in
    let lost : drop_count lcid (history (g ∷ past)) ≡ drop_count lcid (history past) + drop_count lcid g.events =
    count_then (is_dropped lcid) (history past) (group_records g) in
    omega (arith, went, came, lost, b.all lcid, back.all lcid) in
    record {
      returned' = record {
        in_order = λ n. part_on (all_returned past) kept (all_gone_up past) (returned (take n g.events))
            (gone_up new (take n g.events)) b.part (back.each n);
        others = λ h lcid.
            let none : item_count lcid m.looping.kept ≡ 0 =
            ap (item_count lcid) (p.rests.none_kept (ap is_keeping p.mode_is ∙ h)) in
            omega (arith, none, all lcid);
      };
      part = subst (λ (x : List Item). ArePart x (all_gone_up (g ∷ past)))
          (sym (append_assoc (all_returned past) (returned g.events) m.looping.kept)) whole;
      all = all;
    }

loops_behind : (past : List Group) → KeepsOrder past → LoopsBehind past
loops_behind [] order = first_loop
loops_behind (g ∷ past) (right, order) =
    let b = loops_behind past order in
    let l = link_behind past in
    let m = behind_line g.line (state_behind past) in
    let nothing = (all_behind past order).nothing in
    let p : LoopsBack (mode_in_force (g ∷ past)) l m =
    subst (λ (x : Mode). LoopsBack (mode_by g.line x) l m) b.mode_is
    (line_back g.line (state_behind past).rules.keys l nothing b.rests) in
    let next = next_loops past g m nothing b p right.events_are in
    record {
      mode_is = p.mode_is;
      rests = shown_rests m p.rests;
      part = next.part;
      all = next.all;
      in_order = (next.returned', b.in_order);
    }

pub return_in_order : (past : List Group) → KeepsOrder past → ReturnInOrder past
return_in_order past order = (loops_behind past order).in_order

-- of each channel, what went up is just what came back, what was dropped, and what is kept
pub all_come_back : (past : List Group) → KeepsOrder past → (lcid : ℕ)
    → item_count lcid (all_gone_up past)
    ≡ (item_count lcid (all_returned past) + drop_count lcid (history past))
    + item_count lcid (link_behind past).looping.kept
all_come_back past order = (loops_behind past order).all

-- its mode is that of the last `loop` line
pub mode_behind : (past : List Group) → KeepsOrder past → (link_behind past).looping.mode ≡ mode_in_force past
mode_behind past order = (loops_behind past order).mode_is

-- and nothing waits in the loop, nor is kept where it keeps nothing
pub at_rest : (past : List Group) → KeepsOrder past → IsAtRest (link_behind past)
at_rest past order = (loops_behind past order).rests
