-- What an end logs of a channel in a call is what its bearer logs.
use Rattle.std.proofs.Common.{◌≡◌, ℕ, ◌≤◌, ◌==◌, Bool, true, false, ◌&&◌, if◌then◌else◌, Option, Some, None, List, []}
use Rattle.std.proofs.Common.{◌∷◌, ◌++◌, ◌%◌, slice_get, map, append-nil, append_assoc, refl, ap, sym, subst, ◌∙◌}
use Rattle.std.specs.List.{AllByRecursion, flat_map}
use Rattle.bearer.specs.declared.flow.Flow.{Flow}
use Rattle.bearer.specs.Taking.{pdus}
use Rattle.bearer_types.specs.declared.event.Event.{Event}
use Rattle.bearer_types.specs.Sides.{heard_by, is_same, sent_by}
use Rattle.harq.specs.declared.sender.Order.{Order}
use Rattle.harq.specs.declared.sender.Visit.{Visit}
use Rattle.harq.specs.declared.sender.Visit.TheVariants.{New, Resend, Silent}
use Rattle.l2_bits.specs.declared.fault.SubmitRefusal.{SubmitRefusal}
use Rattle.l2_node.specs.Building.{visit, visited}
use Rattle.l2_node.specs.End.{End, fresh}
use Rattle.l2_node.specs.Finding.{has}
use Rattle.l2_node.specs.Submitting.{refusal}
use Rattle.l2_node.specs.Writing.{new_block}
use Rattle.l2_types.specs.declared.side.Side.{Side}
use Rattle.l2_types.specs.declared.side.Side.TheVariants.{Nb, Ue}
use Rattle.prioritise.specs.Channels.{has as has_channel}
use Rattle.law_bearer.specs.AnyBearer.Calls.{Call as BearerCall, Submit as Submits, Take as Takes, Arrive as Arrives}
use Rattle.law_bearer.specs.AnyBearer.Calls.{Expire as Expires, Tick as Ticks, SetDiscard as SetsDiscard}
use Rattle.law_bearer.specs.AnyBearer.Calls.{after as called}
use Rattle.law_deliver.specs.AmFlow.Air.{Block, Station, Air, Act, Calls, Comes as Lands, Goes, AtNb, AtUe, Passes}
use Rattle.law_deliver.specs.AmFlow.Air.{built_at}
use Rattle.law_deliver.specs.AmFlow.Channels.{only, share_of, held_of, takes_of, submits_of, calls_of, written_by}
use Rattle.law_deliver.specs.AmFlow.Channels.{GoesOnInLife}
use Rattle.law_deliver.specs.AmFlow.Ups.{AreNew, tells_in, tells_over}
use Rattle.law_deliver.proofs.AmChannel.Ends.{step_end}
use Rattle.law_deliver.proofs.AmFlow.Channels.{blocks_carry_pdus}
use Rattle.law_deliver.proofs.AmFlow.Ups.{ends_tell_what_goes_up}
use Rattle.law_node.specs.Calls.{Turn, Call, SetVisits, SetReports, Add, Submit, SetDiscard, Tick, TickBuckets, Visits}
use Rattle.law_node.specs.Calls.{Grants, Granted, Assigned, Pass, Receive, Expire, Move, IsGiven, AreGiven, reached}
use Rattle.law_node.specs.Calls.{after, run_end}
use Rattle.law_node.specs.Holding.{flow}
use Rattle.law_node.specs.Telling.{told_of}
use Rattle.law_node.proofs.Living.{reached_side}
use Rattle.promises.specs.Events.{is_on, told_on}
use Rattle.promises.specs.Pdus.{carried}
use Rattle.law_deliver.specs.AmChannel.Arrival.{built_in}
use Rattle.law_deliver.specs.AmChannel.Lives.{AirStep, InLife, Moves, lives_on, brought, calls_by, calls_at, all_calls}
use Rattle.law_deliver.specs.AmChannel.Lives.{end_at}
use Rattle.law_run.specs.TwoEnds.ChannelLog.{coming, on_channel_at, on_channel, come_in, told_in, written_in, parted}
use Rattle.law_run.specs.TwoEnds.ChannelLog.{HasRoom, EndsLogOnChannels, SidesLogTheirCalls}
use Rattle.law_run.specs.TwoEnds.Logs.{LogEntry, all_tell, log_in, log_come, log_by, log_at, log_of, log_over}
use Rattle.law_run.specs.TwoEnds.Logs.{Builds, Hears}
use Rattle.law_run.specs.TwoEnds.SenderLog.{BearerEntry, Tells, Writes, Comes, telling, writing, bearer_log}
use Rattle.law_run.specs.TwoEnds.SenderLog.{bearer_logs}
use Rattle.law_run.proofs.KeptByCalls.{said_all, said_both, said_log}

-- ---- the parts of a log

come_both : (xs ys : List BearerEntry) → come_in (xs ++ ys) ≡ come_in xs ++ come_in ys
come_both [] ys = refl
come_both (Tells e ∷ xs) ys = come_both xs ys
come_both (Writes octets ∷ xs) ys = come_both xs ys
come_both (Comes octets ∷ xs) ys = ap (λ (ps : List (List ℕ)). octets ∷ ps) (come_both xs ys)

written_both : (xs ys : List BearerEntry) → written_in (xs ++ ys) ≡ written_in xs ++ written_in ys
written_both [] ys = refl
written_both (Tells e ∷ xs) ys = written_both xs ys
written_both (Writes octets ∷ xs) ys = ap (λ (ps : List (List ℕ)). octets ∷ ps) (written_both xs ys)
written_both (Comes octets ∷ xs) ys = written_both xs ys

come_telling : (told : List Event) → come_in (telling told) ≡ []
come_telling [] = refl
come_telling (e ∷ told) = come_telling told

come_writing : (written : List (List ℕ)) → come_in (writing written) ≡ []
come_writing [] = refl
come_writing (octets ∷ written) = come_writing written

written_telling : (told : List Event) → written_in (telling told) ≡ []
written_telling [] = refl
written_telling (e ∷ told) = written_telling told

written_writing : (written : List (List ℕ)) → written_in (writing written) ≡ written
written_writing [] = refl
written_writing (octets ∷ written) = ap (λ (ps : List (List ℕ)). octets ∷ ps) (written_writing written)

come_all : (told : List Event) (written : List (List ℕ)) → come_in (telling told ++ writing written) ≡ []
come_all told written =
    come_both (telling told) (writing written)
    ∙ (ap (λ (ps : List (List ℕ)). ps ++ come_in (writing written)) (come_telling told) ∙ come_writing written)

written_all : (told : List Event) (written : List (List ℕ)) → written_in (telling told ++ writing written) ≡ written
written_all told written =
    written_both (telling told) (writing written)
    ∙ (ap (λ (ps : List (List ℕ)). ps ++ written_in (writing written)) (written_telling told) ∙ written_writing written)

-- where nothing comes, what is told stands before what is written
pub parted_is : (told : List Event) (written : List (List ℕ))
    → parted (telling told ++ writing written) ≡ telling told ++ writing written
parted_is told written =
    let log = telling told ++ writing written in
    ap (λ (ps : List (List ℕ)). coming ps ++ (telling (told_in log) ++ writing (written_in log)))
    (come_all told written)
    ∙ (ap (λ (es : List Event). telling es ++ writing (written_in log)) (said_all told written)
    ∙ ap (λ (ps : List (List ℕ)). telling told ++ writing ps) (written_all told written))

-- ---- of calls of a bearer

abbrev pub come_by : List BearerCall → List (List ℕ)
come_by [] = []
come_by (Arrives pdu ∷ cs) = pdu ∷ come_by cs
come_by (Submits sdu ∷ cs) = come_by cs
come_by (Takes share held ∷ cs) = come_by cs
come_by (Expires clock ∷ cs) = come_by cs
come_by (Ticks ∷ cs) = come_by cs
come_by (SetsDiscard ttis ∷ cs) = come_by cs

abbrev written_now : Flow → BearerCall → List (List ℕ)
written_now f (Arrives pdu) = []
written_now f (Submits sdu) = []
written_now f (Takes share held) = pdus f share held
written_now f (Expires clock) = []
written_now f Ticks = []
written_now f (SetsDiscard ttis) = []

abbrev written_over : Flow → List BearerCall → List (List ℕ)
written_over f [] = []
written_over f (c ∷ cs) = written_now f c ++ written_over (called f c) cs

pub told_logs : (l : ℕ) (cs : List BearerCall) (f : Flow) → told_in (bearer_logs l f cs) ≡ tells_over l f cs
told_logs l [] f = refl
told_logs l (c ∷ cs) f =
    said_both (bearer_log l f c) (bearer_logs l (called f c) cs)
    ∙ (ap (λ (es : List Event). es ++ told_in (bearer_logs l (called f c) cs)) (said_log l f c)
    ∙ ap (λ (es : List Event). tells_in l f c ++ es) (told_logs l cs (called f c)))

come_log : (l : ℕ) (f : Flow) (c : BearerCall) (cs : List BearerCall)
    → come_in (bearer_log l f c) ++ come_by cs ≡ come_by (c ∷ cs)
come_log l f (Submits sdu) cs = refl
come_log l f (Takes share held) cs =
    ap (λ (ps : List (List ℕ)). ps ++ come_by cs) (come_all (tells_in l f (Takes share held)) (pdus f share held))
come_log l f (Arrives pdu) cs =
    ap (λ (ps : List (List ℕ)). (pdu ∷ ps) ++ come_by cs) (come_telling (tells_in l f (Arrives pdu)))
come_log l f (Expires clock) cs =
    ap (λ (ps : List (List ℕ)). ps ++ come_by cs) (come_telling (tells_in l f (Expires clock)))
come_log l f Ticks cs = ap (λ (ps : List (List ℕ)). ps ++ come_by cs) (come_telling (tells_in l f Ticks))
come_log l f (SetsDiscard ttis) cs = refl

pub come_logs : (l : ℕ) (cs : List BearerCall) (f : Flow) → come_in (bearer_logs l f cs) ≡ come_by cs
come_logs l [] f = refl
come_logs l (c ∷ cs) f =
    come_both (bearer_log l f c) (bearer_logs l (called f c) cs)
    ∙ (ap (λ (ps : List (List ℕ)). come_in (bearer_log l f c) ++ ps) (come_logs l cs (called f c))
    ∙ come_log l f c cs)

written_log : (l : ℕ) (f : Flow) (c : BearerCall) → written_in (bearer_log l f c) ≡ written_now f c
written_log l f (Submits sdu) = refl
written_log l f (Takes share held) = written_all (tells_in l f (Takes share held)) (pdus f share held)
written_log l f (Arrives pdu) = written_telling (tells_in l f (Arrives pdu))
written_log l f (Expires clock) = written_telling (tells_in l f (Expires clock))
written_log l f Ticks = written_telling (tells_in l f Ticks)
written_log l f (SetsDiscard ttis) = refl

written_logs : (l : ℕ) (cs : List BearerCall) (f : Flow) → written_in (bearer_logs l f cs) ≡ written_over f cs
written_logs l [] f = refl
written_logs l (c ∷ cs) f =
    written_both (bearer_log l f c) (bearer_logs l (called f c) cs)
    ∙ (ap (λ (ps : List (List ℕ)). ps ++ written_in (bearer_logs l (called f c) cs)) (written_log l f c)
    ∙ ap (λ (ps : List (List ℕ)). written_now f c ++ ps) (written_logs l cs (called f c)))

parts_are : (l : ℕ) (f : Flow) (cs : List BearerCall)
    → parted (bearer_logs l f cs) ≡ coming (come_by cs) ++ (telling (tells_over l f cs) ++ writing (written_over f cs))
parts_are l f cs =
    ap (λ (ps : List (List ℕ)). coming ps ++ (telling (told_in (bearer_logs l f cs))
    ++ writing (written_in (bearer_logs l f cs)))) (come_logs l cs f)
    ∙ (ap (λ (es : List Event). coming (come_by cs) ++ (telling es ++ writing (written_in (bearer_logs l f cs))))
    (told_logs l cs f)
    ∙ ap (λ (ps : List (List ℕ)). coming (come_by cs) ++ (telling (tells_over l f cs) ++ writing ps))
    (written_logs l cs f))

-- ---- what an end logs

same_side : (side : Side) → is_same side side ≡ true
same_side Nb = refl
same_side Ue = refl

on_both : (l : ℕ) (side : Side) (xs ys : List LogEntry)
    → on_channel l side (xs ++ ys) ≡ on_channel l side xs ++ on_channel l side ys
on_both l side [] ys = refl
on_both l side (x ∷ xs) ys =
    ap (λ (es : List BearerEntry). on_channel_at l side x ++ es) (on_both l side xs ys)
    ∙ sym (append_assoc (on_channel_at l side x) (on_channel l side xs) (on_channel l side ys))

on_tells : (l : ℕ) (side : Side) (told : List Event)
    → on_channel l side (all_tell side told) ≡ telling (told_on l told)
on_tells l side [] = refl
on_tells l side (e ∷ told) =
    ap (λ (b : Bool). (if b && is_on l e then Tells e ∷ [] else []) ++ on_channel l side (all_tell side told))
    (same_side side)
    ∙ (ap (λ (es : List BearerEntry). (if is_on l e then Tells e ∷ [] else []) ++ es) (on_tells l side told)
    ∙ by (is_on l e))
  where
    by : (b : Bool) → (if b then Tells e ∷ [] else []) ++ telling (told_on l told)
        ≡ telling (if b then e ∷ told_on l told else told_on l told)
    by true = refl
    by false = refl

on_builds : (l process : ℕ) (side : Side) (blocks : List (List ℕ))
    → on_channel l side (map (λ (octets : List ℕ). Builds side process octets) blocks)
    ≡ writing (flat_map (carried l (sent_by side)) blocks)
on_builds l process side [] = refl
on_builds l process side (b ∷ bs) =
    ap (λ (x : Bool). (if x then writing (carried l (sent_by side) b) else [])
    ++ on_channel l side (map (λ (octets : List ℕ). Builds side process octets) bs)) (same_side side)
    ∙ (ap (λ (es : List BearerEntry). writing (carried l (sent_by side) b) ++ es) (on_builds l process side bs)
    ∙ sym (more (carried l (sent_by side) b) (flat_map (carried l (sent_by side)) bs)))
  where
    more : (ps qs : List (List ℕ)) → writing (ps ++ qs) ≡ writing ps ++ writing qs
    more [] qs = refl
    more (p ∷ ps) qs = ap (λ (es : List BearerEntry). Writes p ∷ es) (more ps qs)

-- ---- a call in which nothing comes, nor is written

abbrev IsPlain : BearerCall → Type 0
IsPlain (Arrives pdu) = ⊥
IsPlain (Submits sdu) = Unit {0}
IsPlain (Takes share held) = ⊥
IsPlain (Expires clock) = Unit {0}
IsPlain Ticks = Unit {0}
IsPlain (SetsDiscard ttis) = Unit {0}

plain_come : (cs : List BearerCall) → AllByRecursion IsPlain cs → come_by cs ≡ []
plain_come [] h = refl
plain_come (Arrives pdu ∷ cs) h = absurd h.0
plain_come (Submits sdu ∷ cs) h = plain_come cs h.1
plain_come (Takes share held ∷ cs) h = absurd h.0
plain_come (Expires clock ∷ cs) h = plain_come cs h.1
plain_come (Ticks ∷ cs) h = plain_come cs h.1
plain_come (SetsDiscard ttis ∷ cs) h = plain_come cs h.1

plain_written : (cs : List BearerCall) (f : Flow) → AllByRecursion IsPlain cs → written_over f cs ≡ []
plain_written [] f h = refl
plain_written (Arrives pdu ∷ cs) f h = absurd h.0
plain_written (Submits sdu ∷ cs) f h = plain_written cs (called f (Submits sdu)) h.1
plain_written (Takes share held ∷ cs) f h = absurd h.0
plain_written (Expires clock ∷ cs) f h = plain_written cs (called f (Expires clock)) h.1
plain_written (Ticks ∷ cs) f h = plain_written cs (called f Ticks) h.1
plain_written (SetsDiscard ttis ∷ cs) f h = plain_written cs (called f (SetsDiscard ttis)) h.1

plain_only : (here : Bool) (c : BearerCall) → IsPlain c → AllByRecursion IsPlain (only here c)
plain_only true c h = (h, tt)
plain_only false c h = tt

plain_submits : (r : Option SubmitRefusal) (here : Bool) (octets : List ℕ)
    → AllByRecursion IsPlain (submits_of r here octets)
plain_submits None here octets = plain_only here (Submits octets) tt
plain_submits (Some why) here octets = tt

-- what is told alone
alone : (l : ℕ) (side : Side) (f : Flow) (cs : List BearerCall) (told : List Event)
    → told_on l told ≡ tells_over l f cs → AllByRecursion IsPlain cs
    → on_channel l side (all_tell side told) ≡ parted (bearer_logs l f cs)
alone l side f cs told are plain =
    on_tells l side told
    ∙ (ap telling are
    ∙ (sym (append-nil (telling (tells_over l f cs)))
    ∙ sym (parts_are l f cs
    ∙ (ap (λ (ps : List (List ℕ)). coming ps ++ (telling (tells_over l f cs) ++ writing (written_over f cs)))
    (plain_come cs plain)
    ∙ ap (λ (ps : List (List ℕ)). telling (tells_over l f cs) ++ writing ps) (plain_written cs f plain)))))

-- ---- a block comes

pub arrivals_come : (ps : List (List ℕ)) → come_by (map (λ p. Arrives p) ps) ≡ ps
arrivals_come [] = refl
arrivals_come (p ∷ ps) = ap (λ (qs : List (List ℕ)). p ∷ qs) (arrivals_come ps)

arrivals_write : (ps : List (List ℕ)) (f : Flow) → written_over f (map (λ p. Arrives p) ps) ≡ []
arrivals_write [] f = refl
arrivals_write (p ∷ ps) f = arrivals_write ps (called f (Arrives p))

hears : (l process : ℕ) (side : Side) (f : Flow) (block : List ℕ) (told : List Event)
    → told_on l told ≡ tells_over l f (map (λ p. Arrives p) (carried l (heard_by side) block))
    → on_channel l side (Hears side process block ∷ all_tell side told)
    ≡ parted (bearer_logs l f (map (λ p. Arrives p) (carried l (heard_by side) block)))
hears l process side f block told are =
    let ps = carried l (heard_by side) block in
    let cs = map (λ p. Arrives p) ps in
    ap (λ (b : Bool). (if b then coming ps else []) ++ on_channel l side (all_tell side told)) (same_side side)
    ∙ (ap (λ (es : List BearerEntry). coming ps ++ es)
    (on_tells l side told ∙ (ap telling are ∙ sym (append-nil (telling (tells_over l f cs)))))
    ∙ sym (parts_are l f cs
    ∙ (ap (λ (qs : List (List ℕ)). coming qs ++ (telling (tells_over l f cs) ++ writing (written_over f cs)))
    (arrivals_come ps)
    ∙ ap (λ (qs : List (List ℕ)). coming ps ++ (telling (tells_over l f cs) ++ writing qs)) (arrivals_write ps f))))

-- ---- a new block

module _ (l : ℕ) (side : Side) (f : Flow) (t : Turn) (u : End) (f_is : flow l u ≡ f)
    (block : 1 ≤ t.grant → carried l (sent_by side) (new_block u t.grant) ≡ written_by u t.grant l) where
  takes_come : (v : Visit) → come_by (takes_of v t u l) ≡ []
  takes_come New = by (has_channel l u.buckets.channels)
    where
      by : (here : Bool) → come_by (only here (Takes (share_of u t.grant l) (held_of u l))) ≡ []
      by true = refl
      by false = refl
  takes_come (Resend rv) = refl
  takes_come Silent = refl

  takes_write : (v : Visit) → (v ≡ New → 1 ≤ t.grant)
      → flat_map (carried l (sent_by side)) (map (λ (b : Block). b.octets) (built_at v t u))
      ≡ written_over f (takes_of v t u l)
  takes_write New room =
      append-nil (carried l (sent_by side) (new_block u t.grant))
      ∙ (block (room refl)
      ∙ (ap (λ (g : Flow). if has_channel l u.buckets.channels
      then pdus g (share_of u t.grant l) (held_of u l) else []) f_is
      ∙ by (has_channel l u.buckets.channels)))
    where
      by : (here : Bool) → (if here then pdus f (share_of u t.grant l) (held_of u l) else [])
          ≡ written_over f (only here (Takes (share_of u t.grant l) (held_of u l)))
      by true = sym (append-nil (pdus f (share_of u t.grant l) (held_of u l)))
      by false = refl
  takes_write (Resend rv) room = refl
  takes_write Silent room = refl

  visits : (v : Visit) (told : List Event) → (v ≡ New → 1 ≤ t.grant)
      → told_on l told ≡ tells_over l f (takes_of v t u l)
      → on_channel l side (all_tell side told
      ++ map (λ (octets : List ℕ). Builds side (t.tti % 8) octets) (map (λ (b : Block). b.octets) (built_at v t u)))
      ≡ parted (bearer_logs l f (takes_of v t u l))
  visits v told room are =
      let blocks = map (λ (b : Block). b.octets) (built_at v t u) in
      let cs = takes_of v t u l in
      let built = map (λ (octets : List ℕ). Builds side (t.tti % 8) octets) blocks in
      on_both l side (all_tell side told) built
      ∙ (ap (λ (es : List BearerEntry). es ++ on_channel l side built)
      (on_tells l side told ∙ ap telling are)
      ∙ (ap (λ (es : List BearerEntry). telling (tells_over l f cs) ++ es)
      (on_builds l (t.tti % 8) side blocks ∙ ap writing (takes_write v room))
      ∙ sym (parts_are l f cs
      ∙ ap (λ (ps : List (List ℕ)). coming ps ++ (telling (tells_over l f cs) ++ writing (written_over f cs)))
      (takes_come v))))

visited_flow : (l tti : ℕ) (order : Order) (e : End) → flow l (visited tti order e) ≡ flow l e
unfolding visited
visited_flow l tti order e = refl

-- ---- any call

module _ (side : Side) (maximum : ℕ) (reports : Bool) (past : List Call) (l process : ℕ) (given : AreGiven past)
    (new : AreNew l past (fresh side maximum reports))
    (there : has l (reached side maximum reports past).bearers ≡ true) where
  abbrev r : End
  r = reached side maximum reports past

  abbrev f : Flow
  f = flow l r

  tells : (c : Call) → IsGiven c → GoesOnInLife l c → told_on l (told_of r c) ≡ tells_over l f (calls_of l r c)
  tells c g life = (ends_tell_what_goes_up side maximum reports past c l given new g life there).told_is

  plainly : (c : Call) → IsGiven c → GoesOnInLife l c → AllByRecursion IsPlain (calls_of l r c)
      → on_channel l side (all_tell side (told_of r c)) ≡ parted (bearer_logs l f (calls_of l r c))
  plainly c g life plain = alone l side f (calls_of l r c) (told_of r c) (tells c g life) plain

  logs : (c : Call) → IsGiven c → GoesOnInLife l c → HasRoom r c
      → on_channel l side (log_in side process r c) ≡ parted (bearer_logs l f (calls_of l r c))
  logs (SetVisits m) g life room = plainly (SetVisits m) g life tt
  logs (SetReports b) g life room = plainly (SetReports b) g life tt
  logs (Add config keys) g life room = plainly (Add config keys) g life tt
  logs (Submit lcid octets) g life room =
      plainly (Submit lcid octets) g life (plain_submits (refusal lcid octets r) (lcid == l) octets)
  logs (SetDiscard lcid ttis) g life room =
      plainly (SetDiscard lcid ttis) g life (plain_only (lcid == l) (SetsDiscard ttis) tt)
  logs Tick g life room = plainly Tick g life (tt, tt)
  logs TickBuckets g life room = plainly TickBuckets g life tt
  logs (Visits t) g life room =
      visits l side f t (visited t.tti t.order r) (visited_flow l t.tti t.order r)
      (λ some. blocks_carry_pdus side maximum reports past given t.tti t.order t.grant l some g.0 there)
      (visit t.tti t.order r) (told_of r (Visits t)) room (tells (Visits t) g life)
  logs (Grants tti) g life room = plainly (Grants tti) g life tt
  logs (Granted tti good) g life room = plainly (Granted tti good) g life tt
  logs (Assigned tti ndi good) g life room = plainly (Assigned tti ndi good) g life tt
  logs (Pass tti) g life room = plainly (Pass tti) g life tt
  logs (Receive block) g life room =
      let same : r.side ≡ side = reached_side side maximum reports past in
      subst (λ (s : Side). on_channel l side (log_in side process r (Receive block))
      ≡ parted (bearer_logs l f (map (λ p. Arrives p) (carried l (heard_by s) block)))) (sym same)
      (hears l process side f block (told_of r (Receive block))
      (subst (λ (s : Side). told_on l (told_of r (Receive block))
      ≡ tells_over l f (map (λ p. Arrives p) (carried l (heard_by s) block))) same (tells (Receive block) g life)))
  logs (Expire lcid clock) g life room =
      plainly (Expire lcid clock) g life (plain_only (lcid == l) (Expires clock) tt)
  logs (Move keys) g life room = let other : keys ∷ [] ≡ [] = life.moves_none in absurd cc

pub ends_log_on_channels : EndsLogOnChannels
ends_log_on_channels side maximum reports past c l process given new g life there room =
    logs side maximum reports past l process given new there c g life room

-- ---- steps of both ends

-- the other side logs nothing of it
module _ (l : ℕ) (side s : Side) (apart : is_same s side ≡ false) where
  no_tells : (told : List Event) → on_channel l side (all_tell s told) ≡ []
  no_tells [] = refl
  no_tells (e ∷ told) =
      ap (λ (b : Bool). (if b && is_on l e then Tells e ∷ [] else []) ++ on_channel l side (all_tell s told)) apart
      ∙ no_tells told

  no_builds : (process : ℕ) (blocks : List (List ℕ))
      → on_channel l side (map (λ (octets : List ℕ). Builds s process octets) blocks) ≡ []
  no_builds process [] = refl
  no_builds process (b ∷ bs) =
      ap (λ (x : Bool). (if x then writing (carried l (sent_by s) b) else [])
      ++ on_channel l side (map (λ (octets : List ℕ). Builds s process octets) bs)) apart
      ∙ no_builds process bs

  no_logs : (process : ℕ) (c : Call) (e : End) → on_channel l side (log_in s process e c) ≡ []
  no_logs process (Visits t) e =
      let built = map (λ (octets : List ℕ). Builds s (t.tti % 8) octets) (built_in e (Visits t)) in
      on_both l side (all_tell s (told_of e (Visits t))) built
      ∙ (ap (λ (es : List BearerEntry). es ++ on_channel l side built) (no_tells (told_of e (Visits t)))
      ∙ no_builds (t.tti % 8) (built_in e (Visits t)))
  no_logs process (Receive block) e =
      ap (λ (b : Bool). (if b then coming (carried l (heard_by s) block) else [])
      ++ on_channel l side (all_tell s (told_of e (Receive block)))) apart
      ∙ no_tells (told_of e (Receive block))
  no_logs process c e = no_tells (told_of e c)

  none_by : (other : Station) (e : End) (y : Act) → on_channel l side (log_by s other e y) ≡ []
  none_by other e (Calls c) = no_logs 0 c e
  none_by other e (Lands k) = by (slice_get other.blocks k)
    where
      by : (o : Option Block) → on_channel l side (log_come s e o) ≡ []
      by None = refl
      by (Some b) = no_logs b.process (Receive b.octets) e
  none_by other e (Goes k) = refl

-- on a channel no process matters
any_process : (l p q : ℕ) (side s : Side) (e : End) (c : Call)
    → on_channel l side (log_in s p e c) ≡ on_channel l side (log_in s q e c)
any_process l p q side s e (Visits t) = refl
any_process l p q side s e (Receive block) = refl
any_process l p q side s e c = refl

any_one : (l p q : ℕ) (side s : Side) (e : End) (c : Call)
    → on_channel l side (log_in s p e c) ≡ on_channel l side (log_over s q (c ∷ []) e)
any_one l p q side s e c =
    any_process l p q side s e c ∙ ap (on_channel l side) (sym (append-nil (log_in s q e c)))

logs_by : (l process : ℕ) (side : Side) (other : Station) (e : End) (y : Act)
    → on_channel l side (log_by side other e y) ≡ on_channel l side (log_over side process (calls_by other y) e)
logs_by l process side other e (Calls c) = any_one l 0 process side side e c
logs_by l process side other e (Lands k) = by (slice_get other.blocks k)
  where
    by : (o : Option Block) → on_channel l side (log_come side e o)
        ≡ on_channel l side (log_over side process (brought o) e)
    by None = refl
    by (Some b) = any_one l b.process process side side e (Receive b.octets)
logs_by l process side other e (Goes k) = refl

step_logs : (l process : ℕ) (side : Side) (x : AirStep) (a : Air)
    → on_channel l side (log_at a x) ≡ on_channel l side (log_over side process (calls_at side a x) (end_at side a))
step_logs l process Nb (InLife (AtNb y)) a = logs_by l process Nb a.ue a.nb.end y
step_logs l process Nb (InLife (AtUe y)) a = none_by l Nb Ue refl a.nb a.ue.end y
step_logs l process Ue (InLife (AtNb y)) a = none_by l Ue Nb refl a.ue a.nb.end y
step_logs l process Ue (InLife (AtUe y)) a = logs_by l process Ue a.nb a.ue.end y
step_logs l process Nb (InLife Passes) a = refl
step_logs l process Ue (InLife Passes) a = refl
step_logs l process Nb (Moves keys) a =
    let nb = all_tell Nb (told_of a.nb.end (Move keys)) in
    let told = told_of a.ue.end (Move keys) in
    on_both l Nb nb (all_tell Ue told)
    ∙ (ap (λ (es : List BearerEntry). on_channel l Nb nb ++ es) (no_tells l Nb Ue refl told)
    ∙ sym (on_both l Nb nb []))
step_logs l process Ue (Moves keys) a =
    let ue = all_tell Ue (told_of a.ue.end (Move keys)) in
    let told = told_of a.nb.end (Move keys) in
    on_both l Ue (all_tell Nb told) ue
    ∙ (ap (λ (es : List BearerEntry). es ++ on_channel l Ue ue) (no_tells l Ue Nb refl told)
    ∙ ap (on_channel l Ue) (sym (append-nil ue)))

over_more : (process : ℕ) (side : Side) (cs ds : List Call) (e : End)
    → log_over side process (cs ++ ds) e ≡ log_over side process cs e ++ log_over side process ds (run_end cs e)
over_more process side [] ds e = refl
over_more process side (c ∷ cs) ds e =
    let f = after e c in
    let one = log_in side process e c in
    ap (λ (es : List LogEntry). one ++ es) (over_more process side cs ds f)
    ∙ sym (append_assoc one (log_over side process cs f) (log_over side process ds (run_end cs f)))

pub sides_log_their_calls : SidesLogTheirCalls
sides_log_their_calls l process side [] a = refl
sides_log_their_calls l process side (x ∷ xs) a =
    let cs = calls_at side a x in
    let ds = all_calls side xs (lives_on a x) in
    let e = end_at side a in
    let one = log_over side process cs e in
    on_both l side (log_at a x) (log_of xs (lives_on a x))
    ∙ (ap (λ (es : List BearerEntry). es ++ on_channel l side (log_of xs (lives_on a x)))
    (step_logs l process side x a)
    ∙ (ap (λ (es : List BearerEntry). on_channel l side one ++ es)
    (sides_log_their_calls l process side xs (lives_on a x)
    ∙ ap (λ (y : End). on_channel l side (log_over side process ds y)) (step_end side a x))
    ∙ sym (ap (on_channel l side) (over_more process side cs ds e)
    ∙ on_both l side one (log_over side process ds (run_end cs e)))))
