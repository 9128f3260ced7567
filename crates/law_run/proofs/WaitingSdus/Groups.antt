-- Behind the groups of every journal the SDUs of acknowledged data that leave their queue wait as they leave it.
use Rattle.std.proofs.Common.{◌≡◌, ◌≤◌, ℕ, ◌+◌, Bool, true, false, Option, Some, List, [], ◌∷◌}
use Rattle.std.proofs.Common.{◌++◌, map, length, append-nil, refl, ap, sym, subst, ◌∙◌, arith, inl}
use Rattle.std.specs.List.{flat_map}
use Rattle.std.proofs.lemmas.Grind.{flat_map-append}
use Rattle.std.proofs.lemmas.List.{length-append}
use Rattle.air_link.specs.Link.{Link, end_of}
use Rattle.air_record.specs.declared.line.Line.{Line}
use Rattle.air_record.specs.declared.line.Line.TheVariants as lines
use Rattle.air_record.specs.declared.record.Record.{Record}
use Rattle.air_record.specs.declared.record.Record.TheVariants as records
use Rattle.air_run.specs.Playing.{acted, played}
use Rattle.air_run.specs.Run.{behind_line}
use Rattle.air_text.specs.Groups.{Group, history}
use Rattle.air_text.specs.Ranges.{IsInRange}
use Rattle.bearer.specs.Bearer.{flow_of}
use Rattle.bearer_pdcp.specs.Ends.{Ends, begun as begun_ends, bearer_of, sends}
use Rattle.bearer_types.specs.declared.config.BearerConfig.{BearerConfig}
use Rattle.eps_sec.specs.declared.Keys.{Keys}
use Rattle.l2_node.specs.End.{End}
use Rattle.l2_types.specs.declared.channel.Kind.{Kind}
use Rattle.l2_types.specs.declared.channel.Kind.TheVariants.{Am}
use Rattle.l2_types.specs.declared.side.Side.{Side}
use Rattle.l2_types.specs.declared.side.Side.TheVariants.{Nb, Ue}
use Rattle.law_bearer.proofs.AmBearer.Lives.{first_life_begins}
use Rattle.law_bearer.proofs.AnyBearer.Between.{IsBetween}
use Rattle.law_bearer.proofs.AnyBearer.Streams.{am_begins, begun_tx}
use Rattle.law_deliver.specs.AmChannel.Delivery.{HasBegun}
use Rattle.law_deliver.specs.AmChannel.Lives.{lives}
use Rattle.law_deliver.specs.AmFlow.Air.{Air, outset}
use Rattle.law_deliver.proofs.AmChannel.Bearers.{IsSteady}
use Rattle.law_deliver.proofs.AmChannel.Delivery.{first_of, stands_so}
use Rattle.law_deliver.proofs.AmFlow.Ups.{between_at, come_between}
use Rattle.law_node.specs.Calls.{Tick}
use Rattle.law_node.specs.Telling.{told_of, told_over}
use Rattle.pdcp_pdu.specs.declared.PdcpKind.{PdcpKind}
use Rattle.pdcp_pdu.specs.declared.PdcpKind.TheVariants.{Am as AmKind}
use Rattle.pdcp_sec.specs.Protection.{Protection, protection_of}
use Rattle.pdcp_tx.specs.State.{State as Sending, start}
use Rattle.pdcp_tx_store.specs.Waiting.{Waits}
use Rattle.promises.specs.Air.{ttis}
use Rattle.promises.specs.Blocks.{kinds}
use Rattle.promises.specs.Flows.{handed_in, looped_at, submitted}
use Rattle.promises.specs.Order.{Channels}
use Rattle.promises.specs.Parts.{part_of_line}
use Rattle.promises.specs.Records.{events_of}
use Rattle.promises.specs.Taken.{leaving_in}
use Rattle.promises.specs.Telling.{LineTells, channels}
use Rattle.promises.specs.WaitingSdus.{Queue, after_records, EachMayLeave, with_line, queue, SdusWait}
use Rattle.law_run.specs.Order.{state_behind, IsRight, KeepsOrder}
use Rattle.law_run.specs.TwoEnds.On.{IsOn}
use Rattle.law_run.proofs.AnyAir.{line_plays}
use Rattle.law_run.proofs.AnyCalls.Going.{told_both}
use Rattle.law_run.proofs.AnyCalls.Readying.{Ready}
use Rattle.law_run.proofs.BearerWalk.{adds_one, comes, behind_all}
use Rattle.law_run.proofs.Past.{behind, link_behind}
use Rattle.law_run.proofs.Standing.{channels_behind, lines_tell}
use Rattle.law_run.proofs.TwoEnds.Coming.{same_on}
use Rattle.law_run.proofs.WaitingSdus.Calm.{IsCalm, passes, line_calm}
use Rattle.law_run.proofs.WaitingSdus.Counting.{Counted, each_may, counted_quiet, counted_end, left_in, gone}
use Rattle.law_run.proofs.WaitingSdus.Counting.{next_behind, gone_both, InTurn, after_is, behind_records, as_queue}
use Rattle.law_run.proofs.WaitingSdus.Counting.{queue_of}
use Rattle.law_run.proofs.WaitingSdus.Drains.{same_end, none_handed, drain_leaves}
use Rattle.law_run.proofs.WaitingSdus.Ends.{QueuedAt, goes_on as end_goes_on}
use Rattle.law_run.proofs.WaitingSdus.Ttis.{TtiParts, tti_parts}
use Rattle.law_run.proofs.WaitingSdus.Walking.{Fits, Walks, walks, with_handed, fits_within, fits_as, parts_counted}
use Rattle.law_run.proofs.Zero.{have_come}

-- ---- a TTI

-- no more leave as timers run than wait
tick_within : (kind : PdcpKind) (p : Protection) (first bits l : ℕ) (told : List Record) (q : Queue) (e : End)
    → Fits kind p first bits l Ue q e → events_of Ue told ≡ told_of e Tick
    → gone first (q.leaving ++ left_in Ue l told) ≤ q.submitted
tick_within kind p first bits l told q e h is =
    let n = next_behind first q.leaving in
    let x = end_goes_on kind p first bits l Ue n h.waits e (Tick ∷ [])
    (inl (tt, record { adds_none = refl; moves_none = refl }), tt) h.at in
    let same : left_in Ue l told ≡ flat_map (leaving_in l) (told_over (Tick ∷ []) e) =
    ap (flat_map (leaving_in l)) (is ∙ sym (append-nil (told_of e Tick))) in
    let many = ap (gone n) same in
    let both = gone_both first q.leaving (left_in Ue l told) in
    let count = h.count in
    let more = x.count in
    omega (arith, many, both, count, more)

tti_counted : (from : Side) (kind : PdcpKind) (p : Protection) (first bits l : ℕ) (told : List Record) (q : Queue)
    (k : Link) → Fits kind p first bits l from q (end_of from k) → TtiParts l k.ue told
    → gone first (q.leaving ++ left_in from l told) ≤ q.submitted + length (looped_at from l told)
    → Counted from l first told q
tti_counted Nb kind p first bits l told q k h x le = counted_end Nb l first told q refl (omega (arith, le))
tti_counted Ue kind p first bits l told q k h x le =
    parts_counted Ue l first told q x.parts
    (tick_within kind p first bits l x.parts.timers q k.ue h x.ticks_are) le

-- ---- a line

calm_each : (from : Side) (l first : ℕ) (told : List Record) (q : Queue) → IsCalm l from told
    → EachMayLeave from l first told q
calm_each from l first told q calm =
    each_may from l first told q
    (subst (InTurn (next_behind first q.leaving)) (sym calm) tt) (counted_quiet from l first told q calm)

module _ (kind : PdcpKind) (p : Protection) (first bits l : ℕ) (from : Side) (c : Side → Channels) (alike : c Nb ≡ c Ue)
  where
    each_line : (b : Bool) (t : ℕ) (kinds' : _) (line : Line) (keys : Option Keys) (k : Link) (a : Air) (q : Queue)
        → passes l line ≡ b → k.out ≡ [] → IsInRange line → Ready c k → IsOn k a
        → LineTells t kinds' c line (played line keys k).out
        → Fits kind p first bits l from q (end_of from k)
        → Walks kind p first bits l from (handed_in from l (part_of_line line) (played line keys k).out)
        (played line keys k).out q (end_of from (played line keys k))
        → EachMayLeave from l first (played line keys k).out
        (with_handed (handed_in from l (part_of_line line) (played line keys k).out) q)
    unfolding acted
    each_line false t kinds' line keys k a q is none fits ready on tells h w =
        calm_each from l first (played line keys k).out _
        (line_calm l from t kinds' c line is (played line keys k).out tells)
    each_line true t kinds' (lines.Tti up_grant up down_grant down) keys k a q is none fits ready on tells h w =
        let m = played (lines.Tti up_grant up down_grant down) keys k in
        let x = tti_parts l c up_grant up down_grant down k alike fits.up fits.down ready in
        let same : x.more ≡ m.out = sym (x.out_is ∙ ap (λ (xs : List Record). xs ++ x.more) none) in
        let parts = subst (TtiParts l k.ue) same x.in_order in
        let within = fits_within kind p first bits l from _ (end_of from m) w.fits in
        let begin = subst (λ (r : Queue). Fits kind p first bits l from r (end_of from k)) (sym (none_handed q)) h in
        each_may from l first m.out (with_handed [] q) w.turn
        (tti_counted from kind p first bits l m.out (with_handed [] q) k begin parts (omega (arith, within)))
    each_line true t kinds' (lines.Drain grant) keys k a q is none fits ready on tells h w =
        let told = (played (lines.Drain grant) keys k).out in
        subst (EachMayLeave from l first told) (sym (none_handed q))
        (drain_leaves kind p first bits l from c alike grant q k a fits none ready on h)
    each_line true t kinds' line keys k a q is none fits ready on tells h w = absurd cc

-- ---- a channel, behind groups

-- in the newest each SDU that leaves waits
abbrev Newest : ℕ → ℕ → Side → List Group → Type 0
Newest first l from [] = Unit {0}
Newest first l from (g ∷ past) = EachMayLeave from l first g.events (with_line from l g (queue from l past))

record Waiting (first bits l : ℕ) (from : Side) (past : List Group) : Type 0 where
  each : Newest first l from past
  kind : PdcpKind
  guard : Protection
  air : Air
  on : IsOn (link_behind past) air
  fits : Fits kind guard first bits l from (queue from l past) (end_of from (link_behind past))

all_ready : (past : List Group) → KeepsOrder past → Ready (λ side. channels past) (link_behind past)
all_ready past order =
    let come = have_come past order in
    let are = channels_behind past order in
    record {
      nb = record { come = come.nb; channels_are = are.nb.told_are };
      ue = record { come = come.ue; channels_are = are.ue.told_are };
    }

-- a line since
goes_on : (first bits l : ℕ) (from : Side) (past : List Group) (g : Group) → IsRight past g → KeepsOrder past
    → adds_one l g.line ≡ false → Waiting first bits l from past → Waiting first bits l from (g ∷ past)
goes_on first bits l from past g right order other h =
    let k = link_behind past in
    let keys = (state_behind past).rules.keys in
    let m = behind_line g.line (state_behind past) in
    let part = part_of_line g.line in
    let q = queue from l past in
    let nothing = (behind past order).nothing in
    let x = line_plays l h.air g.line keys k nothing right.in_range other h.on in
    let handed = handed_in from l part m.out in
    let w = walks h.kind h.guard first bits l from handed m.out q (end_of from k) (end_of from m) (x.comes from) h.fits
    in
    let tells = subst (LineTells (ttis past) (kinds past) (λ side. channels past) g.line) right.events_are
    (lines_tell (g ∷ past) (right, order)).0 in
    let each = each_line h.kind h.guard first bits l from (λ side. channels past) refl (passes l g.line) (ttis past)
    (kinds past) g.line keys k h.air q refl nothing right.in_range (all_ready past order) h.on tells h.fits w in
    let start' = λ (told : List Record). with_handed (handed_in from l part told) q in
    record {
      each = subst (λ (told : List Record). EachMayLeave from l first told (start' told)) (sym right.events_are) each;
      kind = h.kind;
      guard = h.guard;
      air = lives x.steps x.first;
      on = same_on m (link_behind (g ∷ past)) (lives x.steps x.first) refl refl refl x.on;
      fits = fits_as h.kind h.guard first bits l from (behind_records from l m.out (with_handed handed q))
          (queue from l (g ∷ past)) (end_of from m) (end_of from (link_behind (g ∷ past)))
          (sym (after_is from l m.out (with_handed handed q))
          ∙ ap (λ (told : List Record). after_records from l told (start' told)) (sym right.events_are))
          (same_end from m) w.fits;
    }

-- ---- the line in which its bearers come

-- a queue as the whole history tells it
queue_is : (from : Side) (l : ℕ) (past : List Group) → queue from l past
    ≡ queue_of (flat_map (leaving_in l) (events_of from (history past))) (length (submitted from l past))
queue_is from l [] = refl
queue_is from l (g ∷ past) =
    let q = queue from l past in
    let handed = handed_in from l (part_of_line g.line) g.events in
    let back = looped_at from l g.events in
    let rest = queue_is from l past in
    let many = ap (λ (r : Queue). r.submitted) rest in
    let one = length-append (submitted from l past) (handed ++ back) in
    let two = length-append handed back in
    after_is from l g.events (with_line from l g q)
    ∙ as_queue (q.leaving ++ left_in from l g.events)
    (flat_map (leaving_in l) (events_of from (history (g ∷ past))))
    ((q.submitted + length handed) + length back) (length (submitted from l (g ∷ past)))
    (ap (λ (r : Queue). r.leaving ++ left_in from l g.events) rest
    ∙ (sym (flat_map-append (leaving_in l) (events_of from (history past)) (events_of from g.events))
    ∙ ap (flat_map (leaving_in l))
    (sym (told_both from (history past) (records.Line g.number g.line ∷ g.events) (events_of from (history past))
    (events_of from g.events) refl refl))))
    (omega (arith, many, one, two))

module _ (c : BearerConfig) (keys : Keys) (from : Side) where
  abbrev guard_of : Protection
  guard_of = protection_of (AmKind c.pdcp_bits) keys (bearer_of c.channel.lcid) (sends from)

  first_sender : (first_of c keys from).pdcp.tx ≡ start (AmKind c.pdcp_bits) guard_of c.first
  first_sender =
      let b = first_of c keys from in
      let some : Some b.pdcp ≡ Some (begun_ends c.channel.lcid (AmKind c.pdcp_bits) c.first keys from) =
      am_begins c keys from in
      let same : b.pdcp ≡ begun_ends c.channel.lcid (AmKind c.pdcp_bits) c.first keys from = cc in
      ap (λ (x : Ends). x.tx) same ∙ begun_tx c.channel.lcid (AmKind c.pdcp_bits) c.first keys from

  start_next : (start (AmKind c.pdcp_bits) guard_of c.first).next ≡ c.first
  unfolding start
  start_next = refl

  start_waits : (start (AmKind c.pdcp_bits) guard_of c.first).waiting ≡ []
  unfolding start
  start_waits = refl

  steady_so : (e : End) → c.kind ≡ Am → HasBegun from c.channel.lcid c keys e
      → IsSteady c.pdcp_bits c.channel.lcid (first_of c keys from)
  steady_so e k h =
      let is = ap (λ (x : Kind). flow_of x c keys from) k in
      let first = first_life_begins c keys from (first_of c keys from) k is in
      record {
        data' = first.stays;
        idle = first.idle;
        between = subst (IsBetween c.channel.lcid) (h.bearer_is ∙ is)
            (between_at c.channel.lcid e.bearers h.there (come_between from e h.come));
      }

  begins_queued : (e : End) → c.kind ≡ Am → HasBegun from c.channel.lcid c keys e
      → QueuedAt (AmKind c.pdcp_bits) guard_of c.first c.pdcp_bits c.channel.lcid from c.first 0 e
  begins_queued e k h = record {
    stands = stands_so from c.channel.lcid c keys e h;
    bearer = first_of c keys from;
    bearer_is = h.bearer_is ∙ ap (λ (x : Kind). flow_of x c keys from) k;
    steady = steady_so e k h;
    reached = record { steps = []; is = first_sender };
    next_is = ap (λ (s : Sending). s.next) first_sender ∙ start_next;
    waits_are = ap (λ (ws : List Waits). length (map (λ w. w.sdu) ws))
        (ap (λ (s : Sending). s.waiting) first_sender ∙ start_waits);
  }

begins : (from : Side) (past : List Group) (g : Group) (c : BearerConfig) (options : _)
    → IsRight past (record g { line = lines.Bearer c options }) → KeepsOrder past → c.kind ≡ Am
    → Waiting c.first c.pdcp_bits c.channel.lcid from (record g { line = lines.Bearer c options } ∷ past)
begins from past g c options right order kind =
    let l = c.channel.lcid in
    let all : List Group = record g { line = lines.Bearer c options } ∷ past in
    let x = comes past g c options right order in
    let there = link_behind all in
    let none : queue from l all ≡ queue_of [] 0 =
    queue_is from l all
    ∙ as_queue (flat_map (leaving_in l) (events_of from (history all))) [] (length (submitted from l all)) 0
    (ap (flat_map (leaving_in l)) (x.early.none_told from))
    (ap (λ (xs : List (List ℕ)). length xs) (x.early.none_submitted from l)) in
    record {
      each = calm_each from l c.first g.events
          (with_line from l (record g { line = lines.Bearer c options }) (queue from l past))
          (line_calm l from (ttis past) (kinds past) (λ side. channels past) (lines.Bearer c options) refl g.events
          (lines_tell all (right, order)).0);
      kind = AmKind c.pdcp_bits;
      guard = guard_of c x.keys from;
      air = outset there.nb there.ue;
      on = x.early.rest;
      fits = subst
          (λ (q : Queue). Fits (AmKind c.pdcp_bits) (guard_of c x.keys from) c.first c.pdcp_bits l from q
          (end_of from there)) (sym none)
          (record {
            waits = 0;
            at = begins_queued c x.keys from (end_of from there) kind (x.begun from);
            count = refl;
          });
    }

-- ---- behind all groups

pub sdus_wait : (past : List Group) → KeepsOrder past → SdusWait past
sdus_wait [] order = tt
sdus_wait (g ∷ past) (right, order) = (
  λ from lcid config is kind.
      (behind_all (λ l c groups. Waiting c.first c.pdcp_bits l from groups) (λ c. c.kind ≡ Am) (begins from)
      (λ l c groups h at keeps other before w. goes_on c.first c.pdcp_bits l from groups h at keeps other w) lcid
      (g ∷ past) config (right, order) kind is).each,
  sdus_wait past order,
)
